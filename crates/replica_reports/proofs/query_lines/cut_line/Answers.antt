-- The texts before and after the first line feed.
use Rattle.std.proofs.Common.{◌≡◌, ◌+◌, ◌-◌, List, ℕ, take, drop, length, arith, length-drop, refl}
use Rattle.std.proofs.lemmas.List.{take_all}
use Rattle.replica_reports.proofs.query_lines.cut_line.Goals as goal

pub returns-in-None-clause-parts : goal.returns-in-None-clause-parts
returns-in-None-clause-parts c = c.in-None.ensures

pub returns-in-Some-clause-parts : goal.returns-in-Some-clause-parts
returns-in-Some-clause-parts c =
    let bytes : List ℕ = c.args.bytes.now in
    let end : ℕ = c.in-Some.end in
    let whole : take (length bytes - (end + 1)) (drop (end + 1) bytes) ≡ drop (end + 1) bytes = take_all (length bytes - (end + 1)) (drop (end + 1) bytes) (omega (arith, length-drop (end + 1) bytes)) in
    record { at = end; found = c.in-Some.ensures; before = refl; after = whole }
