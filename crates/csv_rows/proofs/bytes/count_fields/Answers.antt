use Rattle.std.proofs.Common.{◌≡◌, ◌+◌, ◌∷◌, ◌==◌, ◌∙◌, List, ℕ, cond, drop, get_or, length, arith, ap}
use Rattle.std.proofs.lemmas.List.{drop_more}
use Rattle.csv_rows.specs.Field.{fields_of}
use Rattle.csv_rows.proofs.Pieces.{count_more}
use Rattle.csv_rows.proofs.bytes.count_fields.Goals as goal

pub loop-byte-preserved : goal.loop-byte-preserved
loop-byte-preserved c =
    let line : List ℕ = c.args.line.now in
    let i : ℕ = c.loop-byte.byte-index in
    let split : drop i line ≡ get_or line i 0 ∷ drop (i + 1) line = drop_more line i 0 (omega arith) in
    let count : length (fields_of c.args.separator (drop i line)) ≡ cond (get_or line i 0 == c.args.separator) 1 0 + length (fields_of c.args.separator (drop (i + 1) line)) = ap (λ (bytes : List ℕ). length (fields_of c.args.separator bytes)) split ∙ count_more c.args.separator (get_or line i 0) (drop (i + 1) line) in
    let one : c.separators_in-separators.result ≡ cond (get_or line i 0 == c.args.separator) 1 0 = c.separators_in-separators.ensures.count in
    record { pieces = omega (arith, c.loop-byte.invariant.pieces, count, one); few = omega (arith, c.loop-byte.invariant.few, c.separators_in-separators.ensures.bound) }
