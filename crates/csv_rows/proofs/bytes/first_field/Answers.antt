use Rattle.std.proofs.Common.{◌≡◌, ◌∙◌, ◌+◌, ◌-◌, ◌∷◌, List, ℕ, ap, sym, take, drop, length, arith, length-drop}
use Rattle.std.proofs.lemmas.List.{take_all}
use Rattle.csv_rows.specs.Field.{fields_of}
use Rattle.csv_rows.proofs.Pieces.{at_some, whole_none, whole_some}
use Rattle.csv_rows.proofs.bytes.first_field.Goals as goal

pub returns-in-None-clause-fields : goal.returns-in-None-clause-fields
returns-in-None-clause-fields c = whole_none c.args.separator c.args.text.now c.in-None.ensures

pub returns-in-Some-clause-fields : goal.returns-in-Some-clause-fields
returns-in-Some-clause-fields c =
    let text : List ℕ = c.args.text.now in
    let end : ℕ = c.in-Some.end in
    let within = (at_some c.args.separator text end c.in-Some.ensures).0 in
    let whole : take (length text - (end + 1)) (drop (end + 1) text) ≡ drop (end + 1) text = take_all (length text - (end + 1)) (drop (end + 1) text) (omega (arith, length-drop (end + 1) text)) in
    whole_some c.args.separator text end c.in-Some.ensures ∙ ap (λ (rest : List ℕ). take end text ∷ fields_of c.args.separator rest) (sym whole)
