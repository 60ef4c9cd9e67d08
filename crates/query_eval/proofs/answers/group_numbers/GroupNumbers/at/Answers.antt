-- The column at the place, or a number that is the same in each group.
use Rattle.std.proofs.Common.{rules, ℕ, ℤ, FitsSigned, List, Option, None, IfSome, get_or, sym, subst}
use Rattle.std.specs.Int.{w128}
use Rattle.std.proofs.lemmas.Int.{to_z-of_z}
use Rattle.query_eval.specs.GroupNumbers.{AreNumbers}
use Rattle.query_eval.specs.declared.answers.field_places.FieldPlace.{FieldPlace}
use Rattle.query_eval.specs.declared.answers.field_places.FieldPlace.TheVariants as places
use Rattle.query_eval.specs.declared.answers.group_numbers.Numbers.{Numbers}
use Rattle.query_eval.proofs.answers.group_numbers.GroupNumbers.at.Goals as goal

pub returns-in-Cell : goal.returns-in-Cell
returns-in-Cell c = λ groups have.
    let columns = subst (λ (cs : List (Option Numbers)). (p : ℕ) → IfSome (get_or cs p None) (AreNumbers groups (places.Cell p))) (sym c.as_slice.ensures.value) have.cells in
    subst (λ (at : FieldPlace). IfSome c.column_at.result (AreNumbers groups at)) (sym c.in-Cell.is) (c.column_at.ensures groups (λ p. places.Cell p) columns)

pub returns-in-Computed : goal.returns-in-Computed
returns-in-Computed c = λ groups have.
    let columns = subst (λ (cs : List (Option Numbers)). (p : ℕ) → IfSome (get_or cs p None) (AreNumbers groups (places.Computed p))) (sym c.as_slice-in-Computed.ensures.value) have.fields in
    subst (λ (at : FieldPlace). IfSome c.column_at-in-Computed.result (AreNumbers groups at)) (sym c.in-Computed.is) (c.column_at-in-Computed.ensures groups (λ p. places.Computed p) columns)

pub returns-in-Fixed : goal.returns-in-Fixed
returns-in-Fixed c = λ groups have.
    let fits : FitsSigned w128 c.in-Fixed.number = search rules in
    let given = subst (λ (z : ℤ). IfSome c.fixed.result (AreNumbers groups (places.Fixed z))) (to_z-of_z w128 c.in-Fixed.number fits) (c.fixed.ensures groups) in
    subst (λ (at : FieldPlace). IfSome c.fixed.result (AreNumbers groups at)) (sym c.in-Fixed.is) given
