-- No row is taken in yet.
use Rattle.std.proofs.Common.{◌≡◌, ◌≤◌, ◌==◌, ◌∷◌, [], ℕ, List, length, false, sym, ap, subst, ◌∙◌, arith}
use Rattle.std.proofs.lemmas.Bool.{false≢true}
use Rattle.query_eval.specs.Grouping.{AreGroups}
use Rattle.query_eval.specs.declared.tallies.aggregate.Aggregate.{Aggregate}
use Rattle.query_eval.proofs.answers.taken_rows.Taken.none.Goals as goal

some_of : (xs : List ℕ) → (length xs == 0) ≡ false → 1 ≤ length xs
some_of [] e = absurd (false≢true (sym e))
some_of (x ∷ xs) e = omega arith

pub returns-in_ok-none : goal.returns-in_ok-none
returns-in_ok-none c =
    let by = c.args.plan.now.grouping in
    let groups = c.in_ok-none.field-0 in
    let some : 1 ≤ length by = some_of by (ap (λ (xs : List ℕ). length xs == 0) (sym c.grouping.ensures) ∙ sym c.is_empty.ensures ∙ c.if-is_empty.false) in
    (some, (c.in_ok-none.ensures.index, subst (λ (named : List Aggregate). AreGroups by named [] groups.places.index.entries groups.tallies.items) c.aggregates-else-is_empty.ensures (c.in_ok-none.ensures.groups by)))
