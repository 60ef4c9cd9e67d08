-- A remembered place is that of the value's key, and else the key is looked for.
use Rattle.std.proofs.Common.{◌≡◌, ◌⊎◌, ◌∷◌, [], ℕ, ℤ, FitsSigned, w64, to_z, rules, length, get_or, List, Option, Some, None, ap, sym, subst, ◌∙◌}
use Rattle.query_eval.specs.Entries.{place_in}
use Rattle.std.specs.Int.{w128}
use Rattle.std.proofs.lemmas.Bool.Decides.{Decides-ltb}
use Rattle.std.proofs.lemmas.Int.{to_z-of_z}
use Rattle.query_eval.specs.Places.{IsIndex}
use Rattle.query_eval.specs.declared.grouping.places.Recent.{Recent}
use Rattle.query_eval.proofs.PlaceLemmas.{entry_at, index_remembered, taken_known}
use Rattle.query_eval.proofs.grouping.places.Places.of_value.Goals as goal
use Rattle.query_eval.proofs.grouping.places.Places.of_value.Goals.{in-Some-Some+else-recent-value, in-Some+in-None-1, in-None-1}

pub returns-then-recent-value-clause-taken : goal.returns-then-recent-value-clause-taken
returns-then-recent-value-clause-taken c = λ h.
    let recent = c.in-Some-Some.recent in
    let one : FitsSigned w64 recent.value = search rules in
    let other : FitsSigned w64 c.args.value = search rules in
    let same : recent.value ≡ c.args.value = sym (to_z-of_z w64 recent.value one) ∙ ap (to_z w64) c.if-recent-value.true ∙ to_z-of_z w64 c.args.value other in
    let slot = c.slot_of-slot.result in
    let within = (Decides-ltb slot (length c.deref.result.now)).0 (sym c.in-Some-Some.ensures.lookup.0) in
    let at = ap (λ (es : List (Option Recent)). get_or es slot None) (sym c.deref.ensures.value) ∙ entry_at c.deref.result.now slot c.in-Some-Some.field-0.now recent within c.in-Some-Some.ensures.lookup.1 c.in-Some-Some.field-0-is in
    taken_known (Some c.args.value ∷ []) recent.place c.args.self.now.index.entries (ap (λ (z : ℤ). place_in c.args.self.now.index.entries (Some z ∷ [])) (sym same) ∙ h.recent c.slot_of-slot.result recent at)

pub returns-clause-index : goal.returns-clause-index
returns-clause-index c = λ h.
    let wide : FitsSigned w128 c.from.result = search rules in
    let value : FitsSigned w64 c.args.value = search rules in
    let from = simp to_z-of_z at c.from.ensures in
    let now = subst (λ (z : ℤ). place_in c.of_cell.new.self.index.entries (Some z ∷ []) ≡ Some c.in_ok-place.place) (to_z-of_z w128 c.from.result wide ∙ from) c.in_ok-place.ensures.taken.now in
    let remembered =
    subst (λ (z : ℤ). (i : ℕ) (r : Recent) → get_or c.remember.new.recent.items i None ≡ Some r → (r ≡ record { value = z; place = c.in_ok-place.place }) ⊎ (get_or c.of_cell.new.self.recent.items i None ≡ Some r)) (to_z-of_z w64 c.args.value value) c.remember.ensures in
    let before : IsIndex c.match-get.self = subst IsIndex (sym kept) h in
    index_remembered c.of_cell.new.self.index c.of_cell.new.self.recent c.remember.new.recent c.of_cell.new.self.null (record { value = c.args.value; place = c.in_ok-place.place }) now remembered (c.in_ok-place.ensures.index before)
  where
    kept : c.match-get.self ≡ c.args.self.now
    kept = elim c.match-get.branch [
      | in-Some-Some+else-recent-value w ↦ w.self-is
      | in-Some+in-None-1 w ↦ w.self-is
      | in-None-1 w ↦ w.self-is
    ]
