-- A form is least where its width is least and each place is used.
use Rattle.std.proofs.Common.{◌≡◌, ◌↔◌, ◌+◌, ◌-◌, ◌*◌, ◌/◌, ◌%◌, ◌<◌, ℕ, eqb, IsTrue, length, sym, ap, ◌∙◌, subst, arith}
use Rattle.bit_interleave.specs.Arithmetic.{least_width}
use Rattle.bit_interleave.specs.Places.{by_place, row_of_index}
use Rattle.bit_interleave.proofs.PlacesLemmas.{index_of_row-below, row_of_index-below, by_place-row_of_index}
use Rattle.run_dictionary.specs.Dict.{DictForm, code_at, dict_values, least_dict}
use Rattle.run_dictionary.proofs.DictLemmas.{least-from_used, used-from_least, words_pack}
use Rattle.run_dictionary.proofs.dicts.Dict.is_least_of.Goals as goal
use Rattle.std.proofs.lemmas.Bool.{eqb-true}

pub all_used-requires-clause-below : goal.all_used-requires-clause-below
all_used-requires-clause-below c = λ q h.
    let xs = c.args.codes.now in
    let row = row_of_index-below q h in
    let read = subst (λ (form : DictForm). by_place xs (row_of_index q) ≡ code_at form (row_of_index q)) (sym c.self.view_is) (c.requires (row_of_index q) row) in
    omega (arith, by_place-row_of_index xs q h, read, c.self.invariant.codes (row_of_index q) row, c.len-count.ensures)

pub returns-then-width-width_of : goal.returns-then-width-width_of
returns-then-width-width_of c =
    let xs = c.args.codes.now in
    let claim : DictForm → Type 0 = λ form. IsTrue c.all_used.result ↔ (form ≡ least_dict form.lane_width (dict_values form)) in
    let count : c.len-count.result ≡ length c.self.inside.values.values = c.len-count.ensures in
    let told = c.packed_width-width.ensures in
    let read = λ (n : ℕ) (h : n < 1024). subst (λ (form : DictForm). by_place xs n ≡ code_at form n) (sym c.self.view_is) (c.requires n h) in
    subst claim c.self.view_is (
      λ t.
          least-from_used _ c.self.invariant (sym told ∙ c.if-width-width_of.true ∙ c.width_of.ensures.value ∙ ap (λ k. least_width (k - 1)) count)
          (λ k h.
          let r = c.all_used.ensures.0 t k (omega (arith, count, h)) in
          let row = row_of_index-below r.0 r.1 in
          (row_of_index r.0, row, sym (read (row_of_index r.0) row) ∙ by_place-row_of_index xs r.0 r.1 ∙ r.2))
          (words_pack _ c.self.invariant),
      λ e.
          c.all_used.ensures.1
          (λ k h.
          let u = (used-from_least _ c.self.invariant e).1 k (omega (arith, count, h)) in
          (16 * (u.0 % 64) + u.0 / 64, index_of_row-below u.0 u.1, read u.0 u.1 ∙ u.2)),
    )

pub returns-else-width-width_of : goal.returns-else-width-width_of
returns-else-width-width_of c =
    let claim : DictForm → Type 0 = λ form. IsTrue (eqb c.packed_width-width.result c.width_of.result) ↔ (form ≡ least_dict form.lane_width (dict_values form)) in
    let count : c.len-count.result ≡ length c.self.inside.values.values = c.len-count.ensures in
    subst claim c.self.view_is (
      λ t. absurd (c.if-width-width_of.false (eqb-true _ _ t)),
      λ e. absurd (c.if-width-width_of.false (c.packed_width-width.ensures ∙ (used-from_least _ c.self.invariant e).0 ∙ sym (c.width_of.ensures.value ∙ ap (λ k. least_width (k - 1)) count))),
    )
