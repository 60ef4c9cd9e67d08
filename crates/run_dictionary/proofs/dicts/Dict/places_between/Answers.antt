-- The places from the first one not below the least to the first one above the greatest; a row's value stands at its code.
use Rattle.std.proofs.Common.{rules, ◌↔◌, ℕ, ◌<◌, ◌≤◌, ℤ, pos, ◌+ℤ◌, ◌<ℤ◌, ◌≤ℤ◌, FitsSigned, of_z, to_z, length, ap, ◌∙◌, subst}
use Rattle.std.specs.Int.{w64, w128}
use Rattle.std.proofs.lemmas.Int.{to_z-of_z}
use Rattle.bit_interleave.specs.PackedWords.{packed_width}
use Rattle.bit_interleave.specs.Range.{value_at}
use Rattle.run_dictionary.specs.Dict.{DictForm, code_at}
use Rattle.run_dictionary.proofs.DictLemmas.{place-between}
use Rattle.run_dictionary.proofs.dicts.Dict.places_between.Goals as goal

pub returns-clause-places : goal.returns-clause-places
returns-clause-places c = λ k h.
    let first = c.first_from.result in
    let end = c.first_from-2.result in
    let xs = c.self.inside.values.values in
    let low_fits : FitsSigned w128 c.from.result = search rules in
    let low = to_z-of_z w128 c.from.result low_fits ∙ c.from.ensures ∙ to_z-of_z w64 c.args.low c.ranges.low in
    let high_fits : FitsSigned w128 c.from-2.result = search rules in
    let widened : ℤ = to_z w128 (of_z w128 c.from-2.result) in
    let past : FitsSigned w128 (widened +ℤ pos 1) = search rules in
    let high = to_z-of_z w128 (widened +ℤ pos 1) past ∙ ap (λ z. z +ℤ pos 1) (to_z-of_z w128 c.from-2.result high_fits ∙ c.from-2.ensures ∙ to_z-of_z w64 c.args.high c.ranges.high) in
    let at : DictForm → Type 0 = λ form. k < length form.values → ((c.args.low ≤ℤ value_at form.values k) × (value_at form.values k ≤ℤ c.args.high)) ↔ ((first ≤ k) × (k < end)) in
    let form : DictForm = record { lane_width = c.self.inside.values.lane_width; width = packed_width c.self.inside.codes; values = xs; codes = c.self.inside.codes } in
    let here : at form = λ l. place-between xs c.args.low c.args.high first end
    (subst (λ (z : ℤ). (k : ℕ) → k < first → value_at xs k <ℤ z) low c.first_from.ensures.before)
    (subst (λ (z : ℤ). (k : ℕ) → first ≤ k → k < length xs → z ≤ℤ value_at xs k) low c.first_from.ensures.from)
    (subst (λ (z : ℤ). (k : ℕ) → k < end → value_at xs k <ℤ z) high c.first_from-2.ensures.before)
    (subst (λ (z : ℤ). (k : ℕ) → end ≤ k → k < length xs → z ≤ℤ value_at xs k) high c.first_from-2.ensures.from)
    k l in
    subst at c.self.view_is here h

pub returns-clause-rows : goal.returns-clause-rows
returns-clause-rows c = λ n h. returns-clause-places c (code_at c.args.self.now n)
    (subst (λ (form : DictForm). code_at form n < length form.values) c.self.view_is (c.self.invariant.codes n h))
