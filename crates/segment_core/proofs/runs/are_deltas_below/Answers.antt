-- The numbers of two places are those of all rows there, and what they need all need.
use Rattle.std.proofs.Common.{◌≡◌, ◌↔◌, IsTrue, false, ℕ, ◌+◌, ◌*◌, ◌<◌, ℤ, pos, List, slice_index, sym, ◌∙◌, ap, subst, arith}
use Rattle.std.specs.Int.{w64, cast_unsigned}
use Rattle.bit_interleave.specs.Places.{row_of_index}
use Rattle.bit_interleave.specs.Range.{value_at}
use Rattle.frame_delta.specs.Frame.{AreAbove}
use Rattle.frame_delta.specs.Delta.{AreOfPlace, delta_bytes, least_delta}
use Rattle.run_dictionary.specs.Runs.{RunForm, IsRunForm, run_value, run_values}
use Rattle.segment_core.specs.CanonicalForm.{AreSigned}
use Rattle.segment_core.specs.declared.coded.Coded.TheVariants.{Runs as InRuns}
use Rattle.segment_core.proofs.CodedLemmas.{length-values_of, AreInRange-values_of, value_at-values_of}
use Rattle.segment_core.proofs.NumberLemmas.{signed_at, signed_above, numbers_of, get_or-numbers_of}
use Rattle.segment_core.proofs.runs.are_deltas_below.Goals as goal

-- the numbers that are the values of runs lie above 0
above_zero : (form : RunForm) (t : ℕ) (numbers : List ℕ) → IsRunForm form → t ≡ form.lane_width → AreSigned numbers (run_values form) → AreAbove t (pos 0) numbers (run_values form)
above_zero form t numbers rule is signed =
    let own = signed_above form.lane_width numbers (run_values form) rule.lane_width (length-values_of (InRuns form)) (AreInRange-values_of (InRuns form) rule) signed in
    subst (λ (u : ℕ). AreAbove u (pos 0) numbers (run_values form)) (sym is) own

-- the numbers of a place are the values of its rows
of_place : (form : RunForm) (place : ℕ) (lanes : List ℕ) → place < 64 → ((i : ℕ) → i < 16 → slice_index lanes i ≡ cast_unsigned w64 (run_value form (64 * i + place))) → AreOfPlace place lanes (numbers_of (run_values form))
of_place form place lanes l are i h =
    let row : row_of_index (16 * place + i) ≡ 64 * i + place = omega (arith, h) in
    get_or-numbers_of (run_values form) (16 * place + i) (omega (arith, l, h))
    ∙ ap (λ (n : ℕ). cast_unsigned w64 (value_at (run_values form) n)) row
    ∙ ap (cast_unsigned w64) (value_at-values_of (InRuns form) (64 * i + place) (omega (arith, l, h)))
    ∙ sym (are i h)

pub returns-then-not-may_be_below : goal.returns-then-not-may_be_below
returns-then-not-may_be_below c =
    let form : RunForm = c.args.form.now in
    let t : ℕ = c.lane_width-lane_width.result in
    let values : List ℤ = run_values form in
    let numbers : List ℕ = numbers_of values in
    let is : t ≡ form.lane_width = c.lane_width-lane_width.ensures.value in
    let above = above_zero form t numbers c.lane_width-lane_width.ensures.form is (signed_at numbers values (get_or-numbers_of values)) in
    let zero = of_place form 0 c.values_of_place-first.result (omega arith) c.values_of_place-first.ensures in
    let one = of_place form 1 c.values_of_place-second.result (omega arith) c.values_of_place-second.ensures in (
      λ no. absurd (cc),
      λ less. let no : IsTrue false = c.if-not-may_be_below.ensures numbers values (pos 0) zero one above (subst (λ (u : ℕ). delta_bytes (least_delta u values) < c.args.bound) (sym is) less) in absurd (cc),
    )

pub returns : goal.returns
returns c =
    let form : RunForm = c.args.form.now in
    let t : ℕ = c.lane_width-lane_width.result in
    let values : List ℤ = run_values form in
    let numbers : List ℕ = c.write_by_places.new.numbers in
    let is : t ≡ form.lane_width = c.lane_width-lane_width.ensures.value in
    let signed = subst (λ (xs : List ℤ). AreSigned numbers xs) c.decode.ensures.values c.write_by_places.ensures in
    let above = above_zero form t numbers c.lane_width-lane_width.ensures.form is signed in
    subst (λ (u : ℕ). IsTrue c.is_below.result ↔ (delta_bytes (least_delta u values) < c.args.bound)) is (c.is_below.ensures values (pos 0) (length-values_of (InRuns form)) above)
