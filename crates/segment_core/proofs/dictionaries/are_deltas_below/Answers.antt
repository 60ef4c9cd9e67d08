-- The numbers of two places are those of all rows there, and what they need all need.
use Rattle.std.proofs.Common.{◌≡◌, ◌↔◌, IsTrue, false, ℕ, ◌+◌, ◌*◌, ◌<◌, ℤ, pos, List, length, slice_index, sym, ◌∙◌, ap, subst, arith}
use Rattle.bit_interleave.specs.LaneValues.{LaneValues}
use Rattle.bit_interleave.specs.Places.{by_place, row_of_index}
use Rattle.bit_interleave.proofs.PlacesLemmas.{by_place-row_of_index, row_of_index-below}
use Rattle.frame_delta.specs.Frame.{AreAbove}
use Rattle.frame_delta.specs.Delta.{AreOfPlace, delta_bytes, least_delta}
use Rattle.run_dictionary.specs.Dict.{DictForm, dict_values}
use Rattle.segment_core.specs.declared.coded.Coded.TheVariants.{Dict as InDictionary}
use Rattle.segment_core.proofs.CodedLemmas.{length-values_of, AreInRange-values_of}
use Rattle.segment_core.proofs.NumberLemmas.{signed_above, dictionary_signed, numbers_at, get_or-numbers_at}
use Rattle.segment_core.proofs.dictionaries.are_deltas_below.Goals as goal

-- what is stored has the dictionary's values
stored_is : (form : DictForm) (stored : LaneValues) → stored ≡ record { lane_width = form.lane_width; values = form.values } → stored.values ≡ form.values
stored_is form stored e = ap (λ (v : LaneValues). v.values) e

code_below : (form : DictForm) (codes : List ℕ) (dictionary : List ℤ) → dictionary ≡ form.values → ((n : ℕ) → n < 1024 → by_place codes n < length form.values) → (k : ℕ) → k < 1024 → slice_index codes k < length dictionary
code_below form codes dictionary same below k l =
    let here : by_place codes (row_of_index k) ≡ slice_index codes k = by_place-row_of_index codes k l in
    let room : length dictionary ≡ length form.values = ap length same in
    subst (λ (x : ℕ). x < length dictionary) here (subst (λ (m : ℕ). by_place codes (row_of_index k) < m) (sym room) (below (row_of_index k) (row_of_index-below k l)))

pub values_of_place-first-requires-clause-below : goal.values_of_place-first-requires-clause-below
values_of_place-first-requires-clause-below c i h =
    code_below c.args.form.now c.args.codes.now c.values-dictionary.result.now.values (stored_is c.args.form.now c.values-dictionary.result.now c.values-dictionary.ensures.value) c.requires.below (16 * 0 + i) (omega (arith, h))

pub values_of_place-second-requires-clause-below : goal.values_of_place-second-requires-clause-below
values_of_place-second-requires-clause-below c i h =
    code_below c.args.form.now c.args.codes.now c.values-dictionary.result.now.values (stored_is c.args.form.now c.values-dictionary.result.now c.values-dictionary.ensures.value) c.requires.below (16 * 1 + i) (omega (arith, h))

pub returns-then-not-may_be_below : goal.returns-then-not-may_be_below
returns-then-not-may_be_below c =
    let form : DictForm = c.args.form.now in
    let t : ℕ = c.lane_width-lane_width.result in
    let values : List ℤ = dict_values form in
    let dictionary : List ℤ = c.values-dictionary.result.now.values in
    let numbers : List ℕ = numbers_at dictionary c.args.codes.now in
    let is : t ≡ form.lane_width = c.lane_width-lane_width.ensures.value in
    let signed = dictionary_signed form dictionary c.args.codes.now numbers (stored_is form c.values-dictionary.result.now c.values-dictionary.ensures.value) c.requires.codes (get_or-numbers_at dictionary c.args.codes.now) in
    let own_values = signed_above form.lane_width numbers values c.lane_width-lane_width.ensures.form.lane_width (length-values_of (InDictionary form)) (AreInRange-values_of (InDictionary form) c.lane_width-lane_width.ensures.form) signed in
    let above : AreAbove t (pos 0) numbers values = subst (λ (u : ℕ). AreAbove u (pos 0) numbers values) (sym is) own_values in
    let zero : AreOfPlace 0 c.values_of_place-first.result numbers = λ i h. get_or-numbers_at dictionary c.args.codes.now (16 * 0 + i) (omega (arith, h)) ∙ sym (c.values_of_place-first.ensures i h) in
    let one : AreOfPlace 1 c.values_of_place-second.result numbers = λ i h. get_or-numbers_at dictionary c.args.codes.now (16 * 1 + i) (omega (arith, h)) ∙ sym (c.values_of_place-second.ensures i h) in (
      λ no. absurd (cc),
      λ less. let no : IsTrue false = c.if-not-may_be_below.ensures numbers values (pos 0) zero one above (subst (λ (u : ℕ). delta_bytes (least_delta u values) < c.args.bound) (sym is) less) in absurd (cc),
    )

pub write_values_at-requires : goal.write_values_at-requires
write_values_at-requires c k l =
    code_below c.args.form.now c.args.codes.now c.in_room.result.now (c.in_room.ensures.values ∙ stored_is c.args.form.now c.values-dictionary.result.now c.values-dictionary.ensures.value) c.requires.below k l

pub returns : goal.returns
returns c =
    let form : DictForm = c.args.form.now in
    let t : ℕ = c.lane_width-lane_width.result in
    let values : List ℤ = dict_values form in
    let numbers : List ℕ = c.write_values_at.new.numbers in
    let is : t ≡ form.lane_width = c.lane_width-lane_width.ensures.value in
    let same : c.in_room.result.now ≡ form.values = c.in_room.ensures.values ∙ stored_is form c.values-dictionary.result.now c.values-dictionary.ensures.value in
    let signed = dictionary_signed form c.in_room.result.now c.args.codes.now numbers same c.requires.codes c.write_values_at.ensures in
    let own_values = signed_above form.lane_width numbers values c.lane_width-lane_width.ensures.form.lane_width (length-values_of (InDictionary form)) (AreInRange-values_of (InDictionary form) c.lane_width-lane_width.ensures.form) signed in
    let above : AreAbove t (pos 0) numbers values = subst (λ (u : ℕ). AreAbove u (pos 0) numbers values) (sym is) own_values in
    subst (λ (u : ℕ). IsTrue c.is_below.result ↔ (delta_bytes (least_delta u values) < c.args.bound)) is (c.is_below.ensures values (pos 0) (length-values_of (InDictionary form)) above)
