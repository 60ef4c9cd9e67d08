-- The form is the least one exactly where each lane starts at 0 and the packed numbers are tight after that.
use Rattle.std.proofs.Common.{◌≡◌, ℕ, ◌<◌, List, ℤ, Bool, false, get_or, of_z, to_z, sym, ◌∙◌, subst, rules, FitsSigned, IsTrue}
use Rattle.std.specs.Int.{w64}
use Rattle.std.proofs.lemmas.Int.{to_z-of_z}
use Rattle.std.proofs.lemmas.Bool.{false≢true}
use Rattle.bit_interleave.specs.PackedWords.{PackedWords, packed_width}
use Rattle.bit_interleave.specs.Places.{by_place}
use Rattle.frame_delta.specs.Extremes.{IsSpread, IsTightFrame}
use Rattle.frame_delta.specs.Frame.{ArePacked}
use Rattle.frame_delta.specs.Delta.{DeltaForm, is_later, delta_values, least_delta}
use Rattle.frame_delta.proofs.PlaceNumbers.{words_back, spread_of_packed}
use Rattle.frame_delta.proofs.LeastDelta.{numbers_of_delta, tight_is_least, least_is_tight, least_starts_at_zero}
use Rattle.frame_delta.proofs.delta_coding.Delta.is_least_of.Goals as goal

-- the rows at step 0 hold 0
abbrev StartAtZero : ℕ → List ℕ → Type 0
StartAtZero t xs = (n : ℕ) → n < 1024 → is_later t n ≡ false → get_or xs n 0 ≡ 0

pub returns-then-not-starts_at_zero : goal.returns-then-not-starts_at_zero
unfolding numbers_of_delta
returns-then-not-starts_at_zero c =
    let words : PackedWords = c.self.inside.words in
    let form : DeltaForm = record { lane_width = words.lane_width; width = packed_width words; least = c.self.inside.least; bases = c.self.inside.bases.values; words = words } in
    let packs = subst (λ (f : DeltaForm). ArePacked f.lane_width f.width f.words.numbers c.args.numbers.now) (sym c.self.view_is) c.requires in
    let same = c.lane_width-lane_width.ensures.value in
    let zeros : StartAtZero form.lane_width (numbers_of_delta form) → IsTrue c.starts_at_zero.result =
    λ z. c.starts_at_zero.ensures.1 (subst (λ (t : ℕ). (n : ℕ) → n < 1024 → is_later t n ≡ false → by_place c.args.numbers.now n ≡ 0) (sym same) (λ n h e. packs n h ∙ z n h e)) in
    subst (λ (f : DeltaForm). (IsTrue false → f ≡ least_delta f.lane_width (delta_values f)) × (f ≡ least_delta f.lane_width (delta_values f) → IsTrue false)) c.self.view_is (
      λ no. absurd (false≢true no),
      λ is. subst (λ (b : Bool). IsTrue b) c.if-not-starts_at_zero.true (zeros (least_starts_at_zero form c.self.invariant.0.lane_width is)),
    )

pub returns : goal.returns
unfolding numbers_of_delta
returns c =
    let words : PackedWords = c.self.inside.words in
    let form : DeltaForm = record { lane_width = words.lane_width; width = packed_width words; least = c.self.inside.least; bases = c.self.inside.bases.values; words = words } in
    let packs = subst (λ (f : DeltaForm). ArePacked f.lane_width f.width f.words.numbers c.args.numbers.now) (sym c.self.view_is) c.requires in
    let same = c.lane_width-lane_width.ensures.value in
    let told = c.packed_width-width.ensures in
    let r = c.self.inside.least in
    let low = c.later_spread.result.least in
    let high = c.later_spread.result.greatest in
    let yes : IsTrue c.starts_at_zero.result = c.if-not-starts_at_zero.false in
    let zeros : StartAtZero form.lane_width (numbers_of_delta form) =
    subst (λ (t : ℕ). StartAtZero t (numbers_of_delta form)) same (λ n h e. sym (packs n h) ∙ c.starts_at_zero.ensures.0 yes n h e) in
    let spread : IsSpread (is_later form.lane_width) (λ n. get_or (numbers_of_delta form) n 0) low high =
    subst (λ (t : ℕ). IsSpread (is_later t) (λ n. get_or (numbers_of_delta form) n 0) low high) same (spread_of_packed form.lane_width form.width words.numbers c.args.numbers.now (is_later c.lane_width-lane_width.result) low high packs c.later_spread.ensures) in
    let back = words_back words form.width c.self.invariant.0.lane_width c.self.invariant.0.fit c.self.invariant.0.packed in
    let fits : FitsSigned w64 r = search rules in
    let whole = to_z-of_z w64 r fits in
    let there = subst (λ (t : ℕ). IsTrue c.is_tight.result → IsTightFrame t form.width r low high) same
    (subst (λ (z : ℤ). IsTrue c.is_tight.result → IsTightFrame c.lane_width-lane_width.result form.width z low high) whole (subst (λ (w : ℕ). IsTrue c.is_tight.result → IsTightFrame c.lane_width-lane_width.result w (to_z w64 (of_z w64 r)) low high) told c.is_tight.ensures.0)) in
    let here = subst (λ (t : ℕ). IsTightFrame t form.width r low high → IsTrue c.is_tight.result) same
    (subst (λ (z : ℤ). IsTightFrame c.lane_width-lane_width.result form.width z low high → IsTrue c.is_tight.result) whole (subst (λ (w : ℕ). IsTightFrame c.lane_width-lane_width.result w (to_z w64 (of_z w64 r)) low high → IsTrue c.is_tight.result) told c.is_tight.ensures.1)) in
    subst (λ (f : DeltaForm). (IsTrue c.is_tight.result → f ≡ least_delta f.lane_width (delta_values f)) × (f ≡ least_delta f.lane_width (delta_values f) → IsTrue c.is_tight.result)) c.self.view_is (
      λ tight. tight_is_least form low high c.self.invariant.0.lane_width c.self.invariant.0.packed.fits c.self.invariant.0.least c.self.invariant.0.base_count c.self.invariant.0.bases back zeros spread (there tight),
      λ is. here (least_is_tight form low high c.self.invariant.0.lane_width c.self.invariant.0.packed.fits c.self.invariant.0.least spread is),
    )
