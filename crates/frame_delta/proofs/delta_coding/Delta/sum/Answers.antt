-- The sums within the lanes are the values.
use Rattle.std.proofs.Common.{◌≡◌, ℕ, ℤ, pos, of_z, to_z, sym, ap, ◌∙◌, subst, rules, FitsSigned}
use Rattle.std.specs.Int.{w64}
use Rattle.std.proofs.lemmas.Int.{to_z-of_z}
use Rattle.bit_interleave.specs.PackedWords.{PackedWords, packed_width}
use Rattle.frame_delta.specs.Frame.{ArePacked, TellApart, AreAbove}
use Rattle.frame_delta.specs.Delta.{DeltaForm, delta_values}
use Rattle.frame_delta.proofs.PlaceNumbers.{tell_apart, sums_are_values, delta_above}
use Rattle.frame_delta.proofs.delta_coding.Delta.sum.Goals as goal

pub returns-clause-values : goal.returns-clause-values
returns-clause-values c =
    let words : PackedWords = c.self.inside.words in
    let r = c.self.inside.least in
    let form : ℕ → ℤ → DeltaForm = λ n z. record { lane_width = n; width = packed_width words; least = z; bases = c.self.inside.bases.values; words = words } in
    let t = c.lane_width.result in
    let z = to_z w64 (of_z w64 r) in
    let fits : FitsSigned w64 r = search rules in
    let view : form t z ≡ c.args.self.now = ap (λ n. form n z) c.lane_width.ensures.value ∙ ap (form words.lane_width) (to_z-of_z w64 r fits) ∙ c.self.view_is in
    let old = c.args.numbers.now in
    let new = c.write_sums_by_places.new.numbers in
    let packs : ArePacked t (packed_width words) words.numbers old = subst (λ (f : DeltaForm). ArePacked f.lane_width f.width f.words.numbers old) (sym view) c.requires in
    subst (λ (f : DeltaForm). AreAbove f.lane_width (pos 0) new (delta_values f)) view
    (delta_above (form t z) new (sums_are_values (form t z) old new c.lane_width.ensures.width packs c.write_sums_by_places.ensures.first c.write_sums_by_places.ensures.later))

pub returns-clause-apart : goal.returns-clause-apart
returns-clause-apart c =
    let words : PackedWords = c.self.inside.words in
    let r = c.self.inside.least in
    let form : ℕ → ℤ → DeltaForm = λ n z. record { lane_width = n; width = packed_width words; least = z; bases = c.self.inside.bases.values; words = words } in
    let t = c.lane_width.result in
    let z = to_z w64 (of_z w64 r) in
    let fits : FitsSigned w64 r = search rules in
    let view : form t z ≡ c.args.self.now = ap (λ n. form n z) c.lane_width.ensures.value ∙ ap (form words.lane_width) (to_z-of_z w64 r fits) ∙ c.self.view_is in
    let old = c.args.numbers.now in
    let new = c.write_sums_by_places.new.numbers in
    let packs : ArePacked t (packed_width words) words.numbers old = subst (λ (f : DeltaForm). ArePacked f.lane_width f.width f.words.numbers old) (sym view) c.requires in
    subst (λ (f : DeltaForm). TellApart new (delta_values f)) view
    (tell_apart t (pos 0) new (delta_values (form t z)) c.lane_width.ensures.width c.write_sums_by_places.ensures.fit
    (delta_above (form t z) new (sums_are_values (form t z) old new c.lane_width.ensures.width packs c.write_sums_by_places.ensures.first c.write_sums_by_places.ensures.later)))
