-- A frame is the least form exactly where it is tight.
use Rattle.std.proofs.Common.{◌≡◌, ◌+◌, ◌*◌, ◌/◌, ◌%◌, ◌<◌, ℕ, List, ℤ, true, get_or, subst, rules, FitsSigned, IsTrue, arith, ap, ◌∙◌, sym, refl}
use Rattle.std.specs.Int.{w64}
use Rattle.std.proofs.lemmas.Int.{to_z-of_z}
use Rattle.frame_delta.specs.Extremes.{IsSpread, IsTightFrame}
use Rattle.frame_delta.specs.Frame.{FrameForm, frame_values, least_frame, ArePacked}
use Rattle.frame_delta.proofs.PlaceNumbers.{words_back}
use Rattle.frame_delta.proofs.LeastFrame.{numbers_of_frame, tight_is_least, least_is_tight}
use Rattle.frame_delta.proofs.frame_coding.For.is_least_of.Goals as goal

spread_by_places : (xs ys : List ℕ) (low high : ℕ) → ((n : ℕ) → n < 1024 → get_or xs (16 * (n % 64) + n / 64) 0 ≡ get_or ys n 0) → IsSpread (λ _. true) (λ n. get_or xs n 0) low high → IsSpread (λ _. true) (λ n. get_or ys n 0) low high
spread_by_places xs ys low high same spread =
    let there = λ (m : ℕ) (h : m < 1024). same (64 * (m % 16) + m / 16) (omega (arith, h)) in
    let back = λ (m : ℕ) (h : m < 1024). let e : 16 * ((64 * (m % 16) + m / 16) % 64) + (64 * (m % 16) + m / 16) / 64 ≡ m = omega (arith, h) in sym (ap (λ k. get_or xs k 0) e) ∙ there m h in
    let (a, b, _, r) = spread.low_reached in
    let (d, e, _, q) = spread.high_reached in
    record {
      low_bound = λ n h _. omega (arith, same n h, spread.low_bound (16 * (n % 64) + n / 64) (omega (arith, h)) refl);
      high_bound = λ n h _. omega (arith, same n h, spread.high_bound (16 * (n % 64) + n / 64) (omega (arith, h)) refl);
      low_reached = (64 * (a % 16) + a / 16, omega (arith, b), refl, r ∙ back a b);
      high_reached = (64 * (d % 16) + d / 16, omega (arith, e), refl, q ∙ back d e);
    }

pub returns : goal.returns
unfolding numbers_of_frame
returns c =
    let words = c.self.inside.words in
    let r = c.self.inside.reference in
    let low = c.spread_of.result.least in
    let high = c.spread_of.result.greatest in
    let form : FrameForm = record { lane_width = words.lane_width; width = c.self.inside.width; reference = r; words = words } in
    let packs = subst (λ (f : FrameForm). ArePacked f.lane_width f.width f.words.numbers c.args.numbers.now) (sym c.self.view_is) c.requires in
    let back = words_back words c.self.inside.width c.self.invariant.lane_width c.self.invariant.fit c.self.invariant.packed in
    let spread : IsSpread (λ _. true) (λ n. get_or (numbers_of_frame form) n 0) low high = spread_by_places c.args.numbers.now (numbers_of_frame form) low high packs c.spread_of.ensures in
    let fits : FitsSigned w64 r = search rules in
    let same = to_z-of_z w64 r fits in
    let there = subst (λ (t : ℕ). IsTrue c.is_tight.result → IsTightFrame t form.width r low high) c.lane_width.ensures.value
    (subst (λ (z : ℤ). IsTrue c.is_tight.result → IsTightFrame c.lane_width.result form.width z low high) same c.is_tight.ensures.0) in
    let here = subst (λ (t : ℕ). IsTightFrame t form.width r low high → IsTrue c.is_tight.result) c.lane_width.ensures.value
    (subst (λ (z : ℤ). IsTightFrame c.lane_width.result form.width z low high → IsTrue c.is_tight.result) same c.is_tight.ensures.1) in
    subst (λ (f : FrameForm). (IsTrue c.is_tight.result → f ≡ least_frame f.lane_width (frame_values f)) × (f ≡ least_frame f.lane_width (frame_values f) → IsTrue c.is_tight.result)) c.self.view_is (
      λ yes. tight_is_least form low high c.self.invariant.lane_width c.self.invariant.packed.fits c.self.invariant.reference back spread (there yes),
      λ is. here (least_is_tight form low high c.self.invariant.lane_width c.self.invariant.packed.fits c.self.invariant.reference spread is),
    )
