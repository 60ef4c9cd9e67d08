-- Each step keeps the bounds, and reaches them at the new lane or where they were reached.
use Rattle.std.proofs.Common.{◌≡◌, ℕ, ◌<◌, ◌≤◌, ◌⊎◌, inl, inr, min, max, slice_index, arith, ◌∙◌, below_more}
use Rattle.std.proofs.lemmas.Bool.{cases_lt}
use Rattle.frame_delta.proofs.spans.LaneSpread.spread.Goals as goal

reached_min : (x : ℕ) (g : ℕ → ℕ) (n : ℕ) → n < 16 → ((k : ℕ) × (k < 16) × (x ≡ g k)) → (x < g n) ⊎ (g n ≤ x) → (k : ℕ) × (k < 16) × (min x (g n) ≡ g k)
reached_min x g n h old (inl less) = (old.0, old.1, omega (arith, old.2))
reached_min x g n h old (inr more) = (n, h, omega arith)

reached_max : (x : ℕ) (g : ℕ → ℕ) (n : ℕ) → n < 16 → ((k : ℕ) × (k < 16) × (x ≡ g k)) → (x < g n) ⊎ (g n ≤ x) → (k : ℕ) × (k < 16) × (max x (g n) ≡ g k)
reached_max x g n h old (inl less) = (n, h, omega arith)
reached_max x g n h old (inr more) = (old.0, old.1, omega (arith, old.2))

pub loop-i-preserved : goal.loop-i-preserved
loop-i-preserved c =
    let f = slice_index c.args.self.least in
    let g = slice_index c.args.self.greatest in
    let n = c.loop-i.i in
    let lower = reached_min c.loop-i.least f n c.loop-i-test.true c.loop-i.invariant.low_reached (cases_lt c.loop-i.least (f n)) in
    let higher = reached_max c.loop-i.greatest g n c.loop-i-test.true c.loop-i.invariant.high_reached (cases_lt c.loop-i.greatest (g n)) in
    record {
      low = below_more (λ (k : ℕ). c.min-least.result ≤ f k) n (λ k h. omega (arith, c.loop-i.invariant.low k h, c.min-least.ensures)) (omega (arith, c.min-least.ensures));
      high = below_more (λ (k : ℕ). g k ≤ c.max-greatest.result) n (λ k h. omega (arith, c.loop-i.invariant.high k h, c.max-greatest.ensures)) (omega (arith, c.max-greatest.ensures));
      low_reached = (lower.0, lower.1, c.min-least.ensures ∙ lower.2);
      high_reached = (higher.0, higher.1, c.max-greatest.ensures ∙ higher.2);
    }
