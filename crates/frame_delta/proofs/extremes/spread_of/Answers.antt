-- Each step keeps the bounds, and reaches them at the new number or where they were reached.
use Rattle.std.proofs.Common.{◌≡◌, ℕ, ◌<◌, ◌≤◌, ◌⊎◌, inl, inr, min, max, slice_index, arith, ◌∙◌, refl, below_more}
use Rattle.std.proofs.lemmas.Bool.{cases_lt}
use Rattle.frame_delta.proofs.extremes.spread_of.Goals as goal

reached_min : (x y : ℕ) (g : ℕ → ℕ) (n : ℕ) → n < 1024 → y ≡ g n → ((k : ℕ) × (k < 1024) × (x ≡ g k)) → (x < y) ⊎ (y ≤ x) → (k : ℕ) × (k < 1024) × (min x y ≡ g k)
reached_min x y g n h e old (inl less) = (old.0, old.1, omega (arith, old.2))
reached_min x y g n h e old (inr more) = (n, h, omega arith)

reached_max : (x y : ℕ) (g : ℕ → ℕ) (n : ℕ) → n < 1024 → y ≡ g n → ((k : ℕ) × (k < 1024) × (x ≡ g k)) → (x < y) ⊎ (y ≤ x) → (k : ℕ) × (k < 1024) × (max x y ≡ g k)
reached_max x y g n h e old (inl less) = (n, h, omega arith)
reached_max x y g n h e old (inr more) = (old.0, old.1, omega (arith, old.2))

pub loop-n-preserved : goal.loop-n-preserved
loop-n-preserved c =
    let g = slice_index c.args.numbers.now in
    let n = c.loop-n.n in
    let lower = reached_min c.loop-n.least (g n) g n c.loop-n-test.true refl c.loop-n.invariant.low_reached (cases_lt c.loop-n.least (g n)) in
    let higher = reached_max c.loop-n.greatest (g n) g n c.loop-n-test.true refl c.loop-n.invariant.high_reached (cases_lt c.loop-n.greatest (g n)) in
    record {
      low = below_more (λ (k : ℕ). c.min-least.result ≤ g k) n (λ k h. omega (arith, c.loop-n.invariant.low k h, c.min-least.ensures)) (omega (arith, c.min-least.ensures));
      high = below_more (λ (k : ℕ). g k ≤ c.max-greatest.result) n (λ k h. omega (arith, c.loop-n.invariant.high k h, c.max-greatest.ensures)) (omega (arith, c.max-greatest.ensures));
      low_reached = (lower.0, lower.1, c.min-least.ensures ∙ lower.2);
      high_reached = (higher.0, higher.1, c.max-greatest.ensures ∙ higher.2);
    }
