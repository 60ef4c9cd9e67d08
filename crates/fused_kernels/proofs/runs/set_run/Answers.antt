-- A word's part of the rows is set.
use Rattle.std.proofs.Common.{◌≡◌, ◌==◌, ℕ, ◌+◌, ◌-◌, ◌*◌, ◌<◌, ◌≤◌, ◌&&◌, ◌||◌, ◌⊎◌, inl, inr, Bool, nat_le, nat_lt, length, set, get_or, slice_index_or, bit_or, refl, sym, ap, ◌∙◌, below_more, arith}
use Rattle.std.specs.Int.{bit_at}
use Rattle.std.proofs.lemmas.Bool.{cases_lt}
use Rattle.std.proofs.lemmas.List.{get_or-set_same, get_or-set_other, length-set}
use Rattle.transpose_order.specs.Mask.{truth_at}
use Rattle.transpose_order.specs.MaskWords.{truth_at-place}
use Rattle.transpose_order.proofs.BitLemmas.{bit_is_set-or}
use Rattle.native_lanes.proofs.BoolLemmas.{or_swap}
use Rattle.fused_kernels.proofs.RunLemmas.{in_word, not_in_word, at_row}
use Rattle.fused_kernels.proofs.runs.set_run.Goals as goal

pub loop-j-init : goal.loop-j-init
loop-j-init c = record {
  long = c.told-words;
  from = omega arith;
  written = λ k p h l. sym (ap (λ b. b || (bit_at (slice_index_or c.args.words.now k 0) p == 1)) (not_in_word c.args.first c.args.end k p (inl h) l));
  others = λ k h. refl;
}

pub loop-j-preserved : goal.loop-j-preserved
loop-j-preserved c =
    let j = c.loop-j.j in
    let old = c.loop-j.words in
    let word = bit_or (slice_index_or old j 0) c.ones_between-ones.result in
    let first = c.args.first in
    let end = c.args.end in
    let inside : j < length old = omega (arith, c.loop-j.invariant.long, c.loop-j-test.true) in
    let was : ℕ → ℕ → Bool = λ k p. bit_at (slice_index_or c.args.words.now k 0) p == 1 in
    record {
      long = length-set old j word ∙ c.loop-j.invariant.long;
      from = omega (arith, c.loop-j.invariant.from);
      written = λ k p h l.
          below_more (λ (k : ℕ). (p : ℕ) → p < 64 → (bit_at (get_or (set old j word) k 0) p == 1) ≡ ((nat_le first (64 * k + p) && nat_lt (64 * k + p) end) || was k p)) j
          (λ k before p l. ap (λ x. bit_at x p == 1) (get_or-set_other old j k word 0 (λ e. omega (arith, e))) ∙ c.loop-j.invariant.written k p before l)
          (λ p l. ap (λ x. bit_at x p == 1) (get_or-set_same old j word 0 inside)
          ∙ bit_is_set-or (slice_index_or old j 0) c.ones_between-ones.result p
          ∙ ap (λ b. (bit_at (slice_index_or old j 0) p == 1) || b) (c.ones_between-ones.ensures p l ∙ ap (λ (x : ℕ). nat_le x p && nat_lt p c.min.result) c.saturating_sub.ensures ∙ ap (λ (y : ℕ). nat_le (first - 64 * j) p && nat_lt p y) c.min.ensures ∙ in_word first end j p l)
          ∙ ap (λ x. (bit_at x p == 1) || (nat_le first (64 * j + p) && nat_lt (64 * j + p) end)) (c.loop-j.invariant.others j (omega arith))
          ∙ or_swap (was j p) (nat_le first (64 * j + p) && nat_lt (64 * j + p) end))
          k h p l;
      others = λ k h. get_or-set_other old j k word 0 (λ e. omega (arith, e)) ∙ c.loop-j.invariant.others k (omega arith);
    }

pub returns : goal.returns
returns c = λ n h.
    let first = c.args.first in
    let end = c.args.end in
    at_row c.loop-j.words n (λ n. (nat_le first n && nat_lt n end) || truth_at c.args.words.now n)
    (λ k p l. truth_at-place c.loop-j.words k p l ∙ by_word c k p l (cases_lt k c.loop-j.j) ∙ ap (λ b. (nat_le first (64 * k + p) && nat_lt (64 * k + p) end) || b) (sym (truth_at-place c.args.words.now k p l)))
  where
    by_word : (c : goal.After-loop-j) (k p : ℕ) → p < 64 → (k < c.loop-j.j) ⊎ (c.loop-j.j ≤ k) → (bit_at (slice_index_or c.loop-j.words k 0) p == 1) ≡ ((nat_le c.args.first (64 * k + p) && nat_lt (64 * k + p) c.args.end) || (bit_at (slice_index_or c.args.words.now k 0) p == 1))
    by_word c k p l (inl m) = c.loop-j.invariant.written k p m l
    by_word c k p l (inr m) =
        ap (λ x. bit_at x p == 1) (c.loop-j.invariant.others k m)
        ∙ sym (ap (λ b. b || (bit_at (slice_index_or c.args.words.now k 0) p == 1)) (not_in_word c.args.first c.args.end k p (inr (omega arith)) l))
