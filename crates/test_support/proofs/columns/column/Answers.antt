-- What wraps at a width fits it.
use Rattle.std.proofs.Common.{◌≢◌, ℕ, ◌+◌, ◌<◌, ℤ, pos, List, length, get_or, set, of_z, to_z, sym, subst, ◌∙◌, arith, rules, below_more}
use Rattle.std.specs.Int.{Width, w64}
use Rattle.std.specs.Int.RustNames.{FitsSigned}
use Rattle.std.proofs.lemmas.Int.{to_z-of_z, SFits-int_wrap}
use Rattle.std.proofs.lemmas.List.{get_or-set_same, get_or-set_other, length-set}
use Rattle.std.proofs.lemmas.List.Elements.{All-from_get_or}
use Rattle.bit_interleave.specs.Arithmetic.{integer_width}
use Rattle.test_support.proofs.columns.column.Goals as goal

fits_more : (w : Width) (xs : List ℤ) (n : ℕ) (x : ℤ) → n < length xs → ((k : ℕ) → k < n → FitsSigned w (get_or xs k (pos 0))) → FitsSigned w x → (k : ℕ) → k < n + 1 → FitsSigned w (get_or (set xs n x) k (pos 0))
fits_more w xs n x h old new =
    below_more (λ (k : ℕ). FitsSigned w (get_or (set xs n x) k (pos 0))) n
    (λ k l. let apart : k ≢ n = omega arith in subst (λ (z : ℤ). FitsSigned w z) (sym (get_or-set_other xs n k x (pos 0) apart)) (old k l))
    (subst (λ (z : ℤ). FitsSigned w z) (sym (get_or-set_same xs n x (pos 0) h)) new)

pub loop-row-preserved : goal.loop-row-preserved
loop-row-preserved c =
    let made : FitsSigned w64 c.wrap.result = search rules in
    let same = to_z-of_z w64 c.wrap.result made ∙ c.wrap.ensures in
    record {
      long = length-set c.loop-row.values c.loop-row.row (to_z w64 (of_z w64 c.wrap.result)) ∙ c.loop-row.invariant.long;
      fit = fits_more (integer_width c.args.lane_width) c.loop-row.values c.loop-row.row (to_z w64 (of_z w64 c.wrap.result)) (omega (arith, c.loop-row.invariant.long)) c.loop-row.invariant.fit
          (subst (λ (z : ℤ). FitsSigned (integer_width c.args.lane_width) z) (sym same) (SFits-int_wrap (integer_width c.args.lane_width) (pos c.bits_at.result)));
    }

pub returns : goal.returns
returns c =
    All-from_get_or (λ v. FitsSigned (integer_width c.args.lane_width) v) c.loop-row.values (pos 0) (λ n h. c.loop-row.invariant.fit n (omega arith))
