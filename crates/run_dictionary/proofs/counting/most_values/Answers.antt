-- Each width that a dictionary may have was tried.
use Rattle.std.proofs.Common.{arith, below_more, ◌≡◌, ℕ, ◌+◌, ◌-◌, ◌*◌, ◌/◌, ◌%◌, ◌^◌, ◌<◌, ◌≤◌, min, sym, subst, ◌∙◌}
use Rattle.std.proofs.Math.Pow.{pow-lt, pow_mono}
use Rattle.run_dictionary.proofs.SizeLemmas.{IsBelow, IsBelow-at, IsBelow-max, not_below, ord_min-nat}
use Rattle.run_dictionary.proofs.counting.most_values.Goals as goal

pub loop-width-preserved : goal.loop-width-preserved
loop-width-preserved c =
    let t = c.args.lane_width in
    let bound = c.args.bound in
    let w = c.loop-width.width in
    let few : w < 11 = omega (arith, c.loop-width-test.true) in
    let small : 2 ^ w < 2 ^ 11 = pow-lt few in
    let narrow : w ≤ 10 = omega (arith, few) in
    let top : 2 ^ w ≤ 2 ^ 10 = pow_mono narrow in
    let bytes : c.saturating_sub-bytes.result ≡ bound - (128 * w + 1) = omega (arith, c.saturating_sub-bytes.ensures) in
    let room = c.values_in.result in
    let lesser : c.min.result ≡ min (1 * 2 ^ w % 2 ^ 64) room = c.min.ensures ∙ ord_min-nat (1 * 2 ^ w % 2 ^ 64) room in
    let here : c.min.result ≡ min (2 ^ w) ((bound - (128 * w + 1)) / (t / 8)) =
    subst (λ (b : ℕ). c.min.result ≡ min (2 ^ w) (b / (t / 8))) bytes (omega (arith, lesser, small, c.values_in.ensures)) in
    record {
      tried = below_more (λ (v : ℕ). min (2 ^ v) ((bound - (128 * v + 1)) / (t / 8)) ≤ c.max-most.result) w (λ v h. omega (arith, c.max-most.ensures, c.loop-width.invariant.tried v h)) (omega (arith, c.max-most.ensures, here));
      many = omega (arith, c.max-most.ensures, c.loop-width.invariant.many, here, top);
      reached = subst (λ (n : ℕ). IsBelow t bound n) (sym c.max-most.ensures) (IsBelow-max t bound c.loop-width.most c.min.result c.loop-width.invariant.reached (subst (λ (n : ℕ). IsBelow t bound n) (sym here) (IsBelow-at t bound w c.requires few)));
    }

pub returns-clause-enough : goal.returns-clause-enough
returns-clause-enough c = λ count h l.
    not_below c.args.lane_width c.args.bound c.loop-width.most count c.requires (λ w m. c.loop-width.invariant.tried w (omega arith)) h l
