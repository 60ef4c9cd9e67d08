-- No row, or those up to the last.
use Rattle.std.proofs.Common.{◌≡◌, ◌+◌, ◌-◌, ◌<◌, ℕ, ℤ, get_or, pos, FitsSigned, w64, to_z, of_z, sym, ap, subst, ◌∙◌, arith}
use Rattle.std.proofs.lemmas.Int.{ints, to_z-of_z}
use Rattle.query_eval.specs.Packed.{IsSmallSum, packed_sum}
use Rattle.query_eval.specs.Slices.{values_below}
use Rattle.query_eval.proofs.tallies.running_sums.sum_below.Goals as goal

pub returns-then-end-eq0 : goal.returns-then-end-eq0
returns-then-end-eq0 c = record {
  small = (omega (arith, ints), omega (arith, ints));
  sum = λ rows values are. sym (ap (λ k. packed_sum (values_below k rows values)) c.if-end-eq0.true);
}

pub returns : goal.returns
returns c =
    let row : ℕ = c.args.end - 1 in
    let within : row < 1024 = omega (arith, c.requires.within, c.if-end-eq0.false) in
    let small = c.requires.small row within in
    let x : ℤ = get_or c.args.running.now row (pos 0) in
    let fits : FitsSigned w64 x = omega (arith, ints, small.0, small.1) in
    let passed : to_z w64 (of_z w64 x) ≡ x = to_z-of_z w64 x fits in
    let next : row + 1 ≡ c.args.end = omega (arith, c.if-end-eq0.false) in
    record {
      small = subst IsSmallSum (sym passed) small;
      sum = λ rows values are. passed ∙ are row within ∙ ap (λ k. packed_sum (values_below k rows values)) next;
    }
