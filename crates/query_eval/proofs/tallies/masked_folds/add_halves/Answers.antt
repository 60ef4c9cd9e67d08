-- One row more.
use Rattle.std.proofs.Common.{rules, ◌≡◌, ◌+◌, ◌*◌, ◌/◌, ◌%◌, ◌^◌, ◌<◌, ℕ, cond, get_or, bit_and, pos, FitsSigned, w64, ◌+ℤ◌, sym, ap, subst, ◌∙◌, arith}
use Rattle.std.proofs.lemmas.Int.{to_z-of_z}
use Rattle.std.proofs.lemmas.Nat.{and_mask}
use Rattle.query_eval.specs.Slices.{AreHalves}
use Rattle.query_eval.proofs.MaskedLemmas.{halves, raised_more}
use Rattle.query_eval.proofs.tallies.masked_folds.add_halves.Goals as goal

pub loop-bit-init : goal.loop-bit-init
loop-bit-init c =
    let e : c.args.first + 0 ≡ c.args.first = omega arith in
    record {
      low = omega (arith, c.requires.low);
      high = omega (arith, c.requires.high);
      value = λ rows on h. subst (λ (k : ℕ). AreHalves k rows c.args.values.now c.args.low.now c.args.high.now) (sym e) h;
    }

pub loop-bit-preserved : goal.loop-bit-preserved
loop-bit-preserved c =
    let bit = c.loop-bit.bit in
    let row : ℕ = c.args.first + bit in
    let values = c.args.values.now in
    let inv = c.loop-bit.invariant in
    let n = c.raised_if-raised.result in
    let fits : FitsSigned w64 (get_or values row (pos 0)) = search rules in
    let one : pos n ≡ cond c.is_set.result (get_or values row (pos 0) +ℤ pos (2 ^ 63)) (pos 0) = c.raised_if-raised.ensures ∙ ap (λ z. cond c.is_set.result (z +ℤ pos (2 ^ 63)) (pos 0)) (to_z-of_z w64 (get_or values row (pos 0)) fits) in
    let low : bit_and n 4294967295 ≡ n % 2 ^ 32 = and_mask n 32 in
    let below : n < 2 ^ 64 = c.raised_if-raised.type_inv in
    let parts : bit_and n 4294967295 + 2 ^ 32 * (n / 2 ^ 32) ≡ n = halves n (bit_and n 4294967295) (n / 2 ^ 32) below low (omega arith) in
    let more : c.loop-bit.low + bit_and n 4294967295 + 2 ^ 32 * (c.loop-bit.high + n / 2 ^ 32) ≡ c.loop-bit.low + 2 ^ 32 * c.loop-bit.high + n = omega (arith, parts) in
    let next : row + 1 ≡ c.args.first + (bit + 1) = omega arith in
    record {
      low = omega (arith, inv.low, low);
      high = omega (arith, inv.high, below);
      value = λ rows on h.
          subst (λ (k : ℕ). AreHalves k rows values (c.loop-bit.low + bit_and n 4294967295) (c.loop-bit.high + n / 2 ^ 32)) next
          (raised_more (2 ^ 63) c.is_set.result row (c.loop-bit.low + 2 ^ 32 * c.loop-bit.high) _ n rows values (sym (on bit c.loop-bit-test.true) ∙ sym c.is_set.ensures) (inv.value rows on h) one more);
    }
