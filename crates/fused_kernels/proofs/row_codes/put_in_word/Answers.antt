-- One row more.
use Rattle.std.proofs.Common.{◌≡◌, ◌==◌, ℕ, ◌+◌, ◌<◌, cond, length, slice_index, set, ap, ◌∙◌, below_more, arith}
use Rattle.std.specs.Int.{bit_at}
use Rattle.std.proofs.lemmas.List.{get_or-set_same, get_or-set_other, length-set}
use Rattle.std.proofs.lemmas.Nat.Bits.{shr_and_one}
use Rattle.fused_kernels.proofs.row_codes.put_in_word.Goals as goal

pub loop-bit-preserved : goal.loop-bit-preserved
loop-bit-preserved c =
    let bit = c.loop-bit.bit in
    let first = c.args.first in
    let word = c.args.word in
    let code = c.args.code in
    let start = c.args.codes.now in
    let old = c.loop-bit.codes in
    let inv = c.loop-bit.invariant in
    let value = c.code_if.result in
    let inside : first + bit < length old = omega (arith, inv.long, c.loop-bit-test.true, c.requires) in
    let is : value ≡ cond (bit_at word bit == 1) code (slice_index start (first + bit)) =
    c.code_if.ensures ∙ ap (λ (n : ℕ). cond (n == 1) code (slice_index old (first + bit))) (shr_and_one word bit)
    ∙ ap (λ (x : ℕ). cond (bit_at word bit == 1) code x) (inv.after (first + bit) (omega arith)) in
    record {
      long = length-set old (first + bit) value ∙ inv.long;
      written = below_more (λ b. slice_index (set old (first + bit) value) (first + b) ≡ cond (bit_at word b == 1) code (slice_index start (first + b))) bit
          (λ b l. get_or-set_other old (first + bit) (first + b) value 0 (λ e. omega (arith, e, l)) ∙ inv.written b l)
          (get_or-set_same old (first + bit) value 0 inside ∙ is);
      before = λ n h. get_or-set_other old (first + bit) n value 0 (λ e. omega (arith, e, h)) ∙ inv.before n h;
      after = λ n h. get_or-set_other old (first + bit) n value 0 (λ e. omega (arith, e, h)) ∙ inv.after n (omega (arith, h));
    }
