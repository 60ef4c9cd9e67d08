-- Bit p of word j is bit 64 * j + p of the bytes.
use Rattle.std.proofs.Common.{◌≡◌, ◌≢◌, ℕ, ◌+◌, ◌*◌, ◌<◌, length, slice_index, slice_set, ap, ◌∙◌, below_more, get_or-set_same, get_or-set_other, arith}
use Rattle.std.specs.Int.{bit_at}
use Rattle.std.proofs.Math.ListN.{length-set}
use Rattle.transpose_order.specs.Bytes.{bit_of_bytes}
use Rattle.transpose_order.specs.MaskWords.{bit_at-number_of_bits}
use Rattle.transpose_order.proofs.ByteLemmas.{bit_of_bytes-below}
use Rattle.transpose_order.proofs.bytes.words_of_bytes.Goals as goal

pub loop-j-preserved : goal.loop-j-preserved
loop-j-preserved c =
    let bytes = c.args.bytes.now in
    let j = c.loop-j.j in
    let f : ℕ → ℕ = λ p. bit_of_bytes bytes (8 * (8 * j) + p) in
    record {
      long = simp length-set c.loop-j.invariant.long;
      read = λ k p h.
          below_more (λ k. p < 64 → bit_at (slice_index (slice_set c.loop-j.words j c.number_at.result) k) p ≡ bit_of_bytes bytes (64 * k + p)) j
          (λ k l. let ne : k ≢ j = omega arith in rw get_or-set_other (c.loop-j.invariant.read k p l))
          (let lt : j < length c.loop-j.words = omega arith in rw get_or-set_same (λ m. ap (λ n. bit_at n p) c.number_at.ensures.value ∙ bit_at-number_of_bits 64 f (λ p _. bit_of_bytes-below bytes (8 * (8 * j) + p)) p m ∙ ap (bit_of_bytes bytes) (omega arith)))
          k h;
    }
