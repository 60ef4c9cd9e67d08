-- A word is the number of its bytes.
use Rattle.std.proofs.Common.{ℕ, ◌*◌, ◌/◌, ◌+◌, ◌<◌, ◌≡◌, length, take, slice_set, subst, ◌∙◌, arith}
use Rattle.std.proofs.lemmas.List.{length-set, take_more_set}
use Rattle.transpose_order.specs.Mask.{number_of_bits}
use Rattle.transpose_order.specs.Bytes.{bit_of_bytes}
use Rattle.bit_interleave.specs.PackedBytes.{word_of_bytes}
use Rattle.bit_interleave.proofs.WordBytesLemmas.{word_read, words_more}
use Rattle.bit_interleave.proofs.word_bytes.read_into.Goals as goal

pub loop-i-preserved : goal.loop-i-preserved
loop-i-preserved g c =
    let t = g.U.LaneWord.BITS in
    let bytes = c.args.bytes.now in
    let words = c.loop-i.words in
    let i = c.loop-i.i in
    let word = c.from_u64.result in
    let inside : i < length words = omega (arith, c.loop-i-test.true, c.loop-i.invariant.long) in
    let read = subst (λ (n : ℕ). c.number_at.result ≡ number_of_bits (8 * (n / 8)) (λ p. bit_of_bytes bytes (8 * (n / 8 * i) + p))) c.BITS-size.ensures c.number_at.ensures.value in
    record {
      long = length-set words i word ∙ c.loop-i.invariant.long;
      read = words_more g.U.LaneWord.number (take i words) (take (i + 1) (slice_set words i word)) word (word_of_bytes t bytes) i c.loop-i.invariant.read (take_more_set words i word inside) (c.from_u64.ensures ∙ read ∙ word_read t bytes i g.met.U.LaneWord.is_lane_width);
    }
