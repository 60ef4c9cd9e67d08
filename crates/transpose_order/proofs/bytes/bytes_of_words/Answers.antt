-- Byte i of word j is byte 8 * j + i of all.
use Rattle.std.proofs.Common.{◌≡◌, ℕ, ◌+◌, ◌-◌, ◌*◌, ◌/◌, ◌%◌, ◌<◌, ◌≤◌, ⊎_elim, inl, slice_index, get_or, sym, ap, ◌∙◌, arith}
use Rattle.std.specs.Int.{bit_at}
use Rattle.std.proofs.lemmas.Bool.{cases_lt}
use Rattle.transpose_order.specs.Bytes.{byte_of}
use Rattle.transpose_order.proofs.ByteLemmas.{bytes_of_bits_are, byte_of_word}
use Rattle.transpose_order.proofs.bytes.bytes_of_words.Goals as goal

pub loop-j-preserved : goal.loop-j-preserved
loop-j-preserved c =
    let words = c.args.words.now in
    let j = c.loop-j.j in
    let f : ℕ → ℕ = λ b. bit_at (slice_index words (b / 64)) (b % 64) in
    record {
      long = c.put_number.auto.bytes ∙ c.loop-j.invariant.long;
      written = λ k h.
          ⊎_elim (λ (l : k < 8 * j). c.put_number.ensures.others k (inl l) ∙ c.loop-j.invariant.written k l)
          (λ (l : 8 * j ≤ k).
          let i = k - 8 * j in
          let place : 8 * j + i ≡ k = omega arith in
          ap (λ n. get_or c.put_number.new.bytes n 0) (sym place) ∙ c.put_number.ensures.written i (omega arith)
          ∙ byte_of_word words 64 8 j i (omega arith) (omega arith) ∙ ap (byte_of f) place)
          (cases_lt k (8 * j));
    }

pub returns : goal.returns
returns c =
    bytes_of_bits_are 128 (λ b. bit_at (slice_index c.args.words.now (b / 64)) (b % 64)) c.loop-j.bytes c.loop-j.invariant.long
    (λ i h. c.loop-j.invariant.written i (omega arith))
