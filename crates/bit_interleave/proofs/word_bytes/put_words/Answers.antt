-- Byte r of word i is byte size * i + r of those written.
use Rattle.std.proofs.Common.{◌≡◌, ℕ, ◌+◌, ◌-◌, ◌*◌, ◌/◌, ◌<◌, ◌≤◌, ⊎_elim, inl, List, map, length, get_or, sym, ap, subst, ◌∙◌, arith}
use Rattle.std.specs.Int.{bit_at}
use Rattle.std.proofs.lemmas.Bool.{cases_lt}
use Rattle.std.proofs.lemmas.List.{length-map}
use Rattle.transpose_order.specs.Place.{IsLaneWidth}
use Rattle.transpose_order.specs.Bytes.{byte_of, bytes_of_bits}
use Rattle.transpose_order.proofs.ByteLemmas.{bytes_of_bits_are, byte_of-same}
use Rattle.transpose_order.proofs.WidthLemmas.{at_widths}
use Rattle.bit_interleave.specs.PackedBytes.{bit_of_words, bytes_of}
use Rattle.bit_interleave.proofs.PackLemmas.{value_read}
use Rattle.bit_interleave.proofs.WordBytesLemmas.{byte_of_later_word, length-bytes_of, block_of_bytes}
use Rattle.bit_interleave.proofs.word_bytes.put_words.Goals as goal

-- the words of the block are there
words_are_there : (bits t block : ℕ) {X : Type 0} (number : X → ℕ) (words : List X) → t ≡ bits → IsLaneWidth bits → 128 * block + 128 ≤ length (bytes_of (record { lane_width = bits; numbers = map number words })) → block * (1024 / t) + 1024 / t ≤ length words
words_are_there bits t block number words is width room =
    subst (λ (n : ℕ). block * (1024 / n) + 1024 / n ≤ length words) (sym is)
    (at_widths (λ t. 128 * block + 128 ≤ length words * (t / 8) → block * (1024 / t) + 1024 / t ≤ length words)
    (λ h. omega arith) (λ h. omega arith) (λ h. omega arith) (λ h. omega arith) bits width
    (omega (arith, room, length-bytes_of (record { lane_width = bits; numbers = map number words }), ap (λ n. n * (bits / 8)) (length-map words number))))

pub overflow_mul-first : goal.overflow_mul-first
overflow_mul-first g c = let room = words_are_there g.U.LaneWord.BITS c.BITS-bits.result c.args.block g.U.LaneWord.number c.args.words.now c.BITS-bits.ensures g.met.U.LaneWord.is_lane_width c.requires in omega (arith, room)

pub overflow_add-first : goal.overflow_add-first
overflow_add-first g c = let room = words_are_there g.U.LaneWord.BITS c.BITS-bits.result c.args.block g.U.LaneWord.number c.args.words.now c.BITS-bits.ensures g.met.U.LaneWord.is_lane_width c.requires in omega (arith, room)

pub offset_bounds-words-first : goal.offset_bounds-words-first
offset_bounds-words-first g c = let room = words_are_there g.U.LaneWord.BITS c.BITS-bits.result c.args.block g.U.LaneWord.number c.args.words.now c.BITS-bits.ensures g.met.U.LaneWord.is_lane_width c.requires in omega (arith, room)

pub bounds-words-first : goal.bounds-words-first
bounds-words-first g c = let room = words_are_there g.U.LaneWord.BITS c.BITS-bits.result c.args.block g.U.LaneWord.number c.args.words.now c.BITS-bits.ensures g.met.U.LaneWord.is_lane_width c.requires in omega (arith, room)

pub loop-i-preserved : goal.loop-i-preserved
loop-i-preserved g c =
    let t = c.BITS-bits.result in
    let words = map g.U.LaneWord.number c.args.words.now in
    let i = c.loop-i.i in
    let first = c.args.block * (1024 / t) in
    let f : ℕ → ℕ = λ b. bit_of_words t words (first * t + b) in
    let width : IsLaneWidth t = subst IsLaneWidth (sym c.BITS-bits.ensures) g.met.U.LaneWord.is_lane_width in
    let room : first + 1024 / t ≤ length c.args.words.now = words_are_there g.U.LaneWord.BITS t c.args.block g.U.LaneWord.number c.args.words.now c.BITS-bits.ensures g.met.U.LaneWord.is_lane_width c.requires in
    let word : c.to_u64.result ≡ get_or words (first + i) 0 = value_read g.U.LaneWord.number c.args.words.now (first + i) c.index-words-first.result c.to_u64.result (omega (arith, room)) (c.to_u64.ensures.kept ∙ ap g.U.LaneWord.number c.index-words-first.is) in
    record {
      long = c.put_number.auto.bytes ∙ c.loop-i.invariant.long;
      written = λ k h.
          ⊎_elim (λ (l : k < t / 8 * i). c.put_number.ensures.others k (inl l) ∙ c.loop-i.invariant.written k l)
          (λ (l : t / 8 * i ≤ k).
          let r = k - t / 8 * i in
          let place : t / 8 * i + r ≡ k = omega arith in
          let near : r < t / 8 = omega arith in
          ap (λ n. get_or c.put_number.new.bytes n 0) (sym place) ∙ c.put_number.ensures.written r near
          ∙ ap (λ (n : ℕ). byte_of (bit_at n) r) word
          ∙ byte_of_later_word t words first i r width near ∙ ap (byte_of f) place)
          (cases_lt k (t / 8 * i));
    }

pub returns : goal.returns
returns g c =
    let t = c.BITS-bits.result in
    let words = map g.U.LaneWord.number c.args.words.now in
    let first = c.args.block * (1024 / t) in
    let width : IsLaneWidth t = subst IsLaneWidth (sym c.BITS-bits.ensures) g.met.U.LaneWord.is_lane_width in
    let all : t / 8 * c.loop-i.i ≡ 128 = ap (λ n. t / 8 * n) (let e : c.loop-i.i ≡ 1024 / t = omega arith in e) ∙ at_widths (λ t. t / 8 * (1024 / t) ≡ 128) (omega arith) (omega arith) (omega arith) (omega arith) t width in
    let start : first * t ≡ 1024 * c.args.block = at_widths (λ t. c.args.block * (1024 / t) * t ≡ 1024 * c.args.block) (omega arith) (omega arith) (omega arith) (omega arith) t width in
    block_of_bytes (record { lane_width = g.U.LaneWord.BITS; numbers = words }) c.args.block c.loop-i.bytes c.requires
    (subst (λ (n : ℕ). c.loop-i.bytes ≡ bytes_of_bits 128 (λ b. bit_of_words n words (1024 * c.args.block + b))) c.BITS-bits.ensures
    (bytes_of_bits_are 128 (λ b. bit_of_words t words (1024 * c.args.block + b)) c.loop-i.bytes c.loop-i.invariant.long
    (λ k h. c.loop-i.invariant.written k (omega (arith, all)) ∙ byte_of-same (λ b. bit_of_words t words (first * t + b)) (λ b. bit_of_words t words (1024 * c.args.block + b)) k k (λ p _. ap (λ n. bit_of_words t words (n + (8 * k + p))) start))))
