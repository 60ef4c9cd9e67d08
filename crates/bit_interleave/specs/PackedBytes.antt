-- Packed words as bytes, one word after another, each lowest byte first.
use Rattle.std.specs.Prelude.{◌≡◌, ℕ, ◌+◌, ◌*◌, ◌/◌, ◌%◌, ◌^◌, ◌<◌, ◌≤◌, List, map, length, slice_index}
use Rattle.std.specs.Int.{bit_at}
use Rattle.std.specs.List.{All, range_with_len}
use Rattle.transpose_order.specs.Place.{IsLaneWidth}
use Rattle.transpose_order.specs.Mask.{number_of_bits}
use Rattle.transpose_order.specs.Bytes.{bytes_of_bits, bit_of_bytes}
use Rattle.bit_interleave.specs.PackedWords.{PackedWords, FitLanes, HasWidth}

-- bit b of words of t bits, counted on from one word to the next
unfoldable pub bit_of_words : ℕ → List ℕ → ℕ → ℕ
bit_of_words t numbers b = bit_at (slice_index numbers (b / t)) (b % t)

-- the bytes of words, in order
unfoldable pub bytes_of : PackedWords → List ℕ
bytes_of words =
    bytes_of_bits (length words.numbers * (words.lane_width / 8)) (bit_of_words words.lane_width words.numbers)

-- word j of t bits of bytes
unfoldable pub word_of_bytes : ℕ → List ℕ → ℕ → ℕ
word_of_bytes t bytes j = number_of_bits t (λ p. bit_of_bytes bytes (j * t + p))

-- the words of t bits that bytes are, in order
abbrev pub words_of_bytes : ℕ → List ℕ → PackedWords
words_of_bytes t bytes =
    record { lane_width = t; numbers = map (word_of_bytes t bytes) (range_with_len 0 (length bytes / (t / 8))) }

-- words are found again from their bytes, so no other words of that width have these bytes
abbrev pub WordsComeBackFromBytes : Type 0
WordsComeBackFromBytes =
    (words : PackedWords) → IsLaneWidth words.lane_width → FitLanes words → words_of_bytes words.lane_width (bytes_of words) ≡ words

-- bytes that are a whole number of words are found again from their words
abbrev pub BytesComeBackFromWords : Type 0
BytesComeBackFromWords =
    (t : ℕ) (bytes : List ℕ) → IsLaneWidth t → length bytes % (t / 8) ≡ 0 → All (λ b. b < 2 ^ 8) bytes → bytes_of (words_of_bytes t bytes) ≡ bytes

-- values of w bits take 128 * w bytes at every lane width
abbrev pub PackedVectorsTakeBlocks : Type 0
PackedVectorsTakeBlocks =
    (words : PackedWords) (w : ℕ) → IsLaneWidth words.lane_width → HasWidth words w → length (bytes_of words) ≡ 128 * w

-- 128 * w bytes are the words of values of w bits at every lane width that is at least w
abbrev pub BlocksArePackedVectors : Type 0
BlocksArePackedVectors =
    (t w : ℕ) (bytes : List ℕ) → IsLaneWidth t → w ≤ t → length bytes ≡ 128 * w → HasWidth (words_of_bytes t bytes) w
