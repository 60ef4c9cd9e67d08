-- Bit r of word j is bit j * t + r of the bytes, so words and bytes give each other back.
use Rattle.std.proofs.Common.{◌≡◌, ℕ, ◌+◌, ◌*◌, ◌/◌, ◌%◌, ◌^◌, ◌<◌, ◌≤◌, List, [], ◌∷◌, ◌++◌, map, length, get_or, slice_range, sym, ap, ◌∙◌, subst, arith}
use Rattle.std.specs.Int.{bit_at}
use Rattle.std.specs.List.{All, range_with_len}
use Rattle.std.proofs.lemmas.List.{length-take, length-drop, map-append}
use Rattle.std.proofs.lemmas.List.Edits.{get_or-between}
use Rattle.std.proofs.lemmas.List.Elements.{All-get_or, All-from_get_or}
use Rattle.std.proofs.lemmas.List.FromFn.{length-map-range_with_len, get_or-map-range_with_len, map-range_with_len_more, fill_by_all}
use Rattle.std.proofs.lemmas.Nat.{div-mul-add, mod-mul-add, div-add-mod', mod_below, row_fits}
use Rattle.std.proofs.lemmas.Nat.Bits.{bit_at-lt}
use Rattle.transpose_order.specs.Place.{IsLaneWidth}
use Rattle.transpose_order.specs.Mask.{number_of_bits}
use Rattle.transpose_order.specs.MaskWords.{number_of_bits_is, number_of_bits-below, bit_at-number_of_bits}
use Rattle.transpose_order.specs.Bytes.{byte_of, bytes_of_bits, bit_of_bytes}
use Rattle.transpose_order.proofs.ByteLemmas.{number_of_bits-same, byte_of-same, length-bytes_of_bits, get_or-bytes_of_bits, bytes_of_bits_are, bit_of_bytes-below, bit_of_bytes-bytes_of_bits, bytes_of_bits-bit_of_bytes, bytes_of_bits-same}
use Rattle.transpose_order.proofs.WidthLemmas.{at_widths}
use Rattle.bit_interleave.specs.PackedWords.{PackedWords, FitLanes, HasWidth}
use Rattle.bit_interleave.specs.PackedBytes.{bit_of_words, bytes_of, word_of_bytes, words_of_bytes}
use Rattle.bit_interleave.proofs.StepLemmas.{positive_width}

-- ---- bits
pub bit_of_words_at : (t : ℕ) (words : List ℕ) (j r b : ℕ) → r < t → b ≡ j * t + r → bit_of_words t words b ≡ bit_at (get_or words j 0) r
unfolding bit_of_words
bit_of_words_at t words j r b h e =
    ap (λ n. bit_at (get_or words n 0) (b % t)) (ap (λ n. n / t) e ∙ div-mul-add j t r h)
    ∙ ap (bit_at (get_or words j 0)) (ap (λ n. n % t) e ∙ mod-mul-add j t r h)

pub bit_of_words-below : (t : ℕ) (words : List ℕ) (b : ℕ) → bit_of_words t words b < 2
unfolding bit_of_words
bit_of_words-below t words b = bit_at-lt (get_or words (b / t) 0) (b % t)

pub bit_at-word_of_bytes : (t : ℕ) (bytes : List ℕ) (j r : ℕ) → r < t → bit_at (word_of_bytes t bytes j) r ≡ bit_of_bytes bytes (j * t + r)
unfolding word_of_bytes
bit_at-word_of_bytes t bytes j r h =
    bit_at-number_of_bits t (λ p. bit_of_bytes bytes (j * t + p)) (λ p _. bit_of_bytes-below bytes (j * t + p)) r h

-- ---- lengths
pub bytes_of_width : (t n : ℕ) → IsLaneWidth t → 8 * (n * (t / 8)) ≡ n * t
bytes_of_width t n width =
    at_widths (λ t. 8 * (n * (t / 8)) ≡ n * t) (omega arith) (omega arith) (omega arith) (omega arith) t width

pub length-bytes_of : (words : PackedWords) → length (bytes_of words) ≡ length words.numbers * (words.lane_width / 8)
unfolding bytes_of
length-bytes_of words =
    length-bytes_of_bits (length words.numbers * (words.lane_width / 8)) (bit_of_words words.lane_width words.numbers)

-- a packed vector of w bits takes 128 * w bytes at every lane width
pub length-bytes_of-packed : (words : PackedWords) (w : ℕ) → IsLaneWidth words.lane_width → HasWidth words w → length (bytes_of words) ≡ 128 * w
length-bytes_of-packed words w width has =
    length-bytes_of words ∙ ap (λ n. n * (words.lane_width / 8)) has.count ∙ all words.lane_width width
  where
    all : (t : ℕ) → IsLaneWidth t → w * (1024 / t) * (t / 8) ≡ 128 * w
    all t width =
        at_widths (λ t. w * (1024 / t) * (t / 8) ≡ 128 * w) (omega arith) (omega arith) (omega arith) (omega arith) t width

-- ---- both ways
word_comes_back : (words : PackedWords) (j : ℕ) → IsLaneWidth words.lane_width → j < length words.numbers → get_or words.numbers j 0 < 2 ^ words.lane_width → get_or words.numbers j 0 ≡ word_of_bytes words.lane_width (bytes_of words) j
unfolding bytes_of word_of_bytes
word_comes_back words j width h fits =
    let t = words.lane_width in
    let ns = words.numbers in
    let n = length ns * (t / 8) in
    number_of_bits_is t (get_or ns j 0) (λ p. bit_of_bytes (bytes_of_bits n (bit_of_words t ns)) (j * t + p)) fits
    (λ p l.
    let inside : j * t + p < 8 * n = omega (arith, bytes_of_width t (length ns) width, row_fits j t (length ns) t h (omega arith)) in
    sym (bit_of_bytes-bytes_of_bits n (bit_of_words t ns) (j * t + p) (bit_of_words-below t ns) inside
    ∙ bit_of_words_at t ns j p (j * t + p) l (let same : j * t + p ≡ j * t + p = omega arith in same)))

pub words_come_back_from_bytes : (words : PackedWords) → IsLaneWidth words.lane_width → FitLanes words → words_of_bytes words.lane_width (bytes_of words) ≡ words
words_come_back_from_bytes words width fit =
    let t = words.lane_width in
    let ns = words.numbers in
    let count : length (bytes_of words) / (t / 8) ≡ length ns = ap (λ n. n / (t / 8)) (length-bytes_of words) ∙ back t (length ns) width in
    ap (λ (xs : List ℕ). same_width words xs)
    (ap (λ n. map (word_of_bytes t (bytes_of words)) (range_with_len 0 n)) count
    ∙ sym (fill_by_all (word_of_bytes t (bytes_of words)) ns (length ns) 0 (omega arith)
    (λ j h. word_comes_back words j width h (All-get_or (λ n. n < 2 ^ t) ns j 0 h fit))))
  where
    same_width : PackedWords → List ℕ → PackedWords
    same_width p ns = record { lane_width = p.lane_width; numbers = ns }

    back : (t n : ℕ) → IsLaneWidth t → n * (t / 8) / (t / 8) ≡ n
    back t n width =
        at_widths (λ t. n * (t / 8) / (t / 8) ≡ n) (omega arith) (omega arith) (omega arith) (omega arith) t width

pub bytes_come_back_from_words : (t : ℕ) (bytes : List ℕ) → IsLaneWidth t → length bytes % (t / 8) ≡ 0 → All (λ b. b < 2 ^ 8) bytes → bytes_of (words_of_bytes t bytes) ≡ bytes
unfolding bytes_of
bytes_come_back_from_words t bytes width whole fit =
    let n = length bytes / (t / 8) in
    let f = word_of_bytes t bytes in
    let count : length (map f (range_with_len 0 n)) * (t / 8) ≡ length bytes = ap (λ n. n * (t / 8)) (length-map-range_with_len f 0 n) ∙ back t (length bytes) width whole in
    ap (λ n. bytes_of_bits n (bit_of_words t (map f (range_with_len 0 (length bytes / (t / 8)))))) count
    ∙ bytes_of_bits-same (length bytes) (bit_of_words t (map f (range_with_len 0 n))) (bit_of_bytes bytes)
    (λ b h.
    let positive = positive_width t width in
    let place : b / t * t + b % t ≡ b = div-add-mod' b t in
    let near : b / t < n = in_words t b (length bytes) width whole h in
    bit_of_words_at t (map f (range_with_len 0 n)) (b / t) (b % t) b (mod_below b t positive) (sym place)
    ∙ ap (λ x. bit_at x (b % t)) (get_or-map-range_with_len f 0 n (b / t) (b / t) 0 near (omega arith))
    ∙ bit_at-word_of_bytes t bytes (b / t) (b % t) (mod_below b t positive)
    ∙ ap (bit_of_bytes bytes) place)
    ∙ sym (bytes_of_bits-bit_of_bytes (length bytes) bytes (omega arith) (λ i h. All-get_or (λ b. b < 2 ^ 8) bytes i 0 h fit))
  where
    back : (t n : ℕ) → IsLaneWidth t → n % (t / 8) ≡ 0 → n / (t / 8) * (t / 8) ≡ n
    back t n width =
        at_widths (λ t. n % (t / 8) ≡ 0 → n / (t / 8) * (t / 8) ≡ n) (λ h. omega arith) (λ h. omega arith) (λ h. omega arith) (λ h. omega arith) t width

    in_words : (t b n : ℕ) → IsLaneWidth t → n % (t / 8) ≡ 0 → b < 8 * n → b / t < n / (t / 8)
    in_words t b n width =
        at_widths (λ t. n % (t / 8) ≡ 0 → b < 8 * n → b / t < n / (t / 8)) (λ h l. omega arith) (λ h l. omega arith) (λ h l. omega arith) (λ h l. omega arith) t width

-- ---- a block of 128 bytes
pub block_of_bytes : (words : PackedWords) (block : ℕ) (bytes : List ℕ) → 128 * block + 128 ≤ length (bytes_of words) → bytes ≡ bytes_of_bits 128 (λ b. bit_of_words words.lane_width words.numbers (1024 * block + b)) → bytes ≡ slice_range (bytes_of words) (128 * block) (128 * block + 128)
unfolding bytes_of
block_of_bytes words block bytes within is =
    let f = bit_of_words words.lane_width words.numbers in
    let n = length words.numbers * (words.lane_width / 8) in
    let whole = bytes_of_bits n f in
    let long : length whole ≡ n = length-bytes_of_bits n f in
    let part : length (slice_range whole (128 * block) (128 * block + 128)) ≡ 128 = simp (length-take, length-drop) (omega (arith, long)) in
    is ∙ sym (bytes_of_bits_are 128 (λ b. f (1024 * block + b)) (slice_range whole (128 * block) (128 * block + 128)) part
    (λ i h.
    get_or-between whole (128 * block) (128 * block + 128) i 0 (omega arith)
    ∙ get_or-bytes_of_bits n f (128 * block + i) (omega (arith, long))
    ∙ byte_of-same f (λ b. f (1024 * block + b)) (128 * block + i) i
    (λ p l. ap f (let e : 8 * (128 * block + i) + p ≡ 1024 * block + (8 * i + p) = omega arith in e))))

-- byte r of word i is byte (t / 8) * i + r of the words from the first on
pub byte_of_later_word : (t : ℕ) (words : List ℕ) (first i r : ℕ) → IsLaneWidth t → r < t / 8 → byte_of (bit_at (get_or words (first + i) 0)) r ≡ byte_of (λ b. bit_of_words t words (first * t + b)) (t / 8 * i + r)
byte_of_later_word t words first i r width h =
    byte_of-same (bit_at (get_or words (first + i) 0)) (λ b. bit_of_words t words (first * t + b)) r (t / 8 * i + r)
    (λ p l. sym (bit_of_words_at t words (first + i) (8 * r + p) (first * t + (8 * (t / 8 * i + r) + p)) (inside t r p width h l) (place t first i r p width)))
  where
    inside : (t r p : ℕ) → IsLaneWidth t → r < t / 8 → p < 8 → 8 * r + p < t
    inside t r p width =
        at_widths (λ t. r < t / 8 → p < 8 → 8 * r + p < t) (λ h l. omega arith) (λ h l. omega arith) (λ h l. omega arith) (λ h l. omega arith) t width

    place : (t first i r p : ℕ) → IsLaneWidth t → first * t + (8 * (t / 8 * i + r) + p) ≡ (first + i) * t + (8 * r + p)
    place t first i r p width =
        at_widths (λ t. first * t + (8 * (t / 8 * i + r) + p) ≡ (first + i) * t + (8 * r + p)) (omega arith) (omega arith) (omega arith) (omega arith) t width

-- ---- words from bytes
pub word_read : (t : ℕ) (bytes : List ℕ) (i : ℕ) → IsLaneWidth t → number_of_bits (8 * (t / 8)) (λ p. bit_of_bytes bytes (8 * (t / 8 * i) + p)) ≡ word_of_bytes t bytes i
unfolding word_of_bytes
word_read t bytes i width =
    let whole : 8 * (t / 8) ≡ t = at_widths (λ t. 8 * (t / 8) ≡ t) (omega arith) (omega arith) (omega arith) (omega arith) t width in
    ap (λ n. number_of_bits n (λ p. bit_of_bytes bytes (8 * (t / 8 * i) + p))) whole
    ∙ number_of_bits-same t (λ p. bit_of_bytes bytes (8 * (t / 8 * i) + p)) (λ p. bit_of_bytes bytes (i * t + p))
    (λ p _. ap (λ n. bit_of_bytes bytes (n + p)) (omega (arith, ap (λ n. n * i) whole)))

pub word_of_bytes-below : (t : ℕ) (bytes : List ℕ) (j : ℕ) → word_of_bytes t bytes j < 2 ^ t
unfolding word_of_bytes
word_of_bytes-below t bytes j =
    number_of_bits-below t (λ p. bit_of_bytes bytes (j * t + p)) (λ p _. bit_of_bytes-below bytes (j * t + p))

pub All-words_of_bytes : (t : ℕ) (bytes : List ℕ) (n : ℕ) → All (λ v. v < 2 ^ t) (map (word_of_bytes t bytes) (range_with_len 0 n))
All-words_of_bytes t bytes n =
    let f = word_of_bytes t bytes in
    All-from_get_or (λ v. v < 2 ^ t) (map f (range_with_len 0 n)) 0
    (λ i h. subst (λ (v : ℕ). v < 2 ^ t) (sym (get_or-map-range_with_len f 0 n i i 0 (omega (arith, length-map-range_with_len f 0 n)) (omega arith))) (word_of_bytes-below t bytes i))

-- one more word
pub words_more : {X : Type 0} → (number : X → ℕ) (words new : List X) (x : X) (f : ℕ → ℕ) (i : ℕ) → map number words ≡ map f (range_with_len 0 i) → new ≡ words ++ x ∷ [] → number x ≡ f i → map number new ≡ map f (range_with_len 0 (i + 1))
words_more number words new x f i before is one =
    ap (map number) is ∙ map-append number words (x ∷ [])
    ∙ ap (λ ns. ns ++ number x ∷ []) before ∙ ap (λ n. map f (range_with_len 0 i) ++ n ∷ []) one
    ∙ sym (map-range_with_len_more f 0 i i (omega arith))

-- 128 * w bytes are words of any lane width that pack values of w bits
pub HasWidth-words_of_bytes : (t w : ℕ) (bytes : List ℕ) → IsLaneWidth t → w ≤ t → length bytes ≡ 128 * w → HasWidth (words_of_bytes t bytes) w
HasWidth-words_of_bytes t w bytes width within long =
    record { fits = within; count = length-map-range_with_len (word_of_bytes t bytes) 0 (length bytes / (t / 8)) ∙ ap (λ n. n / (t / 8)) long ∙ all t width }
  where
    all : (t : ℕ) → IsLaneWidth t → 128 * w / (t / 8) ≡ w * (1024 / t)
    all t width =
        at_widths (λ t. 128 * w / (t / 8) ≡ w * (1024 / t)) (omega arith) (omega arith) (omega arith) (omega arith) t width
