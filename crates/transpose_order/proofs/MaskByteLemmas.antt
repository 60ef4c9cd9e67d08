-- Bit p of byte i is row 8 * i + p, so a mask and its bytes give each other back.
use Rattle.std.proofs.Common.{◌≡◌, ℕ, ◌+◌, ◌*◌, ◌/◌, ◌%◌, ◌^◌, ◌<◌, Bool, true, false, cond, ◌==◌, List, length, get_or, count_by, refl, sym, ap, ◌∙◌, arith}
use Rattle.std.specs.Int.{bit_at}
use Rattle.std.specs.List.{All}
use Rattle.std.proofs.lemmas.Nat.Bits.{bit_at-lt}
use Rattle.std.proofs.lemmas.List.Elements.{All-get_or}
use Rattle.transpose_order.specs.Mask.{rows_of, has, truth_at, count_below}
use Rattle.transpose_order.specs.MaskWords.{has-rows_of, rows_of-same, rows_of-like, bit_from_test}
use Rattle.transpose_order.specs.Bytes.{bytes_of_bits, bit_of_bytes}
use Rattle.transpose_order.specs.MaskBytes.{mask_bytes, rows_of_bytes}
use Rattle.transpose_order.proofs.MaskLemmas.{count_by-rows_of, has-words, rows_of-words}
use Rattle.transpose_order.proofs.ByteLemmas.{bit_of_bytes-below, bit_of_bytes-bytes_of_bits, bytes_of_bits-bit_of_bytes, bytes_of_bits-same}

pub rows_of-has : (mask : List Bool) → length mask ≡ 1024 → mask ≡ rows_of (has mask)
rows_of-has mask long = rows_of-same (has mask) mask false long (λ n h. refl)

bit_of_truth : (b : Bool) → cond b 1 0 < 2
bit_of_truth true = omega arith
bit_of_truth false = omega arith

test_of_truth : (b : Bool) → (cond b 1 0 == 1) ≡ b
test_of_truth true = refl
test_of_truth false = refl

pub mask_comes_back : (mask : List Bool) → length mask ≡ 1024 → rows_of_bytes (mask_bytes mask) ≡ mask
unfolding mask_bytes rows_of_bytes
mask_comes_back mask long =
    rows_of-like (λ n. bit_of_bytes (bytes_of_bits 128 (λ n. cond (has mask n) 1 0)) n == 1) (has mask)
    (λ n h. ap (λ b. b == 1) (bit_of_bytes-bytes_of_bits 128 (λ n. cond (has mask n) 1 0) n (λ n. bit_of_truth (has mask n)) (omega arith)) ∙ test_of_truth (has mask n))
    ∙ sym (rows_of-has mask long)

pub bytes_come_back : (bytes : List ℕ) → length bytes ≡ 128 → All (λ b. b < 2 ^ 8) bytes → mask_bytes (rows_of_bytes bytes) ≡ bytes
unfolding mask_bytes rows_of_bytes
bytes_come_back bytes long fit =
    bytes_of_bits-same 128 (λ n. cond (has (rows_of (λ n. bit_of_bytes bytes n == 1)) n) 1 0) (bit_of_bytes bytes)
    (λ n h. ap (λ b. cond b 1 0) (has-rows_of (λ n. bit_of_bytes bytes n == 1) n (omega arith)) ∙ bit_from_test (bit_of_bytes bytes n) (bit_of_bytes-below bytes n))
    ∙ sym (bytes_of_bits-bit_of_bytes 128 bytes long (λ i h. All-get_or (λ b. b < 2 ^ 8) bytes i 0 (omega arith) fit))

pub count_below-count_by : (mask : List Bool) → length mask ≡ 1024 → count_below (has mask) 1024 ≡ count_by (λ row. row) mask
count_below-count_by mask long =
    sym (count_by-rows_of (has mask)) ∙ ap (count_by (λ row. row)) (sym (rows_of-has mask long))

-- the bytes of a mask's words
pub mask_bytes-words : (words : List ℕ) (mask : List Bool) → rows_of (truth_at words) ≡ mask → bytes_of_bits 128 (λ b. bit_at (get_or words (b / 64) 0) (b % 64)) ≡ mask_bytes mask
unfolding mask_bytes
mask_bytes-words words mask e =
    bytes_of_bits-same 128 (λ b. bit_at (get_or words (b / 64) 0) (b % 64)) (λ n. cond (has mask n) 1 0)
    (λ n h. sym (ap (λ b. cond b 1 0) (has-words words mask e n (omega arith)) ∙ bit_from_test (bit_at (get_or words (n / 64) 0) (n % 64)) (bit_at-lt (get_or words (n / 64) 0) (n % 64))))

-- the mask of words read from bytes
pub rows_of_bytes-words : (words bytes : List ℕ) → ((j p : ℕ) → j < 16 → p < 64 → bit_at (get_or words j 0) p ≡ bit_of_bytes bytes (64 * j + p)) → rows_of (truth_at words) ≡ rows_of_bytes bytes
unfolding rows_of_bytes
rows_of_bytes-words words bytes h =
    rows_of-words words (λ n. bit_of_bytes bytes n == 1) (λ j p l m. ap (λ b. b == 1) (h j p l m))
