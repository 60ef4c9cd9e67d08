-- A mask as 128 bytes.
use Rattle.std.specs.Prelude.{◌≡◌, ℕ, ◌^◌, ◌<◌, Bool, cond, ◌==◌, List, length, count_by}
use Rattle.std.specs.List.{All}
use Rattle.transpose_order.specs.Mask.{rows_of, has, count_below}
use Rattle.transpose_order.specs.Bytes.{bytes_of_bits, bit_of_bytes}

-- the 128 bytes of a mask: row n is bit n % 8 of byte n / 8
unfoldable pub mask_bytes : List Bool → List ℕ
mask_bytes mask = bytes_of_bits 128 (λ n. cond (has mask n) 1 0)

-- the mask of 128 bytes: row n is bit n % 8 of byte n / 8
unfoldable pub rows_of_bytes : List ℕ → List Bool
rows_of_bytes bytes = rows_of (λ n. bit_of_bytes bytes n == 1)

-- a mask is found again from its bytes
abbrev pub MasksComeBack : Type 0
MasksComeBack = (mask : List Bool) → length mask ≡ 1024 → rows_of_bytes (mask_bytes mask) ≡ mask

-- 128 bytes are found again from their mask, so each is some row's
abbrev pub MaskBytesComeBack : Type 0
MaskBytesComeBack =
    (bytes : List ℕ) → length bytes ≡ 128 → All (λ b. b < 2 ^ 8) bytes → mask_bytes (rows_of_bytes bytes) ≡ bytes

-- the rows of a mask are counted alike as a list and below their number
abbrev pub CountsAgree : Type 0
CountsAgree = (mask : List Bool) → length mask ≡ 1024 → count_below (has mask) 1024 ≡ count_by (λ row. row) mask
