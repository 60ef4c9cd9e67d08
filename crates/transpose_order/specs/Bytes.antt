-- Bits as bytes: bit b is bit b % 8 of byte b / 8.
use Rattle.std.specs.Prelude.{ℕ, ◌+◌, ◌*◌, ◌/◌, ◌%◌, List, map, slice_index}
use Rattle.std.specs.Int.{bit_at}
use Rattle.std.specs.List.{range_with_len}
use Rattle.transpose_order.specs.Mask.{number_of_bits}

-- byte i of the bits of f: bits 8 * i to 8 * i + 7, lowest first
unfoldable pub byte_of : (ℕ → ℕ) → ℕ → ℕ
byte_of f i = number_of_bits 8 (λ p. f (8 * i + p))

-- the first n bytes of the bits of f
unfoldable pub bytes_of_bits : ℕ → (ℕ → ℕ) → List ℕ
bytes_of_bits n f = map (λ i. byte_of f i) (range_with_len 0 n)

-- bit b of bytes, 0 past their end
unfoldable pub bit_of_bytes : List ℕ → ℕ → ℕ
bit_of_bytes bytes b = bit_at (slice_index bytes (b / 8)) (b % 8)
