-- The low sixteen bits of values, and twelve bits of numbers, by which they are counted without a sort.
use Rattle.std.specs.Prelude.{ℕ, ◌+◌, ◌*◌, ◌/◌, ◌%◌, ◌^◌, ℤ, pos, List, map}
use Rattle.std.specs.Int.{w64, cast_unsigned}

-- the low sixteen bits of a value
unfoldable pub key_of : ℤ → ℕ
key_of value = cast_unsigned w64 value % 65536

-- the keys of values in their order
abbrev pub keys_of : List ℤ → List ℤ
keys_of values = map (λ value. pos (key_of value)) values

-- the mark of a number, below 4096: the number itself where it is below 4096, else its low twelve bits moved on by a mix of those above
unfoldable pub mark_of : ℕ → ℕ
mark_of number = (number + number / 4096 * 11400714819323198485 % 2 ^ 64 / 2 ^ 52) % 4096

-- the marks of numbers in their order
abbrev pub marks_of : List ℕ → List ℤ
marks_of numbers = map (λ number. pos (mark_of number)) numbers
