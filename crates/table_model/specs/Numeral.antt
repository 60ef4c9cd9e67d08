-- Whole numbers in decimal digits, as the text of a script and of comma-separated values has them.
use Rattle.std.specs.Prelude.{ℕ, Bool, cond, ◌&&◌, nat_le, List, length, Option, Some, None, option_map, ℤ, pos, neg_ℤ}
use Rattle.std.specs.List.{list_all}
use Rattle.std.specs.Char.{is_ascii_digit}
use Rattle.std.specs.Str.Parse.{digits_value}
use Rattle.table_model.specs.Pieces.{without}

-- how many digits a value is written with at most, its sign apart
abbrev pub value_digits : ℕ
value_digits = 30

-- 1 to a number of digits
unfoldable pub is_numeral : ℕ → List ℕ → Bool
is_numeral digits text = nat_le 1 (length text) && (nat_le (length text) digits && list_all is_ascii_digit text)

-- the number that 1 to value_digits digits write
unfoldable pub magnitude_of : List ℕ → Option ℕ
magnitude_of text = cond (is_numeral value_digits text) (Some (digits_value 10 text)) None

-- a number whose sign, if it has one, was taken off
abbrev pub signed_of : List ℕ → Option (List ℕ) → Option ℤ
signed_of text (Some digits) = option_map (λ n. neg_ℤ (pos n)) (magnitude_of digits)
signed_of text None = option_map pos (magnitude_of text)

-- a whole number: an optional minus sign and 1 to value_digits digits
abbrev pub integer_of : List ℕ → Option ℤ
integer_of text = signed_of text (without 45 text)
