-- The names of temporaries.
use Rattle.std.specs.Prelude.{ℕ, Bool, ◌&&◌, ◌==◌, List, length, take, drop, codes}
use Rattle.std.specs.List.{list_all}
use Rattle.std.specs.Str.{bytes_eq}
use Rattle.folder_model.specs.Digits.{is_digit}

-- whether these are 16 digits
abbrev pub are_digits : List ℕ → Bool
are_digits text = length text == 16 && list_all is_digit text

-- whether a name is that of a temporary: `.part-` and 16 digits
unfoldable pub is_temporary : List ℕ → Bool
is_temporary name = bytes_eq (take 6 name) (codes ".part-") && are_digits (drop 6 name)
