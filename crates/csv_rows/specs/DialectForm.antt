-- The dialect of a text of comma-separated values: what separates its fields, which word of its own is a null, what its fields are, and
-- whether its last line too needs an end.
use Rattle.std.specs.Prelude.{ℕ, Bool, false, List, Option, Some, None}
use Rattle.table_model.specs.Identifier.{same_text}

-- A dialect: the byte between two fields of a line; a word that is a null besides the usual ones, if there is such a word; and, where
-- this is given, for each field of a line the place of its column, or none where the field is passed over; and whether a last line
-- without an end is refused.
pub record DialectForm : Type 0 where
  pub separator : ℕ
  pub null_word : Option (List ℕ)
  pub order : Option (List (Option ℕ))
  pub needs_ends : Bool

-- a comma separates, no other word is a null, the header says what the fields are, and the last line may be without an end
abbrev pub usual : DialectForm
usual = record { separator = 44; null_word = None; order = None; needs_ends = false }

-- whether a text is the dialect's own word for a null
abbrev pub is_own_word : Option (List ℕ) → List ℕ → Bool
is_own_word None text = false
is_own_word (Some word) text = same_text text word
