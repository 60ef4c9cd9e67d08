-- A writer that compares what is written with the bytes that are expected.
use Rattle.std.specs.Prelude.{◌≡◌, ◌≤◌, ℕ, Bool, ◌&&◌, ◌==◌, nat_lt, List, [], ◌∷◌, ◌++◌, length, take, drop, Option, Some, None, Result, Ok, Err, cond}
use Rattle.table_model.specs.declared.refusal.Refusal.{Refusal}
use Rattle.table_model.specs.declared.refusal.Refusal.TheVariants.{Memory, WriteFault, NotCanonical}
use Rattle.column_file.specs.Files.{first_difference}

-- the byte that came in the place of an expected one, if one did
abbrev pub other_byte : Option ℕ → List ℕ
other_byte None = []
other_byte (Some byte) = byte ∷ []

-- what came: a number of the expected bytes, and the one in the place of the next, if one came there
abbrev pub came : List ℕ → ℕ → Option ℕ → List ℕ
came expected same other = take same expected ++ other_byte other

-- that number of the expected bytes came, and the byte in the place of the next is another
pub record IsCompared (expected : List ℕ) (same : ℕ) (other : Option ℕ) : Type 0 where
  pub inside : same ≤ length expected
  pub differs : first_difference (drop same expected) (other_byte other) ≡ 0

-- whether exactly what was expected came
abbrev pub is_whole : List ℕ × List ℕ → Bool
is_whole c = first_difference c.0 c.1 == length c.0 && first_difference c.0 c.1 == length c.1

-- whether a byte came that wasn't expected
abbrev pub has_differed : List ℕ × List ℕ → Bool
has_differed c = nat_lt (first_difference c.0 c.1) (length c.1)

-- What a comparison says of a text that was written to it with this outcome: nothing where exactly what was expected came, else the
-- first place that differs, and out of memory where the writing ended before there was one.
abbrev pub verdict : List ℕ × List ℕ → Result (Unit {0}) Refusal → Result (Unit {0}) Refusal
verdict c (Ok done) = cond (is_whole c) (Ok done) (Err (NotCanonical (first_difference c.0 c.1)))
verdict c (Err WriteFault) = cond (has_differed c) (Err (NotCanonical (first_difference c.0 c.1))) (Err Memory)
verdict c (Err other) = Err Memory

-- the contents that a comparison tells: how many bytes are expected, these, and after them what came
abbrev pub told : List ℕ × List ℕ → List ℕ
told c = length c.0 ∷ (c.0 ++ c.1)
