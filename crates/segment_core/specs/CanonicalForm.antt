-- What makes coded values the canonical form of a vector whose values they are.
use Rattle.std.specs.Prelude.{◌≡◌, ℕ, ◌<◌, Bool, ℤ, List}
use Rattle.std.specs.Int.{w64, cast_unsigned}
use Rattle.bit_interleave.specs.Range.{value_at}
use Rattle.bit_interleave.specs.Places.{by_place}
use Rattle.segment_core.specs.Coded.{lane_width_of, values_of, coding_of, least_form}
use Rattle.segment_core.specs.Choice.{choice}
use Rattle.segment_core.specs.Repeats.{Repeats}
use Rattle.segment_core.specs.declared.coded.Coded.{Coded}

-- the values repeat the row before as the fill asks, and are in the least form of the coding that is chosen for them
pub record IsCanonicalForm (rows : List Bool) (valueless : Bool) (c : Coded) : Type 0 where
  pub filled : Repeats rows valueless (values_of c)
  pub least : c ≡ least_form (coding_of c) (lane_width_of c) (values_of c)
  pub chosen : choice (lane_width_of c) (values_of c) ≡ coding_of c

-- numbers by places that are the values, read without a sign as 64 bits
abbrev pub AreSigned : List ℕ → List ℤ → Type 0
AreSigned numbers values =
    (n : ℕ) → n < 1024 → by_place numbers n ≡ cast_unsigned w64 (value_at values n)
