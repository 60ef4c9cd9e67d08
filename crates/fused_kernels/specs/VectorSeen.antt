-- A coded vector as lanes.
use Rattle.std.specs.Prelude.{◌≡◌, ◌≢◌, ℕ, ◌+◌, ◌-◌, ◌*◌, ◌%◌, ◌<◌, ◌≤◌, List, length, slice_index}
use Rattle.transpose_order.specs.Mask.{rows_of}
use Rattle.transpose_order.specs.Place.{place_of}
use Rattle.run_dictionary.specs.Runs.{RunForm, run_of}
use Rattle.frame_delta.specs.Delta.{AreSums}
use Rattle.segment_core.specs.Coded.{values_of}
use Rattle.segment_core.specs.CodedVector.{VectorForm, IsVector, is_null}
use Rattle.segment_core.specs.declared.coded.Coded.{Coded}
use Rattle.segment_core.specs.declared.coded.Coded.TheVariants.{For, Delta, Runs, Dict}
use Rattle.fused_kernels.specs.Seen.{LanesSeen}

-- the lane width of a vector's pieces: that of its values, and 16 where they are codes of a dictionary
abbrev pub piece_width : Coded → ℕ
piece_width (For form) = form.lane_width
piece_width (Delta form) = form.lane_width
piece_width (Runs form) = form.lane_width
piece_width (Dict form) = 16

-- the width of the lanes in which a vector's numbers are gone through at their own type, or 0 where it has runs or a dictionary
abbrev pub native_width : Coded → ℕ
native_width (For form) = form.lane_width
native_width (Delta form) = form.lane_width
native_width (Runs form) = 0
native_width (Dict form) = 0

-- what a vector's lanes are seen as, of which a number of pieces were given
abbrev pub vector_seen : VectorForm → ℕ → LanesSeen
vector_seen v q = record { lane_width = piece_width v.coded; rows = v.rows; nulls = rows_of (is_null v.nulls); values = values_of v.coded; given = q }

-- sixteen numbers that are those of the runs of the rows of piece q
pub record AreRuns (form : RunForm) (q : ℕ) (runs : List ℕ) : Type 0 where
  pub long : length runs ≡ 16
  pub lanes : (i : ℕ) → i < 16 → slice_index runs i ≡ run_of form.starts (64 * i + place_of form.lane_width q)

-- what is carried from a piece to the next: within a lane, the sums of its deltas, or the number of its run
abbrev pub AreCarried : Coded → ℕ → List ℕ → Type 0
AreCarried (For form) given sums = Unit {0}
AreCarried (Delta form) given sums = given % form.lane_width ≢ 0 → AreSums form (given - 1) sums
AreCarried (Runs form) given sums = given % form.lane_width ≢ 0 → AreRuns form (given - 1) sums
AreCarried (Dict form) given sums = Unit {0}

-- lanes of which some pieces were given
pub record AreUnderWay (v : VectorForm) (given : ℕ) (sums : List ℕ) : Type 0 where
  pub form : IsVector v
  pub within : given ≤ 64
  pub long : length sums ≡ 16
  pub carried : AreCarried v.coded given sums
