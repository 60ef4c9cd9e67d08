-- What the memory of a caller holds after a call: its room for bytes, the length and the place that it gets, and what is answered.
use Rattle.std.specs.Prelude.{◌≡◌, ℕ, cond, nat_le, List, ◌++◌, length, drop, Result, Ok, Err}
use Rattle.std.specs.Global.{Vec}
use Rattle.lanes_c.specs.Faults.{nowhere, number_of_fault, place_of_fault}
use Rattle.lanes_c.specs.declared.fault.Place.{Place}
use Rattle.lanes_c.specs.declared.fault.Fault.{Fault}

-- what a call gives: bytes, or why not
abbrev pub Given : Type 0
Given = Result (List ℕ) Fault

-- the bytes of a vector, or why there are none
abbrev pub given_by : Result (Vec ℕ) Fault → Given
given_by (Ok bytes) = Ok bytes.items
given_by (Err fault) = Err fault

-- bytes or numbers are at a room's front if they fit; else the room is as it was
abbrev pub filled : {X : Type 0} → List X → List X → List X
filled items room = cond (nat_le (length items) (length room)) (items ++ drop (length items) room) room

-- 0 is answered with bytes, and else the fault's number
abbrev pub number_told : Given → ℕ
number_told (Ok bytes) = 0
number_told (Err fault) = number_of_fault fault

-- the room then
abbrev pub room_left : Given → List ℕ → List ℕ
room_left (Ok bytes) room = filled bytes room
room_left (Err fault) room = room

-- the length that is reported: that of the bytes, whether they fit or not
abbrev pub length_told : Given → ℕ
length_told (Ok bytes) = length bytes
length_told (Err fault) = 0

-- the place that is reported
abbrev pub place_told : Given → Place
place_told (Ok bytes) = nowhere
place_told (Err fault) = place_of_fault fault

-- What a call told and what the room is after it: it gave bytes or a fault, of which Means says what it has to, and the number, the
-- room, the length and the place are those of that.
pub record Tells (Means : Given → Type 0) (answered : ℕ) (old new : List ℕ) (told : ℕ) (at : Place) : Type 0 where
  pub given : Given
  pub meant : Means given
  pub number : answered ≡ number_told given
  pub room : new ≡ room_left given old
  pub length : told ≡ length_told given
  pub place : at ≡ place_told given

-- What a call told that is refused nothing: a text, whose length is answered, and which is in the room if it fits.
pub record IsFilled (Means : List ℕ → Type 0) (answered : ℕ) (old new : List ℕ) : Type 0 where
  pub text : List ℕ
  pub meant : Means text
  pub length : answered ≡ length text
  pub room : new ≡ filled text old
