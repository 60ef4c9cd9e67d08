-- A folder of files, each of which holds a set of operations: what may be removed.
use Rattle.std.specs.Prelude.{◌≡◌, ◌≢◌, ◌⊎◌, ◌↔◌, ℕ, List, [], ◌∷◌}
use Rattle.table_model.specs.Operation.{Operation, Among}

-- the operations of one list are among those of another
abbrev pub Within : List Operation → List Operation → Type 0
Within ops others = (op : Operation) → Among op ops → Among op others

-- and not the other way round
pub record IsLess (ops others : List Operation) : Type 0 where
  pub within : Within ops others
  pub more : Within others ops → ⊥

-- what happens to a folder
pub data Event : Type 0 where
  Comes : List ℕ → Event
  Goes : List ℕ → Event

-- a file came at some time; what happened last comes first
abbrev pub Came : List ℕ → List Event → Type 0
Came file [] = ⊥
Came file (Comes other ∷ events) = (file ≡ other) ⊎ Came file events
Came file (Goes other ∷ events) = Came file events

-- a file is there
abbrev pub IsThere : List ℕ → List Event → Type 0
IsThere file [] = ⊥
IsThere file (Comes other ∷ events) = (file ≡ other) ⊎ IsThere file events
IsThere file (Goes other ∷ events) = (file ≢ other) × IsThere file events

-- one came that holds more
abbrev pub IsCovered : (List ℕ → List Operation) → List ℕ → List Event → Type 0
IsCovered holds file events = (other : List ℕ) × Came other events × IsLess (holds file) (holds other)

-- each file that goes holds less than one that came before it went; that one need not be there any more
abbrev pub AreCovered : (List ℕ → List Operation) → List Event → Type 0
AreCovered holds [] = Unit {0}
AreCovered holds (Comes file ∷ events) = AreCovered holds events
AreCovered holds (Goes file ∷ events) = IsCovered holds file events × AreCovered holds events

-- an operation of a file that came; of one that is there
abbrev pub WasBrought : (List ℕ → List Operation) → Operation → List Event → Type 0
WasBrought holds op events = (file : List ℕ) × Came file events × Among op (holds file)

-- an operation is held by a file that is there after these events
abbrev pub IsHeld : (List ℕ → List Operation) → Operation → List Event → Type 0
IsHeld holds op events = (file : List ℕ) × IsThere file events × Among op (holds file)

-- at every moment the files that are there hold exactly what ever came
abbrev pub NothingIsLost : Type 0
NothingIsLost = (holds : List ℕ → List Operation) (events : List Event) → AreCovered holds events → (op : Operation) → IsHeld holds op events ↔ WasBrought holds op events

-- ---- removal under a lock

-- another file that is there has all that a file has
abbrev pub IsCoveredThere : (List ℕ → List Operation) → List ℕ → List Event → Type 0
IsCoveredThere holds file events = (other : List ℕ) × IsThere other events × (other ≢ file) × Within (holds file) (holds other)

-- each file that goes has all that it has in another that is there when it goes
abbrev pub AreCoveredThere : (List ℕ → List Operation) → List Event → Type 0
AreCoveredThere holds [] = Unit {0}
AreCoveredThere holds (Comes file ∷ events) = AreCoveredThere holds events
AreCoveredThere holds (Goes file ∷ events) = IsCoveredThere holds file events × AreCoveredThere holds events

-- at every moment the files that are there have exactly what ever came, also if two files have the same
abbrev pub NothingIsLostThere : Type 0
NothingIsLostThere = (holds : List ℕ → List Operation) (events : List Event) → AreCoveredThere holds events → (op : Operation) → IsHeld holds op events ↔ WasBrought holds op events
