-- Runs of any number of processes that keep to the protocol, of others who add files, of kills and of losses of power.
use Rattle.std.specs.Prelude.{◌≡◌, ◌≢◌, ◌⊎◌, ℕ, List, [], ◌∷◌}
use Rattle.folder_model.specs.Call.{Call, Began}
use Rattle.folder_model.specs.Disk.{Brings, Restarts}
use Rattle.folder_model.specs.Parts.{Parts, IsNoPart, IsThere}
use Rattle.folder_model.specs.Turn.{InTurn, AllInTurn, IsStored, IsKept}
use Rattle.folder_model.specs.World.{World, IsFresh, IsFree, Stays, Removes, Notes, Does}

-- what happens
pub data Event : Type 0 where
  -- a process of this program makes a call
  By : (process : ℕ) (call : Call) → Event
  -- somebody else adds a file, whatever bytes it has
  Comes : (name bytes : List ℕ) → Event
  -- somebody else removes what is no part
  Leaves : (name : List ℕ) → Event
  -- a process ends, or is killed; another one may have its number later
  Ends : (process : ℕ) → Event
  -- the power is lost, and all processes end
  PowerLost : Event

-- a file comes from somebody else
pub record Comings (name bytes : List ℕ) (d e : World) : Type 0 where
  pub file : ℕ
  pub free : IsFree d name
  pub fresh : IsFresh d file
  pub disk : Brings name file bytes d.disk e.disk
  pub stays : Stays d e
  pub calls : (process : ℕ) → e.calls process ≡ d.calls process

-- a name that is no part's is removed by somebody else
pub record Leavings (parts : Parts) (name : List ℕ) (d e : World) : Type 0 where
  pub no_part : IsNoPart parts name
  pub removes : Removes name d e
  pub calls : (process : ℕ) → e.calls process ≡ d.calls process

-- a process ends
pub record Endings (process : ℕ) (d e : World) : Type 0 where
  pub disk : e.disk ≡ d.disk
  pub stays : Stays d e
  pub own : e.calls process ≡ []
  pub others : (other : ℕ) → other ≢ process → e.calls other ≡ d.calls other

-- the power is lost
pub record Losses (d e : World) : Type 0 where
  pub disk : Restarts d.disk e.disk
  pub drawn : e.drawn ≡ d.drawn
  pub calls : (process : ℕ) → e.calls process ≡ []

-- a call by a process, in turn
pub record Calls (parts : Parts) (process : ℕ) (call : Call) (d e : World) : Type 0 where
  pub in_turn : InTurn parts (d.calls process) call
  pub does : Does process call d e
  pub notes : Notes process call d e

-- what happens takes d to e
abbrev pub Happens : Parts → Event → World → World → Type 0
Happens parts (By process call) d e = Calls parts process call d e
Happens parts (Comes name bytes) d e = Comings name bytes d e
Happens parts (Leaves name) d e = Leavings parts name d e
Happens parts (Ends process) d e = Endings process d e
Happens parts PowerLost d e = Losses d e

-- events, the newest first, take d to e
abbrev pub Run : Parts → List Event → World → World → Type 0
Run parts [] d e = e ≡ d
Run parts (event ∷ earlier) d e = (v : World) × Run parts earlier d v × Happens parts event v e

-- the same, if processes make calls in turn or not
abbrev pub FreelyHappens : Parts → Event → World → World → Type 0
FreelyHappens parts (By process call) d e = Does process call d e × Notes process call d e
FreelyHappens parts event d e = Happens parts event d e

-- events of such processes, the newest first, take d to e
abbrev pub FreeRun : Parts → List Event → World → World → Type 0
FreeRun parts [] d e = e ≡ d
FreeRun parts (event ∷ earlier) d e = (v : World) × FreeRun parts earlier d v × FreelyHappens parts event v e

-- At each moment of such a run the calls of each process are in turn, as the clauses of the protocol's functions say.
abbrev pub KeepsTurn : (parts : Parts) (events : List Event) (d e : World) → FreeRun parts events d e → Type 0
KeepsTurn parts [] d e run = Unit {0}
KeepsTurn parts (event ∷ earlier) d e run = ((process : ℕ) → AllInTurn parts (e.calls process)) × KeepsTurn parts earlier d run.0 run.1

-- at some moment of a run
abbrev pub AtSome : (P : World → Type 0) (parts : Parts) (events : List Event) (d e : World) → Run parts events d e → Type 0
AtSome P parts [] d e run = P e
AtSome P parts (event ∷ earlier) d e run = P e ⊎ AtSome P parts earlier d run.0 run.1

-- at some moment of a run since the last loss of power
abbrev pub SinceLoss : (P : World → Type 0) (parts : Parts) (events : List Event) (d e : World) → Run parts events d e → Type 0
SinceLoss P parts [] d e run = P e
SinceLoss P parts (PowerLost ∷ earlier) d e run = P e
SinceLoss P parts (event ∷ earlier) d e run = P e ⊎ SinceLoss P parts earlier d run.0 run.1

-- at some moment before a process began its last listing
abbrev pub BeforeListing : (P : World → Type 0) (process : ℕ) (parts : Parts) (events : List Event) (d e : World) → Run parts events d e → Type 0
BeforeListing P process parts [] d e run = ⊥
BeforeListing P process parts (By other Began ∷ earlier) d e run =
    ((other ≡ process) × AtSome P parts earlier d run.0 run.1) ⊎ ((other ≢ process) × BeforeListing P process parts earlier d run.0 run.1)
BeforeListing P process parts (event ∷ earlier) d e run = BeforeListing P process parts earlier d run.0 run.1

-- no two different parts that are there at some moments of a run have one name
abbrev pub AreDistinct : (parts : Parts) (events : List Event) (d e : World) → Run parts events d e → Type 0
AreDistinct parts events d e run =
    (a b : List ℕ) → AtSome (λ w. IsThere parts w.disk a) parts events d e run → AtSome (λ w. IsThere parts w.disk b) parts events d e run →
    parts.name_of a ≡ parts.name_of b → a ≡ b

-- a process has put these bytes, by its calls, or has kept them
abbrev pub HasPut : Parts → List ℕ → World → Type 0
HasPut parts bytes w = (process : ℕ) × (IsStored parts bytes (w.calls process) ⊎ IsKept parts bytes (w.calls process))

-- no process runs
abbrev pub IsQuiet : World → Type 0
IsQuiet w = (process : ℕ) → w.calls process ≡ []
