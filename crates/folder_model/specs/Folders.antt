-- A folder is a home.
use Rattle.std.specs.Prelude.{◌≡◌, ◌⊎◌, ℕ, List}
use Rattle.folder_model.specs.Parts.{Parts, IsThere, IsSafe}
use Rattle.folder_model.specs.Turn.{IsStored, IsKept, HasReadAll, HasReadSince}
use Rattle.folder_model.specs.World.{World}
use Rattle.folder_model.specs.Run.{Event, Run, AtSome}
use Rattle.folder_model.specs.Laws.{IsFair}
use Rattle.folder_model.specs.Keeps.{Keeps}

-- a moment of a run of processes that keep to the protocol
pub record FolderMoment (parts : Parts) : Type 0 where
  pub events : List Event
  pub first : World
  pub now : World
  pub run : Run parts events first now
  pub fair : IsFair parts events first now run

-- the bytes are safe
abbrev pub SafeInFolder : (parts : Parts) → FolderMoment parts → List ℕ → Type 0
SafeInFolder parts m bytes = IsSafe parts m.now.disk bytes

-- one moment is one of those before another, in its run
abbrev pub LaterInFolder : (parts : Parts) → FolderMoment parts → FolderMoment parts → Type 0
LaterInFolder parts m n = AtSome (λ w. w ≡ m.now) parts n.events n.first n.now n.run

-- a process has put the bytes, or has kept them
abbrev pub AnsweredInFolder : (parts : Parts) → FolderMoment parts → ℕ → List ℕ → Type 0
AnsweredInFolder parts m process bytes = IsStored parts bytes (m.now.calls process) ⊎ IsKept parts bytes (m.now.calls process)

-- a process has read all that its last listing gave, and a part with these bytes was there when that began
abbrev pub BeganInFolder : (parts : Parts) → FolderMoment parts → ℕ → List ℕ → Type 0
BeganInFolder parts m process bytes = HasReadAll parts (m.now.calls process) × IsThere parts (m.now.began process) bytes

-- it has read that part
abbrev pub ReadInFolder : (parts : Parts) → FolderMoment parts → ℕ → List ℕ → Type 0
ReadInFolder parts m process bytes = HasReadSince parts bytes (m.now.calls process)

-- folders of parts are homes
abbrev pub FoldersKeep : Type 0
FoldersKeep = (parts : Parts) → Keeps {M = FolderMoment parts} (LaterInFolder parts) (SafeInFolder parts) (AnsweredInFolder parts) (BeganInFolder parts) (ReadInFolder parts)
