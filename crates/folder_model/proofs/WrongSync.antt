-- A sync of the folder after one that failed, by a process that takes it for a sync: what it has kept is not safe.
use Rattle.std.proofs.Common.{◌≡◌, inl, inr, ℕ, true, false, if◌then◌else◌, List, [], ◌∷◌, Some, None, refl, sym}
use Rattle.std.specs.Str.{bytes_eq}
use Rattle.folder_model.specs.Call.{Call, Synced, Settled, Read}
use Rattle.folder_model.specs.Disk.{Disk}
use Rattle.folder_model.specs.Parts.{IsSafe}
use Rattle.folder_model.specs.Turn.{InTurn, IsKept}
use Rattle.folder_model.specs.World.{World}
use Rattle.folder_model.specs.Run.{IsQuiet}
use Rattle.folder_model.proofs.Basics.{some_none}
use Rattle.folder_model.proofs.Wrong.{RunsBy, parts, less, with_others, noted, finds, same_stays, noted_notes, finds_does}

-- the protocol, but that the folder may be synced after a sync of it that failed
abbrev pub Resynced : List Call → Call → Type 0
Resynced calls (Settled ok) = Unit {0}
Resynced calls call = InTurn parts calls call

-- a part that came, whose name is not yet on the disk
abbrev came : Disk
came = record { names = λ n. if bytes_eq n less then Some 1 else None; earlier = λ n. None ∷ []; contents = λ f. less; is_synced = λ f. true }

abbrev pub u0 : World
u0 = record { disk = came; drawn = []; mine = λ p. 0; began = λ p. came; gone = λ p. []; calls = λ p. [] }

abbrev u1 : World
u1 = finds 0 less 1 u0

abbrev u2 : World
u2 = noted 0 (Synced true) u1

abbrev u3 : World
u3 = noted 0 (Settled false) u2

abbrev pub u4 : World
u4 = noted 0 (Settled true) u3

abbrev pub calls : List (ℕ × Call)
calls = (0, Settled true) ∷ (0, Settled false) ∷ (0, Synced true) ∷ (0, Read less (Some (Some less))) ∷ []

run : RunsBy Resynced calls u0 u4
run = (
  u3,
  (
    u2,
    (
      u1,
      (
        u0,
        refl,
        record { in_turn = tt; does = finds_does 0 less 1 u0 refl; notes = record { own = refl; others = λ p ne. with_others 0 (Read less (Some (Some less))) u0 p ne } },
      ),
      record {
        in_turn = tt;
        does = inl (refl, record { names = λ n. refl; earlier = λ n. refl; contents = λ f. refl; own = refl; others = λ f ne. refl }, same_stays 0 (Synced true) u1);
        notes = noted_notes 0 (Synced true) u1;
      },
    ),
    record { in_turn = tt; does = (refl, same_stays 0 (Settled false) u2); notes = noted_notes 0 (Settled false) u2 },
  ),
  record { in_turn = tt; does = inr (refl, refl, same_stays 0 (Settled true) u3); notes = noted_notes 0 (Settled true) u3 },
)

-- It has read that part, synced it and synced the folder after that; and a loss of power may leave nothing.
pub kept_resynced : IsQuiet u0 × RunsBy Resynced calls u0 u4 × IsKept parts less (u4.calls 0) × (IsSafe parts u4.disk less → ⊥)
kept_resynced = (λ p. refl, run, inl (inr (inl refl)), λ safe. let left = safe (λ n. None) (λ n. inr (inl refl)) in some_none left.1 (sym left.2))
