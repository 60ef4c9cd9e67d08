-- What a handle of a turn has, and what is told of it.
use Rattle.std.proofs.Common.{◌≡◌, refl, sym, subst, ap, ◌∙◌, inl, inr, ℕ, List, MatchOption, MatchResult, Option, Some, None, Result, Ok, Err}
use Rattle.folder_model.specs.Call.{Call}
use Rattle.folder_turns.specs.Turns.{State}
use Rattle.lanes_c.specs.FolderTurns.{Adds, Drives, DrivesOpen, GoesOn, HasTold, IsAbout, names_left}
use Rattle.lanes_c.specs.Rooms.{Given}
use Rattle.lanes_c.specs.declared.fault.Fault.{Fault}
use Rattle.lanes_c.specs.declared.fault.Fault.TheVariants.{NotOpen}
use Rattle.lanes_c.specs.declared.turn_calls.FolderCall.{FolderCall}
use Rattle.lanes_c.specs.declared.turn_handle.FolderTurn.{FolderTurn}

module _ (before : List Call) (kind number : ℕ) (bytes : List ℕ) (old new : FolderTurn) (call : FolderCall) where
  -- of a closed one NotOpen is told
  pub not_open : old.state ≡ None → new.state ≡ None → DrivesOpen before kind number bytes old new call (Err NotOpen)
  not_open closed is =
      let no : Given = Err NotOpen in
      subst
      (λ (s : Option State). MatchOption s ((no ≡ Err NotOpen) × (new.state ≡ None)) (λ was. MatchOption new.state ⊥ (λ now. Drives before kind number bytes was now call no)))
      (sym closed)
      (refl, is)

  -- an open one has gone on
  pub driven_open : (was now : State) (given : Given) → old.state ≡ Some was → new.state ≡ Some now → Drives before kind number bytes was now call given → DrivesOpen before kind number bytes old new call given
  driven_open was now given opened is drives =
      subst
      (λ (s : Option State). MatchOption s ((given ≡ Err NotOpen) × (new.state ≡ None)) (λ one. MatchOption new.state ⊥ (λ other. Drives before kind number bytes one other call given)))
      (sym opened)
      (subst (λ (s : Option State). MatchOption s ⊥ (λ other. Drives before kind number bytes was other call given)) (sym is) drives)

module _ {A : Type 0} (before : List Call) (kind number : ℕ) (bytes : List ℕ) (was mid is : State) (call_of : A → FolderCall) (names_of : A → List ℕ) where
  -- what is asked for next, or why nothing is
  abbrev pub GoesOnSo : Result A Fault → Type 0
  GoesOnSo result = MatchResult result (λ asked. GoesOn before is (call_of asked) (Ok (names_of asked))) (λ fault. (call : FolderCall) → GoesOn before is call (Err fault))

  -- the same of an answer and what came of it
  abbrev pub DrivesSo : Result A Fault → Type 0
  DrivesSo result =
      MatchResult result (λ asked. Drives before kind number bytes was is (call_of asked) (Ok (names_of asked)))
      (λ fault. (call : FolderCall) → Drives before kind number bytes was is call (Err fault))

  drives : IsAbout is was → (kind ≡ 0 → is.calls ≡ was.calls) → ((kind ≡ 0 → ⊥) → HasTold kind number bytes was is.calls) → is.listed ≡ names_left kind was.listed
      → (result : Result A Fault) → GoesOnSo result → DrivesSo result
  drives about untold told listed (Ok asked) goes = record { about = about; untold = untold; told = λ other. inl (told other); listed = listed; goes = goes }
  drives about untold told listed (Err fault) goes = λ call. record { about = about; untold = untold; told = λ other. inl (told other); listed = listed; goes = goes call }

  -- 0 tells nothing
  pub drives_untold : kind ≡ 0 → mid ≡ was → IsAbout is mid → is.calls ≡ mid.calls → is.listed ≡ mid.listed → (result : Result A Fault) → GoesOnSo result → DrivesSo result
  drives_untold zero same about calls listed =
      drives
      (about.0 ∙ ap (λ (s : State). s.task) same, about.1 ∙ ap (λ (s : State). s.matter) same)
      (λ told. calls ∙ ap (λ (s : State). s.calls) same)
      (λ other. absurd (other zero))
      (listed ∙ ap (λ (s : State). s.listed) same ∙ ap (λ (k : ℕ). names_left k was.listed) (sym zero))

  -- another answer was told
  pub drives_told : (kind ≡ 0 → ⊥) → IsAbout mid was → HasTold kind number bytes was mid.calls → mid.listed ≡ names_left kind was.listed
      → IsAbout is mid → is.calls ≡ mid.calls → is.listed ≡ mid.listed → (result : Result A Fault) → GoesOnSo result → DrivesSo result
  drives_told other same told left about calls listed =
      drives
      (about.0 ∙ same.0, about.1 ∙ same.1)
      (λ zero. absurd (other zero))
      (λ also. subst (λ (c : List Call). HasTold kind number bytes was c) (sym calls) told)
      (listed ∙ left)

-- a call that is refused a name leaves an open turn as it was
pub not_added : (add : State → State) (number : ℕ) (old new : Option State) (was : State) → old ≡ Some was → new ≡ Some was → (number ≡ 0 → ⊥) → Adds add number old new
not_added add number old new was opened same refused = subst (λ (s : Option State). Adds add number s new) (sym opened) (inr (refused, same))
