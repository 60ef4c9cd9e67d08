-- How what is taken leads on.
use Rattle.std.proofs.Common.{◌≡◌, ◌⊎◌, inl, inr, ⊎_elim, ℕ, true, Result, Ok, Err, OnOk, IfOk, Option, Some, List, ◌∷◌, ap, sym, ◌∙◌, subst}
use Rattle.folder_model.specs.Call.{Call, Unlocked, Read}
use Rattle.folder_model.specs.Disk.{Among}
use Rattle.folder_model.specs.Parts.{Parts, IsNoPart}
use Rattle.folder_model.specs.Turn.{Gave, Stage, Stored, Guarded, IsStored, stage_of, unguarded, listing_of, HasReadSince}
use Rattle.folder_protocol.specs.Reads.{KeepsRead, HasFound}
use Rattle.folder_protocol.specs.Taking.{IsTaken, AreReadSince, UntakenCause}
use Rattle.folder_protocol.specs.declared.putting.Outcome.{Outcome}
use Rattle.folder_protocol.specs.declared.putting.Outcome.TheVariants.{OnDisk}
use Rattle.folder_protocol.specs.declared.taking.Untaken.{Untaken}
use Rattle.folder_protocol.specs.declared.taking.Untaken.TheVariants.{Gone, Failed, Refused}
use Rattle.folder_protocol.proofs.Causing.{Follows, has_later, has_before}
use Rattle.folder_protocol.proofs.ReadLines.{found_all, one_no_part}

-- any: which calls were made is the same for all
pub some_parts : Parts
some_parts = record { name_of = λ b. b; covers = λ b a. true }

-- what was passed over or taken is so later
pub taken_on : (parts : Parts) (P : List ℕ → Type 0) (name : List ℕ) (old new : List Call) (had have : List (List ℕ)) → KeepsRead parts old had new have
    → P name ⊎ IsTaken parts old had name → P name ⊎ IsTaken parts new have name
taken_on parts P name old new had have keeps (inl p) = inl p
taken_on parts P name old new had have keeps (inr t) = inr (t.0, t.1, keeps.read t.0 t.2, keeps.found t.0 t.3)

-- the one that was asked for
pub taken_now : (parts : Parts) (P Q : List ℕ → Type 0) (name asked : List ℕ) (calls : List Call) (have : List (List ℕ)) → name ≡ asked → ((n : List ℕ) → Q n → P n)
    → Q asked ⊎ IsTaken parts calls have asked → P name ⊎ IsTaken parts calls have name
taken_now parts P Q name asked calls have is passing one =
    subst (λ (n : List ℕ). P n ⊎ IsTaken parts calls have n) (sym is) (⊎_elim (λ q. inl (passing asked q)) (λ t. inr t) one)

-- what may be passed over now could be before
pub all_passed : {T E : Type 0} (r : Result T E) (parts : Parts) (P Q : List ℕ → Type 0) (names taken : List (List ℕ)) (calls : List Call) → ((n : List ℕ) → Q n → P n)
    → OnOk r ((name : List ℕ) → Among name names → Q name ⊎ IsTaken parts calls taken name) → OnOk r ((name : List ℕ) → Among name names → P name ⊎ IsTaken parts calls taken name)
all_passed (Ok x) parts P Q names taken calls passing each = λ name among. ⊎_elim (λ q. inl (passing name q)) (λ t. inr t) (each name among)
all_passed (Err e) parts P Q names taken calls passing each = tt

-- all that was listed was read, if only what is no part was passed over
pub found_taken : (parts : Parts) (P : List ℕ → Type 0) (calls : List Call) (names taken : List (List ℕ)) → listing_of calls ≡ Gave names → ((n : List ℕ) → P n → IsNoPart parts n)
    → ((name : List ℕ) → Among name names → P name ⊎ IsTaken parts calls taken name) → HasFound parts calls taken
found_taken parts P calls names taken listed none each =
    found_all parts calls names taken listed (λ name among. ⊎_elim (λ p. one_no_part parts name calls taken (none name p)) (λ t b named. (t.0, sym t.1 ∙ named, t.2, t.3)) (each name among))

-- why not all were taken, after some calls
pub untaken_later : {E : Type 0} (fault : Untaken E) (before mid after : List Call) → Follows before mid → UntakenCause fault mid after → UntakenCause fault before after
untaken_later Gone before mid after first cause = (cause.0, has_later _ before mid after first cause.1)
untaken_later (Failed error) before mid after first cause = has_later _ before mid after first cause
untaken_later (Refused fault) before mid after first cause = tt

-- and then some calls more
pub untaken_before : {E : Type 0} (fault : Untaken E) (before mid after : List Call) → Follows mid after → UntakenCause fault before mid → UntakenCause fault before after
untaken_before Gone before mid after then cause = (cause.0, has_before _ before mid after then cause.1)
untaken_before (Failed error) before mid after then cause = has_before _ before mid after then cause
untaken_before (Refused fault) before mid after then cause = tt

-- a part that is stored stays so when the lock is let go
pub stored_unlocked : {E : Type 0} (r : Result (Option Outcome) E) (parts : Parts) (bytes : List ℕ) (mid after : List Call) → after ≡ Unlocked ∷ mid
    → IfOk r (λ answer. answer ≡ Some OnDisk → IsStored parts bytes mid) → IfOk r (λ answer. answer ≡ Some OnDisk → IsStored parts bytes after)
stored_unlocked (Ok answer) parts bytes mid after is stored = λ on.
    let still = λ (e : (stage_of parts mid ≡ Stored bytes) ⊎ (stage_of parts mid ≡ Guarded bytes)).
    ⊎_elim (λ a. ap (λ (l : List Call). stage_of parts l) is ∙ ap (λ (s : Stage). unguarded s) a) (λ a. ap (λ (l : List Call). stage_of parts l) is ∙ ap (λ (s : Stage). unguarded s) a) e in
    inl (still (stored on))
stored_unlocked (Err e) parts bytes mid after is stored = tt

-- ---- nothing but what was read

-- one more was read and taken
pub read_now : (parts : Parts) (name bytes : List ℕ) (h after : List Call) (had have : List (List ℕ)) → after ≡ Read name (Some (Some bytes)) ∷ h → name ≡ parts.name_of bytes → have ≡ bytes ∷ had → AreReadSince parts had have after
read_now parts name bytes h after had have is named taken b among =
    ⊎_elim (λ e. inr (subst (λ (l : List Call). HasReadSince parts b l) (sym is) (inl (sym e, named ∙ ap parts.name_of (sym e))))) (λ a. inl a)
    (subst (λ (l : List (List ℕ)). Among b l) taken among)

-- and then some more
pub read_on : (parts : Parts) (start had have : List (List ℕ)) (old new : List Call) → KeepsRead parts old had new have → AreReadSince parts start had old → AreReadSince parts had have new → AreReadSince parts start have new
read_on parts start had have old new keeps before last b among =
    ⊎_elim (λ a. ⊎_elim (λ s. inl s) (λ r. inr (keeps.read b r)) (before b a)) (λ r. inr r) (last b among)
