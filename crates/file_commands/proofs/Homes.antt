-- A file keeps what it was answered.
use Rattle.std.proofs.Common.{◌≡◌, ◌⊎◌, inl, inr, ℕ, true, false, List, [], ◌∷◌, Option, Some, None, refl, sym, ◌∙◌, ap, subst}
use Rattle.std.specs.List.{Contains}
use Rattle.file_protocol.specs.Event.{Event}
use Rattle.file_protocol.specs.Disk.{Disk, Names, Reaches, MayName, MayHold, Has, MayLeave, Reads}
use Rattle.file_protocol.specs.Safe.{Moment, Restarts}
use Rattle.replica_store.specs.Replica.{Replica}
use Rattle.replica_changes.specs.Commands.{Made, file_of}
use Rattle.file_commands.specs.CrashLaws.{IsFileAfter}
use Rattle.file_commands.specs.Throughout.{WasHeld, BeforeOrAfterThroughout}
use Rattle.file_commands.specs.HomeLaws.{FileHomeLaws}
use Rattle.file_commands.specs.Homes.{Covering, IsCovered, SafeInFile, OthersCover, BeforeOrCovering, LaterInFile, Commanded, Restarted, Then, AnsweredInFile, FilesKeep, Covers, KeepsHome}

-- what is read now may be left by a crash now
may_leave : (d : Disk) (name bytes : List ℕ) → Reads d name (Some bytes) → MayLeave d name (Some bytes)
may_leave d name bytes (file, leads, is) = (d.names, inl refl, (file, leads, inl is))

one_some : (a b : List ℕ) → Some a ≡ Some b → a ≡ b
one_some a b is = cc

-- after a loss of power a crash leaves only what the loss could leave
module _ (d e : Disk) (restarts : Restarts d e) where
  reached : (changes : List (Names → Names)) (names : Names) → changes ≡ [] → Reaches e.synced changes names → names ≡ e.synced
  reached [] names none r = r
  reached (c ∷ cs) names none r = absurd (let x : ⊥ = cc in x)

  one : (names : Names) → MayName e names → names ≡ e.names
  one names (inl now) = now
  one names (inr r) = reached e.changes names restarts.changes r ∙ restarts.synced

  holds : (file : ℕ) (bytes : List ℕ) → MayHold e file bytes → MayHold d file bytes
  holds file bytes (inl is) = subst (λ (b : List ℕ). MayHold d file b) (sym is) (restarts.contents file)
  holds file bytes (inr is) = absurd (let x : true ≡ false = sym (restarts.on_disk file) ∙ is in let y : ⊥ = cc in y)

  was_left : (name : List ℕ) (c : Option (List ℕ)) → MayLeave e name c → MayLeave d name c
  was_left name None (names, may, none) = (e.names, restarts.names, sym (ap (λ (n : Names). n name) (one names may)) ∙ none)
  was_left name (Some bytes) (names, may, (file, leads, held)) =
      (e.names, restarts.names, (file, sym (ap (λ (n : Names). n name) (one names may)) ∙ leads, holds file bytes held))

module _ (covering : Covering) (name : List ℕ) where
  reads : (d : Disk) (read bytes : List ℕ) → Reads d name (Some read) → SafeInFile covering name d bytes → covering.covers read bytes ≡ true
  reads d read bytes is safe =
      let (b, left, covers) = safe (Some read) (may_leave d name read is) in
      subst (λ (x : List ℕ). covering.covers x bytes ≡ true) (sym (one_some read b left)) covers

  along : (new bytes : List ℕ) (left : Option (List ℕ)) → covering.covers new bytes ≡ true → IsCovered covering new left → IsCovered covering bytes left
  along new bytes left covers (b, is, more) = (b, is, covering.along b new bytes more covers)

  covered : (laters : List (Option (List ℕ))) (d : Disk) (bytes : List ℕ) → OthersCover covering name laters d → SafeInFile covering name d bytes
      → (left : Option (List ℕ)) → BeforeOrCovering covering name laters d left → IsCovered covering bytes left
  covered laters d bytes others safe left (inl before) = safe left before
  covered laters d bytes others safe left (inr (inl (old, new, inl was, covers, is))) =
      let (b, same, more) = safe (Some old) was in
      (new, is, covering.along new old bytes covers (subst (λ (x : List ℕ). covering.covers x bytes ≡ true) (sym (one_some old b same)) more))
  covered laters d bytes others safe left (inr (inl (old, new, inr there, covers, is))) =
      let (b, same, more) = others bytes safe (Some old) there in
      (new, is, covering.along new old bytes covers (subst (λ (x : List ℕ). covering.covers x bytes ≡ true) (sym (one_some old b same)) more))
  covered laters d bytes others safe left (inr (inr there)) = others bytes safe left there

  stays : (d e : Disk) (bytes : List ℕ) → LaterInFile covering name d e → SafeInFile covering name d bytes → SafeInFile covering name e bytes
  stays d e bytes (Commanded laters others any) safe = λ left may. covered laters d bytes others safe left (any left may)
  stays d e bytes (Restarted restarts) safe = λ left may. safe left (was_left d e restarts name left may)
  stays d e bytes (Then {v = v} first second) safe = stays v e bytes second (stays d v bytes first safe)

  answers : (d : Disk) (new bytes : List ℕ) → AnsweredInFile covering name d new bytes → SafeInFile covering name d bytes
  answers d new bytes told left may = so (told.left left may)
    where
      so : (left ≡ Some new) ⊎ Contains told.laters left → IsCovered covering bytes left
      so (inl is) = (new, is, told.brought)
      so (inr there) = along new bytes left told.brought (told.others left there)

pub files_keep : FilesKeep
files_keep covering name = record {
  stays = λ d e bytes later safe. stays covering name d e bytes later safe;
  answered = λ d new bytes told. answers covering name d new bytes told;
  reads = λ d read bytes began. reads covering name d read bytes began.0 began.1;
}

-- a command's moments keep what was safe
pub keeps_home : {Y : Type 0} (command : Replica → Made Y) → KeepsHome command
keeps_home command covering lock name before after covers told laters d e moment others =
    Commanded laters others (λ left may. so left (told.2 laters d e moment left may))
  where
    so : (left : Option (List ℕ)) → MayLeave d name left ⊎ ((v : Disk) × WasHeld lock name laters told.0 d v × IsFileAfter command name v left) ⊎ Contains laters left
        → BeforeOrCovering covering name laters d left
    so left (inl before) = inl before
    so left (inr (inl (v, had, (old, new, answer, read, held, made, again, is)))) =
        inr (inl (file_of old, file_of new, had.old (Some (file_of old)) (may_leave v name (file_of old) read), covers old new answer held made again, is))
    so left (inr (inr there)) = inr (inr there)

pub home_laws : FileHomeLaws
home_laws = record {
  keep = files_keep;
  change = λ command. keeps_home _;
  delete_held_rows = λ first last. keeps_home _;
  forget = keeps_home _;
}
