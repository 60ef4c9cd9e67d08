-- A command that reads its file under the lock, and then replaces it or leaves it.
use Rattle.std.proofs.Common.{◌≡◌, ◌≢◌, ◌⊎◌, inl, inr, ⊎_elim, ℕ, Bool, true, false, List, [], ◌∷◌, ◌++◌, Option, Some, None, Result, Ok, Err, IfErr, IfOk, OnOk, refl, sym, ◌∙◌, ap, subst, append_assoc}
use Rattle.std.specs.List.{Contains}
use Rattle.table_model.specs.State.{empty_state}
use Rattle.table_model.specs.Table.{Table}
use Rattle.table_model.specs.declared.refusal.Refusal.{Refusal}
use Rattle.table_model.specs.declared.refusal.Refusal.TheVariants.{WriteFault}
use Rattle.replica_store.specs.Replica.{Replica, SaysChange}
use Rattle.replica_reports.specs.Held.{held_in}
use Rattle.replica_changes.specs.Commands.{Made, file_of, as_held, Changes, Leaves, CreatesOf, Merges, Refuses, merged_files, written_of}
use Rattle.column_file.specs.Files.{canonical_file}
use Rattle.column_file.specs.Input.{IsUnread}
use Rattle.file_protocol.specs.Event.{Event, Read}
use Rattle.file_protocol.specs.Disk.{Disk, MayLeave, Reads}
use Rattle.file_protocol.specs.Locking.{AllLocking, OnlyLocks, AllKeeping, OnlyKeeps}
use Rattle.file_protocol.specs.Safe.{StaysOld, OldOrNew, IsNew, IsInPlace}
use Rattle.file_protocol.specs.Whole.{OldOrChanged, IsChanged, IsChangedInPlace, IsUnchanged, IsOnDisk}
use Rattle.file_protocol.specs.declared.outcome.Replaced.{Replaced}
use Rattle.file_protocol.specs.declared.outcome.Replaced.TheVariants.{Synced, Unsynced}
use Rattle.file_protocol.proofs.Failing.{fails_later}
use Rattle.file_protocol.proofs.Locks.{stays_old, keeps_old}
use Rattle.file_protocol.proofs.Whole.{reads_then_replaces, reads_then_new, reads_then_in_place, reads_then_keeps, reads_then_on_disk}
use Rattle.file_commands.specs.declared.outcome.Left.{Left}
use Rattle.file_commands.specs.declared.outcome.Left.TheVariants.{Changed, Kept, KeptUnsynced}
use Rattle.file_commands.specs.Finished.{AtAnyMoment, Finishes, in_memory}
use Rattle.file_commands.specs.CrashLaws.{IsFileAfter, BeforeOrAfter, IsLeft, HasAnswered, IsEmptyFile, Creating, HasCreated, IsMerged}

-- what stays as it was is the state before
stays : {Y : Type 0} (command : Replica → Made Y) (lock name : List ℕ) (before after : List Event) → StaysOld lock name before after → BeforeOrAfter command lock name before after
stays command lock name before after (calls, is, old) = (calls, is, λ laters d e held moment c left. ⊎_elim (λ x. inl x) (λ x. inr (inr x)) (old laters d e moment c left))

-- only the lock was touched
pub leaves : {Y : Type 0} (command : Replica → Made Y) (lock name : List ℕ) → lock ≢ name → (before after : List Event) → OnlyLocks lock before after → BeforeOrAfter command lock name before after
leaves command lock name apart before after only = stays command lock name before after (stays_old lock name apart before after only)

-- or files and the folder were synced
pub keeps : {Y : Type 0} (command : Replica → Made Y) (lock name : List ℕ) → lock ≢ name → (before after : List Event) → OnlyKeeps lock before after → BeforeOrAfter command lock name before after
keeps command lock name apart before after only = stays command lock name before after (keeps_old lock name apart before after only)

-- a refusal of which this is said, whatever it is
pub refused_so : {T : Type 0} (r : Result T Refusal) (P : Refusal → Type 0) (Q : Type 0) → Q → IfErr r (λ e. P e → Q)
refused_so (Ok x) P Q q = tt
refused_so (Err e) P Q q = λ p. q

-- the file was read, and then only the lock was touched
pub read_then_left : (lock name : List ℕ) (answer : Option (Option (List ℕ))) (before mid after : List Event) → mid ≡ Read name answer ∷ before → OnlyLocks lock mid after → OnlyLocks lock before after
read_then_left lock name answer before mid after is_read (calls, is, all) = (
  calls ++ Read name answer ∷ [],
  is ∙ ap (λ (h : List Event). calls ++ h) is_read ∙ sym (append_assoc calls (Read name answer ∷ []) before),
  and_read calls all,
)
  where
    and_read : (calls : List Event) → AllLocking lock calls → AllLocking lock (calls ++ Read name answer ∷ [])
    and_read [] all = (tt, tt)
    and_read (call ∷ calls) all = (all.0, and_read calls all.1)

-- the file was read, and then it was kept
read_then_kept : (lock name : List ℕ) (answer : Option (Option (List ℕ))) (before mid after : List Event) → mid ≡ Read name answer ∷ before → OnlyKeeps lock mid after → OnlyKeeps lock before after
read_then_kept lock name answer before mid after is_read (calls, is, all) = (
  calls ++ Read name answer ∷ [],
  is ∙ ap (λ (h : List Event). calls ++ h) is_read ∙ sym (append_assoc calls (Read name answer ∷ []) before),
  and_read calls all,
)
  where
    and_read : (calls : List Event) → AllKeeping lock calls → AllKeeping lock (calls ++ Read name answer ∷ [])
    and_read [] all = (tt, tt)
    and_read (call ∷ calls) all = (all.0, and_read calls all.1)

module _ {X Y : Type 0} (view : X → Y) (changed : X → Bool) (command : Replica → Made Y) (lock name : List ℕ) (apart : lock ≢ name) (before mid after : List Event) where
  module _ (input : List ℕ) (is_read : mid ≡ Read name (Some (Some input)) ∷ before) where
    module _ (x : X) (bytes : List ℕ) where
      abbrev Changing : Bool → Type 0
      Changing b =
          (old new : Replica) × (input ≡ file_of old) × (held_in input ≡ Ok old) × (command old ≡ Ok (view x, new)) ×
          Leaves b input (Some []) (Some bytes) (file_of new) × (held_in (file_of new) ≡ Ok (as_held new)) × SaysChange (changed x) old new

      replaced : Changing true → OldOrChanged lock name input bytes before after → BeforeOrAfter command lock name before after
      replaced (old, new, is_file, held_old, made, is_new, held_new, says) (calls, is, either) = (calls, is, λ laters d e held moment c left. told laters d c (either laters d e held moment c left))
        where
          told : (laters : List (Option (List ℕ))) (d : Disk) (c : Option (List ℕ)) → MayLeave d name c ⊎ ((c ≡ Some bytes) × Reads d name (Some input)) ⊎ Contains laters c
              → MayLeave d name c ⊎ IsFileAfter command name d c ⊎ Contains laters c
          told laters d c (inl left) = inl left
          told laters d c (inr (inl (there, reads))) = inr (inl (
            old,
            new,
            view x,
            subst (λ (b : List ℕ). Reads d name (Some b)) is_file reads,
            subst (λ (b : List ℕ). held_in b ≡ Ok old) is_file held_old,
            made,
            held_new,
            there ∙ ap (λ (b : List ℕ). Some b) is_new,
          ))
          told laters d c (inr (inr later)) = inr (inr later)

      at_any_moment : (b : Bool) → Changing b → AtAnyMoment b lock name bytes mid after → BeforeOrAfter command lock name before after
      at_any_moment true changes either = replaced changes (reads_then_replaces lock name apart input before mid after is_read bytes either)
      at_any_moment false changes only = keeps command lock name apart before after (read_then_kept lock name (Some (Some input)) before mid after is_read only)

      pub changes_any : Changes view changed (Ok x) (Some input) (Some []) (Some bytes) command → AtAnyMoment (changed x) lock name bytes mid after → BeforeOrAfter command lock name before after
      changes_any changes = at_any_moment (changed x) changes

      left_so : (how : Left) (b : Bool) (old new : Replica) → input ≡ file_of old → Leaves b input (Some []) (Some bytes) (file_of new)
          → Finishes how b lock name bytes mid after → IsLeft how lock name (file_of old) (file_of new) before after
      left_so (Changed Synced) true old new is_file is_new (is, finished) =
          subst (λ (b : List ℕ). IsChanged lock name b (file_of new) before after) is_file
          (subst (λ (b : List ℕ). IsChanged lock name input b before after) is_new (reads_then_new lock name apart input before mid after is_read bytes finished))
      left_so (Changed Unsynced) true old new is_file is_new (is, finished) =
          subst (λ (b : List ℕ). IsChangedInPlace lock name b (file_of new) before after) is_file
          (subst (λ (b : List ℕ). IsChangedInPlace lock name input b before after) is_new (reads_then_in_place lock name apart input before mid after is_read bytes finished))
      left_so Kept false old new is_file (none, same) (is, only, on_disk) = (
        sym same ∙ is_file,
        subst (λ (b : List ℕ). IsOnDisk lock name b before after) is_file (reads_then_on_disk lock name apart input before mid after is_read on_disk),
      )
      left_so KeptUnsynced false old new is_file (none, same) (is, only, failed) = (
        sym same ∙ is_file,
        subst (λ (b : List ℕ). IsUnchanged lock name b before after) is_file (reads_then_keeps lock name apart input before mid after is_read only),
        fails_later before mid after (Read name (Some (Some input)) ∷ []) is_read failed,
      )
      left_so (Changed Synced) false old new is_file is_new (is, finished) = absurd (let e : ⊥ = cc in e)
      left_so (Changed Unsynced) false old new is_file is_new (is, finished) = absurd (let e : ⊥ = cc in e)
      left_so Kept true old new is_file is_new (is, only, finished) = absurd (let e : ⊥ = cc in e)
      left_so KeptUnsynced true old new is_file is_new (is, only, finished) = absurd (let e : ⊥ = cc in e)

      pub changes_answered : (how : Left) → Changes view changed (Ok x) (Some input) (Some []) (Some bytes) command → Finishes how (changed x) lock name bytes mid after
          → HasAnswered view command x how lock name before after
      changes_answered how (old, new, is_file, held_old, made, is_new, held_new, says) finished = (
        old,
        new,
        subst (λ (b : List ℕ). held_in b ≡ Ok old) is_file held_old,
        made,
        held_new,
        left_so how (changed x) old new is_file is_new finished,
      )

module _ {X Y : Type 0} (view : X → Y) (changed : X → Bool) (command : Replica → Made Y) (lock name : List ℕ) (apart : lock ≢ name) (before mid after : List Event) (input slice bytes written : List ℕ)
    (is_read : mid ≡ Read name (Some (Some input)) ∷ before) (is_slice : slice ≡ input) (is_written : written ≡ bytes) (x : X) (changes : Changes view changed (Ok x) (Some slice) (Some []) (Some bytes) command) where
  so : Changes view changed (Ok x) (Some input) (Some []) (Some bytes) command
  so = subst (λ (i : List ℕ). Changes view changed (Ok x) (Some i) (Some []) (Some bytes) command) is_slice changes

  pub any_at : AtAnyMoment (changed x) lock name written mid after → BeforeOrAfter command lock name before after
  any_at any = changes_any view changed command lock name apart before mid after input is_read x bytes so (subst (λ (b : List ℕ). AtAnyMoment (changed x) lock name b mid after) is_written any)

  pub answered_at : (how : Left) → Finishes how (changed x) lock name written mid after → HasAnswered view command x how lock name before after
  answered_at how finished = changes_answered view changed command lock name apart before mid after input is_read x bytes how so (subst (λ (b : List ℕ). Finishes how (changed x) lock name b mid after) is_written finished)

module _ (lock name new : List ℕ) (before after : List Event) where
  -- what was finished as an answer says
  pub finished_any : (said is : Bool) → said ≡ is → AtAnyMoment said lock name new before after → AtAnyMoment is lock name new before after
  finished_any said is same any = subst (λ (b : Bool). AtAnyMoment b lock name new before after) same any

  pub finished_so : (how : Left) (said is : Bool) → said ≡ is → Finishes how said lock name new before after → Finishes how is lock name new before after
  finished_so how said is same finished = subst (λ (b : Bool). Finishes how b lock name new before after) same finished

  pub finishes : (how : Replaced) (b : Bool) → b ≡ true → (how ≡ Synced → IsNew lock name new before after) → IsInPlace lock name new before after → Finishes (Changed how) b lock name new before after
  finishes Synced b is synced put = (is, synced refl)
  finishes Unsynced b is synced put = (is, put)

  pub changed_any : (b : Bool) → b ≡ true → OldOrNew lock name new before after → AtAnyMoment b lock name new before after
  changed_any b is either = subst (λ (x : Bool). AtAnyMoment x lock name new before after) (sym is) either

  pub left_any : (b : Bool) → b ≡ false → OnlyKeeps lock before after → AtAnyMoment b lock name new before after
  left_any b is only = subst (λ (x : Bool). AtAnyMoment x lock name new before after) (sym is) only

-- a file that is made
module _ (made : Result Table Refusal) (lock name : List ℕ) (before after : List Event) where
  pub created_any : (bytes new : List ℕ) → new ≡ bytes → IsEmptyFile made bytes → OldOrNew lock name new before after → Creating made lock name before after
  created_any bytes new same (table, is, empty) (calls, was, either) = (calls, was, λ laters d e held moment c left. told laters d c (either laters d e held moment c left))
    where
      told : (laters : List (Option (List ℕ))) (d : Disk) (c : Option (List ℕ)) → MayLeave d name c ⊎ (c ≡ Some new) ⊎ Contains laters c
          → MayLeave d name c ⊎ ((table : Table) × (made ≡ Ok table) × (c ≡ Some (canonical_file table empty_state))) ⊎ Contains laters c
      told laters d c (inl left) = inl left
      told laters d c (inr (inl there)) = inr (inl (table, is, there ∙ ap (λ (b : List ℕ). Some b) (same ∙ empty)))
      told laters d c (inr (inr later)) = inr (inr later)

  pub created_left : lock ≢ name → OnlyLocks lock before after → Creating made lock name before after
  created_left apart only = kept (stays_old lock name apart before after only)
    where
      kept : StaysOld lock name before after → Creating made lock name before after
      kept (calls, is, stays) = (calls, is, λ laters d e held moment c left. ⊎_elim (λ x. inl x) (λ x. inr (inr x)) (stays laters d e moment c left))

  pub created_so : {E : Type 0} (r : Result Replaced E) (bytes new : List ℕ) → new ≡ bytes → IsEmptyFile made bytes → IfOk r (λ how. how ≡ Synced → IsNew lock name new before after) → OnOk r (IsInPlace lock name new before after)
      → IfOk r (λ how. HasCreated made how lock name before after)
  created_so (Ok Synced) bytes new same (table, is, empty) synced put = (table, is, subst (λ (b : List ℕ). IsNew lock name b before after) (same ∙ empty) (synced refl))
  created_so (Ok Unsynced) bytes new same (table, is, empty) synced put = (table, is, subst (λ (b : List ℕ). IsInPlace lock name b before after) (same ∙ empty) put)
  created_so (Err e) bytes new same empty synced put = tt

  -- a put fails as a failed write alone
  pub failed_put : {T : Type 0} (r : Result T Refusal) (Q : Type 0) → IfErr r (λ e. e ≡ WriteFault) → IfErr r (λ e. e ≢ WriteFault → Q)
  failed_put (Ok x) Q is = tt
  failed_put (Err e) Q is = λ other. absurd (other is)

-- the empty table's file was written
pub empty_written : (made : Result Table Refusal) (start written now : List ℕ) → start ≡ [] → now ≡ written → CreatesOf (Ok tt) (Some start) (Some now) made → IsEmptyFile made written
empty_written made start written now nothing is (table, so, all) =
    (table, so, sym is ∙ all ∙ ap (λ (s : List ℕ). s ++ canonical_file table empty_state) nothing)

-- what a merge wrote
pub merged_written : (start written now : List ℕ) (first : List ℕ) (others : List (List ℕ)) → start ≡ [] → now ≡ written → Merges (Ok tt) (Some start) (Some now) first others → IsMerged (Ok written) first others
merged_written start written now first others nothing is (new, made, all, again) =
    (new, made, sym is ∙ all ∙ ap (λ (s : List ℕ). s ++ file_of new) nothing, again)

why : (e : Refusal) (w : Result (List ℕ) Refusal) → (w ≡ Err e) ⊎ IsUnread e → (w ≡ Err (in_memory e)) ⊎ IsUnread (in_memory e)
why WriteFault w h = inr (inl refl)
why other w h = h

pub merge_refused : (e : Refusal) (before now : Option (List ℕ)) (first : List ℕ) (others : List (List ℕ)) → Merges (Err e) before now first others → IsMerged (Err (in_memory e)) first others
merge_refused e before now first others h = told (written_of (merged_files first others)) h
  where
    told : (w : Result (List ℕ) Refusal) → Refuses e before now w → (w ≡ Err (in_memory e)) ⊎ IsUnread (in_memory e)
    told w (inl (same, h)) = why e w h
    told w (inr (is, front)) = subst (λ (x : Refusal). (w ≡ Err (in_memory x)) ⊎ IsUnread (in_memory x)) (sym is) (inr (inl refl))
