-- Taking the lock, and then a command.
use Rattle.std.proofs.Common.{◌≡◌, ◌⊎◌, inl, inr, ⊎_elim, ℕ, List, ◌++◌, Option, Some, Result, Ok, refl, sym, ◌∙◌, ap, subst, append_assoc}
use Rattle.std.specs.List.{Contains}
use Rattle.std.proofs.lemmas.List.{append_cancel_right}
use Rattle.table_model.specs.State.{empty_state}
use Rattle.table_model.specs.Table.{Table}
use Rattle.table_model.specs.declared.refusal.Refusal.{Refusal}
use Rattle.replica_store.specs.Replica.{Replica}
use Rattle.column_file.specs.Files.{canonical_file}
use Rattle.replica_changes.specs.Commands.{Made, file_of}
use Rattle.file_protocol.specs.Event.{Event}
use Rattle.file_protocol.specs.Disk.{Disk, MayLeave, MayShow, Reads}
use Rattle.file_protocol.specs.Safe.{Run, Moment, IsHeld, TakesLock, StaysOld}
use Rattle.file_protocol.specs.declared.outcome.Replaced.TheVariants.{Synced, Unsynced}
use Rattle.file_protocol.proofs.Failing.{fails_later}
use Rattle.file_protocol.proofs.Splits.{run_is_moment, run_split, moment_split}
use Rattle.file_commands.specs.declared.outcome.Left.{Left}
use Rattle.file_commands.specs.declared.outcome.Left.TheVariants.{Changed, Kept, KeptUnsynced}
use Rattle.file_commands.specs.CrashLaws.{IsFileAfter, BeforeOrAfter, IsLeft, HasAnswered, Creating}
use Rattle.file_commands.specs.Throughout.{WasHeld, BeforeOrAfterThroughout, CreatingThroughout, LeavesThroughout, ShowsThroughout, StaysThroughout, IsLeftThroughout, HasAnsweredThroughout, HoldingThen, HoldingThenAnswers, Joins, HoldingThenCommanding}

module _ (lock name : List ℕ) (before held after : List Event) (takes : TakesLock lock name before held) (stays : StaysOld lock name before held) where
  abbrev earlier : List Event
  earlier = takes.0

  same : stays.0 ≡ earlier
  same = append_cancel_right stays.0 earlier before (sym stays.1 ∙ takes.1)

  stays_earlier : (laters : List (Option (List ℕ))) (d e : Disk) → Moment lock name laters earlier d e → (c : Option (List ℕ)) → MayLeave e name c → MayLeave d name c ⊎ Contains laters c
  stays_earlier laters d e moment = stays.2 laters d e (subst (λ (h : List Event). Moment lock name laters h d e) (sym same) moment)

  both : (calls : List Event) → after ≡ calls ++ held → after ≡ (calls ++ earlier) ++ before
  both calls is = is ∙ ap (λ (h : List Event). calls ++ h) takes.1 ∙ sym (append_assoc calls earlier before)

  -- the lock was had
  was : (laters : List (Option (List ℕ))) (calls : List Event) (d v : Disk) → Run lock name laters earlier d v → WasHeld lock name laters (calls ++ earlier) d v
  was laters calls d v run = record {
    later = calls;
    earlier = earlier;
    calls_are = refl;
    run = run;
    held = takes.2 laters d v run;
    old = stays_earlier laters d v (run_is_moment lock name laters earlier d v run);
  }

  module _ (laters : List (Option (List ℕ))) (calls : List Event) (d e : Disk) where
    -- at a moment before the lock is had, or after
    joined : (Q : Disk → Option (List ℕ) → Type 0)
        → ((v : Disk) → IsHeld lock name v → Moment lock name laters calls v e → (c : Option (List ℕ)) → MayLeave e name c → MayLeave v name c ⊎ Q v c ⊎ Contains laters c)
        → Moment lock name laters (calls ++ earlier) d e → (c : Option (List ℕ)) → MayLeave e name c
        → MayLeave d name c ⊎ ((v : Disk) × WasHeld lock name laters (calls ++ earlier) d v × Q v c) ⊎ Contains laters c
    joined Q either moment c left = told (moment_split lock name laters calls earlier d e moment)
      where
        known : (v : Disk) → Run lock name laters earlier d v → MayLeave v name c ⊎ Q v c ⊎ Contains laters c
            → MayLeave d name c ⊎ ((v : Disk) × WasHeld lock name laters (calls ++ earlier) d v × Q v c) ⊎ Contains laters c
        known v run (inl old) = ⊎_elim (λ x. inl x) (λ x. inr (inr x)) (stays_earlier laters d v (run_is_moment lock name laters earlier d v run) c old)
        known v run (inr (inl new)) = inr (inl (v, was laters calls d v run, new))
        known v run (inr (inr later)) = inr (inr later)

        told : ((v : Disk) × Run lock name laters earlier d v × Moment lock name laters calls v e) ⊎ Moment lock name laters earlier d e
            → MayLeave d name c ⊎ ((v : Disk) × WasHeld lock name laters (calls ++ earlier) d v × Q v c) ⊎ Contains laters c
        told (inl (v, run, m)) = known v run (either v (takes.2 laters d v run) m c left)
        told (inr m) = ⊎_elim (λ x. inl x) (λ x. inr (inr x)) (stays_earlier laters d e m c left)

    -- at the end
    ended : (old : List ℕ) (C : Disk → Type 0) → ((v : Disk) → IsHeld lock name v → Run lock name laters calls v e → WasHeld lock name laters (calls ++ earlier) d v → Reads v name (Some old) × C v)
        → Run lock name laters (calls ++ earlier) d e → (v : Disk) × WasHeld lock name laters (calls ++ earlier) d v × Reads v name (Some old) × C v
    ended old C f run =
        let parts = run_split lock name laters calls earlier d e run in
        let had = was laters calls d parts.0 parts.1 in
        let told = f parts.0 had.held parts.2 had in
        (parts.0, had, told.0, told.1)

  throughout : {Y : Type 0} (command : Replica → Made Y) → BeforeOrAfter command lock name held after → BeforeOrAfterThroughout command lock name before after
  throughout command (calls, is, either) =
      (calls ++ earlier, both calls is, λ laters d e moment c left. joined laters calls d e (λ v x. IsFileAfter command name v x) (λ v had m. either laters v e had m) moment c left)

  created : (made : Result Table Refusal) → Creating made lock name held after → CreatingThroughout made lock name before after
  created made (calls, is, either) = (
    calls ++ earlier,
    both calls is,
    λ laters d e moment c left.
        flat laters calls d c (joined laters calls d e (λ v x. (table : Table) × (made ≡ Ok table) × (x ≡ Some (canonical_file table empty_state))) (λ v had m. either laters v e had m) moment c left),
  )
    where
      flat : (laters : List (Option (List ℕ))) (calls : List Event) (d : Disk) (c : Option (List ℕ))
          → MayLeave d name c ⊎ ((v : Disk) × WasHeld lock name laters (calls ++ earlier) d v × ((table : Table) × (made ≡ Ok table) × (c ≡ Some (canonical_file table empty_state)))) ⊎ Contains laters c
          → MayLeave d name c ⊎ ((table : Table) × (made ≡ Ok table) × (c ≡ Some (canonical_file table empty_state))) ⊎ Contains laters c
      flat laters calls d c (inl x) = inl x
      flat laters calls d c (inr (inl (v, had, x))) = inr (inl x)
      flat laters calls d c (inr (inr x)) = inr (inr x)

  left_so : (how : Left) (old new : List ℕ) → IsLeft how lock name old new held after → IsLeftThroughout how lock name old new before after
  left_so (Changed Synced) old new (calls, is, there) = (
    calls ++ earlier,
    both calls is,
    λ laters d e run.
        ended laters calls d e old (λ v. (c : Option (List ℕ)) → MayLeave e name c → (c ≡ Some new) ⊎ Contains laters c) (λ v had r w. there laters v e had r) run,
  )
  left_so (Changed Unsynced) old new (calls, is, there) = (
    calls ++ earlier,
    both calls is,
    λ laters d e run.
        ended laters calls d e old (λ v. (c : Option (List ℕ)) → MayShow e name c → (c ≡ Some new) ⊎ Contains laters c) (λ v had r w. there laters v e had r) run,
  )
  left_so Kept old new (equal, (calls, is, there)) = (
    equal,
    (
      calls ++ earlier,
      both calls is,
      λ laters d e run.
          ended laters calls d e old (λ v. (c : Option (List ℕ)) → MayLeave e name c → (c ≡ Some old) ⊎ Contains laters c) (λ v had r w. there laters v e had r) run,
    ),
  )
  left_so KeptUnsynced old new (equal, (calls, is, there), failed) = (
    equal,
    (
      calls ++ earlier,
      both calls is,
      λ laters d e run.
          ended laters calls d e old (λ v. (c : Option (List ℕ)) → MayLeave e name c → MayLeave d name c ⊎ Contains laters c)
          (λ v had r w. let t = there laters v e had r in (t.0, λ c left. ⊎_elim (λ x. w.old c x) (λ x. inr x) (t.1 c left))) run,
    ),
    fails_later before held after earlier takes.1 failed,
  )

  answered : {X Y : Type 0} (view : X → Y) (command : Replica → Made Y) (answer : X) (left : Left) → HasAnswered view command answer left lock name held after → HasAnsweredThroughout view command answer left lock name before after
  answered view command answer left (old, new, held_old, made, held_new, is_left) = (old, new, held_old, made, held_new, left_so left (file_of old) (file_of new) is_left)

joins : {X Y : Type 0} (view : X → Y) (command : Replica → Made Y) → Joins view command
joins view command = record {
  any_moment = λ lock name before held after takes stays either. throughout lock name before held after takes stays command either;
  answered = λ answer left lock name before held after takes stays told. answered lock name before held after takes stays view command answer left told;
}

pub holding_then_commanding : HoldingThenCommanding
holding_then_commanding = record {
  change = λ command. joins _ _;
  delete_held_rows = λ first last. joins _ _;
  forget = joins _ _;
  create = λ made lock name before held after takes stays either. created lock name before held after takes stays made either;
}
