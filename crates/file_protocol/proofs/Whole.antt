-- Of a command that takes the lock and replaces the file, and of one that reads the file first.
use Rattle.std.proofs.Common.{◌≡◌, ◌≢◌, ◌⊎◌, inl, inr, ⊎_elim, ℕ, List, [], ◌∷◌, ◌++◌, Option, Some, sym, ◌∙◌, ap, subst, append_assoc}
use Rattle.std.specs.List.{Contains}
use Rattle.std.proofs.lemmas.List.{append_cancel_right}
use Rattle.file_protocol.specs.Event.{Event, Read}
use Rattle.file_protocol.specs.Disk.{Disk, MayLeave, Reads}
use Rattle.file_protocol.specs.Locking.{OnlyLocks, OnlyKeeps}
use Rattle.file_protocol.specs.Safe.{Run, Moment, IsHeld, OldOrNew, IsNew, IsOld, IsInPlace}
use Rattle.file_protocol.specs.Whole.{HoldingThenReplacing, OldOrChanged, IsChanged, IsChangedInPlace, IsUnchanged, StaysOnDisk, IsOnDisk}
use Rattle.file_protocol.proofs.Splits.{run_is_moment, moment_split, run_split}
use Rattle.file_protocol.proofs.Locks.{held_on, stays_old, keeps_old, old_moment}
use Rattle.file_protocol.proofs.OnDisk.{reads_one, reads_some}

-- after these calls, then those
both : (calls earlier before mid after : List Event) → after ≡ calls ++ mid → mid ≡ earlier ++ before → after ≡ (calls ++ earlier) ++ before
both calls earlier before mid after is was = is ∙ ap (λ (h : List Event). calls ++ h) was ∙ sym (append_assoc calls earlier before)

module _ (lock name new : List ℕ) (earlier calls : List Event) (laters : List (Option (List ℕ))) (d e : Disk) (c : Option (List ℕ)) where
  still_old : MayLeave d name c ⊎ Contains laters c → MayLeave d name c ⊎ (c ≡ Some new) ⊎ Contains laters c
  still_old (inl old) = inl old
  still_old (inr later) = inr (inr later)

  at_moment : ((v : Disk) → Moment lock name laters earlier d v → MayLeave v name c → MayLeave d name c ⊎ Contains laters c)
      → ((v : Disk) → Run lock name laters earlier d v → Moment lock name laters calls v e → MayLeave v name c ⊎ (c ≡ Some new) ⊎ Contains laters c)
      → MayLeave e name c
      → ((v : Disk) × Run lock name laters earlier d v × Moment lock name laters calls v e) ⊎ Moment lock name laters earlier d e
      → MayLeave d name c ⊎ (c ≡ Some new) ⊎ Contains laters c
  at_moment before after left (inl (v, run, moment)) =
      ⊎_elim (λ old. still_old (before v (run_is_moment lock name laters earlier d v run) old)) (λ x. inr x) (after v run moment)
  at_moment before after left (inr moment) = still_old (before e moment left)

pub throughout : HoldingThenReplacing
throughout lock name new before held after (earlier, was, takes) (earlier_too, was_too, stays) (calls, is, either) =
    let same : earlier_too ≡ earlier = append_cancel_right earlier_too earlier before (sym was_too ∙ was) in (
      calls ++ earlier,
      both calls earlier before held after is was,
      λ laters d e moment c left.
          at_moment lock name new earlier calls laters d e c
          (λ v m old. stays laters d v (subst (λ (h : List Event). Moment lock name laters h d v) (sym same) m) c old)
          (λ v run m. either laters v e (takes laters d v run) m c left)
          left
          (moment_split lock name laters calls earlier d e moment),
    )

module _ (lock name : List ℕ) (apart : lock ≢ name) (old : List ℕ) (before mid after : List Event) (is_read : mid ≡ Read name (Some (Some old)) ∷ before) where
  abbrev reading : List Event
  reading = Read name (Some (Some old)) ∷ []

  -- the file had the old bytes when the lock was had, and the lock is had still
  had : (laters : List (Option (List ℕ))) (d v : Disk) → IsHeld lock name d → Run lock name laters reading d v
      → Reads d name (Some old) × IsHeld lock name v × ((c : Option (List ℕ)) → MayLeave v name c → MayLeave d name c)
  had laters d v held (v0, w0, o0, takes, o1) =
      let first = held_on lock name apart laters d v0 o0 held in
      let second : IsHeld lock name w0 = subst (λ (x : Disk). IsHeld lock name x) (sym takes.1) first in (
        (o0.held held.has).reads (Some old) takes.0,
        held_on lock name apart laters w0 v o1 second,
        λ c left. (o0.held held.has).old c (subst (λ (x : Disk). MayLeave x name c) takes.1 ((o1.held second.has).old c left)),
      )

  pub reads_then_replaces : (new : List ℕ) → OldOrNew lock name new mid after → OldOrChanged lock name old new before after
  reads_then_replaces new (calls, is, either) = (
    calls ++ reading,
    both calls reading before mid after is is_read,
    λ laters d e held moment c left. told laters d e held c left (moment_split lock name laters calls reading d e moment),
  )
    where
      stays_there : (laters : List (Option (List ℕ))) (d e : Disk) → Moment lock name laters reading d e → (c : Option (List ℕ)) → MayLeave e name c → MayLeave d name c ⊎ Contains laters c
      stays_there laters d e moment c left = old_moment lock name apart laters reading d e (tt, tt) moment c left

      known : (laters : List (Option (List ℕ))) (d v : Disk) → IsHeld lock name d → Run lock name laters reading d v → (c : Option (List ℕ))
          → MayLeave v name c ⊎ (c ≡ Some new) ⊎ Contains laters c → MayLeave d name c ⊎ ((c ≡ Some new) × Reads d name (Some old)) ⊎ Contains laters c
      known laters d v held run c (inl left) = inl ((had laters d v held run).2 c left)
      known laters d v held run c (inr (inl is_new)) = inr (inl (is_new, (had laters d v held run).0))
      known laters d v held run c (inr (inr later)) = inr (inr later)

      told : (laters : List (Option (List ℕ))) (d e : Disk) → IsHeld lock name d → (c : Option (List ℕ)) → MayLeave e name c
          → ((v : Disk) × Run lock name laters reading d v × Moment lock name laters calls v e) ⊎ Moment lock name laters reading d e
          → MayLeave d name c ⊎ ((c ≡ Some new) × Reads d name (Some old)) ⊎ Contains laters c
      told laters d e held c left (inl (v, run, moment)) = known laters d v held run c (either laters v e (had laters d v held run).1 moment c left)
      told laters d e held c left (inr moment) =
          ⊎_elim (λ x. inl x) (λ x. inr (inr x)) (stays_there laters d e moment c left)

  pub reads_then_new : (new : List ℕ) → IsNew lock name new mid after → IsChanged lock name old new before after
  reads_then_new new (calls, is, there) = (
    calls ++ reading,
    both calls reading before mid after is is_read,
    λ laters d e held run.
        let parts = run_split lock name laters calls reading d e run in
        let first = had laters d parts.0 held parts.1 in
        (first.0, there laters parts.0 e first.1 parts.2),
  )

  pub reads_then_in_place : (new : List ℕ) → IsInPlace lock name new mid after → IsChangedInPlace lock name old new before after
  reads_then_in_place new (calls, is, there) = (
    calls ++ reading,
    both calls reading before mid after is is_read,
    λ laters d e held run.
        let parts = run_split lock name laters calls reading d e run in
        let first = had laters d parts.0 held parts.1 in
        (first.0, there laters parts.0 e first.1 parts.2),
  )

  -- the file is as it was
  unchanged_by : (calls : List Event) → after ≡ calls ++ mid
      → ((laters : List (Option (List ℕ))) (d e : Disk) → IsHeld lock name d → Run lock name laters calls d e → (c : Option (List ℕ)) → MayLeave e name c → MayLeave d name c ⊎ Contains laters c)
      → IsUnchanged lock name old before after
  unchanged_by calls is there = (
    calls ++ reading,
    both calls reading before mid after is is_read,
    λ laters d e held run.
        let parts = run_split lock name laters calls reading d e run in
        let first = had laters d parts.0 held parts.1 in
        (first.0, λ c left. ⊎_elim (λ x. inl (first.2 c x)) (λ x. inr x) (there laters parts.0 e first.1 parts.2 c left)),
  )

  pub reads_then_old : IsOld lock name mid after → IsUnchanged lock name old before after
  reads_then_old (calls, is, there) = unchanged_by calls is there

  pub reads_then_leaves : OnlyLocks lock mid after → IsUnchanged lock name old before after
  reads_then_leaves only =
      let stays = stays_old lock name apart mid after only in
      unchanged_by stays.0 stays.1 (λ laters d e held run. stays.2 laters d e (run_is_moment lock name laters stays.0 d e run))

  -- the file is as it was while it was synced
  pub reads_then_keeps : OnlyKeeps lock mid after → IsUnchanged lock name old before after
  reads_then_keeps only =
      let stays = keeps_old lock name apart mid after only in
      unchanged_by stays.0 stays.1 (λ laters d e held run. stays.2 laters d e (run_is_moment lock name laters stays.0 d e run))

  -- the file reads still as it did
  reads_still : (laters : List (Option (List ℕ))) (d v : Disk) → IsHeld lock name d → Run lock name laters reading d v → Reads v name (Some old)
  reads_still laters d v held (v0, w0, o0, takes, o1) =
      let first = held_on lock name apart laters d v0 o0 held in
      let second : IsHeld lock name w0 = subst (λ (x : Disk). IsHeld lock name x) (sym takes.1) first in
      let found = reads_some v name in
      let before : Reads v0 name found.0 = subst (λ (x : Disk). Reads x name found.0) takes.1 ((o1.held second.has).reads found.0 found.1) in
      subst (λ (c : Option (List ℕ)). Reads v name c) (reads_one v0 name old found.0 takes.0 before) found.1

  pub reads_then_on_disk : StaysOnDisk lock name mid after → IsOnDisk lock name old before after
  reads_then_on_disk (calls, is, there) = (
    calls ++ reading,
    both calls reading before mid after is is_read,
    λ laters d e held run.
        let parts = run_split lock name laters calls reading d e run in
        let first = had laters d parts.0 held parts.1 in
        (first.0, λ c left. there laters parts.0 e first.1 parts.2 old (reads_still laters d parts.0 held parts.1) c left),
  )
