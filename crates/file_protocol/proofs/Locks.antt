-- The calls that have a lock.
use Rattle.std.proofs.Common.{◌≡◌, ◌≢◌, ◌⊎◌, inl, inr, ⊎_elim, ℕ, true, false, List, [], ◌∷◌, ◌++◌, Option, Some, None, sym, ◌∙◌, ap, subst, append_assoc}
use Rattle.std.specs.List.{Contains}
use Rattle.file_protocol.specs.Event.{Event, Opened, Locked, Compared, Removed, Settled, SyncedFile, Read, unanswered}
use Rattle.file_protocol.specs.Disk.{Disk, MayLeave, IsApart, Takes}
use Rattle.file_protocol.specs.Safe.{Others, Run, Moment, IsHeld, IsOurs, AllOurs, OnlyOurs, StaysKept, TakesLock, StaysOld}
use Rattle.file_protocol.specs.Locking.{IsLocking, AllLocking, OnlyLocks, IsKeeping, AllKeeping, OnlyKeeps}
use Rattle.file_protocol.proofs.Lemmas.{leaves_led, leaves_settled, leaves_stored}
use Rattle.file_protocol.proofs.Kept.{kept_call, kept_made, kept_moment}
use Rattle.file_protocol.proofs.Splits.{run_split}

module _ (lock name : List ℕ) where
  -- what has a lock and reads is some of what keeps a file
  keeping : (call : Event) → IsLocking lock call → IsKeeping lock call
  keeping (Settled ok) is = tt
  keeping (SyncedFile n ok) is = tt
  keeping (Opened n made) is = is
  keeping (Locked got) is = is
  keeping (Compared n same) is = is
  keeping (Removed n ok) is = is
  keeping (Read n a) is = is
  keeping call is = absurd is

  pub all_keeping : (calls : List Event) → AllLocking lock calls → AllKeeping lock calls
  all_keeping [] all = tt
  all_keeping (call ∷ calls) all = (keeping call all.0, all_keeping calls all.1)

  ours : (call : Event) → IsKeeping lock call → IsOurs lock name call
  ours (Opened n made) is = is
  ours (Locked got) is = tt
  ours (Compared n same) is = tt
  ours (Removed n ok) is = is
  ours (Settled ok) is = tt
  ours (SyncedFile n ok) is = tt
  ours (Read n a) is = tt
  ours call is = absurd is

  all_ours : (calls : List Event) → AllKeeping lock calls → AllOurs lock name calls
  all_ours [] all = tt
  all_ours (call ∷ calls) all = (ours call all.0, all_ours calls all.1)

  module _ (apart : lock ≢ name) where
    other : name ≢ lock
    other e = apart (sym e)

    pub leaves : (call : Event) (v w : Disk) → IsKeeping lock call → Takes call v w → (c : Option (List ℕ)) → MayLeave w name c → MayLeave v name c
    leaves (Opened n (Some false)) v w is (f, at, to) c left = subst (λ (x : Disk). MayLeave x name c) to left
    leaves (Opened n (Some true)) v w is (f, none, fresh, to) c left =
        leaves_led v n name (Some f) c (λ e. other (e ∙ is)) (subst (λ (x : Disk). MayLeave x name c) to left)
    leaves (Opened n None) v w is (inl to) c left = subst (λ (x : Disk). MayLeave x name c) to left
    leaves (Opened n None) v w is (inr (f, none, fresh, to)) c left =
        leaves_led v n name (Some f) c (λ e. other (e ∙ is)) (subst (λ (x : Disk). MayLeave x name c) to left)
    leaves (Locked true) v w is to c left = subst (λ (x : Disk). MayLeave x name c) to left
    leaves (Locked false) v w is to c left = subst (λ (x : Disk). MayLeave x name c) to left
    leaves (Compared n true) v w is to c left = subst (λ (x : Disk). MayLeave x name c) to.1 left
    leaves (Compared n false) v w is to c left = subst (λ (x : Disk). MayLeave x name c) to left
    leaves (Removed n true) v w is to c left =
        leaves_led v n name None c (λ e. other (e ∙ is)) (subst (λ (x : Disk). MayLeave x name c) to left)
    leaves (Removed n false) v w is (inl to) c left = subst (λ (x : Disk). MayLeave x name c) to left
    leaves (Removed n false) v w is (inr to) c left =
        leaves_led v n name None c (λ e. other (e ∙ is)) (subst (λ (x : Disk). MayLeave x name c) to left)
    leaves (Settled true) v w is to c left = leaves_settled v name c (subst (λ (x : Disk). MayLeave x name c) to left)
    leaves (Settled false) v w is to c left = subst (λ (x : Disk). MayLeave x name c) to left
    leaves (SyncedFile n true) v w is (f, at, to) c left = leaves_stored v name f c (subst (λ (x : Disk). MayLeave x name c) to left)
    leaves (SyncedFile n false) v w is to c left = subst (λ (x : Disk). MayLeave x name c) to left
    leaves (Read n (Some a)) v w is to c left = subst (λ (x : Disk). MayLeave x name c) to.1 left
    leaves (Read n None) v w is to c left = subst (λ (x : Disk). MayLeave x name c) to left
    leaves call v w is to c left = absurd is

    locking_begun : (call : Event) → IsKeeping lock call → IsKeeping lock (unanswered call)
    locking_begun (Opened n made) is = is
    locking_begun (Locked got) is = tt
    locking_begun (Compared n same) is = tt
    locking_begun (Removed n ok) is = is
    locking_begun (Settled ok) is = tt
    locking_begun (SyncedFile n ok) is = tt
    locking_begun (Read n a) is = tt
    locking_begun call is = absurd is

    module _ (laters : List (Option (List ℕ))) where
      old_run : (calls : List Event) (d e : Disk) → AllKeeping lock calls → Run lock name laters calls d e → (c : Option (List ℕ)) → MayLeave e name c → MayLeave d name c ⊎ Contains laters c
      old_run [] d e all run c left = run.left c left
      old_run (call ∷ earlier) d e all (v, w, run, takes, others) c left =
          ⊎_elim (λ here. old_run earlier d v all.1 run c (leaves call v w all.0 takes c here)) (λ later. inr later) (others.left c left)

      pub old_moment : (calls : List Event) (d e : Disk) → AllKeeping lock calls → Moment lock name laters calls d e → (c : Option (List ℕ)) → MayLeave e name c → MayLeave d name c ⊎ Contains laters c
      old_moment [] d e all moment c left = moment.left c left
      old_moment (call ∷ earlier) d e all (inl run) c left = old_run (call ∷ earlier) d e all run c left
      old_moment (call ∷ earlier) d e all (inr (inl (v, w, run, takes, others))) c left =
          ⊎_elim (λ here. old_run earlier d v all.1 run c (leaves (unanswered call) v w (locking_begun call all.0) takes c here)) (λ later. inr later) (others.left c left)
      old_moment (call ∷ earlier) d e all (inr (inr moment)) c left = old_moment earlier d e all.1 moment c left

      -- others leave what is held
      pub held_on : (w e : Disk) → Others lock name laters w e → IsHeld lock name w → IsHeld lock name e
      held_on w e o held = let alone = o.held held.has in record {
        has = record {
          locked = o.locked ∙ held.has.locked;
          named = alone.leads ∙ held.has.named ∙ ap (λ (x : ℕ). Some x) (sym o.mine);
        };
        place = o.place ∙ held.place;
        apart = subst (λ (x : ℕ). IsApart e name x) (sym o.mine) (alone.apart held.apart);
      }

      opened_place : (v w : Disk) → Takes (Opened lock (Some true)) v w → w.place ≡ 0
      opened_place v w (f, none, fresh, is) = ap (λ (x : Disk). x.place) is

      had : (d e : Disk) → Run lock name laters (Compared lock true ∷ Locked true ∷ Opened lock (Some true) ∷ []) d e → IsHeld lock name e
      had d e (v2, w2, (v1, w1, (v0, w0, o0, t0, o1), t1, o2), t2, o3) =
          let kept2 = o2.kept (kept_call lock name apart (Locked true) v1 w1 tt t1 (o1.kept (kept_made lock name apart v0 w0 t0))) in
          let here : IsHeld lock name v2 = record {
            has = record { locked = o2.locked ∙ ap (λ (x : Disk). x.is_locked) t1; named = t2.0 };
            place = o2.place ∙ ap (λ (x : Disk). x.place) t1 ∙ o1.place ∙ opened_place v0 w0 t0;
            apart = kept2 v2.mine t2.0;
          } in
          held_on w2 e o3 (subst (λ (x : Disk). IsHeld lock name x) (sym t2.1) here)

    -- the file stays as it was while it is synced
    pub keeps_old : (before after : List Event) → OnlyKeeps lock before after → StaysOld lock name before after
    keeps_old before after (calls, is, all) = (calls, is, λ laters d e moment c left. old_moment laters calls d e all moment c left)

    pub keeps_kept : (before after : List Event) → OnlyKeeps lock before after → StaysKept lock name before after
    keeps_kept before after (calls, is, all) = (calls, is, λ laters d e kept moment. kept_moment lock name apart laters calls d e (all_ours calls all) kept moment)

    pub keeps_ours : (before after : List Event) → OnlyKeeps lock before after → OnlyOurs lock name before after
    keeps_ours before after (calls, is, all) = (calls, is, all_ours calls all)

    pub stays_old : (before after : List Event) → OnlyLocks lock before after → StaysOld lock name before after
    stays_old before after (calls, is, all) = keeps_old before after (calls, is, all_keeping calls all)

    pub stays_kept : (before after : List Event) → OnlyLocks lock before after → StaysKept lock name before after
    stays_kept before after (calls, is, all) = keeps_kept before after (calls, is, all_keeping calls all)

    -- a file that this process made, locked, and of the lock's name still
    pub takes_lock : (before after : List Event) → after ≡ Compared lock true ∷ Locked true ∷ Opened lock (Some true) ∷ before → TakesLock lock name before after
    takes_lock before after is = (Compared lock true ∷ Locked true ∷ Opened lock (Some true) ∷ [], is, λ laters d e run. had laters d e run)

    -- the lock is had at last
    pub takes_at_last : (before mid after : List Event) → OnlyLocks lock before mid → TakesLock lock name mid after → TakesLock lock name before after
    takes_at_last before mid after (earlier, was, all) (calls, is, takes) = (
      calls ++ earlier,
      is ∙ ap (λ (h : List Event). calls ++ h) was ∙ sym (append_assoc calls earlier before),
      λ laters d e run.
          let parts = run_split lock name laters calls earlier d e run in
          takes laters parts.0 e parts.2,
    )
