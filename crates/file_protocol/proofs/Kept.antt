-- What the calls keep for the next command.
use Rattle.std.proofs.Common.{◌≡◌, ◌≢◌, ◌⊎◌, inl, inr, ⊎_elim, ℕ, true, false, List, [], ◌∷◌, Option, Some, None, refl, sym, ◌∙◌, ap, subst}
use Rattle.std.proofs.lemmas.Bool.{cond-true, cond-false}
use Rattle.file_protocol.specs.Event.{Event, Opened, Locked, Compared, Emptied, Wrote, Synced, Renamed, Removed, Settled, SyncedFile, Read, unanswered}
use Rattle.file_protocol.specs.Disk.{Disk, Names, lead, move, MayName, IsApart, IsFresh, led, moved, opened, Takes}
use Rattle.file_protocol.specs.Safe.{Run, Moment, IsKept, IsOurs, AllOurs}
use Rattle.file_protocol.proofs.Lemmas.{other_name, same_bytes, led_names}

some_none : (file : ℕ) → None ≡ Some file → ⊥
some_none file e = cc

-- a fresh file under the lock's name, or none
pub led_both : (v : Disk) (lock name : List ℕ) (entry : Option ℕ) (names : Names) → name ≢ lock → MayName (led v lock entry) names
    → (before : Names) × MayName v before × (names name ≡ before name) × ((names lock ≡ before lock) ⊎ (names lock ≡ entry))
led_both v lock name entry names ne (inl now) =
    (v.names, inl refl, ap (λ (n : Names). n name) now ∙ cond-false _ entry (v.names name) (other_name name lock ne), inr (ap (λ (n : Names). n lock) now ∙ cond-true _ entry (v.names lock) (same_bytes lock)))
led_both v lock name entry names ne (inr reached) = later reached.2
  where
    later : (names ≡ reached.0) ⊎ (names ≡ lead lock entry reached.0) → (before : Names) × MayName v before × (names name ≡ before name) × ((names lock ≡ before lock) ⊎ (names lock ≡ entry))
    later (inl same) = (reached.0, inr reached.1, ap (λ (n : Names). n name) same, inl (ap (λ (n : Names). n lock) same))
    later (inr done) = (reached.0, inr reached.1, ap (λ (n : Names). n name) done ∙ cond-false _ entry (reached.0 name) (other_name name lock ne), inr (ap (λ (n : Names). n lock) done ∙ cond-true _ entry (reached.0 lock) (same_bytes lock)))

module _ (lock name : List ℕ) (apart : lock ≢ name) where
  other : name ≢ lock
  other e = apart (sym e)

  apart_led : (v : Disk) (entry : Option ℕ) (file : ℕ) → IsApart v name file → IsApart (led v lock entry) name file
  apart_led v entry file was names may at =
      let before = led_names v lock name entry names other may in
      was before.0 before.1 (sym before.2 ∙ at)

  -- a file that was made is kept, whatever was there before
  kept_fresh : (v : Disk) (file : ℕ) → IsFresh v file → IsKept lock name (led v lock (Some file))
  kept_fresh v file fresh f at =
      let e : Some file ≡ Some f = sym (cond-true _ (Some file) (v.names lock) (same_bytes lock)) ∙ at in
      let same : file ≡ f = cc in
      subst (λ (x : ℕ). IsApart (led v lock (Some file)) name x) same (apart_led v (Some file) file (fresh name))

  kept_removed : (v : Disk) → IsKept lock name (led v lock None)
  kept_removed v f at = absurd (some_none f (sym (cond-true _ None (v.names lock) (same_bytes lock)) ∙ at))

  -- where the lock's file has moved, there is none under the lock's name
  pub none_moved : (file : ℕ) (names : Names) → (move lock name file names) lock ≡ None
  none_moved file names = cond-false _ (Some file) _ (other_name lock name apart) ∙ cond-true _ None (names lock) (same_bytes lock)

  kept_moved : (v : Disk) (file : ℕ) → IsKept lock name (moved v lock name file)
  kept_moved v file f at = absurd (some_none f (sym (none_moved file v.names) ∙ at))

  -- only the names count
  kept_along : (v w : Disk) → w.names ≡ v.names → ((names : Names) → MayName w names → MayName v names) → IsKept lock name v → IsKept lock name w
  kept_along v w same fewer kept f at names may = kept f (sym (ap (λ (n : Names). n lock) same) ∙ at) names (fewer names may)

  -- a file that was made under the lock's name is kept, whatever was there before
  pub kept_made : (v w : Disk) → Takes (Opened lock (Some true)) v w → IsKept lock name w
  kept_made v w (f, none, fresh, is) =
      subst (λ (x : Disk). IsKept lock name x) (sym is) (kept_along (led v lock (Some f)) (opened (led v lock (Some f)) f) refl (λ names may. may) (kept_fresh v f fresh))

  pub kept_call : (call : Event) (v w : Disk) → IsOurs lock name call → Takes call v w → IsKept lock name v → IsKept lock name w
  kept_call (Opened n (Some false)) v w ours (f, at, is) kept = kept_along v w (ap (λ (x : Disk). x.names) is) (λ names may. subst (λ (x : Disk). MayName x names) is may) kept
  kept_call (Opened n (Some true)) v w ours takes kept = kept_made v w (subst (λ (m : List ℕ). Takes (Opened m (Some true)) v w) ours takes)
  kept_call (Opened n None) v w ours (inl is) kept = subst (λ (x : Disk). IsKept lock name x) (sym is) kept
  kept_call (Opened n None) v w ours (inr (f, none, fresh, is)) kept =
      subst (λ (x : Disk). IsKept lock name x) (sym is) (subst (λ (m : List ℕ). IsKept lock name (led v m (Some f))) (sym ours) (kept_fresh v f fresh))
  kept_call (Locked true) v w ours is kept = kept_along v w (ap (λ (x : Disk). x.names) is) (λ names may. subst (λ (x : Disk). MayName x names) is may) kept
  kept_call (Locked false) v w ours is kept = subst (λ (x : Disk). IsKept lock name x) (sym is) kept
  kept_call (Compared n true) v w ours is kept = subst (λ (x : Disk). IsKept lock name x) (sym is.1) kept
  kept_call (Compared n false) v w ours is kept = subst (λ (x : Disk). IsKept lock name x) (sym is) kept
  kept_call (Emptied true) v w ours is kept = kept_along v w (ap (λ (x : Disk). x.names) is) (λ names may. subst (λ (x : Disk). MayName x names) is may) kept
  kept_call (Emptied false) v w ours is kept = kept_along v w (ap (λ (x : Disk). x.names) is.1) (λ names may. subst (λ (x : Disk). MayName x names) is.1 may) kept
  kept_call (Wrote b (Some n)) v w ours is kept = kept_along v w (ap (λ (x : Disk). x.names) is.1) (λ names may. subst (λ (x : Disk). MayName x names) is.1 may) kept
  kept_call (Wrote b None) v w ours is kept = kept_along v w (ap (λ (x : Disk). x.names) is.2) (λ names may. subst (λ (x : Disk). MayName x names) is.2 may) kept
  kept_call (Synced true) v w ours is kept = kept_along v w (ap (λ (x : Disk). x.names) is) (λ names may. subst (λ (x : Disk). MayName x names) is may) kept
  kept_call (Synced false) v w ours is kept = kept_along v w (ap (λ (x : Disk). x.names) is) (λ names may. subst (λ (x : Disk). MayName x names) is may) kept
  kept_call (Renamed from to true) v w ours (f, at, is) kept =
      subst (λ (x : Disk). IsKept lock name x) (sym is) (subst (λ (m : List ℕ). IsKept lock name (moved v m to f)) (sym ours.0) (subst (λ (m : List ℕ). IsKept lock name (moved v lock m f)) (sym ours.1) (kept_moved v f)))
  kept_call (Renamed from to false) v w ours (inl is) kept = subst (λ (x : Disk). IsKept lock name x) (sym is) kept
  kept_call (Renamed from to false) v w ours (inr (f, at, is)) kept =
      subst (λ (x : Disk). IsKept lock name x) (sym is) (subst (λ (m : List ℕ). IsKept lock name (moved v m to f)) (sym ours.0) (subst (λ (m : List ℕ). IsKept lock name (moved v lock m f)) (sym ours.1) (kept_moved v f)))
  kept_call (Removed n true) v w ours is kept = subst (λ (x : Disk). IsKept lock name x) (sym is) (subst (λ (m : List ℕ). IsKept lock name (led v m None)) (sym ours) (kept_removed v))
  kept_call (Removed n false) v w ours (inl is) kept = subst (λ (x : Disk). IsKept lock name x) (sym is) kept
  kept_call (Removed n false) v w ours (inr is) kept = subst (λ (x : Disk). IsKept lock name x) (sym is) (subst (λ (m : List ℕ). IsKept lock name (led v m None)) (sym ours) (kept_removed v))
  kept_call (Settled true) v w ours is kept = subst (λ (x : Disk). IsKept lock name x) (sym is) (kept_along v (record v { synced = v.names; changes = [] }) refl (λ names may. inl (⊎_elim (λ x. x) (λ x. x) may)) kept)
  kept_call (Settled false) v w ours is kept = subst (λ (x : Disk). IsKept lock name x) (sym is) kept
  kept_call (SyncedFile n true) v w ours (f, at, is) kept = kept_along v w (ap (λ (x : Disk). x.names) is) (λ names may. subst (λ (x : Disk). MayName x names) is may) kept
  kept_call (SyncedFile n false) v w ours is kept = subst (λ (x : Disk). IsKept lock name x) (sym is) kept
  kept_call (Read n (Some a)) v w ours is kept = subst (λ (x : Disk). IsKept lock name x) (sym is.1) kept
  kept_call (Read n None) v w ours is kept = subst (λ (x : Disk). IsKept lock name x) (sym is) kept

  ours_begun : (call : Event) → IsOurs lock name call → IsOurs lock name (unanswered call)
  ours_begun (Opened n made) ours = ours
  ours_begun (Locked got) ours = ours
  ours_begun (Compared n same) ours = ours
  ours_begun (Emptied ok) ours = ours
  ours_begun (Wrote b n) ours = ours
  ours_begun (Synced ok) ours = ours
  ours_begun (Renamed from to ok) ours = ours
  ours_begun (Removed n ok) ours = ours
  ours_begun (Settled ok) ours = ours
  ours_begun (SyncedFile n ok) ours = ours
  ours_begun (Read n a) ours = ours

  module _ (laters : List (Option (List ℕ))) where
    pub kept_run : (calls : List Event) (d e : Disk) → AllOurs lock name calls → IsKept lock name d → Run lock name laters calls d e → IsKept lock name e
    kept_run [] d e ours kept run = run.kept kept
    kept_run (call ∷ earlier) d e ours kept (v, w, run, takes, others) =
        others.kept (kept_call call v w ours.0 takes (kept_run earlier d v ours.1 kept run))

    pub kept_moment : (calls : List Event) (d e : Disk) → AllOurs lock name calls → IsKept lock name d → Moment lock name laters calls d e → IsKept lock name e
    kept_moment [] d e ours kept moment = moment.kept kept
    kept_moment (call ∷ earlier) d e ours kept (inl run) = kept_run (call ∷ earlier) d e ours kept run
    kept_moment (call ∷ earlier) d e ours kept (inr (inl (v, w, run, takes, others))) =
        others.kept (kept_call (unanswered call) v w (ours_begun call ours.0) takes (kept_run earlier d v ours.1 kept run))
    kept_moment (call ∷ earlier) d e ours kept (inr (inr moment)) = kept_moment earlier d e ours.1 kept moment
