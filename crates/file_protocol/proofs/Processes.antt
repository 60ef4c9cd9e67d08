-- Who has no lock of its own touches nothing that is locked.
use Rattle.std.proofs.Common.{◌≡◌, ◌≢◌, ◌⊎◌, inl, inr, ⊎_elim, ℕ, ◌==◌, ◌||◌, ◌&&◌, not, Bool, true, false, List, [], ◌∷◌, Option, Some, None, refl, sym, ◌∙◌, ap, subst}
use Rattle.std.specs.Str.{bytes_eq}
use Rattle.std.proofs.lemmas.Bool.{cases_eq}
use Rattle.std.proofs.lemmas.Slice.Eq.{bytes_eq-Decides}
use Rattle.file_protocol.specs.Event.{Event, Opened, Locked, Compared, Emptied, Wrote, Synced, Renamed, Removed, Settled, SyncedFile, Read, unanswered}
use Rattle.file_protocol.specs.Disk.{Disk, Names, MayName, MayHold, Reads, led, opened, stored, Takes}
use Rattle.file_protocol.specs.Owning.{Grip, NoLock, SomeLock, OwnLock, got, found, lost, next_grip, IsOwners, grip_after, OwnsAll, GetsLock, GivesBack}
use Rattle.file_protocol.specs.Processes.{Handle, seen_by, World, Spares, Makes, Endings, Happening, By, Ends, Happens, Interleaves, IsQuiet, OwnersLeaveAlone, OwnerLaws}
use Rattle.file_protocol.specs.Safe.{HasLock, LeavesAlone, IsOurs}
use Rattle.file_protocol.proofs.Lemmas.{has_along, leaves_settled}
use Rattle.file_protocol.proofs.Owning.{then_owns}

none_some : (file : ℕ) → None ≡ Some file → ⊥
none_some file e = cc

one_file : (a b : ℕ) → Some a ≡ Some b → a ≡ b
one_file a b e = cc

not_locked : true ≡ false → ⊥
not_locked e = cc

-- a name reads the same where it leads to the same, and files have the same
reads_along : (d e : Disk) (name : List ℕ) → e.names name ≡ d.names name → e.contents ≡ d.contents → (c : Option (List ℕ)) → Reads e name c → Reads d name c
reads_along d e name leads same None reads = sym leads ∙ reads
reads_along d e name leads same (Some bytes) (file, at, is) = (file, sym leads ∙ at, is ∙ ap (λ (k : ℕ → List ℕ). k file) same)

front : (a b : Bool) → (a || b) ≡ false → a ≡ false
front true b e = e
front false b e = refl

still_true : (a b : Bool) → a ≡ true → (a || b) ≡ true
still_true true b e = refl
still_true false b e = absurd (let x : ⊥ = cc in x)

module _ (lock name : List ℕ) where
  -- what a process that has a handle sees of a change
  module _ (h : Handle) where
    abbrev Leaves : Disk → Disk → Type 0
    Leaves d e = LeavesAlone lock name (seen_by h d) (seen_by h e)

    nothing : (d : Disk) → Leaves d d
    nothing d = record { leads = refl; bytes = refl; synced = λ s. s; old = λ c l. l; reads = λ c r. r; apart = λ a. a }

    by : (d e f : Disk) → e ≡ f → Leaves d f → Leaves d e
    by d e f is leaves = subst (λ (x : Disk). Leaves d x) (sym is) leaves

    settles : (d : Disk) → Leaves d (record d { synced = d.names; changes = [] })
    settles d = record {
      leads = refl;
      bytes = refl;
      synced = λ s. s;
      old = λ c l. leaves_settled (seen_by h d) name c l;
      reads = λ c r. reads_along (seen_by h d) (seen_by h (record d { synced = d.names; changes = [] })) name refl refl c r;
      apart = λ a names may. a names (inl (⊎_elim (λ x. x) (λ x. x) may));
    }

    holds_more : (d : Disk) (one file : ℕ) (bytes : List ℕ) → MayHold (seen_by h (stored d one)) file bytes → MayHold (seen_by h d) file bytes
    holds_more d one file bytes (inl is) = inl is
    holds_more d one file bytes (inr is) = inr (front (d.is_synced file) (file == one && not (file == d.mine)) is)

    stores : (d : Disk) (one : ℕ) → Leaves d (stored d one)
    stores d one = record {
      leads = refl;
      bytes = refl;
      synced = λ s. still_true (d.is_synced h.mine) (h.mine == one && not (h.mine == d.mine)) s;
      old = λ c l. (l.0, l.1, has_along (seen_by h d) (seen_by h (stored d one)) l.0 l.0 name c refl (λ file bytes at holds. holds_more d one file bytes holds) l.2);
      reads = λ c r. reads_along (seen_by h d) (seen_by h (stored d one)) name refl refl c r;
      apart = λ a names may. a names may;
    }

    module _ (m : ℕ) (d e : Disk) (at : d.names lock ≡ Some m) where
      unmade : (n : List ℕ) → n ≡ lock → d.names n ≡ None → ⊥
      unmade n is none = none_some m (sym none ∙ ap d.names is ∙ at)

      -- a call of who has no lock of its own
      pub leaves : (call : Event) (g : Grip) → Takes call d e → IsOurs lock name call → IsOwners call g → (g ≡ OwnLock → ⊥) → Leaves d e
      leaves (Opened n (Some true)) g (f, none, fresh, is) ours own never = absurd (unmade n ours none)
      leaves (Opened n (Some false)) g (f, there, is) ours own never = by d e (opened d f) is (nothing d)
      leaves (Opened n None) g (inl is) ours own never = by d e d is (nothing d)
      leaves (Opened n None) g (inr (f, none, fresh, is)) ours own never = absurd (unmade n ours none)
      leaves (Locked true) g is ours own never = by d e (record d { is_locked = true }) is (nothing d)
      leaves (Locked false) g is ours own never = by d e d is (nothing d)
      leaves (Compared n true) g is ours own never = by d e d is.1 (nothing d)
      leaves (Compared n false) g is ours own never = by d e d is (nothing d)
      leaves (Emptied ok) g is ours own never = absurd (never own)
      leaves (Wrote b n) g is ours own never = absurd (never own)
      leaves (Synced ok) g is ours own never = absurd (never own)
      leaves (Renamed from to ok) g is ours own never = absurd (never own)
      leaves (Removed n ok) g is ours own never = absurd (never own)
      leaves (Settled true) g is ours own never = by d e (record d { synced = d.names; changes = [] }) is (settles d)
      leaves (Settled false) g is ours own never = by d e d is (nothing d)
      leaves (SyncedFile n true) g (f, there, is) ours own never = by d e (stored d f) is (stores d f)
      leaves (SyncedFile n false) g is ours own never = by d e d is (nothing d)
      leaves (Read n (Some a)) g is ours own never = by d e d is.1 (nothing d)
      leaves (Read n None) g is ours own never = by d e d is (nothing d)

  -- what a process has of the lock by its calls is so on the disk
  abbrev GripMeans : Grip → Disk → Type 0
  GripMeans NoLock d = Unit {0}
  GripMeans SomeLock d = d.is_locked ≡ true
  GripMeans OwnLock d = HasLock lock d

  keeps : (d e : Disk) → e.is_locked ≡ d.is_locked → e.names ≡ d.names → e.mine ≡ d.mine → (g : Grip) → GripMeans g d → GripMeans g e
  keeps d e locked names mine NoLock m = tt
  keeps d e locked names mine SomeLock m = locked ∙ m
  keeps d e locked names mine OwnLock m = record { locked = locked ∙ m.locked; named = ap (λ (n : Names). n lock) names ∙ m.named ∙ ap (λ (x : ℕ). Some x) (sym mine) }

  loses : (d e : Disk) → e.is_locked ≡ d.is_locked → (g : Grip) → GripMeans g d → GripMeans (lost g) e
  loses d e locked NoLock m = tt
  loses d e locked SomeLock m = locked ∙ m
  loses d e locked OwnLock m = locked ∙ m.locked

  finds : (d : Disk) (n : List ℕ) (b : Bool) → (b ≡ true → n ≡ lock) → d.names n ≡ Some d.mine → (g : Grip) → GripMeans g d → GripMeans (found b g) d
  finds d n true is at NoLock m = tt
  finds d n true is at SomeLock m = record { locked = m; named = sym (ap d.names (is refl)) ∙ at }
  finds d n true is at OwnLock m = m
  finds d n false is at NoLock m = tt
  finds d n false is at SomeLock m = m
  finds d n false is at OwnLock m = m

  same_grip : (d : Disk) (g : Grip) → GripMeans g d → GripMeans (found false g) d
  same_grip d NoLock m = tt
  same_grip d SomeLock m = m
  same_grip d OwnLock m = m

  gets : (d e : Disk) → e ≡ record d { is_locked = true } → (g : Grip) → GripMeans g d → GripMeans (got g) e
  gets d e is NoLock m = ap (λ (x : Disk). x.is_locked) is
  gets d e is SomeLock m = ap (λ (x : Disk). x.is_locked) is
  gets d e is OwnLock m = record {
    locked = ap (λ (x : Disk). x.is_locked) is;
    named = ap (λ (x : Disk). x.names lock) is ∙ m.named ∙ ap (λ (x : ℕ). Some x) (sym (ap (λ (x : Disk). x.mine) is));
  }

  -- after a call of its own
  step : (call : Event) (d e : Disk) (g : Grip) → Takes call d e → GripMeans g d → GripMeans (next_grip lock call g) e
  step (Opened n made) d e g takes m = tt
  step (Locked true) d e g is m = gets d e is g m
  step (Locked false) d e g is m = subst (λ (x : Disk). GripMeans g x) (sym is) m
  step (Compared n true) d e g (at, is) m = subst (λ (x : Disk). GripMeans (found (bytes_eq n lock) g) x) (sym is) (finds d n (bytes_eq n lock) (λ b. (bytes_eq-Decides n lock).0 b) at g m)
  step (Compared n false) d e g is m = subst (λ (x : Disk). GripMeans (found false g) x) (sym is) (same_grip d g m)
  step (Emptied true) d e g is m = keeps d e (ap (λ (x : Disk). x.is_locked) is) (ap (λ (x : Disk). x.names) is) (ap (λ (x : Disk). x.mine) is) g m
  step (Emptied false) d e g (b, is) m = keeps d e (ap (λ (x : Disk). x.is_locked) is) (ap (λ (x : Disk). x.names) is) (ap (λ (x : Disk). x.mine) is) g m
  step (Wrote b (Some n)) d e g (bound, is) m = keeps d e (ap (λ (x : Disk). x.is_locked) is) (ap (λ (x : Disk). x.names) is) (ap (λ (x : Disk). x.mine) is) g m
  step (Wrote b None) d e g (l, p, is) m = keeps d e (ap (λ (x : Disk). x.is_locked) is) (ap (λ (x : Disk). x.names) is) (ap (λ (x : Disk). x.mine) is) g m
  step (Synced true) d e g is m = keeps d e (ap (λ (x : Disk). x.is_locked) is) (ap (λ (x : Disk). x.names) is) (ap (λ (x : Disk). x.mine) is) g m
  step (Synced false) d e g is m = keeps d e (ap (λ (x : Disk). x.is_locked) is) (ap (λ (x : Disk). x.names) is) (ap (λ (x : Disk). x.mine) is) g m
  step (Renamed from to true) d e g (f, at, is) m = loses d e (ap (λ (x : Disk). x.is_locked) is) g m
  step (Renamed from to false) d e g (inl is) m = loses d e (ap (λ (x : Disk). x.is_locked) is) g m
  step (Renamed from to false) d e g (inr (f, at, is)) m = loses d e (ap (λ (x : Disk). x.is_locked) is) g m
  step (Removed n true) d e g is m = loses d e (ap (λ (x : Disk). x.is_locked) is) g m
  step (Removed n false) d e g (inl is) m = loses d e (ap (λ (x : Disk). x.is_locked) is) g m
  step (Removed n false) d e g (inr is) m = loses d e (ap (λ (x : Disk). x.is_locked) is) g m
  step (Settled true) d e g is m = keeps d e (ap (λ (x : Disk). x.is_locked) is) (ap (λ (x : Disk). x.names) is) (ap (λ (x : Disk). x.mine) is) g m
  step (Settled false) d e g is m = subst (λ (x : Disk). GripMeans g x) (sym is) m
  step (SyncedFile n true) d e g (f, at, is) m = keeps d e (ap (λ (x : Disk). x.is_locked) is) (ap (λ (x : Disk). x.names) is) (ap (λ (x : Disk). x.mine) is) g m
  step (SyncedFile n false) d e g is m = subst (λ (x : Disk). GripMeans g x) (sym is) m
  step (Read n (Some a)) d e g (r, is) m = subst (λ (x : Disk). GripMeans g x) (sym is) m
  step (Read n None) d e g is m = subst (λ (x : Disk). GripMeans g x) (sym is) m

  -- a lock that a process has after a call it had before of the same file, or got
  abbrev HadOrGot : Event → Disk → Disk → Type 0
  HadOrGot call d e = (e.mine ≡ d.mine) × ((d.is_locked ≡ true) ⊎ (call ≡ Locked true))

  had : (call : Event) (d e : Disk) → e.mine ≡ d.mine → e.is_locked ≡ d.is_locked → e.is_locked ≡ true → HadOrGot call d e
  had call d e mine locked is = (mine, inl (sym locked ∙ is))

  opened_unlocked : (d e : Disk) (f : ℕ) (call : Event) (x : Disk) → e ≡ opened x f → e.is_locked ≡ true → HadOrGot call d e
  opened_unlocked d e f call x is locked = absurd (not_locked (sym locked ∙ ap (λ (y : Disk). y.is_locked) is))

  had_or_got : (call : Event) (d e : Disk) → Takes call d e → e.is_locked ≡ true → HadOrGot call d e
  had_or_got (Opened n (Some true)) d e (f, none, fresh, is) = opened_unlocked d e f (Opened n (Some true)) (led d n (Some f)) is
  had_or_got (Opened n (Some false)) d e (f, at, is) = opened_unlocked d e f (Opened n (Some false)) d is
  had_or_got (Opened n None) d e (inl is) = had (Opened n None) d e (ap (λ (x : Disk). x.mine) is) (ap (λ (x : Disk). x.is_locked) is)
  had_or_got (Opened n None) d e (inr (f, none, fresh, is)) = had (Opened n None) d e (ap (λ (x : Disk). x.mine) is) (ap (λ (x : Disk). x.is_locked) is)
  had_or_got (Locked true) d e is = λ locked. (ap (λ (x : Disk). x.mine) is, inr refl)
  had_or_got (Locked false) d e is = had (Locked false) d e (ap (λ (x : Disk). x.mine) is) (ap (λ (x : Disk). x.is_locked) is)
  had_or_got (Compared n true) d e (at, is) = had (Compared n true) d e (ap (λ (x : Disk). x.mine) is) (ap (λ (x : Disk). x.is_locked) is)
  had_or_got (Compared n false) d e is = had (Compared n false) d e (ap (λ (x : Disk). x.mine) is) (ap (λ (x : Disk). x.is_locked) is)
  had_or_got (Emptied true) d e is = had (Emptied true) d e (ap (λ (x : Disk). x.mine) is) (ap (λ (x : Disk). x.is_locked) is)
  had_or_got (Emptied false) d e (b, is) = had (Emptied false) d e (ap (λ (x : Disk). x.mine) is) (ap (λ (x : Disk). x.is_locked) is)
  had_or_got (Wrote b (Some n)) d e (bound, is) = had (Wrote b (Some n)) d e (ap (λ (x : Disk). x.mine) is) (ap (λ (x : Disk). x.is_locked) is)
  had_or_got (Wrote b None) d e (l, p, is) = had (Wrote b None) d e (ap (λ (x : Disk). x.mine) is) (ap (λ (x : Disk). x.is_locked) is)
  had_or_got (Synced true) d e is = had (Synced true) d e (ap (λ (x : Disk). x.mine) is) (ap (λ (x : Disk). x.is_locked) is)
  had_or_got (Synced false) d e is = had (Synced false) d e (ap (λ (x : Disk). x.mine) is) (ap (λ (x : Disk). x.is_locked) is)
  had_or_got (Renamed from to true) d e (f, at, is) = had (Renamed from to true) d e (ap (λ (x : Disk). x.mine) is) (ap (λ (x : Disk). x.is_locked) is)
  had_or_got (Renamed from to false) d e (inl is) = had (Renamed from to false) d e (ap (λ (x : Disk). x.mine) is) (ap (λ (x : Disk). x.is_locked) is)
  had_or_got (Renamed from to false) d e (inr (f, at, is)) = had (Renamed from to false) d e (ap (λ (x : Disk). x.mine) is) (ap (λ (x : Disk). x.is_locked) is)
  had_or_got (Removed n true) d e is = had (Removed n true) d e (ap (λ (x : Disk). x.mine) is) (ap (λ (x : Disk). x.is_locked) is)
  had_or_got (Removed n false) d e (inl is) = had (Removed n false) d e (ap (λ (x : Disk). x.mine) is) (ap (λ (x : Disk). x.is_locked) is)
  had_or_got (Removed n false) d e (inr is) = had (Removed n false) d e (ap (λ (x : Disk). x.mine) is) (ap (λ (x : Disk). x.is_locked) is)
  had_or_got (Settled true) d e is = had (Settled true) d e (ap (λ (x : Disk). x.mine) is) (ap (λ (x : Disk). x.is_locked) is)
  had_or_got (Settled false) d e is = had (Settled false) d e (ap (λ (x : Disk). x.mine) is) (ap (λ (x : Disk). x.is_locked) is)
  had_or_got (SyncedFile n true) d e (f, at, is) = had (SyncedFile n true) d e (ap (λ (x : Disk). x.mine) is) (ap (λ (x : Disk). x.is_locked) is)
  had_or_got (SyncedFile n false) d e is = had (SyncedFile n false) d e (ap (λ (x : Disk). x.mine) is) (ap (λ (x : Disk). x.is_locked) is)
  had_or_got (Read n (Some a)) d e (r, is) = had (Read n (Some a)) d e (ap (λ (x : Disk). x.mine) is) (ap (λ (x : Disk). x.is_locked) is)
  had_or_got (Read n None) d e is = had (Read n None) d e (ap (λ (x : Disk). x.mine) is) (ap (λ (x : Disk). x.is_locked) is)

  -- what is so at every moment
  record Stands (w : World) : Type 0 where
    means : (p : ℕ) → GripMeans (grip_after lock NoLock (w.calls p)) (seen_by (w.handle p) w.disk)
    exclusive : (p q : ℕ) → p ≢ q → (w.handle p).is_locked ≡ true → (w.handle q).is_locked ≡ true → (w.handle p).mine ≢ (w.handle q).mine

  first : (w : World) → IsQuiet w → Stands w
  first w quiet = record {
    means = λ p. subst (λ (calls : List Event). GripMeans (grip_after lock NoLock calls) (seen_by (w.handle p) w.disk)) (sym (quiet.calls p)) tt;
    exclusive = λ p q differ locked other. absurd (not_locked (sym locked ∙ quiet.unlocked p));
  }

  -- two have not both the lock that the lock's name leads to
  module _ (w : World) (stands : Stands w) (p r : ℕ) (differ : p ≢ r) (mine : HasLock lock (seen_by (w.handle p) w.disk)) where
    not_theirs : grip_after lock NoLock (w.calls r) ≡ OwnLock → ⊥
    not_theirs own =
        let theirs : HasLock lock (seen_by (w.handle r) w.disk) = subst (λ (g : Grip). GripMeans g (seen_by (w.handle r) w.disk)) own (stands.means r) in
        stands.exclusive p r differ mine.locked theirs.locked (one_file _ _ (sym mine.named ∙ theirs.named))

    leaves_alone : (call : Event) (x : World) → Makes lock name r call w x → LeavesAlone lock name (seen_by (w.handle p) w.disk) (seen_by (w.handle p) x.disk)
    leaves_alone call x makes =
        leaves (w.handle p) (w.handle p).mine (seen_by (w.handle r) w.disk) (seen_by (x.handle r) x.disk) mine.named call (grip_after lock NoLock (w.calls r)) makes.takes makes.ours makes.own not_theirs

  others_mean : (h : Handle) (d e : Disk) (g : Grip) → (HasLock lock (seen_by h d) → LeavesAlone lock name (seen_by h d) (seen_by h e)) → GripMeans g (seen_by h d) → GripMeans g (seen_by h e)
  others_mean h d e NoLock leaves m = tt
  others_mean h d e SomeLock leaves m = m
  others_mean h d e OwnLock leaves m = record { locked = m.locked; named = (leaves m).leads ∙ m.named }

  module _ (w x : World) (r : ℕ) (call : Event) (makes : Makes lock name r call w x) (stands : Stands w) where
    own_means : GripMeans (grip_after lock NoLock (x.calls r)) (seen_by (x.handle r) x.disk)
    own_means =
        subst (λ (calls : List Event). GripMeans (grip_after lock NoLock calls) (seen_by (x.handle r) x.disk)) (sym makes.notes)
        (step call (seen_by (w.handle r) w.disk) (seen_by (x.handle r) x.disk) (grip_after lock NoLock (w.calls r)) makes.takes (stands.means r))

    other_means : (p : ℕ) → p ≢ r → GripMeans (grip_after lock NoLock (x.calls p)) (seen_by (x.handle p) x.disk)
    other_means p differ =
        subst (λ (calls : List Event). GripMeans (grip_after lock NoLock calls) (seen_by (x.handle p) x.disk)) (sym (makes.spares.calls p differ))
        (subst (λ (h : Handle). GripMeans (grip_after lock NoLock (w.calls p)) (seen_by h x.disk)) (sym (makes.spares.handles p differ))
        (others_mean (w.handle p) w.disk x.disk (grip_after lock NoLock (w.calls p)) (λ mine. leaves_alone w stands p r differ mine call x makes) (stands.means p)))

    -- who makes the call has another file locked than another process
    apart : (p : ℕ) → p ≢ r → (x.handle p).is_locked ≡ true → (x.handle r).is_locked ≡ true → (x.handle p).mine ≢ (x.handle r).mine
    apart p differ locked own same =
        let was = had_or_got call (seen_by (w.handle r) w.disk) (seen_by (x.handle r) x.disk) makes.takes own in
        let there : (w.handle p).is_locked ≡ true = sym (ap (λ (h : Handle). h.is_locked) (makes.spares.handles p differ)) ∙ locked in
        let equal : (w.handle p).mine ≡ (w.handle r).mine = sym (ap (λ (h : Handle). h.mine) (makes.spares.handles p differ)) ∙ same ∙ was.0 in
        ⊎_elim (λ before. stands.exclusive p r differ there before equal) (λ now. makes.free now p differ there equal) was.1

    both_others : (p q : ℕ) → p ≢ q → p ≢ r → q ≢ r → (x.handle p).is_locked ≡ true → (x.handle q).is_locked ≡ true → (x.handle p).mine ≢ (x.handle q).mine
    both_others p q differ p_other q_other locked other same =
        stands.exclusive p q differ
        (sym (ap (λ (h : Handle). h.is_locked) (makes.spares.handles p p_other)) ∙ locked)
        (sym (ap (λ (h : Handle). h.is_locked) (makes.spares.handles q q_other)) ∙ other)
        (sym (ap (λ (h : Handle). h.mine) (makes.spares.handles p p_other)) ∙ same ∙ ap (λ (h : Handle). h.mine) (makes.spares.handles q q_other))

    made : Stands x
    made = record {
      means = λ p. ⊎_elim (λ (is : p ≡ r). subst (λ (k : ℕ). GripMeans (grip_after lock NoLock (x.calls k)) (seen_by (x.handle k) x.disk)) (sym is) own_means) (λ differ. other_means p differ) (cases_eq p r);
      exclusive = λ p q differ.
          ⊎_elim
          (λ (p_is : p ≡ r). λ locked other same. apart q (λ q_is. differ (p_is ∙ sym q_is)) other (subst (λ (k : ℕ). (x.handle k).is_locked ≡ true) p_is locked) (sym same ∙ ap (λ (k : ℕ). (x.handle k).mine) p_is))
          (λ p_other. ⊎_elim
          (λ (q_is : q ≡ r). λ locked other same. apart p p_other locked (subst (λ (k : ℕ). (x.handle k).is_locked ≡ true) q_is other) (same ∙ ap (λ (k : ℕ). (x.handle k).mine) q_is))
          (λ q_other. both_others p q differ p_other q_other)
          (cases_eq q r))
          (cases_eq p r);
    }

  module _ (w x : World) (r : ℕ) (ends : Endings r w x) (stands : Stands w) where
    ended_means : (p : ℕ) → p ≢ r → GripMeans (grip_after lock NoLock (x.calls p)) (seen_by (x.handle p) x.disk)
    ended_means p differ =
        subst (λ (calls : List Event). GripMeans (grip_after lock NoLock calls) (seen_by (x.handle p) x.disk)) (sym (ends.spares.calls p differ))
        (subst (λ (h : Handle). GripMeans (grip_after lock NoLock (w.calls p)) (seen_by h x.disk)) (sym (ends.spares.handles p differ))
        (subst (λ (d : Disk). GripMeans (grip_after lock NoLock (w.calls p)) (seen_by (w.handle p) d)) (sym ends.disk) (stands.means p)))

    none_left : GripMeans (grip_after lock NoLock (x.calls r)) (seen_by (x.handle r) x.disk)
    none_left = subst (λ (calls : List Event). GripMeans (grip_after lock NoLock calls) (seen_by (x.handle r) x.disk)) (sym ends.calls) tt

    is_other : (p : ℕ) → (x.handle p).is_locked ≡ true → p ≢ r
    is_other p locked is = not_locked (sym locked ∙ ap (λ (k : ℕ). (x.handle k).is_locked) is ∙ ends.unlocked)

    ended : Stands x
    ended = record {
      means = λ p. ⊎_elim (λ (is : p ≡ r). subst (λ (k : ℕ). GripMeans (grip_after lock NoLock (x.calls k)) (seen_by (x.handle k) x.disk)) (sym is) none_left) (λ differ. ended_means p differ) (cases_eq p r);
      exclusive = λ p q differ locked other same.
          stands.exclusive p q differ
          (sym (ap (λ (h : Handle). h.is_locked) (ends.spares.handles p (is_other p locked))) ∙ locked)
          (sym (ap (λ (h : Handle). h.is_locked) (ends.spares.handles q (is_other q other))) ∙ other)
          (sym (ap (λ (h : Handle). h.mine) (ends.spares.handles p (is_other p locked))) ∙ same ∙ ap (λ (h : Handle). h.mine) (ends.spares.handles q (is_other q other)));
    }

  stand : (happened : List Happening) (w x : World) → IsQuiet w → Interleaves lock name happened w x → Stands x
  stand [] w x quiet is = subst Stands (sym is) (first w quiet)
  stand (By r call ∷ earlier) w x quiet (v, run, makes) = made v x r call makes (stand earlier w v quiet run)
  stand (Ends r ∷ earlier) w x quiet (v, run, ends) = ended v x r ends (stand earlier w v quiet run)

killed : (call : Event) → IsOwners call OwnLock → IsOwners (unanswered call) OwnLock
killed (Opened n made) own = tt
killed (Locked got) own = tt
killed (Compared n same) own = tt
killed (Emptied ok) own = refl
killed (Wrote b taken) own = refl
killed (Synced ok) own = refl
killed (Renamed from to ok) own = refl
killed (Removed n ok) own = refl
killed (Settled ok) own = tt
killed (SyncedFile n ok) own = tt
killed (Read n a) own = tt

pub owner_laws : OwnerLaws
owner_laws = record {
  alone = λ lock name happened w x y process other call quiet run makes differ mine.
      subst (λ (h : Handle). LeavesAlone lock name (seen_by (x.handle process) x.disk) (seen_by h y.disk)) (sym (makes.spares.handles process differ))
      (leaves_alone lock name x (stand lock name happened w x quiet run) process other differ mine call y makes);
  commands = λ lock before held after takes gives. λ grip. (SomeLock, then_owns lock before held after grip OwnLock SomeLock (takes grip) gives);
  killed = killed;
}
