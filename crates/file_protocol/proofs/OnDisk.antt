-- A file that is synced under its lock, and then its folder.
use Rattle.std.proofs.Common.{◌≡◌, ◌≢◌, ◌⊎◌, inl, inr, ⊎_elim, ℕ, Bool, true, List, [], ◌∷◌, Option, Some, None, refl, sym, ◌∙◌, ap, subst}
use Rattle.std.specs.List.{Contains}
use Rattle.file_protocol.specs.Event.{Event, Removed, Settled, SyncedFile}
use Rattle.file_protocol.specs.Disk.{Disk, MayLeave, MayShow, Reads, stored}
use Rattle.file_protocol.specs.Safe.{Run, IsHeld}
use Rattle.file_protocol.specs.Whole.{StaysOnDisk}
use Rattle.file_protocol.proofs.Lemmas.{has_synced, settled_shows, stored_is_synced}
use Rattle.file_protocol.proofs.Locks.{held_on, leaves}

-- a name reads as one thing
pub reads_one : (d : Disk) (name old : List ℕ) (c : Option (List ℕ)) → Reads d name (Some old) → Reads d name c → c ≡ Some old
reads_one d name old None (f, at, is) none = absurd (none_some (sym none ∙ at))
  where
    none_some : None ≡ Some f → ⊥
    none_some e = cc
reads_one d name old (Some bytes) (f, at, is) (g, there, same) = ap (λ (b : List ℕ). Some b) (same ∙ ap d.contents one ∙ sym is)
  where
    one : g ≡ f
    one = let e : Some g ≡ Some f = sym there ∙ at in cc

-- and as something
pub reads_some : (d : Disk) (name : List ℕ) → (c : Option (List ℕ)) × Reads d name c
reads_some d name = found (d.names name) refl
  where
    found : (entry : Option ℕ) → d.names name ≡ entry → (c : Option (List ℕ)) × Reads d name c
    found None at = (None, at)
    found (Some f) at = (Some (d.contents f), (f, at, refl))

module _ (lock name : List ℕ) (apart : lock ≢ name) where
  stays : (ok : Bool) (laters : List (Option (List ℕ))) (d e : Disk) → IsHeld lock name d → Run lock name laters (Removed lock ok ∷ Settled true ∷ SyncedFile name true ∷ []) d e
      → (old : List ℕ) → Reads d name (Some old) → (c : Option (List ℕ)) → MayLeave e name c → (c ≡ Some old) ⊎ Contains laters c
  stays ok laters d e held (v2, w2, (v1, w1, (v0, w0, o0, (file, at, t0), o1), t1, o2), t2, o3) old reads c left =
      ⊎_elim
      (λ at_w2. ⊎_elim
      (λ at_w1. ⊎_elim
      (λ at_w0. inl (shown at_w0))
      (λ later. inr later)
      (o1.shown c (settled_shows v1 name c (subst (λ (x : Disk). MayLeave x name c) t1 at_w1))))
      (λ later. inr later)
      (o2.left c (leaves lock name apart (Removed lock ok) v2 w2 refl t2 c at_w2)))
      (λ later. inr later)
      (o3.left c left)
    where
      begun : IsHeld lock name v0
      begun = held_on lock name apart laters d v0 o0 held

      same : v0.contents file ≡ old
      same = let e : Some (v0.contents file) ≡ Some old = reads_one d name old (Some (v0.contents file)) reads ((o0.held held.has).reads (Some (v0.contents file)) (file, at, refl)) in cc

      not_mine : file ≢ v0.mine
      not_mine e = begun.apart v0.names (inl refl) (at ∙ ap (λ (x : ℕ). Some x) e)

      shown : MayShow w0 name c → c ≡ Some old
      shown has = has_synced (stored v0 file) v0.names name old file c at same (stored_is_synced v0 file not_mine) (subst (λ (x : Disk). MayShow x name c) t0 has)

  -- the file was synced, then the folder, and the lock was given back
  pub stays_on_disk : (ok : Bool) (before after : List Event) → after ≡ Removed lock ok ∷ Settled true ∷ SyncedFile name true ∷ before → StaysOnDisk lock name before after
  stays_on_disk ok before after is =
      (Removed lock ok ∷ Settled true ∷ SyncedFile name true ∷ [], is, λ laters d e held run old reads c left. stays ok laters d e held run old reads c left)
