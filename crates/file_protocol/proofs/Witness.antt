-- The premises can be met: there is a disk on which the lock is had, and a run of all calls from it.
use Rattle.std.proofs.Common.{◌≡◌, ◌≢◌, inl, inr, ℕ, ◌+◌, ◌==◌, if◌then◌else◌, true, false, List, [], ◌∷◌, length, take, Option, Some, None, refl, sym, ◌∙◌, ap, arith}
use Rattle.std.proofs.lemmas.Bool.{cond-true, cond-false}
use Rattle.file_protocol.specs.Event.{Emptied, Wrote, Synced, Renamed, Settled}
use Rattle.file_protocol.specs.Disk.{Disk, Names, MayName, moved, filled, overlaid, lead}
use Rattle.file_protocol.specs.Safe.{Run, IsHeld}
use Rattle.file_protocol.proofs.Alone.{alone}
use Rattle.file_protocol.proofs.Lemmas.{other_name, same_bytes}

module _ (lock name : List ℕ) where
  pub whole_run : (laters : List (Option (List ℕ))) (new : List ℕ) (d : Disk) → IsHeld lock name d
      → (e : Disk) × Run lock name laters (Settled true ∷ Renamed lock name true ∷ Synced true ∷ Wrote new (Some (length new)) ∷ Emptied true ∷ []) d e
  whole_run laters new d held =
      let d1 = filled d [] d.place true in
      let d2 = filled d1 (overlaid (d1.contents d1.mine) d1.place (take (length new) new)) (d1.place + length new) d1.is_clean in
      let d3 : Disk = record d2 { is_synced = λ f. if f == d2.mine then d2.is_clean else d2.is_synced f } in
      let d4 = moved d3 lock name d3.mine in
      let d5 : Disk = record d4 { synced = d4.names; changes = [] } in
      let o = alone lock name laters in
      (d5, (d4, d5, (d3, d4, (d2, d3, (d1, d2, (d, d1, o d, refl, o d1), (omega arith, refl), o d2), refl, o d3), (d3.mine, held.has.named, refl), o d4), refl, o d5))

  module _ (apart : lock ≢ name) where
    -- the lock's file is 1, the file is 0
    unfoldable pub first_names : Names
    first_names = lead lock (Some 1) (lead name (Some 0) (λ n. None))

    abbrev pub first : Disk
    first = record {
      names = first_names;
      synced = first_names;
      changes = [];
      contents = λ f. [];
      is_synced = λ f. true;
      mine = 1;
      place = 0;
      is_clean = false;
      is_locked = true;
    }

    pub named : first_names lock ≡ Some 1
    unfolding first_names
    named = cond-true _ (Some 1) _ (same_bytes lock)

    pub at_name : first_names name ≡ Some 0
    unfolding first_names
    at_name = cond-false _ (Some 1) _ (other_name name lock (λ e. apart (sym e))) ∙ cond-true _ (Some 0) _ (same_bytes name)

    pub one : (names : Names) → MayName first names → names ≡ first_names
    one names (inl e) = e
    one names (inr e) = e

    zero_one : (a b : ℕ) → a ≡ 0 → b ≡ 1 → Some a ≡ Some b → ⊥
    zero_one a b zero_a one_b e = let x : a ≡ b = cc in absurd (omega (arith, x))

    apart_here : (names : Names) → MayName first names → names name ≢ Some 1
    apart_here names may e = zero_one 0 1 refl refl (sym at_name ∙ sym (ap (λ (n : Names). n name) (one names may)) ∙ e)

    pub held_first : IsHeld lock name first
    held_first = record { has = record { locked = refl; named = named }; place = refl; apart = apart_here }

    pub held_somewhere : (d : Disk) × IsHeld lock name d
    held_somewhere = (first, held_first)
