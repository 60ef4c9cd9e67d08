-- A run of calls in turn leaves the old bytes or the new ones.
use Rattle.std.proofs.Common.{◌≡◌, ◌≢◌, ◌⊎◌, inl, inr, ⊎_elim, ℕ, ◌+◌, ◌≤◌, Bool, true, false, ◌&&◌, List, [], ◌∷◌, ◌++◌, length, take, Option, Some, None, refl, sym, ◌∙◌, ap, subst, arith, length-append, length-take}
use Rattle.std.specs.List.{Contains}
use Rattle.std.specs.Str.{bytes_eq}
use Rattle.std.proofs.lemmas.Bool.{cond-true, cond-false, eq-eqb, and_parts, ne_eqb}
use Rattle.std.proofs.lemmas.Slice.Eq.{bytes_eq-Decides}
use Rattle.file_protocol.specs.Event.{Event, Opened, Locked, Compared, Emptied, Wrote, Synced, Renamed, Removed, Settled, SyncedFile, Read, unanswered}
use Rattle.file_protocol.specs.Disk.{Disk, Names, MayHold, Has, MayLeave, MayShow, IsApart, moved, filled, overlaid, Takes}
use Rattle.file_protocol.specs.Safe.{HasLock, Others, Run, Moment, IsHeld, OldOrNew, IsNew, IsOld, IsInPlace}
use Rattle.file_protocol.specs.Phase.{Phase, Holding, Dirty, Filled, Ready, InPlace, Stored, Unsure, Back, Gone, GoneUnsure, Bad, emptied, wrote, synced, renamed, renamed_from, removed, settled, compared, next, phase_after, Goes}
use Rattle.file_protocol.proofs.Lemmas.{same_bytes, has_along, leaves_filled, leaves_led, moved_names, has_synced, mine_filled, at_end}

module _ (lock name new : List ℕ) where
  -- a call out of turn stays so
  removed_bad : (same : Bool) → removed same Bad ≡ Bad
  removed_bad true = refl
  removed_bad false = refl

  compared_bad : (same : Bool) → compared same Bad ≡ Bad
  compared_bad true = refl
  compared_bad false = refl

  stays_bad : (call : Event) → next lock name new call Bad ≡ Bad
  stays_bad (Opened n made) = refl
  stays_bad (Locked got) = refl
  stays_bad (Compared n same) = compared_bad (same && bytes_eq n lock)
  stays_bad (Emptied true) = refl
  stays_bad (Emptied false) = refl
  stays_bad (Wrote bytes (Some n)) = refl
  stays_bad (Wrote bytes None) = refl
  stays_bad (Synced true) = refl
  stays_bad (Synced false) = refl
  stays_bad (Renamed from to ok) = refl
  stays_bad (Removed n ok) = removed_bad (bytes_eq n lock)
  stays_bad (Settled true) = refl
  stays_bad (Settled false) = refl
  stays_bad (SyncedFile n ok) = refl
  stays_bad (Read n answer) = refl

  pub was_fine : (call : Event) (p : Phase) → next lock name new call p ≢ Bad → p ≢ Bad
  was_fine call p fine = λ e. fine (ap (next lock name new call) e ∙ stays_bad call)

module _ (lock name new : List ℕ) (laters : List (Option (List ℕ))) where
  -- the lock is had, and the file is as it was at d
  pub record Calm (d u : Disk) : Type 0 where
    pub has : HasLock lock u
    pub apart : IsApart u name u.mine
    pub old : (c : Option (List ℕ)) → MayLeave u name c → MayLeave d name c

  pub record Begun (d u : Disk) : Type 0 where
    pub calm : Calm d u
    pub place : u.place ≡ 0

  pub record Full (b : List ℕ) (d u : Disk) : Type 0 where
    pub calm : Calm d u
    pub holds : u.contents u.mine ≡ b
    pub place : u.place ≡ length b
    pub clean : u.is_clean ≡ true

  pub record OnDisk (b : List ℕ) (d u : Disk) : Type 0 where
    pub calm : Calm d u
    pub holds : u.contents u.mine ≡ b
    pub on_disk : u.is_synced u.mine ≡ true

  -- what a crash may leave at u: what it could leave at d, or the new bytes, or what a later holder put there
  abbrev pub Any : Disk → Disk → Type 0
  Any d u = (c : Option (List ℕ)) → MayLeave u name c → MayLeave d name c ⊎ (c ≡ Some new) ⊎ Contains laters c

  abbrev pub Later : Option (List ℕ) → Type 0
  Later c = (c ≡ Some new) ⊎ Contains laters c

  pub record Put (d u : Disk) : Type 0 where
    pub any : Any d u
    pub shown : (c : Option (List ℕ)) → MayShow u name c → Later c

  abbrev pub Kept : Disk → Disk → Type 0
  Kept d u = (c : Option (List ℕ)) → MayLeave u name c → MayLeave d name c ⊎ Contains laters c

  abbrev pub Means : Phase → Disk → Disk → Type 0
  Means Holding d u = Begun d u
  Means Dirty d u = Calm d u
  Means (Filled b) d u = Full b d u
  Means (Ready b) d u = OnDisk b d u
  Means InPlace d u = Put d u
  Means Stored d u = (c : Option (List ℕ)) → MayLeave u name c → Later c
  Means Unsure d u = Any d u
  Means Back d u = Any d u
  Means Gone d u = Kept d u
  Means GoneUnsure d u = Any d u
  Means Bad d u = Unit {0}

  -- others

  own : (v u : Disk) → Others lock name laters v u → HasLock lock v → HasLock lock u
  own v u o has = let alone = o.held has in record {
    locked = o.locked ∙ has.locked;
    named = alone.leads ∙ has.named ∙ ap (λ (x : ℕ). Some x) (sym o.mine);
  }

  calm_on : (d v u : Disk) → Others lock name laters v u → Calm d v → Calm d u
  calm_on d v u o calm = let alone = o.held calm.has in record {
    has = own v u o calm.has;
    apart = subst (λ (x : ℕ). IsApart u name x) (sym o.mine) (alone.apart calm.apart);
    old = λ c left. calm.old c (alone.old c left);
  }

  any_on : (d v u : Disk) → Others lock name laters v u → Any d v → Any d u
  any_on d v u o any c left = ⊎_elim (any c) (λ later. inr (inr later)) (o.left c left)

  others_leave : (p : Phase) (d v u : Disk) → Others lock name laters v u → Means p d v → Means p d u
  others_leave Holding d v u o m = record { calm = calm_on d v u o m.calm; place = o.place ∙ m.place }
  others_leave Dirty d v u o m = calm_on d v u o m
  others_leave (Filled b) d v u o m = let alone = o.held m.calm.has in record {
    calm = calm_on d v u o m.calm;
    holds = ap u.contents o.mine ∙ alone.bytes ∙ m.holds;
    place = o.place ∙ m.place;
    clean = o.clean ∙ m.clean;
  }
  others_leave (Ready b) d v u o m = let alone = o.held m.calm.has in record {
    calm = calm_on d v u o m.calm;
    holds = ap u.contents o.mine ∙ alone.bytes ∙ m.holds;
    on_disk = ap u.is_synced o.mine ∙ alone.synced m.on_disk;
  }
  others_leave InPlace d v u o m = record {
    any = any_on d v u o m.any;
    shown = λ c left. ⊎_elim (m.shown c) (λ later. inr later) (o.shown c left);
  }
  others_leave Stored d v u o m = λ c left. ⊎_elim (m c) (λ later. inr later) (o.left c left)
  others_leave Unsure d v u o m = any_on d v u o m
  others_leave Back d v u o m = any_on d v u o m
  others_leave Gone d v u o m = λ c left. ⊎_elim (m c) (λ later. inr later) (o.left c left)
  others_leave GoneUnsure d v u o m = any_on d v u o m
  others_leave Bad d v u o m = tt

  -- a write to the lock's file
  calm_filled : (d v : Disk) (b : List ℕ) (place : ℕ) (clean : Bool) → Calm d v → Calm d (filled v b place clean)
  calm_filled d v b place clean calm = record {
    has = record { locked = calm.has.locked; named = calm.has.named };
    apart = calm.apart;
    old = λ c left. calm.old c (leaves_filled v name b place clean c calm.apart left);
  }

  -- the calls

  step_emptied : (ok : Bool) (p : Phase) (d v w : Disk) → Means p d v → Takes (Emptied ok) v w → Means (emptied ok p) d w
  step_emptied true Holding d v w m t = subst (λ (x : Disk). Full [] d x) (sym t) (record {
    calm = calm_filled d v [] v.place true m.calm;
    holds = mine_filled v [] v.place true;
    place = m.place;
    clean = refl;
  })
  step_emptied false Holding d v w m t = subst (λ (x : Disk). Begun d x) (sym t.1) (record {
    calm = calm_filled d v t.0 v.place false m.calm;
    place = m.place;
  })
  step_emptied ok p d v w m t = tt

  step_wrote : (bytes : List ℕ) (taken : Option ℕ) (p : Phase) (d v w : Disk) → Means p d v → Takes (Wrote bytes taken) v w → Means (wrote bytes taken p) d w
  step_wrote bytes (Some n) (Filled b) d v w m t = subst (λ (x : Disk). Full (b ++ take n bytes) d x) (sym t.1) (record {
    calm = calm_filled d v _ (v.place + n) v.is_clean m.calm;
    holds = mine_filled v _ (v.place + n) v.is_clean ∙ ap (λ (l : List ℕ). overlaid l v.place (take n bytes)) m.holds ∙ at_end b (take n bytes) v.place m.place;
    place = let within : n ≤ length bytes = t.0 in simp (length-append, length-take) (omega (arith, within, m.place));
    clean = m.clean;
  })
  step_wrote bytes None (Filled b) d v w m t = subst (λ (x : Disk). Calm d x) (sym t.2) (calm_filled d v t.0 t.1 false m.calm)
  step_wrote bytes taken p d v w m t = tt

  -- a sync changes what a crash may leave of the lock's file alone
  holds_synced : (v : Disk) (is : ℕ → Bool) (file : ℕ) (bytes : List ℕ) → is file ≡ v.is_synced file → MayHold (record v { is_synced = is }) file bytes → MayHold v file bytes
  holds_synced v is file bytes same (inl now) = inl now
  holds_synced v is file bytes same (inr not_synced) = inr (sym same ∙ not_synced)

  leaves_synced : (v : Disk) (is : ℕ → Bool) (c : Option (List ℕ)) → ((file : ℕ) → file ≢ v.mine → is file ≡ v.is_synced file) → IsApart v name v.mine
      → MayLeave (record v { is_synced = is }) name c → MayLeave v name c
  leaves_synced v is c same apart left = (
    left.0,
    left.1,
    has_along v (record v { is_synced = is }) left.0 left.0 name c refl
        (λ file bytes at holds. holds_synced v is file bytes (same file (λ e. apart left.0 left.1 (at ∙ ap (λ (x : ℕ). Some x) e))) holds)
        left.2,
  )

  step_synced : (ok : Bool) (p : Phase) (d v w : Disk) → Means p d v → Takes (Synced ok) v w → Means (synced ok p) d w
  step_synced true (Filled b) d v w m t = subst (λ (x : Disk). OnDisk b d x) (sym t) (record {
    calm = record {
      has = record { locked = m.calm.has.locked; named = m.calm.has.named };
      apart = m.calm.apart;
      old = λ c left. m.calm.old c (leaves_synced v _ c (λ file ne. cond-false _ v.is_clean (v.is_synced file) (ne_eqb file v.mine ne)) m.calm.apart left);
    };
    holds = m.holds;
    on_disk = cond-true _ v.is_clean (v.is_synced v.mine) (eq-eqb v.mine v.mine refl) ∙ m.clean;
  })
  step_synced false (Filled b) d v w m t = subst (λ (x : Disk). Calm d x) (sym t) (record {
    has = record { locked = m.calm.has.locked; named = m.calm.has.named };
    apart = m.calm.apart;
    old = m.calm.old;
  })
  step_synced ok p d v w m t = tt

  -- the move
  put_moved : (d v : Disk) (file : ℕ) → OnDisk new d v → v.names lock ≡ Some file → Put d (moved v lock name file)
  put_moved d v file m at_lock = record { any = any; shown = λ c left. told (moved v lock name file).names c (cond-true _ (Some file) _ (same_bytes name)) left }
    where
      same : file ≡ v.mine
      same = let e : Some file ≡ Some v.mine = sym at_lock ∙ m.calm.has.named in cc

      told : (names : Names) (c : Option (List ℕ)) → names name ≡ Some file → Has (moved v lock name file) names name c → Later c
      told names c at has = inl (has_synced (moved v lock name file) names name new file c at (ap v.contents same ∙ m.holds) (ap v.is_synced same ∙ m.on_disk) has)

      any : Any d (moved v lock name file)
      any c left = ⊎_elim
          (λ was. inl (m.calm.old c (was.0, was.1, has_along v (moved v lock name file) left.0 was.0 name c was.2 (λ f bytes at holds. holds) left.2)))
          (λ at. inr (told left.0 c at left.2))
          (moved_names v lock name file left.0 left.1)

  any_calm : (d v : Disk) → Calm d v → Any d v
  any_calm d v calm c left = inl (calm.old c left)

  renamed_here : (ok : Bool) (d v w : Disk) → OnDisk new d v → Takes (Renamed lock name ok) v w → Means (renamed true ok (Ready new)) d w
  renamed_here true d v w m t = subst (λ (x : Disk). Put d x) (sym t.2) (put_moved d v t.0 m t.1)
  renamed_here false d v w m (inl t) = subst (λ (x : Disk). Any d x) (sym t) (any_calm d v m.calm)
  renamed_here false d v w m (inr t) = subst (λ (x : Disk). Any d x) (sym t.2) (put_moved d v t.0 m t.1).any

  renamed_when : (same : Bool) (from to b : List ℕ) (ok : Bool) (d v w : Disk) → (same ≡ true → (from ≡ lock) × (to ≡ name) × (b ≡ new))
      → OnDisk b d v → Takes (Renamed from to ok) v w → Means (renamed same ok (Ready b)) d w
  renamed_when false from to b ok d v w is m t = tt
  renamed_when true from to b ok d v w is m t =
      let e = is refl in
      let there = subst (λ (n : List ℕ). Takes (Renamed n to ok) v w) e.0 t in
      let here = subst (λ (n : List ℕ). Takes (Renamed lock n ok) v w) e.1 there in
      let full = subst (λ (n : List ℕ). OnDisk n d v) e.2 m in
      means_same ok (renamed_here ok d v w full here)
    where
      means_same : (o : Bool) → Means (renamed true o (Ready new)) d w → Means (renamed true o (Ready b)) d w
      means_same true x = x
      means_same false x = x

  named_same : (from to b : List ℕ) → (bytes_eq from lock && bytes_eq to name && bytes_eq b new) ≡ true → (from ≡ lock) × (to ≡ name) × (b ≡ new)
  named_same from to b e =
      let parts = and_parts (bytes_eq from lock && bytes_eq to name) (bytes_eq b new) e in
      let front = and_parts (bytes_eq from lock) (bytes_eq to name) parts.0 in
      ((bytes_eq-Decides from lock).0 front.0, (bytes_eq-Decides to name).0 front.1, (bytes_eq-Decides b new).0 parts.1)

  step_renamed : (from to : List ℕ) (ok : Bool) (p : Phase) (d v w : Disk) → Means p d v → Takes (Renamed from to ok) v w → Means (renamed_from lock name new from to ok p) d w
  step_renamed from to ok (Ready b) d v w m t = renamed_when _ from to b ok d v w (named_same from to b) m t
  step_renamed from to ok p d v w m t = tt

  -- the lock is removed
  removed_when : (same : Bool) (p : Phase) (d v w : Disk) → (same ≡ true → (c : Option (List ℕ)) → MayLeave w name c → MayLeave v name c)
      → Means p d v → Means (removed same p) d w
  removed_when true Holding d v w less m = λ c left. inl (m.calm.old c (less refl c left))
  removed_when true Dirty d v w less m = λ c left. inl (m.old c (less refl c left))
  removed_when true (Filled b) d v w less m = λ c left. inl (m.calm.old c (less refl c left))
  removed_when true (Ready b) d v w less m = λ c left. inl (m.calm.old c (less refl c left))
  removed_when true Back d v w less m = λ c left. m c (less refl c left)
  removed_when same p d v w less m = tt

  removed_leaves : (n : List ℕ) (ok : Bool) (v w : Disk) → name ≢ n → Takes (Removed n ok) v w → (c : Option (List ℕ)) → MayLeave w name c → MayLeave v name c
  removed_leaves n true v w ne t c left = leaves_led v n name None c ne (subst (λ (x : Disk). MayLeave x name c) t left)
  removed_leaves n false v w ne (inl t) c left = subst (λ (x : Disk). MayLeave x name c) t left
  removed_leaves n false v w ne (inr t) c left = leaves_led v n name None c ne (subst (λ (x : Disk). MayLeave x name c) t left)

  step_settled : (ok : Bool) (p : Phase) (d v w : Disk) → Means p d v → Takes (Settled ok) v w → Means (settled ok p) d w
  step_settled true InPlace d v w m t = subst (λ (x : Disk). (c : Option (List ℕ)) → MayLeave x name c → Later c) (sym t) (λ c left. m.shown c (shows c left))
    where
      same : (names : Names) → ((names ≡ v.names) ⊎ (names ≡ v.names)) → names ≡ v.names
      same names (inl e) = e
      same names (inr e) = e

      shows : (c : Option (List ℕ)) → MayLeave (record v { synced = v.names; changes = [] }) name c → MayShow v name c
      shows c left =
          let e = same left.0 left.1 in
          has_along v (record v { synced = v.names; changes = [] }) left.0 v.names name c (ap (λ (n : Names). n name) e) (λ f bytes at holds. holds) left.2
  step_settled false p d v w m t = subst (λ (x : Disk). Means p d x) (sym t) m
  step_settled ok p d v w m t = tt

  compared_same : (same : Bool) (p : Phase) (d v : Disk) → Means p d v → Means (compared same p) d v
  compared_same true Unsure d v m = m
  compared_same same p d v m = m

  -- names that differ
  module _ (apart : lock ≢ name) where
    step : (call : Event) (p : Phase) (d v w : Disk) → Means p d v → Takes call v w → Means (next lock name new call p) d w
    step (Opened n made) p d v w m t = tt
    step (Locked got) p d v w m t = tt
    step (Compared n true) p d v w m t = subst (λ (x : Disk). Means (compared (true && bytes_eq n lock) p) d x) (sym t.1) (compared_same (true && bytes_eq n lock) p d v m)
    step (Compared n false) p d v w m t = subst (λ (x : Disk). Means (compared (false && bytes_eq n lock) p) d x) (sym t) (compared_same (false && bytes_eq n lock) p d v m)
    step (Emptied ok) p d v w m t = step_emptied ok p d v w m t
    step (Wrote bytes taken) p d v w m t = step_wrote bytes taken p d v w m t
    step (Synced ok) p d v w m t = step_synced ok p d v w m t
    step (Renamed from to ok) p d v w m t = step_renamed from to ok p d v w m t
    step (Removed n ok) p d v w m t = removed_when _ p d v w (λ e. removed_leaves n ok v w (λ same. apart (sym (same ∙ (bytes_eq-Decides n lock).0 e))) t) m
    step (Settled ok) p d v w m t = step_settled ok p d v w m t
    step (SyncedFile n ok) p d v w m t = tt
    step (Read n (Some answer)) p d v w m t = subst (λ (x : Disk). Means p d x) (sym t.1) m
    step (Read n None) p d v w m t = subst (λ (x : Disk). Means p d x) (sym t) m

    begun : (d : Disk) → IsHeld lock name d → Means Holding d d
    begun d held = record { calm = record { has = held.has; apart = held.apart; old = λ c left. left }; place = held.place }

    -- what the phase after a run means
    pub sound : (calls : List Event) (d e : Disk) → IsHeld lock name d → Run lock name laters calls d e → Means (phase_after lock name new Holding calls) d e
    sound [] d e held run = others_leave Holding d d e run (begun d held)
    sound (call ∷ earlier) d e held (v, w, run, takes, others) =
        let p = phase_after lock name new Holding earlier in
        others_leave (next lock name new call p) d w e others (step call p d v w (sound earlier d v held run) takes)

    pub any : (p : Phase) (d e : Disk) → p ≢ Bad → Means p d e → Any d e
    any Holding d e fine m = any_calm d e m.calm
    any Dirty d e fine m = any_calm d e m
    any (Filled b) d e fine m = any_calm d e m.calm
    any (Ready b) d e fine m = any_calm d e m.calm
    any InPlace d e fine m = m.any
    any Stored d e fine m = λ c left. inr (m c left)
    any Unsure d e fine m = m
    any Back d e fine m = m
    any Gone d e fine m = λ c left. ⊎_elim (λ x. inl x) (λ x. inr (inr x)) (m c left)
    any GoneUnsure d e fine m = m
    any Bad d e fine m = absurd (fine refl)

    -- a call that is in turn is so before it is answered
    fine_emptied : (ok : Bool) (p : Phase) → emptied ok p ≢ Bad → emptied false p ≢ Bad
    fine_emptied true Holding fine = λ e. cc
    fine_emptied ok p fine = fine

    fine_wrote : (bytes : List ℕ) (taken : Option ℕ) (p : Phase) → wrote bytes taken p ≢ Bad → wrote bytes None p ≢ Bad
    fine_wrote bytes (Some n) (Filled c) fine = λ e. cc
    fine_wrote bytes taken p fine = fine

    fine_synced : (ok : Bool) (p : Phase) → synced ok p ≢ Bad → synced false p ≢ Bad
    fine_synced true (Filled c) fine = λ e. cc
    fine_synced ok p fine = fine

    fine_renamed : (same ok : Bool) (p : Phase) → renamed same ok p ≢ Bad → renamed same false p ≢ Bad
    fine_renamed true true p fine = λ e. cc
    fine_renamed same ok p fine = fine

    fine_renamed_from : (from to : List ℕ) (ok : Bool) (p : Phase) → renamed_from lock name new from to ok p ≢ Bad → renamed_from lock name new from to false p ≢ Bad
    fine_renamed_from from to ok (Ready c) fine = fine_renamed (bytes_eq from lock && bytes_eq to name && bytes_eq c new) ok (Ready c) fine
    fine_renamed_from from to ok p fine = fine

    fine_settled : (ok : Bool) (p : Phase) → settled ok p ≢ Bad → settled false p ≢ Bad
    fine_settled true InPlace fine = λ e. cc
    fine_settled true p fine = absurd (fine refl)
    fine_settled false p fine = fine

    fine_begun : (call : Event) (p : Phase) → next lock name new call p ≢ Bad → next lock name new (unanswered call) p ≢ Bad
    fine_begun (Opened n made) p fine = fine
    fine_begun (Locked got) p fine = fine
    fine_begun (Compared n same) p fine = was_fine lock name new (Compared n same) p fine
    fine_begun (Emptied ok) p fine = fine_emptied ok p fine
    fine_begun (Wrote bytes taken) p fine = fine_wrote bytes taken p fine
    fine_begun (Synced ok) p fine = fine_synced ok p fine
    fine_begun (Renamed from to ok) p fine = fine_renamed_from from to ok p fine
    fine_begun (Removed n ok) p fine = fine
    fine_begun (Settled ok) p fine = fine_settled ok p fine
    fine_begun (SyncedFile n ok) p fine = fine
    fine_begun (Read n answer) p fine = fine

    -- at each moment of a run in turn
    pub at_any_moment : (calls : List Event) (d e : Disk) → phase_after lock name new Holding calls ≢ Bad → IsHeld lock name d → Moment lock name laters calls d e → Any d e
    at_any_moment [] d e fine held moment = any Holding d e fine (others_leave Holding d d e moment (begun d held))
    at_any_moment (call ∷ earlier) d e fine held (inl run) = any _ d e fine (sound (call ∷ earlier) d e held run)
    at_any_moment (call ∷ earlier) d e fine held (inr (inl (v, w, run, takes, others))) =
        let p = phase_after lock name new Holding earlier in
        any _ d e (fine_begun call p fine) (others_leave (next lock name new (unanswered call) p) d w e others (step (unanswered call) p d v w (sound earlier d v held run) takes))
    at_any_moment (call ∷ earlier) d e fine held (inr (inr moment)) =
        at_any_moment earlier d e (was_fine lock name new call (phase_after lock name new Holding earlier) fine) held moment

module _ (lock name new : List ℕ) (apart : lock ≢ name) (before after : List Event) where
  pub old_or_new : (q : Phase) → Goes lock name new before Holding after q → q ≢ Bad → OldOrNew lock name new before after
  old_or_new q goes fine =
      (goes.0, goes.1, λ laters d e held moment. at_any_moment lock name new laters apart goes.0 d e (λ bad. fine (sym goes.2 ∙ bad)) held moment)

  pub is_new : Goes lock name new before Holding after Stored → IsNew lock name new before after
  is_new goes =
      (goes.0, goes.1, λ laters d e held run. subst (λ (p : Phase). Means lock name new laters p d e) goes.2 (sound lock name new laters apart goes.0 d e held run))

  pub is_in_place : Goes lock name new before Holding after InPlace → IsInPlace lock name new before after
  is_in_place goes =
      (goes.0, goes.1, λ laters d e held run. (subst (λ (p : Phase). Means lock name new laters p d e) goes.2 (sound lock name new laters apart goes.0 d e held run)).shown)

  -- what is on the disk is in place
  pub new_in_place : IsNew lock name new before after → IsInPlace lock name new before after
  new_in_place (calls, is, new_there) = (calls, is, λ laters d e held run c shown. new_there laters d e held run c (e.names, inl refl, shown))

  pub is_old : Goes lock name new before Holding after Gone → IsOld lock name before after
  is_old goes =
      (goes.0, goes.1, λ laters d e held run. subst (λ (p : Phase). Means lock name new laters p d e) goes.2 (sound lock name new laters apart goes.0 d e held run))
