-- The laws, over whole runs.
use Rattle.std.proofs.Common.{true, false, ◌≡◌, ◌≢◌, ◌⊎◌, inl, inr, ⊎_elim, ℕ, List, [], ◌∷◌, Option, Some, None, refl, sym, ◌∙◌, ap, subst}
use Rattle.folder_model.specs.Disk.{Among, Disk, MayLead, Settles}
use Rattle.folder_model.specs.Call.{Call, Made, Wrote, Synced, Linked, Removed, Settled, Locked, Unlocked, Began, Listed, Read, Looked, Exclusive, Shared, Done, Taken, Failed, unanswered}
use Rattle.folder_model.specs.Parts.{Parts, IsOrder, IsThere, IsHeld, IsSafe}
use Rattle.folder_model.specs.Turn.{Stage, Placed, Whole, stage_of, WasSynced, IsKept, HasRead, HasReadSince, HasReadAll, InTurn, AllInTurn, Unlisted, Gave, Listing, listing_of, listing_after}
use Rattle.folder_model.specs.World.{World, Does}
use Rattle.folder_model.specs.Run.{Event, By, Comes, Leaves, Ends, PowerLost, Calls, Run, FreeRun, KeepsTurn, AtSome, SinceLoss, BeforeListing, HasPut, IsQuiet}
use Rattle.folder_model.specs.Laws.{IsFair, SafeIsHeld, SettledIsSafe}
use Rattle.folder_model.proofs.Disks.{on_disk_covered}
use Rattle.folder_model.proofs.Basics.{numbers_same}
use Rattle.folder_model.proofs.Means.{Means, ListMeans, WholeMeans, GuardedMeans, GaveMeans, Sound}
use Rattle.folder_model.proofs.Effects.{settles_now}
use Rattle.folder_model.proofs.Steps.{step, step_held, quiet_sound}

settled_may : (d e : Disk) → Settles d e → (name : List ℕ) (entry : Option ℕ) → MayLead e name entry → entry ≡ d.names name
settled_may d e settles name entry (inl is) = is ∙ settles.names name
settled_may d e settles name entry (inr among) = absurd (subst (λ (x : List (Option ℕ)). Among entry x) (settles.earlier name) among)

pub settled : SettledIsSafe
settled parts d e settles b (part, file, at, holds, synced, covers) = λ names may.
    (part, file, settled_may d e settles (parts.name_of part) (names (parts.name_of part)) (may (parts.name_of part)) ∙ at, settles.contents file ∙ holds, settles.synced file ∙ synced, covers)

-- the call begins no listing
abbrev pub NotBegan : Call → Type 0
NotBegan Began = ⊥
NotBegan call = Unit {0}

module _ (parts : Parts) (order : IsOrder parts) (Known : List ℕ → Type 0) (distinct : (a b : List ℕ) → Known a → Known b → parts.name_of a ≡ parts.name_of b → a ≡ b) where
  at_end : (P : World → Type 0) (events : List Event) (d e : World) (run : Run parts events d e) → P e → AtSome P parts events d e run
  at_end P [] d e run p = p
  at_end P (event ∷ earlier) d e run p = inl p

  pub sound_run : (events : List Event) (d e : World) (run : Run parts events d e) → IsQuiet d
      → ((b : List ℕ) → AtSome (λ w. IsThere parts w.disk b) parts events d e run → Known b) → Sound parts Known e
  sound_run [] d e run quiet known = quiet_sound parts order Known distinct e (λ p. ap (λ (w : World). w.calls p) run ∙ quiet p)
  sound_run (event ∷ earlier) d e (v, run, happens) quiet known =
      let before = sound_run earlier d v run quiet (λ b at. known b (inr at)) in
      let there : (b : List ℕ) → IsThere parts v.disk b → Known b = λ b t. known b (inr (at_end (λ w. IsThere parts w.disk b) earlier d v run t)) in
      (step parts order Known distinct event v e before there happens).sound

  pub safe_run : (events : List Event) (d e : World) (run : Run parts events d e) → IsQuiet d
      → ((b : List ℕ) → AtSome (λ w. IsThere parts w.disk b) parts events d e run → Known b)
      → (b : List ℕ) → AtSome (λ w. IsSafe parts w.disk b) parts events d e run → IsSafe parts e.disk b
  safe_run [] d e run quiet known b safe = safe
  safe_run (event ∷ earlier) d e (v, run, happens) quiet known b (inl safe) = safe
  safe_run (event ∷ earlier) d e (v, run, happens) quiet known b (inr at) =
      let before = sound_run earlier d v run quiet (λ x t. known x (inr t)) in
      let there : (x : List ℕ) → IsThere parts v.disk x → Known x = λ x t. known x (inr (at_end (λ w. IsThere parts w.disk x) earlier d v run t)) in
      (step parts order Known distinct event v e before there happens).safe b (safe_run earlier d v run quiet (λ x t. known x (inr t)) b at)

  pub held_run : (events : List Event) (d e : World) (run : Run parts events d e) → IsQuiet d
      → ((b : List ℕ) → AtSome (λ w. IsThere parts w.disk b) parts events d e run → Known b)
      → (b : List ℕ) → SinceLoss (λ w. IsHeld parts w.disk b) parts events d e run → IsHeld parts e.disk b
  held_run [] d e run quiet known b held = held
  held_run (PowerLost ∷ earlier) d e (v, run, happens) quiet known b held = held
  held_run (event ∷ earlier) d e (v, run, happens) quiet known b (inl held) = held
  held_run (event ∷ earlier) d e (v, run, happens) quiet known b (inr at) =
      let before = sound_run earlier d v run quiet (λ x t. known x (inr t)) in
      let there : (x : List ℕ) → IsThere parts v.disk x → Known x = λ x t. known x (inr (at_end (λ w. IsThere parts w.disk x) earlier d v run t)) in
      step_held parts order Known distinct event v e tt before there happens b (held_run earlier d v run quiet (λ x t. known x (inr t)) b at)

  -- ---- what was kept

  -- what a process has read and synced is held, and what it has kept is safe
  record Keeps (p : ℕ) (w : World) (b : List ℕ) : Type 0 where
    synced : WasSynced parts b (w.calls p) → IsHeld parts w.disk b
    kept : IsKept parts b (w.calls p) → IsSafe parts w.disk b

  keeps_none : (p : ℕ) (w : World) (b : List ℕ) → w.calls p ≡ [] → Keeps p w b
  keeps_none p w b none = record {
    synced = λ was. absurd (subst (λ (l : List Call). WasSynced parts b l) none was);
    kept = λ is. absurd (subst (λ (l : List Call). IsKept parts b l) none is);
  }

  -- a process that has made no call since
  keeps_same : (p : ℕ) (v e : World) (b : List ℕ) → e.calls p ≡ v.calls p → (IsHeld parts v.disk b → IsHeld parts e.disk b) → (IsSafe parts v.disk b → IsSafe parts e.disk b) → Keeps p v b → Keeps p e b
  keeps_same p v e b same held safe keeps = record {
    synced = λ was. held (keeps.synced (subst (λ (l : List Call). WasSynced parts b l) same was));
    kept = λ is. safe (keeps.kept (subst (λ (l : List Call). IsKept parts b l) same is));
  }

  kept_before : (call : Call) (calls : List Call) (b : List ℕ) → IsKept parts b (call ∷ calls) → ((call ≡ Settled true) × WasSynced parts b calls) ⊎ IsKept parts b calls
  kept_before (Settled true) calls b (inl was) = inl (refl, was)
  kept_before (Settled true) calls b (inr is) = inr is
  kept_before (Settled false) calls b is = inr is
  kept_before (Made name ok) calls b is = inr is
  kept_before (Wrote bytes ok) calls b is = inr is
  kept_before (Synced ok) calls b is = inr is
  kept_before (Linked from to answer) calls b is = inr is
  kept_before (Removed name ok) calls b is = inr is
  kept_before (Locked kind ok) calls b is = inr is
  kept_before Unlocked calls b is = inr is
  kept_before Began calls b is = inr is
  kept_before (Listed answer) calls b is = inr is
  kept_before (Read name answer) calls b is = inr is
  kept_before (Looked name ok) calls b is = inr is

  settles_safe : (call : Call) (q : ℕ) (v e : World) (b : List ℕ) → call ≡ Settled true → InTurn parts (v.calls q) call → Does q call v e → IsHeld parts v.disk b → IsSafe parts e.disk b
  settles_safe call q v e b is turn does held = settled parts v.disk e.disk (settles_now parts q v e (subst (λ (c : Call). InTurn parts (v.calls q) c) is turn) (subst (λ (c : Call). Does q c v e) is does)).0 b held

  -- a process that has made one call more
  keeps_call : (q : ℕ) (call : Call) (v e : World) (b : List ℕ) → Sound parts Known e → Calls parts q call v e → (IsHeld parts v.disk b → IsHeld parts e.disk b) → (IsSafe parts v.disk b → IsSafe parts e.disk b) → Keeps q v b → Keeps q e b
  keeps_call q call v e b sound happens held safe keeps = record {
    synced = λ was. ⊎_elim
        (λ whole.
        let stage : stage_of parts (e.calls q) ≡ Whole b = ap (λ (l : List Call). stage_of parts l) happens.notes.own ∙ whole in
        let m : WholeMeans parts Known e q (e.calls q) b = subst (λ (x : Stage). Means parts Known e q (e.calls q) x) stage (sound.means q) in
        m.held)
        (λ earlier. held (keeps.synced earlier))
        (subst (λ (l : List Call). WasSynced parts b l) happens.notes.own was);
    kept = λ is. ⊎_elim
        (λ (settles : (call ≡ Settled true) × WasSynced parts b (v.calls q)). settles_safe call q v e b settles.0 happens.in_turn happens.does (keeps.synced settles.1))
        (λ earlier. safe (keeps.kept earlier))
        (kept_before call (v.calls q) b (subst (λ (l : List Call). IsKept parts b l) happens.notes.own is));
  }

  keeps_by : (q p : ℕ) (call : Call) (v e : World) (b : List ℕ) → (q ≡ p) ⊎ (q ≢ p) → Sound parts Known e → Calls parts q call v e → (IsHeld parts v.disk b → IsHeld parts e.disk b) → (IsSafe parts v.disk b → IsSafe parts e.disk b) → Keeps p v b → Keeps p e b
  keeps_by q p call v e b (inl is) sound happens held safe keeps =
      subst (λ (x : ℕ). Keeps x e b) is (keeps_call q call v e b sound happens held safe (subst (λ (x : ℕ). Keeps x v b) (sym is) keeps))
  keeps_by q p call v e b (inr other) sound happens held safe keeps = keeps_same p v e b (happens.notes.others p (λ is. other (sym is))) held safe keeps

  keeps_run : (events : List Event) (d e : World) (run : Run parts events d e) → IsQuiet d
      → ((b : List ℕ) → AtSome (λ w. IsThere parts w.disk b) parts events d e run → Known b)
      → (p : ℕ) (b : List ℕ) → Keeps p e b
  keeps_run [] d e run quiet known p b = keeps_none p e b (ap (λ (w : World). w.calls p) run ∙ quiet p)
  keeps_run (By q call ∷ earlier) d e (v, run, happens) quiet known p b =
      let before = sound_run earlier d v run quiet (λ x t. known x (inr t)) in
      let there : (x : List ℕ) → IsThere parts v.disk x → Known x = λ x t. known x (inr (at_end (λ w. IsThere parts w.disk x) earlier d v run t)) in
      let after = step parts order Known distinct (By q call) v e before there happens in
      keeps_by q p call v e b (numbers_same q p) after.sound happens (step_held parts order Known distinct (By q call) v e tt before there happens b) (after.safe b)
      (keeps_run earlier d v run quiet (λ x t. known x (inr t)) p b)
  keeps_run (Comes name bytes ∷ earlier) d e (v, run, happens) quiet known p b =
      let before = sound_run earlier d v run quiet (λ x t. known x (inr t)) in
      let there : (x : List ℕ) → IsThere parts v.disk x → Known x = λ x t. known x (inr (at_end (λ w. IsThere parts w.disk x) earlier d v run t)) in
      keeps_same p v e b (happens.calls p) (step_held parts order Known distinct (Comes name bytes) v e tt before there happens b) ((step parts order Known distinct (Comes name bytes) v e before there happens).safe b)
      (keeps_run earlier d v run quiet (λ x t. known x (inr t)) p b)
  keeps_run (Leaves name ∷ earlier) d e (v, run, happens) quiet known p b =
      let before = sound_run earlier d v run quiet (λ x t. known x (inr t)) in
      let there : (x : List ℕ) → IsThere parts v.disk x → Known x = λ x t. known x (inr (at_end (λ w. IsThere parts w.disk x) earlier d v run t)) in
      keeps_same p v e b (happens.calls p) (step_held parts order Known distinct (Leaves name) v e tt before there happens b) ((step parts order Known distinct (Leaves name) v e before there happens).safe b)
      (keeps_run earlier d v run quiet (λ x t. known x (inr t)) p b)
  keeps_run (Ends q ∷ earlier) d e (v, run, happens) quiet known p b =
      let before = sound_run earlier d v run quiet (λ x t. known x (inr t)) in
      let there : (x : List ℕ) → IsThere parts v.disk x → Known x = λ x t. known x (inr (at_end (λ w. IsThere parts w.disk x) earlier d v run t)) in
      ⊎_elim
      (λ is. keeps_none p e b (ap e.calls is ∙ happens.own))
      (λ other. keeps_same p v e b (happens.others p other) (step_held parts order Known distinct (Ends q) v e tt before there happens b) ((step parts order Known distinct (Ends q) v e before there happens).safe b)
      (keeps_run earlier d v run quiet (λ x t. known x (inr t)) p b))
      (numbers_same p q)
  keeps_run (PowerLost ∷ earlier) d e (v, run, happens) quiet known p b = keeps_none p e b (happens.calls p)

  -- ---- what was put

  -- what a process has put or kept is safe
  put_at : (w : World) → Sound parts Known w → (b : List ℕ) → ((p : ℕ) → Keeps p w b) → HasPut parts b w → IsSafe parts w.disk b
  put_at w sound b keeps (process, inl (inl is)) = subst (λ (x : Stage). Means parts Known w process (w.calls process) x) is (sound.means process)
  put_at w sound b keeps (process, inl (inr is)) =
      let m : GuardedMeans parts Known w (w.calls process) b = subst (λ (x : Stage). Means parts Known w process (w.calls process) x) is (sound.means process) in
      on_disk_covered parts order w.disk b m.on_disk
  put_at w sound b keeps (process, inr kept) = (keeps process).kept kept

  put_run : (events : List Event) (d e : World) (run : Run parts events d e) → IsQuiet d
      → ((b : List ℕ) → AtSome (λ w. IsThere parts w.disk b) parts events d e run → Known b)
      → (b : List ℕ) → AtSome (HasPut parts b) parts events d e run → AtSome (λ w. IsSafe parts w.disk b) parts events d e run
  put_run [] d e run quiet known b put = put_at e (sound_run [] d e run quiet known) b (λ p. keeps_run [] d e run quiet known p b) put
  put_run (event ∷ earlier) d e run quiet known b (inl put) = inl (put_at e (sound_run (event ∷ earlier) d e run quiet known) b (λ p. keeps_run (event ∷ earlier) d e run quiet known p b) put)
  put_run (event ∷ earlier) d e (v, run, happens) quiet known b (inr at) = inr (put_run earlier d v run quiet (λ x t. known x (inr t)) b at)

  pub put_listing : (p : ℕ) (events : List Event) (d e : World) (run : Run parts events d e) → IsQuiet d
      → ((b : List ℕ) → AtSome (λ w. IsThere parts w.disk b) parts events d e run → Known b)
      → (b : List ℕ) → BeforeListing (HasPut parts b) p parts events d e run → BeforeListing (λ w. IsSafe parts w.disk b) p parts events d e run
  put_listing p [] d e run quiet known b at = absurd at
  put_listing p (By q Began ∷ earlier) d e (v, run, happens) quiet known b (inl (is, at)) = inl (is, put_run earlier d v run quiet (λ x t. known x (inr t)) b at)
  put_listing p (By q Began ∷ earlier) d e (v, run, happens) quiet known b (inr (other, at)) = inr (other, put_listing p earlier d v run quiet (λ x t. known x (inr t)) b at)
  put_listing p (event ∷ earlier) d e (v, run, happens) quiet known b at = put_listing p earlier d v run quiet (λ x t. known x (inr t)) b at

  -- ---- the last listing

  still_unlisted : (call : Call) → NotBegan call → listing_after call Unlisted ≡ Unlisted
  still_unlisted (Made name ok) not = refl
  still_unlisted (Wrote bytes ok) not = refl
  still_unlisted (Synced ok) not = refl
  still_unlisted (Linked from to answer) not = refl
  still_unlisted (Removed name ok) not = refl
  still_unlisted (Settled ok) not = refl
  still_unlisted (Locked kind ok) not = refl
  still_unlisted Unlocked not = refl
  still_unlisted Began not = absurd not
  still_unlisted (Listed (Some names)) not = refl
  still_unlisted (Listed None) not = refl
  still_unlisted (Read name answer) not = refl
  still_unlisted (Looked name ok) not = refl

  pub same_began : (q : ℕ) (call : Call) (d e : World) → NotBegan call → Does q call d e → (p : ℕ) → e.began p ≡ d.began p
  same_began q (Made name true) d e not does p = does.lists.began p
  same_began q (Made name false) d e not does p = does.lists.began p
  same_began q (Wrote bytes true) d e not does p = does.1.lists.began p
  same_began q (Wrote bytes false) d e not does p = does.2.lists.began p
  same_began q (Synced true) d e not (inl does) p = does.2.lists.began p
  same_began q (Synced true) d e not (inr does) p = does.2.lists.began p
  same_began q (Synced false) d e not does p = does.1.lists.began p
  same_began q (Linked from to Done) d e not does p = does.1.lists.began p
  same_began q (Linked from to Taken) d e not does p = does.2.lists.began p
  same_began q (Linked from to Failed) d e not does p = does.1.lists.began p
  same_began q (Removed name true) d e not does p = does.lists.began p
  same_began q (Removed name false) d e not (inl does) p = does.lists.began p
  same_began q (Removed name false) d e not (inr does) p = does.1.lists.began p
  same_began q (Settled true) d e not (inl does) p = does.2.lists.began p
  same_began q (Settled true) d e not (inr does) p = does.2.lists.began p
  same_began q (Settled false) d e not does p = does.1.lists.began p
  same_began q (Locked Exclusive true) d e not does p = does.2.lists.began p
  same_began q (Locked Shared true) d e not does p = does.2.lists.began p
  same_began q (Locked Exclusive false) d e not does p = does.1.lists.began p
  same_began q (Locked Shared false) d e not does p = does.1.lists.began p
  same_began q Unlocked d e not does p = does.1.lists.began p
  same_began q Began d e not does p = absurd not
  same_began q (Listed (Some names)) d e not does p = does.2.lists.began p
  same_began q (Listed None) d e not does p = does.1.lists.began p
  same_began q (Read name (Some (Some bytes))) d e not does p = does.lists.began p
  same_began q (Read name (Some None)) d e not does p = does.2.lists.began p
  same_began q (Read name None) d e not does p = does.1.lists.began p
  same_began q (Looked name ok) d e not does p = does.1.lists.began p

  -- a process that has listed has not begun anew since
  listed_before : (q : ℕ) (call : Call) (v e : World) → NotBegan call → Calls parts q call v e → (p : ℕ) → (q ≡ p) ⊎ (q ≢ p) → (listing_of (e.calls p) ≡ Unlisted → ⊥) → listing_of (v.calls p) ≡ Unlisted → ⊥
  listed_before q call v e not happens p (inl is) listed un =
      listed (ap (λ (x : ℕ). listing_of (e.calls x)) (sym is) ∙ ap listing_of happens.notes.own ∙ ap (λ (l : Listing). listing_after call l) (ap (λ (x : ℕ). listing_of (v.calls x)) is ∙ un) ∙ still_unlisted call not)
  listed_before q call v e not happens p (inr other) listed un = listed (ap listing_of (happens.notes.others p (λ is. other (sym is))) ∙ un)

  unlisted : (w : World) (p : ℕ) → w.calls p ≡ [] → (listing_of (w.calls p) ≡ Unlisted → ⊥) → ⊥
  unlisted w p none listed = listed (ap listing_of none)

  -- what was safe before the last listing was held when that began
  pub began_held : (events : List Event) (d e : World) (run : Run parts events d e) → IsQuiet d
      → ((b : List ℕ) → AtSome (λ w. IsThere parts w.disk b) parts events d e run → Known b)
      → (p : ℕ) → (listing_of (e.calls p) ≡ Unlisted → ⊥) → (b : List ℕ) → BeforeListing (λ w. IsSafe parts w.disk b) p parts events d e run → IsHeld parts (e.began p) b
  began_held [] d e run quiet known p listed b at = absurd at
  began_held (By q Began ∷ earlier) d e (v, run, happens) quiet known p listed b (inl (is, at)) =
      let safe = safe_run earlier d v run quiet (λ x t. known x (inr t)) b at in
      let held : IsHeld parts v.disk b = safe v.disk.names (λ name. inl refl) in
      subst (λ (x : ℕ). IsHeld parts (e.began x) b) is (subst (λ (x : Disk). IsHeld parts x b) (sym happens.does.lists.own) held)
  began_held (By q Began ∷ earlier) d e (v, run, happens) quiet known p listed b (inr (other, at)) =
      let was = began_held earlier d v run quiet (λ x t. known x (inr t)) p (λ un. listed (ap listing_of (happens.notes.others p (λ is. other (sym is))) ∙ un)) b at in
      subst (λ (x : Disk). IsHeld parts x b) (sym (happens.does.lists.others p (λ is. other (sym is)))) was
  began_held (By q call ∷ earlier) d e (v, run, happens) quiet known p listed b at =
      let was = began_held earlier d v run quiet (λ x t. known x (inr t)) p (listed_before q call v e tt happens p (numbers_same q p) listed) b at in
      subst (λ (x : Disk). IsHeld parts x b) (sym (same_began q call v e tt happens.does p)) was
  began_held (Comes name bytes ∷ earlier) d e (v, run, happens) quiet known p listed b at =
      let was = began_held earlier d v run quiet (λ x t. known x (inr t)) p (λ un. listed (ap listing_of (happens.calls p) ∙ un)) b at in
      subst (λ (x : Disk). IsHeld parts x b) (sym (happens.stays.lists.began p)) was
  began_held (Leaves name ∷ earlier) d e (v, run, happens) quiet known p listed b at =
      let was = began_held earlier d v run quiet (λ x t. known x (inr t)) p (λ un. listed (ap listing_of (happens.calls p) ∙ un)) b at in
      subst (λ (x : Disk). IsHeld parts x b) (sym (happens.removes.lists.began p)) was
  began_held (Ends q ∷ earlier) d e (v, run, happens) quiet known p listed b at = ⊎_elim
      (λ is. absurd (unlisted e p (ap e.calls is ∙ happens.own) listed))
      (λ other.
      let was = began_held earlier d v run quiet (λ x t. known x (inr t)) p (λ un. listed (ap listing_of (happens.others p other) ∙ un)) b at in
      subst (λ (x : Disk). IsHeld parts x b) (sym (happens.stays.lists.began p)) was)
      (numbers_same p q)
  began_held (PowerLost ∷ earlier) d e (v, run, happens) quiet known p listed b at = absurd (unlisted e p (happens.calls p) listed)

module _ (parts : Parts) (events : List Event) (d e : World) (run : Run parts events d e) (fair : IsFair parts events d e run) where
  abbrev Known : List ℕ → Type 0
  Known b = AtSome (λ w. IsThere parts w.disk b) parts events d e run

  sound : Sound parts Known e
  sound = sound_run parts fair.order Known fair.distinct events d e run fair.quiet (λ b at. at)

  pub safe_for_ever : (b : List ℕ) → AtSome (λ w. IsSafe parts w.disk b) parts events d e run → IsSafe parts e.disk b
  safe_for_ever b at = safe_run parts fair.order Known fair.distinct events d e run fair.quiet (λ x t. t) b at

  means : (process : ℕ) (s : Stage) → stage_of parts (e.calls process) ≡ s → Means parts Known e process (e.calls process) s
  means process s is = subst (λ (x : Stage). Means parts Known e process (e.calls process) x) is (sound.means process)

  pub put_is_safe : (b : List ℕ) → AtSome (HasPut parts b) parts events d e run → IsSafe parts e.disk b
  put_is_safe b at = safe_for_ever b (put_run parts fair.order Known fair.distinct events d e run fair.quiet (λ x t. t) b at)

  pub placed_is_held : (process : ℕ) (b : List ℕ) → stage_of parts (e.calls process) ≡ Placed b → IsHeld parts e.disk b
  placed_is_held process b is = means process (Placed b) is

  since_read : (b : List ℕ) (calls : List Call) → HasReadSince parts b calls → HasRead parts b calls
  since_read b [] has = has
  since_read b (Began ∷ earlier) has = absurd has
  since_read b (Read name (Some (Some found)) ∷ earlier) (inl is) = inl is
  since_read b (Read name (Some (Some found)) ∷ earlier) (inr has) = inr (since_read b earlier has)
  since_read b (call ∷ earlier) has = since_read b earlier has

  pub reads_all : (process : ℕ) → HasReadAll parts (e.calls process) → (b : List ℕ) → IsThere parts (e.began process) b → HasReadSince parts b (e.calls process)
  reads_all process all b there =
      let m : GaveMeans parts Known e process all.names = subst (λ (l : Listing). ListMeans parts Known e process (e.calls process) l) all.listed (sound.lists process) in
      let x = m b there in
      let r = all.each b x.1 in
      let found_known : Known r.0 = sound.read process r.0 (since_read r.0 (e.calls process) r.2) in
      subst (λ (y : List ℕ). HasReadSince parts y (e.calls process)) (fair.distinct r.0 b found_known x.0 r.1) r.2

  not_unlisted : (calls : List Call) (names : List (List ℕ)) → listing_of calls ≡ Gave names → listing_of calls ≡ Unlisted → ⊥
  not_unlisted calls names listed un = let x : Gave names ≡ Unlisted = sym listed ∙ un in clash x
    where
      clash : Gave names ≡ Unlisted → ⊥
      clash is = cc

  pub readers_have : (process : ℕ) → HasReadAll parts (e.calls process) → (b : List ℕ) → BeforeListing (λ w. IsSafe parts w.disk b) process parts events d e run
      → (found : List ℕ) × HasReadSince parts found (e.calls process) × (parts.covers found b ≡ true)
  readers_have process all b at =
      let held = began_held parts fair.order Known fair.distinct events d e run fair.quiet (λ x t. t) process (not_unlisted (e.calls process) all.names all.listed) b at in
      (held.0, reads_all process all held.0 (held.1, held.2, held.3), held.5)

  pub put_is_read : (process : ℕ) → HasReadAll parts (e.calls process) → (b : List ℕ) → BeforeListing (HasPut parts b) process parts events d e run
      → (found : List ℕ) × HasReadSince parts found (e.calls process) × (parts.covers found b ≡ true)
  put_is_read process all b at = readers_have process all b (put_listing parts fair.order Known fair.distinct process events d e run fair.quiet (λ x t. t) b at)

pub killed : (parts : Parts) (calls : List Call) (call : Call) → InTurn parts calls call → InTurn parts calls (unanswered call)
killed parts calls (Made name ok) turn = turn
killed parts calls (Wrote bytes ok) turn = turn
killed parts calls (Synced ok) turn = tt
killed parts calls (Linked from to answer) turn = turn
killed parts calls (Removed name ok) turn = turn
killed parts calls (Settled true) turn = tt
killed parts calls (Settled false) turn = tt
killed parts calls (Locked kind ok) turn = tt
killed parts calls Unlocked turn = tt
killed parts calls Began turn = turn
killed parts calls (Listed answer) turn = tt
killed parts calls (Read name answer) turn = tt
killed parts calls (Looked name ok) turn = tt

pub held : SafeIsHeld
held parts d b safe = safe d.names (λ name. inl refl)

-- ---- runs of processes that keep to their clauses

pub turns_run : (parts : Parts) (events : List Event) (d e : World) (run : FreeRun parts events d e) → KeepsTurn parts events d e run → Run parts events d e
turns_run parts [] d e run keeps = run
turns_run parts (By process call ∷ earlier) d e (v, run, (does, notes)) (all, keeps) = (
  v,
  turns_run parts earlier d v run keeps,
  record { in_turn = (subst (λ (c : List Call). AllInTurn parts c) notes.own (all process)).0; does = does; notes = notes },
)
turns_run parts (event ∷ earlier) d e (v, run, happens) (all, keeps) = (v, turns_run parts earlier d v run keeps, happens)
