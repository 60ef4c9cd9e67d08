-- What was read, and is gone later, is held by another part.
use Rattle.std.proofs.Common.{◌≡◌, ◌⊎◌, inl, inr, ⊎_elim, ℕ, true, List, [], ◌∷◌, Some, None, sym, ◌∙◌, ap, subst}
use Rattle.folder_model.specs.Call.{Call, Settled, Read, Began}
use Rattle.folder_model.specs.Disk.{Disk}
use Rattle.folder_model.specs.Parts.{Parts, IsOrder, IsThere, IsHeld, IsSafe}
use Rattle.folder_model.specs.Turn.{HasRead, HasMissed, IsGone, Gave, listing_of}
use Rattle.folder_model.specs.World.{World}
use Rattle.folder_model.specs.Run.{Event, By, Comes, Leaves, Ends, PowerLost, Calls, Happens, Run, AtSome, BeforeListing, IsQuiet}
use Rattle.folder_model.specs.Laws.{IsFair, FindsAmong}
use Rattle.folder_model.proofs.Basics.{some_none, some_same, numbers_same}
use Rattle.folder_model.proofs.Means.{Sound}
use Rattle.folder_model.proofs.Effects.{settles_now}
use Rattle.folder_model.proofs.Steps.{NotLoss, step, step_bears, step_held}
use Rattle.folder_model.proofs.Alone.{safe_is_found}
use Rattle.folder_model.proofs.Runs.{settled, sound_run, safe_for_ever}

module _ (parts : Parts) (order : IsOrder parts) (Known : List ℕ → Type 0) (distinct : (a b : List ℕ) → Known a → Known b → parts.name_of a ≡ parts.name_of b → a ≡ b) where
  -- what is so of a process's calls and is not at its beginning: it came of a call, and what came of it stays but for a loss of power
  module _ (H : List Call → Type 0) (Q : World → Type 0) (Prev : World → ℕ → Type 0) (none : H [] → ⊥)
      (prev : (events : List Event) (d e : World) (run : Run parts events d e) → IsQuiet d → ((b : List ℕ) → AtSome (λ w. IsThere parts w.disk b) parts events d e run → Known b) → (p : ℕ) → Prev e p)
      (stay : (event : Event) (v e : World) → NotLoss event → Sound parts Known v → ((b : List ℕ) → IsThere parts v.disk b → Known b) → Happens parts event v e → Q v → Q e)
      (own : (q : ℕ) (call : Call) (v e : World) → Sound parts Known v → ((b : List ℕ) → IsThere parts v.disk b → Known b) → Calls parts q call v e → Prev v q → H (call ∷ v.calls q) → H (v.calls q) ⊎ Q e) where
    at_end : (P : World → Type 0) (events : List Event) (d e : World) (run : Run parts events d e) → P e → AtSome P parts events d e run
    at_end P [] d e run p = p
    at_end P (event ∷ earlier) d e run p = inl p

    calls_run : (events : List Event) (d e : World) (run : Run parts events d e) → IsQuiet d
        → ((b : List ℕ) → AtSome (λ w. IsThere parts w.disk b) parts events d e run → Known b) → (p : ℕ) → H (e.calls p) → Q e
    calls_run [] d e run quiet known p has = absurd (none (subst H (ap (λ (w : World). w.calls p) run ∙ quiet p) has))
    calls_run (PowerLost ∷ earlier) d e (v, run, happens) quiet known p has = absurd (none (subst H (happens.calls p) has))
    calls_run (By q call ∷ earlier) d e (v, run, happens) quiet known p has =
        let sound = sound_run parts order Known distinct earlier d v run quiet (λ x t. known x (inr t)) in
        let there : (b : List ℕ) → IsThere parts v.disk b → Known b = λ b t. known b (inr (at_end (λ w. IsThere parts w.disk b) earlier d v run t)) in
        let on : Q v → Q e = stay (By q call) v e tt sound there happens in
        ⊎_elim
        (λ is. ⊎_elim
        (λ before. on (calls_run earlier d v run quiet (λ x t. known x (inr t)) q before))
        (λ now. now)
        (own q call v e sound there happens (prev earlier d v run quiet (λ x t. known x (inr t)) q) (subst H happens.notes.own (subst (λ (x : ℕ). H (e.calls x)) (sym is) has))))
        (λ other. on (calls_run earlier d v run quiet (λ x t. known x (inr t)) p (subst H (happens.notes.others p (λ is. other (sym is))) has)))
        (numbers_same q p)
    calls_run (Comes name bytes ∷ earlier) d e (v, run, happens) quiet known p has =
        let there : (b : List ℕ) → IsThere parts v.disk b → Known b = λ b t. known b (inr (at_end (λ w. IsThere parts w.disk b) earlier d v run t)) in
        stay (Comes name bytes) v e tt (sound_run parts order Known distinct earlier d v run quiet (λ x t. known x (inr t))) there happens
        (calls_run earlier d v run quiet (λ x t. known x (inr t)) p (subst H (happens.calls p) has))
    calls_run (Leaves name ∷ earlier) d e (v, run, happens) quiet known p has =
        let there : (b : List ℕ) → IsThere parts v.disk b → Known b = λ b t. known b (inr (at_end (λ w. IsThere parts w.disk b) earlier d v run t)) in
        stay (Leaves name) v e tt (sound_run parts order Known distinct earlier d v run quiet (λ x t. known x (inr t))) there happens
        (calls_run earlier d v run quiet (λ x t. known x (inr t)) p (subst H (happens.calls p) has))
    calls_run (Ends q ∷ earlier) d e (v, run, happens) quiet known p has =
        let there : (b : List ℕ) → IsThere parts v.disk b → Known b = λ b t. known b (inr (at_end (λ w. IsThere parts w.disk b) earlier d v run t)) in
        ⊎_elim
        (λ is. absurd (none (subst H (ap e.calls is ∙ happens.own) has)))
        (λ other.
        stay (Ends q) v e tt (sound_run parts order Known distinct earlier d v run quiet (λ x t. known x (inr t))) there happens
        (calls_run earlier d v run quiet (λ x t. known x (inr t)) p (subst H (happens.others p other) has)))
        (numbers_same p q)

  -- ---- what was read is there, or is held

  abbrev IsThereOrHeld : List ℕ → World → Type 0
  IsThereOrHeld b w = IsThere parts w.disk b ⊎ IsHeld parts w.disk b

  stays_read : (b : List ℕ) (event : Event) (v e : World) → NotLoss event → Sound parts Known v → ((b : List ℕ) → IsThere parts v.disk b → Known b) → Happens parts event v e → IsThereOrHeld b v → IsThereOrHeld b e
  stays_read b event v e not sound there happens (inl (file, at, holds)) =
      ⊎_elim (λ still. inl (file, still.0, still.1)) (λ held. inr held) ((step_bears parts order Known distinct event v e not sound there happens).there b file at holds)
  stays_read b event v e not sound there happens (inr held) = inr (step_held parts order Known distinct event v e not sound there happens b held)

  reads : (b : List ℕ) (q : ℕ) (call : Call) (v e : World) → Sound parts Known v → ((b : List ℕ) → IsThere parts v.disk b → Known b) → Calls parts q call v e → Unit {0} → HasRead parts b (call ∷ v.calls q) → HasRead parts b (v.calls q) ⊎ IsThereOrHeld b e
  reads b q (Read name (Some (Some bytes))) v e sound there happens p (inl (is, named)) =
      let finds = happens.does in
      inr (inl (finds.file, ap e.disk.names (sym named) ∙ ap (λ (x : Disk). x.names name) finds.disk ∙ finds.named, ap (λ (x : Disk). x.contents finds.file) finds.disk ∙ finds.holds ∙ is))
  reads b q (Read name (Some (Some bytes))) v e sound there happens p (inr has) = inl has
  reads b q call v e sound there happens p has = inl has

  read_run : (events : List Event) (d e : World) (run : Run parts events d e) → IsQuiet d
      → ((b : List ℕ) → AtSome (λ w. IsThere parts w.disk b) parts events d e run → Known b) → (p : ℕ) (b : List ℕ) → HasRead parts b (e.calls p) → IsThereOrHeld b e
  read_run events d e run quiet known p b has =
      calls_run (λ l. HasRead parts b l) (IsThereOrHeld b) (λ w q. Unit {0}) (λ x. x) (λ events d e run quiet known q. tt) (stays_read b) (reads b) events d e run quiet known p has

  -- ---- what is gone is held

  stays_held : (b : List ℕ) (event : Event) (v e : World) → NotLoss event → Sound parts Known v → ((b : List ℕ) → IsThere parts v.disk b → Known b) → Happens parts event v e → IsHeld parts v.disk b → IsHeld parts e.disk b
  stays_held b event v e not sound there happens held = step_held parts order Known distinct event v e not sound there happens b held

  misses : (b : List ℕ) (q : ℕ) (call : Call) (v e : World) → Sound parts Known v → ((b : List ℕ) → IsThere parts v.disk b → Known b) → Calls parts q call v e → (HasRead parts b (v.calls q) → IsThereOrHeld b v)
      → HasMissed parts b (call ∷ v.calls q) → HasMissed parts b (v.calls q) ⊎ IsHeld parts e.disk b
  misses b q (Read name (Some None)) v e sound there happens before (inl (named, has)) = inr (⊎_elim
      (λ (t : IsThere parts v.disk b). absurd (some_none t.0 (sym t.1 ∙ ap v.disk.names (sym named) ∙ happens.does.0)))
      (λ held. subst (λ (x : Disk). IsHeld parts x b) (sym happens.does.1) held)
      (before has))
  misses b q (Read name (Some None)) v e sound there happens before (inr has) = inl has
  misses b q (Read name (Some (Some found))) v e sound there happens before (inl (named, other, has)) = inr (⊎_elim
      (λ (t : IsThere parts v.disk b).
      let finds = happens.does in
      let file : t.0 ≡ finds.file = some_same t.0 finds.file (sym t.1 ∙ ap v.disk.names (sym named) ∙ finds.named) in
      absurd (other (sym finds.holds ∙ ap v.disk.contents (sym file) ∙ t.2)))
      (λ held. subst (λ (x : Disk). IsHeld parts x b) (sym happens.does.disk) held)
      (before has))
  misses b q (Read name (Some (Some found))) v e sound there happens before (inr has) = inl has
  misses b q call v e sound there happens before has = inl has

  missed_run : (events : List Event) (d e : World) (run : Run parts events d e) → IsQuiet d
      → ((b : List ℕ) → AtSome (λ w. IsThere parts w.disk b) parts events d e run → Known b) → (p : ℕ) (b : List ℕ) → HasMissed parts b (e.calls p) → IsHeld parts e.disk b
  missed_run events d e run quiet known p b has =
      calls_run (λ l. HasMissed parts b l) (λ w. IsHeld parts w.disk b) (λ w q. HasRead parts b (w.calls q) → IsThereOrHeld b w) (λ x. x)
      (λ events d e run quiet known q. read_run events d e run quiet known q b) (stays_held b) (misses b) events d e run quiet known p has

  -- ---- and safe once the folder was synced

  stays_safe : (b : List ℕ) (event : Event) (v e : World) → NotLoss event → Sound parts Known v → ((b : List ℕ) → IsThere parts v.disk b → Known b) → Happens parts event v e → IsSafe parts v.disk b → IsSafe parts e.disk b
  stays_safe b event v e not sound there happens safe = (step parts order Known distinct event v e sound there happens).safe b safe

  settles : (b : List ℕ) (q : ℕ) (call : Call) (v e : World) → Sound parts Known v → ((b : List ℕ) → IsThere parts v.disk b → Known b) → Calls parts q call v e → (HasMissed parts b (v.calls q) → IsHeld parts v.disk b)
      → IsGone parts b (call ∷ v.calls q) → IsGone parts b (v.calls q) ⊎ IsSafe parts e.disk b
  settles b q (Settled true) v e sound there happens before (inl missed) = inr (settled parts v.disk e.disk (settles_now parts q v e happens.in_turn happens.does).0 b (before missed))
  settles b q (Settled true) v e sound there happens before (inr gone) = inl gone
  settles b q call v e sound there happens before gone = inl gone

  gone_run : (events : List Event) (d e : World) (run : Run parts events d e) → IsQuiet d
      → ((b : List ℕ) → AtSome (λ w. IsThere parts w.disk b) parts events d e run → Known b) → (p : ℕ) (b : List ℕ) → IsGone parts b (e.calls p) → IsSafe parts e.disk b
  gone_run events d e run quiet known p b gone =
      calls_run (λ l. IsGone parts b l) (λ w. IsSafe parts w.disk b) (λ w q. HasMissed parts b (w.calls q) → IsHeld parts w.disk b) (λ x. x)
      (λ events d e run quiet known q. missed_run events d e run quiet known q b) (stays_safe b) (settles b) events d e run quiet known p gone

  gone_at : (events : List Event) (d e : World) (run : Run parts events d e) → IsQuiet d
      → ((b : List ℕ) → AtSome (λ w. IsThere parts w.disk b) parts events d e run → Known b)
      → (p : ℕ) (b : List ℕ) → AtSome (λ w. IsGone parts b (w.calls p)) parts events d e run → AtSome (λ w. IsSafe parts w.disk b) parts events d e run
  gone_at [] d e run quiet known p b gone = gone_run [] d e run quiet known p b gone
  gone_at (event ∷ earlier) d e run quiet known p b (inl gone) = inl (gone_run (event ∷ earlier) d e run quiet known p b gone)
  gone_at (event ∷ earlier) d e (v, run, happens) quiet known p b (inr at) = inr (gone_at earlier d v run quiet (λ x t. known x (inr t)) p b at)

  -- the same of any process
  gone_some : (events : List Event) (d e : World) (run : Run parts events d e) → IsQuiet d
      → ((b : List ℕ) → AtSome (λ w. IsThere parts w.disk b) parts events d e run → Known b)
      → (b : List ℕ) → AtSome (λ w. (q : ℕ) × IsGone parts b (w.calls q)) parts events d e run → AtSome (λ w. IsSafe parts w.disk b) parts events d e run
  gone_some [] d e run quiet known b (q, gone) = gone_run [] d e run quiet known q b gone
  gone_some (event ∷ earlier) d e run quiet known b (inl (q, gone)) = inl (gone_run (event ∷ earlier) d e run quiet known q b gone)
  gone_some (event ∷ earlier) d e (v, run, happens) quiet known b (inr at) = inr (gone_some earlier d v run quiet (λ x t. known x (inr t)) b at)

  -- before a listing
  gone_listing : (p : ℕ) (events : List Event) (d e : World) (run : Run parts events d e) → IsQuiet d
      → ((b : List ℕ) → AtSome (λ w. IsThere parts w.disk b) parts events d e run → Known b)
      → (b : List ℕ) → BeforeListing (λ w. (q : ℕ) × IsGone parts b (w.calls q)) p parts events d e run → BeforeListing (λ w. IsSafe parts w.disk b) p parts events d e run
  gone_listing p [] d e run quiet known b at = absurd at
  gone_listing p (By q Began ∷ earlier) d e (v, run, happens) quiet known b (inl (is, at)) = inl (is, gone_some earlier d v run quiet (λ x t. known x (inr t)) b at)
  gone_listing p (By q Began ∷ earlier) d e (v, run, happens) quiet known b (inr (other, at)) = inr (other, gone_listing p earlier d v run quiet (λ x t. known x (inr t)) b at)
  gone_listing p (event ∷ earlier) d e (v, run, happens) quiet known b at = gone_listing p earlier d v run quiet (λ x t. known x (inr t)) b at

pub gone_is_safe : (parts : Parts) (events : List Event) (d e : World) (run : Run parts events d e) → IsFair parts events d e run
    → (p : ℕ) (b : List ℕ) → AtSome (λ w. IsGone parts b (w.calls p)) parts events d e run → IsSafe parts e.disk b
gone_is_safe parts events d e run fair p b at =
    safe_for_ever parts events d e run fair b (gone_at parts fair.order (λ b. AtSome (λ w. IsThere parts w.disk b) parts events d e run) fair.distinct events d e run fair.quiet (λ x t. t) p b at)

pub gone_is_found : (parts : Parts) (events : List Event) (d e : World) (run : Run parts events d e) → IsFair parts events d e run
    → (p : ℕ) (names : List (List ℕ)) → listing_of (e.calls p) ≡ Gave names
    → (b : List ℕ) → BeforeListing (λ w. (q : ℕ) × IsGone parts b (w.calls q)) p parts events d e run → FindsAmong parts names (e.calls p) b
gone_is_found parts events d e run fair p names listed b at =
    safe_is_found parts events d e run fair p names listed b
    (gone_listing parts fair.order (λ b. AtSome (λ w. IsThere parts w.disk b) parts events d e run) fair.distinct p events d e run fair.quiet (λ x t. t) b at)
