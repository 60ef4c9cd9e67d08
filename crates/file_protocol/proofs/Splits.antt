-- A run of calls, and then of others.
use Rattle.std.proofs.Common.{◌⊎◌, inl, inr, ℕ, List, [], ◌∷◌, ◌++◌, Option, refl}
use Rattle.file_protocol.specs.Event.{Event}
use Rattle.file_protocol.specs.Disk.{Disk}
use Rattle.file_protocol.specs.Safe.{Run, Moment, RunAlone}
use Rattle.file_protocol.proofs.Alone.{alone}

module _ (lock name : List ℕ) (laters : List (Option (List ℕ))) where
  pub run_split : (later earlier : List Event) (d e : Disk) → Run lock name laters (later ++ earlier) d e
      → (v : Disk) × Run lock name laters earlier d v × Run lock name laters later v e
  run_split [] earlier d e run = (e, run, alone lock name laters e)
  run_split (call ∷ later) earlier d e (v, w, run, takes, others) =
      let parts = run_split later earlier d v run in
      (parts.0, parts.1, (v, w, parts.2, takes, others))

  pub run_is_moment : (calls : List Event) (d e : Disk) → Run lock name laters calls d e → Moment lock name laters calls d e
  run_is_moment [] d e run = run
  run_is_moment (call ∷ earlier) d e run = inl run

  -- a moment is one of the later calls, or one of the earlier ones
  pub moment_split : (later earlier : List Event) (d e : Disk) → Moment lock name laters (later ++ earlier) d e
      → ((v : Disk) × Run lock name laters earlier d v × Moment lock name laters later v e) ⊎ Moment lock name laters earlier d e
  moment_split [] earlier d e moment = inr moment
  moment_split (call ∷ later) earlier d e (inl run) =
      let parts = run_split (call ∷ later) earlier d e run in
      inl (parts.0, parts.1, inl parts.2)
  moment_split (call ∷ later) earlier d e (inr (inl (v, w, run, takes, others))) =
      let parts = run_split later earlier d v run in
      inl (parts.0, parts.1, inr (inl (v, w, parts.2, takes, others)))
  moment_split (call ∷ later) earlier d e (inr (inr moment)) = within (moment_split later earlier d e moment)
    where
      within : ((v : Disk) × Run lock name laters earlier d v × Moment lock name laters later v e) ⊎ Moment lock name laters earlier d e
          → ((v : Disk) × Run lock name laters earlier d v × Moment lock name laters (call ∷ later) v e) ⊎ Moment lock name laters earlier d e
      within (inl (v, run, m)) = inl (v, run, inr (inr m))
      within (inr m) = inr m

-- the same where nobody else does anything
pub alone_split : (later earlier : List Event) (d e : Disk) → RunAlone (later ++ earlier) d e → (v : Disk) × RunAlone earlier d v × RunAlone later v e
alone_split [] earlier d e run = (e, run, refl)
alone_split (call ∷ later) earlier d e (v, run, takes) =
    let parts = alone_split later earlier d v run in
    (parts.0, parts.1, (v, parts.2, takes))
