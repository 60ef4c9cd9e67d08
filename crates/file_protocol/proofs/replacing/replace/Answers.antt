use Rattle.std.proofs.Common.{◌≡◌, ◌≢◌, List, ℕ, Result, Ok, Err, OnOk, IfOk}
use Rattle.std.specs.Prelude.{IsErrOf}
use Rattle.file_protocol.specs.declared.outcome.ReplaceError.TheVariants.{Unchanged}
use Rattle.file_protocol.specs.declared.outcome.Replaced.{Replaced}
use Rattle.file_protocol.specs.declared.outcome.Replaced.TheVariants.{Synced, Unsynced}
use Rattle.file_protocol.specs.Event.{Event}
use Rattle.file_protocol.specs.Phase.{Holding, Goes}
use Rattle.file_protocol.specs.Outcome.{phase_of}
use Rattle.file_protocol.specs.Owning.{GivesBack}
use Rattle.file_protocol.specs.Safe.{OldOrNew, IsNew, IsOld, IsInPlace, LeavesNoLock, OnlyOurs, StaysKept}
use Rattle.file_protocol.proofs.Sound.{old_or_new, is_new, is_old, is_in_place, new_in_place}
use Rattle.file_protocol.proofs.LongerNames.{longer_is_other, along}
use Rattle.file_protocol.proofs.Turn.{only_ours, stays_kept}
use Rattle.file_protocol.proofs.replacing.replace.Goals as goal

module _ (lock name new : List ℕ) (apart : lock ≢ name) where
  stores : {E : Type 0} (r : Result Replaced E) (before after : List Event) → IfOk r (λ how. Goes lock name new before Holding after (phase_of how))
      → IfOk r (λ how. how ≡ Synced → IsNew lock name new before after)
  stores (Ok Synced) before after ok = λ e. is_new lock name new apart before after ok
  stores (Ok Unsynced) before after ok = λ e. absurd (let x : ⊥ = cc in x)
  stores (Err x) before after ok = tt

  puts : {E : Type 0} (r : Result Replaced E) (before after : List Event) → IfOk r (λ how. Goes lock name new before Holding after (phase_of how))
      → OnOk r (IsInPlace lock name new before after)
  puts (Ok Synced) before after ok = new_in_place lock name new apart before after (is_new lock name new apart before after ok)
  puts (Ok Unsynced) before after ok = is_in_place lock name new apart before after ok
  puts (Err x) before after ok = tt

pub returns-clause-any_moment : goal.returns-clause-any_moment
returns-clause-any_moment g c =
    let apart = longer_is_other _ _ _ _ c.args.place.now.longer c.lock.ensures c.name.ensures in
    let t = c.exchange.ensures.in_turn in
    along (λ (l n : List ℕ). OldOrNew l n c.args.bytes.now (g.F.FileFolder.history c.args.folder.now) (g.F.FileFolder.history c.exchange.new.folder)) c.lock.result.now _ c.name.result.now _ c.lock.ensures c.name.ensures (old_or_new c.lock.result.now c.name.result.now c.args.bytes.now apart _ _ t.0 t.1 t.2)

pub returns-clause-synced : goal.returns-clause-synced
returns-clause-synced g c =
    let apart = longer_is_other _ _ _ _ c.args.place.now.longer c.lock.ensures c.name.ensures in
    along (λ (l n : List ℕ). IfOk c.exchange.result (λ how. how ≡ Synced → IsNew l n c.args.bytes.now (g.F.FileFolder.history c.args.folder.now) (g.F.FileFolder.history c.exchange.new.folder))) c.lock.result.now _ c.name.result.now _ c.lock.ensures c.name.ensures (stores c.lock.result.now c.name.result.now c.args.bytes.now apart c.exchange.result _ _ c.exchange.ensures.ok)

pub returns-clause-in_place : goal.returns-clause-in_place
returns-clause-in_place g c =
    let apart = longer_is_other _ _ _ _ c.args.place.now.longer c.lock.ensures c.name.ensures in
    along (λ (l n : List ℕ). OnOk c.exchange.result (IsInPlace l n c.args.bytes.now (g.F.FileFolder.history c.args.folder.now) (g.F.FileFolder.history c.exchange.new.folder))) c.lock.result.now _ c.name.result.now _ c.lock.ensures c.name.ensures (puts c.lock.result.now c.name.result.now c.args.bytes.now apart c.exchange.result _ _ c.exchange.ensures.ok)

pub returns-clause-no_lock : goal.returns-clause-no_lock
returns-clause-no_lock g c =
    let apart = longer_is_other _ _ _ _ c.args.place.now.longer c.lock.ensures c.name.ensures in
    along (λ (l n : List ℕ). OnOk c.exchange.result (LeavesNoLock l (g.F.FileFolder.history c.args.folder.now) (g.F.FileFolder.history c.exchange.new.folder))) c.lock.result.now _ c.name.result.now _ c.lock.ensures c.name.ensures (c.exchange.ensures.no_lock)

pub returns-clause-unchanged : goal.returns-clause-unchanged
returns-clause-unchanged g c =
    let apart = longer_is_other _ _ _ _ c.args.place.now.longer c.lock.ensures c.name.ensures in
    along (λ (l n : List ℕ). IsErrOf c.exchange.result Unchanged → IsOld l n (g.F.FileFolder.history c.args.folder.now) (g.F.FileFolder.history c.exchange.new.folder)) c.lock.result.now _ c.name.result.now _ c.lock.ensures c.name.ensures (λ is. is_old c.lock.result.now c.name.result.now c.args.bytes.now apart _ _ (c.exchange.ensures.unchanged is))

pub returns-clause-ours : goal.returns-clause-ours
returns-clause-ours g c =
    let apart = longer_is_other _ _ _ _ c.args.place.now.longer c.lock.ensures c.name.ensures in
    let t = c.exchange.ensures.in_turn in
    along (λ (l n : List ℕ). OnlyOurs l n (g.F.FileFolder.history c.args.folder.now) (g.F.FileFolder.history c.exchange.new.folder)) c.lock.result.now _ c.name.result.now _ c.lock.ensures c.name.ensures (only_ours c.lock.result.now c.name.result.now c.args.bytes.now _ _ t.0 t.1 t.2)

pub returns-clause-kept : goal.returns-clause-kept
returns-clause-kept g c =
    let apart = longer_is_other _ _ _ _ c.args.place.now.longer c.lock.ensures c.name.ensures in
    let t = c.exchange.ensures.in_turn in
    along (λ (l n : List ℕ). StaysKept l n (g.F.FileFolder.history c.args.folder.now) (g.F.FileFolder.history c.exchange.new.folder)) c.lock.result.now _ c.name.result.now _ c.lock.ensures c.name.ensures (stays_kept c.lock.result.now c.name.result.now c.args.bytes.now _ _ t.0 t.1 t.2 apart)

pub returns-clause-own : goal.returns-clause-own
returns-clause-own g c =
    along (λ (l n : List ℕ). GivesBack l (g.F.FileFolder.history c.args.folder.now) (g.F.FileFolder.history c.exchange.new.folder)) c.lock.result.now _ c.name.result.now _ c.lock.ensures c.name.ensures c.exchange.ensures.own
