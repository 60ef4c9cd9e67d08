use Rattle.std.proofs.Common.{List, ℕ, OnOk}
use Rattle.file_protocol.specs.Safe.{TakesLock, StaysOld, StaysKept}
use Rattle.file_protocol.specs.Locking.{OnlyLocks}
use Rattle.file_protocol.specs.Owning.{OwnsAll, GetsLock}
use Rattle.file_protocol.proofs.LongerNames.{longer_is_other, along}
use Rattle.file_protocol.proofs.Locks.{stays_old, stays_kept}
use Rattle.file_protocol.proofs.holding.hold.Goals as goal

pub returns-clause-held : goal.returns-clause-held
returns-clause-held g c =
    along (λ (l n : List ℕ). OnOk c.lock_and_take_mode.result (TakesLock l n (g.F.FileFolder.history c.args.folder.now) (g.F.FileFolder.history c.lock_and_take_mode.new.folder))) c.lock.result.now _ c.name.result.now _ c.lock.ensures c.name.ensures c.lock_and_take_mode.ensures.held

pub returns-clause-any_moment : goal.returns-clause-any_moment
returns-clause-any_moment g c =
    let apart = longer_is_other _ _ _ _ c.args.place.now.longer c.lock.ensures c.name.ensures in
    along (λ (l n : List ℕ). StaysOld l n (g.F.FileFolder.history c.args.folder.now) (g.F.FileFolder.history c.lock_and_take_mode.new.folder)) c.lock.result.now _ c.name.result.now _ c.lock.ensures c.name.ensures
    (stays_old c.lock.result.now c.name.result.now apart _ _ c.lock_and_take_mode.ensures.locks)

pub returns-clause-locks : goal.returns-clause-locks
returns-clause-locks g c =
    along (λ (l n : List ℕ). OnlyLocks l (g.F.FileFolder.history c.args.folder.now) (g.F.FileFolder.history c.lock_and_take_mode.new.folder)) c.lock.result.now _ c.name.result.now _ c.lock.ensures c.name.ensures c.lock_and_take_mode.ensures.locks

pub returns-clause-kept : goal.returns-clause-kept
returns-clause-kept g c =
    let apart = longer_is_other _ _ _ _ c.args.place.now.longer c.lock.ensures c.name.ensures in
    along (λ (l n : List ℕ). StaysKept l n (g.F.FileFolder.history c.args.folder.now) (g.F.FileFolder.history c.lock_and_take_mode.new.folder)) c.lock.result.now _ c.name.result.now _ c.lock.ensures c.name.ensures
    (stays_kept c.lock.result.now c.name.result.now apart _ _ c.lock_and_take_mode.ensures.locks)

pub returns-clause-own : goal.returns-clause-own
returns-clause-own g c =
    along (λ (l n : List ℕ). OwnsAll l (g.F.FileFolder.history c.args.folder.now) (g.F.FileFolder.history c.lock_and_take_mode.new.folder)) c.lock.result.now _ c.name.result.now _ c.lock.ensures c.name.ensures c.lock_and_take_mode.ensures.own

pub returns-clause-gets : goal.returns-clause-gets
returns-clause-gets g c =
    along (λ (l n : List ℕ). OnOk c.lock_and_take_mode.result (GetsLock l (g.F.FileFolder.history c.args.folder.now) (g.F.FileFolder.history c.lock_and_take_mode.new.folder))) c.lock.result.now _ c.name.result.now _ c.lock.ensures c.name.ensures c.lock_and_take_mode.ensures.gets
