use Rattle.std.proofs.Common.{List, ℕ, OnOk, refl}
use Rattle.std.specs.Result.{is_ok}
use Rattle.file_protocol.specs.Event.{Removed}
use Rattle.file_protocol.specs.Owning.{GivesBack}
use Rattle.file_protocol.specs.Safe.{StaysOld, OnlyOurs, StaysKept}
use Rattle.file_protocol.specs.Whole.{StaysOnDisk}
use Rattle.file_protocol.proofs.KeepCalls.{more, kept_ok, failed_then}
use Rattle.file_protocol.proofs.Owning.{removes_own}
use Rattle.file_protocol.proofs.Locks.{keeps_old, keeps_kept, keeps_ours}
use Rattle.file_protocol.proofs.LongerNames.{longer_is_other, along}
use Rattle.file_protocol.proofs.keeping.keep.Goals as goal

pub returns-clause-on_disk : goal.returns-clause-on_disk
returns-clause-on_disk g c =
    let apart = longer_is_other _ _ _ _ c.args.place.now.longer c.lock.ensures c.name.ensures in
    along (λ (l n : List ℕ). OnOk c.sync_both-outcome.result (StaysOnDisk l n (g.F.FileFolder.history c.args.folder.now) (g.F.FileFolder.history c.remove.new.self))) c.lock.result.now _ c.name.result.now _ c.lock.ensures c.name.ensures
    (kept_ok c.lock.result.now c.name.result.now apart c.sync_both-outcome.result (is_ok c.remove.result) _ _ _ c.sync_both-outcome.ensures.synced c.remove.ensures)

pub returns-clause-any_moment : goal.returns-clause-any_moment
returns-clause-any_moment g c =
    let apart = longer_is_other _ _ _ _ c.args.place.now.longer c.lock.ensures c.name.ensures in
    along (λ (l n : List ℕ). StaysOld l n (g.F.FileFolder.history c.args.folder.now) (g.F.FileFolder.history c.remove.new.self)) c.lock.result.now _ c.name.result.now _ c.lock.ensures c.name.ensures
    (keeps_old c.lock.result.now c.name.result.now apart _ _ (more c.lock.result.now _ _ _ _ (c.sync_both-outcome.ensures.keeps c.lock.result.now) c.remove.ensures refl))

pub returns-clause-keeps : goal.returns-clause-keeps
returns-clause-keeps g c = more _ (Removed c.lock.result.now (is_ok c.remove.result)) _ _ _ (c.sync_both-outcome.ensures.keeps _) c.remove.ensures c.lock.ensures

pub returns-clause-ours : goal.returns-clause-ours
returns-clause-ours g c =
    let apart = longer_is_other _ _ _ _ c.args.place.now.longer c.lock.ensures c.name.ensures in
    along (λ (l n : List ℕ). OnlyOurs l n (g.F.FileFolder.history c.args.folder.now) (g.F.FileFolder.history c.remove.new.self)) c.lock.result.now _ c.name.result.now _ c.lock.ensures c.name.ensures
    (keeps_ours c.lock.result.now c.name.result.now apart _ _ (more c.lock.result.now _ _ _ _ (c.sync_both-outcome.ensures.keeps c.lock.result.now) c.remove.ensures refl))

pub returns-clause-kept : goal.returns-clause-kept
returns-clause-kept g c =
    let apart = longer_is_other _ _ _ _ c.args.place.now.longer c.lock.ensures c.name.ensures in
    along (λ (l n : List ℕ). StaysKept l n (g.F.FileFolder.history c.args.folder.now) (g.F.FileFolder.history c.remove.new.self)) c.lock.result.now _ c.name.result.now _ c.lock.ensures c.name.ensures
    (keeps_kept c.lock.result.now c.name.result.now apart _ _ (more c.lock.result.now _ _ _ _ (c.sync_both-outcome.ensures.keeps c.lock.result.now) c.remove.ensures refl))

pub returns-clause-cause : goal.returns-clause-cause
returns-clause-cause g c = failed_then c.sync_both-outcome.result _ _ _ _ c.remove.ensures c.sync_both-outcome.ensures.cause

pub returns-clause-own : goal.returns-clause-own
returns-clause-own g c =
    along (λ (l n : List ℕ). GivesBack l (g.F.FileFolder.history c.args.folder.now) (g.F.FileFolder.history c.remove.new.self)) c.lock.result.now _ c.name.result.now _ c.lock.ensures c.name.ensures
    (removes_own c.lock.result.now _ _ _ _ (c.sync_both-outcome.ensures.own c.lock.result.now) c.remove.ensures)
