use Rattle.std.proofs.Common.{refl, ap, ◌∙◌, true, false, ◌∷◌}
use Rattle.file_protocol.specs.Event.{Compared}
use Rattle.file_protocol.specs.Phase.{Ready, InPlace, Unsure, Back, GoneUnsure}
use Rattle.std.specs.Result.{is_ok}
use Rattle.file_protocol.proofs.Steps.{starts, goes_on, renames, removes, compares, gone_unsure_in_turn, unsure_in_turn}
use Rattle.file_protocol.proofs.NoLock.{no_lock}
use Rattle.file_protocol.proofs.Owning.{renames_own, takes_back, lets_go}
use Rattle.file_protocol.proofs.Failing.{fails_now, failed_before}
use Rattle.file_protocol.proofs.replacing.put.Goals as goal

pub returns-in-Ok-settle-clause-ok : goal.returns-in-Ok-settle-clause-ok
returns-in-Ok-settle-clause-ok g c =
    let first = goes_on c.args.lock.now c.args.name.now c.args.bytes.now _ _ _ _ _ _ InPlace (starts _ _ _ _ (Ready c.args.bytes.now)) c.in-Ok.ensures (renames c.args.lock.now c.args.name.now c.args.bytes.now true) in
    goes_on c.args.lock.now c.args.name.now c.args.bytes.now _ _ _ _ _ _ _ first c.in-Ok-settle.ensures refl

pub returns-in-Ok-settle-clause-no_lock : goal.returns-in-Ok-settle-clause-no_lock
returns-in-Ok-settle-clause-no_lock g c = no_lock c.args.lock.now c.args.name.now c.requires _ _ _ _ c.in-Ok.ensures c.in-Ok-settle.ensures

pub returns-in-Err-settle-clause-ok : goal.returns-in-Err-settle-clause-ok
returns-in-Err-settle-clause-ok g c =
    let first = goes_on c.args.lock.now c.args.name.now c.args.bytes.now _ _ _ _ _ _ InPlace (starts _ _ _ _ (Ready c.args.bytes.now)) c.in-Ok.ensures (renames c.args.lock.now c.args.name.now c.args.bytes.now true) in
    goes_on c.args.lock.now c.args.name.now c.args.bytes.now _ _ _ _ _ _ _ first c.in-Err-settle.ensures refl

pub returns-in-Err-settle-clause-no_lock : goal.returns-in-Err-settle-clause-no_lock
returns-in-Err-settle-clause-no_lock g c = no_lock c.args.lock.now c.args.name.now c.requires _ _ _ _ c.in-Ok.ensures c.in-Err-settle.ensures

pub returns-then-is_named-clause-err : goal.returns-then-is_named-clause-err
returns-then-is_named-clause-err g c =
    let first = goes_on c.args.lock.now c.args.name.now c.args.bytes.now _ _ _ _ _ _ Unsure (starts _ _ _ _ (Ready c.args.bytes.now)) c.in-Err.ensures (renames c.args.lock.now c.args.name.now c.args.bytes.now false) in
    let named = c.is_named.ensures ∙ ap (λ b. Compared c.args.lock.now b ∷ g.F.FileFolder.history c.rename.new.self) c.if-is_named.true in
    let second = goes_on c.args.lock.now c.args.name.now c.args.bytes.now _ _ _ _ _ _ Back first named (compares c.args.lock.now c.args.name.now c.args.bytes.now) in
    (GoneUnsure, goes_on c.args.lock.now c.args.name.now c.args.bytes.now _ _ _ _ _ _ _ second c.remove.ensures (removes c.args.lock.now c.args.name.now c.args.bytes.now (is_ok c.remove.result) Back), gone_unsure_in_turn)

pub returns-then-is_named-clause-cause : goal.returns-then-is_named-clause-cause
returns-then-is_named-clause-cause g c =
    failed_before _ _ _ _ c.remove.ensures (failed_before _ _ _ _ c.is_named.ensures (fails_now _ _ _ c.in-Err.ensures refl))

pub returns-else-is_named-clause-err : goal.returns-else-is_named-clause-err
returns-else-is_named-clause-err g c =
    let first = goes_on c.args.lock.now c.args.name.now c.args.bytes.now _ _ _ _ _ _ Unsure (starts _ _ _ _ (Ready c.args.bytes.now)) c.in-Err.ensures (renames c.args.lock.now c.args.name.now c.args.bytes.now false) in
    let named = c.is_named.ensures ∙ ap (λ b. Compared c.args.lock.now b ∷ g.F.FileFolder.history c.rename.new.self) c.if-is_named.false in
    (Unsure, goes_on c.args.lock.now c.args.name.now c.args.bytes.now _ _ _ _ _ _ Unsure first named refl, unsure_in_turn)

pub returns-else-is_named-clause-cause : goal.returns-else-is_named-clause-cause
returns-else-is_named-clause-cause g c =
    failed_before _ _ _ _ c.is_named.ensures (fails_now _ _ _ c.in-Err.ensures refl)

pub returns-in-Ok-settle-clause-own : goal.returns-in-Ok-settle-clause-own
returns-in-Ok-settle-clause-own g c = renames_own c.args.lock.now c.args.name.now _ _ _ _ _ c.in-Ok.ensures c.in-Ok-settle.ensures

pub returns-in-Err-settle-clause-own : goal.returns-in-Err-settle-clause-own
returns-in-Err-settle-clause-own g c = renames_own c.args.lock.now c.args.name.now _ _ _ _ _ c.in-Ok.ensures c.in-Err-settle.ensures

pub returns-then-is_named-clause-own : goal.returns-then-is_named-clause-own
returns-then-is_named-clause-own g c = takes_back c.args.lock.now c.args.name.now _ _ _ _ _ _ _ c.in-Err.ensures c.is_named.ensures c.remove.ensures c.if-is_named.true

pub returns-else-is_named-clause-own : goal.returns-else-is_named-clause-own
returns-else-is_named-clause-own g c = lets_go c.args.lock.now c.args.name.now _ _ _ _ _ c.in-Err.ensures c.is_named.ensures c.if-is_named.false
