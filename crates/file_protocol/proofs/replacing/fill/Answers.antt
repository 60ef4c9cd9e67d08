use Rattle.std.proofs.Common.{refl, []}
use Rattle.file_protocol.specs.Phase.{Holding}
use Rattle.file_protocol.specs.Owning.{OwnLock}
use Rattle.file_protocol.proofs.Steps.{starts, stays, goes_on, joins, back, joins_back, on_err, ends_ok, ends_err}
use Rattle.file_protocol.proofs.Owning.{owns_one, owns_more, owns_still, then_owns}
use Rattle.file_protocol.proofs.Failing.{fails_now, fails_later, ends_failed}
use Rattle.file_protocol.proofs.replacing.fill.Goals as goal

pub returns-in_err-open_folder-clause-err : goal.returns-in_err-open_folder-clause-err
returns-in_err-open_folder-clause-err g c =
    let first = goes_on c.args.lock.now c.args.name.now c.args.bytes.now _ _ _ _ _ _ Holding (starts _ _ _ _ Holding) c.in_err-open_folder.ensures refl in
    let all = back c.args.lock.now c.args.name.now c.args.bytes.now _ _ _ Holding first refl in
    on_err c.from_residual.result all

pub returns-in_err-open_folder-clause-cause : goal.returns-in_err-open_folder-clause-cause
returns-in_err-open_folder-clause-cause g c =
    on_err c.from_residual.result (fails_now _ _ _ c.in_err-open_folder.ensures refl)

pub returns-in_err-empty-clause-err : goal.returns-in_err-empty-clause-err
returns-in_err-empty-clause-err g c =
    let first = goes_on c.args.lock.now c.args.name.now c.args.bytes.now _ _ _ _ _ _ Holding (stays _ _ _ _ _ Holding c.in_ok-open_folder.ensures) c.in_err-empty.ensures refl in
    let all = back c.args.lock.now c.args.name.now c.args.bytes.now _ _ _ Holding first refl in
    on_err c.from_residual-in_err-empty.result all

pub returns-in_err-empty-clause-cause : goal.returns-in_err-empty-clause-cause
returns-in_err-empty-clause-cause g c =
    on_err c.from_residual-in_err-empty.result (fails_later _ _ _ [] c.in_ok-open_folder.ensures (fails_now _ _ _ c.in_err-empty.ensures refl))

pub returns-in_err-write_all-clause-err : goal.returns-in_err-write_all-clause-err
returns-in_err-write_all-clause-err g c =
    let first = goes_on c.args.lock.now c.args.name.now c.args.bytes.now _ _ _ _ _ _ _ (stays _ _ _ _ _ Holding c.in_ok-open_folder.ensures) c.in_ok-empty.ensures refl in
    let all = joins_back c.args.lock.now c.args.name.now c.args.bytes.now _ _ _ _ _ first c.in_err-write_all.ensures.err in
    on_err _ all

pub returns-in_err-write_all-clause-cause : goal.returns-in_err-write_all-clause-cause
returns-in_err-write_all-clause-cause g c =
    let first = goes_on c.args.lock.now c.args.name.now c.args.bytes.now _ _ _ _ _ _ _ (stays _ _ _ _ _ Holding c.in_ok-open_folder.ensures) c.in_ok-empty.ensures refl in
    on_err _ (fails_later _ _ _ first.0 first.1 c.in_err-write_all.ensures.cause)

pub returns-clause-ok : goal.returns-clause-ok
returns-clause-ok g c =
    let first = goes_on c.args.lock.now c.args.name.now c.args.bytes.now _ _ _ _ _ _ _ (stays _ _ _ _ _ Holding c.in_ok-open_folder.ensures) c.in_ok-empty.ensures refl in
    let second = joins c.args.lock.now c.args.name.now c.args.bytes.now _ _ _ _ _ _ first c.in_ok-write_all.ensures.ok in
    ends_ok c.args.lock.now c.args.name.now c.args.bytes.now c.sync.result _ _ _ _ _ second c.sync.ensures

pub returns-clause-err : goal.returns-clause-err
returns-clause-err g c =
    let first = goes_on c.args.lock.now c.args.name.now c.args.bytes.now _ _ _ _ _ _ _ (stays _ _ _ _ _ Holding c.in_ok-open_folder.ensures) c.in_ok-empty.ensures refl in
    let second = joins c.args.lock.now c.args.name.now c.args.bytes.now _ _ _ _ _ _ first c.in_ok-write_all.ensures.ok in
    ends_err c.args.lock.now c.args.name.now c.args.bytes.now c.sync.result _ _ _ _ _ second c.sync.ensures

pub returns-clause-cause : goal.returns-clause-cause
returns-clause-cause g c =
    let first = goes_on c.args.lock.now c.args.name.now c.args.bytes.now _ _ _ _ _ _ _ (stays _ _ _ _ _ Holding c.in_ok-open_folder.ensures) c.in_ok-empty.ensures refl in
    let second = joins c.args.lock.now c.args.name.now c.args.bytes.now _ _ _ _ _ _ first c.in_ok-write_all.ensures.ok in
    ends_failed c.sync.result _ _ _ second.0 second.1 c.sync.ensures

pub returns-in_err-open_folder-clause-own : goal.returns-in_err-open_folder-clause-own
returns-in_err-open_folder-clause-own g c = owns_one c.args.lock.now _ _ _ OwnLock c.in_err-open_folder.ensures tt

pub returns-in_err-empty-clause-own : goal.returns-in_err-empty-clause-own
returns-in_err-empty-clause-own g c = owns_more c.args.lock.now _ _ _ _ _ _ (owns_still c.args.lock.now _ _ c.in_ok-open_folder.ensures) c.in_err-empty.ensures refl

pub returns-in_err-write_all-clause-own : goal.returns-in_err-write_all-clause-own
returns-in_err-write_all-clause-own g c =
    let first = owns_more c.args.lock.now _ _ _ _ _ _ (owns_still c.args.lock.now _ _ c.in_ok-open_folder.ensures) c.in_ok-empty.ensures refl in
    then_owns c.args.lock.now _ _ _ _ _ _ first c.in_err-write_all.ensures.own

pub returns-clause-own : goal.returns-clause-own
returns-clause-own g c =
    let first = owns_more c.args.lock.now _ _ _ _ _ _ (owns_still c.args.lock.now _ _ c.in_ok-open_folder.ensures) c.in_ok-empty.ensures refl in
    owns_more c.args.lock.now _ _ _ _ _ _ (then_owns c.args.lock.now _ _ _ _ _ _ first c.in_ok-write_all.ensures.own) c.sync.ensures refl
