-- A read, and a sync of what was read.
use Rattle.std.proofs.Common.{refl}
use Rattle.folder_protocol.specs.Causes.{Fails}
use Rattle.folder_protocol.proofs.Causing.{follows_none, follows_on, has_now, on_err, sync_fails}
use Rattle.folder_protocol.proofs.Kept.{synced_now, gone_now, relied_now, missed_now}
use Rattle.folder_protocol.proofs.Lines.{starts, goes_on}
use Rattle.folder_protocol.proofs.ReadLines.{read_there, read_none}
use Rattle.folder_protocol.proofs.Linking.{plain_none, plain_on}
use Rattle.folder_protocol.proofs.keeping.keep_one.Goals as goal

pub returns-in_err-read_whole-clause-in_turn : goal.returns-in_err-read_whole-clause-in_turn
returns-in_err-read_whole-clause-in_turn g c = λ parts. goes_on parts _ _ _ _ (starts parts _) c.in_err-read_whole.ensures tt

pub returns-in_err-read_whole-clause-fails : goal.returns-in_err-read_whole-clause-fails
returns-in_err-read_whole-clause-fails g c = on_err c.from_residual.result (has_now Fails _ _ _ c.in_err-read_whole.ensures refl)

pub returns-in_err-read_whole-clause-plain : goal.returns-in_err-read_whole-clause-plain
returns-in_err-read_whole-clause-plain g c = plain_on _ _ _ _ (plain_none _) c.in_err-read_whole.ensures tt

pub returns-then-branch-clause-in_turn : goal.returns-then-branch-clause-in_turn
returns-then-branch-clause-in_turn g c = λ parts.
    let read = read_there c.args.name.now _ _ _ c.in_ok-read_whole.ensures c.if-branch.true in
    goes_on parts _ _ _ _ (goes_on parts _ _ _ _ (starts parts _) read.1 tt) c.sync.ensures tt

pub returns-then-branch-clause-synced : goal.returns-then-branch-clause-synced
returns-then-branch-clause-synced g c = λ parts.
    let read = read_there c.args.name.now _ _ _ c.in_ok-read_whole.ensures c.if-branch.true in
    synced_now c.sync.result parts c.args.name.now read.0 _ _ _ read.1 c.sync.ensures

pub returns-then-branch-clause-fails : goal.returns-then-branch-clause-fails
returns-then-branch-clause-fails g c =
    let read = read_there c.args.name.now _ _ _ c.in_ok-read_whole.ensures c.if-branch.true in
    sync_fails c.sync.result _ _ _ (follows_on _ _ _ _ (follows_none _) read.1) c.sync.ensures

pub returns-then-branch-clause-plain : goal.returns-then-branch-clause-plain
returns-then-branch-clause-plain g c =
    let read = read_there c.args.name.now _ _ _ c.in_ok-read_whole.ensures c.if-branch.true in
    plain_on _ _ _ _ (plain_on _ _ _ _ (plain_none _) read.1 tt) c.sync.ensures tt

pub returns-then-branch-clause-missed : goal.returns-then-branch-clause-missed
returns-then-branch-clause-missed g c = λ parts.
    let read = read_there c.args.name.now _ _ _ c.in_ok-read_whole.ensures c.if-branch.true in
    relied_now c.sync.result parts c.args.name.now read.0 _ _ _ read.1 c.sync.ensures

pub returns-else-branch-clause-in_turn : goal.returns-else-branch-clause-in_turn
returns-else-branch-clause-in_turn g c = λ parts. goes_on parts _ _ _ _ (starts parts _) (read_none c.args.name.now _ _ _ c.in_ok-read_whole.ensures c.if-branch.false) tt

pub returns-else-branch-clause-synced : goal.returns-else-branch-clause-synced
returns-else-branch-clause-synced g c = λ parts. gone_now parts c.args.name.now _ _ (read_none c.args.name.now _ _ _ c.in_ok-read_whole.ensures c.if-branch.false)

pub returns-else-branch-clause-plain : goal.returns-else-branch-clause-plain
returns-else-branch-clause-plain g c = plain_on _ _ _ _ (plain_none _) (read_none c.args.name.now _ _ _ c.in_ok-read_whole.ensures c.if-branch.false) tt

pub returns-else-branch-clause-missed : goal.returns-else-branch-clause-missed
returns-else-branch-clause-missed g c = λ parts. missed_now parts c.args.name.now _ _ (read_none c.args.name.now _ _ _ c.in_ok-read_whole.ensures c.if-branch.false)
