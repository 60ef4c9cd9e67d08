-- The first file is read, the others are merged into it, and the whole is written.
use Rattle.std.proofs.Common.{arith}
use Rattle.std.proofs.lemmas.Result.{err_from_is_err_and}
use Rattle.replica_store.specs.Segments.{StoreForm}
use Rattle.replica_changes.proofs.FileMerges.{merge_written}
use Rattle.replica_changes.proofs.ReadersInTurn.{first_unread, others_unmerged, all_then_written}
use Rattle.replica_changes.proofs.merging.merge.Goals as goal

pub returns-in_err-store-clause-ends : goal.returns-in_err-store-clause-ends
returns-in_err-store-clause-ends g c =
    let p = err_from_is_err_and c.from_residual.result c.from_residual.ensures.1 in
    rw (p.1, p.2) (first_unread g.R.Read.remaining g.W.Write.contents c.args.first.now c.open.new.reader c.args.others.now c.args.writer.now c.in_err-store.field-0.0 (c.in_err-store.ensures.reads (omega arith)))

pub returns-in_err-whole-clause-ends : goal.returns-in_err-whole-clause-ends
returns-in_err-whole-clause-ends g c =
    let p = err_from_is_err_and c.from_residual-in_err-whole.result c.from_residual-in_err-whole.ensures.1 in
    rw (p.1, p.2) (others_unmerged g.R.Read.remaining g.W.Write.contents c.args.first.now c.open.new.reader c.args.others.now c.merge_others.new.readers c.args.writer.now c.in_err-whole.field-0.0
    (c.in_ok-store.ensures.reads (omega arith)) c.in_err-whole.ensures.listed c.in_err-whole.ensures.in_turn)

pub returns-clause-made : goal.returns-clause-made
returns-clause-made g c = λ input inputs is known.
    merge_written (λ (store : StoreForm). store.replica) c.in_ok-store.store c.in_ok-whole.whole c.write_changed.result (g.R.Read.remaining c.args.first.now.0) (g.W.Write.contents c.args.writer.now.0) (g.W.Write.contents c.write_changed.new.writer.0) input inputs
    is c.in_ok-store.ensures.read (c.in_ok-whole.ensures.merged inputs known) c.write_changed.ensures.put

pub returns-clause-ends : goal.returns-clause-ends
returns-clause-ends g c =
    all_then_written g.R.Read.remaining g.W.Write.contents c.args.first.now c.open.new.reader c.args.others.now c.merge_others.new.readers c.args.writer.now c.write_changed.new.writer c.in_ok-whole.whole.replica c.write_changed.result
    (c.in_ok-store.ensures.reads (omega arith)) c.in_ok-whole.ensures.read c.write_changed.ensures.put c.write_changed.ensures.kept c.write_changed.ensures.fault
