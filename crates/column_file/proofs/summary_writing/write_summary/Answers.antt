use Rattle.std.proofs.Common.{IsTrue, codes, subst}
use Rattle.std.specs.FinSet as set
use Rattle.table_model.specs.Table.{Table, IsTable}
use Rattle.replica_store.specs.Exchange.{AreListable}
use Rattle.column_file.specs.Files.{IsNumbered}
use Rattle.column_file.proofs.HasFiles.{on_ok}
use Rattle.column_file.proofs.SummaryAgain.{summaries_are_read_again}
use Rattle.std.proofs.lemmas.Result.{err_from_is_err_and}
use Rattle.table_model.specs.Name.{name_cmp}
use Rattle.table_model.specs.declared.names.BatchName.{BatchName}
use Rattle.column_file.specs.Ordered.{in_order}
use Rattle.column_file.specs.SummaryBytes.{head, names}
use Rattle.column_file.proofs.SummaryWriting.{summary_spelled}
use Rattle.segment_core.proofs.Writings.{writes_both, writes_front}
use Rattle.column_file.proofs.summary_writing.write_summary.Goals as goal

pub returns-in_err-write_head-clause-written : goal.returns-in_err-write_head-clause-written
returns-in_err-write_head-clause-written g c =
    let p = err_from_is_err_and c.from_residual.result c.from_residual.ensures.1 in
    let e = rw c.schema.ensures at c.in_err-write_head.ensures.bytes in
    rw (summary_spelled c.args.summary.now.schema (in_order name_cmp c.args.summary.now.names))
    (writes_front c.from_residual.result c.in_err-write_head.field-0.0 (g.W.Write.contents c.args.writer.now.0) (g.W.Write.contents c.write_head.new.writer.0) c.args.writer.now.1 c.write_head.new.writer.1 ((head (codes "FLSM")).spell c.args.summary.now.schema) (names.spell (in_order name_cmp c.args.summary.now.names)) (rw (← p.2) p.1) e)

pub returns-clause-written : goal.returns-clause-written
returns-clause-written g c =
    let h0 = rw c.schema.ensures at c.in_ok-write_head.ensures.bytes in
    let l = rw c.names.ensures.value at c.write_names.ensures.bytes in
    rw (summary_spelled c.args.summary.now.schema (in_order name_cmp c.args.summary.now.names))
    (writes_both c.write_names.result (g.W.Write.contents c.args.writer.now.0) (g.W.Write.contents c.write_head.new.writer.0) (g.W.Write.contents c.write_names.new.writer.0) c.args.writer.now.1 c.write_head.new.writer.1 c.write_names.new.writer.1 ((head (codes "FLSM")).spell c.args.summary.now.schema) (names.spell (in_order name_cmp c.args.summary.now.names)) h0.0 h0.1
    l)

pub returns-clause-bytes : goal.returns-clause-bytes
returns-clause-bytes g c =
    let s = c.args.summary.now in
    let proper : IsTable s.schema = subst (λ (t : Table). IsTable t) c.schema.ensures c.in_ok-write_head.ensures.proper in
    let listable = subst (λ (held : set.FinSet name_cmp). AreListable held) c.names.ensures.value c.names.ensures.listable in
    on_ok c.write_names.result
    (λ (numbered : (name : BatchName) → IsTrue (set.contains c.names.result.now name) → IsNumbered name). record {
      schema = proper;
      listable = listable;
      numbered = subst (λ (held : set.FinSet name_cmp). (name : BatchName) → IsTrue (set.contains held name) → IsNumbered name) c.names.ensures.value numbered;
    })
    c.write_names.ensures.numbered

pub returns-clause-again : goal.returns-clause-again
returns-clause-again g c = on_ok c.write_names.result (summaries_are_read_again c.args.summary.now) (returns-clause-bytes g c)
