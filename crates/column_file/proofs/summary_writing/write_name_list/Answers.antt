use Rattle.std.proofs.Common.{◌∙◌, List, [], take, refl, ap, subst}
use Rattle.std.specs.Io.KnownBytes.{Appends}
use Rattle.std.proofs.lemmas.List.{take_all}
use Rattle.std.proofs.lemmas.Result.{err_from_is_err_and}
use Rattle.table_model.specs.Name.{name_cmp}
use Rattle.table_model.specs.declared.names.BatchName.{BatchName}
use Rattle.catalogue_join.specs.Run.{names_listed}
use Rattle.catalogue_join.proofs.NameLists.{no_run}
use Rattle.catalogue_join.proofs.SortedLists.{only_list}
use Rattle.segment_core.specs.Format.{Writes}
use Rattle.segment_core.proofs.Writings.{appends_none, spell_all-nil}
use Rattle.column_file.specs.Ordered.{in_order}
use Rattle.column_file.specs.SummaryBytes.{batch_name}
use Rattle.column_file.proofs.OrderedLists.{listed_names}
use Rattle.column_file.proofs.RunWriting.{name_bytes, run_done, run_fault}
use Rattle.column_file.proofs.SummaryAgain.{runs_are_numbered}
use Rattle.column_file.proofs.summary_writing.write_name_list.Goals as goal

pub loop-run-init : goal.loop-run-init
loop-run-init g c = record {
  written = rw (spell_all-nil {A = BatchName} batch_name []) (appends_none (g.W.Write.contents c.args.writer.now.0));
  kept = refl;
}

pub returns-in_err-write_run-clause-bytes : goal.returns-in_err-write_run-clause-bytes
returns-in_err-write_run-clause-bytes g c =
    let p = err_from_is_err_and c.from_residual.result c.from_residual.ensures.1 in
    let runs = c.runs-run-items.result.now in
    let i = c.loop-run.run-index in
    let held = c.args.held.now in
    let same = only_list held (names_listed runs) (in_order name_cmp held) c.runs-run-items.ensures.names (listed_names held) in
    let P : List BatchName → Type 0 = λ xs. Writes c.from_residual.result (g.W.Write.contents c.args.writer.now.0) (g.W.Write.contents c.write_run.new.writer.0) c.args.writer.now.1 c.write_run.new.writer.1 (name_bytes [] xs) in
    subst P same
    (run_fault runs i no_run c.from_residual.result c.in_err-write_run.field-0.0
    (g.W.Write.contents c.args.writer.now.0) (g.W.Write.contents c.loop-run.writer.0) (g.W.Write.contents c.write_run.new.writer.0) c.args.writer.now.1 c.loop-run.writer.1 c.write_run.new.writer.1
    c.loop-run-test.true (rw (← p.2) p.1) c.loop-run.invariant.written c.loop-run.invariant.kept (c.in_err-write_run.ensures (names_listed (take i runs))))

pub loop-run-preserved : goal.loop-run-preserved
loop-run-preserved g c =
    let runs = c.runs-run-items.result.now in
    let i = c.loop-run.run-index in
    let h = c.in_ok-write_run.ensures (names_listed (take i runs)) in
    record {
      written = run_done runs i no_run (g.W.Write.contents c.args.writer.now.0) (g.W.Write.contents c.loop-run.writer.0) (g.W.Write.contents c.write_run.new.writer.0) c.loop-run-test.true c.loop-run.invariant.written h.0;
      kept = h.1 ∙ c.loop-run.invariant.kept;
    }

pub returns-clause-bytes : goal.returns-clause-bytes
returns-clause-bytes g c =
    let runs = c.runs-run-items.result.now in
    let held = c.args.held.now in
    let all = ap names_listed (take_all c.loop-run.run-index runs c.loop-run-test.false) ∙ only_list held (names_listed runs) (in_order name_cmp held) c.runs-run-items.ensures.names (listed_names held) in
    let P : List BatchName → Type 0 = λ xs. Appends (g.W.Write.contents c.args.writer.now.0) (g.W.Write.contents c.loop-run.writer.0) (name_bytes [] xs) in
    (subst P all c.loop-run.invariant.written, c.loop-run.invariant.kept)

pub returns-in_err-write_run-clause-numbered : goal.returns-in_err-write_run-clause-numbered
returns-in_err-write_run-clause-numbered g c = runs_are_numbered c.args.held.now c.runs-run-items.result.now c.runs-run-items.ensures.maximal c.runs-run-items.ensures.names

pub returns-clause-numbered : goal.returns-clause-numbered
returns-clause-numbered g c = runs_are_numbered c.args.held.now c.runs-run-items.result.now c.runs-run-items.ensures.maximal c.runs-run-items.ensures.names
