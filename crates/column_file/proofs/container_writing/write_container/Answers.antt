use Rattle.std.proofs.Common.{◌++◌, map, codes}
use Rattle.std.proofs.lemmas.Result.{err_from_is_err_and}
use Rattle.column_file.specs.SummaryBytes.{head}
use Rattle.column_file.specs.ContainerBytes.{entry_of, deleted_of, batches, ranges}
use Rattle.column_file.proofs.ContainerWriting.{container_spelled}
use Rattle.column_file.proofs.HasFiles.{always}
use Rattle.segment_core.proofs.Writings.{writes_both, writes_front}
use Rattle.column_file.proofs.container_writing.write_container.Goals as goal

pub returns-in_err-write_head-clause-bytes : goal.returns-in_err-write_head-clause-bytes
returns-in_err-write_head-clause-bytes g c =
    let p = err_from_is_err_and c.from_residual.result c.from_residual.ensures.1 in
    let e = c.in_err-write_head.ensures.bytes in
    rw (container_spelled c.args.schema.now (map entry_of c.args.entries.now) (map deleted_of c.args.deleted.now))
    (writes_front c.from_residual.result c.in_err-write_head.field-0.0 (g.W.Write.contents c.args.writer.now.0) (g.W.Write.contents c.write_head.new.writer.0) c.args.writer.now.1 c.write_head.new.writer.1 ((head (codes "FLCF")).spell c.args.schema.now) (((batches c.args.schema.now).spell (map entry_of c.args.entries.now)) ++ (ranges.spell (map deleted_of c.args.deleted.now))) (rw (← p.2) p.1) e)

pub returns-in_err-write_batches-clause-bytes : goal.returns-in_err-write_batches-clause-bytes
returns-in_err-write_batches-clause-bytes g c =
    let p = err_from_is_err_and c.from_residual-in_err-write_batches.result c.from_residual-in_err-write_batches.ensures.1 in
    let h0 = c.in_ok-write_head.ensures.bytes in
    let e = c.in_err-write_batches.ensures.bytes c.args.schema.now c.requires.stored in
    rw (container_spelled c.args.schema.now (map entry_of c.args.entries.now) (map deleted_of c.args.deleted.now))
    (writes_both c.from_residual-in_err-write_batches.result (g.W.Write.contents c.args.writer.now.0) (g.W.Write.contents c.write_head.new.writer.0) (g.W.Write.contents c.write_batches.new.writer.0) c.args.writer.now.1 c.write_head.new.writer.1 c.write_batches.new.writer.1 ((head (codes "FLCF")).spell c.args.schema.now) (((batches c.args.schema.now).spell (map entry_of c.args.entries.now)) ++ (ranges.spell (map deleted_of c.args.deleted.now))) h0.0 h0.1
    (writes_front c.from_residual-in_err-write_batches.result c.in_err-write_batches.field-0.0 (g.W.Write.contents c.write_head.new.writer.0) (g.W.Write.contents c.write_batches.new.writer.0) c.write_head.new.writer.1 c.write_batches.new.writer.1 ((batches c.args.schema.now).spell (map entry_of c.args.entries.now)) (ranges.spell (map deleted_of c.args.deleted.now)) (rw (← p.2) p.1) e))

pub returns-clause-bytes : goal.returns-clause-bytes
returns-clause-bytes g c =
    let h0 = c.in_ok-write_head.ensures.bytes in
    let h1 = c.in_ok-write_batches.ensures.bytes c.args.schema.now c.requires.stored in
    let l = c.write_ranges.ensures in
    rw (container_spelled c.args.schema.now (map entry_of c.args.entries.now) (map deleted_of c.args.deleted.now))
    (writes_both c.write_ranges.result (g.W.Write.contents c.args.writer.now.0) (g.W.Write.contents c.write_head.new.writer.0) (g.W.Write.contents c.write_ranges.new.writer.0) c.args.writer.now.1 c.write_head.new.writer.1 c.write_ranges.new.writer.1 ((head (codes "FLCF")).spell c.args.schema.now) (((batches c.args.schema.now).spell (map entry_of c.args.entries.now)) ++ (ranges.spell (map deleted_of c.args.deleted.now))) h0.0 h0.1
    (writes_both c.write_ranges.result (g.W.Write.contents c.write_head.new.writer.0) (g.W.Write.contents c.write_batches.new.writer.0) (g.W.Write.contents c.write_ranges.new.writer.0) c.write_head.new.writer.1 c.write_batches.new.writer.1 c.write_ranges.new.writer.1 ((batches c.args.schema.now).spell (map entry_of c.args.entries.now)) (ranges.spell (map deleted_of c.args.deleted.now)) h1.0 h1.1
    l))

pub returns-clause-again : goal.returns-clause-again
returns-clause-again g c = always c.write_ranges.result (c.in_ok-write_batches.ensures.again c.args.schema.now c.requires.stored)
