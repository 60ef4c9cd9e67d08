use Rattle.std.proofs.Common.{◌∙◌, length, sym, ap, subst}
use Rattle.segment_core.proofs.SegmentLemmas.{length-batch_of}
use Rattle.table_model.specs.State.{Batch}
use Rattle.table_model.specs.Table.{IsBatch}
use Rattle.column_file.proofs.FitLemmas.{segment_fits}
use Rattle.column_file.proofs.container_reading.read_segment.Goals as goal

pub returns-clause-count : goal.returns-clause-count
returns-clause-count c = ap length c.in_ok-segment.ensures.rows ∙ length-batch_of c.args.rows c.in_ok-segment.segment.forms

pub returns-clause-fits : goal.returns-clause-fits
returns-clause-fits c =
    let P : Batch → Type 0 = λ rows. IsBatch c.args.schema.now rows in
    subst P (sym c.keeps_its_vectors.ensures.rows) (segment_fits c.args.schema.now (length c.in_ok-segment.segment.rows) c.in_ok-segment.segment.forms c.keeps_its_vectors.ensures.form c.in_ok-segment.ensures.widths)
