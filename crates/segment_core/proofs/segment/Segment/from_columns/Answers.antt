use Rattle.std.proofs.Common.{refl}
use Rattle.segment_core.specs.Segment.{batch_of}
use Rattle.segment_core.proofs.ValidLemmas.{has_bytes}
use Rattle.segment_core.proofs.segment.Segment.from_columns.Goals as goal

pub returns-clause-valid : goal.returns-clause-valid
returns-clause-valid c = λ table widths.
    has_bytes (record { rows = batch_of c.args.rows c.args.columns.items; forms = c.args.columns.items }) c.args.rows table c.requires refl widths
