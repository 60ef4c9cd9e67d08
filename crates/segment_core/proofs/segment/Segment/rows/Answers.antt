-- The view has as many rows as are counted.
use Rattle.std.proofs.Common.{◌≡◌, refl, sym, ◌∙◌, ap, length, subst}
use Rattle.segment_core.specs.Segment.{SegmentForm, batch_of, widths_of, widths_in}
use Rattle.segment_core.specs.SegmentBytes.{HasBytesIn}
use Rattle.segment_core.proofs.SegmentLemmas.{length-batch_of}
use Rattle.segment_core.proofs.ValidLemmas.{has_bytes}
use Rattle.segment_core.proofs.segment.Segment.rows.Goals as goal

pub returns-clause-count : goal.returns-clause-count
returns-clause-count c = sym (ap (λ s. length s.rows) (sym c.self.view_is) ∙ length-batch_of c.self.inside.rows c.self.inside.columns.items)

pub returns-clause-valid : goal.returns-clause-valid
returns-clause-valid c = λ table.
    subst (λ (s : SegmentForm). widths_in s.forms ≡ widths_of table → HasBytesIn table s) c.self.view_is
    (has_bytes (record { rows = batch_of c.self.inside.rows c.self.inside.columns.items; forms = c.self.inside.columns.items }) c.self.inside.rows table c.self.invariant.segment refl)
