-- Spans without slices, or slices without spans.
use Rattle.std.proofs.Common.{subst}
use Rattle.query_eval.specs.Slices.{AreSliced}
use Rattle.query_eval.proofs.SliceLemmas.{slices_alone, spans_alone}
use Rattle.query_eval.proofs.grouping.slices.slice_rows.Goals as goal

pub returns-then-count-le-MOST_RUNS-clause-sliced : goal.returns-then-count-le-MOST_RUNS-clause-sliced
returns-then-count-le-MOST_RUNS-clause-sliced c = λ by v shown h.
    subst (AreSliced by v c.args.mask.now c.in_ok-left.left c.args.places.now.index.entries c.slice_runs.new.places.index.entries) (spans_alone c.args.mask.now c.slice_runs.new.spans.items c.clear.new.self.items c.clear.ensures.items) (c.in_ok-left.ensures.spanned by v shown h)

pub returns-clause-sliced : goal.returns-clause-sliced
returns-clause-sliced c = λ by v shown h.
    subst (AreSliced by v c.args.mask.now c.in_ok-left-2.left c.args.places.now.index.entries c.slice_keys.new.places.index.entries) (slices_alone c.args.mask.now c.clear-2.new.self.items c.slice_keys.new.slices.items c.clear-2.ensures.items) (c.in_ok-left-2.ensures.sliced by v shown h)
