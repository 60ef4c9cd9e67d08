-- Each kept row is in a span.
use Rattle.std.proofs.Common.{refl, subst, sym, ap, ◌∙◌, Bool, List, false}
use Rattle.transpose_order.specs.Mask.{has}
use Rattle.transpose_order.specs.MaskWords.{has-rows_of}
use Rattle.query_eval.specs.Slices.{AreSliced, slices_of_spans}
use Rattle.query_eval.proofs.SliceLemmas.{not_by_code, spans_alone, split_whole}
use Rattle.query_eval.proofs.grouping.split.Split.by_runs.Goals as goal

pub returns-clause-codes : goal.returns-clause-codes
returns-clause-codes c = not_by_code _ refl

pub returns-clause-placed : goal.returns-clause-placed
returns-clause-placed c = λ by v shown h.
    let kept = c.args.self.now.kept in
    let spans = c.span_runs.new.spans.items in
    split_whole by v kept c.args.places.now.index.entries c.span_runs.new.places.index.entries _
    (subst (AreSliced by v kept c.none-self.result c.args.places.now.index.entries c.span_runs.new.places.index.entries) (spans_alone kept spans c.clear.new.self.items c.clear.ensures.items)
    (subst (λ (left : List Bool). AreSliced by v kept left c.args.places.now.index.entries c.span_runs.new.places.index.entries (slices_of_spans kept spans)) (sym c.none-self.ensures) (c.in_ok-span_runs.ensures.spanned by v shown h)))
    (λ n l. ap (λ m. has m n) c.none-self.ensures ∙ has-rows_of (λ _. false) n l)
