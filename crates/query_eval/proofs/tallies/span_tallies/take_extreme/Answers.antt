-- The extreme reaches the bound, or the span's is taken in.
use Rattle.std.proofs.Common.{rules, ◌≤ℤ◌, FitsSigned, w64, map, List, ℤ, sym, subst}
use Rattle.std.proofs.lemmas.Int.{to_z-of_z}
use Rattle.table_model.specs.Extreme.{turned}
use Rattle.query_eval.specs.Forms.{top_of}
use Rattle.query_eval.specs.Slices.{rows_between, values_at}
use Rattle.query_eval.proofs.SpanTallyLemmas.{bounded_span}
use Rattle.query_eval.proofs.tallies.span_tallies.take_extreme.Goals as goal

pub returns-then-reaches-clause-values : goal.returns-then-reaches-clause-values
returns-then-reaches-clause-values c = λ values are.
    let rows = c.args.rows.now in
    let span = c.args.span in
    let added : List ℤ = values_at (rows_between rows span.first span.end) values in
    let fit : FitsSigned w64 c.args.bound = search rules in
    c.reaches.ensures c.args.extreme added c.if-reaches.true
    (subst (λ (b : ℤ). top_of (map (turned c.args.extreme) added) ≤ℤ b) (sym (to_z-of_z w64 c.args.bound fit))
    (bounded_span c.args.extreme rows values c.args.shown.now are span.first span.end c.requires.within c.requires.order c.args.bound fit c.requires.bound))

pub returns-clause-values : goal.returns-clause-values
returns-clause-values c = λ values are. c.extreme_more.ensures.values c.args.extreme (values_at (rows_between c.args.rows.now c.args.span.first c.args.span.end) values) (c.extreme_between-value.ensures values are)
