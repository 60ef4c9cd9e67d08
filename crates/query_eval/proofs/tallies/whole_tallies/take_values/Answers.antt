-- The values' number and sum, or each of them, more.
use Rattle.std.proofs.Common.{rules, FitsSigned, List, ℤ, sym, ap, subst, ◌∙◌, ◌++◌}
use Rattle.std.specs.Int.{w128}
use Rattle.std.proofs.lemmas.Int.{to_z-of_z}
use Rattle.query_eval.specs.Tally.{IsTally}
use Rattle.query_eval.specs.Vector.{vector_at, looked_at}
use Rattle.table_model.specs.declared.extreme.Extreme.TheVariants.{Least, Greatest}
use Rattle.query_eval.specs.declared.tallies.tally.TallyKind.TheVariants as kinds
use Rattle.query_eval.proofs.DistinctLemmas.{decoded-values}
use Rattle.query_eval.proofs.tallies.whole_tallies.take_values.Goals as goal

pub returns-in-Sum-clause-values : goal.returns-in-Sum-clause-values
returns-in-Sum-clause-values g c = λ before h.
    let v = vector_at (g.C.Columns.seen c.args.columns.now).state c.args.kept.now.id.batch c.args.kept.now.id.vector in
    let fits : FitsSigned w128 c.sum-sum.result = search rules in
    c.sum_more.ensures.values before (looked_at v c.args.column c.args.kept.now.rows) (sym c.kind.ensures ∙ c.in-Sum.is) c.count-count.ensures (to_z-of_z w128 _ fits ∙ c.sum-sum.ensures.value) h

pub returns-in_ok-add_rows-in-Distinct-clause-values : goal.returns-in_ok-add_rows-in-Distinct-clause-values
returns-in_ok-add_rows-in-Distinct-clause-values g c = λ before h.
    let v = vector_at (g.C.Columns.seen c.args.columns.now).state c.args.kept.now.id.batch c.args.kept.now.id.vector in
    let decoded = decoded-values v c.args.column c.args.kept.now.rows c.nulls-nulls.result c.and_not-rows.result c.decode_into.new.values c.nulls-nulls.ensures c.and_not-rows.ensures c.decode_into.ensures.values in
    subst (λ (zs : List ℤ). IsTally (before ++ zs) c.add_rows.new.self) decoded (c.in_ok-add_rows-in-Distinct.ensures.values before h)

pub returns-in-Extreme-Least-clause-values : goal.returns-in-Extreme-Least-clause-values
returns-in-Extreme-Least-clause-values g c = λ before h.
    let v = vector_at (g.C.Columns.seen c.args.columns.now).state c.args.kept.now.id.batch c.args.kept.now.id.vector in
    c.extreme_more.ensures.values Least before (looked_at v c.args.column c.args.kept.now.rows) (sym c.kind.ensures ∙ c.in-Extreme-Least.is ∙ ap kinds.Extreme c.in-Extreme-Least.field-0-is) c.min.ensures.value h

pub returns-in-Extreme-Greatest-clause-values : goal.returns-in-Extreme-Greatest-clause-values
returns-in-Extreme-Greatest-clause-values g c = λ before h.
    let v = vector_at (g.C.Columns.seen c.args.columns.now).state c.args.kept.now.id.batch c.args.kept.now.id.vector in
    c.extreme_more-in-Extreme-Greatest.ensures.values Greatest before (looked_at v c.args.column c.args.kept.now.rows) (sym c.kind.ensures ∙ c.in-Extreme-Greatest.is ∙ ap kinds.Extreme c.in-Extreme-Greatest.field-0-is) c.max.ensures.value h
