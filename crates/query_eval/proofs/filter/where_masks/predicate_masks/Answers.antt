-- Each kind of predicate by its masks.
use Rattle.std.proofs.Common.{sym, subst, arith}
use Rattle.table_model.specs.Condition.{predicate_truth}
use Rattle.table_model.specs.Meaning.{at_row}
use Rattle.table_model.specs.declared.query.Predicate.{Predicate}
use Rattle.query_eval.specs.Vector.{row_at, vector_at}
use Rattle.query_eval.specs.Where.{IsPair}
use Rattle.query_eval.proofs.PairLemmas.{pair_nowhere}
use Rattle.query_eval.proofs.filter.where_masks.predicate_masks.Goals as goal

pub returns-then-next_true-eq1024-clause-value : goal.returns-then-next_true-eq1024-clause-value
returns-then-next_true-eq1024-clause-value g c =
    pair_nowhere c.args.mask.now _ _ c.everywhere.result (λ n h. c.next_true.ensures.none n (omega arith) (omega (arith, h, c.if-next_true-eq1024.true))) c.everywhere.ensures

pub returns-in-Between-clause-value : goal.returns-in-Between-clause-value
returns-in-Between-clause-value g c =
    let v = vector_at (g.C.Columns.seen c.args.columns.now).state c.args.id.batch c.args.id.vector in
    subst (λ (p : Predicate). IsPair c.args.mask.now (λ n. predicate_truth (at_row (g.C.Columns.seen c.args.columns.now).table.columns (row_at v n)) p) c.not_if.result) (sym c.in-Between.is) (c.not_if.ensures c.args.mask.now _ c.between_operands.ensures.value)

pub returns-in-In-clause-value : goal.returns-in-In-clause-value
returns-in-In-clause-value g c =
    let v = vector_at (g.C.Columns.seen c.args.columns.now).state c.args.id.batch c.args.id.vector in
    subst (λ (p : Predicate). IsPair c.args.mask.now (λ n. predicate_truth (at_row (g.C.Columns.seen c.args.columns.now).table.columns (row_at v n)) p) c.not_if-in-In.result) (sym c.in-In.is) (c.not_if-in-In.ensures c.args.mask.now _ c.among_operand.ensures.value)

pub returns-in-IsNull-clause-value : goal.returns-in-IsNull-clause-value
returns-in-IsNull-clause-value g c =
    let v = vector_at (g.C.Columns.seen c.args.columns.now).state c.args.id.batch c.args.id.vector in
    subst (λ (p : Predicate). IsPair c.args.mask.now (λ n. predicate_truth (at_row (g.C.Columns.seen c.args.columns.now).table.columns (row_at v n)) p) c.not_if-in-IsNull.result) (sym c.in-IsNull.is) (c.not_if-in-IsNull.ensures c.args.mask.now _ c.null_operand.ensures)
