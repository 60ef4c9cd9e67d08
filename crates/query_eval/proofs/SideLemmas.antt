-- Operands compared by their sides.
use Rattle.std.proofs.Common.{ℕ, Bool, List, sym, ap, ◌∙◌}
use Rattle.table_model.proofs.Predicates.{cells_compared}
use Rattle.table_model.specs.Answer.{whole}
use Rattle.table_model.specs.Condition.{is_null, field_comparison}
use Rattle.table_model.specs.State.{State}
use Rattle.table_model.specs.Table.{Table}
use Rattle.table_model.specs.Truth.{comparison, truth_of}
use Rattle.table_model.specs.declared.op.Op.{Op}
use Rattle.table_model.specs.declared.query.Operand.{Operand}
use Rattle.query_eval.specs.Side.{side_at, StandsFor}
use Rattle.query_eval.specs.Vector.{IsThere, vector_at}
use Rattle.query_eval.specs.Where.{IsPair, operand_at}
use Rattle.query_eval.specs.declared.filter.pair.Pair.{Pair}
use Rattle.query_eval.specs.declared.filter.side.Side.{Side}
use Rattle.query_eval.proofs.PairLemmas.{pair_like}

pub operands_compared : (table : Table) (s : State) (batch vector : ℕ) (left right : Operand) (a b : Side) (op : Op) (mask : List Bool) (c : Pair) → IsThere s batch vector → StandsFor table s left a → StandsFor table s right b → IsPair mask (λ n. comparison op (side_at (vector_at s batch vector) a n) (side_at (vector_at s batch vector) b n)) c → IsPair mask (λ n. field_comparison op (operand_at table (vector_at s batch vector) left n) (operand_at table (vector_at s batch vector) right n)) c
operands_compared table s batch vector left right a b op mask c there l r p =
    let v = vector_at s batch vector in
    pair_like mask (λ n. comparison op (side_at v a n) (side_at v b n)) (λ n. field_comparison op (operand_at table v left n) (operand_at table v right n)) c (λ n. sym (ap (λ x. field_comparison op x (operand_at table v right n)) (l batch vector n there) ∙ ap (λ y. field_comparison op (whole (side_at v a n)) y) (r batch vector n there) ∙ cells_compared op (side_at v a n) (side_at v b n))) p

pub operand_null : (table : Table) (s : State) (batch vector : ℕ) (operand : Operand) (a : Side) (mask : List Bool) (c : Pair) → IsThere s batch vector → StandsFor table s operand a → IsPair mask (λ n. truth_of (is_null (whole (side_at (vector_at s batch vector) a n)))) c → IsPair mask (λ n. truth_of (is_null (operand_at table (vector_at s batch vector) operand n))) c
operand_null table s batch vector operand a mask c there l p =
    let v = vector_at s batch vector in
    pair_like mask (λ n. truth_of (is_null (whole (side_at v a n)))) (λ n. truth_of (is_null (operand_at table v operand n))) c (λ n. ap (λ x. truth_of (is_null x)) (sym (l batch vector n there))) p
