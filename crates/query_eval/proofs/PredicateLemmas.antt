-- BETWEEN and IN of operands by their sides.
use Rattle.std.proofs.Common.{◌≡◌, ℕ, ◌<◌, Bool, ◌&&◌, List, ℤ, sym, ap, ◌∙◌}
use Rattle.table_model.proofs.Predicates.{cells_compared}
use Rattle.table_model.specs.Answer.{whole}
use Rattle.table_model.specs.Condition.{between, is_among, field_comparison}
use Rattle.table_model.specs.State.{State}
use Rattle.table_model.specs.Table.{Table}
use Rattle.table_model.specs.Truth.{and_of, comparison, is_true, is_false}
use Rattle.table_model.specs.declared.op.Op.TheVariants.{GreaterOrEqual, LessOrEqual}
use Rattle.table_model.specs.declared.query.Operand.{Operand}
use Rattle.table_model.specs.declared.truth.Truth.{Truth}
use Rattle.transpose_order.specs.Mask.{has}
use Rattle.query_eval.specs.Decoded.{decoded_at}
use Rattle.query_eval.specs.Pairs.{yes_of, no_of}
use Rattle.query_eval.specs.Side.{side_at, StandsFor}
use Rattle.query_eval.specs.Vector.{Vector, IsThere, vector_at}
use Rattle.query_eval.specs.Where.{IsPair, operand_at}
use Rattle.query_eval.specs.declared.filter.decoded.Decoded.{Decoded}
use Rattle.query_eval.specs.declared.filter.pair.Pair.{Pair}
use Rattle.query_eval.specs.declared.filter.side.Side.{Side}
use Rattle.query_eval.proofs.DecodedLemmas.{between_same}
use Rattle.query_eval.proofs.PairLemmas.{pair_like, is_yes, is_no}

-- truth values that are alike at each of the 1024 rows
pub pair_alike : (mask : List Bool) (s t : ℕ → Truth) (c : Pair) → ((n : ℕ) → n < 1024 → s n ≡ t n) → IsPair mask s c → IsPair mask t c
unfolding yes_of no_of
pair_alike mask s t c h p = record {
  yes = p.yes ∙ is_yes mask t _ (λ n l. ap (λ x. has mask n && is_true x) (h n l));
  no = p.no ∙ is_no mask t _ (λ n l. ap (λ x. has mask n && is_false x) (h n l));
}

pub decoded_between : (v w y : Vector) (a b d : Side) (x l k : Decoded) (mask : List Bool) (c : Pair) → ((n : ℕ) → n < 1024 → decoded_at x n ≡ side_at v a n) → ((n : ℕ) → n < 1024 → decoded_at l n ≡ side_at w b n) → ((n : ℕ) → n < 1024 → decoded_at k n ≡ side_at y d n) → w ≡ v → y ≡ v → IsPair mask (λ n. and_of (comparison GreaterOrEqual (decoded_at x n) (decoded_at l n)) (comparison LessOrEqual (decoded_at x n) (decoded_at k n))) c → IsPair mask (λ n. and_of (comparison GreaterOrEqual (side_at v a n) (side_at v b n)) (comparison LessOrEqual (side_at v a n) (side_at v d n))) c
decoded_between v w y a b d x l k mask c e f g same also p =
    pair_alike mask _ (λ n. and_of (comparison GreaterOrEqual (side_at v a n) (side_at v b n)) (comparison LessOrEqual (side_at v a n) (side_at v d n))) c
    (λ n h. between_same _ _ _ _ _ _ (e n h) (f n h ∙ ap (λ (u : Vector). side_at u b n) same) (g n h ∙ ap (λ (u : Vector). side_at u d n) also)) p

pub operands_between : (table : Table) (s : State) (batch vector : ℕ) (x l k : Operand) (a b d : Side) (mask : List Bool) (c : Pair) → IsThere s batch vector → StandsFor table s x a → StandsFor table s l b → StandsFor table s k d → IsPair mask (λ n. and_of (comparison GreaterOrEqual (side_at (vector_at s batch vector) a n) (side_at (vector_at s batch vector) b n)) (comparison LessOrEqual (side_at (vector_at s batch vector) a n) (side_at (vector_at s batch vector) d n))) c → IsPair mask (λ n. between (operand_at table (vector_at s batch vector) x n) (operand_at table (vector_at s batch vector) l n) (operand_at table (vector_at s batch vector) k n)) c
operands_between table s batch vector x l k a b d mask c there e f g p =
    let v = vector_at s batch vector in
    pair_like mask (λ n. and_of (comparison GreaterOrEqual (side_at v a n) (side_at v b n)) (comparison LessOrEqual (side_at v a n) (side_at v d n))) (λ n. between (operand_at table v x n) (operand_at table v l n) (operand_at table v k n)) c
    (λ n. sym (ap (λ z. between z (operand_at table v l n) (operand_at table v k n)) (e batch vector n there)
    ∙ ap (λ z. between (whole (side_at v a n)) z (operand_at table v k n)) (f batch vector n there)
    ∙ ap (λ z. between (whole (side_at v a n)) (whole (side_at v b n)) z) (g batch vector n there)
    ∙ ap (λ t. and_of t (field_comparison LessOrEqual (whole (side_at v a n)) (whole (side_at v d n)))) (cells_compared GreaterOrEqual (side_at v a n) (side_at v b n))
    ∙ ap (and_of (comparison GreaterOrEqual (side_at v a n) (side_at v b n))) (cells_compared LessOrEqual (side_at v a n) (side_at v d n)))) p

pub operand_among : (table : Table) (s : State) (batch vector : ℕ) (x : Operand) (a : Side) (literals : List ℤ) (mask : List Bool) (c : Pair) → IsThere s batch vector → StandsFor table s x a → IsPair mask (λ n. is_among (whole (side_at (vector_at s batch vector) a n)) literals) c → IsPair mask (λ n. is_among (operand_at table (vector_at s batch vector) x n) literals) c
operand_among table s batch vector x a literals mask c there e p =
    let v = vector_at s batch vector in
    pair_alike mask _ (λ n. is_among (operand_at table v x n) literals) c
    (λ n h. ap (λ z. is_among z literals) (sym (e batch vector n there))) p
