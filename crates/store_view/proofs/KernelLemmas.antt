-- What a kernel looks at in a coded vector's lanes is what a query looks at in the column: the cells of the rows of the mask.
use Rattle.std.proofs.Common.{◌≡◌, ℕ, ◌<◌, ◌≤◌, Bool, true, false, cond, ◌&&◌, not, nat_le, nat_lt, ℤ, pos, int_le, List, length, get_or, Option, Some, None, refl, sym, ◌∙◌, ap, arith}
use Rattle.std.proofs.Math.Bool.{and-false}
use Rattle.std.proofs.lemmas.Bool.{ne_eqb}
use Rattle.std.proofs.lemmas.Bool.Decides.{Decides-eqb, nat_tests}
use Rattle.std.proofs.lemmas.Option.{none-some}
use Rattle.std.specs.Option.{unwrap_or}
use Rattle.table_model.specs.Answer.{whole}
use Rattle.table_model.specs.Condition.{is_null}
use Rattle.table_model.specs.Truth.{comparison, compared, and_of, truth_of, is_true, is_false}
use Rattle.table_model.specs.Values.{present}
use Rattle.table_model.specs.declared.op.Op.{Op}
use Rattle.table_model.specs.declared.truth.Truth.{Truth}
use Rattle.table_model.specs.declared.op.Op.TheVariants.{GreaterOrEqual, LessOrEqual}
use Rattle.table_model.proofs.Predicates.{both_known}
use Rattle.table_model.proofs.TruthPairs.{is_true-truth_of, is_false-truth_of}
use Rattle.transpose_order.specs.Mask.{rows_of, has}
use Rattle.transpose_order.specs.MaskWords.{has-rows_of, rows_of-like}
use Rattle.segment_core.specs.Coded.{values_of, value_in}
use Rattle.segment_core.specs.CodedVector.{VectorForm}
use Rattle.segment_core.specs.CodedVector as coded_vector
use Rattle.segment_core.proofs.CodedLemmas.{value_at-values_of}
use Rattle.fused_kernels.specs.Seen.{looked_cell, values_looked_at, between}
use Rattle.fused_kernels.specs.Seen as seen
use Rattle.fused_kernels.specs.VectorSeen.{vector_seen}
use Rattle.fused_kernels.specs.RowRuns.{AreRowCodes, AreRowRuns}
use Rattle.query_eval.specs.Coded.{AreCodes, AreRuns, cell_of_code}
use Rattle.query_eval.specs.Pairs.{yes_of, no_of}
use Rattle.query_eval.specs.Vector.{Vector, cell_at, looked_at}
use Rattle.query_eval.proofs.Lifted.{rows_of-alike, shown_if}
use Rattle.store_view.specs.View.{HasCells}
use Rattle.store_view.proofs.CellLemmas.{cell_past}

no_cell : (m : Bool) (c : Option ℤ) → c ≡ cond m c c
no_cell true c = refl
no_cell false c = refl

-- the cell that a kernel looks at at row n
pub looked : (coded : VectorForm) (v : Vector) (column : ℕ) → HasCells coded v column → (mask : List Bool) (n : ℕ) → n < 1024 →
    cond (seen.looked_at (vector_seen coded 0) mask n) (Some (value_in coded.coded n)) None ≡ cond (has mask n) (cell_at v column n) None
looked coded v column h mask n low =
    let nulls : has (vector_seen coded 0).nulls n ≡ coded_vector.is_null coded.nulls n = has-rows_of (coded_vector.is_null coded.nulls) n low in
    elim (nat_lt n coded.rows) as (λ b. nat_lt n coded.rows ≡ b → cond (b && (has mask n && not (has (vector_seen coded 0).nulls n))) (Some (value_in coded.coded n)) None ≡ cond (has mask n) (cell_at v column n) None) [
      | true ↦ λ t.
          ap (λ k. cond (has mask n && not k) (Some (value_in coded.coded n)) None) nulls
          ∙ shown_if (has mask n) (coded_vector.is_null coded.nulls n) (value_in coded.coded n)
          ∙ ap (λ c. cond (has mask n) c None) (sym (h.cells n (grind (arith, nat_tests))))
      | false ↦ λ t.
          let past : length v.rows ≤ n = let e = h.covers in grind (arith, nat_tests) in
          no_cell (has mask n) None ∙ ap (λ c. cond (has mask n) c None) (sym (cell_past v column n past))
    ] refl

-- the values that a kernel looks at
pub same_values : (coded : VectorForm) (v : Vector) (column : ℕ) → HasCells coded v column → (mask : List Bool) → values_looked_at (vector_seen coded 0) mask ≡ looked_at v column mask
unfolding values_looked_at looked_at
same_values coded v column h mask =
    ap present (rows_of-alike (looked_cell (vector_seen coded 0) mask) (λ n. cond (has mask n) (cell_at v column n) None) None
    (λ n low. ap (λ z. cond (seen.looked_at (vector_seen coded 0) mask n) (Some z) None) (value_at-values_of coded.coded n low) ∙ looked coded v column h mask n low))

-- ---- comparisons
some_cell : (op : Op) (z literal : ℤ) (c : Option ℤ) → Some z ≡ c → compared op z literal ≡ is_true (comparison op c (Some literal))
some_cell op z literal c e = sym (is_true-truth_of (compared op z literal)) ∙ ap (λ o. is_true (comparison op o (Some literal))) e

some_cell_not : (op : Op) (z literal : ℤ) (c : Option ℤ) → Some z ≡ c → not (compared op z literal) ≡ is_false (comparison op c (Some literal))
some_cell_not op z literal c e = sym (is_false-truth_of (compared op z literal)) ∙ ap (λ o. is_false (comparison op o (Some literal))) e

yes_one : (op : Op) (b m : Bool) (z literal : ℤ) (c : Option ℤ) → cond b (Some z) None ≡ cond m c None → (b && compared op z literal) ≡ (m && is_true (comparison op c (Some literal)))
yes_one op true true z literal c e = some_cell op z literal c e
yes_one op true false z literal c e = absurd (none-some z (sym e))
yes_one op false true z literal c e = ap (λ o. is_true (comparison op o (Some literal))) e
yes_one op false false z literal c e = refl

no_one : (op : Op) (b m : Bool) (z literal : ℤ) (c : Option ℤ) → cond b (Some z) None ≡ cond m c None → (b && not (compared op z literal)) ≡ (m && is_false (comparison op c (Some literal)))
no_one op true true z literal c e = some_cell_not op z literal c e
no_one op true false z literal c e = absurd (none-some z (sym e))
no_one op false true z literal c e = ap (λ o. is_false (comparison op o (Some literal))) e
no_one op false false z literal c e = refl

pub compare_yes : (coded : VectorForm) (v : Vector) (column : ℕ) → HasCells coded v column → (op : Op) (literal : ℤ) (mask : List Bool) →
    rows_of (λ n. seen.looked_at (vector_seen coded 0) mask n && compared op (value_in coded.coded n) literal) ≡ yes_of mask (λ n. comparison op (cell_at v column n) (Some literal))
unfolding yes_of
compare_yes coded v column h op literal mask = rows_of-like _ _ (λ n low. yes_one op _ (has mask n) _ literal (cell_at v column n) (looked coded v column h mask n low))

pub compare_no : (coded : VectorForm) (v : Vector) (column : ℕ) → HasCells coded v column → (op : Op) (literal : ℤ) (mask : List Bool) →
    rows_of (λ n. seen.looked_at (vector_seen coded 0) mask n && not (compared op (value_in coded.coded n) literal)) ≡ no_of mask (λ n. comparison op (cell_at v column n) (Some literal))
unfolding no_of
compare_no coded v column h op literal mask = rows_of-like _ _ (λ n low. no_one op _ (has mask n) _ literal (cell_at v column n) (looked coded v column h mask n low))

-- ---- a range
both_true : (a b : Bool) → (a && b) ≡ is_true (and_of (truth_of a) (truth_of b))
both_true a b = sym (is_true-truth_of (a && b)) ∙ ap is_true (sym (both_known a b))

both_false : (a b : Bool) → not (a && b) ≡ is_false (and_of (truth_of a) (truth_of b))
both_false a b = sym (is_false-truth_of (a && b)) ∙ ap is_false (sym (both_known a b))

-- the truth of BETWEEN at a cell
abbrev range_truth : ℤ → ℤ → Option ℤ → Truth
range_truth low high c = and_of (comparison GreaterOrEqual c (Some low)) (comparison LessOrEqual c (Some high))

range_one : (b m : Bool) (z low high : ℤ) (c : Option ℤ) → cond b (Some z) None ≡ cond m c None → (b && between low high z) ≡ (m && is_true (range_truth low high c))
range_one true true z low high c e = both_true (int_le low z) (int_le z high) ∙ ap (λ o. is_true (range_truth low high o)) e
range_one true false z low high c e = absurd (none-some z (sym e))
range_one false true z low high c e = ap (λ o. is_true (range_truth low high o)) e
range_one false false z low high c e = refl

outside_one : (b m : Bool) (z low high : ℤ) (c : Option ℤ) → cond b (Some z) None ≡ cond m c None → (b && not (between low high z)) ≡ (m && is_false (range_truth low high c))
outside_one true true z low high c e = both_false (int_le low z) (int_le z high) ∙ ap (λ o. is_false (range_truth low high o)) e
outside_one true false z low high c e = absurd (none-some z (sym e))
outside_one false true z low high c e = ap (λ o. is_false (range_truth low high o)) e
outside_one false false z low high c e = refl

pub range_yes : (coded : VectorForm) (v : Vector) (column : ℕ) → HasCells coded v column → (low high : ℤ) (mask : List Bool) →
    rows_of (λ n. seen.looked_at (vector_seen coded 0) mask n && between low high (value_in coded.coded n))
    ≡ yes_of mask (λ n. and_of (comparison GreaterOrEqual (cell_at v column n) (Some low)) (comparison LessOrEqual (cell_at v column n) (Some high)))
unfolding yes_of
range_yes coded v column h low high mask = rows_of-like _ _ (λ n small. range_one _ (has mask n) _ low high (cell_at v column n) (looked coded v column h mask n small))

pub range_no : (coded : VectorForm) (v : Vector) (column : ℕ) → HasCells coded v column → (low high : ℤ) (mask : List Bool) →
    rows_of (λ n. seen.looked_at (vector_seen coded 0) mask n && not (between low high (value_in coded.coded n)))
    ≡ no_of mask (λ n. and_of (comparison GreaterOrEqual (cell_at v column n) (Some low)) (comparison LessOrEqual (cell_at v column n) (Some high)))
unfolding no_of
range_no coded v column h low high mask = rows_of-like _ _ (λ n small. outside_one _ (has mask n) _ low high (cell_at v column n) (looked coded v column h mask n small))

-- ---- two columns
pair_one : (op : Op) (a b m : Bool) (x y : ℤ) (c d : Option ℤ) → cond a (Some x) None ≡ cond m c None → cond b (Some y) None ≡ cond m d None →
    ((a && b) && compared op x y) ≡ (m && is_true (comparison op c d))
pair_one op true true true x y c d e f = sym (is_true-truth_of (compared op x y)) ∙ ap (λ o. is_true (comparison op o (Some y))) e ∙ ap (λ o. is_true (comparison op c o)) f
pair_one op true false true x y c d e f = ap (λ o. is_true (comparison op o None)) e ∙ ap (λ o. is_true (comparison op c o)) f
pair_one op false b true x y c d e f = ap (λ o. is_true (comparison op o d)) e
pair_one op true b false x y c d e f = absurd (none-some x (sym e))
pair_one op false b false x y c d e f = refl

apart_one : (op : Op) (a b m : Bool) (x y : ℤ) (c d : Option ℤ) → cond a (Some x) None ≡ cond m c None → cond b (Some y) None ≡ cond m d None →
    ((a && b) && not (compared op x y)) ≡ (m && is_false (comparison op c d))
apart_one op true true true x y c d e f = sym (is_false-truth_of (compared op x y)) ∙ ap (λ o. is_false (comparison op o (Some y))) e ∙ ap (λ o. is_false (comparison op c o)) f
apart_one op true false true x y c d e f = ap (λ o. is_false (comparison op o None)) e ∙ ap (λ o. is_false (comparison op c o)) f
apart_one op false b true x y c d e f = ap (λ o. is_false (comparison op o d)) e
apart_one op true b false x y c d e f = absurd (none-some x (sym e))
apart_one op false b false x y c d e f = refl

pub columns_yes : (left right : VectorForm) (v : Vector) (i j : ℕ) → HasCells left v i → HasCells right v j → (op : Op) (mask : List Bool) →
    rows_of (λ n. (seen.looked_at (vector_seen left 0) mask n && seen.looked_at (vector_seen right 0) mask n) && compared op (value_in left.coded n) (value_in right.coded n))
    ≡ yes_of mask (λ n. comparison op (cell_at v i n) (cell_at v j n))
unfolding yes_of
columns_yes left right v i j h k op mask = rows_of-like _ _ (λ n small. pair_one op _ _ (has mask n) _ _ (cell_at v i n) (cell_at v j n) (looked left v i h mask n small) (looked right v j k mask n small))

pub columns_no : (left right : VectorForm) (v : Vector) (i j : ℕ) → HasCells left v i → HasCells right v j → (op : Op) (mask : List Bool) →
    rows_of (λ n. (seen.looked_at (vector_seen left 0) mask n && seen.looked_at (vector_seen right 0) mask n) && not (compared op (value_in left.coded n) (value_in right.coded n)))
    ≡ no_of mask (λ n. comparison op (cell_at v i n) (cell_at v j n))
unfolding no_of
columns_no left right v i j h k op mask = rows_of-like _ _ (λ n small. apart_one op _ _ (has mask n) _ _ (cell_at v i n) (cell_at v j n) (looked left v i h mask n small) (looked right v j k mask n small))

-- ---- values in row order
value_of_cell : (k : Bool) (x z : ℤ) → cond k None (Some x) ≡ Some z → x ≡ z
value_of_cell true x z e = absurd (none-some z e)
value_of_cell false x z e = ap (λ o. unwrap_or o z) e

-- a cell that isn't null has the value of its row
value_is : (coded : VectorForm) (v : Vector) (column : ℕ) → HasCells coded v column → (n : ℕ) (z : ℤ) → n < 1024 → cell_at v column n ≡ Some z → value_in coded.coded n ≡ z
value_is coded v column h n z low e =
    elim (nat_lt n coded.rows) as (λ b. nat_lt n coded.rows ≡ b → value_in coded.coded n ≡ z) [
      | true ↦ λ t. value_of_cell (coded_vector.is_null coded.nulls n) (value_in coded.coded n) z (sym (h.cells n (grind (arith, nat_tests))) ∙ e)
      | false ↦ λ t.
          let past : length v.rows ≤ n = let c = h.covers in grind (arith, nat_tests) in
          absurd (none-some z (sym (cell_past v column n past) ∙ e))
    ] refl

pub decoded : (coded : VectorForm) (v : Vector) (column : ℕ) → HasCells coded v column → (n : ℕ) (z : ℤ) → n < 1024 → cell_at v column n ≡ Some z → get_or (values_of coded.coded) n (pos 0) ≡ z
decoded coded v column h n z low e = value_at-values_of coded.coded n low ∙ value_is coded v column h n z low e

-- ---- runs and codes
pub view_runs : (coded : VectorForm) (v : Vector) (column : ℕ) (starts : List Bool) (values : List ℤ) → HasCells coded v column → AreRowRuns coded starts values → AreRuns v column starts values
view_runs coded v column starts values h r = record {
  within = r.within;
  value = λ n z low e. r.value n low ∙ value_is coded v column h n z low e;
}

-- codes of the rows that a vector covers, and the count at those past them
pub view_codes : (coded : VectorForm) (v : Vector) (column count : ℕ) (before codes : List ℕ) (keys : List ℤ) → HasCells coded v column → AreRowCodes coded count before keys
    → ((n : ℕ) → n < 1024 → get_or codes n 0 ≡ cond (nat_lt n coded.rows) (get_or before n 0) count) → AreCodes v column count codes keys
view_codes coded v column count before codes keys h are put = record {
  few = are.few;
  within = λ n low. (at n low (nat_lt n coded.rows) refl (coded_vector.is_null coded.nulls n) refl).0;
  cell = λ n low. (at n low (nat_lt n coded.rows) refl (coded_vector.is_null coded.nulls n) refl).1;
  rises = are.rises;
}
  where
    none_at : (code : ℕ) → code ≡ count → cell_of_code count keys code ≡ None
    none_at code e = ap (λ b. cond b None (Some (get_or keys code (pos 0)))) ((Decides-eqb code count).1 e)

    some_at : (code : ℕ) → code < count → cell_of_code count keys code ≡ Some (get_or keys code (pos 0))
    some_at code l = ap (λ b. cond b None (Some (get_or keys code (pos 0)))) (ne_eqb code count (λ e. omega (arith, l, e)))

    at : (n : ℕ) → n < 1024 → (b : Bool) → nat_lt n coded.rows ≡ b → (k : Bool) → coded_vector.is_null coded.nulls n ≡ k → (get_or codes n 0 ≤ count) × (cell_of_code count keys (get_or codes n 0) ≡ cell_at v column n)
    at n low false t k e =
        let past : length v.rows ≤ n = let c = h.covers in grind (arith, nat_tests) in
        let is : get_or codes n 0 ≡ count = put n low ∙ ap (λ b. cond b (get_or before n 0) count) t in
        (omega (arith, is), none_at (get_or codes n 0) is ∙ sym (cell_past v column n past))
    at n low true t true e =
        let is : get_or codes n 0 ≡ count = put n low ∙ ap (λ b. cond b (get_or before n 0) count) t ∙ are.nulls n low e in
        (omega (arith, is), none_at (get_or codes n 0) is ∙ sym (h.cells n (grind (arith, nat_tests)) ∙ ap (λ b. cond b None (Some (value_in coded.coded n))) e))
    at n low true t false e =
        let is : get_or codes n 0 ≡ get_or before n 0 = put n low ∙ ap (λ b. cond b (get_or before n 0) count) t in
        let below = are.within n low e in
        let inside : get_or codes n 0 < count = omega (arith, is, below) in
        (omega (arith, inside), some_at (get_or codes n 0) inside ∙ ap Some (ap (λ c. get_or keys c (pos 0)) is ∙ are.key n low e) ∙ sym (h.cells n (grind (arith, nat_tests)) ∙ ap (λ b. cond b None (Some (value_in coded.coded n))) e))

-- ---- null rows
null_cell : (k : Bool) (x : ℤ) → is_null (whole (cond k None (Some x))) ≡ k
null_cell true x = refl
null_cell false x = refl

-- the rows of the null mask, and those past the rows of the vector, are null
pub null_at : (coded : VectorForm) (v : Vector) (column : ℕ) → HasCells coded v column → (n : ℕ) → n < 1024 →
    cond (nat_le coded.rows n && nat_lt n 1024) true (has (rows_of (coded_vector.is_null coded.nulls)) n) ≡ is_null (whole (cell_at v column n))
null_at coded v column h n low =
    elim (nat_lt n coded.rows) as (λ b. nat_lt n coded.rows ≡ b → cond (nat_le coded.rows n && nat_lt n 1024) true (has (rows_of (coded_vector.is_null coded.nulls)) n) ≡ is_null (whole (cell_at v column n))) [
      | true ↦ λ t.
          let inside : nat_le coded.rows n ≡ false = grind (arith, nat_tests) in
          ap (λ b. cond (b && nat_lt n 1024) true (has (rows_of (coded_vector.is_null coded.nulls)) n)) inside
          ∙ has-rows_of (coded_vector.is_null coded.nulls) n low
          ∙ sym (null_cell (coded_vector.is_null coded.nulls n) (value_in coded.coded n))
          ∙ ap (λ c. is_null (whole c)) (sym (h.cells n (grind (arith, nat_tests))))
      | false ↦ λ t.
          let outside : nat_le coded.rows n ≡ true = grind (arith, nat_tests) in
          let small : nat_lt n 1024 ≡ true = grind (arith, nat_tests) in
          let past : length v.rows ≤ n = let c = h.covers in grind (arith, nat_tests) in
          ap (λ b. cond (b && nat_lt n 1024) true (has (rows_of (coded_vector.is_null coded.nulls)) n)) outside
          ∙ ap (λ b. cond b true (has (rows_of (coded_vector.is_null coded.nulls)) n)) small
          ∙ ap (λ c. is_null (whole c)) (sym (cell_past v column n past))
    ] refl
