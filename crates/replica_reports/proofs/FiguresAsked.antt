-- What the query of a column's figures answers.
use Rattle.std.proofs.Common.{◌≡◌, ◌∙◌, ℕ, zero, suc, ◌+◌, Bool, true, false, cond, not, ◌&&◌, ◌||◌, List, [], ◌∷◌, length, filter, map as each, Option, Some, None, Ok, Err, refl, sym, ap, arith}
use Rattle.std.specs.Prelude.{slice_get, nat_le, is_none, ℤ, pos, ◌-ℤ◌, FitsSigned}
use Rattle.std.specs.Int.{w128}
use Rattle.std.specs.List.{list_any, list_all, position_or_len, cons_option}
use Rattle.std.proofs.lemmas.Bool.{and_parts}
use Rattle.std.proofs.lemmas.Int.{ints}
use mir.Val.{to_z, of_z}
use Rattle.std.proofs.lemmas.List.Sums.{sum_by-cons}
use Rattle.table_model.specs.Group.{cell, groups_of, values_in}
use Rattle.table_model.specs.Identifier.{is_identifier, same_text, folded}
use Rattle.table_model.specs.Meaning.{answer_of, answer_over, groups_having, rows_where, place_of}
use Rattle.table_model.specs.State.{State, Cells}
use Rattle.table_model.specs.Table.{Table, ColumnShape, IsTable, column_limit, has_name, are_distinct, name_of, asked_of, is_named, is_schema, folded_table}
use Rattle.table_model.specs.declared.refusal.Refusal.TheVariants.{BadSchema}
use Rattle.table_model.proofs.SameTable.{one_text, itself_text}
use Rattle.replica_reports.specs.ColumnFigures.{live_cells, nulls_in, figure_fields, figure_query}

-- ---- a column's place

-- the names of columns, as they would be asked for
abbrev names : List ColumnShape → List (List ℕ)
names columns = each name_of (each asked_of columns)

none_of : (t u : Bool) → (t || u) ≡ false → (t ≡ false) × (u ≡ false)
none_of true u e = cc
none_of false u e = (refl, e)

not_true : (t : Bool) → not t ≡ true → t ≡ false
not_true true e = cc
not_true false e = refl

-- a name that none of some columns has is not that of one of them
other_name : (name : List ℕ) (columns : List ColumnShape) (i : ℕ) (c : ColumnShape) → list_any (has_name name) (names columns) ≡ false → slice_get columns i ≡ Some c → has_name name c.name ≡ false
other_name name [] i c none is = cc
other_name name (d ∷ ds) zero c none is =
    let same : d ≡ c = cc in
    ap (λ (x : ColumnShape). has_name name x.name) (sym same) ∙ (none_of (has_name name d.name) (list_any (has_name name) (names ds)) none).0
other_name name (d ∷ ds) (suc i) c none is = other_name name ds i c (none_of (has_name name d.name) (list_any (has_name name) (names ds)) none).1 is

-- names that differ once folded differ
apart : (a b : List ℕ) → has_name a b ≡ false → same_text a b ≡ false
apart a b differ = by (same_text a b) refl where
  by : (t : Bool) → same_text a b ≡ t → same_text a b ≡ false
  by false is = is
  by true is =
      let one : a ≡ b = one_text a b is in
      let own : has_name a b ≡ true = ap (λ (x : List ℕ). has_name a x) (sym one) ∙ itself_text (folded a) in
      cc

-- the place of the column at a place
place_among : (columns : List ColumnShape) (i : ℕ) (c : ColumnShape) → are_distinct (names columns) ≡ true → slice_get columns i ≡ Some c → place_of columns c.name ≡ i
place_among [] i c distinct is = cc
place_among (d ∷ ds) zero c distinct is =
    let same : d ≡ c = cc in
    ap (λ (x : ColumnShape). place_of (d ∷ ds) x.name) (sym same)
    ∙ ap (λ (t : Bool). cond (not t) (1 + position_or_len (λ (column : ColumnShape). same_text column.name d.name) ds) 0) (itself_text d.name)
place_among (d ∷ ds) (suc i) c distinct is =
    let own = and_parts (not (list_any (has_name d.name) (names ds))) (are_distinct (names ds)) distinct in
    let other : same_text d.name c.name ≡ false = apart d.name c.name (other_name d.name ds i c (not_true (list_any (has_name d.name) (names ds)) own.0) is) in
    ap (λ (t : Bool). cond (not t) (1 + place_of ds c.name) 0) other
    ∙ ap (λ (n : ℕ). 1 + n) (place_among ds i c own.1 is)
    ∙ omega arith

-- a table's columns have names of their own
own_names : (table : Table) → IsTable table → are_distinct (names table.columns) ≡ true
unfolding is_schema
own_names t table = by (is_schema t.name (each asked_of t.columns)) refl table.itself where
  by : (test : Bool) → is_schema t.name (each asked_of t.columns) ≡ test → cond test (Ok (folded_table t.name (each asked_of t.columns))) (Err BadSchema) ≡ Ok t → are_distinct (names t.columns) ≡ true
  by false is e = cc
  by true is e =
      let asked = each asked_of t.columns in
      let a = and_parts (is_identifier t.name) _ is in
      let b = and_parts (nat_le 1 (length asked)) _ a.1 in
      let c = and_parts (nat_le (length asked) column_limit) (list_all is_named asked && are_distinct (each name_of asked)) b.1 in
      (and_parts (list_all is_named asked) (are_distinct (each name_of asked)) c.1).1

-- a table's column is at its place
pub placed : (table : Table) (i : ℕ) (c : ColumnShape) → IsTable table → slice_get table.columns i ≡ Some c → place_of table.columns c.name ≡ i
placed table i c is at = place_among table.columns i c (own_names table is) at

-- ---- the answer

all_kept : (rows : List Cells) → filter (λ (row : Cells). true) rows ≡ rows
all_kept [] = refl
all_kept (row ∷ rows) = ap (λ (rest : List Cells). row ∷ rest) (all_kept rows)

-- the query's answer is one row of these fields
pub figures_answered : (table : Table) (state : State) (name : List ℕ) (column : ℕ) → place_of table.columns name ≡ column
    → (answer_of table (figure_query table.name name) state).rows ≡ figure_fields (live_cells state) column ∷ []
unfolding answer_of answer_over groups_having rows_where groups_of
figures_answered table state name column at =
    ap (λ (rows : List Cells). figure_fields rows (place_of table.columns name) ∷ []) (all_kept (live_cells state))
    ∙ ap (λ (place : ℕ). figure_fields (live_cells state) place ∷ []) at

-- ---- nulls

one_more : (x : Option ℤ) (long n m : ℕ) → long ≡ n + m → suc long ≡ cond (is_none x) 1 0 + n + (cond (is_none x) 0 1 + m)
one_more None long n m is = omega (arith, is)
one_more (Some z) long n m is = omega (arith, is)

value_more : (x : Option ℤ) (zs : List ℤ) → length (cons_option x zs) ≡ cond (is_none x) 0 1 + length zs
value_more None zs = omega arith
value_more (Some z) zs = omega arith

-- each row is null in a column or has a value there
pub nulls_and_values : (column : ℕ) (rows : List Cells) → length rows ≡ nulls_in column rows + length (values_in column rows)
unfolding values_in
nulls_and_values column [] = refl
nulls_and_values column (row ∷ rows) =
    let nulls = sum_by-cons (λ (r : Cells). cond (is_none (cell r column)) 1 0) row rows in
    let values = value_more (cell row column) (values_in column rows) in
    let rest = one_more (cell row column) (length rows) (nulls_in column rows) (length (values_in column rows)) (nulls_and_values column rows) in
    omega (arith, nulls, values, rest)

-- how many are null is how many there are without those that have a value
pub difference : (a b : ℤ) (n m k : ℕ) → a ≡ pos n → b ≡ pos m → n ≡ k + m → FitsSigned w128 a → FitsSigned w128 b → to_z w128 (of_z w128 (to_z w128 (of_z w128 a) -ℤ to_z w128 (of_z w128 b))) ≡ pos k
difference a b n m k is_a is_b parts fits_a fits_b = omega (arith, ints, is_a, is_b, parts, fits_a, fits_b)
