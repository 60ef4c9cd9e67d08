-- A value of a column has magnitude at most 2^63, and so a sum of n of them at most n * 2^63.
use Rattle.std.specs.Prelude.{ℕ, zero, suc, ◌≤◌, ◌*◌, ◌^◌, Bool, true, false, cond, List, [], ◌∷◌, length, Option, Some, None, ℤ, ◌≤ℤ◌}
use Rattle.std.specs.List.{list_any, cons_option}
use Rattle.std.specs.Ordering.{int_eq}
use Rattle.std.proofs.Common.{arith}
use Rattle.std.proofs.lemmas.Int.{ints}
use Rattle.table_model.specs.Group.{SumBounds, IsWithin, cell, values_in}
use Rattle.table_model.specs.State.{Cells}
use Rattle.table_model.specs.Table.{ColumnShape, Fits, IsRow, AreRows, least_of, greatest_of}
use Rattle.table_model.specs.Values.{distinct, total}
use Rattle.table_model.specs.declared.schema.ColType.{ColType}
use Rattle.table_model.specs.declared.schema.ColType.TheVariants.{TinyInt, SmallInt, Integer, BigInt}

-- a cell is null, or has magnitude at most 2^63
abbrev IsSmallCell : Option ℤ → Type 0
IsSmallCell None = Unit {0}
IsSmallCell (Some z) = IsWithin (2 ^ 63) z

-- each value has magnitude at most 2^63
abbrev pub AreSmall : List ℤ → Type 0
AreSmall [] = Unit {0}
AreSmall (z ∷ zs) = IsWithin (2 ^ 63) z × AreSmall zs

small_of : (t : ColType) (z : ℤ) → least_of t ≤ℤ z → z ≤ℤ greatest_of t → IsWithin (2 ^ 63) z
small_of TinyInt z low high = (omega (arith, ints), omega (arith, ints))
small_of SmallInt z low high = (omega (arith, ints), omega (arith, ints))
small_of Integer z low high = (omega (arith, ints), omega (arith, ints))
small_of BigInt z low high = (omega (arith, ints), omega (arith, ints))

small_cell : (c : ColumnShape) (v : Option ℤ) → Fits c v → IsSmallCell v
small_cell c None h = tt
small_cell c (Some z) h = small_of c.column_type z h.0 h.1

small_in_row : (columns : List ColumnShape) (row : Cells) (column : ℕ) → IsRow columns row → IsSmallCell (cell row column)
small_in_row [] [] column h = tt
small_in_row [] (v ∷ vs) column h = absurd h
small_in_row (c ∷ cs) [] column h = tt
small_in_row (c ∷ cs) (v ∷ vs) zero h = small_cell c v h.0
small_in_row (c ∷ cs) (v ∷ vs) (suc n) h = small_in_row cs vs n h.1

small_more : (v : Option ℤ) (zs : List ℤ) → IsSmallCell v → AreSmall zs → AreSmall (cons_option v zs)
small_more None zs h rest = rest
small_more (Some z) zs h rest = (h, rest)

-- the values of rows of a table
pub small_values : (columns : List ColumnShape) (rows : List Cells) (column : ℕ) → AreRows columns rows → AreSmall (values_in column rows)
unfolding values_in
small_values columns [] column h = tt
small_values columns (row ∷ rows) column h = small_more (cell row column) (values_in column rows) (small_in_row columns row column h.0) (small_values columns rows column h.1)

length-more : (v : Option ℤ) (zs : List ℤ) → length (cons_option v zs) ≤ suc (length zs)
length-more None zs = omega arith
length-more (Some z) zs = omega arith

pub length-values_in : (rows : List Cells) (column : ℕ) → length (values_in column rows) ≤ length rows
unfolding values_in
length-values_in [] column = omega arith
length-values_in (row ∷ rows) column = omega (arith, length-more (cell row column) (values_in column rows), length-values_in rows column)

pub total-small : (zs : List ℤ) → AreSmall zs → IsWithin (length zs * 2 ^ 63) (total zs)
total-small [] h = (omega (arith, ints), omega (arith, ints))
total-small (z ∷ zs) h =
    let rest = total-small zs h.1 in
    (omega (arith, ints, h.0.0, rest.0), omega (arith, ints, h.0.1, rest.1))

small_once : (b : Bool) (z : ℤ) (zs : List ℤ) → IsWithin (2 ^ 63) z → AreSmall zs → AreSmall (cond b zs (z ∷ zs))
small_once true z zs h rest = rest
small_once false z zs h rest = (h, rest)

pub small_distinct : (zs : List ℤ) → AreSmall zs → AreSmall (distinct zs)
small_distinct [] h = tt
small_distinct (z ∷ zs) h = small_once (list_any (int_eq z) zs) z (distinct zs) h.0 (small_distinct zs h.1)

length-once : (b : Bool) (z : ℤ) (zs : List ℤ) → length (cond b zs (z ∷ zs)) ≤ suc (length zs)
length-once true z zs = omega arith
length-once false z zs = omega arith

pub length-distinct : (zs : List ℤ) → length (distinct zs) ≤ length zs
length-distinct [] = omega arith
length-distinct (z ∷ zs) = omega (arith, length-once (list_any (int_eq z) zs) z (distinct zs), length-distinct zs)

within_more : (m n : ℕ) (z : ℤ) → m ≤ n → IsWithin (m * 2 ^ 63) z → IsWithin (n * 2 ^ 63) z
within_more m n z le h = (omega (arith, ints, h.0), omega (arith, ints, h.1))

pub bounds : SumBounds
bounds = record {
  sums = λ columns rows column h. within_more _ _ _ (length-values_in rows column) (total-small _ (small_values columns rows column h));
  once = λ columns rows column h. let values = values_in column rows in
      within_more (length (distinct values)) (length rows) (total (distinct values)) (omega (arith, length-distinct values, length-values_in rows column)) (total-small (distinct values) (small_distinct values (small_values columns rows column h)));
  limit = λ n z le h. (omega (arith, ints, h.0), omega (arith, ints, h.1));
  millionths = λ z h. omega (arith, ints, h.0, h.1);
}
