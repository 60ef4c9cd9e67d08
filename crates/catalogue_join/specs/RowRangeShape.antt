-- Ranges of rows form a shape: rows of two batches are never next to each other, so ranges that touch are of one batch.
use Rattle.std.specs.Prelude.{◌≡◌, ◌+◌, ◌<◌, true, false, ◌&&◌, nat_lt, min, max}
use Rattle.std.proofs.Common.{arith}
use Rattle.std.proofs.lemmas.Bool.{and_parts, and_from, ltb-true, ltb-false, lt-ltb}
use Rattle.table_model.specs.Table.{row_limit}
use Rattle.table_model.specs.Name.{is_proper_name}
use Rattle.catalogue_join.specs.Span.{IsShape, apart}
use Rattle.catalogue_join.specs.RowRange.{RowRange, row_place, is_named_range, row_range_shape}

-- the numbers of a range of rows are within their bounds
pub record HasBounds (r : RowRange) : Type 0 where
  pub proper : is_proper_name r.0.batch ≡ true
  pub origin : r.0.batch.origin.0 < 4294967296
  pub number : r.0.batch.number.0 < 4294967296
  pub first : r.0.ordinal < row_limit
  pub last : r.1 < row_limit

-- a range that is named so is within these bounds
pub bounds_of : (r : RowRange) → is_named_range r ≡ true → HasBounds r
bounds_of r named =
    let a = and_parts (is_proper_name r.0.batch) (nat_lt r.0.batch.origin.0 4294967296 && (nat_lt r.0.batch.number.0 4294967296 && (nat_lt r.0.ordinal row_limit && nat_lt r.1 row_limit))) named in
    let b = and_parts (nat_lt r.0.batch.origin.0 4294967296) (nat_lt r.0.batch.number.0 4294967296 && (nat_lt r.0.ordinal row_limit && nat_lt r.1 row_limit)) a.1 in
    let c = and_parts (nat_lt r.0.batch.number.0 4294967296) (nat_lt r.0.ordinal row_limit && nat_lt r.1 row_limit) b.1 in
    let d = and_parts (nat_lt r.0.ordinal row_limit) (nat_lt r.1 row_limit) c.1 in
    record {
      proper = a.0;
      origin = ltb-true r.0.batch.origin.0 4294967296 b.0;
      number = ltb-true r.0.batch.number.0 4294967296 c.0;
      first = ltb-true r.0.ordinal row_limit d.0;
      last = ltb-true r.1 row_limit d.1;
    }

-- a range within these bounds is named so
pub named_from : (r : RowRange) → HasBounds r → is_named_range r ≡ true
named_from r b =
    and_from (is_proper_name r.0.batch) (nat_lt r.0.batch.origin.0 4294967296 && (nat_lt r.0.batch.number.0 4294967296 && (nat_lt r.0.ordinal row_limit && nat_lt r.1 row_limit))) b.proper
    (and_from (nat_lt r.0.batch.origin.0 4294967296) (nat_lt r.0.batch.number.0 4294967296 && (nat_lt r.0.ordinal row_limit && nat_lt r.1 row_limit)) (lt-ltb r.0.batch.origin.0 4294967296 b.origin)
    (and_from (nat_lt r.0.batch.number.0 4294967296) (nat_lt r.0.ordinal row_limit && nat_lt r.1 row_limit) (lt-ltb r.0.batch.number.0 4294967296 b.number)
    (and_from (nat_lt r.0.ordinal row_limit) (nat_lt r.1 row_limit) (lt-ltb r.0.ordinal row_limit b.first) (lt-ltb r.1 row_limit b.last))))

low_is : (r q : RowRange) → is_named_range r ≡ true → is_named_range q ≡ true → apart row_range_shape r q ≡ false → apart row_range_shape q r ≡ false → row_place r.0.batch (min r.0.ordinal q.0.ordinal) ≡ min (row_place r.0.batch r.0.ordinal) (row_place q.0.batch q.0.ordinal)
low_is r q n m e f =
    let a = bounds_of r n in
    let b = bounds_of q m in
    let g = ltb-false (row_place r.0.batch r.1 + 1) (row_place q.0.batch q.0.ordinal) e in
    let h = ltb-false (row_place q.0.batch q.1 + 1) (row_place r.0.batch r.0.ordinal) f in
    omega arith

high_is : (r q : RowRange) → is_named_range r ≡ true → is_named_range q ≡ true → apart row_range_shape r q ≡ false → apart row_range_shape q r ≡ false → row_place r.0.batch (max r.1 q.1) ≡ max (row_place r.0.batch r.1) (row_place q.0.batch q.1)
high_is r q n m e f =
    let a = bounds_of r n in
    let b = bounds_of q m in
    let g = ltb-false (row_place r.0.batch r.1 + 1) (row_place q.0.batch q.0.ordinal) e in
    let h = ltb-false (row_place q.0.batch q.1 + 1) (row_place r.0.batch r.0.ordinal) f in
    omega arith

named_is : (r q : RowRange) → is_named_range r ≡ true → is_named_range q ≡ true → is_named_range (row_range_shape.hull r q) ≡ true
named_is r q n m =
    let a = bounds_of r n in
    let b = bounds_of q m in
    named_from (row_range_shape.hull r q) (record { proper = a.proper; origin = a.origin; number = a.number; first = omega arith; last = omega arith })

same_is : (r q : RowRange) → is_named_range r ≡ true → is_named_range q ≡ true → row_place r.0.batch r.0.ordinal ≡ row_place q.0.batch q.0.ordinal → row_place r.0.batch r.1 ≡ row_place q.0.batch q.1 → r ≡ q
same_is r q n m low high =
    let a = bounds_of r n in
    let b = bounds_of q m in
    let origin : r.0.batch.origin.0 ≡ q.0.batch.origin.0 = omega arith in
    let number : r.0.batch.number.0 ≡ q.0.batch.number.0 = omega arith in
    let first : r.0.ordinal ≡ q.0.ordinal = omega arith in
    let last : r.1 ≡ q.1 = omega arith in
    λ i. (record { batch = record { origin = record { 0 = origin i }; number = record { 0 = number i } }; ordinal = first i }, last i)

-- ranges that touch are of one batch, so their hull has the lesser first ordinal and the greater last one
pub row_range_IsShape : IsShape row_range_shape
row_range_IsShape = record { low_hull = low_is; high_hull = high_is; named_hull = named_is; same = same_is }
