-- Rows of a vector are cleared range by range; a range that has a row of the vector is of its batch.
use Rattle.std.proofs.Common.{◌≡◌, ℕ, ◌+◌, ◌*◌, ◌<◌, ◌≤◌, Bool, true, false, ◌&&◌, ◌||◌, not, ltb, leb, List, [], ◌∷◌, length, take, get_or, refl, sym, ap, ◌∙◌, cond, ◌-◌, min, max, arith}
use Rattle.std.proofs.lemmas.Bool.Decides.{nat_tests}
use Rattle.std.proofs.lemmas.List.{take_more}
use Rattle.table_model.specs.Table.{row_limit}
use Rattle.transpose_order.specs.Mask.{rows_of, has}
use Rattle.transpose_order.specs.MaskWords.{rows_of-like, has-rows_of}
use Rattle.table_model.specs.declared.names.BatchName.{BatchName}
use Rattle.catalogue_join.specs.Span.{among, covers, Rises, IsOverlap}
use Rattle.catalogue_join.specs.RowRange.{RowRange, row_place, is_named_range, row_range_shape, rows_in}
use Rattle.catalogue_join.specs.RowRangeShape.{bounds_of}
use Rattle.catalogue_join.specs.LiveMask.{is_live, row_of_vector}
use Rattle.catalogue_join.proofs.Spans.{among-append, rises_at, or_second}
use Rattle.catalogue_join.proofs.RowSets.{contains-rows_in, bounded_from, is_bounded, spot}

-- a range that has a row of a vector
pub record MeetsVector (x : RowRange) (batch : BatchName) (start : ℕ) : Type 0 where
  pub named : is_named_range x ≡ true
  pub not_empty : x.0.ordinal ≤ x.1
  pub begun : x.0.ordinal ≤ start + 1023
  pub reached : start ≤ x.1
  pub covered : (m : ℕ) → m < row_limit → covers row_range_shape x (row_place batch m) ≡ (leb x.0.ordinal m && leb m x.1)

pub meets_vector : (x : RowRange) (batch : BatchName) (start : ℕ) → is_named_range x ≡ true → row_range_shape.low x ≤ row_range_shape.high x → batch.number.0 < 4294967296 → start + 1023 < row_limit
    → row_range_shape.low x ≤ row_place batch (start + 1023) → row_place batch start ≤ row_range_shape.high x → MeetsVector x batch start
meets_vector x batch start named range number within begun reached =
    let b = bounds_of x named in
    let origin : x.0.batch.origin.0 ≡ batch.origin.0 = omega arith in
    let same : x.0.batch.number.0 ≡ batch.number.0 = omega arith in
    record {
      named = named;
      not_empty = omega arith;
      begun = omega arith;
      reached = omega arith;
      covered = λ m h. go x.0.batch.origin.0 x.0.batch.number.0 batch.origin.0 batch.number.0 x.0.ordinal x.1 m origin same;
    }
  where
    go : (o n o' n' f l m : ℕ) → o ≡ o' → n ≡ n' → (leb ((o * 4294967296 + n) * 131072 + f) ((o' * 4294967296 + n') * 131072 + m) && leb ((o' * 4294967296 + n') * 131072 + m) ((o * 4294967296 + n) * 131072 + l)) ≡ (leb f m && leb m l)
    go o n o' n' f l m e j = grind (arith, nat_tests)

-- one more range cleared
pub cleared_more : (items : List RowRange) (i : ℕ) (d : RowRange) (batch : BatchName) (start rows : ℕ) (old new : List Bool) → i < length items → start + 1023 < row_limit
    → MeetsVector (get_or items i d) batch start
    → old ≡ rows_of (λ n. ltb n rows && not (among row_range_shape (take i items) (row_place batch (start + n))))
    → new ≡ rows_of (λ n. has old n && not (leb (get_or items i d).0.ordinal (start + n) && leb (start + n) (get_or items i d).1))
    → new ≡ rows_of (λ n. ltb n rows && not (among row_range_shape (take (i + 1) items) (row_place batch (start + n))))
cleared_more items i d batch start rows old new bound within meets before after =
    after ∙ rows_of-like (λ n. has old n && not (leb (get_or items i d).0.ordinal (start + n) && leb (start + n) (get_or items i d).1))
    (λ n. ltb n rows && not (among row_range_shape (take (i + 1) items) (row_place batch (start + n))))
    (λ n h.
    let x = get_or items i d in
    let front = among row_range_shape (take i items) (row_place batch (start + n)) in
    let was : has old n ≡ (ltb n rows && not front) = ap (λ m. has m n) before ∙ has-rows_of (λ n. ltb n rows && not (among row_range_shape (take i items) (row_place batch (start + n)))) n h in
    let more : among row_range_shape (take (i + 1) items) (row_place batch (start + n)) ≡ (front || covers row_range_shape x (row_place batch (start + n))) =
    ap (λ (xs : List RowRange). among row_range_shape xs (row_place batch (start + n))) (take_more items i d bound)
    ∙ among-append row_range_shape (take i items) (x ∷ []) (row_place batch (start + n))
    ∙ ap (λ b. front || b) (or_second (covers row_range_shape x (row_place batch (start + n))) false refl) in
    ap (λ b. b && not (leb x.0.ordinal (start + n) && leb (start + n) x.1)) was
    ∙ regroup (ltb n rows) front (leb x.0.ordinal (start + n) && leb (start + n) x.1)
    ∙ ap (λ b. ltb n rows && not (front || b)) (sym (meets.covered (start + n) (omega arith)))
    ∙ ap (λ b. ltb n rows && not b) (sym more))
  where
    regroup : (a b c : Bool) → ((a && not b) && not c) ≡ (a && not (b || c))
    regroup false b c = refl
    regroup true true c = refl
    regroup true false c = refl

-- rows that are in none of the ranges, and within the rows that the vector covers, are live
pub live_is : (rs shared : List RowRange) (s : RowRange) (batch : BatchName) (vector rows : ℕ) → Rises row_range_shape 0 rs → IsOverlap row_range_shape rs s shared → vector < 64
    → batch.origin.0 < 4294967296 → batch.number.0 < 4294967296
    → row_range_shape.low s ≡ row_place batch (1024 * vector) → row_range_shape.high s ≡ row_place batch (1024 * vector + 1023)
    → rows_of (λ n. ltb n rows && not (among row_range_shape shared (row_place batch (1024 * vector + n)))) ≡ rows_of (is_live (rows_in rs) batch vector rows)
live_is rs shared s batch vector rows r overlap small origin number low high =
    rows_of-like (λ n. ltb n rows && not (among row_range_shape shared (row_place batch (1024 * vector + n)))) (is_live (rows_in rs) batch vector rows)
    (λ n h.
    let q = row_of_vector batch vector n in
    let bounded : is_bounded q ≡ true = bounded_from q origin number (omega arith) in
    ap (λ b. ltb n rows && not b)
    (sym (contains-rows_in rs q r ∙ ap (λ b. b && among row_range_shape rs (spot q)) bounded ∙ overlap.places (spot q) (omega arith) (omega arith))))

-- the range that a read past the end of a list would give
abbrev pub no_range : RowRange
no_range = (record { batch = record { origin = record { 0 = 0 }; number = record { 0 = 0 } }; ordinal = 0 }, 0)

-- each of the ranges that overlap a vector has a row of it
pub overlap_meets : (rs shared : List RowRange) (batch : BatchName) (start i : ℕ) → IsOverlap row_range_shape rs (record { batch = batch; ordinal = start }, start + 1023) shared → i < length shared → batch.number.0 < 4294967296 → start + 1023 < row_limit → MeetsVector (get_or shared i no_range) batch start
overlap_meets rs shared batch start i overlap bound number within =
    let at = rises_at row_range_shape shared 0 i no_range overlap.rising bound in
    meets_vector (get_or shared i no_range) batch start at.named at.is_range number within (overlap.reached i no_range bound) (overlap.reaches i no_range bound)

-- clearing from the range's first row in the vector to its last clears the rows that the range has
pub cleared_is : (old : List Bool) (first last start : ℕ) → first ≤ start + 1023 → start ≤ last → first ≤ last
    → rows_of (λ n. cond (leb (max first start - start) n && ltb n (min (last + 1) (start + 1024) - start)) false (has old n)) ≡ rows_of (λ n. has old n && not (leb first (start + n) && leb (start + n) last))
cleared_is old first last start begun reached range =
    rows_of-like (λ n. cond (leb (max first start - start) n && ltb n (min (last + 1) (start + 1024) - start)) false (has old n)) (λ n. has old n && not (leb first (start + n) && leb (start + n) last))
    (λ n h. same n (has old n) h)
  where
    same : (n : ℕ) (b : Bool) → n < 1024 → cond (leb (max first start - start) n && ltb n (min (last + 1) (start + 1024) - start)) false b ≡ (b && not (leb first (start + n) && leb (start + n) last))
    same n b h = grind (arith, nat_tests)

-- no row stands past the first 1024
pub full_is : (rows : ℕ) → rows ≡ 1024 → rows_of (λ _. true) ≡ rows_of (λ n. ltb n rows)
full_is rows full = rows_of-like (λ _. true) (λ n. ltb n rows) (λ n h. here n h)
  where
    here : (n : ℕ) → n < 1024 → true ≡ ltb n rows
    here n h = grind (arith, nat_tests, full)

-- the first rows set in a mask without rows
pub front_is : (old : List Bool) (rows : ℕ) → old ≡ rows_of (λ _. false) → rows_of (λ n. cond (leb 0 n && ltb n rows) true (has old n)) ≡ rows_of (λ n. ltb n rows)
front_is old rows none =
    rows_of-like (λ n. cond (leb 0 n && ltb n rows) true (has old n)) (λ n. ltb n rows)
    (λ n h. same n (has old n) (ap (λ m. has m n) none ∙ has-rows_of (λ _. false) n h))
  where
    same : (n : ℕ) (b : Bool) → b ≡ false → cond (leb 0 n && ltb n rows) true b ≡ ltb n rows
    same n b e = grind (arith, nat_tests)

-- no range has cleared a row yet
pub uncleared_is : (rows : ℕ) (place : ℕ → ℕ) → rows_of (λ n. ltb n rows) ≡ rows_of (λ n. ltb n rows && not (among row_range_shape [] (place n)))
uncleared_is rows place = rows_of-like (λ n. ltb n rows) (λ n. ltb n rows && not (among row_range_shape [] (place n))) (λ n h. same (ltb n rows))
  where
    same : (b : Bool) → b ≡ (b && true)
    same true = refl
    same false = refl
