-- Sums of packed values by the codes of their rows, row by row.
use Rattle.std.proofs.Common.{◌≡◌, ◌==◌, ℕ, ◌+◌, ◌*◌, ◌^◌, ◌<◌, ◌≤◌, Bool, true, false, cond, not, ◌&&◌, List, [], ◌∷◌, ◌++◌, length, get_or, ℤ, pos, ◌+ℤ◌, ◌*ℤ◌, FitsSigned, w64, of_z, to_z, refl, sym, ap, subst, ◌∙◌, arith, append-nil, length-append}
use Rattle.std.proofs.lemmas.Int.{ints, to_z-of_z}
use Rattle.table_model.specs.Group.{IsWithin}
use Rattle.table_model.specs.Values.{total}
use Rattle.table_model.proofs.Appended.{total-append}
use Rattle.transpose_order.specs.Mask.{has, rows_of}
use Rattle.transpose_order.specs.MaskWords.{has-rows_of, length-rows_of, rows_of-like}
use Rattle.query_eval.specs.CodeSums.{rows_coded}
use Rattle.query_eval.specs.Packed.{ArePackable, ArePacked, IsPackable, packed_sum}
use Rattle.query_eval.specs.Slices.{values_at, values_below}
use Rattle.std.proofs.Math.Bool.{and-false, and-true}
use Rattle.query_eval.proofs.ColumnLemmas.{count-small}
use Rattle.query_eval.proofs.MaskedLemmas.{length-values_at, values_more}
use Rattle.query_eval.proofs.TallyLemmas.{one_total}

-- ---- one value more
packed_push : (values : List ℤ) (z : ℤ) → packed_sum (values ++ z ∷ []) ≡ packed_sum values +ℤ (pos 2048 *ℤ z +ℤ pos 1)
packed_push values z =
    let sum : total (values ++ z ∷ []) ≡ total values +ℤ z = total-append values (z ∷ []) ∙ ap (λ y. total values +ℤ y) (one_total z) in
    let long : length (values ++ z ∷ []) ≡ length values + 1 = length-append values (z ∷ []) in
    omega (arith, ints, sum, long)

packed_if : (b : Bool) (values : List ℤ) (z : ℤ) → packed_sum (values ++ cond b (z ∷ []) []) ≡ packed_sum values +ℤ cond b (pos 2048 *ℤ z +ℤ pos 1) (pos 0)
packed_if true values z = packed_push values z
packed_if false values z = ap packed_sum (append-nil values) ∙ omega (arith, ints)

-- ---- one row more: its packed value is added where it has the code
pub sum_more_row : (rows : List Bool) (codes : List ℕ) (values packed : List ℤ) (code k : ℕ) → ArePacked rows values packed → k < 1024
    → packed_sum (values_below (k + 1) (rows_coded rows codes code) values) ≡ packed_sum (values_below k (rows_coded rows codes code) values) +ℤ cond (get_or codes k 0 == code) (get_or packed k (pos 0)) (pos 0)
sum_more_row rows codes values packed code k h l =
    ap packed_sum (values_more k (rows_coded rows codes code) values (has rows k && (get_or codes k 0 == code)) (has-rows_of (λ n. has rows n && (get_or codes n 0 == code)) k l))
    ∙ packed_if (has rows k && (get_or codes k 0 == code)) (values_below k (rows_coded rows codes code) values) (get_or values k (pos 0))
    ∙ ap (λ z. packed_sum (values_below k (rows_coded rows codes code) values) +ℤ z) (both (has rows k) (get_or codes k 0 == code) ∙ ap (λ z. cond (get_or codes k 0 == code) z (pos 0)) (sym (h k l)))
  where
    value : ℤ
    value = pos 2048 *ℤ get_or values k (pos 0) +ℤ pos 1

    both : (a b : Bool) → cond (a && b) value (pos 0) ≡ cond b (cond a value (pos 0)) (pos 0)
    both true b = refl
    both false true = refl
    both false false = refl

-- ---- how large sums are
pub packed_within : (rows : List Bool) (values packed : List ℤ) (n : ℕ) → ArePackable values → ArePacked rows values packed → n < 1024 → IsWithin (2 ^ 52) (get_or packed n (pos 0))
packed_within rows values packed n able h l = subst (IsWithin (2 ^ 52)) (sym (h n l)) (by_row (has rows n) (get_or values n (pos 0)) (able n l))
  where
    by_row : (b : Bool) (z : ℤ) → IsPackable z → IsWithin (2 ^ 52) (cond b (pos 2048 *ℤ z +ℤ pos 1) (pos 0))
    by_row true z s = (omega (arith, ints, s.0, s.1), omega (arith, ints, s.0, s.1))
    by_row false z s = (omega (arith, ints), omega (arith, ints))

pub within_more : (p : ℕ) (b : Bool) (sum more : ℤ) → IsWithin (2 ^ 52 * p) sum → IsWithin (2 ^ 52) more → IsWithin (2 ^ 52 * (p + 1)) (sum +ℤ cond b more (pos 0))
within_more p true sum more s m = (omega (arith, ints, s.0, s.1, m.0, m.1), omega (arith, ints, s.0, s.1, m.0, m.1))
within_more p false sum more s m = (omega (arith, ints, s.0, s.1, m.0, m.1), omega (arith, ints, s.0, s.1, m.0, m.1))

-- ---- a pair of rows: each in the table of its half
pub pair_more : (rows : List Bool) (codes : List ℕ) (values packed : List ℤ) (code pair : ℕ) (even odd even_next odd_next : ℤ) → ArePacked rows values packed → pair < 512
    → even +ℤ odd ≡ packed_sum (values_below (2 * pair) (rows_coded rows codes code) values)
    → even_next ≡ even +ℤ cond (get_or codes (2 * pair) 0 == code) (get_or packed (2 * pair) (pos 0)) (pos 0)
    → odd_next ≡ odd +ℤ cond (get_or codes (2 * pair + 1) 0 == code) (get_or packed (2 * pair + 1) (pos 0)) (pos 0)
    → even_next +ℤ odd_next ≡ packed_sum (values_below (2 * (pair + 1)) (rows_coded rows codes code) values)
pair_more rows codes values packed code pair even odd even_next odd_next h l before first second =
    let place : (2 * pair + 1) + 1 ≡ 2 * (pair + 1) = omega arith in
    let one = sum_more_row rows codes values packed code (2 * pair) h (omega (arith, l)) in
    let two = sum_more_row rows codes values packed code (2 * pair + 1) h (omega (arith, l)) in
    let sum : even_next +ℤ odd_next ≡ packed_sum (values_below ((2 * pair + 1) + 1) (rows_coded rows codes code) values) = added even odd even_next odd_next _ _ _ _ _ before first second one two in
    sum ∙ ap (λ k. packed_sum (values_below k (rows_coded rows codes code) values)) place
  where
    added : (even odd even_next odd_next a b x y z : ℤ) → even +ℤ odd ≡ x → even_next ≡ even +ℤ a → odd_next ≡ odd +ℤ b → y ≡ x +ℤ a → z ≡ y +ℤ b → even_next +ℤ odd_next ≡ z
    added even odd even_next odd_next a b x y z before first second one two = omega (arith, ints, before, first, second, one, two)

-- ---- one slice: the values at its rows but for the nulls, of which both tables together have the packed sum
pub both_tables : (a b : ℤ) → IsWithin (2 ^ 61) a → IsWithin (2 ^ 61) b → to_z w64 (of_z w64 (to_z w64 (of_z w64 a) +ℤ to_z w64 (of_z w64 b))) ≡ a +ℤ b
both_tables a b f g =
    let one : FitsSigned w64 a = omega (arith, ints, f.0, f.1) in
    let two : FitsSigned w64 b = omega (arith, ints, g.0, g.1) in
    let all : FitsSigned w64 (a +ℤ b) = omega (arith, ints, f.0, f.1, g.0, g.1) in
    ap (λ z. to_z w64 (of_z w64 (z +ℤ to_z w64 (of_z w64 b)))) (to_z-of_z w64 a one) ∙ ap (λ z. to_z w64 (of_z w64 (a +ℤ z))) (to_z-of_z w64 b two) ∙ to_z-of_z w64 (a +ℤ b) all

pub coded_slice : (kept nulls rows own : List Bool) (codes : List ℕ) (code : ℕ) → rows ≡ rows_of (λ n. has kept n && not (has nulls n)) → ((n : ℕ) → n < 1024 → has own n ≡ (has kept n && (get_or codes n 0 == code))) → rows_coded rows codes code ≡ rows_of (λ n. has own n && not (has nulls n))
coded_slice kept nulls rows own codes code e h =
    rows_of-like (λ n. has rows n && (get_or codes n 0 == code)) (λ n. has own n && not (has nulls n))
    (λ n l. ap (λ b. b && (get_or codes n 0 == code)) (ap (λ m. has m n) e ∙ has-rows_of (λ k. has kept k && not (has nulls k)) n l) ∙ turn (has kept n) (has nulls n) (get_or codes n 0 == code) ∙ ap (λ b. b && not (has nulls n)) (sym (h n l)))
  where
    turn : (a b c : Bool) → ((a && not b) && c) ≡ ((a && c) && not b)
    turn true true c = sym (and-false c)
    turn true false c = sym (and-true c)
    turn false b c = refl

pub few_values : (rows : List Bool) (codes : List ℕ) (code : ℕ) (values : List ℤ) → length (values_at (rows_coded rows codes code) values) ≤ 1024
few_values rows codes code values =
    let l : length (rows_coded rows codes code) ≡ 1024 = length-rows_of (λ n. has rows n && (get_or codes n 0 == code)) in
    omega (arith, length-values_at (rows_coded rows codes code) values l, count-small (rows_coded rows codes code) l)
