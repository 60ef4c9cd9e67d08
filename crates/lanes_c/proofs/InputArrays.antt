-- Columns as arrays have the cells of the rows that they are given as.
use Rattle.std.proofs.Common.{◌≡◌, ℕ, zero, suc, ◌+◌, ◌-◌, ◌*◌, ◌/◌, ◌%◌, ◌<◌, ◌≤◌, min, Bool, true, false, cond, ◌&&◌, ◌||◌, nat_eq, IsTrue, ℤ, pos, List, [], ◌∷◌, map, take, drop, length, get_or, Option, Some, None, refl, sym, ◌∙◌, ap, subst, arith}
use Rattle.std.specs.Int.{bit_at}
use Rattle.std.specs.List.{range_with_len}
use Rattle.std.proofs.lemmas.Bool.{eqb-true, eqb-false, ne_eqb}
use Rattle.std.proofs.lemmas.Nat.{mul-le}
use Rattle.std.proofs.lemmas.List.{same_lists, get_or-take, get_or-drop, length-take, length-drop, length-map, get_or-map}
use Rattle.std.proofs.lemmas.List.FromFn.{length-map-range_with_len, get_or-map-range_with_len}
use Rattle.table_model.specs.State.{Cells}
use Rattle.live_columns.specs.Columns.{stride_of}
use Rattle.segment_core.specs.Arrays.{ArrayForm, HaveRows, is_valid, array_cell, array_row, array_rows}
use Rattle.lanes_c.specs.InputColumns.{InputForm, AreWhole, are_whole, column_array, column_bits, input_arrays, input_cell, input_row, input_rows, is_value}

-- a part of a column's places is within those of all columns
pub reach : (column columns size first count : ℕ) → column < columns → first + count ≤ size → column * size + first + count ≤ columns * size
reach column columns size first count l fit = omega (arith, mul-le (column + 1) size columns size (omega (arith, l)) (omega arith), fit)

part_length : {X : Type 0} → (xs : List X) (at count : ℕ) → at + count ≤ length xs → length (take (at + count - at) (drop at xs)) ≡ count
part_length xs at count fit =
    let long = length-take (at + count - at) (drop at xs) in
    let left = length-drop at xs in
    omega arith

part_at : {X : Type 0} → (xs : List X) (at end i : ℕ) (d : X) → i < end - at → get_or (take (end - at) (drop at xs)) i d ≡ get_or xs (at + i) d
part_at xs at end i d h = get_or-take (end - at) (drop at xs) i d h ∙ get_or-drop at xs i d

-- ---- how many numbers and bits there are
and_left : (a b : Bool) → IsTrue (a && b) → a ≡ true
and_left true b h = refl
and_left false b h = absurd (cc)

and_right : (a b : Bool) → IsTrue (a && b) → b ≡ true
and_right true b h = h
and_right false b h = absurd (cc)

or_right : (a b : Bool) → (a || b) ≡ true → a ≡ false → b ≡ true
or_right true b h e = absurd (cc)
or_right false b h e = h

pub numbers_count : (input : InputForm) → AreWhole input → length input.values ≡ input.columns * input.rows
numbers_count input whole = eqb-true (length input.values) (input.columns * input.rows) (and_left (nat_eq (length input.values) (input.columns * input.rows)) (nat_eq (length input.valid) 0 || nat_eq (length input.valid) (input.columns * stride_of input.rows)) whole.whole)

pub bits_count : (input : InputForm) → AreWhole input → nat_eq (length input.valid) 0 ≡ false → length input.valid ≡ input.columns * stride_of input.rows
bits_count input whole some =
    eqb-true (length input.valid) (input.columns * stride_of input.rows)
    (or_right (nat_eq (length input.valid) 0) (nat_eq (length input.valid) (input.columns * stride_of input.rows))
    (and_right (nat_eq (length input.values) (input.columns * input.rows)) (nat_eq (length input.valid) 0 || nat_eq (length input.valid) (input.columns * stride_of input.rows)) whole.whole) some)

pub numbers_in_column : (input : InputForm) (first count column : ℕ) → AreWhole input → column < input.columns → first + count ≤ input.rows → length (column_array input first count column).values ≡ count
numbers_in_column input first count column whole there fit =
    part_length input.values (column * input.rows + first) count (omega (arith, numbers_count input whole, reach column input.columns input.rows first count there fit))

-- ---- cells
same_number : (input : InputForm) (first count column row : ℕ) → row < count → get_or (column_array input first count column).values row (pos 0) ≡ get_or input.values (column * input.rows + (first + row)) (pos 0)
same_number input first count column row l =
    let at : ℕ = column * input.rows + first in
    let place : at + row ≡ column * input.rows + (first + row) = omega arith in
    part_at input.values at (at + count) row (pos 0) (omega arith) ∙ ap (λ i. get_or input.values i (pos 0)) place

no_bits : (input : InputForm) (first column : ℕ) → length input.valid ≡ 0 → length (column_bits input column first) ≡ 0
no_bits input first column none =
    let at : ℕ = column * stride_of input.rows + first / 8 in
    let long = length-take ((column + 1) * stride_of input.rows - at) (drop at input.valid) in
    let left = length-drop at input.valid in
    omega arith

valid_at : (input : InputForm) (first count column row : ℕ) → AreWhole input → column < input.columns → first + count ≤ input.rows → first % 8 ≡ 0 → row < count → (b : Bool) → nat_eq (length input.valid) 0 ≡ b → is_valid (column_array input first count column) row ≡ is_value input column (first + row)
valid_at input first count column row whole there fit eight l true none =
    let empty : nat_eq (length (column_bits input column first)) 0 ≡ true = ap (λ n. nat_eq n 0) (no_bits input first column (eqb-true (length input.valid) 0 none)) in
    ap (λ b. b || nat_eq (bit_at (get_or (column_bits input column first) (row / 8) 0) (row % 8)) 1) empty
    ∙ sym (ap (λ b. b || nat_eq (bit_at (get_or input.valid (column * stride_of input.rows + (first + row) / 8) 0) ((first + row) % 8)) 1) none)
valid_at input first count column row whole there fit eight l false some =
    let stride : ℕ = stride_of input.rows in
    let at : ℕ = column * stride + first / 8 in
    let end : ℕ = (column + 1) * stride in
    let all = bits_count input whole some in
    let within = reach column input.columns stride 0 stride there (omega arith) in
    let wide : end ≡ column * stride + stride = omega arith in
    let enough : (first + row) / 8 < stride = omega (arith, fit) in
    let parts : (first + row) / 8 ≡ first / 8 + row / 8 = omega (arith, eight) in
    let bit : (first + row) % 8 ≡ row % 8 = omega (arith, eight) in
    let long : length (column_bits input column first) ≡ end - at =
    let t = length-take (end - at) (drop at input.valid) in let d = length-drop at input.valid in omega (arith, all, within, wide) in
    let filled : nat_eq (length (column_bits input column first)) 0 ≡ false = ne_eqb (length (column_bits input column first)) 0 (λ e. omega (arith, e, long, wide, enough, parts)) in
    let place : at + row / 8 ≡ column * stride + (first + row) / 8 = omega (arith, parts) in
    ap (λ b. b || nat_eq (bit_at (get_or (column_bits input column first) (row / 8) 0) (row % 8)) 1) filled
    ∙ ap (λ b. nat_eq (bit_at b (row % 8)) 1) (part_at input.valid at end (row / 8) 0 (omega (arith, wide, enough, parts)))
    ∙ ap (λ i. nat_eq (bit_at (get_or input.valid i 0) (row % 8)) 1) place
    ∙ ap (λ i. nat_eq (bit_at (get_or input.valid (column * stride + (first + row) / 8) 0) i) 1) (sym bit)
    ∙ sym (ap (λ b. b || nat_eq (bit_at (get_or input.valid (column * stride + (first + row) / 8) 0) ((first + row) % 8)) 1) some)

same_cell : (input : InputForm) (first count column row : ℕ) → AreWhole input → column < input.columns → first + count ≤ input.rows → first % 8 ≡ 0 → row < count → array_cell (column_array input first count column) row ≡ input_cell input column (first + row)
same_cell input first count column row whole there fit eight l =
    ap (λ z. cond (is_valid (column_array input first count column) row) (Some z) None) (same_number input first count column row l)
    ∙ ap (λ b. cond b (Some (get_or input.values (column * input.rows + (first + row)) (pos 0))) None) (valid_at input first count column row whole there fit eight l (nat_eq (length input.valid) 0) refl)

-- ---- rows
pub arrays_have_rows : (input : InputForm) (first count : ℕ) → AreWhole input → first + count ≤ input.rows → HaveRows count (input_arrays input first count)
arrays_have_rows input first count whole fit = λ k d l.
    let made : ℕ → ArrayForm = column_array input first count in
    let below : k < input.columns = omega (arith, l, length-map-range_with_len made 0 input.columns) in
    ap (λ (a : ArrayForm). length a.values) (get_or-map-range_with_len made 0 input.columns k k d below (omega arith)) ∙ numbers_in_column input first count k whole below fit

same_row : (input : InputForm) (first count row : ℕ) → AreWhole input → first + count ≤ input.rows → first % 8 ≡ 0 → row < count → array_row (input_arrays input first count) row ≡ input_row input (first + row)
unfolding input_row
same_row input first count row whole fit eight l =
    let made : ℕ → ArrayForm = column_array input first count in
    let cells : ℕ → Option ℤ = λ column. input_cell input column (first + row) in
    let arrays : List ArrayForm = map made (range_with_len 0 input.columns) in
    let count_is : length arrays ≡ input.columns = length-map-range_with_len made 0 input.columns in
    let wide : length (array_row arrays row) ≡ input.columns = length-map arrays (λ (a : ArrayForm). array_cell a row) ∙ count_is in
    same_lists (array_row arrays row) (map cells (range_with_len 0 input.columns)) (wide ∙ sym (length-map-range_with_len cells 0 input.columns))
    (λ k d m.
    let below : k < input.columns = omega (arith, wide, m) in
    get_or-map (λ (a : ArrayForm). array_cell a row) arrays k (made k) d (omega (arith, count_is, below))
    ∙ ap (λ (a : ArrayForm). array_cell a row) (get_or-map-range_with_len made 0 input.columns k k (made k) below (omega arith))
    ∙ same_cell input first count k row whole below fit eight l
    ∙ sym (get_or-map-range_with_len cells 0 input.columns k k d below (omega arith)))

pub arrays_rows : (input : InputForm) (first count : ℕ) → AreWhole input → first + count ≤ input.rows → first % 8 ≡ 0 → array_rows count (input_arrays input first count) ≡ input_rows input first count
unfolding array_rows
arrays_rows input first count whole fit eight =
    let arrays : List ArrayForm = input_arrays input first count in
    let long = length-map-range_with_len (array_row arrays) 0 count in
    same_lists (map (array_row arrays) (range_with_len 0 count)) (input_rows input first count) (long ∙ sym (length-map-range_with_len (input_row input) first count))
    (λ n d m.
    let below : n < count = omega (arith, long, m) in
    get_or-map-range_with_len (array_row arrays) 0 count n n d below (omega arith)
    ∙ same_row input first count n whole fit eight below
    ∙ sym (get_or-map-range_with_len (input_row input) first count n (first + n) d below (omega arith)))
