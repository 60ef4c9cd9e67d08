-- Cells as numbers, as flags of nulls and as validity bits.
use Rattle.std.proofs.Common.{◌≡◌, ℕ, zero, suc, ◌+◌, ◌*◌, ◌^◌, ◌<◌, ◌≤◌, ◌==◌, Bool, true, false, cond, nat_lt, ◌&&◌, List, [], ◌∷◌, ◌++◌, map, length, get_or, count_by, Option, Some, None, is_none, ℤ, pos, refl, sym, ap, ◌∙◌, arith}
use Rattle.std.specs.List.{range_with_len}
use Rattle.std.specs.Option.{is_some}
use Rattle.std.proofs.lemmas.Bool.Decides.{nat_tests}
use Rattle.std.proofs.lemmas.List.{length-map}
use Rattle.std.proofs.lemmas.List.Sums.{sum_by-cons}
use Rattle.table_model.specs.Answer.{whole}
use Rattle.table_model.specs.Condition.{is_null}
use Rattle.table_model.specs.State.{State, Cells}
use Rattle.table_model.specs.Values.{present}
use Rattle.table_model.specs.declared.names.RowName.{RowName}
use Rattle.transpose_order.specs.Bytes.{bit_of_bytes, bytes_of_bits}
use Rattle.transpose_order.specs.Mask.{rows_of, has}
use Rattle.transpose_order.specs.MaskWords.{has-rows_of, rows_of-like, rows_of-same}
use Rattle.transpose_order.proofs.ByteLemmas.{bytes_of_bits-bit_of_bytes, bytes_of_bits-same}
use Rattle.query_eval.specs.Vector.{cell_at, vector_of}
use Rattle.query_eval.specs.declared.filter.kept_rows.KeptVector.{KeptVector}
use Rattle.query_eval.proofs.KeptLemmas.{no_true}
use Rattle.query_eval.proofs.Lifted.{rows_of-alike}
use Rattle.live_columns.specs.Bits.{AreMarked, front_bit}
use Rattle.live_columns.specs.Chosen.{cells_in, kept_in, numbers_at, picked}
use Rattle.live_columns.specs.Columns.{has_value, null_count, number_at, stride_of, validity}
use Rattle.live_columns.proofs.Picked.{picked-count, picked-map}
use Rattle.live_columns.proofs.RowLemmas.{cells-kept}

-- ---- numbers
-- what was decoded, with 0 written where the cell is null, is the cell's number
pub number-cleared : (o : Option ℤ) (b : Bool) (x y : ℤ) → b ≡ is_null (whole o) → ((z : ℤ) → o ≡ Some z → x ≡ z) → y ≡ cond b (pos 0) x → y ≡ number_at o
number-cleared None b x y e h k = k ∙ ap (λ t. cond t (pos 0) x) e
number-cleared (Some z) b x y e h k = k ∙ ap (λ t. cond t (pos 0) x) e ∙ h z refl

all_present : {X : Type 0} (f : ℕ → X) (ns : List ℕ) → present (map (λ n. Some (f n)) ns) ≡ map f ns
all_present f [] = refl
all_present f (n ∷ ns) = ap (λ l. f n ∷ l) (all_present f ns)

present_all : {X : Type 0} (f : ℕ → X) → present (rows_of (λ n. Some (f n))) ≡ rows_of f
unfolding rows_of
present_all f = all_present f (range_with_len 0 1024)

-- the numbers at all rows are all numbers
pub numbers-whole : (mask : List Bool) (numbers : List ℤ) → length numbers ≡ 1024 → ((n : ℕ) → n < 1024 → has mask n ≡ true) → numbers_at mask numbers ≡ numbers
numbers-whole mask numbers long all =
    let number : ℕ → ℤ = λ n. get_or numbers n (pos 0) in
    ap present (rows_of-alike (λ n. cond (has mask n) (Some (number n)) None) (λ n. Some (number n)) None (λ n l. ap (λ b. cond b (Some (number n)) None) (all n l)))
    ∙ present_all number ∙ sym (rows_of-same number numbers (pos 0) long (λ n l. refl))

-- the numbers of a vector's cells at the rows that are kept
pub vector-numbers : (s : State) (column : ℕ) (kept : KeptVector) (numbers : List ℤ) → ((n : ℕ) → n < 1024 → get_or numbers n (pos 0) ≡ number_at (cell_at (vector_of s kept.id) column n)) → numbers_at kept.rows numbers ≡ map number_at (cells_in column (kept_in s kept))
vector-numbers s column kept numbers h =
    picked-map number_at kept.rows (cell_at (vector_of s kept.id) column) (λ n. get_or numbers n (pos 0)) h ∙ ap (map number_at) (sym (cells-kept s column kept))

-- as many as rows
pub numbers-length : (s : State) (column : ℕ) (kept : KeptVector) → length (map number_at (cells_in column (kept_in s kept))) ≡ length (kept_in s kept)
numbers-length s column kept =
    length-map {B = ℤ} (cells_in column (kept_in s kept)) number_at ∙ length-map {B = Option ℤ} (kept_in s kept) _

-- ---- flags of nulls
null_is : (o : Option ℤ) → is_null (whole o) ≡ is_none o
null_is None = refl
null_is (Some z) = refl

-- which of a vector's cells at the rows that are kept are null
pub vector-flags : (s : State) (column : ℕ) (kept : KeptVector) (nulls : List Bool) → nulls ≡ rows_of (λ n. is_null (whole (cell_at (vector_of s kept.id) column n))) → picked kept.rows (has nulls) ≡ map is_none (cells_in column (kept_in s kept))
vector-flags s column kept nulls is =
    picked-map is_none kept.rows (cell_at (vector_of s kept.id) column) (has nulls)
    (λ n l. ap (λ m. has m n) is ∙ has-rows_of (λ k. is_null (whole (cell_at (vector_of s kept.id) column k))) n l ∙ null_is (cell_at (vector_of s kept.id) column n))
    ∙ ap (map is_none) (sym (cells-kept s column kept))

-- as many flags as nulls
pub flags-count : (cells : List (Option ℤ)) → count_by (λ b. b) (map is_none cells) ≡ null_count cells
flags-count [] = refl
flags-count (o ∷ cells) = omega (arith, flags-count cells, sum_by-cons (λ (b : Bool). cond b 1 0) (is_none o) (map is_none cells), sum_by-cons (λ (x : Option ℤ). cond (is_none x) 1 0) o cells)

-- as many as rows of both masks
pub both-count : (rows nulls both : List Bool) → both ≡ rows_of (λ n. has rows n && has nulls n) → count_by (λ b. b) both ≡ count_by (λ b. b) (picked rows (has nulls))
both-count rows nulls both is = ap (count_by (λ b. b)) is ∙ sym (picked-count (λ b. b) rows (has nulls))

-- ---- validity bits
never_below : (i : ℕ) → nat_lt i 0 ≡ false
never_below i = grind (arith, nat_tests)

first_below : (n : ℕ) → nat_lt 0 (suc n) ≡ true
first_below n = grind (arith, nat_tests)

next_below : (i n : ℕ) → nat_lt (suc i) (suc n) ≡ nat_lt i n
next_below i n = grind (arith, nat_tests)

bit_of_cell : (cells : List (Option ℤ)) (i : ℕ) → cond (has (map is_none cells) i) 0 (front_bit (length cells) i) ≡ cond (has_value cells i) 1 0
bit_of_cell [] i = ap (λ b. cond b 1 0) (never_below i)
bit_of_cell (None ∷ cells) zero = refl
bit_of_cell (Some z ∷ cells) zero = ap (λ b. cond b 1 0) (first_below (length cells))
bit_of_cell (o ∷ cells) (suc i) = ap (λ b. cond (has (map is_none cells) i) 0 (cond b 1 0)) (next_below i (length cells)) ∙ bit_of_cell cells i

-- bytes in which each null is marked are those of the validity bits
pub valid-done : (cells : List (Option ℤ)) (bytes : List ℕ) → length bytes ≡ stride_of (length cells) → ((k : ℕ) → get_or bytes k 0 < 2 ^ 8) → AreMarked (front_bit (length cells)) (map is_none cells) bytes → bytes ≡ validity cells
unfolding validity
valid-done cells bytes long fits marked =
    bytes_of_bits-bit_of_bytes (stride_of (length cells)) bytes long (λ i l. fits i)
    ∙ bytes_of_bits-same (stride_of (length cells)) (bit_of_bytes bytes) (λ i. cond (has_value cells i) 1 0) (λ i l. marked i ∙ bit_of_cell cells i)
