-- One step of each loop over the rows, words and runs of a vector.
use Rattle.std.proofs.Common.{◌≡◌, ◌==◌, ℕ, zero, suc, ◌+◌, ◌-◌, ◌*◌, ◌/◌, ◌%◌, ◌^◌, ◌<◌, ◌≤◌, Bool, true, false, cond, ℤ, pos, List, [], ◌∷◌, ◌++◌, length, take, set, slice_index_or, bit_or, ◌⊎◌, inl, inr, refl, sym, ap, ◌∙◌, subst, arith}
use Rattle.std.specs.Int.{bit_at, w64}
use Rattle.std.proofs.lemmas.Bool.{cases_lt, cases_Bool}
use Rattle.std.specs.Int.Bits.{or_zero_r}
use mir.Val.{bool_byte}
use Rattle.std.proofs.lemmas.List.{take_more_set, take-set}
use Rattle.std.proofs.lemmas.Nat.Bits.{bit_at_set_same, bit_at_set_other}
use Rattle.transpose_order.specs.Mask.{rows_of, has, count_below}
use Rattle.transpose_order.specs.MaskWords.{rows_of-same}
use Rattle.transpose_order.specs.Place.{IsLaneWidth}
use Rattle.transpose_order.proofs.WidthLemmas.{at_widths}
use Rattle.transpose_order.proofs.MaskLemmas.{count_below-zero, count_below-suc, count_below-same, count_below-le, count_below-add}
use Rattle.run_dictionary.specs.Runs.{RunForm, IsRunForm, run_of, changes_at, changed_values}
use Rattle.run_dictionary.proofs.CountLemmas.{count_below-yes, count_below-no, count_below-rises, count_below-stays}
use Rattle.run_dictionary.proofs.RunLemmas.{changed_values-yes, changed_values-no, changed_values-one}

-- a truth value as a number
pub number_of_truth : (b : Bool) → bool_byte b ≡ cond b 1 0
number_of_truth true = refl
number_of_truth false = refl

-- ---- a word made bit by bit
abbrev pub HasBitsBelow : (ℕ → Bool) → ℕ → ℕ → Type 0
HasBitsBelow f word p = (q : ℕ) → q < p → (bit_at word q == 1) ≡ f q

abbrev pub HasNoBitsFrom : ℕ → ℕ → Type 0
HasNoBitsFrom word p = (q : ℕ) → p ≤ q → q < 64 → bit_at word q ≡ 0

pub bit_set_more : (f : ℕ → Bool) (old new p : ℕ) → p < 64 → new ≡ bit_or old (1 * 2 ^ p % 2 ^ 64) → f p ≡ true → HasBitsBelow f old p → HasNoBitsFrom old p → HasBitsBelow f new (p + 1) × HasNoBitsFrom new (p + 1)
bit_set_more f old new p h is on below above = (
  λ q l. by_place q (cases_lt q p) l,
  λ q l m. ap (λ w. bit_at w q) is ∙ bit_at_set_other w64 old p h q (λ e. omega arith) ∙ above q (omega arith) m,
)
  where
    by_place : (q : ℕ) → (q < p) ⊎ (p ≤ q) → q < p + 1 → (bit_at new q == 1) ≡ f q
    by_place q (inl l) _ = ap (λ w. bit_at w q == 1) is ∙ ap (λ b. b == 1) (bit_at_set_other w64 old p h q (λ e. omega arith)) ∙ below q l
    by_place q (inr l) m =
        let last : p ≡ q = omega arith in
        subst (λ (q : ℕ). (bit_at new q == 1) ≡ f q) last (ap (λ w. bit_at w p == 1) is ∙ ap (λ b. b == 1) (bit_at_set_same w64 old p h) ∙ sym on)

pub bit_skip_more : (f : ℕ → Bool) (old new p : ℕ) → p < 64 → new ≡ old → f p ≡ false → HasBitsBelow f old p → HasNoBitsFrom old p → HasBitsBelow f new (p + 1) × HasNoBitsFrom new (p + 1)
bit_skip_more f old new p h is off below above =
    (λ q l. by_place q (cases_lt q p) l, λ q l m. ap (λ w. bit_at w q) is ∙ above q (omega arith) m)
  where
    by_place : (q : ℕ) → (q < p) ⊎ (p ≤ q) → q < p + 1 → (bit_at new q == 1) ≡ f q
    by_place q (inl l) _ = ap (λ w. bit_at w q == 1) is ∙ below q l
    by_place q (inr l) m =
        let last : p ≡ q = omega arith in
        subst (λ (q : ℕ). (bit_at new q == 1) ≡ f q) last (ap (λ w. bit_at w p == 1) is ∙ ap (λ b. b == 1) (above p (omega arith) h) ∙ sym off)

pub bit_more : (f : ℕ → Bool) (old bit p : ℕ) → p < 64 → bit ≡ cond (f p) 1 0 → HasBitsBelow f old p → HasNoBitsFrom old p → HasBitsBelow f (bit_or old (bit * 2 ^ p % 2 ^ 64)) (p + 1) × HasNoBitsFrom (bit_or old (bit * 2 ^ p % 2 ^ 64)) (p + 1)
bit_more f old bit p h is below above = by_test (cases_Bool (f p))
  where
    by_test : (f p ≡ true) ⊎ (f p ≡ false) → HasBitsBelow f (bit_or old (bit * 2 ^ p % 2 ^ 64)) (p + 1) × HasNoBitsFrom (bit_or old (bit * 2 ^ p % 2 ^ 64)) (p + 1)
    by_test (inl e) =
        let one : bit ≡ 1 = is ∙ ap (λ b. cond b 1 0) e in
        bit_set_more f old _ p h (ap (λ n. bit_or old (n * 2 ^ p % 2 ^ 64)) one) e below above
    by_test (inr e) =
        let none : bit ≡ 0 = is ∙ ap (λ b. cond b 1 0) e in
        let nothing : 0 * 2 ^ p % 2 ^ 64 ≡ 0 = omega arith in
        bit_skip_more f old _ p h (ap (λ n. bit_or old (n * 2 ^ p % 2 ^ 64)) none ∙ ap (bit_or old) nothing ∙ or_zero_r old) e below above

-- ---- the values of the runs
pub changed_values-stay : (v : ℕ → ℤ) (row : ℕ) → 0 < row → changes_at v row ≡ false → changed_values v (row + 1) ≡ changed_values v row
changed_values-stay v zero h e = absurd (omega arith)
changed_values-stay v (suc n) h e = ap (changed_values v) (let s : suc n + 1 ≡ suc (suc n) = omega arith in s) ∙ changed_values-no v n e

pub changed_values-push : (v : ℕ → ℤ) (row count : ℕ) (into : List ℤ) → count < length into → changes_at v row ≡ true → take count into ≡ changed_values v row → take (count + 1) (set into count (v row)) ≡ changed_values v (row + 1)
changed_values-push v row count into h e written =
    take_more_set into count (v row) h ∙ ap (λ xs. xs ++ v row ∷ []) written ∙ sym (changed_values-yes v row e) ∙ ap (changed_values v) (let s : suc row ≡ row + 1 = omega arith in s)

-- a value that doesn't change is written beyond the values so far
pub changed_values-more : (v : ℕ → ℤ) (row count one : ℕ) (into : List ℤ) → 0 < row → count < length into → one ≡ cond (changes_at v row) 1 0 → take count into ≡ changed_values v row → take (count + one) (set into count (v row)) ≡ changed_values v (row + 1)
changed_values-more v row count one into some h is written = by_test (cases_Bool (changes_at v row))
  where
    by_test : (changes_at v row ≡ true) ⊎ (changes_at v row ≡ false) → take (count + one) (set into count (v row)) ≡ changed_values v (row + 1)
    by_test (inl e) =
        let more : count + one ≡ count + 1 = ap (λ n. count + n) (is ∙ ap (λ b. cond b 1 0) e) in
        ap (λ n. take n (set into count (v row))) more ∙ changed_values-push v row count into h e written
    by_test (inr e) =
        let none : one ≡ 0 = is ∙ ap (λ b. cond b 1 0) e in
        let stays : count + one ≡ count = omega (arith, none) in
        ap (λ n. take n (set into count (v row))) stays ∙ take-set into count (v row) ∙ written ∙ sym (changed_values-stay v row some e)

pub one_at_most : (b : Bool) → cond b 1 0 ≤ 1
one_at_most true = omega arith
one_at_most false = omega arith

pub changed_values-first : (v : ℕ → ℤ) (into : List ℤ) → 0 < length into → take 1 (set into 0 (v 0)) ≡ changed_values v 1
changed_values-first v into h = take_more_set into 0 (v 0) h ∙ sym (changed_values-one v)

-- ---- the run of a row
pub count_changes-more : (p : ℕ → Bool) (row : ℕ) → 0 < row → (p (row - 1) ≡ true → count_below p (row + 1 - 1) ≡ count_below p (row - 1) + 1) × (p (row - 1) ≡ false → count_below p (row + 1 - 1) ≡ count_below p (row - 1))
count_changes-more p row h =
    let next : row + 1 - 1 ≡ suc (row - 1) = omega arith in
    (λ e. ap (count_below p) next ∙ count_below-yes p (row - 1) e, λ e. ap (count_below p) next ∙ count_below-no p (row - 1) e)

-- while no run starts the run stays
pub run_stays : (starts : List Bool) (row end n : ℕ) → ((i : ℕ) → row + 1 ≤ i → i < end → has starts i ≡ false) → row ≤ n → n < end → run_of starts n ≡ run_of starts row
run_stays starts row end n none h l = count_below-stays (λ i. has starts (suc i)) row n h (λ i from below. none (suc i) (omega arith) (omega arith))

-- a start begins the next run
pub run_begins : (starts : List Bool) (row end : ℕ) → ((i : ℕ) → row + 1 ≤ i → i < end → has starts i ≡ false) → row < end → has starts end ≡ true → run_of starts end ≡ run_of starts row + 1
run_begins starts row zero none h on = absurd (omega arith)
run_begins starts row (suc end) none h on =
    count_below-yes (λ i. has starts (suc i)) end on ∙ ap (λ k. k + 1) (run_stays starts row (suc end) end none (omega arith) (omega arith))

-- the starts up to a row, counted from row 0 on
pub run_of-count : (starts : List Bool) (n : ℕ) → has starts 0 ≡ false → count_below (has starts) (n + 1) ≡ run_of starts n
run_of-count starts n first =
    let turned : n + 1 ≡ 1 + n = omega arith in
    let none : count_below (has starts) 1 ≡ 0 = count_below-no (has starts) 0 first ∙ count_below-zero (has starts) in
    let same : count_below (λ i. has starts (1 + i)) n ≡ run_of starts n =
    count_below-same (λ i. has starts (1 + i)) (λ i. has starts (suc i)) n (λ i _. ap (has starts) (let s : 1 + i ≡ suc i = omega arith in s)) in
    ap (count_below (has starts)) turned ∙ count_below-add (has starts) 1 n ∙ omega (arith, none, same)

-- the starts after row 0 are all but the one of row 0
pub run_of-all : (starts : List Bool) → count_below (has starts) 1024 ≡ count_below (has starts) 1 + run_of starts 1023
run_of-all starts =
    let same : count_below (λ i. has starts (1 + i)) 1023 ≡ run_of starts 1023 =
    count_below-same (λ i. has starts (1 + i)) (λ i. has starts (suc i)) 1023 (λ i _. ap (has starts) (let s : 1 + i ≡ suc i = omega arith in s)) in
    count_below-add (has starts) 1 1023 ∙ ap (λ k. count_below (has starts) 1 + k) same

-- the starts before a row, and the row's own, are its run
pub run_of-more : (starts : List Bool) (row run one : ℕ) → has starts 0 ≡ false → run ≡ count_below (has starts) row → one ≡ cond (has starts row) 1 0 → (run + one ≡ run_of starts row) × (run + one ≡ count_below (has starts) (row + 1))
run_of-more starts row run one first is new =
    let next : suc row ≡ row + 1 = omega arith in
    let counted : run + one ≡ count_below (has starts) (row + 1) = ap (λ k. k + one) is ∙ ap (λ k. count_below (has starts) row + k) new ∙ sym (count_below-suc (has starts) row) ∙ ap (count_below (has starts)) next in
    (counted ∙ run_of-count starts row first, counted)

pub run_of-bound : (form : RunForm) → IsRunForm form → length form.values ≤ 1024
run_of-bound form f = omega (arith, f.count, count_below-le (λ i. has form.starts (suc i)) 1023)

-- the bytes of at most 1024 values
pub bytes-fit : (t : ℕ) → IsLaneWidth t → (count : ℕ) → count ≤ 1024 → (count * t < 2 ^ 64) × (128 + count * t / 8 < 2 ^ 16)
bytes-fit =
    at_widths (λ t. (count : ℕ) → count ≤ 1024 → (count * t < 2 ^ 64) × (128 + count * t / 8 < 2 ^ 16))
    (λ count h. (omega arith, omega arith)) (λ count h. (omega arith, omega arith)) (λ count h. (omega arith, omega arith)) (λ count h. (omega arith, omega arith))

-- ---- the loop over the runs
-- the rows before a row are written, and the row begins the next run
pub record RunsWritten (starts : List Bool) (runs into : List ℤ) (row index : ℕ) : Type 0 where
  pub long : length into ≡ 1024
  pub within : row ≤ 1024
  pub written : (n : ℕ) → n < row → slice_index_or into n (pos 0) ≡ slice_index_or runs (run_of starts n) (pos 0)
  pub begins : row < 1024 → run_of starts row ≡ index
  pub last : row ≡ 1024 → index ≡ length runs

pub RunsWritten-more : (starts : List Bool) (runs old new : List ℤ) (row end index : ℕ) → RunsWritten starts runs old row index → length runs ≡ run_of starts 1023 + 1 → index < length runs → row + 1 ≤ end → end ≤ 1024
    → ((i : ℕ) → row + 1 ≤ i → i < end → has starts i ≡ false) → (end < 1024 → has starts end ≡ true) → length new ≡ 1024
    → ((n : ℕ) → row ≤ n → n < end → slice_index_or new n (pos 0) ≡ slice_index_or runs index (pos 0)) → ((n : ℕ) → n < row → slice_index_or new n (pos 0) ≡ slice_index_or old n (pos 0)) → RunsWritten starts runs new end (index + 1)
RunsWritten-more starts runs old new row end index was count inside order within none start long filled others =
    let before : row < 1024 = omega arith in
    let here : run_of starts row ≡ index = was.begins before in
    record {
      long = long;
      within = within;
      written = λ n l. by_place n l (cases_lt n row);
      begins = λ l. run_begins starts row end none (omega arith) (start l) ∙ ap (λ k. k + 1) here;
      last = λ e. omega (arith, count, run_stays starts row end 1023 none (omega arith) (omega arith), here);
    }
  where
    by_place : (n : ℕ) → n < end → (n < row) ⊎ (row ≤ n) → slice_index_or new n (pos 0) ≡ slice_index_or runs (run_of starts n) (pos 0)
    by_place n l (inl m) = others n m ∙ was.written n m
    by_place n l (inr m) = filled n m l ∙ ap (λ k. slice_index_or runs k (pos 0)) (sym (run_stays starts row end n none m l ∙ was.begins (omega arith)))

pub RunsWritten-all : (starts : List Bool) (runs into : List ℤ) (row index : ℕ) → RunsWritten starts runs into row index → length runs ≡ run_of starts 1023 + 1 → length runs ≤ index → into ≡ rows_of (λ n. slice_index_or runs (run_of starts n) (pos 0))
RunsWritten-all starts runs into row index was count done =
    let whole : row ≡ 1024 = by_row (cases_lt row 1024) in
    rows_of-same (λ n. slice_index_or runs (run_of starts n) (pos 0)) into (pos 0) was.long (λ n l. was.written n (omega arith))
  where
    by_row : (row < 1024) ⊎ (1024 ≤ row) → row ≡ 1024
    by_row (inl l) = absurd (omega (arith, was.begins l, count_below-rises (λ i. has starts (suc i)) row 1023 (omega arith)))
    by_row (inr l) = omega (arith, was.within)
