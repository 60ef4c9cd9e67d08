-- Lists of which the same places have equal elements have as many distinct values; the loop that marks and counts numbers.
use Rattle.std.proofs.Common.{◌≡◌, ℕ, zero, suc, ◌+◌, ◌*◌, ◌/◌, ◌%◌, ◌^◌, of_z, ◌<◌, ◌≤◌, ◌==◌, Bool, true, false, cond, ℤ, pos, negsuc, rules, ◌↔◌, List, [], ◌∷◌, ◌++◌, map, take, drop, length, get_or, set, replicate, FitsSigned, ◌⊎◌, inl, inr, refl, sym, ap, ◌∙◌, subst, arith}
use Rattle.std.specs.Int.{w64, cast_signed, cast_unsigned}
use Rattle.std.proofs.lemmas.Int.{of_z-to_z}
use Rattle.std.proofs.lemmas.Bool.{cases_lt, cases_Bool, both_ways, eqb-true, eqb-false}
use Rattle.std.proofs.lemmas.List.{get_or-set_same, get_or-set_other, length-map, length-take, get_or-take, take_more, take-append-drop, get_or_default}
use Rattle.std.proofs.Math.ListN.{get_or-map}
use Rattle.transpose_order.specs.Mask.{rows_of, has}
use Rattle.transpose_order.specs.MaskWords.{get_or-rows_of, length-rows_of}
use Rattle.bit_interleave.specs.Places.{row_of_index, by_place}
use Rattle.bit_interleave.proofs.PlacesLemmas.{index_of_row-below, row_of_index-below, by_place-row_of_index}
use Rattle.bit_interleave.specs.Range.{value_at}
use Rattle.run_dictionary.specs.Dict.{distinct}
use Rattle.run_dictionary.specs.Runs.{RunForm, IsRunForm, run_of, run_value, run_values}
use Rattle.run_dictionary.proofs.EqualLemmas.{same_numbers}
use Rattle.run_dictionary.proofs.RunLemmas.{row_of_run, run_of-within}
use Rattle.run_dictionary.specs.Keys.{mark_of, marks_of}
use Rattle.run_dictionary.proofs.OrderLemmas.{Has, Has-append, Has-append_left, Has-append_right, Has-get_or, Ascends-distinct, Has-distinct, Has-from_distinct, length-le_from_members, length-distinct, place_of_member}
use Rattle.run_dictionary.proofs.KeyLemmas.{decided, distinct-same, distinct-old, distinct-push, length-distinct_new, fewer_keys}
use Rattle.run_dictionary.proofs.DictLemmas.{none_marked}

-- ---- as many distinct values
-- two lists have equal elements at the same pairs of places
abbrev pub EqualAlike : List ℤ → List ℤ → Type 0
EqualAlike xs ys = (m n : ℕ) → m < length xs → n < length xs → (value_at xs m ≡ value_at xs n) ↔ (value_at ys m ≡ value_at ys n)

pub as_many_distinct : (xs ys : List ℤ) → length xs ≡ length ys → EqualAlike xs ys → length (distinct xs) ≡ length (distinct ys)
unfolding distinct
as_many_distinct [] [] l h = refl
as_many_distinct [] (y ∷ ys) l h = absurd (omega (arith, l))
as_many_distinct (x ∷ xs) [] l h = absurd (omega (arith, l))
as_many_distinct (x ∷ xs) (y ∷ ys) l h =
    let long : length xs ≡ length ys = omega (arith, l) in
    by_member long (decided x xs) (as_many_distinct xs ys long (λ m n a b. h (suc m) (suc n) (omega arith) (omega arith)))
  where
    old_alike : length xs ≡ length ys → (k : ℕ) × (k < length xs) × (get_or xs k (pos 0) ≡ x) → Has y ys
    old_alike long (k, w, e) = subst (λ (z : ℤ). Has z ys) ((h (suc k) 0 (omega arith) (omega arith)).0 e) (Has-get_or ys k (omega (arith, w, long)))

    old_back : length xs ≡ length ys → (k : ℕ) × (k < length ys) × (get_or ys k (pos 0) ≡ y) → Has x xs
    old_back long (k, w, e) = subst (λ (z : ℤ). Has z xs) ((h (suc k) 0 (omega (arith, w, long)) (omega arith)).1 e) (Has-get_or xs k (omega (arith, w, long)))

    by_member : length xs ≡ length ys → Has x xs ⊎ (Has x xs → ⊥) → length (distinct xs) ≡ length (distinct ys) → length (distinct (x ∷ xs)) ≡ length (distinct (y ∷ ys))
    by_member long (inl g) ih = ap length (distinct-old x xs g) ∙ ih ∙ sym (ap length (distinct-old y ys (old_alike long (place_of_member x xs g))))
    by_member long (inr n) ih =
        length-distinct_new x xs n ∙ ap (λ k. k + 1) ih ∙ sym (length-distinct_new y ys (λ g. n (old_back long (place_of_member y ys g))))

-- numbers by places have the distinct values of their rows
distinct-by_place : (numbers : List ℕ) → length numbers ≡ 1024 → distinct (map pos numbers) ≡ distinct (rows_of (λ n. pos (by_place numbers n)))
distinct-by_place numbers long = distinct-same (map pos numbers) (rows_of (λ n. pos (by_place numbers n))) there back
  where
    there : (z : ℤ) → Has z (map pos numbers) → Has z (rows_of (λ n. pos (by_place numbers n)))
    there z h =
        let r = place_of_member z (map pos numbers) h in
        let within : r.0 < 1024 = omega (arith, r.1, length-map numbers pos, long) in
        let row : row_of_index r.0 < 1024 = row_of_index-below r.0 within in
        let is : get_or (rows_of (λ n. pos (by_place numbers n))) (row_of_index r.0) (pos 0) ≡ z =
        get_or-rows_of (λ n. pos (by_place numbers n)) (row_of_index r.0) (pos 0) row ∙ ap pos (by_place-row_of_index numbers r.0 within) ∙ sym (get_or-map pos numbers r.0 0) ∙ r.2 in
        subst (λ (z : ℤ). Has z (rows_of (λ n. pos (by_place numbers n)))) is (Has-get_or (rows_of (λ n. pos (by_place numbers n))) (row_of_index r.0) (omega (arith, row, length-rows_of (λ n. pos (by_place numbers n)))))

    back : (z : ℤ) → Has z (rows_of (λ n. pos (by_place numbers n))) → Has z (map pos numbers)
    back z h =
        let r = place_of_member z (rows_of (λ n. pos (by_place numbers n))) h in
        let within : r.0 < 1024 = omega (arith, r.1, length-rows_of (λ n. pos (by_place numbers n))) in
        let index = index_of_row-below r.0 within in
        let is : get_or (map pos numbers) (16 * (r.0 % 64) + r.0 / 64) (pos 0) ≡ z =
        get_or-map pos numbers (16 * (r.0 % 64) + r.0 / 64) 0 ∙ sym (get_or-rows_of (λ n. pos (by_place numbers n)) r.0 (pos 0) within) ∙ r.2 in
        subst (λ (z : ℤ). Has z (map pos numbers)) is (Has-get_or (map pos numbers) (16 * (r.0 % 64) + r.0 / 64) (omega (arith, index, length-map numbers pos, long)))

-- rows that are equal exactly where their numbers by places are have as many distinct values as these
pub distinct_by_places : (numbers : List ℕ) (values : List ℤ) → length numbers ≡ 1024 → length values ≡ 1024 → ((m n : ℕ) → m < 1024 → n < 1024 → (by_place numbers m ≡ by_place numbers n) ↔ (value_at values m ≡ value_at values n)) → length (distinct (map pos numbers)) ≡ length (distinct values)
distinct_by_places numbers values long rows same =
    ap length (distinct-by_place numbers long)
    ∙ as_many_distinct (rows_of (λ n. pos (by_place numbers n))) values (length-rows_of (λ n. pos (by_place numbers n)) ∙ sym rows)
    (λ m n a b.
    let first : m < 1024 = omega (arith, a, length-rows_of (λ n. pos (by_place numbers n))) in
    let second : n < 1024 = omega (arith, b, length-rows_of (λ n. pos (by_place numbers n))) in
    let left = get_or-rows_of (λ n. pos (by_place numbers n)) m (pos 0) first in
    let right = get_or-rows_of (λ n. pos (by_place numbers n)) n (pos 0) second in
    (λ e. (same m n first second).0 (let p : pos (by_place numbers m) ≡ pos (by_place numbers n) = sym left ∙ e ∙ right in cc), λ e. left ∙ ap pos ((same m n first second).1 e) ∙ sym right))

-- ---- the loop over the numbers
-- the keys so far are marked and counted
pub record MarksCounted (keys : List ℤ) (marks : List Bool) (count i : ℕ) : Type 0 where
  pub long : length marks ≡ 4096
  pub marked : (k : ℕ) → (get_or marks k false ≡ true) ↔ Has (pos k) (take i keys)
  pub counted : count ≡ length (distinct (take i keys))

pub MarksCounted-none : (keys : List ℤ) → MarksCounted keys (replicate 4096 false) 0 0
unfolding distinct
MarksCounted-none keys = record {
  long = refl;
  marked = λ k. (λ t. absurd (both_ways _ (none_marked 4096 k) t), λ h. elim h [ ]);
  counted = refl;
}

pub MarksCounted-more : (keys : List ℤ) (old : List Bool) (count one i key : ℕ) → i < length keys → MarksCounted keys old count i → key < 4096 → get_or keys i (pos 0) ≡ pos key → one ≡ cond (get_or old key false) 0 1 → MarksCounted keys (set old key true) (count + one) (i + 1)
MarksCounted-more keys old count one i key h was small is new_one = record {
  long = search rules;
  marked = λ k. subst (λ (xs : List ℤ). (get_or (set old key true) k false ≡ true) ↔ Has (pos k) xs) (sym more) (λ t. has_key k (cases_Bool (k == key)) t, λ g. mark_of_key k (cases_Bool (k == key)) (Has-append (pos k) (take i keys) (pos key ∷ []) g));
  counted = subst (λ (xs : List ℤ). count + one ≡ length (distinct xs)) (sym more) (ap (λ k. count + k) new_one ∙ one_more (cases_Bool (get_or old key false)) ∙ sym (ap length (distinct-push (take i keys) (pos key))));
}
  where
    more : take (i + 1) keys ≡ take i keys ++ pos key ∷ []
    more = take_more keys i (pos 0) h ∙ ap (λ z. take i keys ++ z ∷ []) is

    has_key : (k : ℕ) → ((k == key) ≡ true) ⊎ ((k == key) ≡ false) → get_or (set old key true) k false ≡ true → Has (pos k) (take i keys ++ pos key ∷ [])
    has_key k (inl e) t = Has-append_right (pos k) (take i keys) (pos key ∷ []) (inl (ap pos (eqb-true k key e)))
    has_key k (inr e) t = Has-append_left (pos k) (take i keys) (pos key ∷ []) ((was.marked k).0 (sym (get_or-set_other old key k true false (eqb-false k key e)) ∙ t))

    mark_of_key : (k : ℕ) → ((k == key) ≡ true) ⊎ ((k == key) ≡ false) → Has (pos k) (take i keys) ⊎ Has (pos k) (pos key ∷ []) → get_or (set old key true) k false ≡ true
    mark_of_key k (inl e) _ = ap (λ j. get_or (set old key true) j false) (eqb-true k key e) ∙ get_or-set_same old key true false (omega (arith, small, was.long))
    mark_of_key k (inr e) (inl g) = get_or-set_other old key k true false (eqb-false k key e) ∙ (was.marked k).1 g
    mark_of_key k (inr e) (inr (inl f)) = absurd (eqb-false k key e (let same : k ≡ key = cc in same))
    mark_of_key k (inr e) (inr (inr g)) = elim g [ ]

    one_more : (get_or old key false ≡ true) ⊎ (get_or old key false ≡ false) → count + cond (get_or old key false) 0 1 ≡ length (distinct (pos key ∷ take i keys))
    one_more (inl t) =
        let stays : count + cond (get_or old key false) 0 1 ≡ count = ap (λ b. count + cond b 0 1) t ∙ omega arith in
        stays ∙ was.counted ∙ sym (ap length (distinct-old (pos key) (take i keys) ((was.marked key).0 t)))
    one_more (inr f) =
        ap (λ b. count + cond b 0 1) f ∙ ap (λ k. k + 1) was.counted ∙ sym (length-distinct_new (pos key) (take i keys) (λ h. both_ways _ f ((was.marked key).1 h)))

-- the keys of a front are no more than all
pub MarksCounted-front : (keys : List ℤ) (marked : List Bool) (count i : ℕ) → MarksCounted keys marked count i → count ≤ length (distinct keys)
MarksCounted-front keys marked count i h =
    omega (
      arith,
      h.counted,
      length-le_from_members (distinct (take i keys)) (distinct keys) (Ascends-distinct (take i keys)) (Ascends-distinct keys)
          (λ z g. Has-distinct z keys (subst (λ (xs : List ℤ). Has z xs) (take-append-drop i keys) (Has-append_left z (take i keys) (drop i keys) (Has-from_distinct z (take i keys) g)))),
    )

pub MarksCounted-bound : (keys : List ℤ) (marked : List Bool) (count i : ℕ) → MarksCounted keys marked count i → count ≤ length keys
MarksCounted-bound keys marked count i h = omega (arith, MarksCounted-front keys marked count i h, length-distinct keys)

-- ---- marks of numbers
pub mark_of-below : (number : ℕ) → mark_of number < 4096
unfolding mark_of
mark_of-below number = omega arith

pub mark_of-small : (number : ℕ) → number < 4096 → mark_of number ≡ number
unfolding mark_of
mark_of-small number h = omega (arith, h)

-- there are no more marks than numbers
pub fewer_marks : (numbers : List ℕ) → length (distinct (marks_of numbers)) ≤ length (distinct (map pos numbers))
fewer_marks numbers = omega (arith, fewer_keys mark (map pos numbers), ap (λ xs. length (distinct xs)) (marks numbers))
  where
    mark : ℤ → ℤ
    mark (pos n) = pos (mark_of n)
    mark (negsuc n) = pos 0

    marks : (ns : List ℕ) → map mark (map pos ns) ≡ marks_of ns
    marks [] = refl
    marks (n ∷ ns) = ap (λ xs. pos (mark_of n) ∷ xs) (marks ns)

-- small numbers are their marks
pub marks_of-small : (numbers : List ℕ) → ((i : ℕ) → i < length numbers → get_or numbers i 0 < 4096) → marks_of numbers ≡ map pos numbers
marks_of-small [] h = refl
marks_of-small (n ∷ ns) h =
    let first : pos (mark_of n) ≡ pos n = ap pos (mark_of-small n (h 0 (omega arith))) in
    let rest = marks_of-small ns (λ i l. h (suc i) (omega arith)) in
    λ i. first i ∷ rest i

-- numbers of 64 bits, read as signed, with the first after the last, have as many distinct values as the numbers
pub distinct-signed : (values : List ℤ) (numbers : List ℕ) → 0 < length numbers → length numbers ≤ 1024 → length values ≡ 1024 → ((k : ℕ) → k < length numbers → value_at values k ≡ cast_signed w64 (get_or numbers k 0)) → ((k : ℕ) → length numbers ≤ k → k < 1024 → value_at values k ≡ cast_signed w64 (get_or numbers 0 0)) → ((k : ℕ) → k < length numbers → get_or numbers k 0 < 2 ^ 64) → length (distinct values) ≡ length (distinct (map pos numbers))
distinct-signed values numbers some many long front rest fit =
    ap length (distinct-same values signed there back) ∙ as_many_distinct signed (map pos numbers) (length-map numbers (cast_signed w64) ∙ sym (length-map numbers pos)) alike
  where
    signed : List ℤ
    signed = map (cast_signed w64) numbers

    at : (k : ℕ) → k < length numbers → get_or signed k (pos 0) ≡ cast_signed w64 (get_or numbers k 0)
    at k h = get_or_default signed k (pos 0) (cast_signed w64 0) (omega (arith, h, length-map numbers (cast_signed w64))) ∙ get_or-map (cast_signed w64) numbers k 0

    has_at : (k : ℕ) → k < length numbers → Has (cast_signed w64 (get_or numbers k 0)) signed
    has_at k h = subst (λ (z : ℤ). Has z signed) (at k h) (Has-get_or signed k (omega (arith, h, length-map numbers (cast_signed w64))))

    by_place_in : (k : ℕ) → k < 1024 → (k < length numbers) ⊎ (length numbers ≤ k) → Has (value_at values k) signed
    by_place_in k l (inl h) = subst (λ (z : ℤ). Has z signed) (sym (front k h)) (has_at k h)
    by_place_in k l (inr h) = subst (λ (z : ℤ). Has z signed) (sym (rest k h l)) (has_at 0 some)

    there : (z : ℤ) → Has z values → Has z signed
    there z h = let r = place_of_member z values h in subst (λ (z : ℤ). Has z signed) r.2 (by_place_in r.0 (omega (arith, r.1, long)) (cases_lt r.0 (length numbers)))

    back : (z : ℤ) → Has z signed → Has z values
    back z h =
        let r = place_of_member z signed h in
        let within : r.0 < length numbers = omega (arith, r.1, length-map numbers (cast_signed w64)) in
        subst (λ (z : ℤ). Has z values) (front r.0 within ∙ sym (at r.0 within) ∙ r.2) (Has-get_or values r.0 (omega (arith, within, many, long)))

    alike : EqualAlike signed (map pos numbers)
    alike m n a b =
        let first : m < length numbers = omega (arith, a, length-map numbers (cast_signed w64)) in
        let second : n < length numbers = omega (arith, b, length-map numbers (cast_signed w64)) in
        let left = get_or-map pos numbers m 0 in
        let right = get_or-map pos numbers n 0 in (
          λ e. left ∙ ap pos (sym (of_z-to_z w64 (get_or numbers m 0) (fit m first)) ∙ ap (of_z w64) (sym (at m first) ∙ e ∙ at n second) ∙ of_z-to_z w64 (get_or numbers n 0) (fit n second)) ∙ sym right,
          λ e. at m first ∙ ap (cast_signed w64) (let p : pos (get_or numbers m 0) ≡ pos (get_or numbers n 0) = sym left ∙ e ∙ right in cc) ∙ sym (at n second),
        )

pub mark_at : (numbers : List ℕ) (i mark : ℕ) → i < length numbers → mark ≡ mark_of (get_or numbers i 0) → get_or (marks_of numbers) i (pos 0) ≡ pos mark
mark_at numbers i mark h is =
    get_or_default (marks_of numbers) i (pos 0) (pos (mark_of 0)) (omega (arith, h, length-map numbers (λ number. pos (mark_of number)))) ∙ get_or-map (λ number. pos (mark_of number)) numbers i 0 ∙ ap pos (sym is)

pub all_same-values : (n k : ℕ) (z : ℤ) → k < n → get_or (replicate n z) k (pos 0) ≡ z
all_same-values zero k z h = absurd (omega (arith, h))
all_same-values (suc n) zero z h = refl
all_same-values (suc n) (suc k) z h = all_same-values n k z (omega (arith, h))

-- the bits of values have as many distinct numbers as there are distinct values
pub distinct-bits : (values : List ℤ) (numbers : List ℕ) → length values ≤ 1024 → length numbers ≡ 1024 → ((i : ℕ) → i < length values → get_or numbers i 0 ≡ cast_unsigned w64 (value_at values i)) → ((i : ℕ) → i < length values → FitsSigned w64 (value_at values i)) → length (distinct (map pos (take (length values) numbers))) ≡ length (distinct values)
distinct-bits values numbers many long bits fit = as_many_distinct (map pos front) values (length-map front pos ∙ short) alike
  where
    front : List ℕ
    front = take (length values) numbers

    short : length front ≡ length values
    short = omega (arith, length-take (length values) numbers, many, long)

    at : (i : ℕ) → i < length (map pos front) → value_at (map pos front) i ≡ pos (cast_unsigned w64 (value_at values i))
    at i h =
        let within : i < length values = omega (arith, h, length-map front pos, short) in
        get_or-map pos front i 0 ∙ ap pos (get_or-take (length values) numbers i 0 within ∙ bits i within)

    alike : EqualAlike (map pos front) values
    alike m n a b =
        let first : m < length values = omega (arith, a, length-map front pos, short) in
        let second : n < length values = omega (arith, b, length-map front pos, short) in (
          λ e. same_numbers _ _ (fit m first) (fit n second) (bare _ _ (sym (at m a) ∙ e ∙ at n b)),
          λ e. at m a ∙ ap (λ z. pos (cast_unsigned w64 z)) e ∙ sym (at n b),
        )
      where
        bare : (a b : ℕ) → pos a ≡ pos b → a ≡ b
        bare a b e = cc

-- the runs have the distinct values of the rows
pub distinct-of_runs : (form : RunForm) → IsRunForm form → distinct form.values ≡ distinct (run_values form)
unfolding run_values
distinct-of_runs form f = distinct-same form.values (rows_of (run_value form)) there back
  where
    there : (z : ℤ) → Has z form.values → Has z (rows_of (run_value form))
    there z h =
        let r = place_of_member z form.values h in
        let row = row_of_run (λ i. has form.starts (suc i)) 1023 r.0 (omega (arith, f.count, r.1)) in
        let within : row.0 < 1024 = omega (arith, row.1) in
        subst (λ (z : ℤ). Has z (rows_of (run_value form))) (get_or-rows_of (run_value form) row.0 (pos 0) within ∙ ap (λ j. get_or form.values j (pos 0)) row.2 ∙ r.2)
        (Has-get_or (rows_of (run_value form)) row.0 (omega (arith, within, length-rows_of (run_value form))))

    back : (z : ℤ) → Has z (rows_of (run_value form)) → Has z form.values
    back z h =
        let r = place_of_member z (rows_of (run_value form)) h in
        let within : r.0 < 1024 = omega (arith, r.1, length-rows_of (run_value form)) in
        subst (λ (z : ℤ). Has z form.values) (sym (get_or-rows_of (run_value form) r.0 (pos 0) within) ∙ r.2) (Has-get_or form.values (run_of form.starts r.0) (run_of-within form f r.0 within))

pub length-run_values : (form : RunForm) → length (run_values form) ≡ 1024
unfolding run_values
length-run_values form = length-rows_of (run_value form)
