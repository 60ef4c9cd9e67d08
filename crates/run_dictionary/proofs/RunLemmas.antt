-- The runs of a least form begin exactly where a value changes, so the run of a row has the row's value.
use Rattle.std.proofs.Common.{◌≡◌, ◌≢◌, ℕ, zero, suc, ◌+◌, ◌-◌, ◌<◌, ◌≤◌, ◌==◌, Bool, true, false, cond, ◌&&◌, ◌||◌, not, ℤ, pos, FitsSigned, List, [], ◌∷◌, ◌++◌, map, filter, length, get_or, ◌⊎◌, inl, inr, refl, sym, ap, ◌∙◌, subst, arith}
use Rattle.std.specs.List.{range_with_len}
use Rattle.std.specs.Ordering.{int_eq}
use Rattle.std.proofs.lemmas.Bool.{cases_lt, cases_Bool, false≢true, lt-ltb, ne_eqb, not-false, not_from_true, not_from_false, false_from_ne_true, true_from_ne_false}
use Rattle.std.proofs.lemmas.Bool.Decides.{Decides-int_eq}
use Rattle.std.proofs.lemmas.List.{get_or_append_left, length-append, map-append, append-nil, same_lists, get_or_default}
use Rattle.std.proofs.lemmas.List.Elements.{filter-append, All-from_get_or}
use Rattle.std.proofs.Math.Seq.{get_or-append_seam}
use Rattle.transpose_order.specs.Place.{IsLaneWidth}
use Rattle.transpose_order.specs.Mask.{rows_of, has, count_below}
use Rattle.transpose_order.specs.MaskWords.{has-rows_of, rows_of-same, get_or-rows_of, length-rows_of}
use Rattle.transpose_order.proofs.MaskLemmas.{count_below-zero, count_below-same}
use Rattle.bit_interleave.specs.Range.{value_at, AreInRange}
use Rattle.bit_interleave.specs.Arithmetic.{integer_width}
use Rattle.run_dictionary.specs.Runs.{RunForm, IsRunForm, run_of, run_value, run_values, changes_at, changed_values, least_runs}
use Rattle.run_dictionary.proofs.CountLemmas.{count_below-yes, count_below-no, count_below-rises, count_below-implies, count_below-reached}

-- ---- where values change
pub changes_at-first : (v : ℕ → ℤ) → changes_at v 0 ≡ false
unfolding changes_at
changes_at-first v = refl

changes_at-suc : (v : ℕ → ℤ) (n : ℕ) → changes_at v (suc n) ≡ not (int_eq (v (suc n)) (v n))
unfolding changes_at
changes_at-suc v n =
    let before : suc n - 1 ≡ n = omega arith in
    ap (λ b. b && not (int_eq (v (suc n)) (v (suc n - 1)))) (lt-ltb 0 (suc n) (omega arith)) ∙ ap (λ m. not (int_eq (v (suc n)) (v m))) before

pub changes_at-not : (v : ℕ → ℤ) (n : ℕ) → changes_at v (suc n) ≡ false → v (suc n) ≡ v n
changes_at-not v n h = (Decides-int_eq (v (suc n)) (v n)).0 (not-false _ (sym (changes_at-suc v n) ∙ h))

pub changes_at-differs : (v : ℕ → ℤ) (n : ℕ) → v (suc n) ≢ v n → changes_at v (suc n) ≡ true
changes_at-differs v n h = changes_at-suc v n ∙ not_from_false _ (false_from_ne_true _ (λ e. h ((Decides-int_eq (v (suc n)) (v n)).0 e)))

pub changes_at-same : (v : ℕ → ℤ) (n : ℕ) → v (suc n) ≡ v n → changes_at v (suc n) ≡ false
changes_at-same v n h = changes_at-suc v n ∙ not_from_true _ ((Decides-int_eq (v (suc n)) (v n)).1 h)

-- ---- the values of the runs
range_more : (a n : ℕ) → range_with_len a (suc n) ≡ range_with_len a n ++ (a + n) ∷ []
range_more a zero = ap (λ m. m ∷ []) (omega arith)
range_more a (suc n) = ap (λ xs. a ∷ xs) (range_more (a + 1) n ∙ ap (λ m. range_with_len (a + 1) n ++ m ∷ []) (omega arith))

-- whether a run begins at row n
abbrev begins : (ℕ → ℤ) → ℕ → Bool
begins v n = (n == 0) || changes_at v n

kept_one : (v : ℕ → ℤ) (p : ℕ → Bool) (n : ℕ) → map v (filter p (n ∷ [])) ≡ cond (p n) (v n ∷ []) []
kept_one v p n = by_test (p n)
  where
    by_test : (b : Bool) → map v (cond b (n ∷ []) []) ≡ cond b (v n ∷ []) []
    by_test true = refl
    by_test false = refl

pub changed_values-suc : (v : ℕ → ℤ) (n : ℕ) → changed_values v (suc n) ≡ changed_values v n ++ cond ((n == 0) || changes_at v n) (v n ∷ []) []
unfolding changed_values
changed_values-suc v n =
    ap (λ xs. map v (filter (begins v) xs)) (range_more 0 n ∙ ap (λ m. range_with_len 0 n ++ m ∷ []) (let e : 0 + n ≡ n = omega arith in e))
    ∙ ap (map v) (filter-append (begins v) (range_with_len 0 n) (n ∷ []))
    ∙ map-append v (filter (begins v) (range_with_len 0 n)) (filter (begins v) (n ∷ []))
    ∙ ap (λ ys. changed_values v n ++ ys) (kept_one v (begins v) n)

pub changed_values-none : (v : ℕ → ℤ) → changed_values v 0 ≡ []
unfolding changed_values
changed_values-none v = refl

pub changed_values-one : (v : ℕ → ℤ) → changed_values v 1 ≡ v 0 ∷ []
changed_values-one v = changed_values-suc v 0 ∙ ap (λ xs. xs ++ v 0 ∷ []) (changed_values-none v)

pub changed_values-yes : (v : ℕ → ℤ) (n : ℕ) → changes_at v n ≡ true → changed_values v (suc n) ≡ changed_values v n ++ v n ∷ []
changed_values-yes v n h = changed_values-suc v n ∙ ap (λ b. changed_values v n ++ cond b (v n ∷ []) []) (ap (λ b. (n == 0) || b) h ∙ or_true (n == 0))
  where
    or_true : (b : Bool) → (b || true) ≡ true
    or_true true = refl
    or_true false = refl

pub changed_values-no : (v : ℕ → ℤ) (n : ℕ) → changes_at v (suc n) ≡ false → changed_values v (suc (suc n)) ≡ changed_values v (suc n)
changed_values-no v n h =
    let none : ((suc n == 0) || changes_at v (suc n)) ≡ false = ap (λ b. b || changes_at v (suc n)) (ne_eqb (suc n) 0 (λ e. omega arith)) ∙ h in
    changed_values-suc v (suc n) ∙ ap (λ b. changed_values v (suc n) ++ cond b (v (suc n) ∷ []) []) none ∙ append-nil (changed_values v (suc n))

pub length-changed_values : (v : ℕ → ℤ) (n : ℕ) → length (changed_values v (suc n)) ≡ count_below (λ i. changes_at v (suc i)) n + 1
length-changed_values v zero = ap length (changed_values-one v) ∙ omega (arith, count_below-zero (λ i. changes_at v (suc i)))
length-changed_values v (suc n) = by_change (cases_Bool (changes_at v (suc n))) (length-changed_values v n)
  where
    by_change : (changes_at v (suc n) ≡ true) ⊎ (changes_at v (suc n) ≡ false) → length (changed_values v (suc n)) ≡ count_below (λ i. changes_at v (suc i)) n + 1 → length (changed_values v (suc (suc n))) ≡ count_below (λ i. changes_at v (suc i)) (suc n) + 1
    by_change (inl e) ih = ap length (changed_values-yes v (suc n) e) ∙ omega (arith, length-append (changed_values v (suc n)) (v (suc n) ∷ []), ih, count_below-yes (λ i. changes_at v (suc i)) n e)
    by_change (inr e) ih = ap length (changed_values-no v n e) ∙ omega (arith, ih, count_below-no (λ i. changes_at v (suc i)) n e)

-- the run of a row has the row's value
pub get_or-changed_values : (v : ℕ → ℤ) (m n : ℕ) → n < m → get_or (changed_values v m) (count_below (λ i. changes_at v (suc i)) n) (pos 0) ≡ v n
get_or-changed_values v zero n h = absurd (omega arith)
get_or-changed_values v (suc zero) n h =
    let only : 0 ≡ n = omega arith in
    ap (λ xs. get_or xs (count_below (λ i. changes_at v (suc i)) n) (pos 0)) (changed_values-one v)
    ∙ subst (λ (k : ℕ). get_or (v 0 ∷ []) (count_below (λ i. changes_at v (suc i)) k) (pos 0) ≡ v k) only (ap (λ k. get_or (v 0 ∷ []) k (pos 0)) (count_below-zero (λ i. changes_at v (suc i))))
get_or-changed_values v (suc (suc m)) n h =
    by_row (cases_Bool (changes_at v (suc m))) (cases_lt n (suc m)) (λ k l. get_or-changed_values v (suc m) k l)
  where
    by_row : (changes_at v (suc m) ≡ true) ⊎ (changes_at v (suc m) ≡ false) → (n < suc m) ⊎ (suc m ≤ n) → ((k : ℕ) → k < suc m → get_or (changed_values v (suc m)) (count_below (λ i. changes_at v (suc i)) k) (pos 0) ≡ v k) → get_or (changed_values v (suc (suc m))) (count_below (λ i. changes_at v (suc i)) n) (pos 0) ≡ v n
    by_row (inl e) (inl l) ih =
        ap (λ xs. get_or xs (count_below (λ i. changes_at v (suc i)) n) (pos 0)) (changed_values-yes v (suc m) e)
        ∙ get_or_append_left (changed_values v (suc m)) (v (suc m) ∷ []) (pos 0) _ (omega (arith, length-changed_values v m, count_below-rises (λ i. changes_at v (suc i)) n m (omega arith)))
        ∙ ih n l
    by_row (inl e) (inr l) ih =
        let last : suc m ≡ n = omega arith in
        let place : count_below (λ i. changes_at v (suc i)) n ≡ length (changed_values v (suc m)) =
        ap (count_below (λ i. changes_at v (suc i))) (sym last) ∙ omega (arith, length-changed_values v m, count_below-yes (λ i. changes_at v (suc i)) m e) in
        ap (λ xs. get_or xs (count_below (λ i. changes_at v (suc i)) n) (pos 0)) (changed_values-yes v (suc m) e)
        ∙ ap (λ k. get_or (changed_values v (suc m) ++ v (suc m) ∷ []) k (pos 0)) place
        ∙ get_or-append_seam (changed_values v (suc m)) (v (suc m)) [] (pos 0) ∙ ap v last
    by_row (inr e) (inl l) ih = ap (λ xs. get_or xs (count_below (λ i. changes_at v (suc i)) n) (pos 0)) (changed_values-no v m e) ∙ ih n l
    by_row (inr e) (inr l) ih =
        let last : suc m ≡ n = omega arith in
        let place : count_below (λ i. changes_at v (suc i)) n ≡ count_below (λ i. changes_at v (suc i)) m =
        ap (count_below (λ i. changes_at v (suc i))) (sym last) ∙ count_below-no (λ i. changes_at v (suc i)) m e in
        ap (λ xs. get_or xs (count_below (λ i. changes_at v (suc i)) n) (pos 0)) (changed_values-no v m e)
        ∙ ap (λ k. get_or (changed_values v (suc m)) k (pos 0)) place ∙ ih m (omega arith) ∙ sym (changes_at-not v m e) ∙ ap v last

-- ---- the least form
pub run_of-changes : (v : ℕ → ℤ) (n : ℕ) → n < 1024 → run_of (rows_of (changes_at v)) n ≡ count_below (λ i. changes_at v (suc i)) n
run_of-changes v n h =
    count_below-same (λ i. has (rows_of (changes_at v)) (suc i)) (λ i. changes_at v (suc i)) n (λ i l. has-rows_of (changes_at v) (suc i) (omega arith))

run_value-least : (t : ℕ) (values : List ℤ) (n : ℕ) → n < 1024 → run_value (least_runs t values) n ≡ value_at values n
run_value-least t values n h =
    ap (λ k. get_or (changed_values (value_at values) 1024) k (pos 0)) (run_of-changes (value_at values) n h)
    ∙ get_or-changed_values (value_at values) 1024 n h

-- each run begins at some row
pub row_of_run : (p : ℕ → Bool) (m k : ℕ) → k < count_below p m + 1 → (n : ℕ) × (n ≤ m) × (count_below p n ≡ k)
row_of_run p m zero h = (0, omega arith, count_below-zero p)
row_of_run p m (suc k) h =
    let r = count_below-reached p m k (omega arith) in
    (suc r.0, omega (arith, r.1), omega (arith, count_below-yes p r.0 r.2, r.3))

pub run_values-least : (t : ℕ) (values : List ℤ) → length values ≡ 1024 → run_values (least_runs t values) ≡ values
unfolding run_values
run_values-least t values l = sym (rows_of-same (run_value (least_runs t values)) values (pos 0) l (λ n h. sym (run_value-least t values n h)))

pub IsRunForm-least : (t : ℕ) (values : List ℤ) → IsLaneWidth t → length values ≡ 1024 → AreInRange t values → IsRunForm (least_runs t values)
IsRunForm-least t values w l range = record {
  lane_width = w;
  rows = length-rows_of (changes_at (value_at values));
  first = has-rows_of (changes_at (value_at values)) 0 (omega arith) ∙ changes_at-first (value_at values);
  count = length-changed_values (value_at values) 1023 ∙ ap (λ k. k + 1) (sym (run_of-changes (value_at values) 1023 (omega arith)));
  range = All-from_get_or (λ z. FitsSigned (integer_width t) z) (changed_values (value_at values) 1024) (pos 0)
      (λ k h.
      let row = row_of_run (λ i. changes_at (value_at values) (suc i)) 1023 k (omega (arith, length-changed_values (value_at values) 1023)) in
      let value : get_or (changed_values (value_at values) 1024) k (pos 0) ≡ value_at values row.0 =
      ap (λ j. get_or (changed_values (value_at values) 1024) j (pos 0)) (sym row.2) ∙ get_or-changed_values (value_at values) 1024 row.0 (omega (arith, row.1)) in
      subst (λ (z : ℤ). FitsSigned (integer_width t) z) (sym value) (range row.0 (pos 0) (omega (arith, row.1, l))));
}

-- ---- forms of the same values
pub get_or-run_values : (form : RunForm) (n : ℕ) (d : ℤ) → n < 1024 → get_or (run_values form) n d ≡ run_value form n
unfolding run_values
get_or-run_values form n d h = get_or-rows_of (run_value form) n d h

-- the rows that a form stands for
abbrev rows_in : RunForm → ℕ → ℤ
rows_in form = value_at (run_values form)

rows_in-is : (form : RunForm) (n : ℕ) → n < 1024 → rows_in form n ≡ run_value form n
rows_in-is form n h = get_or-run_values form n (pos 0) h

pub run_of-within : (form : RunForm) → IsRunForm form → (n : ℕ) → n < 1024 → run_of form.starts n < length form.values
run_of-within form f n h = omega (arith, f.count, count_below-rises (λ i. has form.starts (suc i)) n 1023 (omega arith))

-- within a run the value stays
run_goes_on : (form : RunForm) (n : ℕ) → suc n < 1024 → has form.starts (suc n) ≡ false → changes_at (rows_in form) (suc n) ≡ false
run_goes_on form n h e =
    changes_at-same (rows_in form) n
    (rows_in-is form (suc n) h ∙ ap (λ k. get_or form.values k (pos 0)) (count_below-no (λ i. has form.starts (suc i)) n e) ∙ sym (rows_in-is form n (omega arith)))

pub length-least : (form : RunForm) → IsRunForm form → length (least_runs form.lane_width (run_values form)).values ≤ length form.values
length-least form f =
    let fewer = count_below-implies (λ i. changes_at (rows_in form) (suc i)) (λ i. has form.starts (suc i)) 1023
    (λ i l e. true_from_ne_false _ (λ no. false≢true (sym (run_goes_on form i (omega arith) no) ∙ e))) in
    omega (arith, length-changed_values (rows_in form) 1023, f.count, fewer)

-- neighbouring runs differ
abbrev pub NeighboursDiffer : List ℤ → Type 0
NeighboursDiffer values = (k : ℕ) → k + 1 < length values → get_or values k (pos 0) ≢ get_or values (k + 1) (pos 0)

starts_where_changes : (form : RunForm) → IsRunForm form → NeighboursDiffer form.values → (n : ℕ) → n < 1024 → has form.starts n ≡ changes_at (rows_in form) n
starts_where_changes form f d zero h = f.first ∙ sym (changes_at-first (rows_in form))
starts_where_changes form f d (suc n) h = by_start (cases_Bool (has form.starts (suc n)))
  where
    by_start : (has form.starts (suc n) ≡ true) ⊎ (has form.starts (suc n) ≡ false) → has form.starts (suc n) ≡ changes_at (rows_in form) (suc n)
    by_start (inr e) = e ∙ sym (run_goes_on form n h e)
    by_start (inl e) =
        let next : run_of form.starts (suc n) ≡ run_of form.starts n + 1 = count_below-yes (λ i. has form.starts (suc i)) n e in
        let new : rows_in form (suc n) ≡ get_or form.values (run_of form.starts n + 1) (pos 0) = rows_in-is form (suc n) h ∙ ap (λ k. get_or form.values k (pos 0)) next in
        let within = run_of-within form f (suc n) h in
        e ∙ sym (changes_at-differs (rows_in form) n (λ same. d (run_of form.starts n) (omega (arith, next)) (sym (rows_in-is form n (omega arith)) ∙ sym same ∙ new)))

-- two lists of values are equal place by place
pub same_values : (xs ys : List ℤ) → length xs ≡ length ys → ((k : ℕ) → k < length xs → get_or xs k (pos 0) ≡ get_or ys k (pos 0)) → xs ≡ ys
same_values xs ys l h =
    same_lists xs ys l (λ k d w. get_or_default xs k d (pos 0) w ∙ h k w ∙ get_or_default ys k (pos 0) d (omega (arith, l)))

pub least-from_differ : (form : RunForm) → IsRunForm form → NeighboursDiffer form.values → form ≡ least_runs form.lane_width (run_values form)
least-from_differ form f d =
    let same = starts_where_changes form f d in
    let counts : (n : ℕ) → n ≤ 1023 → count_below (λ i. changes_at (rows_in form) (suc i)) n ≡ run_of form.starts n =
    (λ n l. count_below-same (λ i. changes_at (rows_in form) (suc i)) (λ i. has form.starts (suc i)) n (λ i m. sym (same (suc i) (omega arith)))) in
    let starts : form.starts ≡ rows_of (changes_at (rows_in form)) = rows_of-same (changes_at (rows_in form)) form.starts false f.rows same in
    let values : form.values ≡ changed_values (rows_in form) 1024 =
    same_values form.values (changed_values (rows_in form) 1024) (f.count ∙ sym (length-changed_values (rows_in form) 1023 ∙ ap (λ k. k + 1) (counts 1023 (omega arith))))
    (λ k h.
    let row = row_of_run (λ i. has form.starts (suc i)) 1023 k (omega (arith, f.count)) in
    let within : row.0 < 1024 = omega (arith, row.1) in
    ap (λ j. get_or form.values j (pos 0)) (sym row.2) ∙ sym (rows_in-is form row.0 within) ∙ sym (get_or-changed_values (rows_in form) 1024 row.0 within)
    ∙ ap (λ j. get_or (changed_values (rows_in form) 1024) j (pos 0)) (counts row.0 row.1 ∙ row.2)) in
    λ i. record { lane_width = form.lane_width; starts = starts i; values = values i }

pub differ-from_least : (form : RunForm) → IsRunForm form → form ≡ least_runs form.lane_width (run_values form) → NeighboursDiffer form.values
differ-from_least form f e k h same =
    let r = count_below-reached (λ i. has form.starts (suc i)) 1023 k (omega (arith, f.count)) in
    let change : changes_at (rows_in form) (suc r.0) ≡ true =
    sym (has-rows_of (changes_at (rows_in form)) (suc r.0) (omega (arith, r.1))) ∙ sym (ap (λ form. has form.starts (suc r.0)) e) ∙ r.2 in
    let old : rows_in form r.0 ≡ get_or form.values k (pos 0) = rows_in-is form r.0 (omega (arith, r.1)) ∙ ap (λ j. get_or form.values j (pos 0)) r.3 in
    let new : rows_in form (suc r.0) ≡ get_or form.values (k + 1) (pos 0) =
    rows_in-is form (suc r.0) (omega (arith, r.1)) ∙ ap (λ j. get_or form.values j (pos 0)) (count_below-yes (λ i. has form.starts (suc i)) r.0 r.2 ∙ ap (λ j. j + 1) r.3) in
    false≢true (sym (changes_at-same (rows_in form) r.0 (new ∙ sym same ∙ sym old)) ∙ change)

pub changes_at-is : (v : ℕ → ℤ) (n : ℕ) → changes_at v n ≡ not (int_eq (v n) (v (n - 1)))
changes_at-is v zero = changes_at-first v ∙ sym (not_from_true _ ((Decides-int_eq (v 0) (v 0)).1 refl))
changes_at-is v (suc n) = changes_at-suc v n ∙ ap (λ m. not (int_eq (v (suc n)) (v m))) (let e : n ≡ suc n - 1 = omega arith in e)
