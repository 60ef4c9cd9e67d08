-- Tallies, as spans of a vector's rows come: a span is a slice of the rows that it covers.
use Rattle.std.proofs.Common.{◌≡◌, ◌≢◌, ◌==◌, ℕ, zero, suc, ◌+◌, ◌-◌, ◌<◌, ◌≤◌, min, nat_le, nat_lt, Bool, true, false, cond, not, ◌&&◌, List, [], ◌++◌, length, get_or, take, drop, length-drop, count_by, ℤ, pos, ◌+ℤ◌, ◌*ℤ◌, ◌≤ℤ◌, map, FitsSigned, w64, refl, sym, ap, subst, ◌∙◌, arith}
use Rattle.std.proofs.lemmas.Bool.Decides.{nat_tests}
use Rattle.std.proofs.lemmas.Int.{ints}
use Rattle.table_model.specs.Extreme.{turned as turned_by}
use Rattle.table_model.specs.declared.extreme.Extreme.{Extreme}
use Rattle.query_eval.specs.Forms.{AreFormed, least_number, top_below, top_of}
use Rattle.query_eval.specs.declared.tallies.forms.Form.TheVariants.{Shown}
use Rattle.query_eval.proofs.ExtremeLemmas.{top_bounded}
use Rattle.std.proofs.lemmas.List.{get_or-drop, get_or-map, get_or-take, length-map, length-take, take_all}
use Rattle.table_model.specs.State.{Cells}
use Rattle.transpose_order.specs.Mask.{count_below, has, rows_of, truth_at}
use Rattle.transpose_order.specs.MaskWords.{has-rows_of, length-rows_of, rows_of-like}
use Rattle.transpose_order.proofs.MaskLemmas.{count_below-add, count_below-le, count_below-same, count_below-suc, count_below-zero, count_by-rows_of, has-words}
use Rattle.query_eval.specs.Grouping.{AreCells, AreNulls, IsHeld, aggregate_values}
use Rattle.query_eval.specs.Kept.{rows_at}
use Rattle.query_eval.specs.Packed.{packed_sum}
use Rattle.query_eval.specs.Slices.{rows_between, rows_sliced, slices_of_spans, span_slice, values_at, values_below}
use Rattle.query_eval.specs.Tally.{IsTally, kind_of}
use Rattle.query_eval.specs.Vector.{Vector}
use Rattle.query_eval.specs.declared.tallies.aggregate.Aggregate.{Aggregate}
use Rattle.query_eval.specs.declared.grouping.split.Slice.{Slice}
use Rattle.query_eval.specs.declared.grouping.split.Span.{Span}
use Rattle.query_eval.specs.declared.tallies.tally.Tally.{Tally}
use Rattle.query_eval.proofs.FormLemmas.{packed_more}
use Rattle.query_eval.proofs.MaskedLemmas.{length-values_at, values_all, values_none, values_skip, values_some}
use Rattle.query_eval.proofs.SharedLemmas.{count_slice, held_slice, values_slice}

-- ---- the rows that a span covers
-- whether a row is in a span
abbrev in_span : ℕ → ℕ → ℕ → Bool
in_span first end n = nat_le first n && nat_lt n end

cut_same : (first end f e n : ℕ) → e ≡ min end 1024 → f ≡ min first e → n < 1024 → in_span f e n ≡ in_span first end n
cut_same first end f e n is also l = grind (arith, nat_tests)

-- a span that is cut at the vector's end covers the same rows
pub between_same : (mask : List Bool) (first end f e : ℕ) → e ≡ min end 1024 → f ≡ min first e → rows_between mask f e ≡ rows_between mask first end
between_same mask first end f e is also = rows_of-like (λ n. has mask n && in_span f e n) (λ n. has mask n && in_span first end n) (λ n l. ap (λ b. has mask n && b) (cut_same first end f e n is also l))

inside : (first end n : ℕ) → first ≤ n → n < end → in_span first end n ≡ true
inside first end n h l = grind (arith, nat_tests)

before_it : (first end n : ℕ) → n < first → in_span first end n ≡ false
before_it first end n l = grind (arith, nat_tests)

after_it : (first end n : ℕ) → end ≤ n → in_span first end n ≡ false
after_it first end n l = grind (arith, nat_tests)

none_of : (b : Bool) → (b && false) ≡ false
none_of true = refl
none_of false = refl

same_of : (b : Bool) → (b && true) ≡ b
same_of true = refl
same_of false = refl

pub counts_rise : (p : ℕ → Bool) (first end : ℕ) → first ≤ end → count_below p first ≤ count_below p end
counts_rise p first end order =
    let next : first + (end - first) ≡ end = omega arith in
    omega (arith, ap (count_below p) (sym next) ∙ count_below-add p first (end - first))

-- as many rows of a mask are below one as its words say
pub counted_by_words : (words : List ℕ) (rows : List Bool) (n : ℕ) → rows ≡ rows_of (truth_at words) → n ≤ 1024 → count_below (truth_at words) n ≡ count_below (has rows) n
counted_by_words words rows n e l = count_below-same (truth_at words) (has rows) n (λ i h. sym (has-words words rows (sym e) i (omega (arith, h, l))))

module _ (rows : List Bool) (first end : ℕ) (within : end ≤ 1024) where
  pub between_has : (n : ℕ) → first ≤ n → n < end → has (rows_between rows first end) n ≡ has rows n
  between_has n h l = has-rows_of (λ m. has rows m && in_span first end m) n (omega arith) ∙ ap (λ b. has rows n && b) (inside first end n h l) ∙ same_of (has rows n)

  between_before : first ≤ end → (n : ℕ) → n < first → has (rows_between rows first end) n ≡ false
  between_before order n l = has-rows_of (λ m. has rows m && in_span first end m) n (omega arith) ∙ ap (λ b. has rows n && b) (before_it first end n l) ∙ none_of (has rows n)

  between_after : (n : ℕ) → n < 1024 → end ≤ n → has (rows_between rows first end) n ≡ false
  between_after n l h = has-rows_of (λ m. has rows m && in_span first end m) n l ∙ ap (λ b. has rows n && b) (after_it first end n h) ∙ none_of (has rows n)

  -- no value stands before a span
  pub between_first : first ≤ end → (values : List ℤ) → values_below first (rows_between rows first end) values ≡ []
  between_first order values = values_none first (rows_between rows first end) values (between_before order)

  -- no value stands after a span
  pub between_all : (values : List ℤ) → values_below end (rows_between rows first end) values ≡ values_at (rows_between rows first end) values
  between_all values =
      let whole : end + (1024 - end) ≡ 1024 = omega arith in
      sym (values_skip end (1024 - end) (rows_between rows first end) values (λ b l. between_after (end + b) (omega (arith, l)) (omega arith)))
      ∙ values_all (end + (1024 - end)) (rows_between rows first end) values whole

  -- ---- how many rows it covers
  nothing_below : (p : ℕ → Bool) (n : ℕ) → ((i : ℕ) → i < n → p i ≡ false) → count_below p n ≡ 0
  nothing_below p zero h = count_below-zero p
  nothing_below p (suc n) h = count_below-suc p n ∙ ap (λ b. count_below p n + cond b 1 0) (h n (omega arith)) ∙ omega (arith, nothing_below p n (λ i l. h i (omega (arith, l))))

  count_between : first ≤ end → count_by (λ row. row) (rows_between rows first end) + count_below (has rows) first ≡ count_below (has rows) end
  count_between order =
      let test : ℕ → Bool = λ n. has rows n && in_span first end n in
      let more : ℕ = end - first in
      let rest : ℕ = 1024 - end in
      let last : end + rest ≡ 1024 = omega arith in
      let next : first + more ≡ end = omega arith in
      let all = ap (count_below test) (sym last) ∙ count_below-add test end rest in
      let after : count_below (λ i. test (end + i)) rest ≡ 0 = nothing_below (λ i. test (end + i)) rest (λ i l. ap (λ b. has rows (end + i) && b) (after_it first end (end + i) (omega arith)) ∙ none_of (has rows (end + i))) in
      let before : count_below test first ≡ 0 = nothing_below test first (λ i l. ap (λ b. has rows i && b) (before_it first end i l) ∙ none_of (has rows i)) in
      let here : count_below (λ i. test (first + i)) more ≡ count_below (λ i. has rows (first + i)) more =
      count_below-same (λ i. test (first + i)) (λ i. has rows (first + i)) more
      (λ i l. ap (λ b. has rows (first + i) && b) (inside first end (first + i) (omega arith) (omega (arith, l))) ∙ same_of (has rows (first + i))) in
      let tested = ap (count_below test) (sym next) ∙ count_below-add test first more in
      let had = ap (count_below (has rows)) (sym next) ∙ count_below-add (has rows) first more in
      let counted = count_by-rows_of test in
      omega (arith, all, after, before, here, tested, had, counted)

  pub few_between : first ≤ end → (values : List ℤ) → length (values_at (rows_between rows first end) values) ≤ 1024
  few_between order values =
      omega (arith, length-values_at (rows_between rows first end) values (length-rows_of (λ n. has rows n && in_span first end n)), count_between order, count_below-le (has rows) end)

  -- a span without a row has no value
  pub none_between : first ≤ end → (values : List ℤ) → ((n : ℕ) → first ≤ n → n < end → has rows n ≡ false) → values_at (rows_between rows first end) values ≡ []
  none_between order values none =
      let next : first + (end - first) ≡ end = omega arith in
      sym (between_all values) ∙ ap (λ k. values_below k (rows_between rows first end) values) (sym next)
      ∙ values_skip first (end - first) (rows_between rows first end) values (λ b l. between_has (first + b) (omega arith) (omega (arith, l)) ∙ none (first + b) (omega arith) (omega (arith, l)))
      ∙ between_first order values

  -- one with a row has
  pub some_between : first ≤ end → (values : List ℤ) (row : ℕ) → first ≤ row → row < end → has rows row ≡ true → values_at (rows_between rows first end) values ≢ []
  some_between order values row h l on = values_some row (rows_between rows first end) values (between_has row h l ∙ on) (omega (arith, l, within))

-- ---- a bound of what a span shows
module _ (e : Extreme) (rows : List Bool) (values shown : List ℤ) (are : AreFormed (Shown e) rows values shown) (first end : ℕ) (within : end ≤ 1024) (order : first ≤ end) (bound : ℤ) (fit : FitsSigned w64 bound) (most : (n : ℕ) → first ≤ n → n < end → get_or shown n (pos 0) ≤ℤ bound) where
  below_bound : (d : ℕ) → first + d ≤ end → top_below e (first + d) (rows_between rows first end) values ≤ℤ bound
  below_bound zero l =
      let none : top_below e (first + zero) (rows_between rows first end) values ≡ least_number =
      ap (λ k. top_below e k (rows_between rows first end) values) (let q : first + zero ≡ first = omega arith in q) ∙ ap (λ zs. top_of (map (turned_by e) zs)) (between_first rows first end within order values) in
      omega (arith, ints, none, fit)
  below_bound (suc d) l =
      let n : ℕ = first + d in
      let next : n + 1 ≡ first + suc d = omega arith in
      subst (λ (k : ℕ). top_below e k (rows_between rows first end) values ≤ℤ bound) next
      (top_bounded e n (rows_between rows first end) values (has rows n) (get_or shown n (pos 0)) bound (between_has rows first end within n (omega arith) (omega (arith, l))) (are n (omega (arith, l, within))) (most n (omega arith) (omega (arith, l))) (below_bound d (omega (arith, l))))

  pub bounded_span : top_of (map (turned_by e) (values_at (rows_between rows first end) values)) ≤ℤ bound
  bounded_span =
      let next : first + (end - first) ≡ end = omega (arith, order) in
      subst (λ (zs : List ℤ). top_of (map (turned_by e) zs) ≤ℤ bound) (ap (λ k. values_below k (rows_between rows first end) values) next ∙ between_all rows first end within values) (below_bound (end - first) (omega (arith, next)))

-- ---- the packed sum of a span
module _ (rows : List Bool) (first end : ℕ) (within : end ≤ 1024) (order : first ≤ end) (values : List ℤ) where
  below_sum : (d : ℕ) → first + d ≤ end → packed_sum (values_below (first + d) rows values) ≡ packed_sum (values_below first rows values) +ℤ packed_sum (values_below (first + d) (rows_between rows first end) values)
  below_sum zero l =
      let none : packed_sum (values_below (first + zero) (rows_between rows first end) values) ≡ pos 0 =
      ap (λ k. packed_sum (values_below k (rows_between rows first end) values)) (let e : first + zero ≡ first = omega arith in e) ∙ ap packed_sum (between_first rows first end within order values) in
      let same : packed_sum (values_below (first + zero) rows values) ≡ packed_sum (values_below first rows values) = ap (λ k. packed_sum (values_below k rows values)) (let e : first + zero ≡ first = omega arith in e) in
      omega (arith, ints, none, same)
  below_sum (suc d) l =
      let n : ℕ = first + d in
      let next : n + 1 ≡ first + suc d = omega arith in
      let x : ℤ = cond (has rows n) (pos 2048 *ℤ get_or values n (pos 0) +ℤ pos 1) (pos 0) in
      let before = below_sum d (omega (arith, l)) in
      let all = packed_more n rows values (has rows n) (packed_sum (values_below n rows values)) x refl refl refl ∙ ap (λ k. packed_sum (values_below k rows values)) next in
      let part = packed_more n (rows_between rows first end) values (has rows n) (packed_sum (values_below n (rows_between rows first end) values)) x (between_has rows first end within n (omega arith) (omega (arith, l))) refl refl
      ∙ ap (λ k. packed_sum (values_below k (rows_between rows first end) values)) next in
      omega (arith, ints, before, all, part)

  pub between_sum : packed_sum (values_below end rows values) ≡ packed_sum (values_below first rows values) +ℤ packed_sum (values_at (rows_between rows first end) values)
  between_sum =
      let next : first + (end - first) ≡ end = omega (arith, order) in
      ap (λ k. packed_sum (values_below k rows values)) (sym next) ∙ below_sum (end - first) (omega (arith, next))
      ∙ ap (λ k. packed_sum (values_below first rows values) +ℤ packed_sum (values_below k (rows_between rows first end) values)) next
      ∙ ap (λ zs. packed_sum (values_below first rows values) +ℤ packed_sum zs) (between_all rows first end within values)

-- ---- the part of a list that a span covers
pub part_at : (first end i : ℕ) (xs : List ℤ) → i < length (take (end - first) (drop first xs)) → (i < end - first) × (get_or (take (end - first) (drop first xs)) i (pos 0) ≡ get_or xs (first + i) (pos 0))
part_at first end i xs l =
    let below : i < end - first = omega (arith, l, length-take (end - first) (drop first xs)) in
    (below, get_or-take (end - first) (drop first xs) i (pos 0) below ∙ get_or-drop first xs i (pos 0))

pub part_end : (first end i : ℕ) (xs : List ℤ) → length xs ≡ 1024 → first ≤ end → end ≤ 1024 → length (take (end - first) (drop first xs)) ≤ i → i ≤ length (take (end - first) (drop first xs)) → first + i ≡ end
part_end first end i xs long order within l h = omega (arith, long, order, within, l, h, length-take (end - first) (drop first xs), length-drop first xs)

-- ---- the values of a span
turned : (k u i : Bool) → ((k && not u) && i) ≡ ((k && i) && not u)
turned true true true = refl
turned true true false = refl
turned true false true = refl
turned true false false = refl
turned false u i = refl

-- the rows that a span covers but for the nulls
between_nulls : (kept nulls rows : List Bool) (first end : ℕ) → rows ≡ rows_of (λ n. has kept n && not (has nulls n)) → rows_between rows first end ≡ rows_of (λ n. has (rows_between kept first end) n && not (has nulls n))
between_nulls kept nulls rows first end e =
    rows_of-like (λ n. has rows n && in_span first end n) (λ n. has (rows_between kept first end) n && not (has nulls n))
    (λ n l.
    ap (λ b. b && in_span first end n) (ap (λ m. has m n) e ∙ has-rows_of (λ m. has kept m && not (has nulls m)) n l)
    ∙ turned (has kept n) (has nulls n) (in_span first end n)
    ∙ ap (λ b. b && not (has nulls n)) (sym (has-rows_of (λ m. has kept m && in_span first end m) n l)))

-- of a span, the decoded values but for the nulls
pub values_span : (a : Aggregate) (v : Vector) (kept nulls rows : List Bool) (values : List ℤ) (first end : ℕ) → AreCells a v nulls values → rows ≡ rows_of (λ n. has kept n && not (has nulls n)) → values_at (rows_between rows first end) values ≡ aggregate_values a (rows_at v (rows_between kept first end))
values_span a v kept nulls rows values first end cells e = values_slice a v (rows_between kept first end) nulls (rows_between rows first end) values cells (between_nulls kept nulls rows first end e)

-- of a span, as many values as rows but for the nulls
pub count_span : (a : Aggregate) (v : Vector) (kept nulls rows : List Bool) (first end count : ℕ) → AreNulls a v nulls → rows ≡ rows_of (λ n. has kept n && not (has nulls n)) → first ≤ end → end ≤ 1024 → count + count_below (has rows) first ≡ count_below (has rows) end → count ≡ length (aggregate_values a (rows_at v (rows_between kept first end)))
count_span a v kept nulls rows first end count none e order within is =
    count_slice a v (rows_between kept first end) nulls (rows_between rows first end) count none (between_nulls kept nulls rows first end e) (omega (arith, is, count_between rows first end within order))

-- ---- one span more
pub held_span : (v : Vector) (kept : List Bool) (spans : List Span) (i : ℕ) (d span : Span) (g : ℕ) (a : Aggregate) (taken : List Cells) (t u : Tally) (added : List ℤ) → i < length spans → span_slice kept span ≡ span_slice kept (get_or spans i d) → added ≡ aggregate_values a (rows_at v (rows_between kept span.first span.end))
    → IsTally (aggregate_values a (taken ++ rows_sliced v (take i (slices_of_spans kept spans)) g) ++ cond (span.place == g) added []) u → kind_of u ≡ kind_of t → IsHeld (taken ++ rows_sliced v (take i (slices_of_spans kept spans)) g) a t
    → IsHeld (taken ++ rows_sliced v (take (i + 1) (slices_of_spans kept spans)) g) a u
held_span v kept spans i d span g a taken t u added l same is told kind h =
    held_slice v (slices_of_spans kept spans) i (span_slice kept span) g a taken t u added (omega (arith, l, length-map spans (span_slice kept)))
    (same ∙ sym (get_or-map (span_slice kept) spans i d (span_slice kept span) l)) is told kind h

-- all spans
pub held_spans : (v : Vector) (kept : List Bool) (spans : List Span) (i g : ℕ) (a : Aggregate) (taken : List Cells) (t : Tally) → length spans ≤ i → IsHeld (taken ++ rows_sliced v (take i (slices_of_spans kept spans)) g) a t → IsHeld (taken ++ rows_sliced v (slices_of_spans kept spans) g) a t
held_spans v kept spans i g a taken t l h =
    subst (λ (slices : List Slice). IsHeld (taken ++ rows_sliced v slices g) a t) (take_all i (slices_of_spans kept spans) (omega (arith, l, length-map spans (span_slice kept)))) h
