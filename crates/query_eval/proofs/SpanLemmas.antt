-- Spans of a vector's rows: rows with one key that stand together. With the spans so far, the rows of a mask from the last one's end on are left.
use Rattle.std.proofs.Common.{◌≡◌, ℕ, zero, suc, ◌+◌, ◌-◌, ◌<◌, ◌≤◌, ◌⊎◌, inl, inr, ltb, leb, Bool, true, false, cond, not, ◌&&◌, List, [], ◌∷◌, ◌++◌, length, refl, sym, ap, subst, ◌∙◌, arith}
use Rattle.query_eval.specs.Entries.{Entries}
use Rattle.std.proofs.Math.Bool.{and-false, and-true}
use Rattle.std.proofs.lemmas.Bool.{cases_lt, false≢true, le-leb, le-ltb, lt-leb, lt-ltb}
use Rattle.std.proofs.lemmas.List.{map-append}
use Rattle.table_model.specs.Group.{key_of}
use Rattle.table_model.specs.State.{Cells, same_cells}
use Rattle.table_model.proofs.SameRows.{itself_row}
use Rattle.transpose_order.specs.Mask.{has, rows_of}
use Rattle.transpose_order.specs.MaskWords.{has-rows_of, rows_of-like, rows_of-same}
use Rattle.transpose_order.proofs.MaskLemmas.{count_below-suc}
use Rattle.query_eval.specs.Coded.{run_at}
use Rattle.query_eval.specs.Places.{IsTakenIn}
use Rattle.query_eval.specs.Slices.{AreSliced, rows_between, rows_outside, slices_of_spans, span_slice}
use Rattle.query_eval.specs.Vector.{Vector, row_at}
use Rattle.query_eval.specs.declared.grouping.split.Slice.{Slice}
use Rattle.query_eval.specs.declared.grouping.split.Span.{Span}
use Rattle.query_eval.proofs.SliceLemmas.{sliced_more, sliced_none}

-- ---- the rows of a mask from one on
abbrev pub rows_from : List Bool → ℕ → List Bool
rows_from mask start = rows_of (λ n. has mask n && leb start n)

pub from_first : (mask : List Bool) → length mask ≡ 1024 → mask ≡ rows_from mask 0
from_first mask long = rows_of-same (λ n. has mask n && leb 0 n) mask false long (λ n l. sym (ap (λ b. has mask n && b) (le-leb 0 n (omega arith)) ∙ and-true (has mask n)))

pub from_none : (mask : List Bool) (start : ℕ) → ((n : ℕ) → start ≤ n → n < 1024 → has mask n ≡ false) → rows_from mask start ≡ rows_of (λ _. false)
from_none mask start none = rows_of-like (λ n. has mask n && leb start n) (λ _. false) (λ n l. one n l (cases_lt n start))
  where
    one : (n : ℕ) → n < 1024 → (n < start) ⊎ (start ≤ n) → (has mask n && leb start n) ≡ false
    one n l (inl a) = ap (λ b. has mask n && b) (lt-leb start n a) ∙ and-false (has mask n)
    one n l (inr a) = ap (λ b. b && leb start n) (none n a l)

-- where no row is between two, the rows from either on are the same
pub from_later : (mask : List Bool) (start end : ℕ) → start ≤ end → ((n : ℕ) → start ≤ n → n < end → has mask n ≡ false) → rows_from mask start ≡ rows_from mask end
from_later mask start end order none = rows_of-like (λ n. has mask n && leb start n) (λ n. has mask n && leb end n) (λ n l. one n (cases_lt n start) (cases_lt n end))
  where
    one : (n : ℕ) → (n < start) ⊎ (start ≤ n) → (n < end) ⊎ (end ≤ n) → (has mask n && leb start n) ≡ (has mask n && leb end n)
    one n (inl a) (inl b) = ap (λ x. has mask n && x) (lt-leb start n a ∙ sym (lt-leb end n b))
    one n (inl a) (inr b) = absurd (omega (arith, a, b, order))
    one n (inr a) (inl b) = ap (λ x. x && leb start n) (none n a b) ∙ sym (ap (λ x. x && leb end n) (none n a b))
    one n (inr a) (inr b) = ap (λ x. has mask n && x) (le-leb start n a ∙ sym (le-leb end n b))

-- the rows below one are taken out of a mask
pub from_cut : (mask : List Bool) (start : ℕ) → rows_of (λ n. cond (leb 0 n && ltb n start) false (has mask n)) ≡ rows_from mask start
from_cut mask start = rows_of-like (λ n. cond (leb 0 n && ltb n start) false (has mask n)) (λ n. has mask n && leb start n) (λ n l. ap (λ b. cond (b && ltb n start) false (has mask n)) (le-leb 0 n (omega arith)) ∙ one n (cases_lt n start))
  where
    one : (n : ℕ) → (n < start) ⊎ (start ≤ n) → cond (ltb n start) false (has mask n) ≡ (has mask n && leb start n)
    one n (inl a) = ap (λ b. cond b false (has mask n)) (lt-ltb n start a) ∙ sym (ap (λ b. has mask n && b) (lt-leb start n a) ∙ and-false (has mask n))
    one n (inr a) = ap (λ b. cond b false (has mask n)) (le-ltb n start a) ∙ sym (ap (λ b. has mask n && b) (le-leb start n a) ∙ and-true (has mask n))

-- ---- no span yet, and one more
pub spanned_none : (by : List ℕ) (v : Vector) (mask : List Bool) (m : Entries) (spans : List Span) → length mask ≡ 1024 → spans ≡ [] → AreSliced by v mask (rows_from mask 0) m m (slices_of_spans mask spans)
spanned_none by v mask m spans long e = subst (λ (left : List Bool). AreSliced by v mask left m m (slices_of_spans mask spans)) (from_first mask long) (sliced_none by v mask m (slices_of_spans mask spans) (ap (slices_of_spans mask) e))

rows_before : (m f e s k : Bool) → f ≡ false → (m && s) ≡ false → (m && (f && e)) ≡ ((m && s) && (e && k))
rows_before m f e s k off none = ap (λ b. m && (b && e)) off ∙ and-false m ∙ sym (ap (λ b. b && (e && k)) none)

rows_inside : (m f e s k : Bool) → f ≡ true → e ≡ true → s ≡ true → (m ≡ true → k ≡ true) → (m && (f && e)) ≡ ((m && s) && (e && k))
rows_inside true true true true true on end start key = refl
rows_inside false true true true k on end start key = refl
rows_inside m false e s k on end start key = absurd (false≢true on)
rows_inside m true false s k on end start key = absurd (false≢true end)
rows_inside m true true false k on end start key = absurd (false≢true start)
rows_inside true true true true false on end start key = absurd (false≢true (key refl))

rows_after : (m f e s k : Bool) → e ≡ false → (m && (f && e)) ≡ ((m && s) && (e && k))
rows_after m f true s k off = absurd (false≢true (sym off))
rows_after m f false s k off = ap (λ b. m && b) (and-false f) ∙ and-false m ∙ sym (and-false (m && s))

left_before : (m f e s g : Bool) → (m && s) ≡ false → g ≡ false → (m && g) ≡ ((m && s) && not (m && (f && e)))
left_before m f e s g none off = ap (λ b. m && b) off ∙ and-false m ∙ sym (ap (λ b. b && not (m && (f && e))) none)

left_inside : (m f e s g : Bool) → f ≡ true → e ≡ true → s ≡ true → g ≡ false → (m && g) ≡ ((m && s) && not (m && (f && e)))
left_inside true true true true false on end start off = refl
left_inside false true true true false on end start off = refl
left_inside m f e s true on end start off = absurd (false≢true (sym off))
left_inside m false e s false on end start off = absurd (false≢true on)
left_inside m true false s false on end start off = absurd (false≢true end)
left_inside m true true false false on end start off = absurd (false≢true start)

left_after : (m f e s g : Bool) → e ≡ false → s ≡ true → g ≡ true → (m && g) ≡ ((m && s) && not (m && (f && e)))
left_after true true false true true off start on = refl
left_after true false false true true off start on = refl
left_after false f false true true off start on = refl
left_after m f true s g off start on = absurd (false≢true (sym off))
left_after m f false false g off start on = absurd (false≢true start)
left_after m f false true false off start on = absurd (false≢true on)

module _ (by : List ℕ) (v : Vector) (mask : List Bool) (start first end : ℕ) (key : Cells) (low : start ≤ first) (high : first < end) (none : (n : ℕ) → start ≤ n → n < first → has mask n ≡ false) (same : (n : ℕ) → first ≤ n → n < end → has mask n ≡ true → key ≡ key_of by (row_at v n)) where
  gap : (n : ℕ) → n < first → (n < start) ⊎ (start ≤ n) → (has mask n && leb start n) ≡ false
  gap n l (inl a) = ap (λ b. has mask n && b) (lt-leb start n a) ∙ and-false (has mask n)
  gap n l (inr a) = ap (λ b. b && leb start n) (none n a l)

  its_key : (n : ℕ) → first ≤ n → n < end → has mask n ≡ true → same_cells key (key_of by (row_at v n)) ≡ true
  its_key n a b on = ap (same_cells key) (sym (same n a b on)) ∙ itself_row key

  -- a span's rows are those below its end with its key, of the rows that were left
  its_rows : (n : ℕ) → n < 1024 → has (rows_between mask first end) n ≡ (has (rows_from mask start) n && (ltb n end && same_cells key (key_of by (row_at v n))))
  its_rows n l =
      has-rows_of (λ n. has mask n && (leb first n && ltb n end)) n l ∙ one (cases_lt n first) (cases_lt n end)
      ∙ ap (λ b. b && (ltb n end && same_cells key (key_of by (row_at v n)))) (sym (has-rows_of (λ n. has mask n && leb start n) n l))
    where
      one : (n < first) ⊎ (first ≤ n) → (n < end) ⊎ (end ≤ n) → (has mask n && (leb first n && ltb n end)) ≡ ((has mask n && leb start n) && (ltb n end && same_cells key (key_of by (row_at v n))))
      one (inl a) e = rows_before (has mask n) (leb first n) (ltb n end) (leb start n) (same_cells key (key_of by (row_at v n))) (lt-leb first n a) (gap n a (cases_lt n start))
      one (inr a) (inl b) = rows_inside (has mask n) (leb first n) (ltb n end) (leb start n) (same_cells key (key_of by (row_at v n))) (le-leb first n a) (lt-ltb n end b) (le-leb start n (omega (arith, low, a))) (its_key n a b)
      one (inr a) (inr b) = rows_after (has mask n) (leb first n) (ltb n end) (leb start n) (same_cells key (key_of by (row_at v n))) (le-ltb n end b)

  -- and the rows from its end on are left
  rows_left : (slice : Slice) → slice.rows ≡ rows_between mask first end → rows_from mask end ≡ rows_outside (rows_from mask start) slice
  rows_left slice e =
      rows_of-like (λ n. has mask n && leb end n) (λ n. has (rows_from mask start) n && not (has slice.rows n))
      (λ n l. one n (cases_lt n first) (cases_lt n end)
      ∙ ap (λ b. b && not (has mask n && (leb first n && ltb n end))) (sym (has-rows_of (λ n. has mask n && leb start n) n l))
      ∙ ap (λ b. has (rows_from mask start) n && not b) (sym (ap (λ rows. has rows n) e ∙ has-rows_of (λ n. has mask n && (leb first n && ltb n end)) n l)))
    where
      one : (n : ℕ) → (n < first) ⊎ (first ≤ n) → (n < end) ⊎ (end ≤ n) → (has mask n && leb end n) ≡ ((has mask n && leb start n) && not (has mask n && (leb first n && ltb n end)))
      one n (inl a) e = left_before (has mask n) (leb first n) (ltb n end) (leb start n) (leb end n) (gap n a (cases_lt n start)) (lt-leb end n (omega (arith, a, high)))
      one n (inr a) (inl b) = left_inside (has mask n) (leb first n) (ltb n end) (leb start n) (leb end n) (le-leb first n a) (lt-ltb n end b) (le-leb start n (omega (arith, low, a))) (lt-leb end n b)
      one n (inr a) (inr b) = left_after (has mask n) (leb first n) (ltb n end) (leb start n) (leb end n) (le-ltb n end b) (le-leb start n (omega (arith, low, a))) (le-leb end n b)

  pub spanned_more : (old mid new : Entries) (spans after : List Span) (place : ℕ) → end ≤ 1024 → has mask first ≡ true → AreSliced by v mask (rows_from mask start) old mid (slices_of_spans mask spans) → IsTakenIn key place mid new → after ≡ spans ++ (record { place = place; first = first; end = end }) ∷ [] → AreSliced by v mask (rows_from mask end) old new (slices_of_spans mask after)
  spanned_more old mid new spans after place most on h t e =
      let span : Span = record { place = place; first = first; end = end } in
      let slice : Slice = span_slice mask span in
      let inside : first < 1024 = omega (arith, high, most) in
      sliced_more by v mask (rows_from mask start) (rows_from mask end) old mid new (slices_of_spans mask spans) (slices_of_spans mask after) slice key first end h inside
      (has-rows_of (λ n. has mask n && leb start n) first inside ∙ ap (λ b. has mask first && b) (le-leb start first low) ∙ and-true (has mask first) ∙ on) (same first (omega arith) high on) t
      its_rows (rows_left slice refl) (ap (slices_of_spans mask) e ∙ map-append (span_slice mask) spans (span ∷ []))

-- ---- the run of a row
pub run_steady : (starts : List Bool) (start end n : ℕ) → start ≤ n → n < end → ((k : ℕ) → start + 1 ≤ k → k < end → has starts k ≡ false) → run_at starts n ≡ run_at starts start
run_steady starts start end n low high none = ap (run_at starts) (let e : n ≡ start + (n - start) = omega (arith, low) in e) ∙ steps (n - start) (omega (arith, low, high))
  where
    steps : (d : ℕ) → start + d < end → run_at starts (start + d) ≡ run_at starts start
    steps zero _ = ap (run_at starts) (let e : start + zero ≡ start = omega arith in e)
    steps (suc d) l =
        ap (run_at starts) (let e : start + suc d ≡ suc (start + d) = omega arith in e) ∙ count_below-suc (λ i. has starts (suc i)) (start + d)
        ∙ ap (λ b. run_at starts (start + d) + cond b 1 0) (none (suc (start + d)) (omega arith) (omega (arith, l))) ∙ (let e : run_at starts (start + d) + 0 ≡ run_at starts (start + d) = omega arith in e) ∙ steps d (omega (arith, l))

-- the next run begins where the next start is
pub run_next : (starts : List Bool) (start end : ℕ) → start < end → has starts end ≡ true → ((k : ℕ) → start + 1 ≤ k → k < end → has starts k ≡ false) → run_at starts end ≡ run_at starts start + 1
run_next starts start zero order on none = absurd (omega (arith, order))
run_next starts start (suc k) order on none =
    count_below-suc (λ i. has starts (suc i)) k ∙ ap (λ b. run_at starts k + cond b 1 0) on ∙ ap (λ r. r + 1) (run_steady starts start (suc k) k (omega (arith, order)) (omega arith) none)
