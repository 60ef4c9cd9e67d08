-- Slices of a vector's rows by codes, one code more: the rows with a code before it are in slices, and the others are left.
use Rattle.std.proofs.Common.{◌≡◌, ◌==◌, ℕ, ◌+◌, ◌<◌, ◌≤◌, ◌⊎◌, inl, inr, leb, Bool, true, false, not, ◌&&◌, List, [], ◌∷◌, ◌++◌, length, get_or, ℤ, pos, ◌<ℤ◌, refl, sym, ap, subst, ◌∙◌, arith, length-append}
use Rattle.std.proofs.lemmas.Bool.{and_parts, cases_lt, false≢true}
use Rattle.std.proofs.lemmas.Bool.Decides.{Decides-eqb}
use Rattle.std.proofs.Math.Bool.{and_assoc, and-true}
use Rattle.table_model.specs.State.{same_cells}
use Rattle.query_eval.specs.Entries.{Entries}
use Rattle.std.proofs.lemmas.Bool.Decides.{nat_tests}
use Rattle.std.proofs.lemmas.List.{get_or_append_left}
use Rattle.std.proofs.Math.Seq.{get_or-append_seam}
use Rattle.table_model.specs.Group.{key_of}
use Rattle.transpose_order.specs.Mask.{has, rows_of}
use Rattle.transpose_order.specs.MaskWords.{has-rows_of}
use Rattle.query_eval.specs.Places.{IsTakenIn}
use Rattle.query_eval.specs.Slices.{AreSliced}
use Rattle.query_eval.specs.Vector.{Vector, row_at}
use Rattle.query_eval.specs.declared.grouping.split.Slice.{Slice}
use Rattle.query_eval.proofs.CodeLemmas.{code_same}
use Rattle.query_eval.proofs.SliceLemmas.{all_below, and_under, left_within, sliced_more}
use Rattle.query_eval.specs.Coded.{cell_of_code}

-- ---- the rows with a code, and those with a later one
code_last : (code k : ℕ) → (leb code k && not (k == code)) ≡ leb (code + 1) k
code_last code k = grind (arith, nat_tests)

code_here : (code k : ℕ) → (leb code k && (k == code)) ≡ (k == code)
code_here code k = grind (arith, nat_tests)

-- the rows with a code or a later one are those of the mask whose code is none before it
module _ (codes : List ℕ) (code n : ℕ) (mask left rows : List Bool) (inside : n < 1024) (before : has left n ≡ (has mask n && leb code (get_or codes n 0))) (here : has rows n ≡ (has left n && (get_or codes n 0 == code))) where
  pub coded_here : has rows n ≡ (has mask n && (get_or codes n 0 == code))
  coded_here = here ∙ ap (λ b. b && (get_or codes n 0 == code)) before ∙ and_assoc (has mask n) (leb code (get_or codes n 0)) (get_or codes n 0 == code) ∙ ap (λ b. has mask n && b) (code_here code (get_or codes n 0))

  pub left_more : (next : List Bool) → next ≡ rows_of (λ k. has left k && not (has rows k)) → has next n ≡ (has mask n && leb (code + 1) (get_or codes n 0))
  left_more next e =
      ap (λ m. has m n) e ∙ has-rows_of (λ k. has left k && not (has rows k)) n inside ∙ ap (λ b. b && not (has rows n)) before ∙ ap (λ b. (has mask n && leb code (get_or codes n 0)) && not b) coded_here
      ∙ one (has mask n) (leb code (get_or codes n 0)) (get_or codes n 0 == code) ∙ ap (λ b. has mask n && b) (code_last code (get_or codes n 0))
    where
      one : (a b c : Bool) → ((a && b) && not (a && c)) ≡ (a && (b && not c))
      one true b c = refl
      one false b c = refl

  -- where no row has the code
  pub left_same : has rows n ≡ false → has left n ≡ (has mask n && leb (code + 1) (get_or codes n 0))
  left_same none = before ∙ one (has mask n) (leb code (get_or codes n 0)) (get_or codes n 0 == code) (sym coded_here ∙ none) ∙ ap (λ b. has mask n && b) (code_last code (get_or codes n 0))
    where
      one : (a b c : Bool) → (a && c) ≡ false → (a && b) ≡ (a && (b && not c))
      one true b true e = absurd (false≢true (sym e))
      one true b false e = sym (and-true b)
      one false b c e = refl

-- ---- one slice more
pub each_pushed : (P : Slice → Type 0) (slices after : List Slice) (slice : Slice) → after ≡ slices ++ slice ∷ [] → ((i : ℕ) (s : Slice) → i < length slices → P (get_or slices i s)) → P slice → (i : ℕ) (s : Slice) → i < length after → P (get_or after i s)
each_pushed P slices after slice e each one i s l =
    subst (λ (ss : List Slice). P (get_or ss i s)) (sym e) (by_order (cases_lt i (length slices)))
  where
    by_order : (i < length slices) ⊎ (length slices ≤ i) → P (get_or (slices ++ slice ∷ []) i s)
    by_order (inl h) = subst P (sym (get_or_append_left slices (slice ∷ []) s i h)) (each i s h)
    by_order (inr h) =
        let last : length slices ≡ i = omega (arith, h, l, ap length e, length-append slices (slice ∷ [])) in
        subst (λ (k : ℕ). P (get_or (slices ++ slice ∷ []) k s)) last (subst P (sym (get_or-append_seam slices slice [] s)) one)

pub sliced_code : (by : List ℕ) (v : Vector) (mask left next : List Bool) (old mid new : Entries) (slices after : List Slice) (slice : Slice) (codes : List ℕ) (keys : List ℤ) (count code row : ℕ)
    → ((i j : ℕ) → i < j → j < count → get_or keys i (pos 0) <ℤ get_or keys j (pos 0)) → ((n : ℕ) → n < 1024 → get_or codes n 0 ≤ count) → ((n : ℕ) → n < 1024 → has mask n ≡ true → cell_of_code count keys (get_or codes n 0) ∷ [] ≡ key_of by (row_at v n))
    → AreSliced by v mask left old mid slices → code ≤ count → row < 1024 → has slice.rows row ≡ true → ((n : ℕ) → n < 1024 → has slice.rows n ≡ (has left n && (get_or codes n 0 == code)))
    → IsTakenIn (cell_of_code count keys code ∷ []) slice.place mid new → next ≡ rows_of (λ n. has left n && not (has slice.rows n)) → after ≡ slices ++ slice ∷ [] → AreSliced by v mask next old new after
sliced_code by v mask left next old mid new slices after slice codes keys count code row rises within shown h few inside on rows taken e f =
    let here = and_parts (has left row) (get_or codes row 0 == code) (sym (rows row inside) ∙ on) in
    let is : code ≡ get_or codes row 0 = sym ((Decides-eqb (get_or codes row 0) code).0 here.1) in
    let kept : (n : ℕ) → n < 1024 → has left n ≡ true → has mask n ≡ true = left_within by v mid mask left slices h.parted in
    sliced_more by v mask left next old mid new slices after slice (cell_of_code count keys code ∷ []) row 1024 h inside here.0 (ap (λ k. cell_of_code count keys k ∷ []) is ∙ shown row inside (kept row inside here.0)) taken
    (λ n l. all_below left slice.rows n (same_cells (cell_of_code count keys code ∷ []) (key_of by (row_at v n))) l
    (rows n l ∙ and_under (has left n) (get_or codes n 0 == code) (same_cells (cell_of_code count keys code ∷ []) (key_of by (row_at v n)))
    (λ on. code_same count keys rises code (get_or codes n 0) few (within n l) ∙ ap (same_cells (cell_of_code count keys code ∷ [])) (shown n l (kept n l on)))))
    e f
