-- The rows of one vector more in the tallies of all rows.
use Rattle.std.proofs.Common.{◌≡◌, ◌≢◌, ℕ, ◌+◌, ◌<◌, ◌≤◌, ◌⊎◌, inl, inr, Bool, cond, List, [], ◌∷◌, ◌++◌, map, length, get_or, set, None, ℤ, pos, refl, sym, ap, subst, ◌∙◌, arith, append-nil, length-set, get_or-set_same, get_or-set_other}
use Rattle.std.proofs.Math.Seq.{get_or-append_seam}
use Rattle.std.proofs.lemmas.Bool.{cases_lt}
use Rattle.std.proofs.lemmas.List.{get_or_append_left, get_or_default, map-append, length-map}
use Rattle.table_model.specs.Group.{values_in}
use Rattle.table_model.specs.State.{Cells}
use Rattle.table_model.proofs.Groups.{values_in-append}
use Rattle.transpose_order.specs.Mask.{has}
use Rattle.query_eval.specs.Grouping.{IsHeld, aggregate_values}
use Rattle.query_eval.specs.Kept.{rows_at}
use Rattle.query_eval.specs.Tally.{IsTally, kind_of}
use Rattle.query_eval.specs.Vector.{Vector, cell_at, looked_at}
use Rattle.query_eval.specs.declared.tallies.aggregate.Aggregate.{Aggregate}
use Rattle.query_eval.specs.declared.tallies.aggregate.Aggregate.TheVariants.{Rows, Folded}
use Rattle.query_eval.specs.declared.tallies.tally.Tally.{Tally}
use Rattle.query_eval.specs.declared.tallies.tally.TallyKind.TheVariants as kinds
use Rattle.query_eval.proofs.ColumnLemmas.{values-at}
use Rattle.query_eval.proofs.Lifted.{none_if, none_present}

-- ---- the rows of a mask more
-- COUNT(*) counts them
pub held_rows : (v : Vector) (mask : List Bool) (rows : List Cells) (t u : Tally) (n : ℕ) → n ≡ length (rows_at v mask) → ((values more : List ℤ) → kind_of t ≡ kinds.Count → n ≡ length more → IsTally values t → IsTally (values ++ more) u) → kind_of u ≡ kind_of t → IsHeld rows Rows t → IsHeld (rows ++ rows_at v mask) Rows u
held_rows v mask rows t u n many takes same h = record {
  values = subst (λ (vs : List ℤ). IsTally vs u) (sym (map-append (λ _. pos 0) rows (rows_at v mask))) (takes (aggregate_values Rows rows) (map (λ _. pos 0) (rows_at v mask)) h.kind (many ∙ sym (length-map {B = ℤ} (rows_at v mask) (λ _. pos 0))) h.values);
  kind = same ∙ h.kind;
}

-- a set function takes in their values
pub held_values : (v : Vector) (mask : List Bool) (fold : _) (distinct : Bool) (column : ℕ) (rows : List Cells) (t u : Tally) → ((before : List ℤ) → IsTally before t → IsTally (before ++ looked_at v column mask) u) → kind_of u ≡ kind_of t → IsHeld rows (Folded fold distinct column) t → IsHeld (rows ++ rows_at v mask) (Folded fold distinct column) u
held_values v mask fold distinct column rows t u takes same h = record {
  values = subst (λ (vs : List ℤ). IsTally vs u) (ap (λ zs. values_in column rows ++ zs) (sym (values-at v column mask)) ∙ sym (values_in-append column rows (rows_at v mask))) (takes (values_in column rows) h.values);
  kind = same ∙ h.kind;
}

missing_values : (v : Vector) (column : ℕ) (mask : List Bool) → ((n : ℕ) → n < 1024 → cell_at v column n ≡ None) → looked_at v column mask ≡ []
unfolding looked_at
missing_values v column mask h = none_present (λ n. cond (has mask n) (cell_at v column n) None) (λ n l. none_if (has mask n) (cell_at v column n) (h n l))

-- a column that the table hasn't has none
pub held_missing : (v : Vector) (mask : List Bool) (fold : _) (distinct : Bool) (column : ℕ) (rows : List Cells) (t : Tally) → ((n : ℕ) → n < 1024 → cell_at v column n ≡ None) → IsHeld rows (Folded fold distinct column) t → IsHeld (rows ++ rows_at v mask) (Folded fold distinct column) t
held_missing v mask fold distinct column rows t missing h =
    held_values v mask fold distinct column rows t t
    (λ before b. subst (λ (vs : List ℤ). IsTally vs t) (sym (ap (λ zs. before ++ zs) (missing_values v column mask missing) ∙ append-nil before)) b) refl h

-- ---- one tally more
pub held_pushed : (rows : List Cells) (named : List Aggregate) (i : ℕ) (now next : List Tally) (one : Aggregate) (u : Tally) → i < length named → length now ≡ i → next ≡ now ++ u ∷ [] → one ≡ get_or named i one → IsHeld rows one u → ((j : ℕ) (a : Aggregate) (t : Tally) → j < i → IsHeld rows (get_or named j a) (get_or now j t)) → (j : ℕ) (a : Aggregate) (t : Tally) → j < i + 1 → IsHeld rows (get_or named j a) (get_or next j t)
held_pushed rows named i now next one u within size is at held before j a t l = by_place (cases_lt j i)
  where
    by_place : (j < i) ⊎ (i ≤ j) → IsHeld rows (get_or named j a) (get_or next j t)
    by_place (inl b) =
        subst (IsHeld rows (get_or named j a)) (sym (ap (λ ts. get_or ts j t) is ∙ get_or_append_left now (u ∷ []) t j (omega (arith, b, size)))) (before j a t b)
    by_place (inr b) =
        let e : j ≡ i = omega arith in
        let last : get_or next j t ≡ u = ap (λ ts. get_or ts j t) is ∙ ap (λ k. get_or (now ++ u ∷ []) k t) (e ∙ sym size) ∙ get_or-append_seam now u [] t in
        let mine : get_or named j a ≡ one = ap (λ k. get_or named k a) e ∙ get_or_default named i a one within ∙ sym at in
        subst (IsHeld rows (get_or named j a)) (sym last) (subst (λ (x : Aggregate). IsHeld rows x u) (sym mine) held)

-- ---- one tally takes in more rows, beside those that did and those that didn't yet
module _ (named : List Aggregate) (rows more : List Cells) (i : ℕ) (old now : List Tally) (m u : Tally) (size : length now ≡ length old) (ln : i < length named) (lo : i < length old) (ahead : (j : ℕ) (t : Tally) → i ≤ j → get_or now j t ≡ get_or old j t) where
  pub tallies_size : length (set now i u) ≡ length old
  tallies_size = length-set now i u ∙ size

  pub tallies_ahead : (j : ℕ) (t : Tally) → i + 1 ≤ j → get_or (set now i u) j t ≡ get_or old j t
  tallies_ahead j t l = let ne : j ≢ i = omega arith in get_or-set_other now i j u t ne ∙ ahead j t (omega (arith, l))

  pub tallies_held : m ≡ get_or now i m → ((j : ℕ) (a : Aggregate) (t : Tally) → j < i → IsHeld (rows ++ more) (get_or named j a) (get_or now j t)) → (IsHeld rows (get_or named i Rows) m → IsHeld (rows ++ more) (get_or named i Rows) u) → IsHeld rows (get_or named i Rows) (get_or old i m)
      → (j : ℕ) (a : Aggregate) (t : Tally) → j < i + 1 → IsHeld (rows ++ more) (get_or named j a) (get_or (set now i u) j t)
  tallies_held mine before takes here j a t l = by_place (cases_lt j i)
    where
      inside : i < length now
      inside = omega (arith, lo, size)

      held : IsHeld (rows ++ more) (get_or named i Rows) u
      held = takes (subst (IsHeld rows (get_or named i Rows)) (sym (mine ∙ ahead i m (omega arith))) here)

      by_place : (j < i) ⊎ (i ≤ j) → IsHeld (rows ++ more) (get_or named j a) (get_or (set now i u) j t)
      by_place (inl b) =
          let ne : j ≢ i = omega arith in
          subst (IsHeld (rows ++ more) (get_or named j a)) (sym (get_or-set_other now i j u t ne)) (before j a t b)
      by_place (inr b) =
          let e : i ≡ j = omega arith in
          subst (λ (k : ℕ). IsHeld (rows ++ more) (get_or named k a) (get_or (set now i u) k t)) e
          (subst (IsHeld (rows ++ more) (get_or named i a)) (sym (get_or-set_same now i u t inside))
          (subst (λ (x : Aggregate). IsHeld (rows ++ more) x u) (get_or_default named i Rows a ln) held))
