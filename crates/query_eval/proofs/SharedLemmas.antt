-- Tallies, as spans and slices of a vector's rows come, and then the rows that are left.
use Rattle.std.proofs.Common.{◌≡◌, ◌==◌, ℕ, zero, suc, ◌+◌, ◌<◌, Bool, true, false, cond, not, ◌&&◌, List, [], ◌∷◌, ◌++◌, map, length, get_or, take, count_by, Option, Some, None, ℤ, pos, refl, sym, ap, subst, ◌∙◌, arith, append-nil, append_assoc}
use Rattle.std.specs.List.{cons_option, range_with_len}
use Rattle.std.specs.Option.{is_some}
use Rattle.std.proofs.lemmas.List.{map-append, take_more}
use Rattle.table_model.specs.Answer.{whole}
use Rattle.table_model.specs.Condition.{is_null}
use Rattle.table_model.specs.Group.{values_in}
use Rattle.table_model.specs.State.{Cells}
use Rattle.table_model.specs.Values.{present}
use Rattle.table_model.specs.declared.query.Fold.{Fold}
use Rattle.table_model.proofs.Groups.{values_in-append}
use Rattle.transpose_order.specs.Mask.{has, rows_of}
use Rattle.transpose_order.specs.MaskWords.{has-rows_of, rows_of-like}
use Rattle.query_eval.specs.Grouping.{AreCells, AreCounted, AreNulls, IsHeld, aggregate_cell, aggregate_values}
use Rattle.query_eval.specs.Kept.{rows_at}
use Rattle.query_eval.specs.Places.{rows_placed}
use Rattle.query_eval.specs.Slices.{rows_shared, rows_sliced, slices_of, slices_of_spans, values_at}
use Rattle.query_eval.specs.Tally.{IsTally, kind_of}
use Rattle.query_eval.specs.Vector.{Vector, cell_at, row_at}
use Rattle.query_eval.specs.declared.tallies.aggregate.Aggregate.{Aggregate}
use Rattle.query_eval.specs.declared.tallies.aggregate.Aggregate.TheVariants.{Rows, Folded}
use Rattle.query_eval.specs.declared.grouping.split.Slice.{Slice}
use Rattle.query_eval.specs.declared.grouping.split.Split.{Split}
use Rattle.query_eval.specs.declared.tallies.tally.Tally.{Tally}
use Rattle.query_eval.proofs.ColumnLemmas.{length-present, values-of}
use Rattle.query_eval.proofs.GroupingLemmas.{held_without, none_values}
use Rattle.query_eval.proofs.Lifted.{none_if, none_present, rows_of-alike, shown_if}
use Rattle.query_eval.proofs.RowsBelow.{placed_more_rows}

-- ---- the values of some rows that an aggregate goes over
values_both : (a : Aggregate) (xs ys : List Cells) → aggregate_values a (xs ++ ys) ≡ aggregate_values a xs ++ aggregate_values a ys
values_both Rows xs ys = map-append (λ _. pos 0) xs ys
values_both (Folded fold distinct place) xs ys = values_in-append place xs ys

zeros_of : (p : ℕ → Bool) (row : ℕ → Cells) (ns : List ℕ) → map (λ _. pos 0) (present (map (λ n. cond (p n) (Some (row n)) None) ns)) ≡ present (map (λ n. cond (p n) (Some (pos 0)) None) ns)
zeros_of p row [] = refl
zeros_of p row (n ∷ ns) = one (p n) ∙ ap (cons_option (cond (p n) (Some (pos 0)) None)) (zeros_of p row ns)
  where
    rest : List Cells
    rest = present (map (λ n. cond (p n) (Some (row n)) None) ns)

    one : (b : Bool) → map (λ _. pos 0) (cons_option (cond b (Some (row n)) None) rest) ≡ cons_option (cond b (Some (pos 0)) None) (map (λ _. pos 0) rest)
    one true = refl
    one false = refl

-- the cell of a row of a mask that an aggregate goes over
abbrev shown_cell : Aggregate → Vector → List Bool → ℕ → Option ℤ
shown_cell a v mask n = cond (has mask n) (aggregate_cell (row_at v n) a) None

values_shown : (a : Aggregate) (v : Vector) (mask : List Bool) → aggregate_values a (rows_at v mask) ≡ present (rows_of (shown_cell a v mask))
unfolding rows_at rows_of values_in
values_shown Rows v mask = zeros_of (has mask) (row_at v) (range_with_len 0 1024)
values_shown (Folded fold distinct place) v mask = values-of place (has mask) (row_at v) (range_with_len 0 1024)

-- of a slice, the decoded values but for the nulls
pub values_slice : (a : Aggregate) (v : Vector) (mask nulls rows : List Bool) (values : List ℤ) → AreCells a v nulls values → rows ≡ rows_of (λ n. has mask n && not (has nulls n)) → values_at rows values ≡ aggregate_values a (rows_at v mask)
values_slice a v mask nulls rows values cells e =
    ap present (rows_of-alike (λ n. cond (has rows n) (Some (get_or values n (pos 0))) None) (shown_cell a v mask) None
    (λ n l.
    ap (λ b. cond b (Some (get_or values n (pos 0))) None) (ap (λ m. has m n) e ∙ has-rows_of (λ n. has mask n && not (has nulls n)) n l)
    ∙ shown_if (has mask n) (has nulls n) (get_or values n (pos 0)) ∙ ap (λ o. cond (has mask n) o None) (cells n l)))
    ∙ sym (values_shown a v mask)

some_of : (b c : Bool) (o : Option ℤ) → is_some o ≡ not c → is_some (cond b o None) ≡ (b && not c)
some_of true c o e = e
some_of false c o e = refl

-- of a slice, as many values as rows but for the nulls
pub count_slice : (a : Aggregate) (v : Vector) (mask nulls rows : List Bool) (count : ℕ) → AreNulls a v nulls → rows ≡ rows_of (λ n. has mask n && not (has nulls n)) → count ≡ count_by (λ y. y) rows → count ≡ length (aggregate_values a (rows_at v mask))
count_slice a v mask nulls rows count none e is =
    is ∙ ap (count_by (λ y. y)) (e ∙ rows_of-like (λ n. has mask n && not (has nulls n)) (λ n. is_some (shown_cell a v mask n)) (λ n l. sym (some_of (has mask n) (has nulls n) (aggregate_cell (row_at v n) a) (none n l))))
    ∙ sym (ap length (values_shown a v mask) ∙ length-present (shown_cell a v mask))

pub counted_left : (a : Aggregate) (v : Vector) (mask nulls rows : List Bool) → AreNulls a v nulls → rows ≡ rows_of (λ n. has mask n && not (has nulls n)) → AreCounted a v mask rows
counted_left a v mask nulls rows none e n l =
    some_of (has mask n) (has nulls n) (aggregate_cell (row_at v n) a) (none n l) ∙ sym (ap (λ m. has m n) e ∙ has-rows_of (λ n. has mask n && not (has nulls n)) n l)

pub nulls_none : (v : Vector) (nulls : List Bool) → nulls ≡ rows_of (λ _. false) → AreNulls Rows v nulls
nulls_none v nulls e n l = sym (ap (λ m. not (has m n)) e ∙ ap not (has-rows_of (λ _. false) n l))

pub nulls_column : (fold : Fold) (distinct : Bool) (v : Vector) (column : ℕ) (nulls : List Bool) → nulls ≡ rows_of (λ n. is_null (whole (cell_at v column n))) → AreNulls (Folded fold distinct column) v nulls
nulls_column fold distinct v column nulls e n l = one (cell_at v column n) ∙ sym (ap (λ m. not (has m n)) e ∙ ap not (has-rows_of (λ n. is_null (whole (cell_at v column n))) n l))
  where
    one : (o : Option ℤ) → is_some o ≡ not (is_null (whole o))
    one None = refl
    one (Some z) = refl

-- ---- one slice more
sliced_both : (v : Vector) (xs ys : List Slice) (g : ℕ) → rows_sliced v (xs ++ ys) g ≡ rows_sliced v xs g ++ rows_sliced v ys g
sliced_both v [] ys g = refl
sliced_both v (s ∷ ss) ys g = ap (λ l. cond (s.place == g) (rows_at v s.rows) [] ++ l) (sliced_both v ss ys g) ∙ sym (append_assoc (cond (s.place == g) (rows_at v s.rows) []) (rows_sliced v ss g) (rows_sliced v ys g))

sliced_push : (v : Vector) (slices : List Slice) (i : ℕ) (s : Slice) (g : ℕ) → i < length slices → s ≡ get_or slices i s → rows_sliced v (take (i + 1) slices) g ≡ rows_sliced v (take i slices) g ++ cond (s.place == g) (rows_at v s.rows) []
sliced_push v slices i s g l at =
    ap (λ ss. rows_sliced v ss g) (take_more slices i s l ∙ ap (λ (x : Slice). take i slices ++ x ∷ []) (sym at)) ∙ sliced_both v (take i slices) (s ∷ []) g
    ∙ ap (λ rows. rows_sliced v (take i slices) g ++ rows) (append-nil (cond (s.place == g) (rows_at v s.rows) []))

pub held_slice : (v : Vector) (slices : List Slice) (i : ℕ) (s : Slice) (g : ℕ) (a : Aggregate) (taken : List Cells) (t u : Tally) (added : List ℤ) → i < length slices → s ≡ get_or slices i s → added ≡ aggregate_values a (rows_at v s.rows)
    → IsTally (aggregate_values a (taken ++ rows_sliced v (take i slices) g) ++ cond (s.place == g) added []) u → kind_of u ≡ kind_of t → IsHeld (taken ++ rows_sliced v (take i slices) g) a t → IsHeld (taken ++ rows_sliced v (take (i + 1) slices) g) a u
held_slice v slices i s g a taken t u added l at is told same h =
    let before : List Cells = taken ++ rows_sliced v (take i slices) g in
    let rows : taken ++ rows_sliced v (take (i + 1) slices) g ≡ before ++ cond (s.place == g) (rows_at v s.rows) [] = ap (λ r. taken ++ r) (sliced_push v slices i s g l at) ∙ sym (append_assoc taken (rows_sliced v (take i slices) g) (cond (s.place == g) (rows_at v s.rows) [])) in
    record {
      values =
          subst (λ (zs : List ℤ). IsTally zs u)
          (ap (λ zs. aggregate_values a before ++ cond (s.place == g) zs []) is ∙ ap (λ zs. aggregate_values a before ++ zs) (one (s.place == g)) ∙ sym (values_both a before (cond (s.place == g) (rows_at v s.rows) [])) ∙ ap (aggregate_values a) (sym rows)) told;
      kind = same ∙ h.kind;
    }
  where
    one : (b : Bool) → cond b (aggregate_values a (rows_at v s.rows)) [] ≡ aggregate_values a (cond b (rows_at v s.rows) [])
    one true = refl
    one false = sym (none_values a)

-- ---- the spans, the slices, and then the rows that are left
placed_nothing : (k : ℕ) (v : Vector) (mask : List Bool) (places : List ℕ) (g : ℕ) → ((n : ℕ) → n < k → has mask n ≡ false) → rows_placed k v mask places g ≡ []
placed_nothing zero v mask places g h = refl
placed_nothing (suc k) v mask places g h =
    ap (λ n. rows_placed n v mask places g) (let e : suc k ≡ k + 1 = omega arith in e)
    ∙ placed_more_rows k v mask places g false (ap (λ b. b && (get_or places k 0 == g)) (h k (omega arith))) ∙ append-nil (rows_placed k v mask places g) ∙ placed_nothing k v mask places g (λ n l. h n (omega (arith, l)))

-- some rows, those of the spans with a place, and then those of the slices with it
abbrev pub taken_sliced : Vector → Split → ℕ → List Cells → List Cells
taken_sliced v split g taken = (taken ++ rows_sliced v (slices_of_spans split.kept split.spans.items) g) ++ rows_sliced v split.slices.items g

module _ (v : Vector) (split : Split) (g : ℕ) (a : Aggregate) (taken : List Cells) (t : Tally) where
  both_sliced : taken_sliced v split g taken ≡ taken ++ rows_sliced v (slices_of split) g
  both_sliced =
      append_assoc taken (rows_sliced v (slices_of_spans split.kept split.spans.items) g) (rows_sliced v split.slices.items g)
      ∙ ap (λ rows. taken ++ rows) (sym (sliced_both v (slices_of_spans split.kept split.spans.items) split.slices.items g))

  pub held_shared : IsHeld (taken_sliced v split g taken ++ rows_placed 1024 v split.left split.places g) a t → IsHeld (taken ++ rows_shared v split g) a t
  held_shared h =
      subst (λ (rows : List Cells). IsHeld rows a t)
      (ap (λ rows. rows ++ rows_placed 1024 v split.left split.places g) both_sliced ∙ append_assoc taken (rows_sliced v (slices_of split) g) (rows_placed 1024 v split.left split.places g)) h

  pub held_sliced : ((n : ℕ) → n < 1024 → has split.left n ≡ false) → IsHeld (taken_sliced v split g taken) a t → IsHeld (taken ++ rows_shared v split g) a t
  held_sliced none h =
      held_shared
      (subst (λ (rows : List Cells). IsHeld rows a t) (sym (ap (λ rows. taken_sliced v split g taken ++ rows) (placed_nothing 1024 v split.left split.places g none) ∙ append-nil (taken_sliced v split g taken))) h)

-- ---- no row has a value
module _ (v : Vector) (a : Aggregate) (t : Tally) (missing : (n : ℕ) → n < 1024 → aggregate_cell (row_at v n) a ≡ None) where
  without : (mask : List Bool) → aggregate_values a (rows_at v mask) ≡ []
  without mask = values_shown a v mask ∙ none_present (shown_cell a v mask) (λ n l. none_if (has mask n) (aggregate_cell (row_at v n) a) (missing n l))

  more : (rows taken : List Cells) → aggregate_values a rows ≡ [] → IsHeld taken a t → IsHeld (taken ++ rows) a t
  more rows taken e h = record { values = subst (λ (zs : List ℤ). IsTally zs t) (sym (values_both a taken rows ∙ ap (λ zs. aggregate_values a taken ++ zs) e ∙ append-nil (aggregate_values a taken))) h.values; kind = h.kind }

  sliced_without : (slices : List Slice) (g : ℕ) (taken : List Cells) → IsHeld taken a t → IsHeld (taken ++ rows_sliced v slices g) a t
  sliced_without [] g taken h = subst (λ (rows : List Cells). IsHeld rows a t) (sym (append-nil taken)) h
  sliced_without (s ∷ ss) g taken h =
      subst (λ (rows : List Cells). IsHeld rows a t) (append_assoc taken (cond (s.place == g) (rows_at v s.rows) []) (rows_sliced v ss g))
      (sliced_without ss g (taken ++ cond (s.place == g) (rows_at v s.rows) []) (one (s.place == g)))
    where
      one : (b : Bool) → IsHeld (taken ++ cond b (rows_at v s.rows) []) a t
      one true = more (rows_at v s.rows) taken (without s.rows) h
      one false = subst (λ (rows : List Cells). IsHeld rows a t) (sym (append-nil taken)) h

  pub shared_without : (split : Split) (g : ℕ) (taken : List Cells) → IsHeld taken a t → IsHeld (taken ++ rows_shared v split g) a t
  shared_without split g taken h =
      held_shared v split g a taken t
      (held_without v split.left split.places g a (taken_sliced v split g taken) t missing 1024 (omega arith)
      (sliced_without split.slices.items g (taken ++ rows_sliced v (slices_of_spans split.kept split.spans.items) g) (sliced_without (slices_of_spans split.kept split.spans.items) g taken h)))
