-- The groups that a map has are the groups of the rows, in the order of the map's keys.
use Rattle.std.proofs.Common.{◌≡◌, ℕ, ◌+◌, ◌≤◌, ◌<◌, Bool, true, false, cond, ◌||◌, List, [], ◌∷◌, ◌++◌, map, length, get_or, take, Option, Some, None, ℤ, pos, All, AllPairs, refl, sym, ap, ◌∙◌, arith, append_assoc}
use Rattle.std.specs.FinMap as finite
use Rattle.std.specs.Map.{keys_of}
use Rattle.std.specs.Global.{Vec}
use Rattle.std.specs.List.{AllByRecursion, list_any}
use Rattle.std.specs.List.Sorted.{IsStrictlySortedBy}
use Rattle.std.proofs.lemmas.List.Elements.{All-nil, All-cons}
use Rattle.std.proofs.lemmas.List.Kept.{AllPairs-cons}
use Rattle.std.specs.Option.{is_some}
use Rattle.std.specs.Ordering.{eq_by_cmp}
use Rattle.std.specs.declared.cmp.Ordering.TheVariants.{Less}
use Rattle.std.proofs.lemmas.Int.{ints}
use Rattle.std.proofs.lemmas.List.{length-map, map-append, take_more}
use Rattle.std.proofs.lemmas.List.Sums.{count_by-le-length, length-filter}
use Rattle.std.proofs.lemmas.Option.{none-some}
use Rattle.std.proofs.lemmas.Simd.{map-map}
use Rattle.table_model.specs.Group.{key_cmp, key_of, group_at, groups_of, keys_in, rows_with, values_in, state_row_limit}
use Rattle.table_model.specs.Meaning.{fold_value, once_if}
use Rattle.table_model.specs.State.{Cells, same_cells}
use Rattle.table_model.specs.Table.{Table}
use Rattle.table_model.specs.declared.answer.Field.{Field}
use Rattle.table_model.specs.declared.answer.Field.TheVariants.{Whole}
use Rattle.table_model.specs.declared.query.Fold.{Fold}
use Rattle.table_model.specs.declared.query.Fold.TheVariants.{Count}
use Rattle.table_model.proofs.Bounds.{AreSmall, small_values, length-values_in}
use Rattle.table_model.proofs.KeyLists.{keys_are}
use Rattle.table_model.proofs.Keys.{tied_keys}
use Rattle.query_eval.proofs.TableLemmas.{kept_rows_fit}
use Rattle.query_eval.specs.Aggregate.{aggregate_value}
use Rattle.query_eval.specs.Entries.{Entries, place_in}
use Rattle.query_eval.specs.Finished.{GroupFields, finished_groups, finished_of}
use Rattle.query_eval.specs.Grouping.{AreGroups, IsHeld, aggregate_values}
use Rattle.query_eval.specs.Kept.{AreFew}
use Rattle.query_eval.specs.Tally.{IsTally, kind_of}
use Rattle.query_eval.specs.TallyKinds.{fold_kind}
use Rattle.query_eval.specs.declared.tallies.aggregate.Aggregate.{Aggregate}
use Rattle.query_eval.specs.declared.tallies.aggregate.Aggregate.TheVariants.{Rows, Folded}
use Rattle.query_eval.specs.declared.tallies.tally.Tally.{Tally}

zeros_small : (rows : List Cells) → AreSmall (map (λ _. pos 0) rows)
zeros_small [] = tt
zeros_small (row ∷ rows) = ((omega (arith, ints), omega (arith, ints)), zeros_small rows)

-- the values of few rows are few and small
values_small : (a : Aggregate) (table : Table) (rows : List Cells) → AreFew table rows → AreSmall (aggregate_values a rows)
values_small Rows table rows few = zeros_small rows
values_small (Folded fold distinct place) table rows few = small_values table.columns rows place few.fit

values_few : (a : Aggregate) (table : Table) (rows : List Cells) → AreFew table rows → length (aggregate_values a rows) ≤ state_row_limit
values_few Rows table rows few = omega (arith, length-map {B = ℤ} rows (λ _. pos 0), few.few)
values_few (Folded fold distinct place) table rows few = omega (arith, length-values_in rows place, few.few)

-- COUNT(*) counts the rows
pub rows_value : (table : Table) (rows : List Cells) (t : Tally) (field : Field) → ((distinct : Bool) (values : List ℤ) → length values ≤ state_row_limit → AreSmall values → IsTally values t → kind_of t ≡ fold_kind distinct Count → field ≡ fold_value Count (once_if distinct values)) → AreFew table rows → IsHeld rows Rows t → field ≡ aggregate_value Rows rows
rows_value table rows t field is few h =
    is false (aggregate_values Rows rows) (values_few Rows table rows few) (values_small Rows table rows few) h.values h.kind
    ∙ ap (λ n. Whole (pos n)) (length-map {B = ℤ} rows (λ _. pos 0))

-- a set function of a column
pub folded_value : (fold : Fold) (distinct : Bool) (place : ℕ) (table : Table) (rows : List Cells) (t : Tally) (field : Field) → ((each : Bool) (values : List ℤ) → length values ≤ state_row_limit → AreSmall values → IsTally values t → kind_of t ≡ fold_kind each fold → field ≡ fold_value fold (once_if each values)) → AreFew table rows → IsHeld rows (Folded fold distinct place) t → field ≡ aggregate_value (Folded fold distinct place) rows
folded_value fold distinct place table rows t field is few h =
    is distinct (values_in place rows) (values_few (Folded fold distinct place) table rows few) (values_small (Folded fold distinct place) table rows few) h.values h.kind

-- the rows of a group are few where all are
pub few_with : (table : Table) (by : List ℕ) (rows : List Cells) (key : Cells) → AreFew table rows → AreFew table (rows_with by rows key)
unfolding rows_with
few_with table by rows key few = record {
  fit = kept_rows_fit table.columns (λ row. same_cells key (key_of by row)) rows few.fit;
  few = omega (arith, length-filter (λ row. same_cells key (key_of by row)) rows, count_by-le-length (λ row. same_cells key (key_of by row)) rows, few.few);
}

-- one field more
pub fields_more : (named : List Aggregate) (i : ℕ) (d : Aggregate) (rows : List Cells) (fields next : List Field) (field : Field) → i < length named → fields ≡ map (λ a. aggregate_value a rows) (take i named) → next ≡ fields ++ field ∷ [] → field ≡ aggregate_value (get_or named i d) rows → next ≡ map (λ a. aggregate_value a rows) (take (i + 1) named)
fields_more named i d rows fields next field l before is e =
    is ∙ ap (λ fs. fs ++ field ∷ []) before ∙ ap (λ f. map (λ a. aggregate_value a rows) (take i named) ++ f ∷ []) e
    ∙ sym (ap (map (λ a. aggregate_value a rows)) (take_more named i d l) ∙ map-append (λ a. aggregate_value a rows) (take i named) (get_or named i d ∷ []))

-- what is known of all groups is known of those that are left when one is taken out
pub place_left : (old now : Option ℕ) (b : Bool) → now ≡ cond b None old → (place : ℕ) → now ≡ Some place → old ≡ Some place
place_left old now true e place h = absurd (none-some place (sym e ∙ h))
place_left old now false e place h = sym e ∙ h

-- one group more is finished
pub finished_more : (fin : Cells → GroupFields) (key : Cells) (x : GroupFields) (finished next : List GroupFields) (old now all : List Cells) → next ≡ finished ++ x ∷ [] → x ≡ fin key → old ≡ key ∷ now → finished ++ map fin old ≡ map fin all → next ++ map fin now ≡ map fin all
finished_more fin key x finished next old now all is e first before =
    ap (λ l. l ++ map fin now) is ∙ append_assoc finished (x ∷ []) (map fin now) ∙ ap (λ y. finished ++ y ∷ map fin now) e ∙ ap (λ (l : List Cells). finished ++ map fin l) (sym first) ∙ before

all_of : (P : Cells → Type 0) (ks : List Cells) → AllByRecursion P ks → All P ks
all_of P [] h = All-nil P
all_of P (k ∷ ks) h = All-cons P k ks h.0 (all_of P ks h.1)

sorted_pairs : (ks : List Cells) → IsStrictlySortedBy key_cmp ks → AllPairs (λ a b. key_cmp a b ≡ Less) ks
unfolding IsStrictlySortedBy
sorted_pairs [] h = λ i j d p q. absurd (omega arith)
sorted_pairs (k ∷ ks) h = AllPairs-cons (λ a b. key_cmp a b ≡ Less) k ks (all_of (λ b. key_cmp k b ≡ Less) ks h.0) (sorted_pairs ks h.1)

module _ (es : Entries) where
  some_or : (b : Bool) (t : ℕ) (o : Option ℕ) (rest : Bool) → is_some o ≡ rest → is_some (cond b (Some t) o) ≡ (b || rest)
  some_or true t o rest e = refl
  some_or false t o rest e = e

  pub found_any : (q : Cells) (some : Entries) → is_some (place_in some q) ≡ list_any (same_cells q) (keys_of some)
  found_any q [] = refl
  found_any q (e ∷ rest) = some_or (same_cells q e.0) e.1 (place_in rest q) _ (found_any q rest)

  any_tied : (q : Cells) (ks : List Cells) → list_any (same_cells q) ks ≡ list_any (eq_by_cmp key_cmp q) ks
  any_tied q [] = refl
  any_tied q (k ∷ ks) = λ i. tied_keys q k i || any_tied q ks i

  -- the finished groups in the order of keys that ascend are those of the rows
  pub groups_in_order : (named : List Aggregate) (by : List ℕ) (rows : List Cells) (tallies : List (Vec Tally)) → 1 ≤ length by → IsStrictlySortedBy key_cmp (keys_of es) → AreGroups by named rows es tallies → map (λ key. finished_of named (group_at by rows key)) (keys_of es) ≡ finished_groups named by rows
  unfolding finished_groups groups_of
  groups_in_order named [] rows tallies some up h = absurd (omega arith)
  groups_in_order named (column ∷ by) rows tallies some up h =
      let all = column ∷ by in
      let same = keys_are all rows (keys_of es) (sorted_pairs (keys_of es) up) (λ q. sym (any_tied q (keys_of es)) ∙ sym (found_any q es) ∙ h.occurs q ∙ any_tied q (map (key_of all) rows)) in
      ap (map (λ key. finished_of named (group_at all rows key))) (sym same) ∙ sym (map-map (finished_of named) (group_at all rows) (finite.keys (keys_in all rows)))

-- groups under way are so by entries that give each key the same place
pub groups_alike : (by : List ℕ) (named : List Aggregate) (rows : List Cells) (index entries : Entries) (tallies : List (Vec Tally)) → ((key : Cells) → place_in entries key ≡ place_in index key) → length entries ≡ length index → AreGroups by named rows index tallies → AreGroups by named rows entries tallies
groups_alike by named rows index entries tallies same many h = record {
  size = h.size;
  columns = λ i c l. h.columns i c l ∙ sym many;
  held = λ key place is. h.held key place (sym (same key) ∙ is);
  occurs = λ key. ap is_some (same key) ∙ h.occurs key;
}

pub some_column : (columns : List (Vec Tally)) → 0 < length columns → Vec Tally
some_column [] l = absurd (omega (arith, l))
some_column (x ∷ xs) l = x
