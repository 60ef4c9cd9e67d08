-- A name that random words give is free: no held name and no range of deleted rows has one of the names from it on.
use Rattle.std.specs.Prelude.{◌≡◌, ℕ, suc, zero, ◌+◌, ◌≤◌, Bool, true, false, cond, not, ◌&&◌, ◌||◌, nat_le, List, [], ◌∷◌, ◌++◌, Option, Some, None}
use Rattle.std.proofs.Common.{refl, sym, ap, subst, ◌∙◌, arith}
use Rattle.std.proofs.lemmas.Bool.Decides.{nat_tests}
use Rattle.std.specs.List.{list_all, list_any}
use Rattle.std.specs.Ordering.{eq_by_cmp}
use Rattle.std.specs.FinMap as map
use Rattle.std.specs.FinSet as set
use Rattle.std.proofs.lemmas.List.Folds.{list_any-append, list_all-append}
use Rattle.table_model.specs.Name.{name_cmp, row_name_cmp, is_proper_name}
use Rattle.table_model.specs.State.{State, Batch}
use Rattle.table_model.specs.declared.names.BatchName.{BatchName}
use Rattle.table_model.specs.declared.names.RowName.{RowName}
use Rattle.table_model.proofs.NameOrder.{row_names_total}
use Rattle.table_model.proofs.Operations.{same_name, same_row_name}
use Rattle.catalogue_join.specs.RowRange.{RowRange, AreMaximal, row_names, rows_between, rows_listed, rows_in}
use Rattle.replica_store.specs.Segments.{Entry, Segments, rows_entries, rows_in as batches_in_segments}
use Rattle.replica_store.proofs.RowsIn.{entries-rows_in}
use Rattle.column_file.specs.Files.{ranges_of}
use Rattle.column_file.proofs.RangeLists.{ranges_are}
use Rattle.replica_changes.specs.Loads.{AreFree, is_one_of, is_free, named_by, first_free, DrawnNamesAreFree}

both_left : (a b : Bool) → (a && b) ≡ true → a ≡ true
both_left true b e = refl
both_left false b e = cc

both_right : (a b : Bool) → (a && b) ≡ true → b ≡ true
both_right true b e = e
both_right false b e = cc

not_true : (b : Bool) → not b ≡ true → b ≡ false
not_true true e = cc
not_true false e = refl

is_then : (b : Bool) → not b ≡ true → b ≡ true → ⊥
is_then true e f = cc
is_then false e f = cc

-- no entry has one of the names, so none of them is found
unheld : (first : BatchName) (count : ℕ) (es : List (BatchName × Batch)) (name : BatchName) → list_all (λ (e : BatchName × Batch). not (is_one_of first count e.0)) es ≡ true → is_one_of first count name ≡ true
    → map.find name_cmp name es ≡ None
unheld first count [] name others one = refl
unheld first count (e ∷ es) name others one =
    let head : not (is_one_of first count e.0) ≡ true = both_left (not (is_one_of first count e.0)) (list_all (λ (x : BatchName × Batch). not (is_one_of first count x.0)) es) others in
    let rest = both_right (not (is_one_of first count e.0)) (list_all (λ (x : BatchName × Batch). not (is_one_of first count x.0)) es) others in
    elim (eq_by_cmp name_cmp name e.0) as (λ b. eq_by_cmp name_cmp name e.0 ≡ b → cond b (Some e.1) (map.find name_cmp name es) ≡ None) [
      | true ↦ λ t. absurd (is_then (is_one_of first count e.0) head (ap (is_one_of first count) (sym (same_name name e.0 t)) ∙ one))
      | false ↦ λ t. unheld first count es name rest one
    ] refl

or_false : (a b : Bool) → a ≡ false → b ≡ false → (a || b) ≡ false
or_false true b e f = cc
or_false false b e f = f

-- no row of a range of another batch
not_between : (batch : BatchName) (n count : ℕ) (row : RowName) → (row.batch ≡ batch → ⊥) → list_any (eq_by_cmp row_name_cmp row) (row_names batch n count) ≡ false
not_between batch n zero row other = refl
not_between batch n (suc count) row other =
    let here : RowName = record { batch = batch; ordinal = n } in
    or_false (eq_by_cmp row_name_cmp row here) (list_any (eq_by_cmp row_name_cmp row) (row_names batch (n + 1) count))
    (elim (eq_by_cmp row_name_cmp row here) as (λ b. eq_by_cmp row_name_cmp row here ≡ b → b ≡ false) [
      | true ↦ λ t. absurd (other (ap (λ (r : RowName). r.batch) (same_row_name row here t)))
      | false ↦ λ t. refl
    ] refl)
    (not_between batch (n + 1) count row other)

-- no row of ranges of other batches
undeleted : (first : BatchName) (count : ℕ) (rs : List RowRange) (row : RowName) → list_all (λ (range : RowRange). not (is_one_of first count range.0.batch)) rs ≡ true → is_one_of first count row.batch ≡ true
    → list_any (eq_by_cmp row_name_cmp row) (rows_listed rs) ≡ false
undeleted first count [] row others one = refl
undeleted first count (r ∷ rs) row others one =
    let head : not (is_one_of first count r.0.batch) ≡ true = both_left (not (is_one_of first count r.0.batch)) (list_all (λ (x : RowRange). not (is_one_of first count x.0.batch)) rs) others in
    let rest = both_right (not (is_one_of first count r.0.batch)) (list_all (λ (x : RowRange). not (is_one_of first count x.0.batch)) rs) others in
    list_any-append (eq_by_cmp row_name_cmp row) (rows_between r.0 r.1) (rows_listed rs)
    ∙ or_false (list_any (eq_by_cmp row_name_cmp row) (rows_between r.0 r.1)) (list_any (eq_by_cmp row_name_cmp row) (rows_listed rs))
    (not_between r.0.batch r.0.ordinal _ row (λ same. is_then (is_one_of first count r.0.batch) head (ap (is_one_of first count) (sym same) ∙ one)))
    (undeleted first count rs row rest one)

le_true : (m n : ℕ) → nat_le m n ≡ true → m ≤ n
le_true m n e = grind (arith, nat_tests, e)

some_name : (a b : BatchName) → ◌≡◌ {A = Option BatchName} (Some a) (Some b) → a ≡ b
some_name a b e = cc

free_is : (s : State) (ranges : List RowRange) (first : BatchName) (count : ℕ) → AreMaximal ranges → rows_in ranges ≡ s.deleted → is_free s first count ≡ true → AreFree s first count
unfolding is_free rows_in
free_is s ranges first count maximal is e =
    let a = is_proper_name first in
    let b = nat_le (first.number.0 + count) 4294967296 in
    let c = list_all (λ (x : BatchName × Batch). not (is_one_of first count x.0)) (map.entries s.batches) in
    let d = list_all (λ (x : RowRange). not (is_one_of first count x.0.batch)) (ranges_of s.deleted) in
    let bcd : (b && (c && d)) ≡ true = both_right a (b && (c && d)) e in
    let cd : (c && d) ≡ true = both_right b (c && d) bcd in
    let others : list_all (λ (x : RowRange). not (is_one_of first count x.0.batch)) ranges ≡ true =
    ap (list_all (λ (x : RowRange). not (is_one_of first count x.0.batch))) (sym (ranges_are ranges s.deleted maximal is)) ∙ both_right c d cd in
    record {
      proper = both_left a (b && (c && d)) e;
      last = le_true (first.number.0 + count) 4294967296 (both_left b (c && d) bcd);
      held = λ name one. map.get-entries s.batches name ∙ unheld first count (map.entries s.batches) name (both_left c d cd) one;
      deleted = λ row one. ap (λ (x : set.FinSet row_name_cmp). set.contains x row) (sym is) ∙ set.contains-from_list row_names_total (rows_listed ranges) row ∙ undeleted first count ranges row others one;
    }

pub drawn_are_free : DrawnNamesAreFree
drawn_are_free s ranges count [] name maximal is e = cc
drawn_are_free s ranges count (word ∷ words) name maximal is e =
    elim (is_free s (named_by word) count) as (λ b. is_free s (named_by word) count ≡ b → cond b (Some (named_by word)) (first_free s count words) ≡ Some name → AreFree s name count) [
      | true ↦ λ t found. subst (λ (n : BatchName). AreFree s n count) (some_name (named_by word) name found) (free_is s ranges (named_by word) count maximal is t)
      | false ↦ λ t found. drawn_are_free s ranges count words name maximal is found
    ] refl e

-- ---- the tests over a store's parts

rows_others : (first : BatchName) (count : ℕ) (es : List Entry) → list_all (λ (e : BatchName × Batch). not (is_one_of first count e.0)) (rows_entries es) ≡ list_all (λ (e : Entry). not (is_one_of first count e.0)) es
rows_others first count [] = refl
rows_others first count (e ∷ es) = ap (λ (b : Bool). not (is_one_of first count e.0) && b) (rows_others first count es)

-- the batches of both parts are those of the state
pub both_others : (first : BatchName) (count : ℕ) (batches : map.FinMap name_cmp Batch) (segments : Segments) (front back : List Entry) → batches ≡ batches_in_segments segments → front ++ back ≡ map.entries segments
    → list_all (λ (e : BatchName × Batch). not (is_one_of first count e.0)) (map.entries batches) ≡ (list_all (λ (e : Entry). not (is_one_of first count e.0)) front && list_all (λ (e : Entry). not (is_one_of first count e.0)) back)
both_others first count batches segments front back is parts =
    let test : List (BatchName × Batch) → Bool = λ es. list_all (λ (e : BatchName × Batch). not (is_one_of first count e.0)) es in
    ap (λ (m : map.FinMap name_cmp Batch). test (map.entries m)) is
    ∙ ap test (entries-rows_in segments ∙ ap rows_entries (sym parts))
    ∙ rows_others first count (front ++ back)
    ∙ list_all-append (λ (e : Entry). not (is_one_of first count e.0)) front back
