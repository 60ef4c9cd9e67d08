-- The rows of a map of segments: what it has at a name are the rows of the segment there.
use Rattle.std.specs.Prelude.{◌≡◌, ℕ, zero, suc, max, ◌==◌, Bool, true, false, cond, ◌&&◌, T, List, [], ◌∷◌, length, Option, Some, None, option_map, is_some, slice_get}
use Rattle.std.proofs.Common.{refl, sym, ap, subst, ◌∙◌}
use Rattle.std.specs.Ordering.{eq_by_cmp, is_lt}
use Rattle.std.specs.FinMap as map
use Rattle.std.specs.FinMap.Entries.{is_sorted, below_all}
use Rattle.table_model.specs.Name.{name_cmp}
use Rattle.table_model.specs.State.{Batch, union_of}
use Rattle.table_model.specs.declared.names.BatchName.{BatchName}
use Rattle.table_model.specs.declared.names.Origin.{Origin}
use Rattle.table_model.proofs.NameOrder.{names_total}
use Rattle.table_model.proofs.Joins.{or_else, get-union, same_maps}
use Rattle.segment_core.specs.Segment.{SegmentForm}
use Rattle.replica_store.specs.Replica.{greatest_number, conflict_with, differs}
use Rattle.replica_store.specs.Segments.{Segments, Entry, rows_entries, rows_in, conflict_in}
use Rattle.replica_store.proofs.Maps.{entries-as_map}

-- the rows of a segment
abbrev pub rows : SegmentForm → Batch
rows s = s.rows

below_all-rows : (q : BatchName) (es : List Entry) → below_all name_cmp q (rows_entries es) ≡ below_all name_cmp q es
below_all-rows q [] = refl
below_all-rows q (e ∷ es) = ap (λ (b : Bool). is_lt (name_cmp q e.0) && b) (below_all-rows q es)

is_sorted-rows : (es : List Entry) → is_sorted name_cmp (rows_entries es) ≡ is_sorted name_cmp es
is_sorted-rows [] = refl
is_sorted-rows (e ∷ es) = λ i. below_all-rows e.0 es i && is_sorted-rows es i

pub entries-rows_in : (m : Segments) → map.entries (rows_in m) ≡ rows_entries (map.entries m)
unfolding rows_in
entries-rows_in m = entries-as_map (rows_entries (map.entries m)) (subst T (sym (is_sorted-rows (map.entries m))) (map.entries_sorted m))

find-rows : (q : BatchName) (es : List Entry) → map.find name_cmp q (rows_entries es) ≡ option_map rows (map.find name_cmp q es)
find-rows q [] = refl
find-rows q (e ∷ es) =
    elim (eq_by_cmp name_cmp q e.0) as (λ b. cond b (Some e.1.rows) (map.find name_cmp q (rows_entries es)) ≡ option_map rows (cond b (Some e.1) (map.find name_cmp q es))) [
      | true ↦ refl
      | false ↦ find-rows q es
    ]

pub get-rows_in : (m : Segments) (q : BatchName) → map.get (rows_in m) q ≡ option_map rows (map.get m q)
get-rows_in m q =
    map.get-entries (rows_in m) q
    ∙ ap (map.find name_cmp q) (entries-rows_in m)
    ∙ find-rows q (map.entries m)
    ∙ ap (option_map rows) (sym (map.get-entries m q))

length-rows : (es : List Entry) → length (rows_entries es) ≡ length es
length-rows [] = refl
length-rows (e ∷ es) = ap (λ (n : ℕ). suc n) (length-rows es)

pub len-rows_in : (m : Segments) → map.len (rows_in m) ≡ map.len m
len-rows_in m = map.len-entries (rows_in m) ∙ ap length (entries-rows_in m) ∙ length-rows (map.entries m) ∙ sym (map.len-entries m)

pub rows_in-empty : rows_in map.empty ≡ map.empty
rows_in-empty = map.empty_of_len (rows_in map.empty) (len-rows_in map.empty ∙ map.len-empty name_cmp SegmentForm)

pub rows_in-insert : (m : Segments) (q : BatchName) (s : SegmentForm) → rows_in (map.insert m q s) ≡ map.insert (rows_in m) q s.rows
rows_in-insert m q s = same_maps _ _ (λ x.
    get-rows_in (map.insert m q s) x
    ∙ ap (option_map rows) (map.get-insert names_total m q s x)
    ∙ chosen (eq_by_cmp name_cmp x q) (map.get m x)
    ∙ ap (λ (o : Option Batch). cond (eq_by_cmp name_cmp x q) (Some s.rows) o) (sym (get-rows_in m x))
    ∙ sym (map.get-insert names_total (rows_in m) q s.rows x)) where
      chosen : (b : Bool) (o : Option SegmentForm) → option_map rows (cond b (Some s) o) ≡ cond b (Some s.rows) (option_map rows o)
      chosen true o = refl
      chosen false o = refl

or_else-rows : (a b : Option SegmentForm) → option_map rows (or_else a b) ≡ or_else (option_map rows a) (option_map rows b)
or_else-rows None b = refl
or_else-rows (Some s) b = refl

pub rows_in-union : (m n : Segments) → rows_in (union_of m n) ≡ union_of (rows_in m) (rows_in n)
rows_in-union m n = same_maps _ _ (λ x.
    get-rows_in (union_of m n) x
    ∙ ap (option_map rows) (get-union m n x)
    ∙ or_else-rows (map.get m x) (map.get n x)
    ∙ (λ i. or_else (sym (get-rows_in m x) i) (sym (get-rows_in n x) i))
    ∙ sym (get-union (rows_in m) (rows_in n) x))

pub is_some-rows : (o : Option SegmentForm) → is_some (option_map rows o) ≡ is_some o
is_some-rows None = refl
is_some-rows (Some s) = refl

pub greatest-rows : (own : Origin) (es : List Entry) → greatest_number own (rows_entries es) ≡ greatest_number own es
greatest-rows own [] = refl
greatest-rows own (e ∷ es) = ap (λ (n : ℕ). max (cond (e.0.origin.0 == own.0) e.0.number.0 0) n) (greatest-rows own es)

pub conflict-rows : (ours : map.FinMap name_cmp Batch) (es : List Entry) → conflict_in ours es ≡ conflict_with ours (rows_entries es)
conflict-rows ours [] = refl
conflict-rows ours (e ∷ es) = ap (λ (o : Option BatchName). cond (differs (map.get ours e.0) e.1.rows) (Some e.0) o) (conflict-rows ours es)

pub slice_get-rows : (es : List Entry) (i : ℕ) (e : Entry) → slice_get es i ≡ Some e → slice_get (rows_entries es) i ≡ Some (e.0, e.1.rows)
slice_get-rows [] i e is = cc
slice_get-rows (x ∷ es) zero e is = let here : x ≡ e = cc in ap (λ (y : Entry). let pair : BatchName × Batch = (y.0, y.1.rows) in Some pair) here
slice_get-rows (x ∷ es) (suc i) e is = slice_get-rows es i e is

no_rows : (o : Option SegmentForm) → option_map rows o ≡ None → o ≡ None
no_rows None e = refl
no_rows (Some s) e = cc

-- a name without rows has no segment
pub unheld : (m : Segments) (q : BatchName) → map.get (rows_in m) q ≡ None → map.get m q ≡ None
unheld m q none = no_rows (map.get m q) (sym (get-rows_in m q) ∙ none)
