-- The union of canonical segments is canonical.
use Rattle.std.specs.Prelude.{◌≡◌, Bool, true, false, cond, ◌&&◌, T, List, [], ◌∷◌, map as each, Option, Some, None, Ok, option_map}
use Rattle.std.proofs.Common.{refl, sym, ap, subst, ◌∙◌}
use Rattle.std.specs.Ordering.{eq_by_cmp, is_lt}
use Rattle.std.specs.FinMap as map
use Rattle.std.specs.FinMap.Entries.{is_sorted, below_all}
use Rattle.table_model.specs.Name.{name_cmp}
use Rattle.table_model.specs.State.{Batch, union_of}
use Rattle.table_model.specs.Table.{Table}
use Rattle.table_model.specs.declared.names.BatchName.{BatchName}
use Rattle.table_model.proofs.Joins.{or_else, get-union, same_maps}
use Rattle.segment_core.specs.Segment.{SegmentForm, canonical_segment}
use Rattle.replica_store.specs.Replica.{Replica, merged}
use Rattle.replica_store.proofs.MergeAnswers.{is_merge}
use Rattle.replica_store.proofs.Maps.{as_map, entries-as_map}
use Rattle.column_file.specs.Files.{canonical_entry, AreCanonicalOf}

module _ (t : Table) where
  abbrev Named : Type 0
  Named = BatchName × Batch

  -- the canonical segments of batches
  abbrev canonical : List Named → List (BatchName × SegmentForm)
  canonical es = each (canonical_entry t) es

  below_same : (q : BatchName) (es : List Named) → below_all name_cmp q (canonical es) ≡ below_all name_cmp q es
  below_same q [] = refl
  below_same q (e ∷ es) = ap (λ (b : Bool). is_lt (name_cmp q e.0) && b) (below_same q es)

  sorted_same : (es : List Named) → is_sorted name_cmp (canonical es) ≡ is_sorted name_cmp es
  sorted_same [] = refl
  sorted_same (e ∷ es) = λ i. below_same e.0 es i && sorted_same es i

  find-canonical : (q : BatchName) (es : List Named) → map.find name_cmp q (canonical es) ≡ option_map (canonical_segment t) (map.find name_cmp q es)
  find-canonical q [] = refl
  find-canonical q (e ∷ es) =
      elim (eq_by_cmp name_cmp q e.0) as (λ b. cond b (Some (canonical_segment t e.1)) (map.find name_cmp q (canonical es)) ≡ option_map (canonical_segment t) (cond b (Some e.1) (map.find name_cmp q es))) [
        | true ↦ refl
        | false ↦ find-canonical q es
      ]

  get-canonical : (batches : map.FinMap name_cmp Batch) (segments : map.FinMap name_cmp SegmentForm) (q : BatchName) → AreCanonicalOf t batches segments → map.get segments q ≡ option_map (canonical_segment t) (map.get batches q)
  get-canonical batches segments q is =
      map.get-entries segments q ∙ ap (map.find name_cmp q) is ∙ find-canonical q (map.entries batches) ∙ ap (option_map (canonical_segment t)) (sym (map.get-entries batches q))

  or_else-canonical : (a b : Option Batch) → or_else (option_map (canonical_segment t) a) (option_map (canonical_segment t) b) ≡ option_map (canonical_segment t) (or_else a b)
  or_else-canonical None b = refl
  or_else-canonical (Some x) b = refl

  entries_made : (batches : map.FinMap name_cmp Batch) → map.entries (as_map (canonical (map.entries batches))) ≡ canonical (map.entries batches)
  entries_made batches = entries-as_map (canonical (map.entries batches)) (subst T (sym (sorted_same (map.entries batches))) (map.entries_sorted batches))

  pub canonical-union : (ours theirs : map.FinMap name_cmp Batch) (first second : map.FinMap name_cmp SegmentForm) → AreCanonicalOf t ours first → AreCanonicalOf t theirs second → AreCanonicalOf t (union_of ours theirs) (union_of first second)
  canonical-union ours theirs first second a b =
      let whole : map.FinMap name_cmp Batch = union_of ours theirs in
      let made : map.FinMap name_cmp SegmentForm = as_map (canonical (map.entries whole)) in
      let same : union_of first second ≡ made = same_maps _ _ (λ q.
      get-union first second q
      ∙ (λ i. or_else (get-canonical ours first q a i) (get-canonical theirs second q b i))
      ∙ or_else-canonical (map.get ours q) (map.get theirs q)
      ∙ ap (option_map (canonical_segment t)) (sym (get-union ours theirs q))
      ∙ sym (get-canonical whole made q (entries_made whole))) in
      ap map.entries same ∙ entries_made whole

-- so a store that another was merged into has canonical segments, where both had
pub joined_canonical : (old other new : Replica) (first second segments : map.FinMap name_cmp SegmentForm) (done : Unit {0}) → AreCanonicalOf old.schema old.state.batches first → AreCanonicalOf other.schema other.state.batches second
    → merged old other ≡ Ok (done, new) → segments ≡ union_of first second → AreCanonicalOf new.schema new.state.batches segments
joined_canonical old other new first second segments done a b made is =
    let m = is_merge old other new made in
    let there : AreCanonicalOf old.schema other.state.batches second = subst (λ (t : Table). AreCanonicalOf t other.state.batches second) (sym m.schema) b in
    let both : AreCanonicalOf old.schema (union_of old.state.batches other.state.batches) (union_of first second) = canonical-union old.schema old.state.batches other.state.batches first second a there in
    subst (λ (r : Replica). AreCanonicalOf r.schema r.state.batches segments) m.made (subst (λ (s : map.FinMap name_cmp SegmentForm). AreCanonicalOf old.schema (union_of old.state.batches other.state.batches) s) (sym is) both)
