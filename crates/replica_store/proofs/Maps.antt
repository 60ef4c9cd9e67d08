-- A sorted vector of batches seen as a map: what its entries, its length, a search and an insert are.
use Rattle.std.specs.Prelude.{◌≡◌, T, List, [], length, None}
use Rattle.std.proofs.Common.{sym, ap, subst, ◌∙◌}
use Rattle.std.specs.List.{insert}
use Rattle.std.specs.FinMap as map
use Rattle.std.specs.FinMap.Entries.{is_sorted-put}
use Rattle.table_model.specs.Name.{name_cmp}
use Rattle.table_model.specs.State.{Batch}
use Rattle.table_model.specs.declared.names.BatchName.{BatchName}
use Rattle.table_model.proofs.NameOrder.{names_total}
use Rattle.replica_store.specs.Entries.{count_below}
use Rattle.replica_store.proofs.Places.{insert-place}

-- a batch of rows with its name
abbrev pub Entry : Type 0
Entry = BatchName × Batch

module _ {X : Type 0} where
  abbrev pub Sorted : List (BatchName × X) → Type 0
  Sorted es = T (map.is_sorted name_cmp es)

  abbrev pub as_map : List (BatchName × X) → map.FinMap name_cmp X
  as_map es = map.from_sorted es

  pub entries-as_map : (es : List (BatchName × X)) → Sorted es → map.entries (as_map es) ≡ es
  entries-as_map es h = map.entries-from_sorted name_cmp es h

  pub get-as_map : (es : List (BatchName × X)) (q : BatchName) → Sorted es → map.get (as_map es) q ≡ map.find name_cmp q es
  get-as_map es q h = map.get-from_sorted name_cmp es q h

  pub len-as_map : (es : List (BatchName × X)) → Sorted es → map.len (as_map es) ≡ length es
  len-as_map es h = map.len-entries (as_map es) ∙ ap length (entries-as_map es h)

  pub as_map-empty : as_map [] ≡ map.empty
  as_map-empty = map.empty_of_len (as_map []) (len-as_map [] tt)

  pub Sorted-insert : (q : BatchName) (v : X) (es : List (BatchName × X)) → Sorted es → map.find name_cmp q es ≡ None → Sorted (insert es (count_below name_cmp q es) (q, v))
  Sorted-insert q v es h none = subst Sorted (sym (insert-place name_cmp names_total q v es h none)) (is_sorted-put name_cmp names_total q v es h)

  pub as_map-insert : (q : BatchName) (v : X) (es : List (BatchName × X)) → Sorted es → map.find name_cmp q es ≡ None → as_map (insert es (count_below name_cmp q es) (q, v)) ≡ map.insert (as_map es) q v
  as_map-insert q v es h none = map.same_entries_map _ _
      (entries-as_map _ (Sorted-insert q v es h none)
      ∙ insert-place name_cmp names_total q v es h none
      ∙ ap (map.put name_cmp q v) (sym (entries-as_map es h))
      ∙ sym (map.entries-insert names_total (as_map es) q v))
