-- A conflict is at the first entry whose rows differ; entries are in order, so each lesser name is before it, and its rows agree.
use Rattle.std.specs.Prelude.{◌≡◌, ◌≢◌, true, false, cond, not, T, List, [], ◌∷◌, Option, Some, None}
use Rattle.std.proofs.Common.{refl, sym, ap, subst, ◌∙◌, Less}
use Rattle.std.proofs.lemmas.Bool.{not-false}
use Rattle.std.specs.Ordering.{is_eq, eq_by_cmp}
use Rattle.std.specs.FinMap as map
use Rattle.std.specs.FinMap.Entries.{is_sorted, below_all}
use Rattle.table_model.specs.Name.{name_cmp}
use Rattle.table_model.specs.State.{Batch, Agree, same_rows}
use Rattle.table_model.specs.declared.names.BatchName.{BatchName}
use Rattle.table_model.proofs.NameOrder.{names_total}
use Rattle.table_model.proofs.Operations.{same_name, itself}
use Rattle.table_model.proofs.SameRows.{one_batch, itself_batch}
use Rattle.replica_store.specs.Replica.{Replica, entries_of, differs, conflict_with}
use Rattle.replica_store.specs.MergeLaws.{IsLesser, conflict_of, AgreeAt, DifferAt, ConflictLaws}
use Rattle.replica_store.proofs.Maps.{Entry, Sorted}
use Rattle.replica_store.proofs.Merges.{below_from}
use Rattle.replica_store.proofs.Places.{first_of_both, second_of_both, less_is, find_below, passes}

-- what doesn't differ from the rows is the rows
same_held : (o : Option Batch) (rows a : Batch) → differs o rows ≡ false → o ≡ Some a → a ≡ rows
same_held None rows a e is = cc
same_held (Some held) rows a e is =
    let same : held ≡ a = cc in
    let test = not-false (same_rows held rows) e in
    sym same ∙ one_batch held rows test

-- rows differ where others are held
other_held : (o : Option Batch) (rows : Batch) → differs o rows ≡ true → (held : Batch) × ((o ≡ Some held) × (held ≢ rows))
other_held None rows e = cc
other_held (Some held) rows e = (
  held,
  (
    refl,
    λ same.
        let test : same_rows held rows ≡ true = subst (λ (x : Batch). same_rows held x ≡ true) same (itself_batch held) in
        let lost : differs (Some held) rows ≡ false = ap not test in cc,
  ),
)

tail_sorted : (e : Entry) (es : List Entry) → Sorted (e ∷ es) → Sorted es
tail_sorted e es h = second_of_both (below_all name_cmp e.0 es) (is_sorted name_cmp es) h

head_below : (e : Entry) (es : List Entry) → Sorted (e ∷ es) → T (below_all name_cmp e.0 es)
head_below e es h = first_of_both (below_all name_cmp e.0 es) (is_sorted name_cmp es) h

-- what is found after the first entry is found from it on
found_later : (e : Entry) (es : List Entry) (q : BatchName) (v : Batch) → Sorted (e ∷ es) → map.find name_cmp q es ≡ Some v → map.find name_cmp q (e ∷ es) ≡ Some v
found_later e es q v h found =
    elim (eq_by_cmp name_cmp q e.0) as (λ b. eq_by_cmp name_cmp q e.0 ≡ b → cond b (Some e.1) (map.find name_cmp q es) ≡ Some v) [
      | true ↦ λ t.
          let none : map.find name_cmp q es ≡ None = ap (λ n. map.find name_cmp n es) (same_name q e.0 t) ∙ find_below name_cmp names_total e.0 es (head_below e es h) in cc
      | false ↦ λ t. found
    ] refl

-- the conflict's name has other rows in the map
conflict_at : (m : map.FinMap name_cmp Batch) (es : List Entry) (name : BatchName) → Sorted es → conflict_with m es ≡ Some name →
    (v : Batch) × ((map.find name_cmp name es ≡ Some v) × (differs (map.get m name) v ≡ true))
conflict_at m [] name h e = cc
conflict_at m (x ∷ es) name h e =
    elim (differs (map.get m x.0) x.1) as (λ d. differs (map.get m x.0) x.1 ≡ d → cond d (Some x.0) (conflict_with m es) ≡ Some name →
    (v : Batch) × ((map.find name_cmp name (x ∷ es) ≡ Some v) × (differs (map.get m name) v ≡ true))) [
      | true ↦ λ t is.
          let same : x.0 ≡ name = cc in
          (x.1, (ap (λ n. map.find name_cmp n (x ∷ es)) (sym same) ∙ ap (λ b. cond b (Some x.1) (map.find name_cmp x.0 es)) (itself x.0), ap (λ n. differs (map.get m n) x.1) (sym same) ∙ t))
      | false ↦ λ t is.
          let later = conflict_at m es name (tail_sorted x es h) is in
          (later.0, (found_later x es name later.0 h later.1.0, later.1.1))
    ] refl e

-- without a conflict, rows under a name of both are the same
same_without : (m : map.FinMap name_cmp Batch) (es : List Entry) → conflict_with m es ≡ None → (q : BatchName) (a b : Batch) → map.get m q ≡ Some a → map.find name_cmp q es ≡ Some b → a ≡ b
same_without m [] e q a b has found = cc
same_without m (x ∷ es) e q a b has found =
    elim (differs (map.get m x.0) x.1) as (λ d. differs (map.get m x.0) x.1 ≡ d → cond d (Some x.0) (conflict_with m es) ≡ None → a ≡ b) [
      | true ↦ λ t is. cc
      | false ↦ λ t is. elim (eq_by_cmp name_cmp q x.0) as (λ d. eq_by_cmp name_cmp q x.0 ≡ d → cond d (Some x.1) (map.find name_cmp q es) ≡ Some b → a ≡ b) [
        | true ↦ λ at here.
            let rows : x.1 ≡ b = cc in
            same_held (map.get m x.0) x.1 a t (ap (map.get m) (sym (same_name q x.0 at)) ∙ has) ∙ rows
        | false ↦ λ at here. same_without m es is q a b has here
      ] refl found
    ] refl e

-- rows under a name that is less than the conflict's are the same
same_below : (m : map.FinMap name_cmp Batch) (es : List Entry) (name : BatchName) → Sorted es → conflict_with m es ≡ Some name →
    (q : BatchName) (a b : Batch) → name_cmp q name ≡ Less → map.get m q ≡ Some a → map.find name_cmp q es ≡ Some b → a ≡ b
same_below m [] name h e q a b less has found = cc
same_below m (x ∷ es) name h e q a b less has found =
    elim (differs (map.get m x.0) x.1) as (λ d. differs (map.get m x.0) x.1 ≡ d → cond d (Some x.0) (conflict_with m es) ≡ Some name → a ≡ b) [
      | true ↦ λ t is.
          let same : x.0 ≡ name = cc in
          let under : name_cmp q x.0 ≡ Less = ap (name_cmp q) same ∙ less in
          let none : map.find name_cmp q (x ∷ es) ≡ None =
          ap (λ r. cond (is_eq r) (Some x.1) (map.find name_cmp q es)) under ∙ find_below name_cmp names_total q es (below_from q x.0 es under (head_below x es h)) in cc
      | false ↦ λ t is. elim (eq_by_cmp name_cmp q x.0) as (λ d. eq_by_cmp name_cmp q x.0 ≡ d → cond d (Some x.1) (map.find name_cmp q es) ≡ Some b → a ≡ b) [
        | true ↦ λ at here.
            let rows : x.1 ≡ b = cc in
            same_held (map.get m x.0) x.1 a t (ap (map.get m) (sym (same_name q x.0 at)) ∙ has) ∙ rows
        | false ↦ λ at here. same_below m es name (tail_sorted x es h) is q a b less has here
      ] refl found
    ] refl e

found_in : (m : map.FinMap name_cmp Batch) (q : BatchName) (v : Batch) → map.find name_cmp q (map.entries m) ≡ Some v → map.get m q ≡ Some v
found_in m q v e = map.get-entries m q ∙ e

in_found : (m : map.FinMap name_cmp Batch) (q : BatchName) (v : Batch) → map.get m q ≡ Some v → map.find name_cmp q (map.entries m) ≡ Some v
in_found m q v e = sym (map.get-entries m q) ∙ e

two_lists : (r other : Replica) (name : BatchName) → conflict_of r other ≡ Some name → DifferAt name r.state other.state
two_lists r other name e =
    let at = conflict_at r.state.batches (entries_of other) name (map.entries_sorted other.state.batches) e in
    let held = other_held (map.get r.state.batches name) at.0 at.1.1 in
    record { first = held.0; second = at.0; in_first = held.1.0; in_second = found_in other.state.batches name at.0 at.1.0; apart = held.1.1 }

pub agree_without : (r other : Replica) → conflict_of r other ≡ None → Agree r.state other.state
agree_without r other e name a b has in_other = same_without r.state.batches (entries_of other) e name a b has (in_found other.state.batches name b in_other)

pub none_agreeing : (r other : Replica) → Agree r.state other.state → conflict_of r other ≡ None
none_agreeing r other agree =
    elim (conflict_of r other) as (λ o. conflict_of r other ≡ o → o ≡ None) [
      | None ↦ λ e. refl
      | Some name ↦ λ e. let differ = two_lists r other name e in absurd (differ.apart (agree name differ.first differ.second differ.in_first differ.in_second))
    ] refl

least : (r other : Replica) (name lesser : BatchName) → conflict_of r other ≡ Some name → IsLesser lesser name → AgreeAt lesser r.state other.state
least r other name lesser e less a b has in_other =
    same_below r.state.batches (entries_of other) name (map.entries_sorted other.state.batches) e lesser a b (less_is _ (passes _ less)) has (in_found other.state.batches lesser b in_other)

pub conflicts : ConflictLaws
conflicts = record { none = λ r other. (agree_without r other, none_agreeing r other); two_lists = two_lists; least = least }
