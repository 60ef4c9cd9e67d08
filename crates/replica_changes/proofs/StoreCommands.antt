-- What each command answers and makes of a store's replica, from what the store's calls answered.
use Rattle.std.specs.Prelude.{◌≡◌, ◌⊎◌, ℕ, suc, ◌≤◌, ◌-◌, Bool, true, false, cond, not, ◌||◌, ◌==◌, nat_lt, List, [], ◌∷◌, length, map, filter, Option, Some, None, Result, Ok, Err, IsTrue, IsOk}
use Rattle.std.proofs.Common.{refl, sym, ap, subst, ◌∙◌, inl, inr, arith}
use Rattle.std.proofs.lemmas.Bool.Decides.{nat_tests}
use Rattle.std.proofs.lemmas.List.Sums.{list_all-from_AllPass}
use Rattle.std.specs.List.{All, list_all}
use Rattle.std.specs.FinMap as map
use Rattle.std.proofs.lemmas.Bool.{and_parts, and_from, false≢true}
use Rattle.std.specs.FinSet as set
use Rattle.table_model.specs.Name.{row_name_cmp, is_proper_name}
use Rattle.table_model.specs.Reading.{◌>>=◌}
use Rattle.table_model.specs.Formula.{Formula}
use Rattle.table_model.specs.Meaning.{names_where, is_kept, at_row}
use Rattle.table_model.specs.State.{State, Cells, live_rows, named_rows, union_of}
use Rattle.table_model.specs.Table.{Table, same_table}
use Rattle.table_model.specs.declared.names.BatchName.{BatchName}
use Rattle.table_model.specs.declared.names.RowName.{RowName}
use Rattle.table_model.specs.declared.refusal.Refusal.{Refusal}
use Rattle.table_model.specs.declared.refusal.Refusal.TheVariants.{Memory, BadName, BadRange, SchemaDiffers, Conflict, Full}
use Rattle.table_model.proofs.NameOrder.{row_names_total, exact_row_names}
use Rattle.replica_store.specs.Exchange.{OfferForm}
use Rattle.replica_store.specs.Replica.{Replica, with_deleted, with_join, deleted_names, names_fault, deleted_rows, delete_fault, rows_between, unless_fault, merged, merge_fault, conflict_or_full, conflict_with, entries_of, batch_limit}
use Rattle.replica_store.proofs.Limits.{ok_unless}
use Rattle.replica_store.proofs.Idle.{absorbs}
use Rattle.replica_store.proofs.MergeAnswers.{made_of, is_merge}
use Rattle.replica_store.proofs.Merges.{union-same}
use Rattle.replica_store.proofs.RowLists.{all_held}
use Rattle.query_parser.specs.Descent.{condition_of}
use Rattle.query_parser.specs.Resolve.{resolved_condition}
use Rattle.store_view.specs.Asked.{condition_names}
use Rattle.column_file.specs.Files.{ranges_of}
use Rattle.column_file.proofs.RangeLists.{ranges_are}
use Rattle.catalogue_join.specs.RowRange.{RowRange, AreMaximal, rows_in}
use Rattle.replica_changes.specs.Commands.{Made, Makes, deleting, applied_all, applying}
use Rattle.replica_changes.specs.Refusals.{is_refusal_of_merge, is_refusal_of_range}

-- ---- deletes by a condition

union_none : (s : set.FinSet row_name_cmp) → set.union s (set.from_list []) ≡ s
union_none s = set.same_set row_names_total exact_row_names (set.union s (set.from_list [])) s (λ q.
    set.contains-union row_names_total s (set.from_list []) q
    ∙ ap (λ (b : Bool). set.contains s q || b) (set.contains-from_list row_names_total [] q)
    ∙ or_none (set.contains s q))
  where
    or_none : (b : Bool) → (b || false) ≡ b
    or_none true = refl
    or_none false = refl

none_of : (names : List RowName) (count : ℕ) → count ≡ length names → not (count == 0) ≡ false → names ≡ []
none_of [] count is e = refl
none_of (name ∷ names) count is e = absurd (some (length names) (subst (λ (n : ℕ). not (n == 0) ≡ false) is e))
  where
    some : (n : ℕ) → not (suc n == 0) ≡ false → ⊥
    some n e =
        let apart : (suc n == 0) ≡ false = grind (arith, nat_tests) in
        let bad : true ≡ false = sym (ap not apart) ∙ e in cc

-- names of which each passes, among the names of rows that pass
each_passes : (p : RowName → Bool) (keep : RowName × Cells → Bool) (rows : List (RowName × Cells)) → list_all p (map (λ (r : RowName × Cells). r.0) (filter keep (filter (λ (r : RowName × Cells). p r.0) rows))) ≡ true
each_passes p keep [] = refl
each_passes p keep (r ∷ rows) = by_pass (filter (λ (x : RowName × Cells). p x.0) rows) (p r.0) refl (each_passes p keep rows)
  where
    by_keep : (rest : List (RowName × Cells)) (k : Bool) → p r.0 ≡ true → list_all p (map (λ (x : RowName × Cells). x.0) (filter keep rest)) ≡ true → list_all p (map (λ (x : RowName × Cells). x.0) (cond k (r ∷ filter keep rest) (filter keep rest))) ≡ true
    by_keep rest true passes others = and_from (p r.0) (list_all p (map (λ (x : RowName × Cells). x.0) (filter keep rest))) passes others
    by_keep rest false passes others = others

    by_pass : (rest : List (RowName × Cells)) (b : Bool) → p r.0 ≡ b → list_all p (map (λ (x : RowName × Cells). x.0) (filter keep rest)) ≡ true → list_all p (map (λ (x : RowName × Cells). x.0) (filter keep (cond b (r ∷ rest) rest))) ≡ true
    by_pass rest true passes others = by_keep rest (keep r) passes others
    by_pass rest false fails others = others

-- rows that a condition finds aren't deleted
found_live : (text : List ℕ) (table : Table) (state : State) (names : List RowName) → condition_names text table state ≡ Ok names → list_all (λ (q : RowName). not (set.contains state.deleted q)) names ≡ true
unfolding condition_names names_where live_rows
found_live text table state names finds = by_text (condition_of text) finds
  where
    by_names : (f : Formula) (done : Result (Unit {0}) Refusal) → (done >>= λ (u : Unit {0}). let found : Result (List RowName) Refusal = Ok (names_where table f state) in found) ≡ Ok names → list_all (λ (q : RowName). not (set.contains state.deleted q)) names ≡ true
    by_names f (Err e) is = cc
    by_names f (Ok u) is =
        let same : names_where table f state ≡ names = cc in
        subst (λ (ns : List RowName). list_all (λ (q : RowName). not (set.contains state.deleted q)) ns ≡ true) same
        (each_passes (λ (q : RowName). not (set.contains state.deleted q)) (λ (row : RowName × Cells). is_kept (Some f) (at_row table.columns row.1)) (named_rows state))

    by_text : (read : Result Formula Refusal) → (read >>= λ (f : Formula). resolved_condition table f >>= λ (u : Unit {0}). let found : Result (List RowName) Refusal = Ok (names_where table f state) in found) ≡ Ok names → list_all (λ (q : RowName). not (set.contains state.deleted q)) names ≡ true
    by_text (Err e) is = cc
    by_text (Ok f) is = by_names f (resolved_condition table f) is

-- so where all rows that were found are deleted, there are none
none_found : (deleted : set.FinSet row_name_cmp) (names : List RowName) → list_all (λ (q : RowName). not (set.contains deleted q)) names ≡ true → list_all (set.contains deleted) names ≡ true → length names ≡ 0
none_found deleted [] live held = refl
none_found deleted (name ∷ names) live held =
    let out = (and_parts (not (set.contains deleted name)) (list_all (λ (q : RowName). not (set.contains deleted q)) names) live).0 in
    let in_it = (and_parts (set.contains deleted name) (list_all (set.contains deleted) names) held).0 in
    absurd (false≢true (sym (ap not in_it) ∙ out))

-- rows that were found and deleted
pub deletes_ok : {X : Type 0} (view : X → ℕ) (x : X) (text : List ℕ) (r new : Replica) (names slice : List RowName) (u : Unit {0}) → condition_names text r.schema r.state ≡ Ok names → slice ≡ names → view x ≡ length names
    → deleted_names r slice ≡ Ok (u, new) → Makes view (λ (d : X). not (view d == 0)) r (Ok x) new (deleting text r)
deletes_ok view x text r new names slice u finds same counted e =
    let deleted : with_deleted r names ≡ new = ap (with_deleted r) (sym same) ∙ made_of tt u (with_deleted r slice) new (ok_unless (names_fault slice) (Ok (tt, with_deleted r slice)) (u, new) e).1 in (
      ap (λ (found : Result (List RowName) Refusal). found >>= λ (rows : List RowName). let made : Made ℕ = Ok (length rows, with_deleted r rows) in made) finds
          ∙ (λ i. let made : Made ℕ = Ok (sym counted i, deleted i) in made),
      (
        λ none. sym deleted ∙ ap (with_deleted r) (none_of names (view x) counted none) ∙ (λ i. record { schema = r.schema; own = r.own; state = record { batches = r.state.batches; deleted = union_none r.state.deleted i } }),
        λ stays.
            let held = all_held r.state.deleted names (ap (λ (n : Replica). n.state.deleted) (deleted ∙ stays)) in
            ap (λ (n : ℕ). not (n == 0)) (counted ∙ none_found r.state.deleted names (found_live text r.schema r.state names finds) held),
      ),
    )

-- a delete of rows that have proper names is refused for want of memory alone
pub only_memory : (r : Replica) (names slice : List RowName) (e : Refusal) → All (λ (row : RowName). IsTrue (is_proper_name row.batch)) names → slice ≡ names
    → (deleted_names r slice ≡ Err e) ⊎ ((e ≡ Memory) × IsOk (deleted_names r slice)) → e ≡ Memory
unfolding names_fault
only_memory r names slice e proper same (inr lack) = lack.0
only_memory r names slice e proper same (inl refused) =
    let all : list_all (λ (row : RowName). is_proper_name row.batch) names ≡ true = list_all-from_AllPass (λ (row : RowName). is_proper_name row.batch) names proper in
    let bad : ◌≡◌ {A = Result (Unit {0} × Replica) Refusal} (Ok (tt, with_deleted r names)) (Err e) =
    sym (ap (λ (b : Bool). unless_fault {X = Unit {0} × Replica} (cond b None (Some BadName)) (Ok (tt, with_deleted r names))) all) ∙ ap (deleted_names r) (sym same) ∙ refused in cc

-- ---- deletes of ranges

range_is : (first : RowName) (last : ℕ) (r : Replica) (o : Option Refusal) (e : Refusal) → unless_fault {X = Unit {0} × Replica} o (Ok (tt, r)) ≡ Err e → o ≡ Some e
range_is first last r None e is = cc
range_is first last r (Some fault) e is = cc

range_fault : (a b : Bool) (e : Refusal) → cond a (cond b (Some (BadRange 0)) None) (Some BadName) ≡ Some e → IsTrue (is_refusal_of_range e)
range_fault true true e is = let same : BadRange 0 ≡ e = cc in ap is_refusal_of_range (sym same)
range_fault true false e is = cc
range_fault false b e is = let same : BadName ≡ e = cc in ap is_refusal_of_range (sym same)

pub range_listed : (r new : Replica) (first : RowName) (last : ℕ) (e : Refusal) → (deleted_rows r first last ≡ Err e) ⊎ ((e ≡ Memory) × IsOk (deleted_rows r first last)) → IsTrue (is_refusal_of_range e)
unfolding delete_fault
range_listed r new first last e (inl refused) =
    range_fault (is_proper_name first.batch) (nat_lt last first.ordinal) e (range_is first last (with_deleted r (rows_between first last)) (delete_fault first last) e refused)
range_listed r new first last e (inr lack) = ap is_refusal_of_range lack.0

-- a call that acts on a replica, refused
pub acts_refused : {X Y : Type 0} (view : X → Y) (changed : X → Bool) (r new : Replica) (e : Refusal) (made : Made Y) → (made ≡ Err e) ⊎ ((e ≡ Memory) × IsOk made) → Makes {X = X} view changed r (Err e) new made
acts_refused view changed r new e made (inl refused) = inl refused
acts_refused view changed r new e made (inr lack) = inr lack.0

-- ---- offers

deletions_same : (ours theirs : set.FinSet row_name_cmp) → set.is_subset theirs ours ≡ true → set.union ours theirs ≡ ours
deletions_same ours theirs within =
    set.same_set row_names_total exact_row_names (set.union ours theirs) ours
    (λ q. set.contains-union row_names_total ours theirs q ∙ absorbs (set.contains ours q) (set.contains theirs q) (set.is_subset-contains row_names_total theirs ours within q))

not_more : (m n : ℕ) → nat_lt m n ≡ false → n ≤ m
not_more m n e = grind (arith, nat_tests, e)

-- a merge that brings no batch and no deletion leaves the replica
merge_same : (r other new : Replica) (u : Unit {0}) → merged r other ≡ Ok (u, new) → nat_lt (map.len r.state.batches) (map.len new.state.batches) ≡ false → set.is_subset other.state.deleted r.state.deleted ≡ true → new ≡ r
merge_same r other new u e few within =
    let m = is_merge r other new e in
    let count : map.len (union_of r.state.batches other.state.batches) ≤ map.len r.state.batches =
    not_more (map.len r.state.batches) (map.len (union_of r.state.batches other.state.batches)) (ap (λ (x : Replica). nat_lt (map.len r.state.batches) (map.len x.state.batches)) m.made ∙ few) in
    let batches = union-same r.state.batches other.state.batches count in
    let deleted = deletions_same r.state.deleted other.state.deleted within in
    sym m.made ∙ (λ i. record { schema = r.schema; own = r.own; state = record { batches = batches i; deleted = deleted i } })

merge_fault_of : (a : Bool) (r other : Replica) (o : Option BatchName) (e : Refusal) → cond a (conflict_or_full r other o) (Some SchemaDiffers) ≡ Some e → IsTrue (is_refusal_of_merge e)
merge_fault_of false r other o e is = let same : SchemaDiffers ≡ e = cc in ap is_refusal_of_merge (sym same)
merge_fault_of true r other (Some name) e is = let same : Conflict name ≡ e = cc in ap is_refusal_of_merge (sym same)
merge_fault_of true r other None e is = full (nat_lt batch_limit (map.len (union_of r.state.batches other.state.batches))) is
  where
    full : (b : Bool) → cond b (Some Full) None ≡ Some e → IsTrue (is_refusal_of_merge e)
    full true is = let same : Full ≡ e = cc in ap is_refusal_of_merge (sym same)
    full false is = cc

merged_fault : (o : Option Refusal) (r : Replica) (e : Refusal) → unless_fault {X = Unit {0} × Replica} o (Ok (tt, r)) ≡ Err e → o ≡ Some e
merged_fault None r e is = cc
merged_fault (Some fault) r e is = cc

pub merge_listed : (r other : Replica) (e : Refusal) → (merged r other ≡ Err e) ⊎ ((e ≡ Memory) × IsOk (merged r other)) → IsTrue (is_refusal_of_merge e)
unfolding merge_fault
merge_listed r other e (inl refused) =
    merge_fault_of (same_table r.schema other.schema) r other (conflict_with r.state.batches (entries_of other)) e (merged_fault (merge_fault r other) (with_join r other) e refused)
merge_listed r other e (inr lack) = ap is_refusal_of_merge lack.0

pub join_listed : (r other : Replica) (e : Refusal) → (merged r other ≡ Err e) ⊎ (e ≡ Memory) → IsTrue (is_refusal_of_merge e)
join_listed r other e (inl refused) = merge_listed r other e (inl refused)
join_listed r other e (inr lack) = ap is_refusal_of_merge lack

-- what is told of a replica that was another one before
abbrev told_of : Replica → Replica → Made (ℕ × ℕ × ℕ)
told_of old new = Ok ((map.len new.state.batches, length (ranges_of new.state.deleted), map.len new.state.batches - map.len old.state.batches), new)

-- what is told once they were
pub told_applied : (old new : Replica) (offers : List OfferForm) (is : Bool) (ranges : List RowRange) (count fresh : ℕ)
    → Makes (λ is_changed. tt) (λ (is_changed : Bool). is_changed) old (Ok is) new (applied_all old offers) → AreMaximal ranges → rows_in ranges ≡ new.state.deleted → count ≡ map.len new.state.batches
    → fresh ≡ map.len new.state.batches - map.len old.state.batches
    → applying offers old ≡ Ok ((count, length ranges, fresh), new)
told_applied old new offers is ranges count fresh made maximal rows batches more =
    ap (λ (m : Made (Unit {0})). m >>= λ (done : Unit {0} × Replica). told_of old done.1) made.0
    ∙ (λ i. let made : Made (ℕ × ℕ × ℕ) = Ok ((sym batches i, length (ranges_are ranges new.state.deleted maximal rows i), sym more i), new) in made)

pub untold_applied : {X : Type 0} (view : X → ℕ × ℕ × ℕ) (changed : X → Bool) (old new : Replica) (offers : List OfferForm) (e : Refusal)
    → Makes {X = Bool} (λ is_changed. tt) (λ (is_changed : Bool). is_changed) old (Err e) new (applied_all old offers) → Makes {X = X} view changed old (Err e) new (applying offers old)
untold_applied view changed old new offers e (inl refused) = inl (ap (λ (m : Made (Unit {0})). m >>= λ (done : Unit {0} × Replica). told_of old done.1) refused)
untold_applied view changed old new offers e (inr lack) = inr lack

-- ---- a merge that brings no deletion

none_within : (s : set.FinSet row_name_cmp) → set.is_subset set.empty s ≡ true
none_within s = set.contains-is_subset row_names_total set.empty s (λ q one. let no : false ≡ true = sym (set.contains-from_list row_names_total [] q) ∙ one in absurd (clash no))
  where
    clash : false ≡ true → ⊥
    clash e = cc

no_new : (m n : ℕ) → not (n - m == 0) ≡ false → nat_lt m n ≡ false
no_new m n e = grind (arith, nat_tests, e)

-- where no batch is new either, the replica stays
pub merge_kept : (r other new : Replica) (u : Unit {0}) → merged r other ≡ Ok (u, new) → other.state.deleted ≡ set.empty → not (map.len new.state.batches - map.len r.state.batches == 0) ≡ false → new ≡ r
merge_kept r other new u e none few =
    merge_same r other new u e (no_new (map.len r.state.batches) (map.len new.state.batches) few) (ap (λ (d : set.FinSet row_name_cmp). set.is_subset d r.state.deleted) none ∙ none_within r.state.deleted)
