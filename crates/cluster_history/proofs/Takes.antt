-- What each call makes of a replica that is the state of what it took: the state of that and what it takes besides.
use Rattle.std.specs.Prelude.{◌≡◌, ◌⊎◌, ℕ, Bool, true, false, cond, not, ◌||◌, nat_lt, List, [], ◌∷◌, ◌++◌, map, length, Option, Some, None, Result, Ok, Err}
use Rattle.std.proofs.Common.{refl, sym, ap, ◌∙◌, inl, inr}
use Rattle.std.specs.List.{list_any}
use Rattle.std.specs.Ordering.{eq_by_cmp}
use Rattle.std.specs.FinMap as map
use Rattle.std.specs.FinSet as set
use Rattle.std.proofs.lemmas.List.Folds.{list_any-append}
use Rattle.table_model.specs.Name.{name_cmp, row_name_cmp, is_proper_name}
use Rattle.table_model.specs.State.{State, Batch, Agree, join, same_rows}
use Rattle.table_model.specs.Table.{Table, rows_fault, same_table}
use Rattle.table_model.specs.Operation.{Operation, Insert as Inserts, Delete as Deletes, Among, AreAgreeing, inserts_of, deletes_of, state_of}
use Rattle.table_model.specs.declared.names.BatchName.{BatchName}
use Rattle.table_model.specs.declared.names.RowName.{RowName}
use Rattle.table_model.specs.declared.refusal.Refusal.{Refusal}
use Rattle.table_model.specs.declared.refusal.Refusal.TheVariants.{Conflict, Full, BadName, SchemaDiffers}
use Rattle.table_model.proofs.NameOrder.{names_total, row_names_total, exact_row_names}
use Rattle.table_model.proofs.Joins.{or_else, or_else-commutes, find-append, get-union, same_states, same_maps}
use Rattle.table_model.proofs.Operations.{Among-find, found-Among, same_name, state_of-same}
use Rattle.table_model.proofs.SameRows.{one_batch}
use Rattle.replica_store.specs.declared.inserted.Inserted.{Inserted}
use Rattle.replica_store.specs.declared.inserted.Inserted.TheVariants.{New, Already}
use Rattle.replica_store.specs.Replica.{Replica, appended, then_added, next_name, inserted, then_placed, place_for, place_beside, unless_fault, with_batch, with_deleted, with_join, deleted_rows, delete_fault, rows_between, differs, conflict_with, conflict_or_full, merge_fault, merged, entries_of, batch_limit}
use Rattle.replica_store.proofs.Limits.{IsFree-next_name, IsFree-place_for}
use Rattle.store_view.specs.Asked.{condition_names}
use Rattle.cluster_history.specs.Cluster.{then_deleted, deleting}
use Rattle.cluster_history.specs.History.{replica_of, names_found, deletes_where}

-- a call made this replica of one that took ops before, and takes more besides
pub record Takes (table : Table) (own : ℕ) (ops more : List Operation) (new : Replica) : Type 0 where
  pub same : new ≡ replica_of table own (more ++ ops)
  pub agree : AreAgreeing (more ++ ops)

pub ok_parts : {X Y : Type 0} (a c : X) (b d : Y) → ◌≡◌ {A = Result (X × Y) Refusal} (Ok (a, b)) (Ok (c, d)) → (a ≡ c) × (b ≡ d)
ok_parts {X = X} {Y = Y} a c b d e =
    let pairs : ◌≡◌ {A = X × Y} (a, b) (c, d) = cc in
    (ap (λ (p : X × Y). p.0) pairs, ap (λ (p : X × Y). p.1) pairs)

insert_parts : (m n : BatchName) (a b : Batch) → Inserts m a ≡ Inserts n b → (m ≡ n) × (a ≡ b)
insert_parts m n a b e = (cc, cc)

-- a batch among operations that agree is what their state has
pub get-state_of : (ops : List Operation) (n : BatchName) (b : Batch) → AreAgreeing ops → Among (Inserts n b) ops → map.get (state_of ops).batches n ≡ Some b
unfolding state_of
get-state_of ops n b agree h =
    let found = found-Among ops n b h in
    map.get-from_entries names_total (inserts_of ops) n ∙ found.1 ∙ ap Some (agree n found.0 b (Among-find ops n found.0 found.1) h)

agree-insert : (ops : List Operation) (name : BatchName) (rows : Batch) → AreAgreeing ops → ((b : Batch) → map.get (state_of ops).batches name ≡ Some b → b ≡ rows) → AreAgreeing (Inserts name rows ∷ ops)
agree-insert ops name rows agree only n a b (inl e) (inl f) =
    let p = insert_parts n name a rows e in let q = insert_parts n name b rows f in p.1 ∙ sym q.1
agree-insert ops name rows agree only n a b (inl e) (inr h) =
    let p = insert_parts n name a rows e in
    let here = only b (ap (map.get (state_of ops).batches) (sym p.0) ∙ get-state_of ops n b agree h) in p.1 ∙ sym here
agree-insert ops name rows agree only n a b (inr g) (inl f) =
    let q = insert_parts n name b rows f in
    let here = only a (ap (map.get (state_of ops).batches) (sym q.0) ∙ get-state_of ops n a agree g) in here ∙ sym q.1
agree-insert ops name rows agree only n a b (inr g) (inr h) = agree n a b g h

-- a batch that goes in is one insert more
with_batch-is : (table : Table) (own : ℕ) (ops : List Operation) (name : BatchName) (rows : Batch) → with_batch (replica_of table own ops) name rows ≡ replica_of table own (Inserts name rows ∷ ops)
unfolding state_of
with_batch-is table own ops name rows = refl

none_is : (m : map.FinMap name_cmp Batch) (name : BatchName) (rows : Batch) → map.get m name ≡ None → (b : Batch) → map.get m name ≡ Some b → b ≡ rows
none_is m name rows none b some = let both : None ≡ Some b = sym none ∙ some in cc

pub append-takes : (table : Table) (own : ℕ) (ops : List Operation) (rows : Batch) (name : BatchName) (new : Replica) → AreAgreeing ops → appended (replica_of table own ops) rows ≡ Ok (name, new) → Takes table own ops (Inserts name rows ∷ []) new
append-takes table own ops rows name new agree e =
    elim (next_name (replica_of table own ops) rows) as (λ x. next_name (replica_of table own ops) rows ≡ x → then_added (replica_of table own ops) rows x ≡ Ok (name, new) → Takes table own ops (Inserts name rows ∷ []) new) [
      | Err fault ↦ λ is made. cc
      | Ok chosen ↦ λ is made.
          let parts = ok_parts chosen name (with_batch (replica_of table own ops) chosen rows) new made in
          let free = IsFree-next_name (replica_of table own ops) rows chosen is in
          let none : map.get (state_of ops).batches name ≡ None = ap (map.get (state_of ops).batches) (sym parts.0) ∙ free.new in
          record {
            same = sym parts.1 ∙ ap (λ n. with_batch (replica_of table own ops) n rows) parts.0 ∙ with_batch-is table own ops name rows;
            agree = agree-insert ops name rows agree (none_is (state_of ops).batches name rows none);
          }
    ] refl e

-- to put in what is there changes nothing
pub insert_again : (m : map.FinMap name_cmp Batch) (name : BatchName) (rows : Batch) → map.get m name ≡ Some rows → map.insert m name rows ≡ m
insert_again m name rows has = same_maps _ _ (λ q.
    map.get-insert names_total m name rows q
    ∙ elim (eq_by_cmp name_cmp q name) as (λ b. eq_by_cmp name_cmp q name ≡ b → cond b (Some rows) (map.get m q) ≡ map.get m q) [
      | true ↦ λ t. sym has ∙ ap (map.get m) (sym (same_name q name t))
      | false ↦ λ t. refl
    ] refl)

room_new : (b : Bool) → ◌≡◌ {A = Result Inserted Refusal} (cond b (Ok New) (Err Full)) (Ok Already) → ⊥
room_new true e = cc
room_new false e = cc

same_held : (b : Bool) (name : BatchName) → ◌≡◌ {A = Result Inserted Refusal} (cond b (Ok Already) (Err (Conflict name))) (Ok Already) → b ≡ true
same_held true name e = refl
same_held false name e = cc

-- a batch that is there already has the same rows
held_is : (r : Replica) (name : BatchName) (rows : Batch) (held : Option Batch) → place_beside r name rows held ≡ Ok Already → held ≡ Some rows
held_is r name rows None e = absurd (room_new (nat_lt (map.len r.state.batches) batch_limit) e)
held_is r name rows (Some held) e = ap Some (one_batch held rows (same_held (same_rows held rows) name e))

after_checks : (o : Option Refusal) (b : Bool) (next : Result Inserted Refusal) → unless_fault o (cond b next (Err BadName)) ≡ Ok Already → next ≡ Ok Already
after_checks None true next e = e
after_checks None false next e = cc
after_checks (Some fault) b next e = cc

already_held : (r : Replica) (name : BatchName) (rows : Batch) → place_for r name rows ≡ Ok Already → map.get r.state.batches name ≡ Some rows
unfolding place_for
already_held r name rows e = held_is r name rows (map.get r.state.batches name) (after_checks (rows_fault r.schema rows) (is_proper_name name) (place_beside r name rows (map.get r.state.batches name)) e)

some_is : (m : map.FinMap name_cmp Batch) (name : BatchName) (rows : Batch) → map.get m name ≡ Some rows → (b : Batch) → map.get m name ≡ Some b → b ≡ rows
some_is m name rows has b some = let both : Some rows ≡ Some b = sym has ∙ some in cc

pub insert-takes : (table : Table) (own : ℕ) (ops : List Operation) (name : BatchName) (rows : Batch) (answer : Inserted) (new : Replica) → AreAgreeing ops → inserted (replica_of table own ops) name rows ≡ Ok (answer, new) → Takes table own ops (Inserts name rows ∷ []) new
insert-takes table own ops name rows answer new agree e =
    let r = replica_of table own ops in
    elim (place_for r name rows) as (λ x. place_for r name rows ≡ x → then_placed r name rows x ≡ Ok (answer, new) → Takes table own ops (Inserts name rows ∷ []) new) [
      | Err fault ↦ λ is made. cc
      | Ok New ↦ λ is made.
          let parts = ok_parts New answer (with_batch r name rows) new made in
          let free = IsFree-place_for r name rows is in
          record {
            same = sym parts.1 ∙ with_batch-is table own ops name rows;
            agree = agree-insert ops name rows agree (none_is (state_of ops).batches name rows free.new);
          }
      | Ok Already ↦ λ is made.
          let parts = ok_parts Already answer r new made in
          let has = already_held r name rows is in
          record {
            same = sym parts.1 ∙ ap (λ (m : map.FinMap name_cmp Batch). record { schema = table; own = record { 0 = own }; state = record { batches = m; deleted = (state_of ops).deleted } }) (sym (insert_again (state_of ops).batches name rows has)) ∙ with_batch-is table own ops name rows;
            agree = agree-insert ops name rows agree (some_is (state_of ops).batches name rows has);
          }
    ] refl e

inserts-deletes : (rows : List RowName) (ops : List Operation) → inserts_of (map Deletes rows ++ ops) ≡ inserts_of ops
inserts-deletes [] ops = refl
inserts-deletes (row ∷ rows) ops = inserts-deletes rows ops

deletes-deletes : (rows : List RowName) (ops : List Operation) → deletes_of (map Deletes rows ++ ops) ≡ rows ++ deletes_of ops
deletes-deletes [] ops = refl
deletes-deletes (row ∷ rows) ops = ap (λ (rest : List RowName). row ∷ rest) (deletes-deletes rows ops)

among-deletes : (rows : List RowName) (ops : List Operation) (n : BatchName) (b : Batch) → Among (Inserts n b) (map Deletes rows ++ ops) → Among (Inserts n b) ops
among-deletes [] ops n b h = h
among-deletes (row ∷ rows) ops n b (inl e) = cc
among-deletes (row ∷ rows) ops n b (inr h) = among-deletes rows ops n b h

or-commutes : (a b : Bool) → (a || b) ≡ (b || a)
or-commutes true true = refl
or-commutes true false = refl
or-commutes false true = refl
or-commutes false false = refl

-- the set of a list that is put together is the union of both lists' sets
from_list-append : (xs ys : List RowName) → set.from_list {R = row_name_cmp} (xs ++ ys) ≡ set.union (set.from_list ys) (set.from_list xs)
from_list-append xs ys = set.same_set row_names_total exact_row_names _ _ (λ q.
    set.contains-from_list row_names_total (xs ++ ys) q
    ∙ list_any-append (eq_by_cmp row_name_cmp q) xs ys
    ∙ or-commutes (list_any (eq_by_cmp row_name_cmp q) xs) (list_any (eq_by_cmp row_name_cmp q) ys)
    ∙ sym (set.contains-union row_names_total (set.from_list ys) (set.from_list xs) q ∙ λ i. set.contains-from_list row_names_total ys q i || set.contains-from_list row_names_total xs q i))

-- rows that are deleted are deletes more
with_deleted-is : (table : Table) (own : ℕ) (ops : List Operation) (rows : List RowName) → with_deleted (replica_of table own ops) rows ≡ replica_of table own (map Deletes rows ++ ops)
unfolding state_of
with_deleted-is table own ops rows = λ i. record {
  schema = table;
  own = record { 0 = own };
  state = record {
    batches = map.from_entries (sym (inserts-deletes rows ops) i);
    deleted = (sym (from_list-append rows (deletes_of ops)) ∙ ap set.from_list (sym (deletes-deletes rows ops))) i;
  };
}

pub delete-takes : (table : Table) (own : ℕ) (ops : List Operation) (first : RowName) (last : ℕ) (done : Unit {0}) (new : Replica) → AreAgreeing ops → deleted_rows (replica_of table own ops) first last ≡ Ok (done, new) → Takes table own ops (map Deletes (rows_between first last)) new
delete-takes table own ops first last done new agree e =
    let r = replica_of table own ops in
    elim (delete_fault first last) as (λ x. delete_fault first last ≡ x → unless_fault {X = Unit {0} × Replica} x (Ok (tt, with_deleted r (rows_between first last))) ≡ Ok (done, new) → Takes table own ops (map Deletes (rows_between first last)) new) [
      | Some fault ↦ λ is made. let bad : ◌≡◌ {A = Result (Unit {0} × Replica) Refusal} (Err fault) (Ok (done, new)) = made in cc
      | None ↦ λ is made.
          let parts = ok_parts tt done (with_deleted r (rows_between first last)) new made in
          record {
            same = sym parts.1 ∙ with_deleted-is table own ops (rows_between first last);
            agree = λ n a b g h. agree n a b (among-deletes (rows_between first last) ops n a g) (among-deletes (rows_between first last) ops n b h);
          }
    ] refl e

-- rows that a condition found are deletes more
pub where-takes : (table : Table) (own : ℕ) (ops : List Operation) (text : List ℕ) (count : ℕ) (new : Replica) → AreAgreeing ops → deleting text (replica_of table own ops) ≡ Ok (count, new) → Takes table own ops (deletes_where table text ops) new
where-takes table own ops text count new agree e =
    let r = replica_of table own ops in
    elim (condition_names text table (state_of ops)) as (λ x. then_deleted r x ≡ Ok (count, new) → Takes table own ops (map Deletes (names_found x)) new) [
      | Err fault ↦ λ made. let bad : ◌≡◌ {A = Result (ℕ × Replica) Refusal} (Err fault) (Ok (count, new)) = made in cc
      | Ok names ↦ λ made.
          let parts = ok_parts (length names) count (with_deleted r names) new made in
          record {
            same = sym parts.1 ∙ with_deleted-is table own ops names;
            agree = λ n a b g h. agree n a b (among-deletes names ops n a g) (among-deletes names ops n b h);
          }
    ] e

inserts-append : (ops more : List Operation) → inserts_of (ops ++ more) ≡ inserts_of ops ++ inserts_of more
inserts-append [] more = refl
inserts-append (Inserts name rows ∷ ops) more = ap (λ (rest : List (BatchName × Batch)). (name, rows) ∷ rest) (inserts-append ops more)
inserts-append (Deletes row ∷ ops) more = inserts-append ops more

deletes-append : (ops more : List Operation) → deletes_of (ops ++ more) ≡ deletes_of ops ++ deletes_of more
deletes-append [] more = refl
deletes-append (Inserts name rows ∷ ops) more = deletes-append ops more
deletes-append (Deletes row ∷ ops) more = ap (λ (rest : List RowName). row ∷ rest) (deletes-append ops more)

among-append : (op : Operation) (ops more : List Operation) → Among op (ops ++ more) → Among op ops ⊎ Among op more
among-append op [] more h = inr h
among-append op (x ∷ ops) more (inl e) = inl (inl e)
among-append op (x ∷ ops) more (inr h) = elim (among-append op ops more h) as (λ _. Among op (x ∷ ops) ⊎ Among op more) [ inl g ↦ inl (inr g) | inr g ↦ inr g ]

among-left : (op : Operation) (ops more : List Operation) → Among op ops → Among op (ops ++ more)
among-left op [] more h = absurd h
among-left op (x ∷ ops) more (inl e) = inl e
among-left op (x ∷ ops) more (inr h) = inr (among-left op ops more h)

-- both sets together: their state is the join, where they agree with each other
state_of-append : (ops more : List Operation) → Agree (state_of ops) (state_of more) → join (state_of ops) (state_of more) ≡ state_of (more ++ ops)
unfolding state_of
state_of-append ops more agree = same_states _ _
    (same_maps _ _ (λ q.
    get-union (state_of ops).batches (state_of more).batches q
    ∙ or_else-commutes (map.get (state_of ops).batches q) (map.get (state_of more).batches q) (agree q)
    ∙ (λ i. or_else (map.get-from_entries names_total (inserts_of more) q i) (map.get-from_entries names_total (inserts_of ops) q i))
    ∙ sym (find-append (inserts_of more) (inserts_of ops) q)
    ∙ ap (map.find name_cmp q) (sym (inserts-append more ops))
    ∙ sym (map.get-from_entries names_total (inserts_of (more ++ ops)) q)))
    (sym (ap set.from_list (deletes-append more ops) ∙ from_list-append (deletes_of more) (deletes_of ops)))

both_agree : (ops more : List Operation) → AreAgreeing ops → AreAgreeing more → Agree (state_of ops) (state_of more) → AreAgreeing (more ++ ops)
both_agree ops more here there agree n a b g h =
    elim (among-append (Inserts n a) more ops g) as (λ _. a ≡ b) [
      | inl g' ↦ elim (among-append (Inserts n b) more ops h) as (λ _. a ≡ b) [
        | inl h' ↦ there n a b g' h'
        | inr h' ↦ sym (agree n b a (get-state_of ops n b here h') (get-state_of more n a there g'))
      ]
      | inr g' ↦ elim (among-append (Inserts n b) more ops h) as (λ _. a ≡ b) [
        | inl h' ↦ agree n a b (get-state_of ops n a here g') (get-state_of more n b there h')
        | inr h' ↦ here n a b g' h'
      ]
    ]

not_other : (b : Bool) (name : BatchName) (rest : Option BatchName) → cond b (Some name) rest ≡ None → (b ≡ false) × (rest ≡ None)
not_other true name rest e = cc
not_other false name rest e = (refl, e)

not_false : (b : Bool) → not b ≡ false → b ≡ true
not_false true e = refl
not_false false e = cc

some_same : (a b : Batch) → Some a ≡ Some b → a ≡ b
some_same a b e = cc

-- where no batch conflicts, the rows under a shared name are the same
agree-none : (m : map.FinMap name_cmp Batch) (es : List (BatchName × Batch)) → conflict_with m es ≡ None → (n : BatchName) (a b : Batch) → map.get m n ≡ Some a → map.find name_cmp n es ≡ Some b → a ≡ b
agree-none m [] none n a b has found = cc
agree-none m (e ∷ es) none n a b has found =
    let parts = not_other (differs (map.get m e.0) e.1) e.0 (conflict_with m es) none in
    elim (eq_by_cmp name_cmp n e.0) as (λ t. eq_by_cmp name_cmp n e.0 ≡ t → cond t (Some e.1) (map.find name_cmp n es) ≡ Some b → a ≡ b) [
      | true ↦ λ t is.
          let here : map.get m e.0 ≡ Some a = ap (map.get m) (sym (same_name n e.0 t)) ∙ has in
          let alike : not (same_rows a e.1) ≡ false = sym (ap (λ o. differs o e.1) here) ∙ parts.0 in
          one_batch a e.1 (not_false (same_rows a e.1) alike) ∙ some_same e.1 b is
      | false ↦ λ t is. agree-none m es parts.1 n a b has is
    ] refl found

no_conflict : (r other : Replica) (b : Bool) (o : Option BatchName) → cond b (conflict_or_full r other o) (Some SchemaDiffers) ≡ None → o ≡ None
no_conflict r other true None e = refl
no_conflict r other true (Some name) e = cc
no_conflict r other false o e = cc

agreeing : (r other : Replica) → merge_fault r other ≡ None → Agree r.state other.state
unfolding merge_fault
agreeing r other e n a b has theirs =
    agree-none r.state.batches (entries_of other) (no_conflict r other (same_table r.schema other.schema) (conflict_with r.state.batches (entries_of other)) e) n a b has (sym (map.get-entries other.state.batches n) ∙ theirs)

pub merge-takes : (table theirs : Table) (own other_own : ℕ) (ops more : List Operation) (done : Unit {0}) (new : Replica) → AreAgreeing ops → AreAgreeing more → merged (replica_of table own ops) (replica_of theirs other_own more) ≡ Ok (done, new) → Takes table own ops more new
merge-takes table theirs own other_own ops more done new here there e =
    let r = replica_of table own ops in
    let other = replica_of theirs other_own more in
    elim (merge_fault r other) as (λ x. merge_fault r other ≡ x → unless_fault {X = Unit {0} × Replica} x (Ok (tt, with_join r other)) ≡ Ok (done, new) → Takes table own ops more new) [
      | Some fault ↦ λ is made. cc
      | None ↦ λ is made.
          let parts = ok_parts tt done (with_join r other) new made in
          let agree = agreeing r other is in
          record {
            same = sym parts.1 ∙ ap (λ (s : State). record { schema = table; own = record { 0 = own }; state = s }) (state_of-append ops more agree);
            agree = both_agree ops more here there agree;
          }
    ] refl e

-- to take again what was taken changes nothing
pub again-agree : (ops : List Operation) → AreAgreeing ops → AreAgreeing (ops ++ ops)
again-agree ops agree n a b g h = agree n a b (once (Inserts n a) ops g) (once (Inserts n b) ops h)
  where
    once : (op : Operation) (xs : List Operation) → Among op (xs ++ xs) → Among op xs
    once op xs k = elim (among-append op xs xs k) as (λ _. Among op xs) [ inl g ↦ g | inr g ↦ g ]

pub again-state : (ops : List Operation) → AreAgreeing ops → state_of (ops ++ ops) ≡ state_of ops
again-state ops agree = sym (state_of-same ops (ops ++ ops) agree (λ op. (among-left op ops ops, λ k. elim (among-append op ops ops k) as (λ _. Among op ops) [ inl g ↦ g | inr g ↦ g ])))
