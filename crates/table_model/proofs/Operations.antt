-- What a state has at a name is what the inserts of its operations have there; so only membership matters.
use Rattle.std.specs.Prelude.{◌≡◌, List, [], ◌∷◌, ◌++◌, map, Option, Some, None, Bool, true, false, cond, ◌||◌, ◌&&◌, T}
use Rattle.std.proofs.Common.{refl, sym, ap, subst, ◌∙◌, inl, inr, Less, Equal, Greater}
use Rattle.std.specs.List.{list_any}
use Rattle.std.specs.Ordering.{eq_by_cmp, is_eq, is_lt}
use Rattle.std.specs.Cmp.{Equal-is, tied_itself, both_ways}
use Rattle.std.specs.FinMap as map
use Rattle.std.specs.FinSet as set
use Rattle.std.specs.FinMap.Entries.{below_all, is_sorted}
use Rattle.table_model.specs.Name.{name_cmp, row_name_cmp}
use Rattle.table_model.specs.State.{State, Batch}
use Rattle.table_model.specs.Operation.{Operation, Insert, Delete, Among, AreAgreeing, SameOperations, inserts_of, deletes_of, state_of, operations_of, OperationLaws}
use Rattle.table_model.specs.declared.names.BatchName.{BatchName}
use Rattle.table_model.specs.declared.names.RowName.{RowName}
use Rattle.table_model.proofs.NameOrder.{names_total, row_names_total, exact_names, exact_row_names}
use Rattle.table_model.proofs.Joins.{same_states, same_maps}
use Rattle.table_model.proofs.Passed.{first_of_both, second_of_both}

abbrev in_names : BatchName → List (BatchName × Batch) → Option Batch
in_names = map.find name_cmp

-- names that a search takes for one are one
pub same_name : (a b : BatchName) → eq_by_cmp name_cmp a b ≡ true → a ≡ b
same_name a b e = exact_names a b ((Equal-is _).0 e)

pub same_row_name : (a b : RowName) → eq_by_cmp row_name_cmp a b ≡ true → a ≡ b
same_row_name a b e = exact_row_names a b ((Equal-is _).0 e)

pub itself : (a : BatchName) → eq_by_cmp name_cmp a a ≡ true
itself a = ap is_eq (tied_itself names_total a)

pub row_itself : (a : RowName) → eq_by_cmp row_name_cmp a a ≡ true
row_itself a = ap is_eq (tied_itself row_names_total a)

-- an insert that is found is among the operations
pub Among-find : (ops : List Operation) (q : BatchName) (b : Batch) → in_names q (inserts_of ops) ≡ Some b → Among (Insert q b) ops
Among-find [] q b e = cc
Among-find (Delete r ∷ ops) q b e = inr (Among-find ops q b e)
Among-find (Insert n rows ∷ ops) q b e =
    elim (eq_by_cmp name_cmp q n) as (λ t. eq_by_cmp name_cmp q n ≡ t → cond t (Some rows) (in_names q (inserts_of ops)) ≡ Some b → Among (Insert q b) (Insert n rows ∷ ops)) [
      | true ↦ λ t is. let same = same_name q n t in let rows_same : rows ≡ b = cc in inl (λ i. Insert (same i) (sym rows_same i))
      | false ↦ λ t is. inr (Among-find ops q b is)
    ] refl e

insert_parts : (m n : BatchName) (a b : Batch) → Insert m a ≡ Insert n b → (m ≡ n) × (a ≡ b)
insert_parts m n a b e = (cc, cc)

delete_part : (a b : RowName) → Delete a ≡ Delete b → a ≡ b
delete_part a b e = cc

-- an insert that is among the operations makes its name found
pub found-Among : (ops : List Operation) (q : BatchName) (b : Batch) → Among (Insert q b) ops → (c : Batch) × (in_names q (inserts_of ops) ≡ Some c)
found-Among [] q b h = absurd h
found-Among (Delete r ∷ ops) q b (inl e) = cc
found-Among (Delete r ∷ ops) q b (inr h) = found-Among ops q b h
found-Among (Insert n rows ∷ ops) q b h =
    elim (eq_by_cmp name_cmp q n) as (λ t. eq_by_cmp name_cmp q n ≡ t → (c : Batch) × (cond t (Some rows) (in_names q (inserts_of ops)) ≡ Some c)) [
      | true ↦ λ t. (rows, refl)
      | false ↦ λ t. elim h as (λ _. (c : Batch) × (in_names q (inserts_of ops) ≡ Some c)) [
        | inl e ↦ let same = (insert_parts q n b rows e).0 in let ties : eq_by_cmp name_cmp q n ≡ true = subst (λ (x : BatchName). eq_by_cmp name_cmp q x ≡ true) same (itself q) in cc
        | inr rest ↦ found-Among ops q b rest
      ]
    ] refl

-- what operations that agree have at a name, others with the same members have there too
same_found : (ops others : List Operation) → AreAgreeing ops → SameOperations ops others → (q : BatchName) → in_names q (inserts_of ops) ≡ in_names q (inserts_of others)
same_found ops others agree same q =
    elim (in_names q (inserts_of ops)) as (λ o. in_names q (inserts_of ops) ≡ o → o ≡ in_names q (inserts_of others)) [
      | Some a ↦ λ is.
          let here = Among-find ops q a is in
          let there = found-Among others q a ((same (Insert q a)).0 here) in
          let back = (same (Insert q there.0)).1 (Among-find others q there.0 there.1) in
          ap Some (agree q a there.0 here back) ∙ sym there.1
      | None ↦ λ is. elim (in_names q (inserts_of others)) as (λ o. in_names q (inserts_of others) ≡ o → None ≡ o) [
        | None ↦ λ _. refl
        | Some b ↦ λ has.
            let found = found-Among ops q b ((same (Insert q b)).1 (Among-find others q b has)) in
            let both : None ≡ Some found.0 = sym is ∙ found.1 in cc
      ] refl
    ] refl

abbrev has_row : RowName → List RowName → Bool
has_row q = list_any (eq_by_cmp row_name_cmp q)

Among-any : (ops : List Operation) (q : RowName) → has_row q (deletes_of ops) ≡ true → Among (Delete q) ops
Among-any [] q e = cc
Among-any (Insert n rows ∷ ops) q e = inr (Among-any ops q e)
Among-any (Delete r ∷ ops) q e =
    elim (eq_by_cmp row_name_cmp q r) as (λ t. eq_by_cmp row_name_cmp q r ≡ t → (t || has_row q (deletes_of ops)) ≡ true → Among (Delete q) (Delete r ∷ ops)) [
      | true ↦ λ t _. inl (ap Delete (same_row_name q r t))
      | false ↦ λ t is. inr (Among-any ops q is)
    ] refl e

or-true : (b : Bool) → (b || true) ≡ true
or-true true = refl
or-true false = refl

any-Among : (ops : List Operation) (q : RowName) → Among (Delete q) ops → has_row q (deletes_of ops) ≡ true
any-Among [] q h = absurd h
any-Among (Insert n rows ∷ ops) q (inl e) = cc
any-Among (Insert n rows ∷ ops) q (inr h) = any-Among ops q h
any-Among (Delete r ∷ ops) q (inl e) = ap (λ b. b || has_row q (deletes_of ops)) (subst (λ (x : RowName). eq_by_cmp row_name_cmp q x ≡ true) (delete_part q r e) (row_itself q))
any-Among (Delete r ∷ ops) q (inr h) = ap (λ b. eq_by_cmp row_name_cmp q r || b) (any-Among ops q h) ∙ or-true _

-- the state depends on the members alone
pub state_of-same : (ops others : List Operation) → AreAgreeing ops → SameOperations ops others → state_of ops ≡ state_of others
unfolding state_of
state_of-same ops others agree same = same_states _ _
    (same_maps _ _ (λ q. map.get-from_entries names_total (inserts_of ops) q ∙ same_found ops others agree same q ∙ sym (map.get-from_entries names_total (inserts_of others) q)))
    (set.same_set row_names_total exact_row_names _ _ (λ q.
    set.contains-from_list row_names_total (deletes_of ops) q
    ∙ both_ways (has_row q (deletes_of ops)) (has_row q (deletes_of others))
    (λ e. any-Among others q ((same (Delete q)).0 (Among-any ops q e)))
    (λ e. any-Among ops q ((same (Delete q)).1 (Among-any others q e)))
    ∙ sym (set.contains-from_list row_names_total (deletes_of others) q)))

abbrev insert_of : BatchName × Batch → Operation
insert_of e = Insert e.0 e.1

inserts-operations : (es : List (BatchName × Batch)) (ds : List RowName) → inserts_of (map insert_of es ++ map Delete ds) ≡ es
inserts-operations [] [] = refl
inserts-operations [] (d ∷ ds) = inserts-operations [] ds
inserts-operations (e ∷ es) ds = ap (λ (rest : List (BatchName × Batch)). e ∷ rest) (inserts-operations es ds)

deletes-operations : (es : List (BatchName × Batch)) (ds : List RowName) → deletes_of (map insert_of es ++ map Delete ds) ≡ ds
deletes-operations [] [] = refl
deletes-operations [] (d ∷ ds) = ap (λ (rest : List RowName). d ∷ rest) (deletes-operations [] ds)
deletes-operations (e ∷ es) ds = deletes-operations es ds

-- a state's operations make it
pub state_of-operations : (s : State) → state_of (operations_of s) ≡ s
unfolding state_of operations_of
state_of-operations s = same_states _ _
    (same_maps _ _ (λ q.
    map.get-from_entries names_total (inserts_of (map insert_of (map.entries s.batches) ++ map Delete (set.items s.deleted))) q
    ∙ ap (in_names q) (inserts-operations (map.entries s.batches) (set.items s.deleted))
    ∙ sym (map.get-entries s.batches q)))
    (set.same_set row_names_total exact_row_names _ _ (λ q.
    set.contains-from_list row_names_total (deletes_of (map insert_of (map.entries s.batches) ++ map Delete (set.items s.deleted))) q
    ∙ ap (has_row q) (deletes-operations (map.entries s.batches) (set.items s.deleted))
    ∙ sym (set.contains-items s.deleted q)))

-- a name below each name of a list isn't found in it
below_missed : (x : BatchName) (es : List (BatchName × Batch)) → T (below_all name_cmp x es) → in_names x es ≡ None
below_missed x [] h = refl
below_missed x (e ∷ es) h =
    elim (name_cmp x e.0) as (λ r. T (is_lt r && below_all name_cmp x es) → cond (is_eq r) (Some e.1) (in_names x es) ≡ None) [
      | Less ↦ λ rest. below_missed x es rest
      | Equal ↦ λ none. absurd none
      | Greater ↦ λ none. absurd none
    ] h

-- an entry of a list in order is what a search for its name finds
among_entries : (es : List (BatchName × Batch)) (ds : List RowName) (q : BatchName) (b : Batch) → T (is_sorted name_cmp es) → Among (Insert q b) (map insert_of es ++ map Delete ds) → in_names q es ≡ Some b
among_entries [] [] q b s h = absurd h
among_entries [] (d ∷ ds) q b s (inl e) = cc
among_entries [] (d ∷ ds) q b s (inr h) = among_entries [] ds q b tt h
among_entries (e ∷ es) ds q b s (inl is) =
    let parts = insert_parts q e.0 b e.1 is in
    let ties : eq_by_cmp name_cmp q e.0 ≡ true = subst (λ (x : BatchName). eq_by_cmp name_cmp q x ≡ true) parts.0 (itself q) in
    ap (λ t. cond t (Some e.1) (in_names q es)) ties ∙ ap Some (sym parts.1)
among_entries (e ∷ es) ds q b s (inr h) =
    let later = among_entries es ds q b (second_of_both (below_all name_cmp e.0 es) (is_sorted name_cmp es) s) h in
    elim (eq_by_cmp name_cmp q e.0) as (λ t. eq_by_cmp name_cmp q e.0 ≡ t → cond t (Some e.1) (in_names q es) ≡ Some b) [
      | true ↦ λ t.
          let missed = below_missed e.0 es (first_of_both (below_all name_cmp e.0 es) (is_sorted name_cmp es) s) in
          let both : None ≡ Some b = sym missed ∙ ap (λ (x : BatchName). in_names x es) (sym (same_name q e.0 t)) ∙ later in cc
      | false ↦ λ t. later
    ] refl

-- a state's operations agree
pub AreAgreeing-operations : (s : State) → AreAgreeing (operations_of s)
unfolding operations_of
AreAgreeing-operations s name a b in_a in_b =
    let at_a = among_entries (map.entries s.batches) (set.items s.deleted) name a (map.entries_sorted s.batches) in_a in
    let at_b = among_entries (map.entries s.batches) (set.items s.deleted) name b (map.entries_sorted s.batches) in_b in
    let both : Some a ≡ Some b = sym at_a ∙ at_b in cc

inserts-append-deletes : (es : List (BatchName × Batch)) (ds : List RowName) (q : BatchName) (b : Batch) → in_names q es ≡ Some b → Among (Insert q b) (map insert_of es ++ map Delete ds)
inserts-append-deletes es ds q b e = Among-find (map insert_of es ++ map Delete ds) q b (ap (in_names q) (inserts-operations es ds) ∙ e)

deletes-append-inserts : (es : List (BatchName × Batch)) (ds : List RowName) (q : RowName) → has_row q ds ≡ true → Among (Delete q) (map insert_of es ++ map Delete ds)
deletes-append-inserts es ds q e = Among-any (map insert_of es ++ map Delete ds) q (ap (has_row q) (deletes-operations es ds) ∙ e)

-- the operations of the state of operations that agree are those operations
pub SameOperations-operations : (ops : List Operation) → AreAgreeing ops → SameOperations (operations_of (state_of ops)) ops
unfolding state_of operations_of
SameOperations-operations ops agree (Insert q b) = (
  (λ h.
      let at = among_entries (map.entries (state_of ops).batches) (set.items (state_of ops).deleted) q b (map.entries_sorted (state_of ops).batches) h in
      Among-find ops q b (sym (map.get-from_entries names_total (inserts_of ops) q) ∙ map.get-entries (state_of ops).batches q ∙ at)),
  (λ h.
      let found = found-Among ops q b h in
      let same = agree q b found.0 h (Among-find ops q found.0 found.1) in
      inserts-append-deletes (map.entries (state_of ops).batches) (set.items (state_of ops).deleted) q b
      (sym (map.get-entries (state_of ops).batches q) ∙ map.get-from_entries names_total (inserts_of ops) q ∙ found.1 ∙ ap Some (sym same))),
)
SameOperations-operations ops agree (Delete r) = (
  (λ h.
      let in_items : has_row r (set.items (state_of ops).deleted) ≡ true =
      sym (ap (has_row r) (deletes-operations (map.entries (state_of ops).batches) (set.items (state_of ops).deleted))) ∙ any-Among (map insert_of (map.entries (state_of ops).batches) ++ map Delete (set.items (state_of ops).deleted)) r h in
      Among-any ops r (sym (set.contains-from_list row_names_total (deletes_of ops) r) ∙ set.contains-items (state_of ops).deleted r ∙ in_items)),
  (λ h. deletes-append-inserts (map.entries (state_of ops).batches) (set.items (state_of ops).deleted) r
      (sym (set.contains-items (state_of ops).deleted r) ∙ set.contains-from_list row_names_total (deletes_of ops) r ∙ any-Among ops r h)),
)

pub operations : OperationLaws
operations = record { same = state_of-same; back = state_of-operations; agreeing = AreAgreeing-operations; taken = SameOperations-operations }
