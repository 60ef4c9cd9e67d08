-- What a file holds grows as a set: a join brings the operations of both states, and a delete brings one for each row.
use Rattle.std.specs.Prelude.{◌≡◌, ◌⊎◌, ℕ, ◌+◌, ◌≤◌, Bool, true, false, ◌||◌, List, [], ◌∷◌, ◌++◌, Some, Ok}
use Rattle.std.proofs.Common.{refl, sym, ap, subst, ◌∙◌, inl, inr, arith}
use Rattle.std.specs.List.{list_any}
use Rattle.std.specs.Ordering.{eq_by_cmp}
use Rattle.std.specs.FinMap as map
use Rattle.std.specs.FinSet as set
use Rattle.std.proofs.lemmas.List.Folds.{list_any-append}
use Rattle.table_model.specs.Name.{name_cmp, row_name_cmp}
use Rattle.table_model.specs.State.{State, Batch, Agree, join}
use Rattle.table_model.specs.Table.{Table, or_else}
use Rattle.table_model.specs.Operation.{Operation, Insert, Delete, Among, AreAgreeing, inserts_of, deletes_of, state_of}
use Rattle.table_model.specs.declared.names.BatchName.{BatchName}
use Rattle.table_model.specs.declared.names.RowName.{RowName}
use Rattle.table_model.proofs.NameOrder.{names_total, row_names_total, exact_row_names}
use Rattle.table_model.proofs.Joins.{or_else-commutes, find-append, get-union, same_states, same_maps}
use Rattle.table_model.proofs.Operations.{Among-find, found-Among}
use Rattle.catalogue_join.specs.Run.{name_at}
use Rattle.replica_store.specs.Replica.{Replica, with_deleted, joined_with, merged}
use Rattle.replica_store.proofs.MergeAnswers.{is_merge}
use Rattle.replica_changes.specs.FileLaws.{replica_of, inserts, deletes}
use Rattle.replica_changes.specs.Loads.{numbered_from, named_batches}

-- a command made this replica of one that has the state of ops, and adds more
pub record Adds (table : Table) (ops more : List Operation) (new : Replica) : Type 0 where
  pub schema : new.schema ≡ table
  pub state : new.state ≡ state_of (more ++ ops)
  pub agree : AreAgreeing (more ++ ops)

-- a batch among operations that agree is what their state has
pub get-state_of : (ops : List Operation) (n : BatchName) (b : Batch) → AreAgreeing ops → Among (Insert n b) ops → map.get (state_of ops).batches n ≡ Some b
unfolding state_of
get-state_of ops n b agree h =
    let found = found-Among ops n b h in
    map.get-from_entries names_total (inserts_of ops) n ∙ found.1 ∙ ap Some (agree n found.0 b (Among-find ops n found.0 found.1) h)

or-commutes : (a b : Bool) → (a || b) ≡ (b || a)
or-commutes true true = refl
or-commutes true false = refl
or-commutes false true = refl
or-commutes false false = refl

-- the set of a list that is put together is the union of both lists' sets
from_list-append : (xs ys : List RowName) → set.from_list {R = row_name_cmp} (xs ++ ys) ≡ set.union (set.from_list ys) (set.from_list xs)
from_list-append xs ys = set.same_set row_names_total exact_row_names _ _ (λ q.
    set.contains-from_list row_names_total (xs ++ ys) q
    ∙ list_any-append (eq_by_cmp row_name_cmp q) xs ys
    ∙ or-commutes (list_any (eq_by_cmp row_name_cmp q) xs) (list_any (eq_by_cmp row_name_cmp q) ys)
    ∙ sym (set.contains-union row_names_total (set.from_list ys) (set.from_list xs) q ∙ λ i. set.contains-from_list row_names_total ys q i || set.contains-from_list row_names_total xs q i))

inserts-append : (ops more : List Operation) → inserts_of (ops ++ more) ≡ inserts_of ops ++ inserts_of more
inserts-append [] more = refl
inserts-append (Insert name rows ∷ ops) more = ap (λ (rest : List (BatchName × Batch)). (name, rows) ∷ rest) (inserts-append ops more)
inserts-append (Delete row ∷ ops) more = inserts-append ops more

deletes-append : (ops more : List Operation) → deletes_of (ops ++ more) ≡ deletes_of ops ++ deletes_of more
deletes-append [] more = refl
deletes-append (Insert name rows ∷ ops) more = deletes-append ops more
deletes-append (Delete row ∷ ops) more = ap (λ (rest : List RowName). row ∷ rest) (deletes-append ops more)

among-append : (op : Operation) (ops more : List Operation) → Among op (ops ++ more) → Among op ops ⊎ Among op more
among-append op [] more h = inr h
among-append op (x ∷ ops) more (inl e) = inl (inl e)
among-append op (x ∷ ops) more (inr h) = elim (among-append op ops more h) as (λ _. Among op (x ∷ ops) ⊎ Among op more) [ inl g ↦ inl (inr g) | inr g ↦ inr g ]

-- both sets together: their state is the join, where they agree with each other
pub state_of-append : (ops more : List Operation) → Agree (state_of ops) (state_of more) → join (state_of ops) (state_of more) ≡ state_of (more ++ ops)
unfolding state_of
state_of-append ops more agree = same_states _ _
    (same_maps _ _ (λ q.
    get-union (state_of ops).batches (state_of more).batches q
    ∙ or_else-commutes (map.get (state_of ops).batches q) (map.get (state_of more).batches q) (agree q)
    ∙ (λ i. or_else (map.get-from_entries names_total (inserts_of more) q i) (map.get-from_entries names_total (inserts_of ops) q i))
    ∙ sym (find-append (inserts_of more) (inserts_of ops) q)
    ∙ ap (map.find name_cmp q) (sym (inserts-append more ops))
    ∙ sym (map.get-from_entries names_total (inserts_of (more ++ ops)) q)))
    (sym (ap set.from_list (deletes-append more ops) ∙ from_list-append (deletes_of more) (deletes_of ops)))

pub both_agree : (ops more : List Operation) → AreAgreeing ops → AreAgreeing more → Agree (state_of ops) (state_of more) → AreAgreeing (more ++ ops)
both_agree ops more here there agree n a b g h =
    elim (among-append (Insert n a) more ops g) as (λ _. a ≡ b) [
      | inl g' ↦ elim (among-append (Insert n b) more ops h) as (λ _. a ≡ b) [
        | inl h' ↦ there n a b g' h'
        | inr h' ↦ sym (agree n b a (get-state_of ops n b here h') (get-state_of more n a there g'))
      ]
      | inr g' ↦ elim (among-append (Insert n b) more ops h) as (λ _. a ≡ b) [
        | inl h' ↦ agree n a b (get-state_of ops n a here g') (get-state_of more n b there h')
        | inr h' ↦ here n a b g' h'
      ]
    ]

-- a merge brings the operations of the other state
pub merge-adds : (table : Table) (ops more : List Operation) (r other new : Replica) (done : Unit {0}) → r.schema ≡ table → r.state ≡ state_of ops → other.state ≡ state_of more → AreAgreeing ops → AreAgreeing more
    → merged r other ≡ Ok (done, new) → Adds table ops more new
merge-adds table ops more r other new done schema ours theirs here there e =
    let m = is_merge r other new e in
    let agree : Agree (state_of ops) (state_of more) = subst (λ (s : State). Agree s (state_of more)) ours (subst (λ (s : State). Agree r.state s) theirs m.agree) in
    record {
      schema = ap (λ (x : Replica). x.schema) (sym m.made) ∙ schema;
      state = ap (λ (x : Replica). x.state) (sym m.made) ∙ (λ i. join (ours i) (theirs i)) ∙ state_of-append ops more agree;
      agree = both_agree ops more here there agree;
    }

pub among-left : (op : Operation) (ops more : List Operation) → Among op ops → Among op (ops ++ more)
among-left op [] more h = absurd h
among-left op (x ∷ ops) more (inl e) = inl e
among-left op (x ∷ ops) more (inr h) = inr (among-left op ops more h)

pub among-right : (op : Operation) (ops more : List Operation) → Among op more → Among op (ops ++ more)
among-right op [] more h = h
among-right op (x ∷ ops) more h = inr (among-right op ops more h)

-- where all operations agree, so do the states of two parts of them
pub parts_agree : (ops more : List Operation) → AreAgreeing (more ++ ops) → Agree (state_of ops) (state_of more)
unfolding state_of
parts_agree ops more agree q a b g h =
    agree q a b (among-right (Insert q a) more ops (Among-find ops q a (sym (map.get-from_entries names_total (inserts_of ops) q) ∙ g)))
    (among-left (Insert q b) more ops (Among-find more q b (sym (map.get-from_entries names_total (inserts_of more) q) ∙ h)))

-- a join with a state brings its operations
pub join-adds : (table : Table) (ops more : List Operation) (r new : Replica) (s : State) → r ≡ replica_of table ops → s ≡ state_of more → AreAgreeing (more ++ ops) → new ≡ joined_with r s → Adds table ops more new
join-adds table ops more r new s ours theirs agree made = record {
  schema = ap (λ (x : Replica). x.schema) made ∙ ap (λ (x : Replica). x.schema) ours;
  state = ap (λ (x : Replica). x.state) made ∙ (λ i. join (ours i).state (theirs i)) ∙ state_of-append ops more (parts_agree ops more agree);
  agree = agree;
}

-- ---- deletes

inserts-deletes : (rows : List RowName) (ops : List Operation) → inserts_of (deletes rows ++ ops) ≡ inserts_of ops
inserts-deletes [] ops = refl
inserts-deletes (row ∷ rows) ops = inserts-deletes rows ops

deletes-deletes : (rows : List RowName) (ops : List Operation) → deletes_of (deletes rows ++ ops) ≡ rows ++ deletes_of ops
deletes-deletes [] ops = refl
deletes-deletes (row ∷ rows) ops = ap (λ (rest : List RowName). row ∷ rest) (deletes-deletes rows ops)

among-deletes : (rows : List RowName) (ops : List Operation) (n : BatchName) (b : Batch) → Among (Insert n b) (deletes rows ++ ops) → Among (Insert n b) ops
among-deletes [] ops n b h = h
among-deletes (row ∷ rows) ops n b (inl e) = cc
among-deletes (row ∷ rows) ops n b (inr h) = among-deletes rows ops n b h

-- rows that are deleted are deletes more
pub delete-adds : (table : Table) (ops : List Operation) (r new : Replica) (rows : List RowName) → r ≡ replica_of table ops → AreAgreeing ops → with_deleted r rows ≡ new → Adds table ops (deletes rows) new
unfolding state_of
delete-adds table ops r new rows is agree made =
    let whole : with_deleted (replica_of table ops) rows ≡ new = ap (λ (x : Replica). with_deleted x rows) (sym is) ∙ made in
    record {
      schema = ap (λ (x : Replica). x.schema) (sym whole);
      state = ap (λ (x : Replica). x.state) (sym whole) ∙ (λ i. let made : State = record {
        batches = map.from_entries (sym (inserts-deletes rows ops) i);
        deleted = (sym (from_list-append rows (deletes_of ops)) ∙ ap set.from_list (sym (deletes-deletes rows ops))) i;
      } in made);
      agree = λ n a b g h. agree n a b (among-deletes rows ops n a g) (among-deletes rows ops n b h);
    }

-- ---- batches under consecutive names

pub inserts_of-inserts : (es : List (BatchName × Batch)) → inserts_of (inserts es) ≡ es
inserts_of-inserts [] = refl
inserts_of-inserts (e ∷ es) = ap (λ (rest : List (BatchName × Batch)). e ∷ rest) (inserts_of-inserts es)

pub deletes_of-inserts : (es : List (BatchName × Batch)) → deletes_of (inserts es) ≡ []
deletes_of-inserts [] = refl
deletes_of-inserts (e ∷ es) = deletes_of-inserts es

-- the state of inserts is their map
pub state_of-inserts : (es : List (BatchName × Batch)) → state_of (inserts es) ≡ record { batches = map.from_entries es; deleted = set.empty }
unfolding state_of
state_of-inserts es = λ i. let made : State = record { batches = map.from_entries (inserts_of-inserts es i); deleted = set.from_list (deletes_of-inserts es i) } in made

abbrev number_of : BatchName → ℕ
number_of n = n.number.0

insert_parts : (m n : BatchName) (a b : Batch) → Insert m a ≡ Insert n b → (m ≡ n) × (a ≡ b)
insert_parts m n a b e = (cc, cc)

-- a later name has a later number
later : (first : BatchName) (k : ℕ) (xs : List Batch) (n : BatchName) (b : Batch) → Among (Insert n b) (inserts (numbered_from first k xs)) → k ≤ n.number.0
later first k [] n b h = absurd h
later first k (x ∷ xs) n b (inl e) =
    let same : number_of n ≡ k = ap number_of (insert_parts n (name_at first.origin k) b x e).0 in omega (arith, same)
later first k (x ∷ xs) n b (inr h) = let more = later first (k + 1) xs n b h in omega (arith, more)

not_later : (first : BatchName) (k : ℕ) (xs : List Batch) (n : BatchName) (b c x : Batch) → Insert n c ≡ Insert (name_at first.origin k) x → Among (Insert n b) (inserts (numbered_from first (k + 1) xs)) → ⊥
not_later first k xs n b c x e h =
    let same : number_of n ≡ k = ap number_of (insert_parts n (name_at first.origin k) c x e).0 in
    let more : k + 1 ≤ n.number.0 = later first (k + 1) xs n b h in
    omega (arith, same, more)

-- so no name comes twice
numbered_agree : (first : BatchName) (k : ℕ) (xs : List Batch) → AreAgreeing (inserts (numbered_from first k xs))
numbered_agree first k [] n a b g h = absurd g
numbered_agree first k (x ∷ xs) n a b (inl e) (inl f) =
    (insert_parts n (name_at first.origin k) a x e).1 ∙ sym (insert_parts n (name_at first.origin k) b x f).1
numbered_agree first k (x ∷ xs) n a b (inl e) (inr h) = absurd (not_later first k xs n b a x e h)
numbered_agree first k (x ∷ xs) n a b (inr g) (inl f) = absurd (not_later first k xs n a b x f g)
numbered_agree first k (x ∷ xs) n a b (inr g) (inr h) = numbered_agree first (k + 1) xs n a b g h

pub named_agree : (first : BatchName) (xs : List Batch) → AreAgreeing (inserts (named_batches first xs))
named_agree first xs = numbered_agree first first.number.0 xs
