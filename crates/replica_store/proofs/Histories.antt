-- What histories with forgets leave is what is left of the state of all that was taken.
use Rattle.std.specs.Prelude.{◌≡◌, ◌⊎◌, Bool, true, false, cond, not, ◌||◌, List, [], ◌∷◌, ◌++◌, Option, Some, None, IsTrue}
use Rattle.std.proofs.Common.{refl, sym, ap, subst, ◌∙◌, inl, inr}
use Rattle.std.proofs.lemmas.List.Folds.{list_any-append}
use Rattle.std.specs.List.{list_any}
use Rattle.std.specs.Ordering.{eq_by_cmp}
use Rattle.std.specs.FinMap as map
use Rattle.std.specs.FinSet as set
use Rattle.table_model.specs.Name.{name_cmp, row_name_cmp}
use Rattle.table_model.specs.State.{State, Batch, Agree, join, empty_state, live_rows}
use Rattle.table_model.specs.Meaning.{answer_of}
use Rattle.table_model.specs.Query.{QueryShape}
use Rattle.table_model.specs.Table.{Table}
use Rattle.table_model.specs.Operation.{Operation, Insert, Delete, Among, AreAgreeing, SameOperations, inserts_of, deletes_of, state_of}
use Rattle.table_model.specs.declared.names.BatchName.{BatchName}
use Rattle.table_model.specs.declared.names.RowName.{RowName}
use Rattle.table_model.proofs.NameOrder.{names_total, row_names_total, exact_row_names}
use Rattle.table_model.proofs.Operations.{same_name, state_of-same, Among-find, found-Among}
use Rattle.table_model.proofs.Joins.{or_else, find-append, get-union, same_states, same_maps}
use Rattle.replica_store.specs.Forgotten.{has_live_row, forgotten, IsRestOf}
use Rattle.replica_store.specs.ForgetHistory.{History, New, Takes, Forgets, Merges, Pulls, taken, state_after, left_out, IsAsked, TookListed, ForgetHistoryLaws}
use Rattle.replica_store.proofs.Rests.{forgets, nothing, then_more, least, live, answers, joins, dead_first, dead_second, rows_at}

inserts-append : (ops more : List Operation) → inserts_of (ops ++ more) ≡ inserts_of ops ++ inserts_of more
inserts-append [] more = refl
inserts-append (Insert name rows ∷ ops) more = ap (λ (rest : List (BatchName × Batch)). (name, rows) ∷ rest) (inserts-append ops more)
inserts-append (Delete row ∷ ops) more = inserts-append ops more

deletes-append : (ops more : List Operation) → deletes_of (ops ++ more) ≡ deletes_of ops ++ deletes_of more
deletes-append [] more = refl
deletes-append (Insert name rows ∷ ops) more = deletes-append ops more
deletes-append (Delete row ∷ ops) more = ap (λ (rest : List RowName). row ∷ rest) (deletes-append ops more)

among-front : (op : Operation) (ops more : List Operation) → Among op ops → Among op (ops ++ more)
among-front op [] more h = absurd h
among-front op (x ∷ ops) more (inl e) = inl e
among-front op (x ∷ ops) more (inr h) = inr (among-front op ops more h)

among-back : (op : Operation) (ops more : List Operation) → Among op more → Among op (ops ++ more)
among-back op [] more h = h
among-back op (x ∷ ops) more h = inr (among-back op ops more h)

get-state_of : (ops : List Operation) (q : BatchName) → map.get (state_of ops).batches q ≡ map.find name_cmp q (inserts_of ops)
unfolding state_of
get-state_of ops q = map.get-from_entries names_total (inserts_of ops) q

contains-state_of : (ops : List Operation) (q : RowName) → set.contains (state_of ops).deleted q ≡ list_any (eq_by_cmp row_name_cmp q) (deletes_of ops)
unfolding state_of
contains-state_of ops q = set.contains-from_list row_names_total (deletes_of ops) q

-- the state of two lists is the join of their states
joined-state : (ops more : List Operation) → join (state_of ops) (state_of more) ≡ state_of (ops ++ more)
joined-state ops more = same_states _ _
    (same_maps _ _ (λ q.
    get-union (state_of ops).batches (state_of more).batches q
    ∙ (λ i. or_else (get-state_of ops q i) (get-state_of more q i))
    ∙ sym (find-append (inserts_of ops) (inserts_of more) q)
    ∙ ap (map.find name_cmp q) (sym (inserts-append ops more))
    ∙ sym (get-state_of (ops ++ more) q)))
    (set.same_set row_names_total exact_row_names _ _ (λ q.
    set.contains-union row_names_total (state_of ops).deleted (state_of more).deleted q
    ∙ (λ i. contains-state_of ops q i || contains-state_of more q i)
    ∙ sym (list_any-append (eq_by_cmp row_name_cmp q) (deletes_of ops) (deletes_of more))
    ∙ ap (list_any (eq_by_cmp row_name_cmp q)) (sym (deletes-append ops more))
    ∙ sym (contains-state_of (ops ++ more) q)))

-- parts of operations that agree agree, and so do their states
front_agrees : (ops more : List Operation) → AreAgreeing (ops ++ more) → AreAgreeing ops
front_agrees ops more agree name a b in_a in_b = agree name a b (among-front (Insert name a) ops more in_a) (among-front (Insert name b) ops more in_b)

back_agrees : (ops more : List Operation) → AreAgreeing (ops ++ more) → AreAgreeing more
back_agrees ops more agree name a b in_a in_b = agree name a b (among-back (Insert name a) ops more in_a) (among-back (Insert name b) ops more in_b)

states_agree : (ops more : List Operation) → AreAgreeing (ops ++ more) → Agree (state_of ops) (state_of more)
states_agree ops more agree name a b has at = agree name a b
    (among-front (Insert name a) ops more (Among-find ops name a (sym (get-state_of ops name) ∙ has)))
    (among-back (Insert name b) ops more (Among-find more name b (sym (get-state_of more name) ∙ at)))

-- what is there of a state without listed names
pub get-left_out : (names : set.FinSet name_cmp) (s : State) (q : BatchName) → map.get (left_out names s).batches q ≡ cond (not (set.contains names q)) (map.get s.batches q) None
unfolding left_out
get-left_out names s q = map.get-retain_keys s.batches (λ name. not (set.contains names name)) q (λ x tied. ap not (set.contains_tied names_total names q x tied))

pub deleted-left_out : (names : set.FinSet name_cmp) (s : State) → (left_out names s).deleted ≡ s.deleted
unfolding left_out
deleted-left_out names s = refl

-- An offer brings what is left of the join, where the batch of each listed name was taken.
module _ (s t whole other : State) (names : set.FinSet name_cmp) (agree : Agree whole other) (rest : IsRestOf s whole) (other_rest : IsRestOf t other) (listed : (name : BatchName) → IsTrue (set.contains names name) → (rows : Batch) × (map.get whole.batches name ≡ Some rows)) where
  plain : IsRestOf (join s t) (join whole other)
  plain = joins s t whole other agree rest other_rest

  offer_held : (name : BatchName) (rows : Batch) (b : Bool) → set.contains names name ≡ b → or_else (map.get s.batches name) (cond (not b) (map.get t.batches name) None) ≡ Some rows → map.get (join whole other).batches name ≡ Some rows
  offer_held name rows false is has = plain.held name rows (get-union s.batches t.batches name ∙ has)
  offer_held name rows true is has =
      get-union whole.batches other.batches name
      ∙ elim (map.get s.batches name) as (λ o. map.get s.batches name ≡ o → or_else o None ≡ Some rows → or_else (map.get whole.batches name) (map.get other.batches name) ≡ Some rows) [
        | None ↦ λ _ found. cc
        | Some x ↦ λ at found. ap (λ (o : Option Batch). or_else o (map.get other.batches name)) (rest.held name x at) ∙ found
      ] refl has

  offer_dropped : (name : BatchName) (rows : Batch) (b : Bool) → set.contains names name ≡ b → or_else (map.get s.batches name) (cond (not b) (map.get t.batches name) None) ≡ None → map.get (join whole other).batches name ≡ Some rows
      → has_live_row (set.union whole.deleted other.deleted) (name, rows) ≡ false
  offer_dropped name rows false is none has = plain.dropped name rows (get-union s.batches t.batches name ∙ none) has
  offer_dropped name rows true is none has =
      let here = listed name is in
      let same : here.0 ≡ rows = some_same here.0 rows (sym (ap (λ (o : Option Batch). or_else o (map.get other.batches name)) here.1) ∙ sym (get-union whole.batches other.batches name) ∙ has) in
      elim (map.get s.batches name) as (λ o. map.get s.batches name ≡ o → or_else o None ≡ None → has_live_row (set.union whole.deleted other.deleted) (name, rows) ≡ false) [
        | None ↦ λ at _. dead_first whole.deleted other.deleted (rows_at (name, rows)) (rest.dropped name rows at (here.1 ∙ ap Some same))
        | Some x ↦ λ at found. cc
      ] refl none
    where
      some_same : (x y : Batch) → Some x ≡ Some y → x ≡ y
      some_same x y e = cc

  pub offers : IsRestOf (join s (left_out names t)) (join whole other)
  offers = record {
    deleted = λ i. set.union (rest.deleted i) ((deleted-left_out names t ∙ other_rest.deleted) i);
    held = λ name rows has. offer_held name rows (set.contains names name) refl (ap (or_else (map.get s.batches name)) (sym (get-left_out names t name)) ∙ sym (get-union s.batches (left_out names t).batches name) ∙ has);
    dropped = λ name rows none has. offer_dropped name rows (set.contains names name) refl (ap (or_else (map.get s.batches name)) (sym (get-left_out names t name)) ∙ sym (get-union s.batches (left_out names t).batches name) ∙ none) has;
  }

-- a batch that was taken is in the state of what was taken
found_in : (ops : List Operation) (name : BatchName) (rows : Batch) → Among (Insert name rows) ops → (found : Batch) × (map.get (state_of ops).batches name ≡ Some found)
found_in ops name rows h = let found = found-Among ops name rows h in (found.0, get-state_of ops name ∙ found.1)

new_state : empty_state ≡ state_of []
unfolding state_of
new_state = refl

rest_after : (h : History) → AreAgreeing (taken h) → IsAsked h → IsRestOf (state_after h) (state_of (taken h))
rest_after New agree asked = subst (λ (s : State). IsRestOf empty_state s) new_state (nothing empty_state)
rest_after (Takes h ops) agree asked =
    subst (λ (s : State). IsRestOf (join (state_after h) (state_of ops)) s) (joined-state (taken h) ops)
    (joins (state_after h) (state_of ops) (state_of (taken h)) (state_of ops) (states_agree (taken h) ops agree) (rest_after h (front_agrees (taken h) ops agree) asked) (nothing (state_of ops)))
rest_after (Forgets h) agree asked = then_more (forgotten (state_after h)) (state_after h) (state_of (taken h)) (forgets (state_after h)) (rest_after h agree asked)
rest_after (Merges h g) agree asked =
    subst (λ (s : State). IsRestOf (join (state_after h) (state_after g)) s) (joined-state (taken h) (taken g))
    (joins (state_after h) (state_after g) (state_of (taken h)) (state_of (taken g)) (states_agree (taken h) (taken g) agree) (rest_after h (front_agrees (taken h) (taken g) agree) asked.0) (rest_after g (back_agrees (taken h) (taken g) agree) asked.1))
rest_after (Pulls h names g) agree asked =
    subst (λ (s : State). IsRestOf (join (state_after h) (left_out names (state_after g))) s) (joined-state (taken h) (taken g))
    (offers (state_after h) (state_after g) (state_of (taken h)) (state_of (taken g)) names (states_agree (taken h) (taken g) agree) (rest_after h (front_agrees (taken h) (taken g) agree) asked.0) (rest_after g (back_agrees (taken h) (taken g) agree) asked.1)
    (λ name is. let took = asked.2 name is in found_in (taken h) name took.0 took.1))

-- others with the same members agree too
others_agree : (ops others : List Operation) → AreAgreeing ops → SameOperations ops others → AreAgreeing others
others_agree ops others agree same name a b in_a in_b = agree name a b ((same (Insert name a)).1 in_a) ((same (Insert name b)).1 in_b)

live_after : (h : History) → AreAgreeing (taken h) → IsAsked h → live_rows (state_after h) ≡ live_rows (state_of (taken h))
live_after h agree asked = live (state_after h) (state_of (taken h)) (rest_after h agree asked)

module _ (h g : History) (agree : AreAgreeing (taken h)) (asked : IsAsked h) (others_asked : IsAsked g) (same : SameOperations (taken h) (taken g)) where
  one : state_of (taken h) ≡ state_of (taken g)
  one = state_of-same (taken h) (taken g) agree same

  rest_h : IsRestOf (state_after h) (state_of (taken h))
  rest_h = rest_after h agree asked

  rest_g : IsRestOf (state_after g) (state_of (taken g))
  rest_g = rest_after g (others_agree (taken h) (taken g) agree same) others_asked

  rows_alike : live_rows (state_after h) ≡ live_rows (state_after g)
  rows_alike = live (state_after h) (state_of (taken h)) rest_h ∙ ap live_rows one ∙ sym (live (state_after g) (state_of (taken g)) rest_g)

  forgotten_alike : forgotten (state_after h) ≡ forgotten (state_after g)
  forgotten_alike = least (state_after h) (state_of (taken h)) rest_h ∙ ap forgotten one ∙ sym (least (state_after g) (state_of (taken g)) rest_g)

  answers_alike : (table : Table) (query : QueryShape) → answer_of table query (state_after h) ≡ answer_of table query (state_after g)
  answers_alike table query = answers (state_after h) (state_of (taken h)) table query rest_h ∙ ap (answer_of table query) one ∙ sym (answers (state_after g) (state_of (taken g)) table query rest_g)

pub histories : ForgetHistoryLaws
histories = record {
  rest = rest_after;
  live = live_after;
  same_rows = rows_alike;
  same_answers = λ h g table query agree asked others_asked same. answers_alike h g agree asked others_asked same table query;
  same_forgotten = forgotten_alike;
}
