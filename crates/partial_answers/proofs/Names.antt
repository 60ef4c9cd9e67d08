-- What the names that a partial answer counted tell of the states.
use Rattle.std.specs.Prelude.{◌≡◌, Bool, true, false, cond, ◌&&◌, ◌||◌, not, List, [], ◌∷◌, map as each, is_some, Option, Some, None}
use Rattle.std.proofs.Common.{refl, sym, ap, subst, ◌∙◌, arith}
use Rattle.std.proofs.lemmas.Bool.{and_parts, or_right, false≢true}
use Rattle.std.proofs.lemmas.Int.{ints}
use Rattle.std.specs.List.{list_any, list_all}
use Rattle.std.specs.Ordering.{eq_by_cmp, is_eq}
use Rattle.std.specs.Cmp.{both_ways, tied_itself}
use Rattle.std.specs.FinMap as map
use Rattle.std.specs.FinSet as set
use Rattle.table_model.specs.Name.{name_cmp, row_name_cmp}
use Rattle.table_model.specs.Query.{QueryShape}
use Rattle.table_model.specs.State.{State, Batch, join}
use Rattle.table_model.specs.Table.{Table}
use Rattle.table_model.specs.declared.names.BatchName.{BatchName}
use Rattle.table_model.specs.declared.names.RowName.{RowName}
use Rattle.table_model.proofs.Joins.{or_else, get-union}
use Rattle.table_model.proofs.NameOrder.{names_total, exact_names, row_names_total}
use Rattle.table_model.proofs.Operations.{same_name, same_row_name, itself}
use Rattle.partial_answers.specs.PartialAnswer.{finish}
use Rattle.partial_answers.specs.PartialAnswerLaws.{LeavesAlone, Apart, Shards, One, Two, joined}
use Rattle.partial_answers.specs.Counted.{Names, Counted, held_of, strays_of, counted_of, have_none_in_common, may_be_combined, combined_with, if_apart, gathered, CountedLaws}
use Rattle.partial_answers.proofs.Whole.{partials, alone}

contains-held : (s : State) (q : BatchName) → set.contains (held_of s) q ≡ is_some (map.get s.batches q)
unfolding held_of
contains-held s q = set.contains-from_list names_total (map.keys s.batches) q ∙ sym (map.contains_key-keys s.batches q)

is_held : (s : State) (q : BatchName) (rows : Batch) → map.get s.batches q ≡ Some rows → set.contains (held_of s) q ≡ true
is_held s q rows e = contains-held s q ∙ ap is_some e

-- the batches of which a state deletes rows
abbrev deleted_from : State → List BatchName
deleted_from s = each (λ (row : RowName). row.batch) (set.items s.deleted)

contains-strays : (s : State) (q : BatchName) → set.contains (strays_of s) q ≡ (list_any (eq_by_cmp name_cmp q) (deleted_from s) && not (set.contains (held_of s) q))
unfolding strays_of
contains-strays s q =
    set.contains-difference names_total (set.from_list (deleted_from s)) (held_of s) q
    ∙ ap (λ b. b && not (set.contains (held_of s) q)) (set.contains-from_list names_total (deleted_from s) q)

-- a deleted row's batch is among those
pub row_of : (rows : List RowName) (q : RowName) → list_any (eq_by_cmp row_name_cmp q) rows ≡ true → list_any (eq_by_cmp name_cmp q.batch) (each (λ (row : RowName). row.batch) rows) ≡ true
row_of [] q h = h
row_of (row ∷ rows) q h =
    elim (eq_by_cmp row_name_cmp q row) as (λ b. eq_by_cmp row_name_cmp q row ≡ b → (b || list_any (eq_by_cmp row_name_cmp q) rows) ≡ true → (eq_by_cmp name_cmp q.batch row.batch || list_any (eq_by_cmp name_cmp q.batch) (each (λ (r : RowName). r.batch) rows)) ≡ true) [
      | true ↦ λ tied _. ap (λ b. b || list_any (eq_by_cmp name_cmp q.batch) (each (λ (r : RowName). r.batch) rows)) (ap (λ (r : RowName). eq_by_cmp name_cmp q.batch r.batch) (sym (same_row_name q row tied)) ∙ itself q.batch)
      | false ↦ λ _ rest. or_right (eq_by_cmp name_cmp q.batch row.batch) _ (row_of rows q rest)
    ] refl h

deleted_there : (s : State) (q : RowName) → set.contains s.deleted q ≡ true → list_any (eq_by_cmp name_cmp q.batch) (deleted_from s) ≡ true
deleted_there s q h = row_of (set.items s.deleted) q (sym (set.contains-items s.deleted q) ∙ h)

-- a batch of deleted rows has one of them
pub found_row : (rows : List RowName) (q : BatchName) → list_any (eq_by_cmp name_cmp q) (each (λ (row : RowName). row.batch) rows) ≡ true → (r : RowName) × ((list_any (eq_by_cmp row_name_cmp r) rows ≡ true) × (q ≡ r.batch))
found_row [] q h = absurd (false≢true h)
found_row (row ∷ rows) q h =
    elim (eq_by_cmp name_cmp q row.batch) as (λ b. eq_by_cmp name_cmp q row.batch ≡ b → (b || list_any (eq_by_cmp name_cmp q) (each (λ (r : RowName). r.batch) rows)) ≡ true → (r : RowName) × ((list_any (eq_by_cmp row_name_cmp r) (row ∷ rows) ≡ true) × (q ≡ r.batch))) [
      | true ↦ λ tied _. (row, (ap (λ b. b || list_any (eq_by_cmp row_name_cmp row) rows) (itself_row row), same_name q row.batch tied))
      | false ↦ λ _ rest. let found = found_row rows q rest in (found.0, (or_right (eq_by_cmp row_name_cmp found.0 row) _ found.1.0, found.1.1))
    ] refl h
  where
    itself_row : (r : RowName) → eq_by_cmp row_name_cmp r r ≡ true
    itself_row r = ap is_eq (tied_itself row_names_total r)

or_first : (a b : Bool) → a ≡ true → (a || b) ≡ true
or_first a b e = ap (λ c. c || b) e

one_of : (a b : Bool) → (a || b) ≡ true → (C : Type 0) → (a ≡ true → C) → (b ≡ true → C) → C
one_of true b e C f g = f refl
one_of false b e C f g = g e

-- the batches of which a join deletes rows are those of both
deleted-join : (s t : State) (q : BatchName) → list_any (eq_by_cmp name_cmp q) (deleted_from (join s t)) ≡ (list_any (eq_by_cmp name_cmp q) (deleted_from s) || list_any (eq_by_cmp name_cmp q) (deleted_from t))
deleted-join s t q =
    let both : Bool = list_any (eq_by_cmp name_cmp q) (deleted_from (join s t)) in
    let first : Bool = list_any (eq_by_cmp name_cmp q) (deleted_from s) in
    let second : Bool = list_any (eq_by_cmp name_cmp q) (deleted_from t) in
    both_ways both (first || second)
    (λ h.
    let found = found_row (set.items (set.union s.deleted t.deleted)) q h in
    let r : RowName = found.0 in
    let there : (set.contains s.deleted r || set.contains t.deleted r) ≡ true = sym (set.contains-union row_names_total s.deleted t.deleted r) ∙ set.contains-items (set.union s.deleted t.deleted) r ∙ found.1.0 in
    subst (λ (n : BatchName). (list_any (eq_by_cmp name_cmp n) (deleted_from s) || list_any (eq_by_cmp name_cmp n) (deleted_from t)) ≡ true) (sym found.1.1)
    (one_of (set.contains s.deleted r) (set.contains t.deleted r) there ((list_any (eq_by_cmp name_cmp r.batch) (deleted_from s) || list_any (eq_by_cmp name_cmp r.batch) (deleted_from t)) ≡ true)
    (λ e. or_first _ _ (deleted_there s r e)) (λ e. or_right (list_any (eq_by_cmp name_cmp r.batch) (deleted_from s)) _ (deleted_there t r e))))
    (λ h. one_of first second h (both ≡ true)
    (λ e. let found = found_row (set.items s.deleted) q e in
    let r : RowName = found.0 in
    subst (λ (n : BatchName). list_any (eq_by_cmp name_cmp n) (deleted_from (join s t)) ≡ true) (sym found.1.1)
    (deleted_there (join s t) r (set.contains-union row_names_total s.deleted t.deleted r ∙ or_first _ _ (set.contains-items s.deleted r ∙ found.1.0))))
    (λ e. let found = found_row (set.items t.deleted) q e in
    let r : RowName = found.0 in
    subst (λ (n : BatchName). list_any (eq_by_cmp name_cmp n) (deleted_from (join s t)) ≡ true) (sym found.1.1)
    (deleted_there (join s t) r (set.contains-union row_names_total s.deleted t.deleted r ∙ or_right (set.contains s.deleted r) _ (set.contains-items t.deleted r ∙ found.1.0)))))

-- a batch of which rows are deleted and which neither holds is a stray of one of the two
strays_both : (ds dt hs ht : Bool) → ((ds && not hs) ≡ true → ht ≡ false) → ((dt && not ht) ≡ true → hs ≡ false) → ((ds || dt) && not (hs || ht)) ≡ ((ds && not hs) || (dt && not ht))
strays_both true true true true f g = refl
strays_both true false true true f g = refl
strays_both true true true false f g = absurd (false≢true (sym (g refl)))
strays_both true false true false f g = refl
strays_both true dt false true f g = absurd (false≢true (sym (f refl)))
strays_both true dt false false f g = refl
strays_both false true true true f g = refl
strays_both false true true false f g = absurd (false≢true (sym (g refl)))
strays_both false true false true f g = refl
strays_both false true false false f g = refl
strays_both false false hs ht f g = refl

-- ---- none in common
none_of : (ks : List BatchName) (t : Names) (q : BatchName) → list_all (λ name. not (set.contains t name)) ks ≡ true → list_any (eq_by_cmp name_cmp q) ks ≡ true → set.contains t q ≡ false
none_of [] t q all here = absurd (false≢true here)
none_of (k ∷ ks) t q all here =
    let each_of = and_parts (not (set.contains t k)) (list_all (λ name. not (set.contains t name)) ks) all in
    elim (eq_by_cmp name_cmp q k) as (λ b. eq_by_cmp name_cmp q k ≡ b → (b || list_any (eq_by_cmp name_cmp q) ks) ≡ true → set.contains t q ≡ false) [
      | true ↦ λ tied _. ap (set.contains t) (same_name q k tied) ∙ opposite (set.contains t k) each_of.0
      | false ↦ λ _ rest. none_of ks t q each_of.1 rest
    ] refl here
  where
    opposite : (b : Bool) → not b ≡ true → b ≡ false
    opposite true e = sym e
    opposite false e = refl

in_one : (s t : Names) (q : BatchName) → have_none_in_common s t ≡ true → set.contains s q ≡ true → set.contains t q ≡ false
unfolding have_none_in_common
in_one s t q none here = none_of (set.items s) t q none (sym (set.contains-items s q) ∙ here)

never : (b : Bool) → b ≡ true → b ≡ false → ⊥
never b e f = false≢true (sym f ∙ e)

falls : (b : Bool) → (b ≡ true → ⊥) → b ≡ false
falls true h = absurd (h refl)
falls false h = refl

-- ---- states whose partial answers may be combined
module _ (table : Table) (query : QueryShape) (s t : State) where
  abbrev ours : Counted
  ours = counted_of table query s

  abbrev theirs : Counted
  theirs = counted_of table query t

  -- a state leaves alone a batch that it doesn't hold, unless that is one of its strays
  leaves : (a b : State) → have_none_in_common (held_of a) (held_of b) ≡ true → have_none_in_common (strays_of b) (held_of a) ≡ true → LeavesAlone a b
  leaves a b held strays name rows n has gone =
      let here : set.contains (held_of a) name ≡ true = is_held a name rows has in
      let stray : set.contains (strays_of b) name ≡ true =
      contains-strays b name ∙ (λ i. deleted_there b (record { batch = name; ordinal = n }) gone i && not (in_one (held_of a) (held_of b) name held here i)) in
      absurd (never (set.contains (held_of a) name) here (in_one (strays_of b) (held_of a) name strays stray))

  turned : (a b : Names) → have_none_in_common a b ≡ true → (q : BatchName) → set.contains b q ≡ true → set.contains a q ≡ false
  turned a b none q here = falls (set.contains a q) (λ there. never (set.contains b q) here (in_one a b q none there))

  module _ (may : may_be_combined ours theirs ≡ true) where
    first_two : (have_none_in_common (held_of s) (held_of t) ≡ true) × ((have_none_in_common (strays_of s) (held_of t) && have_none_in_common (strays_of t) (held_of s)) ≡ true)
    first_two = and_parts (have_none_in_common (held_of s) (held_of t)) (have_none_in_common (strays_of s) (held_of t) && have_none_in_common (strays_of t) (held_of s)) may

    last_two : (have_none_in_common (strays_of s) (held_of t) ≡ true) × (have_none_in_common (strays_of t) (held_of s) ≡ true)
    last_two = and_parts (have_none_in_common (strays_of s) (held_of t)) (have_none_in_common (strays_of t) (held_of s)) first_two.1

    leaves-second : LeavesAlone t s
    leaves-second name rows n has gone =
        let here : set.contains (held_of t) name ≡ true = is_held t name rows has in
        let stray : set.contains (strays_of s) name ≡ true =
        contains-strays s name ∙ (λ i. deleted_there s (record { batch = name; ordinal = n }) gone i && not (turned (held_of s) (held_of t) first_two.0 name here i)) in
        absurd (never (set.contains (held_of t) name) here (in_one (strays_of s) (held_of t) name last_two.0 stray))

    pub are_apart : Apart s t
    are_apart = record {
      names = λ name a b has at. never (set.contains (held_of t) name) (is_held t name b at) (in_one (held_of s) (held_of t) name first_two.0 (is_held s name a has));
      first = leaves s t first_two.0 last_two.1;
      second = leaves-second;
    }

    held-join : set.union (held_of s) (held_of t) ≡ held_of (join s t)
    held-join = set.same_set names_total exact_names _ _ (λ q.
        set.contains-union names_total (held_of s) (held_of t) q
        ∙ (λ i. contains-held s q i || contains-held t q i)
        ∙ some_either (map.get s.batches q) (map.get t.batches q)
        ∙ sym (contains-held (join s t) q ∙ ap is_some (get-union s.batches t.batches q)))
      where
        some_either : (a b : Option Batch) → (is_some a || is_some b) ≡ is_some (or_else a b)
        some_either None b = refl
        some_either (Some x) b = refl

    strays-join : set.union (strays_of s) (strays_of t) ≡ strays_of (join s t)
    strays-join = set.same_set names_total exact_names _ _ (λ q.
        set.contains-union names_total (strays_of s) (strays_of t) q
        ∙ (λ i. contains-strays s q i || contains-strays t q i)
        ∙ sym (strays_both (list_any (eq_by_cmp name_cmp q) (deleted_from s)) (list_any (eq_by_cmp name_cmp q) (deleted_from t)) (set.contains (held_of s) q) (set.contains (held_of t) q)
        (λ stray. in_one (strays_of s) (held_of t) q last_two.0 (contains-strays s q ∙ stray))
        (λ stray. in_one (strays_of t) (held_of s) q last_two.1 (contains-strays t q ∙ stray)))
        ∙ sym (contains-strays (join s t) q
        ∙ (λ i. deleted-join s t q i && not ((ap (λ (n : Names). set.contains n q) (sym held-join) ∙ set.contains-union names_total (held_of s) (held_of t) q) i))))

    pub counted : combined_with ours theirs ≡ counted_of table query (join s t)
    counted = λ i. record { partial = sym (partials table query s t are_apart) i; held = held-join i; strays = strays-join i }

  shared : (name : BatchName) (a b : Batch) → map.get s.batches name ≡ Some a → map.get t.batches name ≡ Some b → may_be_combined ours theirs ≡ false
  shared name a b has at =
      let none : have_none_in_common (held_of s) (held_of t) ≡ false = falls _ (λ free. never (set.contains (held_of t) name) (is_held t name b at) (in_one (held_of s) (held_of t) name free (is_held s name a has))) in
      ap (λ c. c && (have_none_in_common (strays_of s) (held_of t) && have_none_in_common (strays_of t) (held_of s))) none

-- ---- trees
one_value : (x y : Counted) → Some x ≡ Some y → x ≡ y
one_value x y e = cc

module _ (table : Table) (query : QueryShape) where
  two : (s t : State) (a b : Option Counted) (c : Counted) → ((x : Counted) → a ≡ Some x → x ≡ counted_of table query s) → ((x : Counted) → b ≡ Some x → x ≡ counted_of table query t) → if_apart a b ≡ Some c → c ≡ counted_of table query (join s t)
  two s t None b c f g e = cc
  two s t (Some p) None c f g e = cc
  two s t (Some p) (Some q) c f g e =
      let first = f p refl in
      let second = g q refl in
      elim (may_be_combined p q) as (λ b. may_be_combined p q ≡ b → cond b (Some (combined_with p q)) None ≡ Some c → c ≡ counted_of table query (join s t)) [
        | true ↦ λ may is.
            sym (one_value (combined_with p q) c is)
            ∙ (λ i. combined_with (first i) (second i))
            ∙ counted table query s t (sym (λ i. may_be_combined (first i) (second i)) ∙ may)
        | false ↦ λ may is. cc
      ] refl e

  gathers : (shards : Shards) (c : Counted) → gathered table query shards ≡ Some c → c ≡ counted_of table query (joined shards)
  gathers (One s) c e = sym (one_value (counted_of table query s) c e)
  gathers (Two a b) c e = two (joined a) (joined b) (gathered table query a) (gathered table query b) c (gathers a) (gathers b) e

pub counted_laws : CountedLaws
counted_laws = record {
  apart = are_apart;
  counted = counted;
  shared = shared;
  gathers = gathers;
  answers = λ table query shards c e. ap (λ (x : Counted). finish table query x.partial) (gathers table query shards c e) ∙ alone table query (joined shards);
  sums = λ n z le h. (omega (arith, ints, h.0, h.1), omega (arith, ints, h.0, h.1));
}
