-- What goes with some names and what goes with others are apart if no name goes both ways; so partial answers of shares are combined.
use Rattle.std.specs.Prelude.{◌≡◌, ◌≤◌, ℕ, zero, suc, Bool, true, false, cond, not, ◌==◌, ◌&&◌, ◌||◌, List, length, Option, Some, None, is_some, map as each}
use Rattle.std.proofs.Common.{refl, sym, ap, subst, ◌∙◌, arith}
use Rattle.std.proofs.lemmas.Bool.{false≢true, and_parts, leb-true, eqb-true}
use Rattle.std.specs.FinMap as map
use Rattle.std.specs.FinSet as set
use Rattle.table_model.specs.Meaning.{answer_of}
use Rattle.table_model.specs.Query.{QueryShape}
use Rattle.table_model.specs.State.{State}
use Rattle.table_model.specs.Table.{Table}
use Rattle.table_model.specs.declared.names.BatchName.{BatchName}
use Rattle.table_model.specs.declared.names.RowName.{RowName}
use Rattle.table_model.proofs.NameOrder.{names_total}
use Rattle.partial_answers.specs.Between.{is_between}
use Rattle.partial_answers.specs.Counted.{Counted, held_of, strays_of, counted_of, gathered, may_be_combined, combined_with, if_apart}
use Rattle.partial_answers.specs.PartialAnswer.{finish}
use Rattle.partial_answers.specs.PartialAnswerLaws.{Apart, AreApart}
use Rattle.partial_answers.proofs.FirstBetween.{none_combined}
use Rattle.partial_answers.proofs.Names.{found_row, counted_laws}
use Rattle.replica_store.specs.Replica.{names_of}
use Rattle.table_spread.specs.Spread.{share_at, of_names, share_of}
use Rattle.table_spread.specs.SpreadLaws.{shares_up_to}
use Rattle.table_spread.proofs.Shares.{get-of_names, contains-of_names, join-of_names, goes_up_to, joined_up_to, joined_all, up_to_more}

one_of : (a b : Bool) → (a || b) ≡ true → (C : Type 0) → (a ≡ true → C) → (b ≡ true → C) → C
one_of true b e C f g = f refl
one_of false b e C f g = g e

given : {X : Type 0} (b : Bool) (o : Option X) (x : X) → cond b o None ≡ Some x → b ≡ true
given true o x e = refl
given false o x e = cc

there : {X : Type 0} (b : Bool) (o : Option X) → is_some (cond b o None) ≡ true → b ≡ true
there true o e = refl
there false o e = absurd (false≢true e)

contains-held : (s : State) (q : BatchName) → set.contains (held_of s) q ≡ is_some (map.get s.batches q)
unfolding held_of
contains-held s q = set.contains-from_list names_total (map.keys s.batches) q ∙ sym (map.contains_key-keys s.batches q)

module _ (p : BatchName → Bool) (s : State) where
  -- a batch that is there has one of the names
  held_goes : (q : BatchName) → set.contains (held_of (of_names p s)) q ≡ true → p q ≡ true
  held_goes q h = there (p q) (map.get s.batches q) (ap is_some (sym (get-of_names p s q)) ∙ sym (contains-held (of_names p s) q) ∙ h)

  -- and so has one of which a row is deleted
  deleted_goes : (r : RowName) → set.contains (of_names p s).deleted r ≡ true → p r.batch ≡ true
  deleted_goes r h = (and_parts (p r.batch) (set.contains s.deleted r) (sym (contains-of_names p s r) ∙ h)).0

  stray_goes : (q : BatchName) → set.contains (strays_of (of_names p s)) q ≡ true → p q ≡ true
  unfolding strays_of
  stray_goes q h =
      let t : State = of_names p s in
      let rows : List RowName = set.items t.deleted in
      let batches : List BatchName = batches_of rows in
      let both = and_parts (set.contains (set.from_list batches) q) (not (set.contains (held_of t) q)) (sym (set.contains-difference names_total (set.from_list batches) (held_of t) q) ∙ h) in
      let found = found_row rows q (sym (set.contains-from_list names_total batches q) ∙ both.0) in
      subst (λ (name : BatchName). p name ≡ true) (sym found.1.1) (deleted_goes found.0 (set.contains-items t.deleted found.0 ∙ found.1.0))
    where
      batches_of : List RowName → List BatchName
      batches_of rows = each (λ (row : RowName). row.batch) rows

-- names that go both ways
abbrev AreOthers : (BatchName → Bool) → (BatchName → Bool) → Type 0
AreOthers p q = (name : BatchName) → p name ≡ true → q name ≡ true → ⊥

module _ (p q : BatchName → Bool) (s : State) (others : AreOthers p q) where
  apart_of : Apart (of_names p s) (of_names q s)
  apart_of = record {
    names = λ name a b has at. others name (given (p name) (map.get s.batches name) a (sym (get-of_names p s name) ∙ has)) (given (q name) (map.get s.batches name) b (sym (get-of_names q s name) ∙ at));
    first = λ name rows n has gone. absurd (others name (given (p name) (map.get s.batches name) rows (sym (get-of_names p s name) ∙ has)) (deleted_goes q s (record { batch = name; ordinal = n }) gone));
    second = λ name rows n has gone. absurd (others name (deleted_goes p s (record { batch = name; ordinal = n }) gone) (given (q name) (map.get s.batches name) rows (sym (get-of_names q s name) ∙ has)));
  }

  may : (table : Table) (query : QueryShape) → may_be_combined (counted_of table query (of_names p s)) (counted_of table query (of_names q s)) ≡ true
  may table query = none_combined (counted_of table query (of_names p s)) (counted_of table query (of_names q s)) none
    where
      one : State
      one = of_names p s

      other : State
      other = of_names q s

      none : (name : BatchName) → is_between (counted_of table query one) (counted_of table query other) name ≡ true → ⊥
      none name h =
          one_of (set.contains (held_of one) name && set.contains (held_of other) name) ((set.contains (strays_of one) name && set.contains (held_of other) name) || (set.contains (strays_of other) name && set.contains (held_of one) name)) h ⊥
          (λ e. let both = and_parts (set.contains (held_of one) name) (set.contains (held_of other) name) e in others name (held_goes p s name both.0) (held_goes q s name both.1))
          (λ e. one_of (set.contains (strays_of one) name && set.contains (held_of other) name) (set.contains (strays_of other) name && set.contains (held_of one) name) e ⊥
          (λ f. let both = and_parts (set.contains (strays_of one) name) (set.contains (held_of other) name) f in others name (stray_goes p s name both.0) (held_goes q s name both.1))
          (λ f. let both = and_parts (set.contains (strays_of other) name) (set.contains (held_of one) name) f in others name (held_goes p s name both.1) (stray_goes q s name both.0)))

-- ---- shares
module _ (firsts : List BatchName) (s : State) where
  -- whether a name goes to the share after the first ones
  abbrev goes_next : ℕ → BatchName → Bool
  goes_next n name = share_at firsts (names_of s.batches) name == suc n

  others : (n : ℕ) → AreOthers (goes_up_to firsts s n) (goes_next n)
  others n name before next =
      let few = leb-true (share_at firsts (names_of s.batches) name) n before in
      let is = eqb-true (share_at firsts (names_of s.batches) name) (suc n) next in
      omega (arith, few, is)

  pub are_apart : (n : ℕ) → AreApart (shares_up_to firsts s n)
  are_apart zero = tt
  are_apart (suc n) = (are_apart n, tt, subst (λ (t : State). Apart t (share_of firsts (suc n) s)) (sym (joined_up_to firsts s n)) (apart_of (goes_up_to firsts s n) (goes_next n) s (others n)))

  module _ (table : Table) (query : QueryShape) where
    gathered_up_to : (n : ℕ) → gathered table query (shares_up_to firsts s n) ≡ Some (counted_of table query (of_names (goes_up_to firsts s n) s))
    gathered_up_to zero = ap (λ (t : State). Some (counted_of table query t)) (joined_up_to firsts s 0)
    gathered_up_to (suc n) =
        let before : State = of_names (goes_up_to firsts s n) s in
        let next : State = share_of firsts (suc n) s in
        let free = may (goes_up_to firsts s n) (goes_next n) s (others n) table query in
        ap (λ (o : Option Counted). if_apart o (Some (counted_of table query next))) (gathered_up_to n)
        ∙ ap (λ b. cond b (Some (combined_with (counted_of table query before) (counted_of table query next))) None) free
        ∙ ap Some (counted_laws.counted table query before next free)
        ∙ ap (λ (t : State). Some (counted_of table query t)) (join-of_names (goes_up_to firsts s n) (goes_next n) s ∙ ap (λ (goes : BatchName → Bool). of_names goes s) (λ i name. up_to_more (share_at firsts (names_of s.batches) name) n i))

    pub gathers : (n : ℕ) → length firsts ≤ n → gathered table query (shares_up_to firsts s n) ≡ Some (counted_of table query s)
    gathers n le = gathered_up_to n ∙ ap (λ (t : State). Some (counted_of table query t)) (sym (joined_up_to firsts s n) ∙ joined_all firsts s n le)

    pub answers : (n : ℕ) (c : Counted) → length firsts ≤ n → gathered table query (shares_up_to firsts s n) ≡ Some c → finish table query c.partial ≡ answer_of table query s
    answers n c le is = counted_laws.answers table query (shares_up_to firsts s n) c is ∙ ap (answer_of table query) (joined_all firsts s n le)
