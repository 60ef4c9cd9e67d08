-- What a share has.
use Rattle.std.specs.Prelude.{◌≡◌, ◌≤◌, ℕ, suc, Bool, true, false, cond, ◌==◌, List, [], ◌∷◌, is_some, None}
use Rattle.std.proofs.Common.{refl, sym, ap, ◌∙◌, arith, Less, Equal, Greater}
use Rattle.std.proofs.lemmas.Bool.{false≢true, and_parts, eqb-true}
use Rattle.std.specs.Ordering.{is_lt, ordering_reverse}
use Rattle.std.specs.declared.cmp.Ordering.{Ordering}
use Rattle.std.specs.FinMap as map
use Rattle.std.specs.FinSet as set
use Rattle.table_model.specs.Name.{name_cmp}
use Rattle.table_model.specs.State.{State}
use Rattle.table_model.specs.declared.names.BatchName.{BatchName}
use Rattle.table_model.specs.declared.names.RowName.{RowName}
use Rattle.table_model.proofs.NameOrder.{names_total, exact_names}
use Rattle.replica_store.specs.Replica.{names_of}
use Rattle.replica_store.proofs.Names.{contains-names_of}
use Rattle.table_spread.specs.Spread.{run_of, goes_to, share_of}
use Rattle.table_spread.specs.SpreadLaws.{ShareLaws}
use Rattle.table_spread.proofs.Shares.{get-of_names, contains-of_names, share_at-le}

-- a name that isn't above another, which is below a third, is below it
below_too : (a b c : BatchName) (o : Ordering) → name_cmp b a ≡ o → is_lt o ≡ false → name_cmp b c ≡ Less → name_cmp a c ≡ Less
below_too a b c Less e h below = absurd (false≢true (sym h))
below_too a b c Equal e h below = ap (λ (n : BatchName). name_cmp n c) (sym (exact_names b a e)) ∙ below
below_too a b c Greater e h below = names_total.trans a b c (names_total.antisymm a b ∙ ap ordering_reverse e) below

less_is : (o : Ordering) → is_lt o ≡ true → o ≡ Less
less_is Less e = refl
less_is Equal e = absurd (false≢true e)
less_is Greater e = absurd (false≢true e)

runs : (firsts : List BatchName) (a b : BatchName) → is_lt (name_cmp b a) ≡ false → run_of firsts a ≤ run_of firsts b
runs [] a b h = omega arith
runs (first ∷ firsts) a b h =
    elim (is_lt (name_cmp b first)) as (λ below. is_lt (name_cmp b first) ≡ below → cond (is_lt (name_cmp a first)) 0 (suc (run_of firsts a)) ≤ cond below 0 (suc (run_of firsts b))) [
      | true ↦ λ e. none (is_lt (name_cmp a first)) (ap is_lt (below_too a b first (name_cmp b a) refl h (less_is (name_cmp b first) e)))
      | false ↦ λ _. some (is_lt (name_cmp a first)) (runs firsts a b h)
    ] refl
  where
    none : (below : Bool) → below ≡ true → cond below 0 (suc (run_of firsts a)) ≤ 0
    none true e = omega arith
    none false e = absurd (false≢true e)

    some : (below : Bool) → run_of firsts a ≤ run_of firsts b → cond below 0 (suc (run_of firsts a)) ≤ suc (run_of firsts b)
    some true le = omega arith
    some false le = omega (arith, le)

-- a name that goes to a share after the first is held
is_held : (firsts : List BatchName) (held : set.FinSet name_cmp) (index : ℕ) (name : BatchName) → goes_to firsts held (suc index) name ≡ true → set.contains held name ≡ true
is_held firsts held index name goes =
    elim (set.contains held name) as (λ b. cond b (run_of firsts name) 0 == suc index ≡ true → b ≡ true) [
      | true ↦ λ _. refl
      | false ↦ λ e. let never = eqb-true 0 (suc index) e in absurd (omega (arith, never))
    ] goes

strays : (firsts : List BatchName) (s : State) (index : ℕ) (row : RowName) → set.contains (share_of firsts (suc index) s).deleted row ≡ true → map.contains_key (share_of firsts (suc index) s).batches row.batch ≡ true
strays firsts s index row has =
    let goes = (and_parts (goes_to firsts (names_of s.batches) (suc index) row.batch) (set.contains s.deleted row) (sym (contains-of_names (goes_to firsts (names_of s.batches) (suc index)) s row) ∙ has)).0 in
    ap is_some (get-of_names (goes_to firsts (names_of s.batches) (suc index)) s row.batch)
    ∙ ap (λ b. is_some (cond b (map.get s.batches row.batch) None)) goes
    ∙ sym (contains-names_of s.batches row.batch) ∙ is_held firsts (names_of s.batches) index row.batch goes

pub share_facts : ShareLaws
share_facts = record {
  batches = λ firsts s index name. get-of_names (goes_to firsts (names_of s.batches) index) s name;
  deletions = λ firsts s index row. contains-of_names (goes_to firsts (names_of s.batches) index) s row;
  some_share = share_at-le;
  runs = runs;
  strays = strays;
}
