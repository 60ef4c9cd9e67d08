-- The least name that summaries have and that was not counted.
use Rattle.std.proofs.Common.{◌≡◌, ℕ, Bool, true, false, cond, ◌&&◌, ◌||◌, not, List, [], ◌∷◌, Option, Some, None, refl, sym, ap, ◌∙◌}
use Rattle.std.specs.Prelude.{slice_get}
use Rattle.std.proofs.lemmas.Bool.{false≢true, or_right}
use Rattle.std.specs.FinSet as set
use Rattle.std.specs.List.{filter, list_any}
use Rattle.std.specs.Ordering.{eq_by_cmp}
use Rattle.table_model.specs.Name.{name_cmp}
use Rattle.table_model.specs.declared.names.BatchName.{BatchName}
use Rattle.table_model.proofs.NameOrder.{names_total}
use Rattle.catalogue_join.specs.Held.{IsListOf}
use Rattle.replica_store.specs.Exchange.{SummaryForm}
use Rattle.partial_answers.specs.Between.{first_of, IsFirstShared}
use Rattle.partial_answers.specs.Counted.{Names}
use Rattle.partial_answers.proofs.SharedNames.{first_is, itself}
use Rattle.partial_commands.specs.Expecting.{IsFirstMissing, is_expected}

-- a filter keeps a list whose items all pass
filter_kept : (p : BatchName → Bool) (xs : List BatchName) → ((q : BatchName) → list_any (eq_by_cmp name_cmp q) xs ≡ true → p q ≡ true) → filter p xs ≡ xs
filter_kept p [] inside = refl
filter_kept p (x ∷ xs) inside =
    let here : p x ≡ true = inside x (ap (λ (b : Bool). b || list_any (eq_by_cmp name_cmp x) xs) (itself x)) in
    ap (λ (b : Bool). cond b (x ∷ filter p xs) (filter p xs)) here ∙ ap (λ (ys : List BatchName). x ∷ ys) (filter_kept p xs (λ q k. inside q (or_right (eq_by_cmp name_cmp q x) _ k)))

first_at : (xs : List BatchName) → slice_get xs 0 ≡ first_of xs
first_at [] = refl
first_at (x ∷ xs) = refl

-- expected and not counted
named_part : (e h : Bool) → (e && not h) ≡ true → e ≡ true
named_part true h k = refl
named_part false h k = absurd (false≢true k)

uncounted_part : (e h : Bool) → (e && not h) ≡ true → h ≡ false
uncounted_part true false k = refl
uncounted_part true true k = absurd (false≢true k)
uncounted_part false h k = absurd (false≢true k)

counted_else : (e h : Bool) → e ≡ true → ((e && not h) ≡ true → ⊥) → h ≡ true
counted_else true true k none = refl
counted_else true false k none = absurd (none refl)
counted_else false h k none = absurd (false≢true k)

module _ (names held : Names) (expected : List SummaryForm) (has : (q : BatchName) → set.contains names q ≡ is_expected expected q) where
  missing : (q : BatchName) → set.contains (set.difference names held) q ≡ (is_expected expected q && not (set.contains held q))
  missing q = set.contains-difference names_total names held q ∙ ap (λ (b : Bool). b && not (set.contains held q)) (has q)

  of_shared : (o : Option BatchName) → IsFirstShared (set.difference names held) (set.difference names held) o → IsFirstMissing held expected o
  of_shared None none = λ name named.
      counted_else (is_expected expected name) (set.contains held name) named (λ both. let is = missing name ∙ both in none name is is)
  of_shared (Some name) least = record {
    named = named_part (is_expected expected name) (set.contains held name) (sym (missing name) ∙ least.first);
    uncounted = uncounted_part (is_expected expected name) (set.contains held name) (sym (missing name) ∙ least.first);
    least = λ other named uncounted less. let is = missing other ∙ (λ i. named i && not (uncounted i)) in least.least other is is less;
  }

  -- the first of the names that are expected without those that were counted
  pub first_missing_is : (listed : List BatchName) (o : Option BatchName) → IsListOf listed (set.difference names held) → o ≡ slice_get listed 0 → IsFirstMissing held expected o
  first_missing_is listed o l is =
      let gone : Names = set.difference names held in
      let inside : (q : BatchName) → list_any (eq_by_cmp name_cmp q) listed ≡ true → set.contains gone q ≡ true =
      λ q k. sym (ap (λ (s : Names). set.contains s q) l.same) ∙ set.contains-from_list names_total listed q ∙ k in
      of_shared o (first_is gone gone listed o l (is ∙ first_at listed ∙ ap first_of (sym (filter_kept (set.contains gone) listed inside))))
