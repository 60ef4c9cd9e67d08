-- Why a partial answer is not finished, from one set function to all groups.
use Rattle.std.proofs.Common.{◌≡◌, ◌≢◌, ◌⊎◌, inl, inr, true, false, cond, ℕ, ◌≤◌, ◌*◌, ◌^◌, List, [], ◌∷◌, length, map, Some, None, Result, Ok, Err, ℤ, pos, refl, sym, ap, subst, ◌∙◌, arith}
use Rattle.std.specs.Prelude.{slice_get}
use Rattle.std.specs.BTreeMap.{IsOrdered, get, is_at}
use Rattle.std.specs.FinMap as finite
use Rattle.std.specs.Global.{Vec}
use Rattle.std.specs.List.Sorted.{IsStrictlySortedBy}
use Rattle.std.specs.Map.{lookup}
use Rattle.std.specs.Ordering.{eq_by_cmp, int_cmp}
use Rattle.std.specs.String.{string_bytes}
use Rattle.std.proofs.lemmas.Int.{ints}
use Rattle.std.proofs.lemmas.List.{length-map, nil_from_length}
use Rattle.std.proofs.lemmas.Map.Entries.{btree_map_get_place}
use Rattle.table_model.specs.Group.{IsWithin, key_cmp}
use Rattle.table_model.specs.Meaning.{grouping_of, place_of}
use Rattle.table_model.specs.Query.{QueryShape}
use Rattle.table_model.specs.Reading.{◌>>=◌}
use Rattle.table_model.specs.State.{Cells}
use Rattle.table_model.specs.Table.{Table}
use Rattle.table_model.specs.Values.{distinct}
use Rattle.table_model.specs.declared.answer.Field.TheVariants.{Whole}
use Rattle.table_model.specs.declared.query.Fold.TheVariants as fold
use Rattle.table_model.specs.declared.refusal.Refusal.{Refusal}
use Rattle.table_model.specs.declared.refusal.Refusal.TheVariants as refused
use Rattle.table_model.proofs.Bounds.{length-distinct}
use Rattle.table_model.proofs.Keys.{key_total}
use Rattle.query_parser.specs.Descent.{query_of}
use Rattle.query_parser.specs.Resolve.{resolved}
use Rattle.query_eval.specs.Finished.{PlanShape, plan_of}
use Rattle.query_eval.specs.declared.tallies.aggregate.Aggregate.{Aggregate}
use Rattle.partial_answers.specs.Kept.{tally_in}
use Rattle.partial_answers.specs.Measures.{measures_of}
use Rattle.partial_answers.specs.PartialAnswer.{Seen, set_of}
use Rattle.partial_answers.specs.Refusing.{KeptGroups, RefusesUnless}
use Rattle.partial_answers.specs.Shape.{AreOfShape, IsOfShape, measure_kind, CanFinish, HaveShape, IsShaped, AllCanFinish, IsNoQueryOf, RefusesFinishing, RefusesText}
use Rattle.partial_answers.specs.declared.fault.PartialAnswerFault.{PartialAnswerFault}
use Rattle.partial_answers.specs.declared.fault.PartialAnswerFault.TheVariants.{Memory, TooMany, Query}
use Rattle.partial_answers.specs.declared.kept.Kept.{Kept}
use Rattle.partial_answers.specs.declared.kept.Kept.TheVariants.{Count, Sum, Least, Greatest, Distinct}
use Rattle.partial_answers.specs.declared.partial_answer.PartialAnswer.{PartialAnswer as CodePartialAnswer}
use Rattle.partial_answers.proofs.Combined.{one_key}
use Rattle.partial_answers.proofs.Refusing.{refuses_by}
use Rattle.partial_answers.proofs.RisingSets.{fold-rising}
use Rattle.partial_answers.proofs.Tallies.{fold-set_of, set_of-none}

-- ---- one set function
nothing_within : (k : ℕ) → IsWithin k (pos 0)
nothing_within k = (omega (arith, ints), omega (arith, ints))

-- a sum that can be finished is within what as many values come to
pub sum_within : (k : Kept) → CanFinish k → IsWithin ((tally_in k).count * 2 ^ 63) (tally_in k).sum
sum_within (Count n) can = nothing_within _
sum_within (Sum sums) can = can
sum_within (Least o) can = nothing_within _
sum_within (Greatest o) can = nothing_within _
sum_within (Distinct values) can = nothing_within _

-- the numbers of two counts
counted : (m n : ℕ) → Whole (pos m) ≡ Whole (pos n) → m ≡ n
counted m n e = cc

-- values that rise are as many as their set has
many-rising : (xs ys : List ℤ) → IsStrictlySortedBy int_cmp xs → set_of xs ≡ set_of ys → length xs ≡ length (distinct ys)
many-rising xs ys up same =
    counted (length xs) (length (distinct ys)) (sym (fold-rising fold.Count xs up) ∙ ap (λ (s : Seen). Whole (pos (length (finite.keys s)))) same ∙ fold-set_of fold.Count ys)

few-rising : (xs ys : List ℤ) → IsStrictlySortedBy int_cmp xs → set_of xs ≡ set_of ys → length xs ≤ length ys
few-rising xs ys up same = omega (arith, many-rising xs ys up same, length-distinct ys)

no_values : (xs : List ℤ) → IsStrictlySortedBy int_cmp xs → (let s : Seen = finite.empty in set_of xs ≡ s) → length xs ≤ 2 ^ 36
no_values xs up none = omega (arith, few-rising xs [] up (none ∙ sym set_of-none))

-- values that can be finished are few
pub few_values : (k : Kept) (xs : List ℤ) → IsStrictlySortedBy int_cmp xs → set_of xs ≡ (tally_in k).seen → CanFinish k → length xs ≤ 2 ^ 36
few_values (Count n) xs up seen can = no_values xs up seen
few_values (Sum sums) xs up seen can = no_values xs up seen
few_values (Least o) xs up seen can = no_values xs up seen
few_values (Greatest o) xs up seen can = no_values xs up seen
few_values (Distinct values) xs up seen can = omega (arith, few-rising xs values up seen, can)

-- ---- groups
pub only_too_many : (A B C : Type 0) (e : PartialAnswerFault) → (e ≡ TooMany) × (A → ⊥) → (C → A) → RefusesUnless B C e
only_too_many A B C e why f = subst (λ (x : PartialAnswerFault). RefusesUnless B C x) (sym why.0) (λ c. why.1 (f c))

first_there : (es : List (Cells × Vec Kept)) → (length es ≡ 0 → ⊥) → (e : Cells × Vec Kept) × (slice_get es 0 ≡ Some e)
first_there [] some = absurd (some refl)
first_there (x ∷ es) some = (x, refl)

none-some : (v : Vec Kept) → None ≡ Some v → ⊥
none-some v e = cc

one_kept : (v w : Vec Kept) → Some v ≡ Some w → v ≡ w
one_kept v w e = cc

-- a group without a cell is the one of no keys
whole_there : (measures : List Aggregate) (m : KeptGroups) → IsOrdered key_cmp m → (length m.entries ≡ 0 → ⊥) → AreOfShape 0 measures m → get key_cmp m [] ≡ None → ⊥
whole_there measures m up some shaped none =
    let first = first_there m.entries some in
    let at : get key_cmp m first.0.0 ≡ Some first.0.1 = btree_map_get_place key_total m 0 first.0.0 first.0.1 up first.1 in
    let key : first.0.0 ≡ [] = nil_from_length first.0.0 (shaped first.0.0 first.0.1 at).0 in
    none-some first.0.1 (sym none ∙ ap (get key_cmp m) (sym key) ∙ at)

-- no group is at any key of no groups
pub nothing_at : (m : KeptGroups) (k : Cells) → m.entries ≡ [] → get key_cmp m k ≡ None
nothing_at m k none = ap (lookup (is_at (key_cmp k))) none

pub nothing_there : (m : KeptGroups) (k : Cells) (v : Vec Kept) → m.entries ≡ [] → get key_cmp m k ≡ Some v → ⊥
nothing_there m k v none at = none-some v (sym (nothing_at m k none) ∙ at)

-- a group that is taken out has the shape, and the others are left
pub taken_more : (columns : ℕ) (measures : List Aggregate) (key : Cells) (kept : Vec Kept) (old now : KeptGroups) (k : Cells) (v : Vec Kept) → get key_cmp now k ≡ cond (eq_by_cmp key_cmp key k) None (get key_cmp old k)
    → get key_cmp old key ≡ Some kept → IsOfShape columns measures key kept.items → IsOfShape columns measures k v.items ⊎ (get key_cmp old k ≡ Some v) → IsOfShape columns measures k v.items ⊎ (get key_cmp now k ≡ Some v)
taken_more columns measures key kept old now k v is at shaped (inl was) = inl was
taken_more columns measures key kept old now k v is at shaped (inr there) =
    elim (eq_by_cmp key_cmp key k) as (λ b. eq_by_cmp key_cmp key k ≡ b → get key_cmp now k ≡ cond b None (get key_cmp old k) → IsOfShape columns measures k v.items ⊎ (get key_cmp now k ≡ Some v)) [
      | true ↦ λ tied _.
          let same : key ≡ k = one_key key k tied in
          let all : kept ≡ v = one_kept kept v (sym at ∙ ap (get key_cmp old) same ∙ there) in
          inl (subst (λ (e : Cells × Vec Kept). IsOfShape columns measures e.0 e.1.items) (λ i. (same i, all i)) shaped)
      | false ↦ λ _ left. inr (left ∙ there)
    ] refl is

-- no group, where the query has one of no keys
pub no_group : (table : Table) (query : QueryShape) (m : KeptGroups) → length query.grouping ≡ 0 → length m.entries ≡ 0 → HaveShape table query m → ⊥
no_group table query m none empty have = have.whole (ap (map (λ column. place_of table.columns column.name)) (nil_from_length query.grouping none)) (nothing_at m [] (nil_from_length m.entries empty))

-- the columns and measures of a query
module _ (table : Table) (query : QueryShape) (plan : PlanShape) (asked measures : List Aggregate) (columns : ℕ) (m : KeptGroups) (planned : plan ≡ plan_of table.columns query) (all : asked ≡ plan.aggregates) (measured : measures ≡ measures_of asked) (grouped : columns ≡ length query.grouping) where
  measures_are : measures ≡ measures_of (plan_of table.columns query).aggregates
  measures_are = measured ∙ ap measures_of (all ∙ ap (λ (p : PlanShape). p.aggregates) planned)

  placed : length (grouping_of table.columns query) ≡ length query.grouping
  placed = length-map query.grouping (λ column. place_of table.columns column.name)

  -- the groups that a query asks for are of its shape
  pub as_shaped : HaveShape table query m → AreOfShape columns measures m
  as_shaped have k kept at = ((have.groups k kept at).0 ∙ placed ∙ sym grouped, (have.groups k kept at).1 ∙ sym (ap (map measure_kind) measures_are))

  -- and groups of its shape are those that it asks for
  pub have_shape : IsOrdered key_cmp m → (columns ≡ 0 → length m.entries ≡ 0 → ⊥) → AreOfShape columns measures m → HaveShape table query m
  have_shape up some shaped = record {
    groups = λ k kept at. ((shaped k kept at).0 ∙ grouped ∙ sym placed, (shaped k kept at).1 ∙ ap (map measure_kind) measures_are);
    whole = λ none. let zero_columns : columns ≡ 0 = grouped ∙ sym placed ∙ ap length none in
        whole_there measures m up (some zero_columns) (subst (λ (n : ℕ). AreOfShape n measures m) zero_columns shaped);
  }

-- ---- the partial answer
pub text_refuses : (e : Refusal) (f : PartialAnswerFault) (table : Table) (text : List ℕ) → (query_of text ≡ Err e) ⊎ (e ≡ refused.Memory) → (f ≡ Memory) ⊎ ((f ≡ Query e) × (e ≢ refused.Memory)) → RefusesText table text f
text_refuses e f table text read (inl is) = subst (RefusesText table text) (sym is) tt
text_refuses e f table text (inl read) (inr is) = subst (RefusesText table text) (sym is.0) (ap (λ (q : Result QueryShape Refusal). q >>= λ query. resolved table query) read)
text_refuses e f table text (inr lacks) (inr is) = absurd (is.1 lacks)

pub names_refuse : (e : Refusal) (table : Table) (text : List ℕ) (query : QueryShape) → query_of text ≡ Ok query → resolved table query ≡ Err e → RefusesText table text (Query e)
names_refuse e table text query read is = ap (λ (q : Result QueryShape Refusal). q >>= λ query. resolved table query) read ∙ is

pub text_refuses_partial_answer : (e : PartialAnswerFault) (p : CodePartialAnswer) → RefusesText p.schema (string_bytes p.text) e → RefusesFinishing e p
text_refuses_partial_answer e p why =
    let no : Refusal → Type 0 = IsNoQueryOf p.schema (string_bytes p.text) in
    refuses_by no no (Unit {0}) (Unit {0}) (IsShaped p) (AllCanFinish p.groups) e (λ refusal is. is) (λ shaped. tt) (λ small. tt) why

pub groups_refuse_partial_answer : (e : PartialAnswerFault) (p : CodePartialAnswer) (query : QueryShape) → query_of (string_bytes p.text) ≡ Ok query → RefusesUnless (HaveShape p.schema query p.groups) (AllCanFinish p.groups) e → RefusesFinishing e p
groups_refuse_partial_answer e p query is why =
    refuses_by (λ refusal. ⊥) (IsNoQueryOf p.schema (string_bytes p.text)) (HaveShape p.schema query p.groups) (AllCanFinish p.groups) (IsShaped p) (AllCanFinish p.groups) e (λ refusal no. absurd no) (λ shaped. shaped query is) (λ small. small) why

one_query : (q r : QueryShape) → ◌≡◌ {A = Result QueryShape Refusal} (Ok q) (Ok r) → q ≡ r
one_query q r e = cc

-- groups of the shape that the text's query asks for are of the shape of the partial answer
pub shaped_partial_answer : (p : CodePartialAnswer) (query : QueryShape) → query_of (string_bytes p.text) ≡ Ok query → HaveShape p.schema query p.groups → IsShaped p
shaped_partial_answer p query is have other asked = subst (λ (q : QueryShape). HaveShape p.schema q p.groups) (one_query query other (sym is ∙ asked)) have
