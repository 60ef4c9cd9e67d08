-- The worked queries' answers compute, once the keys that occur are known.
use Rattle.std.specs.Prelude.{◌≡◌, ℕ, Bool, true, false, ◌||◌, List, [], ◌∷◌, map, filter, AllPairs, Some, None, pos}
use Rattle.std.specs.FinMap as finite
use Rattle.std.specs.Ordering.{eq_by_cmp}
use Rattle.std.specs.declared.cmp.Ordering.TheVariants.{Less}
use Rattle.std.proofs.Common.{refl, ap, arith}
use Rattle.std.proofs.lemmas.List.Elements.{All-nil, All-cons}
use Rattle.std.proofs.lemmas.List.Kept.{AllPairs-cons}
use Rattle.table_model.specs.Answer.{AnswerParts}
use Rattle.table_model.specs.Group.{key_cmp, keys_in, group_at, groups_of, rows_with, values_in}
use Rattle.table_model.specs.Meaning.{at_group, is_kept, item_value, item_text, answer_over, groups_having, rows_where}
use Rattle.table_model.specs.Query.{QueryShape}
use Rattle.table_model.specs.State.{Cells}
use Rattle.table_model.specs.Worked.{WorkedAnswers, table, rows, by_a, means, none_by_b}
use Rattle.table_model.proofs.KeyLists.{keys_are}

-- the answer of a query, by its groups' keys
abbrev answer_at : QueryShape → List ℕ → List Cells → List Cells → AnswerParts
answer_at query by chosen ks = record {
  heading = map item_text query.items;
  rows = map (λ group. map (λ item. item_value table.columns by group item.value) query.items) (filter (λ group. is_kept query.having (at_group table.columns by group)) (map (group_at by chosen) ks));
}

abbrev Above : Cells → Cells → Type 0
Above a b = key_cmp a b ≡ Less

-- the keys of the rows in A: null, 1 and 2
abbrev null : Cells
null = None ∷ []

abbrev first : Cells
first = Some (pos 1) ∷ []

abbrev second : Cells
second = Some (pos 2) ∷ []

no_pairs : AllPairs Above []
no_pairs = λ i j d p q. absurd (omega arith)

one_pair : AllPairs Above (first ∷ second ∷ [])
one_pair =
    AllPairs-cons Above first (second ∷ []) (All-cons (Above first) second [] refl (All-nil (Above first)))
    (AllPairs-cons Above second [] (All-nil (Above second)) no_pairs)

ascend : AllPairs Above (null ∷ first ∷ second ∷ [])
ascend = AllPairs-cons Above null (first ∷ second ∷ []) (All-cons (Above null) first (second ∷ []) refl (All-cons (Above null) second [] refl (All-nil (Above null)))) one_pair

-- each key that occurs once, and the keys as the rows have them, are one set
each_once : (x y z : Bool) → (x || (y || (z || false))) ≡ (y || (y || (x || (z || (z || false)))))
each_once true true z = refl
each_once true false z = refl
each_once false true z = refl
each_once false false true = refl
each_once false false false = refl

keys_in_a : finite.keys (keys_in (0 ∷ []) rows) ≡ null ∷ first ∷ second ∷ []
keys_in_a = keys_are (0 ∷ []) rows (null ∷ first ∷ second ∷ []) ascend (λ q. each_once (eq_by_cmp key_cmp q null) (eq_by_cmp key_cmp q first) (eq_by_cmp key_cmp q second))

no_keys : finite.keys (keys_in (1 ∷ []) []) ≡ []
no_keys = keys_are (1 ∷ []) [] [] no_pairs (λ q. refl)

pub worked : WorkedAnswers
unfolding answer_over groups_having rows_where groups_of rows_with values_in
worked = record {
  of_totals = refl;
  of_negated = refl;
  of_by_a = ap (answer_at by_a (0 ∷ []) rows) keys_in_a;
  of_means = ap (answer_at means (0 ∷ []) rows) keys_in_a;
  of_none = refl;
  of_none_by_b = ap (answer_at none_by_b (1 ∷ []) []) no_keys;
}
