-- What a partial answer has at some keys is what the code's groups have there.
use Rattle.std.specs.Prelude.{◌≡◌, true, false, cond, List, [], ◌∷◌, map as each, Some}
use Rattle.std.proofs.Common.{refl, sym, ◌∙◌}
use Rattle.std.specs.BTreeMap.{BTreeMap, is_at}
use Rattle.std.specs.FinMap as map
use Rattle.std.specs.FinMap.Entries.{find}
use Rattle.std.specs.Global.{Vec}
use Rattle.std.specs.Map.{lookup}
use Rattle.std.specs.Ordering.{eq_by_cmp}
use Rattle.table_model.specs.Group.{key_cmp}
use Rattle.table_model.specs.State.{Cells}
use Rattle.table_model.proofs.Keys.{key_total}
use Rattle.partial_answers.specs.Groups.{tallies_of_some, tallies_at, partial_answer_in}
use Rattle.partial_answers.specs.Kept.{tallies_in}
use Rattle.partial_answers.specs.PartialAnswer.{Tallies, either, combine}
use Rattle.partial_answers.specs.declared.kept.Kept.{Kept}
use Rattle.partial_answers.proofs.Combined.{same_partial_answers, get-combine}

abbrev pub as_tallies : Cells × Vec Kept → Cells × Tallies
as_tallies e = (e.0, tallies_in e.1.items)

found : (k : Cells) (es : List (Cells × Vec Kept)) → find key_cmp k (each as_tallies es) ≡ tallies_of_some (lookup (is_at (key_cmp k)) es)
found k [] = refl
found k (e ∷ es) =
    elim (eq_by_cmp key_cmp k e.0) as (λ b. cond b (Some (tallies_in e.1.items)) (find key_cmp k (each as_tallies es)) ≡ tallies_of_some (cond b (Some e.1) (lookup (is_at (key_cmp k)) es))) [
      | true ↦ refl
      | false ↦ found k es
    ]

pub get-partial_answer_in : (m : BTreeMap Cells (Vec Kept)) (k : Cells) → map.get (partial_answer_in m) k ≡ tallies_at m k
unfolding partial_answer_in
get-partial_answer_in m k = map.get-from_entries key_total (each as_tallies m.entries) k ∙ found k m.entries

pub combined_is : (both one other : BTreeMap Cells (Vec Kept)) → ((k : Cells) → tallies_at both k ≡ either (tallies_at one k) (tallies_at other k)) → partial_answer_in both ≡ combine (partial_answer_in one) (partial_answer_in other)
combined_is both one other h = same_partial_answers _ _ (λ k.
    get-partial_answer_in both k ∙ h k ∙ sym (get-combine (partial_answer_in one) (partial_answer_in other) k ∙ (λ i. either (get-partial_answer_in one k i) (get-partial_answer_in other k i))))
