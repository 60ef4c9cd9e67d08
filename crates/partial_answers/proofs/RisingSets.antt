-- A set function of values that rise is that of their set.
use Rattle.std.proofs.Common.{◌≡◌, false, ◌||◌, List, [], ◌∷◌, ℤ, refl, sym, ap, ◌∙◌}
use Rattle.std.specs.FinMap as finite
use Rattle.std.specs.List.{list_any, AllByRecursion}
use Rattle.std.specs.List.Sorted.{IsStrictlySortedBy}
use Rattle.std.specs.Ordering.{int_cmp, int_eq, is_eq}
use Rattle.std.specs.declared.cmp.Ordering.TheVariants.{Less}
use Rattle.table_model.specs.Meaning.{fold_value}
use Rattle.table_model.specs.Values.{distinct}
use Rattle.table_model.specs.declared.query.Fold.{Fold}
use Rattle.table_model.proofs.AnswerOrder.{fold_value-alike}
use Rattle.table_model.proofs.Parts.{AreApart}
use Rattle.table_model.proofs.SameMembers.{distinct-alike}
use Rattle.partial_answers.specs.PartialAnswer.{set_of}
use Rattle.partial_answers.proofs.Tallies.{fold-set_of}

none_above : (x : ℤ) (xs : List ℤ) → AllByRecursion (λ y. int_cmp x y ≡ Less) xs → list_any (int_eq x) xs ≡ false
none_above x [] h = refl
none_above x (y ∷ ys) h = ap (λ o. is_eq o || list_any (int_eq x) ys) h.0 ∙ none_above x ys h.1

apart : (xs : List ℤ) → IsStrictlySortedBy int_cmp xs → AreApart int_eq xs
unfolding IsStrictlySortedBy
apart [] h = tt
apart (x ∷ xs) h = (none_above x xs h.0, apart xs h.1)

pub fold-rising : (fold : Fold) (xs : List ℤ) → IsStrictlySortedBy int_cmp xs → fold_value fold (finite.keys (set_of xs)) ≡ fold_value fold xs
fold-rising fold xs up = fold-set_of fold xs ∙ sym (fold_value-alike fold xs (distinct xs) (distinct-alike xs xs (apart xs up) (λ z. refl)))
