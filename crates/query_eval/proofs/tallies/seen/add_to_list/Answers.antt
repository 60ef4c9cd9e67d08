-- The list doesn't have the value.
use Rattle.std.proofs.Common.{◌≡◌, ◌++◌, ◌∷◌, [], false, FitsSigned, w64, rules, List, ℤ, sym, ap, subst, ◌∙◌}
use Rattle.std.specs.List.{list_any, IsDistinct}
use Rattle.std.specs.Ordering.{int_eq}
use Rattle.std.proofs.lemmas.Int.{to_z-of_z}
use Rattle.query_eval.proofs.ValueLists.{apart_pushed, member_turned}
use Rattle.query_eval.proofs.tallies.seen.add_to_list.Goals as goal

pub returns-then-len-lt-MOST_IN_LIST-clause-apart : goal.returns-then-len-lt-MOST_IN_LIST-clause-apart
returns-then-len-lt-MOST_IN_LIST-clause-apart c = λ apart.
    let values = c.args.list.now.items in
    let fits : FitsSigned w64 c.args.value = search rules in
    let has = simp to_z-of_z at c.contains.ensures.value in
    let none : list_any (int_eq c.args.value) values ≡ false = member_turned values c.args.value ∙ ap (λ (zs : List ℤ). list_any (λ y. int_eq y c.args.value) zs) (sym c.as_slice.ensures) ∙ sym has ∙ c.if-contains.false in
    subst (IsDistinct int_eq) (sym (c.in_ok-push.ensures.ok ∙ ap (λ (x : ℤ). values ++ x ∷ []) (to_z-of_z w64 c.args.value fits))) (apart_pushed values c.args.value apart none)
