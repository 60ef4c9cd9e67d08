-- The rests of both lists are those behind the fronts.
use Rattle.std.proofs.Common.{◌≡◌, ◌++◌, ◌-◌, ◌<◌, ◌+◌, ◌&&◌, ltb, false, FitsSigned, w64, ℕ, zero, suc, List, [], ◌∷◌, ℤ, pos, get_or, length, take, drop, refl, sym, ap, subst, ◌∙◌, arith, length-drop, rules}
use Rattle.std.specs.List.{list_any}
use Rattle.std.specs.List.Sorted.{IsStrictlySortedBy}
use Rattle.std.specs.Ordering.{int_cmp, int_eq}
use Rattle.std.specs.declared.cmp.Ordering.TheVariants.{Less}
use Rattle.std.proofs.lemmas.Bool.{and_parts, ltb-true}
use Rattle.std.proofs.lemmas.Int.{ints, to_z-of_z}
use Rattle.std.proofs.lemmas.List.{take-append-drop}
use Rattle.partial_answers.proofs.Merging.{all_values, first_more, second_more, both_more}
use Rattle.partial_answers.proofs.Rising.{AreBelow, below_more, cmp_less, end_rises, next_above, rises_more}
use Rattle.partial_answers.proofs.values.merged.Goals as goal

take_all : (xs : List ℤ) (n : ℕ) → length xs ≡ n → take n xs ≡ xs
take_all [] zero e = refl
take_all [] (suc n) e = refl
take_all (x ∷ xs) zero e = absurd (omega arith)
take_all (x ∷ xs) (suc n) e = ap (λ (l : List ℤ). x ∷ l) (take_all xs n (omega arith))

rest : (xs : List ℤ) (i : ℕ) → take (length xs - i) (drop i xs) ≡ drop i xs
rest xs i = take_all (drop i xs) (length xs - i) (omega (arith, length-drop i xs))

pub returns-clause-values : goal.returns-clause-values
returns-clause-values c =
    let a : List ℤ = c.args.a.now in
    let b : List ℤ = c.args.b.now in
    let i : ℕ = c.loop-x.i in
    let j : ℕ = c.loop-x.j in
    let first : c.extend_from_slice.new.self.items ≡ c.loop-x.both.items ++ drop i a = c.in_ok-extend_from_slice.ensures.items ∙ ap (λ (l : List ℤ). c.loop-x.both.items ++ l) (rest a i) in
    let second : c.extend_from_slice-2.new.self.items ≡ c.extend_from_slice.new.self.items ++ drop j b = c.in_ok-extend_from_slice-2.ensures.items ∙ ap (λ (l : List ℤ). c.extend_from_slice.new.self.items ++ l) (rest b j) in
    all_values a b c.loop-x.both.items c.extend_from_slice-2.new.self.items i j c.loop-x.invariant.values (second ∙ ap (λ (l : List ℤ). l ++ drop j b) first) (sym (take-append-drop i a)) (sym (take-append-drop j b))

pub returns-clause-rising : goal.returns-clause-rising
returns-clause-rising c =
    let a : List ℤ = c.args.a.now in
    let b : List ℤ = c.args.b.now in
    let i : ℕ = c.loop-x.i in
    let j : ℕ = c.loop-x.j in
    let inv = c.loop-x.invariant in
    let first : c.extend_from_slice.new.self.items ≡ c.loop-x.both.items ++ drop i a = c.in_ok-extend_from_slice.ensures.items ∙ ap (λ (l : List ℤ). c.loop-x.both.items ++ l) (rest a i) in
    let second : c.extend_from_slice-2.new.self.items ≡ c.extend_from_slice.new.self.items ++ drop j b = c.in_ok-extend_from_slice-2.ensures.items ∙ ap (λ (l : List ℤ). c.extend_from_slice.new.self.items ++ l) (rest b j) in
    let out : (ltb i (length a) && ltb j (length b)) ≡ false = sym c.have_both.ensures ∙ c.loop-x-test.false in
    subst (λ (l : List ℤ). IsStrictlySortedBy int_cmp l) (sym (second ∙ ap (λ (l : List ℤ). l ++ drop j b) first))
    (end_rises c.loop-x.both.items a b i j inv.rising c.requires.first c.requires.second out inv.below_first inv.below_second)

pub loop-x-init : goal.loop-x-init
unfolding IsStrictlySortedBy
loop-x-init c =
    let none = c.new-both.ensures.items in
    record {
      first = omega arith;
      second = omega arith;
      values = λ z. ap (list_any (int_eq z)) none;
      rising = subst (λ (l : List ℤ). IsStrictlySortedBy int_cmp l) (sym none) tt;
      below_first = λ _. subst (λ (l : List ℤ). AreBelow l (get_or c.args.a.now 0 (pos 0))) (sym none) tt;
      below_second = λ _. subst (λ (l : List ℤ). AreBelow l (get_or c.args.b.now 0 (pos 0))) (sym none) tt;
    }

pub loop-x-preserved-then-x-y : goal.loop-x-preserved-then-x-y
loop-x-preserved-then-x-y c =
    let a : List ℤ = c.args.a.now in
    let b : List ℤ = c.args.b.now in
    let both : List ℤ = c.loop-x.both.items in
    let i : ℕ = c.loop-x.i in
    let j : ℕ = c.loop-x.j in
    let inv = c.loop-x.invariant in
    let test = and_parts (ltb i (length a)) (ltb j (length b)) (sym c.have_both.ensures ∙ c.loop-x-test.true) in
    let in_a : i < length a = ltb-true _ _ test.0 in
    let in_b : j < length b = ltb-true _ _ test.1 in
    let x : ℤ = get_or a i (pos 0) in
    let y : ℤ = get_or b j (pos 0) in
    let fits : FitsSigned w64 x = search rules in
    let items : c.push.new.self.items ≡ both ++ x ∷ [] = c.in_ok-push.ensures.items ∙ ap (λ (z : ℤ). both ++ z ∷ []) (to_z-of_z w64 x fits) in
    let less : int_cmp x y ≡ Less = cmp_less x y (omega (arith, ints, c.if-x-y.true)) in
    record {
      first = omega (arith, in_a);
      second = inv.second;
      values = first_more a b both c.push.new.self.items i j x (pos 0) inv.values items in_a refl;
      rising = subst (λ (l : List ℤ). IsStrictlySortedBy int_cmp l) (sym items) (rises_more both x inv.rising (inv.below_first in_a));
      below_first = λ more. subst (λ (l : List ℤ). AreBelow l (get_or a (i + 1) (pos 0))) (sym items) (next_above a both i c.requires.first in_a (inv.below_first in_a) more);
      below_second = λ _. subst (λ (l : List ℤ). AreBelow l y) (sym items) (below_more both x y (inv.below_first in_a) less);
    }

pub loop-x-preserved-then-y-x : goal.loop-x-preserved-then-y-x
loop-x-preserved-then-y-x c =
    let a : List ℤ = c.args.a.now in
    let b : List ℤ = c.args.b.now in
    let both : List ℤ = c.loop-x.both.items in
    let i : ℕ = c.loop-x.i in
    let j : ℕ = c.loop-x.j in
    let inv = c.loop-x.invariant in
    let test = and_parts (ltb i (length a)) (ltb j (length b)) (sym c.have_both.ensures ∙ c.loop-x-test.true) in
    let in_a : i < length a = ltb-true _ _ test.0 in
    let in_b : j < length b = ltb-true _ _ test.1 in
    let x : ℤ = get_or a i (pos 0) in
    let y : ℤ = get_or b j (pos 0) in
    let fits : FitsSigned w64 y = search rules in
    let items : c.push-then-y-x.new.self.items ≡ both ++ y ∷ [] = c.in_ok-push-2.ensures.items ∙ ap (λ (z : ℤ). both ++ z ∷ []) (to_z-of_z w64 y fits) in
    let less : int_cmp y x ≡ Less = cmp_less y x (omega (arith, ints, c.if-y-x.true)) in
    record {
      first = inv.first;
      second = omega (arith, in_b);
      values = second_more a b both c.push-then-y-x.new.self.items i j y (pos 0) inv.values items in_b refl;
      rising = subst (λ (l : List ℤ). IsStrictlySortedBy int_cmp l) (sym items) (rises_more both y inv.rising (inv.below_second in_b));
      below_first = λ _. subst (λ (l : List ℤ). AreBelow l x) (sym items) (below_more both y x (inv.below_second in_b) less);
      below_second = λ more. subst (λ (l : List ℤ). AreBelow l (get_or b (j + 1) (pos 0))) (sym items) (next_above b both j c.requires.second in_b (inv.below_second in_b) more);
    }

pub loop-x-preserved : goal.loop-x-preserved
loop-x-preserved c =
    let a : List ℤ = c.args.a.now in
    let b : List ℤ = c.args.b.now in
    let both : List ℤ = c.loop-x.both.items in
    let i : ℕ = c.loop-x.i in
    let j : ℕ = c.loop-x.j in
    let inv = c.loop-x.invariant in
    let test = and_parts (ltb i (length a)) (ltb j (length b)) (sym c.have_both.ensures ∙ c.loop-x-test.true) in
    let in_a : i < length a = ltb-true _ _ test.0 in
    let in_b : j < length b = ltb-true _ _ test.1 in
    let x : ℤ = get_or a i (pos 0) in
    let y : ℤ = get_or b j (pos 0) in
    let fits : FitsSigned w64 x = search rules in
    let same : x ≡ y = omega (arith, ints, c.if-x-y.false, c.if-y-x.false) in
    let items : c.push-else-y-x.new.self.items ≡ both ++ x ∷ [] = c.in_ok-push-3.ensures.items ∙ ap (λ (z : ℤ). both ++ z ∷ []) (to_z-of_z w64 x fits) in
    let also : c.push-else-y-x.new.self.items ≡ both ++ y ∷ [] = items ∙ ap (λ (z : ℤ). both ++ z ∷ []) same in
    record {
      first = omega (arith, in_a);
      second = omega (arith, in_b);
      values = both_more a b both c.push-else-y-x.new.self.items i j x (pos 0) inv.values items in_a refl in_b same;
      rising = subst (λ (l : List ℤ). IsStrictlySortedBy int_cmp l) (sym items) (rises_more both x inv.rising (inv.below_first in_a));
      below_first = λ more. subst (λ (l : List ℤ). AreBelow l (get_or a (i + 1) (pos 0))) (sym items) (next_above a both i c.requires.first in_a (inv.below_first in_a) more);
      below_second = λ more. subst (λ (l : List ℤ). AreBelow l (get_or b (j + 1) (pos 0))) (sym also) (next_above b both j c.requires.second in_b (inv.below_second in_b) more);
    }
