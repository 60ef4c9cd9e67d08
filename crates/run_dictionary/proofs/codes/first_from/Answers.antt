-- A dictionary ascends, so the value in the middle decides for all on one side.
use Rattle.std.proofs.Common.{rules, ◌-◌, ◌+◌, ◌/◌, ℤ, ◌<ℤ◌, ◌≤ℤ◌, FitsSigned, of_z, to_z, ◌∙◌, subst, arith}
use Rattle.std.specs.Int.{w64, w128}
use Rattle.std.proofs.lemmas.Int.{to_z-of_z}
use Rattle.bit_interleave.specs.Range.{value_at}
use Rattle.run_dictionary.proofs.OrderLemmas.{less_from_test}
use Rattle.run_dictionary.proofs.DictLemmas.{below_before, from_there, not_less_from_test}
use Rattle.run_dictionary.proofs.codes.first_from.Goals as goal

pub get-requires : goal.get-requires
get-requires c = omega (arith, c.loop-first.invariant.within)

pub loop-first-init : goal.loop-first-init
loop-first-init c = record {
  order = omega arith;
  within = omega (arith, c.len-end.ensures);
  before = λ k h. absurd (omega (arith, h));
  from = λ k h l. absurd (omega (arith, h, l, c.len-end.ensures));
}

pub loop-first-preserved-then-from-low : goal.loop-first-preserved-then-from-low
loop-first-preserved-then-from-low c =
    let xs = c.args.dictionary.now.values in
    let low : ℤ = to_z w128 (of_z w128 c.args.low) in
    let middle = c.loop-first.first + (c.loop-first.end - c.loop-first.first) / 2 in
    let fits : FitsSigned w128 c.from.result = search rules in
    let got : FitsSigned w64 c.get.result = search rules in
    let told = to_z-of_z w128 c.from.result fits ∙ c.from.ensures ∙ to_z-of_z w64 c.get.result got ∙ c.get.ensures.value in
    let less : value_at xs middle <ℤ low = subst (λ (z : ℤ). z <ℤ low) told (less_from_test _ _ c.if-from-low.true) in
    record {
      order = omega arith;
      within = c.loop-first.invariant.within;
      before = λ k h. below_before xs low middle k c.requires (omega (arith, c.loop-first.invariant.within)) less h;
      from = c.loop-first.invariant.from;
    }

pub loop-first-preserved : goal.loop-first-preserved
loop-first-preserved c =
    let xs = c.args.dictionary.now.values in
    let low : ℤ = to_z w128 (of_z w128 c.args.low) in
    let middle = c.loop-first.first + (c.loop-first.end - c.loop-first.first) / 2 in
    let fits : FitsSigned w128 c.from.result = search rules in
    let got : FitsSigned w64 c.get.result = search rules in
    let told = to_z-of_z w128 c.from.result fits ∙ c.from.ensures ∙ to_z-of_z w64 c.get.result got ∙ c.get.ensures.value in
    let most : low ≤ℤ value_at xs middle = subst (λ (z : ℤ). low ≤ℤ z) told (not_less_from_test _ _ c.if-from-low.false) in
    record {
      order = omega arith;
      within = omega (arith, c.loop-first.invariant.within);
      before = c.loop-first.invariant.before;
      from = λ k h l. from_there xs low middle k c.requires most h l;
    }

pub returns-clause-bound : goal.returns-clause-bound
returns-clause-bound c = omega (arith, c.loop-first.invariant.order, c.loop-first.invariant.within)

pub returns-clause-before : goal.returns-clause-before
returns-clause-before c = λ k h. subst (λ (z : ℤ). value_at c.args.dictionary.now.values k <ℤ z) (to_z-of_z w128 c.args.low c.ranges.low) (c.loop-first.invariant.before k h)

pub returns-clause-from : goal.returns-clause-from
returns-clause-from c = λ k h l. subst (λ (z : ℤ). z ≤ℤ value_at c.args.dictionary.now.values k) (to_z-of_z w128 c.args.low c.ranges.low) (c.loop-first.invariant.from k (omega (arith, h, c.loop-first-test.false)) l)
