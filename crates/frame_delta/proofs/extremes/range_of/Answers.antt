-- One more value is one more step of the least and of the greatest.
use Rattle.std.proofs.Common.{◌≡◌, pos, slice_index_or, of_z, to_z, rules, arith, sym, ap, ◌∙◌, true, FitsSigned, add-one}
use Rattle.std.specs.Int.{w64, int_min, int_max}
use Rattle.std.proofs.lemmas.Int.{to_z-of_z}
use Rattle.bit_interleave.specs.Range.{value_at}
use Rattle.frame_delta.specs.Extremes.{least_among, greatest_among}
use Rattle.frame_delta.specs.Frame.{least_value, greatest_value}
use Rattle.frame_delta.proofs.ExtremeLemmas.{least_among-zero, least_among-suc, greatest_among-zero, greatest_among-suc}
use Rattle.frame_delta.proofs.extremes.range_of.Goals as goal

pub loop-n-init : goal.loop-n-init
loop-n-init c =
    let values = c.args.values.now in
    let first : FitsSigned w64 (slice_index_or values 0 (pos 0)) = search rules in
    record {
      least = to_z-of_z w64 (value_at values 0) first ∙ sym (least_among-zero (λ _. true) (value_at values) (value_at values 0));
      greatest = to_z-of_z w64 (value_at values 0) first ∙ sym (greatest_among-zero (λ _. true) (value_at values) (value_at values 0));
    }

pub loop-n-preserved : goal.loop-n-preserved
loop-n-preserved c =
    let values = c.args.values.now in
    let n = c.loop-n.n in
    let here : FitsSigned w64 (slice_index_or values n (pos 0)) = search rules in
    let low : FitsSigned w64 c.min-least.result = search rules in
    let high : FitsSigned w64 c.max-greatest.result = search rules in
    record {
      least =
          to_z-of_z w64 c.min-least.result low ∙ c.min-least.ensures.value
          ∙ ap (λ z. int_min z (to_z w64 (of_z w64 (value_at values n)))) c.loop-n.invariant.least
          ∙ ap (int_min (least_among (λ _. true) (value_at values) (value_at values 0) n)) (to_z-of_z w64 (value_at values n) here)
          ∙ sym (least_among-suc (λ _. true) (value_at values) (value_at values 0) n)
          ∙ ap (least_among (λ _. true) (value_at values) (value_at values 0)) (sym (add-one n));
      greatest =
          to_z-of_z w64 c.max-greatest.result high ∙ c.max-greatest.ensures.value
          ∙ ap (λ z. int_max z (to_z w64 (of_z w64 (value_at values n)))) c.loop-n.invariant.greatest
          ∙ ap (int_max (greatest_among (λ _. true) (value_at values) (value_at values 0) n)) (to_z-of_z w64 (value_at values n) here)
          ∙ sym (greatest_among-suc (λ _. true) (value_at values) (value_at values 0) n)
          ∙ ap (greatest_among (λ _. true) (value_at values) (value_at values 0)) (sym (add-one n));
    }

pub returns-clause-least : goal.returns-clause-least
unfolding least_value
returns-clause-least c =
    let all : c.loop-n.n ≡ 1024 = omega arith in
    c.loop-n.invariant.least ∙ ap (least_among (λ _. true) (value_at c.args.values.now) (value_at c.args.values.now 0)) all

pub returns-clause-greatest : goal.returns-clause-greatest
unfolding greatest_value
returns-clause-greatest c =
    let all : c.loop-n.n ≡ 1024 = omega arith in
    c.loop-n.invariant.greatest ∙ ap (greatest_among (λ _. true) (value_at c.args.values.now) (value_at c.args.values.now 0)) all
