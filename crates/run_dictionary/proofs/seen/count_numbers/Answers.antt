-- Numbers of 64 bits are equal where they are read as equal signed ones.
use Rattle.std.proofs.Common.{rules, refl, arith, FitsSigned, of_z, to_z, ◌∙◌}
use Rattle.std.specs.Int.{w64}
use Rattle.std.proofs.lemmas.Int.{to_z-of_z}
use Rattle.run_dictionary.proofs.DistinctLemmas.{distinct-signed, all_same-values}
use Rattle.run_dictionary.proofs.seen.count_numbers.Goals as goal

pub loop-i-init : goal.loop-i-init
loop-i-init c =
    let fits : FitsSigned w64 c.cast_signed-values.result = search rules in
    record {
      long = refl;
      done = λ k h. absurd (omega (arith, h));
      rest = λ k _ h. all_same-values 1024 k (to_z w64 (of_z w64 c.cast_signed-values.result)) h ∙ to_z-of_z w64 c.cast_signed-values.result fits ∙ c.cast_signed-values.ensures;
    }

pub returns : goal.returns
returns c =
    c.count_distinct.ensures.value
    ∙ distinct-signed c.loop-i.values c.args.numbers.now c.requires.some c.requires.many c.loop-i.invariant.long (λ k h. c.loop-i.invariant.done k (omega (arith, h, c.loop-i-test.false))) (λ k h l. c.loop-i.invariant.rest k (omega (arith, h, c.loop-i.auto.i-end)) l) (λ k _. (c.type_inv.numbers k).fits)
