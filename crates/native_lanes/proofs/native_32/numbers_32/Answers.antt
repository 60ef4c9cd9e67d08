-- Each lane's bits are in one word or go on into the next.
use Rattle.std.proofs.Common.{◌≡◌, ◌+◌, ◌-◌, ◌*◌, ◌/◌, ◌%◌, ◌^◌, get_or, bit_or, ap, ◌∙◌, arith}
use Rattle.std.proofs.lemmas.List.{length-set}
use Rattle.std.proofs.lemmas.Simd.{get_or-replicate}
use Rattle.bit_interleave.specs.Packing.{packed_value}
use Rattle.bit_interleave.proofs.StepLemmas.{within_one_word, across_native, value_of_nothing}
use Rattle.native_lanes.proofs.native_32.numbers_32.Goals as goal
use Rattle.native_lanes.proofs.ListLemmas.{set_more}

pub returns-then-width-eq0 : goal.returns-then-width-eq0
returns-then-width-eq0 c = λ lane h. get_or-replicate 32 lane 0 0 h ∙ value_of_nothing 32 c.args.width c.args.words.now lane c.args.step c.if-width-eq0.true

pub loop-i-preserved : goal.loop-i-preserved
loop-i-preserved c =
    let i = c.loop-i.i in
    let x = c.within_word.result in
    record {
      long = length-set c.loop-i.numbers i x ∙ c.loop-i.invariant.long;
      done = set_more (λ k. packed_value 32 c.args.width c.args.words.now k c.args.step) c.loop-i.numbers i x (omega (arith, c.loop-i.invariant.long, c.loop-i-test.true)) c.loop-i.invariant.done
          (c.within_word.ensures ∙ within_one_word 32 c.args.width c.args.words.now i c.args.step (omega arith) c.if-shift-width-le32.true);
    }

pub loop-i-2-preserved : goal.loop-i-2-preserved
loop-i-2-preserved c =
    let i = c.loop-i-2.i in
    let x = c.across_words.result in
    let bit = c.args.step * c.args.width in
    let words = c.args.words.now in
    let next : bit / 32 * 32 + 32 + i ≡ bit / 32 * 32 + i + 32 = omega arith in
    record {
      long = length-set c.loop-i-2.numbers i x ∙ c.loop-i-2.invariant.long;
      done = set_more (λ k. packed_value 32 c.args.width words k c.args.step) c.loop-i-2.numbers i x (omega (arith, c.loop-i-2.invariant.long, c.loop-i-2-test.true)) c.loop-i-2.invariant.done
          (c.across_words.ensures
          ∙ ap (λ k. bit_or (get_or words (bit / 32 * 32 + i) 0 / 2 ^ (bit % 32)) (get_or words k 0 * 2 ^ (32 - bit % 32) % 2 ^ 32) % 2 ^ c.args.width) next
          ∙ across_native 32 c.args.width words i c.args.step (omega arith) (omega arith) c.requires.width (c.type_inv.words (bit / 32 * 32 + i)).fits);
    }
