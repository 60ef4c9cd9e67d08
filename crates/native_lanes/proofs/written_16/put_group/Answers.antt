-- Each lane has a row of its own.
use Rattle.std.proofs.Common.{rules, ◌≡◌, ◌+◌, ◌*◌, ◌^◌, ◌<◌, pos, ◌+ℤ◌, length, slice_index, set, FitsSigned, to_z, of_z, ◌∙◌, sym, ap, below_more, arith}
use Rattle.std.specs.Int.{w64}
use Rattle.std.proofs.lemmas.Int.{to_z-of_z}
use Rattle.std.proofs.lemmas.List.{get_or-set_same, get_or-set_other, length-set}
use Rattle.bit_interleave.specs.Range.{value_at}
use Rattle.native_lanes.proofs.written_16.put_group.Goals as goal

pub loop-i-preserved : goal.loop-i-preserved
loop-i-preserved c =
    let i = c.loop-i.i in
    let place = c.args.place in
    let old = c.loop-i.values in
    let value = to_z w64 (of_z w64 c.value_above.result) in
    let fits : FitsSigned w64 c.value_above.result = search rules in
    let inside : 64 * i + place < length old = omega (arith, c.loop-i.invariant.long, c.loop-i-test.true, c.requires.place) in
    record {
      long = length-set old (64 * i + place) value ∙ c.loop-i.invariant.long;
      written = below_more (λ k. pos (slice_index c.args.numbers.now (16 * c.args.group + k)) ≡ value_at (set old (64 * i + place) value) (64 * k + place) +ℤ pos (2 ^ 15)) i
          (λ k l. c.loop-i.invariant.written k l ∙ ap (λ z. z +ℤ pos (2 ^ 15)) (sym (get_or-set_other old (64 * i + place) (64 * k + place) value (pos 0) (λ e. omega (arith, e)))))
          (c.value_above.ensures ∙ ap (λ z. z +ℤ pos (2 ^ 15)) (sym (get_or-set_same old (64 * i + place) value (pos 0) inside ∙ to_z-of_z w64 c.value_above.result fits)));
      others = λ n h. get_or-set_other old (64 * i + place) n value (pos 0) (λ e. h (omega (arith, e, c.requires.place, c.loop-i-test.true))) ∙ c.loop-i.invariant.others n h;
    }
