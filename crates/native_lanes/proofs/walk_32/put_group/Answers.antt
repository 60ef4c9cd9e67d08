-- One more lane is written, and the others stay.
use Rattle.std.proofs.Common.{◌≡◌, ℕ, ◌+◌, ◌*◌, ◌/◌, ◌%◌, ◌^◌, ◌<◌, length, slice_index, set, get_or, ◌∙◌, arith, below_more}
use Rattle.std.proofs.lemmas.List.{get_or-set_same, get_or-set_other, length-set}
use Rattle.native_lanes.proofs.walk_32.put_group.Goals as goal

pub loop-j-preserved : goal.loop-j-preserved
loop-j-preserved c =
    let j = c.loop-j.j in
    let at = 16 * c.args.group + j in
    let old = c.loop-j.lanes in
    let bits = c.bits_from.result in
    let inside : at < length old = omega (arith, c.loop-j.invariant.long, c.loop-j-test.true, c.requires.group) in
    record {
      long = length-set old at bits ∙ c.loop-j.invariant.long;
      here = λ k h.
          below_more (λ (k : ℕ). get_or (set old at bits) (16 * c.args.group + k) 0 ≡ slice_index c.args.words.now k / 2 ^ c.args.shift % 2 ^ 32) j
          (λ k before. get_or-set_other old at (16 * c.args.group + k) bits 0 (λ e. omega (arith, e)) ∙ c.loop-j.invariant.here k before)
          (get_or-set_same old at bits 0 inside ∙ c.bits_from.ensures)
          k h;
      before = λ k h. get_or-set_other old at k bits 0 (λ e. omega (arith, e)) ∙ c.loop-j.invariant.before k h;
    }
