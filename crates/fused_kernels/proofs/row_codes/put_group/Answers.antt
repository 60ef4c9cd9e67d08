-- Each lane has a row of its own.
use Rattle.std.proofs.Common.{◌≡◌, ◌+◌, ◌*◌, ◌<◌, length, slice_index, set, ◌∙◌, below_more, arith}
use Rattle.std.proofs.lemmas.List.{get_or-set_same, get_or-set_other, length-set}
use Rattle.fused_kernels.proofs.row_codes.put_group.Goals as goal

pub loop-i-preserved : goal.loop-i-preserved
loop-i-preserved c =
    let i = c.loop-i.i in
    let place = c.args.place in
    let old = c.loop-i.codes in
    let value = slice_index c.args.numbers.now (16 * c.args.group + i) in
    let inside : 64 * i + place < length old = omega (arith, c.loop-i.invariant.long, c.loop-i-test.true, c.requires.place) in
    record {
      long = length-set old (64 * i + place) value ∙ c.loop-i.invariant.long;
      written = below_more (λ k. slice_index (set old (64 * i + place) value) (64 * k + place) ≡ slice_index c.args.numbers.now (16 * c.args.group + k)) i
          (λ k l. get_or-set_other old (64 * i + place) (64 * k + place) value 0 (λ e. omega (arith, e)) ∙ c.loop-i.invariant.written k l)
          (get_or-set_same old (64 * i + place) value 0 inside);
      others = λ n h. get_or-set_other old (64 * i + place) n value 0 (λ e. h (omega (arith, e, c.requires.place, c.loop-i-test.true))) ∙ c.loop-i.invariant.others n h;
    }
