-- A value that isn't above the top fits its lane, so that it doesn't wrap.
use Rattle.std.proofs.Common.{◌≡◌, ◌-◌, ◌^◌, ◌≤◌, ◌≤ℤ◌, ◌+ℤ◌, ℕ, pos, FitsSigned, rules, ap, ◌∙◌, arith}
use Rattle.std.specs.Int.{w64}
use Rattle.transpose_order.specs.Place.{lane_of, step_of}
use Rattle.bit_interleave.specs.Packing.{packed_value}
use Rattle.bit_interleave.proofs.StepLemmas.{packed_value-below}
use Rattle.native_lanes.proofs.PackedLemmas.{plain_value, not_above, passed}
use Rattle.native_lanes.proofs.frame_range.top_of.Goals as goal

pub returns-clause-plain : goal.returns-clause-plain
returns-clause-plain c = λ n.
    let form = c.args.form.now in
    let t = form.lane_width in
    let below = packed_value-below t form.width form.words.numbers (lane_of t n) (step_of t n) in
    let number : packed_value t form.width form.words.numbers (lane_of t n) (step_of t n) ≤ 2 ^ form.width - 1 = omega (arith, below) in
    let gf : FitsSigned w64 c.greatest_value-greatest.result = search rules in
    let tf : FitsSigned w64 c.in_ok-top.top = search rules in
    let top : c.in_ok-top.top ≡ form.reference +ℤ pos (2 ^ form.width - 1) = search rules in
    let greatest : c.greatest_value-greatest.result ≡ pos (2 ^ (t - 1) - 1) = c.greatest_value-greatest.ensures ∙ ap (λ (w : ℕ). pos (2 ^ (w - 1) - 1)) c.lane_width.ensures.value in
    let limit : (form.reference +ℤ pos (2 ^ form.width - 1)) ≤ℤ pos (2 ^ (t - 1) - 1) =
    not_above _ _ (pos (2 ^ (t - 1) - 1)) (form.reference +ℤ pos (2 ^ form.width - 1)) (passed c.greatest_value-greatest.result (pos (2 ^ (t - 1) - 1)) gf greatest) (passed c.in_ok-top.top (form.reference +ℤ pos (2 ^ form.width - 1)) tf top) c.if-greatest-top.false in
    plain_value form n (2 ^ form.width - 1) c.lane_width.ensures.form number limit
