-- Each lane is in the range of 64 bits, so its bits are read back as it is.
use Rattle.std.proofs.Common.{◌≡◌, ℕ, pos, ℤ, length, slice_index, sym, ap, ◌∙◌, subst, arith, of_z, to_z, FitsSigned, map, get_or}
use Rattle.std.specs.Int.{int_wrap, w64}
use Rattle.std.proofs.lemmas.Int.{to_z-of_z}
use Rattle.std.proofs.lemmas.List.{length-map, get_or-map}
use Rattle.bit_interleave.specs.Arithmetic.{integer_width}
use Rattle.bit_interleave.proofs.WrapLemmas.{int_wrap-wide}
use Rattle.bit_interleave.proofs.SixteenLemmas.{sixteen_of-same}
use Rattle.bit_interleave.proofs.arithmetic.wrap_lanes.Goals as goal

pub returns : goal.returns
returns c =
    let xs = c.loop-i.wrapped in
    let t = c.args.lane_width in
    let bits = map (of_z w64) xs in
    let f : ℕ → ℤ = λ i. int_wrap (integer_width t) (pos (slice_index c.args.lanes i)) in
    let long : length bits ≡ 16 = length-map xs (of_z w64) ∙ c.loop-i.invariant.long in
    sixteen_of-same f (map (to_z w64) bits) (pos 0) (length-map bits (to_z w64) ∙ long)
    (λ i h.
    let is : get_or xs i (pos 0) ≡ f i = c.loop-i.invariant.done i (omega arith) in
    let fits : FitsSigned w64 (get_or xs i (pos 0)) = subst (λ z. FitsSigned w64 z) (sym is) (int_wrap-wide t (pos (slice_index c.args.lanes i)) c.requires.lane_width) in
    get_or-map (to_z w64) bits i 0 (pos 0) (omega (arith, long)) ∙ ap (to_z w64) (get_or-map (of_z w64) xs i (pos 0) 0 (omega (arith, c.loop-i.invariant.long))) ∙ to_z-of_z w64 (get_or xs i (pos 0)) fits ∙ is)
