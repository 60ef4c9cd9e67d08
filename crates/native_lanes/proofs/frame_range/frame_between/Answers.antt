-- The values in the range are those of the numbers between two distances from the reference.
use Rattle.std.proofs.Common.{rules, ◌≡◌, ℕ, ◌-◌, ◌^◌, ◌<◌, ◌≤◌, ◌&&◌, nat_le, int_le, true, false, pos, ◌+ℤ◌, ◌-ℤ◌, ◌≤ℤ◌, ◌⊎◌, inl, inr, FitsSigned, to_z, of_z, sym, ap, ◌∙◌, subst, arith}
use Rattle.std.specs.Int.{w64, int_min, int_max}
use Rattle.std.proofs.lemmas.Int.{ints, to_z-of_z}
use Rattle.std.proofs.lemmas.Nat.{pow_pos}
use Rattle.transpose_order.specs.Place.{lane_of, step_of}
use Rattle.transpose_order.specs.Mask.{rows_of}
use Rattle.transpose_order.specs.MaskWords.{rows_of-like}
use Rattle.bit_interleave.specs.Packing.{packed_value}
use Rattle.bit_interleave.specs.PackedWords.{PackedWords}
use Rattle.bit_interleave.proofs.StepLemmas.{packed_value-below}
use Rattle.frame_delta.specs.Frame.{frame_value}
use Rattle.native_lanes.specs.Between.{between}
use Rattle.native_lanes.specs.Frames.{top_value}
use Rattle.native_lanes.proofs.PackedLemmas.{passed, passed_within, passed_order, all_between, none_below, decided_by_ends, none_above, none_crossed, ends_cross_not, least_end, least_end_below, number_in_range, passed_between}
use Rattle.native_lanes.proofs.frame_range.frame_between.Goals.{else-low-reference-via-then-low-reference+else-top-high, else-low-reference-via-else-low-reference, then-high-reference-via-then-high-reference, then-high-reference-via-else-high-reference+then-top-low, then-high-reference-via-else-high-reference+else-top-low+then-high-low}
use Rattle.native_lanes.proofs.frame_range.frame_between.Goals as goal

pub returns-then-high-reference-clause-rows : goal.returns-then-high-reference-clause-rows
returns-then-high-reference-clause-rows c =
    let r = to_z w64 (of_z w64 c.reference-reference.result) in
    let upper = to_z w64 (of_z w64 c.in_ok-top.top) in
    let rf : FitsSigned w64 c.reference-reference.result = search rules in
    let uf : FitsSigned w64 c.in_ok-top.top = search rules in
    let re : r ≡ c.args.form.now.reference = passed c.reference-reference.result c.args.form.now.reference rf c.reference-reference.ensures.value in
    let te : upper ≡ c.in_ok-top.top = to_z-of_z w64 c.in_ok-top.top uf in
    let form = c.args.form.now in
    let low = to_z w64 (of_z w64 c.args.low) in
    let high = to_z w64 (of_z w64 c.args.high) in
    let none : (n : ℕ) → between low high (frame_value form n) ≡ false =
    λ n. elim c.then-high-reference.branch [
      | then-high-reference-via-then-high-reference w ↦ none_below low high (frame_value form n) r (passed_within form n r upper c.in_ok-top.top re te c.in_ok-top.ensures.top (c.in_ok-top.ensures.plain n)).0 w.if-high-reference.true
      | then-high-reference-via-else-high-reference+then-top-low w ↦ none_above low high (frame_value form n) upper (passed_within form n r upper c.in_ok-top.top re te c.in_ok-top.ensures.top (c.in_ok-top.ensures.plain n)).1 w.if-top-low.true
      | then-high-reference-via-else-high-reference+else-top-low+then-high-low w ↦ none_crossed low high (frame_value form n) w.if-high-low.true
    ] in
    c.none.ensures
    ∙ rows_of-like (λ _. false) (λ n. between c.args.low c.args.high (frame_value form n)) (λ n h. sym (sym (passed_between c.args.low c.args.high (frame_value form n) c.ranges.low c.ranges.high) ∙ none n))

pub returns-in_err-found-clause-decided : goal.returns-in_err-found-clause-decided
returns-in_err-found-clause-decided c = λ plain decided.
    let r = to_z w64 (of_z w64 c.reference-reference.result) in
    let upper = to_z w64 (of_z w64 c.in_ok-top.top) in
    let rf : FitsSigned w64 c.reference-reference.result = search rules in
    let uf : FitsSigned w64 c.in_ok-top.top = search rules in
    let re : r ≡ c.args.form.now.reference = passed c.reference-reference.result c.args.form.now.reference rf c.reference-reference.ensures.value in
    let te : upper ≡ top_value c.args.form.now = passed c.in_ok-top.top (top_value c.args.form.now) uf c.in_ok-top.ensures.top in
    let low = to_z w64 (of_z w64 c.args.low) in
    let high = to_z w64 (of_z w64 c.args.high) in
    let left : (int_le low r ≡ false) ⊎ (int_le upper high ≡ false) =
    elim c.else-low-reference.branch [
      | else-low-reference-via-then-low-reference+else-top-high w ↦ inr w.if-top-high.false
      | else-low-reference-via-else-low-reference w ↦ inl w.if-low-reference.false
    ] in
    absurd (decided_by_ends c.args.form.now c.args.low c.args.high r upper low high re te (to_z-of_z w64 c.args.low c.ranges.low) (to_z-of_z w64 c.args.high c.ranges.high) c.if-high-reference.false c.if-top-low.false c.if-high-low.false left decided)

pub returns-then-top-high-clause-rows : goal.returns-then-top-high-clause-rows
returns-then-top-high-clause-rows c =
    let r = to_z w64 (of_z w64 c.reference-reference.result) in
    let upper = to_z w64 (of_z w64 c.in_ok-top.top) in
    let rf : FitsSigned w64 c.reference-reference.result = search rules in
    let uf : FitsSigned w64 c.in_ok-top.top = search rules in
    let re : r ≡ c.args.form.now.reference = passed c.reference-reference.result c.args.form.now.reference rf c.reference-reference.ensures.value in
    let te : upper ≡ c.in_ok-top.top = to_z-of_z w64 c.in_ok-top.top uf in
    let form = c.args.form.now in
    let low = to_z w64 (of_z w64 c.args.low) in
    let high = to_z w64 (of_z w64 c.args.high) in
    c.all.ensures
    ∙ rows_of-like (λ _. true) (λ n. between c.args.low c.args.high (frame_value form n))
    (λ n h.
    sym (sym (passed_between c.args.low c.args.high (frame_value form n) c.ranges.low c.ranges.high)
    ∙ all_between low high (frame_value form n) r upper (passed_within form n r upper c.in_ok-top.top re te c.in_ok-top.ensures.top (c.in_ok-top.ensures.plain n)).0 (passed_within form n r upper c.in_ok-top.top re te c.in_ok-top.ensures.top (c.in_ok-top.ensures.plain n)).1 c.if-low-reference.true c.if-top-high.true))

pub distance-last-requires : goal.distance-last-requires
distance-last-requires c =
    let r = to_z w64 (of_z w64 c.reference-reference.result) in
    let upper = to_z w64 (of_z w64 c.in_ok-top.top) in
    let rf : FitsSigned w64 c.reference-reference.result = search rules in
    let uf : FitsSigned w64 c.in_ok-top.top = search rules in
    let re : r ≡ c.args.form.now.reference = passed c.reference-reference.result c.args.form.now.reference rf c.reference-reference.ensures.value in
    let te : upper ≡ c.in_ok-top.top = to_z-of_z w64 c.in_ok-top.top uf in
    let af : FitsSigned w64 c.max.result = search rules in
    let bf : FitsSigned w64 c.min.result = search rules in
    let first_end : to_z w64 (of_z w64 c.max.result) ≡ int_max (to_z w64 (of_z w64 c.args.low)) r = passed c.max.result _ af c.max.ensures.value in
    let last_end : to_z w64 (of_z w64 c.min.result) ≡ int_min (to_z w64 (of_z w64 c.args.high)) upper = passed c.min.result _ bf c.min.ensures.value in
    let ordered : r ≤ℤ upper = passed_order r upper c.args.form.now.reference c.in_ok-top.top (2 ^ c.args.form.now.width - 1) re te c.in_ok-top.ensures.top in
    subst (λ z. r ≤ℤ z) (sym last_end) (least_end (to_z w64 (of_z w64 c.args.high)) upper r c.if-high-reference.false ordered)

pub numbers_between-requires-clause-order : goal.numbers_between-requires-clause-order
numbers_between-requires-clause-order c =
    let r = to_z w64 (of_z w64 c.reference-reference.result) in
    let upper = to_z w64 (of_z w64 c.in_ok-top.top) in
    let rf : FitsSigned w64 c.reference-reference.result = search rules in
    let uf : FitsSigned w64 c.in_ok-top.top = search rules in
    let re : r ≡ c.args.form.now.reference = passed c.reference-reference.result c.args.form.now.reference rf c.reference-reference.ensures.value in
    let te : upper ≡ c.in_ok-top.top = to_z-of_z w64 c.in_ok-top.top uf in
    let af : FitsSigned w64 c.max.result = search rules in
    let bf : FitsSigned w64 c.min.result = search rules in
    let first_end : to_z w64 (of_z w64 c.max.result) ≡ int_max (to_z w64 (of_z w64 c.args.low)) r = passed c.max.result _ af c.max.ensures.value in
    let last_end : to_z w64 (of_z w64 c.min.result) ≡ int_min (to_z w64 (of_z w64 c.args.high)) upper = passed c.min.result _ bf c.min.ensures.value in
    let ordered : r ≤ℤ upper = passed_order r upper c.args.form.now.reference c.in_ok-top.top (2 ^ c.args.form.now.width - 1) re te c.in_ok-top.ensures.top in
    let cross = ends_cross_not (to_z w64 (of_z w64 c.args.low)) (to_z w64 (of_z w64 c.args.high)) r upper ordered c.if-high-reference.false c.if-top-low.false c.if-high-low.false in
    omega (arith, ints, c.distance-first.ensures, c.distance-last.ensures, first_end, last_end, cross)

pub numbers_between-requires-clause-fit : goal.numbers_between-requires-clause-fit
numbers_between-requires-clause-fit c =
    let r = to_z w64 (of_z w64 c.reference-reference.result) in
    let upper = to_z w64 (of_z w64 c.in_ok-top.top) in
    let rf : FitsSigned w64 c.reference-reference.result = search rules in
    let uf : FitsSigned w64 c.in_ok-top.top = search rules in
    let re : r ≡ c.args.form.now.reference = passed c.reference-reference.result c.args.form.now.reference rf c.reference-reference.ensures.value in
    let te : upper ≡ c.in_ok-top.top = to_z-of_z w64 c.in_ok-top.top uf in
    let af : FitsSigned w64 c.max.result = search rules in
    let bf : FitsSigned w64 c.min.result = search rules in
    let first_end : to_z w64 (of_z w64 c.max.result) ≡ int_max (to_z w64 (of_z w64 c.args.low)) r = passed c.max.result _ af c.max.ensures.value in
    let last_end : to_z w64 (of_z w64 c.min.result) ≡ int_min (to_z w64 (of_z w64 c.args.high)) upper = passed c.min.result _ bf c.min.ensures.value in
    let ordered : r ≤ℤ upper = passed_order r upper c.args.form.now.reference c.in_ok-top.top (2 ^ c.args.form.now.width - 1) re te c.in_ok-top.ensures.top in
    let below = least_end_below (to_z w64 (of_z w64 c.args.high)) upper in
    let some = pow_pos c.args.form.now.width in
    let fits : c.distance-last.result < 2 ^ c.args.form.now.width = omega (arith, ints, c.distance-last.ensures, last_end, below, re, te, c.in_ok-top.ensures.top, some) in
    subst (λ (w : ℕ). c.distance-last.result < 2 ^ w) (sym c.width.ensures.value) fits

pub returns-clause-rows : goal.returns-clause-rows
returns-clause-rows c =
    let r = to_z w64 (of_z w64 c.reference-reference.result) in
    let upper = to_z w64 (of_z w64 c.in_ok-top.top) in
    let rf : FitsSigned w64 c.reference-reference.result = search rules in
    let uf : FitsSigned w64 c.in_ok-top.top = search rules in
    let re : r ≡ c.args.form.now.reference = passed c.reference-reference.result c.args.form.now.reference rf c.reference-reference.ensures.value in
    let te : upper ≡ c.in_ok-top.top = to_z-of_z w64 c.in_ok-top.top uf in
    let af : FitsSigned w64 c.max.result = search rules in
    let bf : FitsSigned w64 c.min.result = search rules in
    let first_end : to_z w64 (of_z w64 c.max.result) ≡ int_max (to_z w64 (of_z w64 c.args.low)) r = passed c.max.result _ af c.max.ensures.value in
    let last_end : to_z w64 (of_z w64 c.min.result) ≡ int_min (to_z w64 (of_z w64 c.args.high)) upper = passed c.min.result _ bf c.min.ensures.value in
    let ordered : r ≤ℤ upper = passed_order r upper c.args.form.now.reference c.in_ok-top.top (2 ^ c.args.form.now.width - 1) re te c.in_ok-top.ensures.top in
    let form = c.args.form.now in
    let low = to_z w64 (of_z w64 c.args.low) in
    let high = to_z w64 (of_z w64 c.args.high) in
    let first = c.distance-first.result in
    let last = c.distance-last.result in
    let number : ℕ → ℕ = λ n. packed_value form.lane_width form.width form.words.numbers (lane_of form.lane_width n) (step_of form.lane_width n) in
    let start : pos first ≡ int_max low r -ℤ r = c.distance-first.ensures ∙ ap (λ z. z -ℤ r) first_end in
    let stop : pos last ≡ int_min high upper -ℤ r = c.distance-last.ensures ∙ ap (λ z. z -ℤ r) last_end in
    let top : upper ≡ r +ℤ pos (2 ^ form.width - 1) = te ∙ c.in_ok-top.ensures.top ∙ ap (λ z. z +ℤ pos (2 ^ form.width - 1)) (sym re) in
    c.in_ok-found.ensures.rows
    ∙ ap (λ (x : PackedWords). rows_of (λ n. nat_le first (packed_value x.lane_width c.width.result x.numbers (lane_of x.lane_width n) (step_of x.lane_width n)) && nat_le (packed_value x.lane_width c.width.result x.numbers (lane_of x.lane_width n) (step_of x.lane_width n)) last)) c.words.ensures.value
    ∙ ap (λ (w : ℕ). rows_of (λ n. nat_le first (packed_value form.words.lane_width w form.words.numbers (lane_of form.words.lane_width n) (step_of form.words.lane_width n)) && nat_le (packed_value form.words.lane_width w form.words.numbers (lane_of form.words.lane_width n) (step_of form.words.lane_width n)) last)) c.width.ensures.value
    ∙ ap (λ (t : ℕ). rows_of (λ n. nat_le first (packed_value t form.width form.words.numbers (lane_of t n) (step_of t n)) && nat_le (packed_value t form.width form.words.numbers (lane_of t n) (step_of t n)) last)) c.words.ensures.form.words
    ∙ rows_of-like (λ n. nat_le first (number n) && nat_le (number n) last) (λ n. between c.args.low c.args.high (frame_value form n))
    (λ n h.
    let below = packed_value-below form.lane_width form.width form.words.numbers (lane_of form.lane_width n) (step_of form.lane_width n) in
    let fits : number n ≤ 2 ^ form.width - 1 = omega (arith, below) in
    number_in_range r low high upper first last (number n) (2 ^ form.width - 1) top fits start stop
    ∙ ap (between low high) (ap (λ z. z +ℤ pos (number n)) re ∙ sym (c.in_ok-top.ensures.plain n))
    ∙ passed_between c.args.low c.args.high (frame_value form n) c.ranges.low c.ranges.high)
