-- The rows of the range are among those looked at.
use Rattle.std.proofs.Common.{rules, List, ◌≡◌, ℕ, ◌-◌, ◌^◌, ◌<◌, ◌&&◌, Bool, true, false, ℤ, pos, negsuc, int_lt, int_le, FitsSigned, to_z, of_z, ap, ◌∙◌, arith}
use Rattle.std.specs.Int.{w64, w128}
use Rattle.std.proofs.lemmas.Int.{ints, to_z-of_z}
use Rattle.transpose_order.specs.Mask.{rows_of, has}
use Rattle.transpose_order.specs.MaskWords.{has-rows_of}
use Rattle.bit_interleave.specs.Range.{value_at}
use Rattle.fused_kernels.specs.Seen.{LanesSeen, looked_at, between}
use Rattle.fused_kernels.proofs.RangeLemmas.{value_fits, past_greatest, before_least, rows_and, rows_and_not, each_row}
use Rattle.fused_kernels.proofs.SeenLemmas.{none_given, only_read}
use Rattle.fused_kernels.proofs.ranges.compare_range.Given as given
use Rattle.fused_kernels.proofs.ranges.compare_range.Goals as goal
use Rattle.fused_kernels.proofs.ranges.compare_range.Goals.{then-from-low-via-then-from-low, then-from-low-via-else-from-low+then-high-from}

pub returns-then-from-low-clause-no : goal.returns-then-from-low-clause-no
returns-then-from-low-clause-no g c =
    let s : LanesSeen = g.L.Lanes.seen c.args.lanes.now in
    let outside : (value : ℤ) → FitsSigned w64 value → between c.args.low c.args.high value ≡ false =
    elim c.then-from-low.branch [
      | then-from-low-via-then-from-low w ↦ λ value fits. let past : int_lt (pos (2 ^ 63 - 1)) c.args.low ≡ true = grind (arith, ints, to_z-of_z, w.if-from-low.true, c.from.ensures) in past_greatest c.args.low c.args.high value past fits
      | then-from-low-via-else-from-low+then-high-from w ↦ λ value fits. let before : int_lt c.args.high (negsuc (2 ^ 63 - 1)) ≡ true = grind (arith, ints, to_z-of_z, w.if-high-from.true, w.from-else-from-low.ensures) in before_least c.args.low c.args.high value before fits
    ] in
    c.rows_to_look_at-rows.ensures.rows
    ∙ each_row (looked_at s c.args.mask.now) (λ n. between c.args.low c.args.high (value_at s.values n)) (λ n h. outside (value_at s.values n) (value_fits s n c.rows_to_look_at-rows.ensures.form h))

pub returns-then-from-low-clause-only_read : goal.returns-then-from-low-clause-only_read
returns-then-from-low-clause-only_read g c =
    let s : LanesSeen = g.L.Lanes.seen c.args.lanes.now in
    only_read s s 0 (omega arith) (none_given s c.requires)

-- a row was found exactly where its value is in the range
found_where : (s : LanesSeen) (low high first last : ℤ) (found : List Bool) → found ≡ rows_of (λ n. between first last (value_at s.values n)) → ((n : ℕ) → n < 1024 → FitsSigned w64 (value_at s.values n)) → ((value : ℤ) → FitsSigned w64 value → int_le first value ≡ int_le low value) → ((value : ℤ) → FitsSigned w64 value → int_le value last ≡ int_le value high) → (n : ℕ) → n < 1024 → has found n ≡ between low high (value_at s.values n)
found_where s low high first last found is fit lower higher n h =
    let v = value_at s.values n in
    ap (λ m. has m n) is ∙ has-rows_of (λ n. between first last (value_at s.values n)) n h
    ∙ ap (λ b. b && int_le v last) (lower v (fit n h)) ∙ ap (λ b. int_le low v && b) (higher v (fit n h))

found_here : (g : given.Over) (c : goal.After-and_not g) → (n : ℕ) → n < 1024 → has c.rows_between-found.result n ≡ between c.args.low c.args.high (value_at (g.L.Lanes.seen c.args.lanes.now).values n)
found_here g c =
    let s : LanesSeen = g.L.Lanes.seen c.args.lanes.now in
    let first : ℤ = to_z w64 (of_z w64 c.first_from.result) in
    let last : ℤ = to_z w64 (of_z w64 c.last_up_to.result) in
    let first_fits : FitsSigned w64 c.first_from.result = search rules in
    let last_fits : FitsSigned w64 c.last_up_to.result = search rules in
    found_where s c.args.low c.args.high first last c.rows_between-found.result c.rows_between-found.ensures.rows (λ n h. value_fits s n c.rows_to_look_at-rows.ensures.form h)
    (λ value fits. ap (λ x. int_le x value) (to_z-of_z w64 c.first_from.result first_fits) ∙ c.first_from.ensures value fits ∙ ap (λ x. int_le x value) (to_z-of_z w128 c.args.low c.ranges.low))
    (λ value fits. ap (λ x. int_le value x) (to_z-of_z w64 c.last_up_to.result last_fits) ∙ c.last_up_to.ensures value fits ∙ ap (λ x. int_le value x) (to_z-of_z w128 c.args.high c.ranges.high))

pub returns-clause-yes : goal.returns-clause-yes
returns-clause-yes g c =
    let s : LanesSeen = g.L.Lanes.seen c.args.lanes.now in
    c.and.ensures
    ∙ rows_and (looked_at s c.args.mask.now) (λ n. between c.args.low c.args.high (value_at s.values n)) c.rows_to_look_at-rows.result c.rows_between-found.result c.rows_to_look_at-rows.ensures.rows (found_here g c)

pub returns-clause-no : goal.returns-clause-no
returns-clause-no g c =
    let s : LanesSeen = g.L.Lanes.seen c.args.lanes.now in
    c.and_not.ensures
    ∙ rows_and_not (looked_at s c.args.mask.now) (λ n. between c.args.low c.args.high (value_at s.values n)) c.rows_to_look_at-rows.result c.rows_between-found.result c.rows_to_look_at-rows.ensures.rows (found_here g c)
