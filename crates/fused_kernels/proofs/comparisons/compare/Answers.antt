-- A comparison is a range or the rest.
use Rattle.std.proofs.Common.{rules, ◌≡◌, not, Bool, true, false, ℤ, if◌then◌else◌, FitsSigned, to_z, of_z, refl, sym, ap, ◌∙◌}
use Rattle.std.specs.Int.{w128}
use Rattle.std.proofs.lemmas.Int.{to_z-of_z}
use Rattle.table_model.specs.Truth.{compared}
use Rattle.table_model.specs.declared.op.Op.{Op}
use Rattle.bit_interleave.specs.Range.{value_at}
use Rattle.fused_kernels.specs.Seen.{LanesSeen, looked_at, between}
use Rattle.fused_kernels.proofs.RangeLemmas.{value_fits, rows_alike}
use Rattle.fused_kernels.proofs.comparisons.compare.Goals as goal

-- the bounds as they are passed, of 128 bits
passed : (low high value : ℤ) → FitsSigned w128 low → FitsSigned w128 high → between (to_z w128 (of_z w128 low)) (to_z w128 (of_z w128 high)) value ≡ between low high value
passed low high value fl fh =
    ap (λ x. between x (to_z w128 (of_z w128 high)) value) (to_z-of_z w128 low fl) ∙ ap (λ x. between low x value) (to_z-of_z w128 high fh)

not_not : (b : Bool) → not (not b) ≡ b
not_not true = refl
not_not false = refl

-- the value is in the range where the comparison holds, or out of it
within_where : (op : Op) (literal value : ℤ) (inside b : Bool) → inside ≡ true → FitsSigned w128 literal → compared op value (to_z w128 (of_z w128 literal)) ≡ (if inside then b else not b) → b ≡ compared op value literal
within_where op literal value inside b e fits is =
    sym (ap (compared op value) (sym (to_z-of_z w128 literal fits)) ∙ is ∙ ap (λ t. if t then b else not b) e)

without_where : (op : Op) (literal value : ℤ) (inside b : Bool) → inside ≡ false → FitsSigned w128 literal → compared op value (to_z w128 (of_z w128 literal)) ≡ (if inside then b else not b) → not b ≡ compared op value literal
without_where op literal value inside b e fits is =
    sym (ap (compared op value) (sym (to_z-of_z w128 literal fits)) ∙ is ∙ ap (λ t. if t then b else not b) e)

pub returns-then-inside-clause-yes : goal.returns-then-inside-clause-yes
returns-then-inside-clause-yes g c =
    let s : LanesSeen = g.L.Lanes.seen c.args.lanes.now in
    let low = c.range_of-low.result.0 in
    let high = c.range_of-low.result.1 in
    let fl : FitsSigned w128 low = search rules in
    let fh : FitsSigned w128 high = search rules in
    c.compare_range-within.ensures.yes
    ∙ rows_alike (looked_at s c.args.mask.now) (λ n. between (to_z w128 (of_z w128 low)) (to_z w128 (of_z w128 high)) (value_at s.values n)) (λ n. compared c.args.op (value_at s.values n) c.args.literal)
    (λ n h. passed low high (value_at s.values n) fl fh ∙ within_where c.args.op c.args.literal (value_at s.values n) c.range_of-low.result.2 _ c.if-inside.true c.ranges.literal (c.range_of-low.ensures (value_at s.values n) (value_fits s n c.compare_range-within.ensures.form h)))

pub returns-then-inside-clause-no : goal.returns-then-inside-clause-no
returns-then-inside-clause-no g c =
    let s : LanesSeen = g.L.Lanes.seen c.args.lanes.now in
    let low = c.range_of-low.result.0 in
    let high = c.range_of-low.result.1 in
    let fl : FitsSigned w128 low = search rules in
    let fh : FitsSigned w128 high = search rules in
    c.compare_range-within.ensures.no
    ∙ rows_alike (looked_at s c.args.mask.now) (λ n. not (between (to_z w128 (of_z w128 low)) (to_z w128 (of_z w128 high)) (value_at s.values n))) (λ n. not (compared c.args.op (value_at s.values n) c.args.literal))
    (λ n h. ap not (passed low high (value_at s.values n) fl fh ∙ within_where c.args.op c.args.literal (value_at s.values n) c.range_of-low.result.2 _ c.if-inside.true c.ranges.literal (c.range_of-low.ensures (value_at s.values n) (value_fits s n c.compare_range-within.ensures.form h))))

pub returns-clause-yes : goal.returns-clause-yes
returns-clause-yes g c =
    let s : LanesSeen = g.L.Lanes.seen c.args.lanes.now in
    let low = c.range_of-low.result.0 in
    let high = c.range_of-low.result.1 in
    let fl : FitsSigned w128 low = search rules in
    let fh : FitsSigned w128 high = search rules in
    c.compare_range-within.ensures.no
    ∙ rows_alike (looked_at s c.args.mask.now) (λ n. not (between (to_z w128 (of_z w128 low)) (to_z w128 (of_z w128 high)) (value_at s.values n))) (λ n. compared c.args.op (value_at s.values n) c.args.literal)
    (λ n h. ap not (passed low high (value_at s.values n) fl fh) ∙ without_where c.args.op c.args.literal (value_at s.values n) c.range_of-low.result.2 (between low high (value_at s.values n)) c.if-inside.false c.ranges.literal (c.range_of-low.ensures (value_at s.values n) (value_fits s n c.compare_range-within.ensures.form h)))

pub returns-clause-no : goal.returns-clause-no
returns-clause-no g c =
    let s : LanesSeen = g.L.Lanes.seen c.args.lanes.now in
    let low = c.range_of-low.result.0 in
    let high = c.range_of-low.result.1 in
    let fl : FitsSigned w128 low = search rules in
    let fh : FitsSigned w128 high = search rules in
    c.compare_range-within.ensures.yes
    ∙ rows_alike (looked_at s c.args.mask.now) (λ n. between (to_z w128 (of_z w128 low)) (to_z w128 (of_z w128 high)) (value_at s.values n)) (λ n. not (compared c.args.op (value_at s.values n) c.args.literal))
    (λ n h. passed low high (value_at s.values n) fl fh ∙ sym (not_not _) ∙ ap not (without_where c.args.op c.args.literal (value_at s.values n) c.range_of-low.result.2 (between low high (value_at s.values n)) c.if-inside.false c.ranges.literal (c.range_of-low.ensures (value_at s.values n) (value_fits s n c.compare_range-within.ensures.form h))))
