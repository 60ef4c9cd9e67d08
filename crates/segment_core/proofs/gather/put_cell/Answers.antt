-- The range of one row sets that row alone.
use Rattle.std.proofs.Common.{◌≡◌, ◌+◌, true, false, cond, ◌&&◌, nat_le, nat_lt, length, sym, ◌∙◌, ap, arith}
use Rattle.std.proofs.lemmas.Bool.Decides.{nat_tests}
use Rattle.transpose_order.specs.Mask.{has}
use Rattle.transpose_order.specs.MaskWords.{has-rows_of, length-rows_of}
use Rattle.segment_core.specs.CodedVector.{is_null_cell}
use Rattle.segment_core.proofs.gather.put_cell.Goals as goal

pub returns-in-None-clause-null : goal.returns-in-None-clause-null
returns-in-None-clause-null c =
    let here : nat_le c.args.row c.args.row && nat_lt c.args.row (c.args.row + 1) ≡ true = grind (arith, nat_tests) in
    ap (λ m. has m c.args.row) c.set_range.ensures ∙ has-rows_of _ c.args.row c.requires.row
    ∙ ap (λ b. cond b true (has c.args.nulls.now c.args.row)) here
    ∙ ap is_null_cell (sym c.in-None.is)

pub returns-in-None-clause-other_nulls : goal.returns-in-None-clause-other_nulls
returns-in-None-clause-other_nulls c = λ n l ne.
    let other : nat_le c.args.row n && nat_lt n (c.args.row + 1) ≡ false = grind (arith, nat_tests) in
    ap (λ m. has m n) c.set_range.ensures ∙ has-rows_of _ n l
    ∙ ap (λ b. cond b true (has c.args.nulls.now n)) other

pub returns-in-None-clause-long : goal.returns-in-None-clause-long
returns-in-None-clause-long c = λ _. ap length c.set_range.ensures ∙ length-rows_of _
