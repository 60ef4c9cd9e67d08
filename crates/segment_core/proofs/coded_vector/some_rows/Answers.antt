-- A mask whose first row is past its end has none.
use Rattle.std.proofs.Common.{◌<◌, Some, None, cond, length, sym, ◌∙◌, ap, arith}
use Rattle.segment_core.proofs.VectorLemmas.{no_row, some_row}
use Rattle.segment_core.proofs.coded_vector.some_rows.Goals as goal

pub returns-then-next_true-eq1024 : goal.returns-then-next_true-eq1024
returns-then-next_true-eq1024 c =
    let long = c.requires in
    let end = c.if-next_true-eq1024.true in
    sym (ap (λ b. cond b (Some c.args.mask.now) None) (no_row c.args.mask.now (λ n h. c.next_true.ensures.none n (omega arith) (omega arith))))

pub returns : goal.returns
returns c =
    let e = c.if-next_true-eq1024.false in
    let here = c.next_true.ensures.within in
    let within : c.next_true.result < 1024 = omega arith in
    let long : c.next_true.result < length c.args.mask.now = let l = c.requires in omega arith in
    ap Some c.in_ok-new.ensures ∙ sym (ap (λ b. cond b (Some c.args.mask.now) None) (some_row c.args.mask.now c.next_true.result long (c.next_true.ensures.here within)))
