-- All rows found are among all rows.
use Rattle.std.proofs.Common.{◌&&◌, not, true, if◌then◌else◌, sym, ap, ◌∙◌}
use Rattle.transpose_order.specs.Mask.{has}
use Rattle.transpose_order.specs.MaskWords.{rows_of-like, has-rows_of}
use Rattle.fused_kernels.proofs.range_rows.held.Goals as goal

pub returns-then-inside : goal.returns-then-inside
returns-then-inside c =
    let found = c.args.found.now in
    c.and.ensures
    ∙ rows_of-like (λ n. has c.all.result n && has found n) (λ n. if c.args.inside then has found n else not (has found n))
    (λ n h. ap (λ b. b && has found n) (ap (λ m. has m n) c.all.ensures ∙ has-rows_of (λ _. true) n h) ∙ sym (ap (λ b. if b then has found n else not (has found n)) c.if-inside.true))
