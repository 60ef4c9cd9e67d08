-- All rows but those that are true.
use Rattle.std.proofs.Common.{◌&&◌, not, true, ap, ◌∙◌}
use Rattle.transpose_order.specs.Mask.{has}
use Rattle.transpose_order.specs.MaskWords.{rows_of-like, has-rows_of}
use Rattle.transpose_order.proofs.masks.Mask.not.Goals as goal

pub returns : goal.returns
returns c =
    c.and_not.ensures
    ∙ rows_of-like _ _ (λ n h. ap (λ x. x && not (has c.args.self.now n)) (ap (λ m. has m n) c.all.ensures ∙ has-rows_of (λ _. true) n h))
