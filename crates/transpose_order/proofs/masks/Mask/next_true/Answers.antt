-- The rows of the list are those of the words.
use Rattle.std.proofs.Common.{◌∙◌, arith}
use Rattle.transpose_order.proofs.MaskLemmas.{has-words}
use Rattle.transpose_order.proofs.masks.Mask.next_true.Goals as goal

pub returns-clause-none : goal.returns-clause-none
returns-clause-none c = λ n from below.
    has-words _ _ c.self.view_is n (omega (arith, c.next_row.ensures.within)) ∙ c.next_row.ensures.none n from below

pub returns-clause-here : goal.returns-clause-here
returns-clause-here c = λ h. has-words _ _ c.self.view_is c.next_row.result h ∙ c.next_row.ensures.here h
