use Rattle.std.proofs.Common.{◌≡◌, ◌∷◌, sym, subst, ap, ℕ, List, IfOk}
use Rattle.std.specs.Prelude.{IfSome}
use Rattle.folder_drive.specs.Asks.{EndMade, parts_with}
use Rattle.folder_turns.specs.declared.request.Answer.{Answer}
use Rattle.folder_drive.proofs.change.Change.read.Goals as goal

pub returns-in-Found-clause-answered : goal.returns-in-Found-clause-answered
returns-in-Found-clause-answered g c = λ parts pre.
    subst (λ (a : Answer). IfOk c.take.result (λ over. IfSome over (EndMade g.B.Brings.answers (parts_with a parts)))) (sym c.in-Found.is)
    (subst (λ (b : List ℕ). IfOk c.take.result (λ over. IfSome over (EndMade g.B.Brings.answers (b ∷ parts)))) c.as_slice.ensures.value (c.take.ensures.answered parts pre))
