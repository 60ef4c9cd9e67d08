use Rattle.std.proofs.Common.{◌≡◌, ◌∙◌, sym, subst, ℕ, List, IfOk}
use Rattle.std.specs.Prelude.{IfSome}
use Rattle.folder_drive.specs.Asks.{EndMade, IsMade, parts_told}
use Rattle.folder_drive.specs.declared.phase.Phase.{Phase}
use Rattle.folder_drive.proofs.change.Change.tell.Goals as goal

pub returns-in-Lists-clause-answered : goal.returns-in-Lists-clause-answered
returns-in-Lists-clause-answered g c =
    subst (λ (p : Phase). (parts : List (List ℕ)) → IsMade g.B.Brings.made_of g.B.Brings.answers p c.args.self.now.held c.args.self.now.made parts → IfOk c.list.result (λ over. IfSome over (EndMade g.B.Brings.answers (parts_told p c.args.answer parts))))
    (sym (sym c.replace.ensures.value ∙ c.in-Lists.is)) (λ parts pre. c.list.ensures.answered parts pre)

pub returns-in-Reads-clause-answered : goal.returns-in-Reads-clause-answered
returns-in-Reads-clause-answered g c =
    subst (λ (p : Phase). (parts : List (List ℕ)) → IsMade g.B.Brings.made_of g.B.Brings.answers p c.args.self.now.held c.args.self.now.made parts → IfOk c.read.result (λ over. IfSome over (EndMade g.B.Brings.answers (parts_told p c.args.answer parts))))
    (sym (sym c.replace.ensures.value ∙ c.in-Reads.is)) (λ parts pre. c.read.ensures.answered parts pre)

pub returns-in-Puts-clause-answered : goal.returns-in-Puts-clause-answered
returns-in-Puts-clause-answered g c =
    subst (λ (p : Phase). (parts : List (List ℕ)) → IsMade g.B.Brings.made_of g.B.Brings.answers p c.args.self.now.held c.args.self.now.made parts → IfOk c.put.result (λ over. IfSome over (EndMade g.B.Brings.answers (parts_told p c.args.answer parts))))
    (sym (sym c.replace.ensures.value ∙ c.in-Puts.is)) (λ parts pre. c.put.ensures.answered parts pre)
