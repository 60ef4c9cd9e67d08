use Rattle.std.proofs.Common.{rules, ◌≡◌, ◌∷◌, sym, subst, ℕ, List, MatchOption}
use Rattle.folder_turns.specs.Orders.{matter_of}
use Rattle.folder_turns.specs.declared.order.Order.{Order}
use Rattle.folder_drive.proofs.change.Change.put.Goals as goal

pub returns-clause-answered : goal.returns-clause-answered
returns-clause-answered g c = λ parts pre. c.follow_put.ensures.answered parts (subst (λ (o : Order). MatchOption c.args.self.now.made ⊥ (λ m. g.B.Brings.answers m o.task (matter_of o) parts)) (sym c.tell.ensures.task) pre)
