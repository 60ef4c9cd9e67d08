use Rattle.folder_turns.proofs.turn.Turn.step.Given as goal

abbrev pub ghost-next : goal.ghost-next
ghost-next g a = g.before
