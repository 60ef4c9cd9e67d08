use Rattle.folder_turns.proofs.turn.Turn.go_on.Given as goal

abbrev pub ghost-step : goal.ghost-step
ghost-step g a = g.before
