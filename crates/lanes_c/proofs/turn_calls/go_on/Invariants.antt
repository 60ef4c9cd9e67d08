use Rattle.lanes_c.proofs.turn_calls.go_on.Given as goal

abbrev pub ghost-go_on : goal.ghost-go_on
ghost-go_on g a = g.before
