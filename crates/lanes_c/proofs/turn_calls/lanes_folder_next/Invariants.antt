use Rattle.lanes_c.proofs.turn_calls.lanes_folder_next.Given as goal

abbrev pub ghost-drive : goal.ghost-drive
ghost-drive g a = g.before
