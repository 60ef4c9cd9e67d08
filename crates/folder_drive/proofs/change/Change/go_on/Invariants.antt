use Rattle.folder_drive.proofs.change.Change.go_on.Given as goal

abbrev pub ghost-decide : goal.ghost-decide
ghost-decide g a = g.before
