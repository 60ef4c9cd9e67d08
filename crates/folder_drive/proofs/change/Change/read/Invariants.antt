use Rattle.folder_drive.proofs.change.Change.read.Given as goal

abbrev pub ghost-take : goal.ghost-take
ghost-take g a = g.before
