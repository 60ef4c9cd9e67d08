use Rattle.folder_drive.proofs.change.Change.begin.Given as goal

abbrev pub ghost-follow : goal.ghost-follow
ghost-follow g a = g.before
