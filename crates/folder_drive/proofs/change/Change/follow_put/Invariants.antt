use Rattle.folder_drive.proofs.change.Change.follow_put.Given as goal

abbrev pub ghost-follow : goal.ghost-follow
ghost-follow g a = g.before
