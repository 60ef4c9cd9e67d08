use Rattle.folder_drive.proofs.change.Change.list.Given as goal

abbrev pub ghost-follow : goal.ghost-follow
ghost-follow g a = g.before

abbrev pub ghost-listed : goal.ghost-listed
ghost-listed g a = g.before
