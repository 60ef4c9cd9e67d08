use Rattle.folder_drive.proofs.change.Change.put.Given as goal

abbrev pub ghost-follow_put : goal.ghost-follow_put
ghost-follow_put g a = g.before
