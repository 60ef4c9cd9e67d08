use Rattle.folder_drive.proofs.change.Change.listed.Given as goal

abbrev pub ghost-go_on : goal.ghost-go_on
ghost-go_on g a = g.before
