use Rattle.folder_drive.proofs.change.Change.tell.Given as goal

abbrev pub ghost-list : goal.ghost-list
ghost-list g a = g.before

abbrev pub ghost-read : goal.ghost-read
ghost-read g a = g.before

abbrev pub ghost-put : goal.ghost-put
ghost-put g a = g.before
