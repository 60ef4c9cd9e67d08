use Rattle.folder_system.proofs.lock.wait.Given as goal

-- what is left of the patience
abbrev pub decreases-loop-tried : goal.decreases-loop-tried
decreases-loop-tried g l = l.patience.0
