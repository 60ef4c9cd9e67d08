use Rattle.std.proofs.Common.{[]}
use Rattle.folder_simulation.proofs.turning.step.Given as goal

abbrev pub ghost-go_on : goal.ghost-go_on
ghost-go_on a = []
