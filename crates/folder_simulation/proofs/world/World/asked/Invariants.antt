use Rattle.std.proofs.Common.{[]}
use Rattle.folder_simulation.proofs.world.World.asked.Given as goal

abbrev pub ghost-next : goal.ghost-next
ghost-next a = []
