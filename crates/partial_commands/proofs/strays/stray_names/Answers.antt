-- The batches of the ranges are those of the deleted rows.
use Rattle.partial_commands.proofs.StrayNames.{strays_are}
use Rattle.partial_commands.proofs.strays.stray_names.Goals as goal

pub returns : goal.returns
returns c = strays_are c.ranges-2.result.now c.args.tombs.now c.ranges-2.ensures.maximal c.ranges-2.ensures.rows c.args.held.now c.in_ok-names.names c.in_ok-names.ensures
