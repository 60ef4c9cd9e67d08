-- No name, no mark.
use Rattle.std.proofs.Common.{refl}
use Rattle.table_model.specs.Table.{column_limit}
use Rattle.query_parser.proofs.Visits.{get_or-unmarked}
use Rattle.query_parser.proofs.names.Names.new.Goals as goal

pub loop-mention-init : goal.loop-mention-init
loop-mention-init c = (refl, λ i h. get_or-unmarked column_limit i)
