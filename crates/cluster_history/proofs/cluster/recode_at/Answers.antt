use Rattle.std.proofs.Common.{ap, get_or}
use Rattle.cluster_history.proofs.Recodes.{recodes_there}
use Rattle.cluster_history.proofs.cluster.recode_at.Goals as goal

pub returns : goal.returns
returns c =
    recodes_there c.args.stores.now c.args.place (get_or c.args.stores.now c.args.place c.index-stores-place.result) c.recode.new.self c.recode.result c.args.name c.args.column c.args.vector c.args.coding
    c.requires (ap (get_or c.args.stores.now c.args.place) c.index-stores-place.is) c.recode.ensures.acts c.recode.ensures.segments
