-- Both walks' numbers are the raised values.
use Rattle.native_lanes.specs.Packed.{value_of}
use Rattle.native_lanes.proofs.packed.Packed.beside.Goals as goal

pub returns-in-16-clause-value : goal.returns-in-16-clause-value
returns-in-16-clause-value c = c.values_beside.ensures (value_of c.args.self) (value_of c.args.other) c.walk_16.ensures c.walk_16-in-16.ensures

pub returns-in-32-clause-value : goal.returns-in-32-clause-value
returns-in-32-clause-value c = c.values_beside-in-32.ensures (value_of c.args.self) (value_of c.args.other) c.walk_32.ensures c.walk_32-in-32.ensures

pub returns-in-64-clause-value : goal.returns-in-64-clause-value
returns-in-64-clause-value c = c.values_beside-in-64.ensures (value_of c.args.self) (value_of c.args.other) c.walk_64.ensures c.walk_64-in-64.ensures
