-- One part more is joined, or it is at fault.
use Rattle.folder_commands.proofs.Joins.{first_made, first_stopped, next_made, next_stopped}
use Rattle.folder_commands.proofs.joining.joined.Goals as goal

pub returns-in-Some-clause-made : goal.returns-in-Some-clause-made
returns-in-Some-clause-made c = next_made c.with_part.result c.args.join c.in-Some.join (record { name = c.args.name.now; bytes = c.args.bytes.now }) c.in-Some.is c.with_part.ensures.joined

pub returns-in-Some-clause-stopped : goal.returns-in-Some-clause-stopped
returns-in-Some-clause-stopped c = next_stopped c.with_part.result c.args.join c.in-Some.join (record { name = c.args.name.now; bytes = c.args.bytes.now }) c.in-Some.is c.with_part.ensures.joined

pub returns-in-None-clause-made : goal.returns-in-None-clause-made
returns-in-None-clause-made c = first_made c.new.result c.args.join (record { name = c.args.name.now; bytes = c.args.bytes.now }) c.in-None.is c.new.ensures.opened

pub returns-in-None-clause-stopped : goal.returns-in-None-clause-stopped
returns-in-None-clause-stopped c = first_stopped c.new.result c.args.join (record { name = c.args.name.now; bytes = c.args.bytes.now }) c.in-None.is c.new.ensures.opened
