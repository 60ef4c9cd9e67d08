-- What is enough of the parts before is so with one more.
use Rattle.folder_parts.specs.Parts.{PartForm}
use Rattle.folder_commands.proofs.Skims.{first_more, more_made, more_stopped, next_more}
use Rattle.folder_commands.proofs.skimming.skim_more.Goals as goal

pub returns-in-Some-clause-made : goal.returns-in-Some-clause-made
returns-in-Some-clause-made c =
    let part : PartForm = record { name = c.args.name.now; bytes = c.args.bytes.now } in
    more_made c.with_part.result c.args.had c.args.names.first c.args.names.count part
    (next_more c.in-Some.skim c.with_part.result c.args.names.first c.args.names.count part c.with_part.ensures.skimmed c.args.had c.in-Some.is)

pub returns-in-Some-clause-stopped : goal.returns-in-Some-clause-stopped
returns-in-Some-clause-stopped c =
    let part : PartForm = record { name = c.args.name.now; bytes = c.args.bytes.now } in
    more_stopped c.with_part.result c.args.had c.args.names.first c.args.names.count part
    (next_more c.in-Some.skim c.with_part.result c.args.names.first c.args.names.count part c.with_part.ensures.skimmed c.args.had c.in-Some.is)

pub returns-in-None-clause-made : goal.returns-in-None-clause-made
returns-in-None-clause-made c =
    let part : PartForm = record { name = c.args.name.now; bytes = c.args.bytes.now } in
    more_made c.new.result c.args.had c.args.names.first c.args.names.count part (first_more c.args.had c.new.result c.args.names.first c.args.names.count part c.in-None.is c.new.ensures.skimmed)

pub returns-in-None-clause-stopped : goal.returns-in-None-clause-stopped
returns-in-None-clause-stopped c =
    let part : PartForm = record { name = c.args.name.now; bytes = c.args.bytes.now } in
    more_stopped c.new.result c.args.had c.args.names.first c.args.names.count part (first_more c.args.had c.new.result c.args.names.first c.args.names.count part c.in-None.is c.new.ensures.skimmed)
