-- The line was read as the words of a table, and its file is made.
use Rattle.std.specs.Prelude.{◌≡◌, Some}
use Rattle.script_lines.specs.Line.{command_of}
use Rattle.script_lines.specs.declared.command.Command.TheVariants.{Table as MakesTable}
use Rattle.lanes_c.specs.Rooms.{given_by}
use Rattle.lanes_c.proofs.Givings.{created_given}
use Rattle.lanes_c.proofs.changing.created.Goals as goal

pub returns-in-Ok-Table : goal.returns-in-Ok-Table
returns-in-Ok-Table c =
    let read = c.in-Ok-Table.ensures.command in
    let is = c.in-Ok-Table.field-0-is in
    let found : command_of c.as_slice.result.now ≡ Some (MakesTable c.in-Ok-Table.table) = cc in
    created_given (given_by c.made.result) c.args.words.now _ _ c.in-Ok-Table.table c.as_slice.ensures.value c.in_ok-line.ensures found c.made.ensures
