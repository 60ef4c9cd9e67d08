-- What is skimmed is what the bytes hold.
use Rattle.std.proofs.Common.{arith}
use Rattle.segment_core.proofs.FormatLaws.{bytes_at}
use Rattle.column_file.proofs.SkimmedAsRead.{files_are_skimmed}
use Rattle.folder_commands.proofs.Relied.{none_on}
use Rattle.folder_commands.proofs.reliance.Reliance.is_on.Goals as goal

pub returns-in-Ok-clause-none : goal.returns-in-Ok-clause-none
returns-in-Ok-clause-none c = λ none.
    none_on files_are_skimmed c.args.self.now c.args.bytes.now c.in-Ok.found.schema c.in-Ok.found.names.items c.in-Ok.found.deleted
    (bytes_at c.args.bytes.now (λ i. omega (arith, c.type_inv.bytes i))) c.in-Ok.ensures (c.meets.ensures none)
