-- What is brought is left, since what it relies on is kept and the part is stored.
use Rattle.std.specs.Prelude.{map, string_bytes}
use Rattle.folder_protocol.specs.declared.putting.Outcome.TheVariants.{OnDisk}
use Rattle.folder_parts.specs.Covers.{folder_parts}
use Rattle.folder_commands.proofs.Relied.{all_left}
use Rattle.folder_commands.proofs.relying.keep_and_put.Goals as goal

pub returns-clause-left : goal.returns-clause-left
returns-clause-left g c = λ may.
    all_left c.keep_and_put.result OnDisk c.args.bytes.now (map string_bytes c.args.relied.now) _ _ (c.keep_and_put.ensures.kept folder_parts may) (c.keep_and_put.ensures.stored folder_parts may.0)
