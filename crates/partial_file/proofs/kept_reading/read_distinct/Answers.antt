use Rattle.std.proofs.Common.{arith}
use Rattle.segment_core.proofs.FormatLaws.{bytes_at}
use Rattle.segment_core.specs.Format.{IsLawful}
use Rattle.partial_file.proofs.PartialAnswerLaws.{values_is_lawful}
use Rattle.partial_file.proofs.Rising.{values_ascend}
use Rattle.partial_file.proofs.kept_reading.read_distinct.Goals as goal

pub from_rising-requires : goal.from_rising-requires
from_rising-requires c =
    let fit = bytes_at c.args.bytes.now (λ i. omega (arith, c.type_inv.bytes i)) in
    values_ascend c.in_ok-found.found.items (values_is_lawful.takes c.args.total c.args.bytes.now c.in_ok-found.found.items c.in_ok-found.rest.now fit c.in_ok-found.ensures).1
