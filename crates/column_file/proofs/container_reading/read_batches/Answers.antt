use Rattle.std.proofs.Common.{arith}
use Rattle.segment_core.proofs.FormatLaws.{bytes_at}
use Rattle.column_file.specs.SummaryBytes.{name_count}
use Rattle.column_file.proofs.SummaryLaws.{name_count_is_lawful}
use Rattle.column_file.proofs.ContainerReading.{rest_after}
use Rattle.column_file.proofs.container_reading.read_batches.Goals as goal

pub read_batch_list-requires : goal.read_batch_list-requires
read_batch_list-requires c =
    rest_after name_count name_count_is_lawful c.args.bytes.now c.args.rest.now c.in_ok-count.count c.in_ok-count.after_count.now (bytes_at c.args.bytes.now (λ i. omega (arith, c.type_inv.bytes i))) c.requires c.in_ok-count.ensures.read
