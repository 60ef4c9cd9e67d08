use Rattle.std.proofs.Common.{arith, codes}
use Rattle.segment_core.proofs.FormatLaws.{bytes_at}
use Rattle.column_file.specs.SummaryBytes.{head}
use Rattle.column_file.proofs.SummaryLaws.{head_is_lawful}
use Rattle.column_file.proofs.ContainerReading.{rest_after, rest_whole}
use Rattle.column_file.proofs.container_reading.read_container.Goals as goal

pub read_batches-requires : goal.read_batches-requires
read_batches-requires c =
    rest_after (head (codes "FLCF")) (head_is_lawful (codes "FLCF")) c.args.bytes.now c.args.bytes.now c.in_ok-schema.schema c.in_ok-schema.after_head.now (bytes_at c.args.bytes.now (λ i. omega (arith, c.type_inv.bytes i))) (rest_whole c.args.bytes.now) c.in_ok-schema.ensures
