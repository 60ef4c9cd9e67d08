-- One vector is counted in its coding.
use Rattle.std.proofs.Common.{◌≡◌, ◌≤◌, ◌+◌, ◌∙◌, ap, arith}
use Rattle.segment_core.specs.Coded.{payload_bytes}
use Rattle.replica_reports.specs.ColumnFigures.{in_coding, vector_bytes}
use Rattle.replica_reports.proofs.VectorParts.{one_part, one_few, mask_few}
use Rattle.replica_reports.proofs.column_parts.ColumnParts.of.Goals as goal

pub returns-clause-parts : goal.returns-clause-parts
returns-clause-parts c =
    let payload : c.from-payload.result ≡ payload_bytes c.args.vector.now.coded = c.from-payload.ensures ∙ c.bytes_len.ensures ∙ ap payload_bytes c.coded.ensures in
    let bytes : 5 + c.mask_bytes.result + c.from-payload.result ≡ vector_bytes c.args.vector.now = λ i. 5 + c.mask_bytes.ensures i + payload i in
    c.in_coding.ensures ∙ (λ i. in_coding (c.coding.ensures i) (bytes i)) ∙ one_part c.args.vector.now

pub returns-clause-few : goal.returns-clause-few
returns-clause-few c =
    let few : 5 + c.mask_bytes.result + c.from-payload.result ≤ 65668 = omega (arith, c.mask_bytes.ensures, mask_few c.args.vector.now.nulls, c.bytes_len.type_inv, c.from-payload.ensures) in
    one_few c.coding.result (5 + c.mask_bytes.result + c.from-payload.result) c.in_coding.result few c.in_coding.ensures
