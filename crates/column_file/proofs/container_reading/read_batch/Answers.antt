use Rattle.std.proofs.Common.{◌≡◌, ◌∙◌, ℕ, length, map, sym, ap, arith}
use Rattle.segment_core.specs.Segment.{batch_of}
use Rattle.replica_store.specs.Segments.{IsStored}
use Rattle.segment_core.proofs.FormatLaws.{bytes_at}
use Rattle.column_file.specs.SummaryBytes.{batch_name}
use Rattle.column_file.specs.ContainerBytes.{row_count, name_of, entry_of}
use Rattle.column_file.proofs.SummaryLaws.{batch_name_is_lawful}
use Rattle.column_file.proofs.ContainerLaws.{row_count_is_lawful}
use Rattle.column_file.proofs.ContainerReading.{rest_bytes, rest_after, name_proper}
use Rattle.column_file.proofs.container_reading.read_batch.Goals as goal

pub read_segment-requires-clause-rest : goal.read_segment-requires-clause-rest
read_segment-requires-clause-rest c =
    let fit = bytes_at c.args.bytes.now (λ i. omega (arith, c.type_inv.bytes i)) in
    let names = map name_of (map entry_of c.args.front.now) in
    let after_name = rest_after (batch_name names) (batch_name_is_lawful names) c.args.bytes.now c.args.rest.now c.in_ok-name.name c.in_ok-name.after_name.now fit c.requires c.in_ok-name.ensures.read in
    rest_after row_count row_count_is_lawful c.args.bytes.now c.in_ok-name.after_name.now c.in_ok-rows.rows c.in_ok-rows.after_count.now fit after_name c.in_ok-rows.ensures.read

pub returns-clause-found : goal.returns-clause-found
returns-clause-found c =
    let fit = bytes_at c.args.bytes.now (λ i. omega (arith, c.type_inv.bytes i)) in
    let names = map name_of (map entry_of c.args.front.now) in
    let rows : c.in_ok-segment.segment.rows ≡ batch_of (length c.in_ok-segment.segment.rows) c.in_ok-segment.segment.forms = c.in_ok-segment.ensures.rows ∙ ap (λ (n : ℕ). batch_of n c.in_ok-segment.segment.forms) (sym c.in_ok-segment.ensures.count) in
    let stored : IsStored c.args.schema.now (c.in_ok-name.name, c.in_ok-segment.segment) = record {
      proper = name_proper names _ c.args.rest.now c.in_ok-name.name c.in_ok-name.after_name.now (rest_bytes c.args.bytes.now c.args.rest.now fit c.requires) c.in_ok-name.ensures.read;
      fits = c.in_ok-segment.ensures.fits;
      widths = c.in_ok-segment.ensures.widths;
    } in
    record { stored = stored; rows = rows }
