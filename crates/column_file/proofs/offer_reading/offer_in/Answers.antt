use Rattle.std.proofs.Common.{◌∙◌, List, map, All, sym, ap, subst, arith}
use Rattle.catalogue_join.specs.RowRange.{RowRange, rows_in}
use Rattle.segment_core.proofs.FormatLaws.{bytes_at}
use Rattle.column_file.specs.ContainerBytes.{entry_of, deleted_of}
use Rattle.column_file.specs.Files.{IsRangeGiven}
use Rattle.column_file.proofs.OfferReading.{are_offered, are_given, offer_is, offer_was_read}
use Rattle.column_file.proofs.offer_reading.offer_in.Goals as goal

pub tombs_of-requires : goal.tombs_of-requires
tombs_of-requires c =
    let fit = bytes_at c.args.bytes.now (λ i. omega (arith, c.type_inv.bytes i)) in
    let P : List RowRange → Type 0 = λ rs. All IsRangeGiven rs in
    subst P (sym c.as_slice.ensures.value) (are_given c.args.bytes.now c.in_ok-schema.schema (map entry_of c.in_ok-schema.batches.items) c.in_ok-schema.ranges.items fit c.in_ok-schema.ensures.read)

pub from_parts-requires : goal.from_parts-requires
from_parts-requires c =
    let fit = bytes_at c.args.bytes.now (λ i. omega (arith, c.type_inv.bytes i)) in
    are_offered c.args.bytes.now c.in_ok-schema.schema c.in_ok-schema.batches.items (map deleted_of c.in_ok-schema.ranges.items) fit c.in_ok-schema.ensures.read c.in_ok-schema.ensures.found

pub returns : goal.returns
returns c =
    let fit = bytes_at c.args.bytes.now (λ i. omega (arith, c.type_inv.bytes i)) in
    let offered = are_offered c.args.bytes.now c.in_ok-schema.schema c.in_ok-schema.batches.items (map deleted_of c.in_ok-schema.ranges.items) fit c.in_ok-schema.ensures.read c.in_ok-schema.ensures.found in
    let deleted = c.from_parts.ensures.deleted ∙ c.in_ok-tombs.ensures ∙ ap rows_in c.as_slice.ensures.value in
    let same = offer_is c.from_parts.result c.in_ok-schema.schema c.in_ok-schema.batches.items c.in_ok-schema.ranges.items c.in_ok-schema.ensures.found offered c.from_parts.ensures.schema c.from_parts.ensures.batches deleted c.from_parts.ensures.entries in
    offer_was_read c.args.bytes.now (c.in_ok-schema.schema, (map entry_of c.in_ok-schema.batches.items, map deleted_of c.in_ok-schema.ranges.items)) c.from_parts.result c.in_ok-schema.ensures.read same
