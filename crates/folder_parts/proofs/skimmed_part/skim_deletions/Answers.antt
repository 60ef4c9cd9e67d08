-- A part that has none of the names has nothing else that matters.
use Rattle.std.proofs.Common.{ap, sym, ◌∙◌, arith, length}
use Rattle.std.specs.List.{list_any}
use Rattle.column_file.proofs.SkimmedAsRead.{files_are_skimmed}
use Rattle.replica_changes.specs.Loads.{is_one_of}
use Rattle.segment_core.proofs.FormatLaws.{bytes_at}
use Rattle.folder_parts.proofs.EnoughOfParts.{deletions_enough}
use Rattle.folder_parts.proofs.skimmed_part.skim_deletions.Goals as goal

pub returns-clause-skimmed : goal.returns-clause-skimmed
returns-clause-skimmed c = λ r held.
    deletions_enough files_are_skimmed c.args.names.first c.args.names.count c.args.bytes.now r c.in_ok-store.store.replica c.from_parts-offer.result
    c.in-Ok.skimmed.schema c.in-Ok.skimmed.names.items c.in-Ok.skimmed.deleted c.len-batches.result
    (bytes_at c.args.bytes.now (λ i. omega (arith, c.type_inv.bytes i))) held c.in-Ok.ensures
    (ap (list_any (is_one_of c.args.names.first c.args.names.count)) (sym c.as_slice.ensures.value) ∙ sym c.holds_any.ensures ∙ c.if-holds_any.false)
    c.from_parts-offer.ensures.schema c.from_parts-offer.ensures.batches c.from_parts-offer.ensures.deleted (c.from_parts-offer.ensures.entries ∙ c.new.ensures.items)
    c.in_ok-store.ensures.value (omega (arith, c.len-batches.ensures, c.as_slice.ensures.len, ap length c.as_slice.ensures.value))

pub returns-clause-none : goal.returns-clause-none
returns-clause-none c = (
  (c.in-Ok.skimmed.schema, (c.in-Ok.skimmed.names.items, c.in-Ok.skimmed.deleted)),
  c.in-Ok.ensures,
  ap (list_any (is_one_of c.args.names.first c.args.names.count)) (sym c.as_slice.ensures.value) ∙ sym c.holds_any.ensures ∙ c.if-holds_any.false,
)
