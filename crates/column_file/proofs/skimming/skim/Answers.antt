-- The ranges are the set of their rows.
use Rattle.column_file.proofs.SkimmedAsRead.{rows_skimmed}
use Rattle.column_file.proofs.skimming.skim.Goals as goal

pub returns : goal.returns
returns c =
    rows_skimmed c.args.bytes.now c.in_ok-schema.field-0.schema c.in_ok-schema.field-0.names.items c.in_ok-schema.field-0.ranges.items c.as_slice.result.now c.in_ok-deleted.deleted
    c.in_ok-schema.ensures.read c.as_slice.ensures.value c.in_ok-deleted.ensures
