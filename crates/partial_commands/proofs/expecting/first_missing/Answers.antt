-- The first of the names that are missing.
use Rattle.std.proofs.Common.{◌∙◌, ap, List}
use Rattle.std.specs.Prelude.{slice_get}
use Rattle.table_model.specs.declared.names.BatchName.{BatchName}
use Rattle.partial_commands.proofs.FirstMissing.{first_missing_is}
use Rattle.partial_commands.proofs.expecting.first_missing.Goals as goal

pub returns : goal.returns
returns c =
    first_missing_is c.in_ok-names.names c.args.held.now c.args.summaries.now c.in_ok-names.ensures c.in_ok-missing.missing.items c.copied.result c.in_ok-missing.ensures
    (c.copied.ensures ∙ c.first.ensures.value ∙ ap (λ (xs : List BatchName). slice_get xs 0) c.as_slice.ensures.value)
