-- Rows that pass the test have proper names.
use Rattle.std.proofs.Common.{sym, ◌∙◌}
use Rattle.std.proofs.lemmas.List.Sums.{AllPass-from_list_all}
use Rattle.table_model.specs.Name.{is_proper_name}
use Rattle.table_model.specs.declared.names.RowName.{RowName}
use Rattle.catalogue_join_tests.proofs.row_list_tests.set_of.Goals as goal

pub from_rows-requires : goal.from_rows-requires
from_rows-requires c = AllPass-from_list_all (λ (row : RowName). is_proper_name row.batch) c.args.rows.now (sym c.are_proper.ensures ∙ c.if-are_proper.true)
