-- Values that pass a test are equal, and a value passes it beside itself.
use Rattle.std.proofs.Common.{subst, true, ◌≡◌}
use Rattle.table_model.specs.State.{Batch, same_rows}
use Rattle.table_model.specs.Table.{Table, same_table}
use Rattle.table_model.proofs.SameRows.{one_batch, itself_batch}
use Rattle.table_model.proofs.SameTable.{one_table, itself_table}
use Rattle.table_model.proofs.laws.sameness_laws.Goals as goal

pub returns : goal.returns
returns c = record {
  tables = λ s t. (one_table s t, λ same. subst (λ (u : Table). same_table s u ≡ true) same (itself_table s));
  rows = λ xs ys. (one_batch xs ys, λ same. subst (λ (zs : Batch). same_rows xs zs ≡ true) same (itself_batch xs));
}
