-- Where no column has the name, each is passed over.
use Rattle.std.proofs.Common.{◌≡◌, List, length, not, ap, arith}
use Rattle.std.proofs.lemmas.List.Sums.{prefix_len-le-length}
use Rattle.table_model.specs.Identifier.{same_text}
use Rattle.table_model.specs.Table.{ColumnShape}
use Rattle.query_eval.proofs.tallies.aggregate.place_or_end.Goals as goal

pub returns-in-None : goal.returns-in-None
returns-in-None c =
    let columns = c.args.schema.now.columns in
    let name = c.args.column.now.name in
    let most = prefix_len-le-length (λ (column : ColumnShape). not (same_text column.name name)) columns in
    let all : length c.column_list.result.now ≡ length columns = ap (λ (l : List ColumnShape). length l) c.column_list.ensures.list in
    omega (arith, all, most, c.place_of.ensures.none c.in-None.is)
