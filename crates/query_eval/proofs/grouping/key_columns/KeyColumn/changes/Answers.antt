-- No change where both the values and the nulls are the same.
use Rattle.query_eval.proofs.SliceLemmas.{unchanged_value}
use Rattle.query_eval.proofs.grouping.key_columns.KeyColumn.changes.Goals as goal

pub returns : goal.returns
returns c = λ n l off. unchanged_value c.args.self.now.nulls c.changed_rows.result c.turning_rows.result c.or.result c.args.self.now.values n l c.changed_rows.ensures (c.turning_rows.ensures n l) c.or.ensures off
