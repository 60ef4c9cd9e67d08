-- Columns are the same pair by pair, and lists of different lengths differ.
use Rattle.std.proofs.Common.{sym, ◌∙◌}
use Rattle.std.proofs.lemmas.Bool.{ne_eqb}
use Rattle.table_model.proofs.SameTable.{same_columns-zip, same_columns-lengths}
use Rattle.table_model.proofs.schema.same_columns.Goals as goal

pub returns-then-a-b : goal.returns-then-a-b
returns-then-a-b c =
    c.same_pairs.ensures ∙ same_columns-zip c.args.a.now c.args.b.now c.if-a-b.true

pub returns-else-a-b : goal.returns-else-a-b
returns-else-a-b c = ne_eqb _ _ c.if-a-b.false ∙ sym (same_columns-lengths c.args.a.now c.args.b.now c.if-a-b.false)
