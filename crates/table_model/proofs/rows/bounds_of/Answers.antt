-- The ends ascend, and none is past the cells.
use Rattle.std.proofs.Common.{◌≤◌, get_or, ℕ, sym, subst}
use Rattle.table_model.proofs.EndFacts.{row_bounds}
use Rattle.table_model.proofs.rows.bounds_of.Goals as goal

pub returns-clause-order : goal.returns-clause-order
returns-clause-order c =
    subst (λ (n : ℕ). n ≤ get_or c.args.ends.now c.args.ordinal 0) (sym c.start_of.ensures) (row_bounds 0 c.args.ends.now c.args.count c.args.ordinal c.requires.ends c.requires.row).0

pub returns-clause-within : goal.returns-clause-within
returns-clause-within c = (row_bounds 0 c.args.ends.now c.args.count c.args.ordinal c.requires.ends c.requires.row).1
