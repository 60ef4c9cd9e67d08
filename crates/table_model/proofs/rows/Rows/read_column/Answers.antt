-- Each place has the cell of its row.
use Rattle.std.proofs.Common.{ℕ, length, ◌≡◌, ◌+◌, ◌≤◌, ◌∙◌, ap, take, drop, map, None, get_or, arith}
use Rattle.table_model.specs.State.{Cells}
use Rattle.table_model.proofs.EndFacts.{column_part}
use Rattle.table_model.proofs.rows.Rows.read_column.Goals as goal

pub returns : goal.returns
returns c =
    let same : length c.loop-n.cells ≡ length c.args.cells.now = c.loop-n.auto.cells in
    let past = c.loop-n-test.false in
    let rows : c.args.first + length c.loop-n.cells ≤ length c.args.self.now = let room = c.requires.rows in omega arith in
    column_part c.args.self.now c.args.column c.args.first c.loop-n.cells rows (λ k l. c.loop-n.invariant k (let e = c.loop-n.auto.n-end in omega arith))
    ∙ ap (λ (n : ℕ). take n (drop c.args.first (map (λ (row : Cells). get_or row c.args.column None) c.args.self.now))) same
