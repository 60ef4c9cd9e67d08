-- No row is left, or each has its place by its one cell or by its key.
use Rattle.std.proofs.Common.{◌≡◌, ◌∙◌, get_or, length, arith}
use Rattle.query_eval.specs.Keys.{key_cell}
use Rattle.query_eval.specs.declared.grouping.key_columns.KeyColumn.{KeyColumn}
use Rattle.query_eval.proofs.PlaceLemmas.{only_one, placed_nowhere}
use Rattle.query_eval.proofs.grouping.row_places.place_each.Goals as goal

pub returns-then-next_true-eq1024-clause-placed : goal.returns-then-next_true-eq1024-clause-placed
returns-then-next_true-eq1024-clause-placed c = λ by v shown h.
    placed_nowhere 1024 by v c.args.mask.now c.args.places.now.index.entries c.args.out.now (λ n l. c.next_true.ensures.none n (omega arith) (omega (arith, l, c.if-next_true-eq1024.true)))

pub returns-then-columns-eq1-clause-placed : goal.returns-then-columns-eq1-clause-placed
returns-then-columns-eq1-clause-placed c = λ by v shown h.
    let columns = c.args.columns.now in
    let one : length columns ≡ 1 = omega (arith, c.if-columns-eq1.true) in
    let column : KeyColumn = c.index-columns-0.result in
    let at : column ≡ get_or columns 0 column = c.index-columns-0.is in
    c.in_ok-place_by_value.ensures.placed by v (λ n l on. only_one (λ d. key_cell d n) columns column one at ∙ shown n l on) h

pub returns-clause-placed : goal.returns-clause-placed
returns-clause-placed c = λ by v shown h. c.in_ok-place_by_key.ensures.placed by v shown h
