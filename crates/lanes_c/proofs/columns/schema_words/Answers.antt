-- One column more.
use Rattle.std.proofs.Common.{◌≡◌, ◌+◌, ◌<◌, ℕ, List, [], ◌∷◌, ◌++◌, length, take, get_or, sym, ap, ◌∙◌, arith, append_assoc, append-nil}
use Rattle.std.specs.List.{flat_map}
use Rattle.std.proofs.lemmas.List.{take_all}
use Rattle.table_model.specs.Table.{ColumnShape}
use Rattle.lanes_c.specs.ColumnCalls.{column_words}
use Rattle.lanes_c.proofs.ColumnGivings.{words-more}
use Rattle.lanes_c.proofs.columns.schema_words.Goals as goal

pub loop-column-init : goal.loop-column-init
loop-column-init c =
    c.in_ok-extend_from_slice.ensures.items ∙ ap (λ (l : List ℕ). l ++ c.as_bytes.result.now) c.new-words.ensures.items
    ∙ c.as_bytes.ensures.value ∙ c.table.ensures ∙ sym (append-nil c.args.schema.now.name)

pub loop-column-preserved : goal.loop-column-preserved
loop-column-preserved c =
    let columns : List ColumnShape = c.args.schema.now.columns in
    let name : List ℕ = c.args.schema.now.name in
    let i : ℕ = c.loop-column.column-index in
    let column : ColumnShape = c.column-item.result in
    let same = c.column_list-column-items.ensures.list in
    let inside : i < length columns = omega (arith, c.loop-column-test.true, ap length same) in
    let is : column ≡ get_or columns i column = c.column-item.is ∙ ap (λ (l : List ColumnShape). get_or l i column) same in
    c.in_ok-push_column.ensures ∙ ap (λ l. l ++ column_words column) c.loop-column.invariant
    ∙ append_assoc name (flat_map column_words (take i columns)) (column_words column)
    ∙ ap (λ l. name ++ l) (sym (words-more columns i column inside is))

pub returns : goal.returns
returns c =
    let columns : List ColumnShape = c.args.schema.now.columns in
    c.loop-column.invariant
    ∙ ap (λ (l : List ColumnShape). c.args.schema.now.name ++ flat_map column_words l) (take_all c.loop-column.column-index columns (omega (arith, c.loop-column-test.false, ap length c.column_list-column-items.ensures.list)))
