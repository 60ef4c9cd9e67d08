-- By the one cell.
use Rattle.std.proofs.Common.{rules, ◌≡◌, ◌∙◌, ◌∷◌, [], Some, None, cond, pos, ap, subst, get_or, length, FitsSigned, w64, of_z, to_z, arith}
use Rattle.std.proofs.lemmas.Int.{to_z-of_z}
use Rattle.transpose_order.specs.Mask.{has}
use Rattle.table_model.specs.State.{Cells}
use Rattle.query_eval.specs.Keys.{key_cell}
use Rattle.query_eval.specs.Places.{IsTakenIn}
use Rattle.query_eval.specs.declared.grouping.key_columns.KeyColumn.{KeyColumn}
use Rattle.query_eval.proofs.PlaceLemmas.{only_one}
use Rattle.query_eval.proofs.grouping.slices.place_of.Goals as goal

pub returns-then-columns-eq1-clause-taken : goal.returns-then-columns-eq1-clause-taken
returns-then-columns-eq1-clause-taken c = λ h.
    let columns = c.args.columns.now in
    let one : length columns ≡ 1 = omega (arith, c.if-columns-eq1.true) in
    let column : KeyColumn = c.index-columns-0.result in
    let at : column ≡ get_or columns 0 column = c.index-columns-0.is in
    let row = c.args.row in
    let fits : FitsSigned w64 (get_or column.values row (pos 0)) = search rules in
    let cell : cond c.get.result None (Some (to_z w64 (of_z w64 (get_or column.values row (pos 0))))) ≡ key_cell column row =
    ap (λ b. cond b None (Some (to_z w64 (of_z w64 (get_or column.values row (pos 0)))))) c.get.ensures ∙ ap (λ z. cond (has column.nulls row) None (Some z)) (to_z-of_z w64 (get_or column.values row (pos 0)) fits) in
    subst (λ (k : Cells). IsTakenIn k c.in_ok-place.place c.args.places.now.index.entries c.of_row.new.self.index.entries) (ap (λ x. x ∷ []) cell ∙ only_one (λ d. key_cell d row) columns column one at) (c.in_ok-place.ensures.taken h)
