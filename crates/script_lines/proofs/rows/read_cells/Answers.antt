use Rattle.std.proofs.Common.{◌≡◌, sym, ◌∙◌, rules, inl, refl, ap, Some, None, ◌++◌, ◌∷◌, []}
use Rattle.script_lines.specs.Word.{cell_of, cells_of, cut}
use Rattle.script_lines.proofs.RowLaws.{cells_more, cells_bad, cells_all, cells_all_bad, after_all}
use Rattle.script_lines.proofs.rows.read_cells.Goals as goal

pub returns-in_default-cell : goal.returns-in_default-cell
returns-in_default-cell c =
    let none : None ≡ cell_of c.in-Some.value.now = sym c.in_default-cell.is ∙ c.cell.ensures in
    inl (sym c.loop-value.invariant.1 ∙ cells_bad c.loop-value.cells.items c.loop-value.rest.now c.in-Some.value.now c.in-Some.after.now c.in-Some.ensures.parts none, refl)

pub loop-value-preserved : goal.loop-value-preserved
loop-value-preserved c =
    let some : Some c.in-Some-cell.value ≡ cell_of c.in-Some.value.now = sym c.in-Some-cell.is ∙ c.cell.ensures in
    let pushed : c.push.new.self.items ≡ c.loop-value.cells.items ++ (c.in-Some-cell.value ∷ []) = search rules in (
      search rules,
      ap (λ xs. after_all xs (cells_of c.in-Some.after.now)) pushed
          ∙ sym (cells_more c.loop-value.cells.items c.loop-value.rest.now c.in-Some.value.now c.in-Some.after.now c.in-Some-cell.value c.in-Some.ensures.parts some)
          ∙ c.loop-value.invariant.1,
    )

pub returns-in_default-cell-2 : goal.returns-in_default-cell-2
returns-in_default-cell-2 c =
    let none : None ≡ cell_of c.loop-value.rest.now = sym c.in_default-cell-2.is ∙ c.cell-2.ensures in
    let uncut : None ≡ cut 44 c.loop-value.rest.now = search rules in
    inl (sym c.loop-value.invariant.1 ∙ cells_all_bad c.loop-value.cells.items c.loop-value.rest.now uncut none, refl)

pub returns : goal.returns
returns c =
    let some : Some c.in-Some-cell-2.last ≡ cell_of c.loop-value.rest.now = sym c.in-Some-cell-2.is ∙ c.cell-2.ensures in
    let uncut : None ≡ cut 44 c.loop-value.rest.now = search rules in
    let pushed : c.push-2.new.self.items ≡ c.loop-value.cells.items ++ (c.in-Some-cell-2.last ∷ []) = search rules in
    sym c.loop-value.invariant.1 ∙ cells_all c.loop-value.cells.items c.loop-value.rest.now c.in-Some-cell-2.last uncut some ∙ ap Some (sym pushed)
