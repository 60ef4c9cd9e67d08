use Rattle.std.proofs.Common.{◌≡◌, sym, ◌∙◌, rules, inl, refl, ap, Some, None, ◌++◌, ◌∷◌, []}
use Rattle.std.proofs.lemmas.Result.{err_from_is_err_and}
use Rattle.script_lines.specs.Word.{rows_of, cut}
use Rattle.table_model.specs.Pieces.{without}
use Rattle.script_lines.proofs.RowLaws.{rows_more, rows_all, rows_none, rows_no_more, rows_unread, after_all}
use Rattle.script_lines.proofs.rows.rows.Goals as goal

pub returns-in_err-read_opened_cells : goal.returns-in_err-read_opened_cells
returns-in_err-read_opened_cells c =
    let p = err_from_is_err_and c.from_residual.result c.from_residual.ensures.1 in
    rw (p.1, p.2) (rows_unread c.loop-row.rows c.args.text.now c.loop-row.rest.now c.in-Some.row.now c.in-Some.after.now c.in_err-read_opened_cells.field-0.0 c.loop-row.invariant.1 c.in-Some.ensures.parts c.in_err-read_opened_cells.ensures.row)

pub returns-then-is_empty : goal.returns-then-is_empty
returns-then-is_empty c =
    let pushed : c.push_row.new.self ≡ c.loop-row.rows ++ (c.read_opened_cells.new.cells.items ∷ []) = search rules in
    sym c.loop-row.invariant.1
    ∙ rows_all c.loop-row.rows c.loop-row.rest.now c.in-Some.row.now c.in-Some.after.now c.read_opened_cells.new.cells.items c.in-Some.ensures.parts c.in_ok-read_opened_cells.ensures.row (sym c.is_empty.ensures ∙ c.if-is_empty.true)
    ∙ ap Some (sym pushed)

pub returns-in_default-without : goal.returns-in_default-without
returns-in_default-without c =
    let none : None ≡ without 44 c.in-Some.after.now = c.in_default-without.ensures.rest in
    inl (sym c.loop-row.invariant.1 ∙ rows_no_more c.loop-row.rows c.loop-row.rest.now c.in-Some.row.now c.in-Some.after.now c.read_opened_cells.new.cells.items c.in-Some.ensures.parts c.in_ok-read_opened_cells.ensures.row (sym c.is_empty.ensures ∙ c.if-is_empty.false) none, refl)

pub loop-row-preserved : goal.loop-row-preserved
loop-row-preserved c =
    let pushed : c.push_row.new.self ≡ c.loop-row.rows ++ (c.read_opened_cells.new.cells.items ∷ []) = search rules in (
      search rules,
      ap (λ xs. after_all xs (rows_of c.in-Some-without.next.now)) pushed
          ∙ sym (rows_more c.loop-row.rows c.loop-row.rest.now c.in-Some.row.now c.in-Some.after.now c.in-Some-without.next.now c.read_opened_cells.new.cells.items c.in-Some.ensures.parts c.in_ok-read_opened_cells.ensures.row c.in-Some-without.ensures.rest)
          ∙ c.loop-row.invariant.1,
    )

pub returns : goal.returns
returns c =
    let uncut : None ≡ cut 41 c.loop-row.rest.now = search rules in
    inl (sym c.loop-row.invariant.1 ∙ ap (after_all c.loop-row.rows) (rows_none c.loop-row.rest.now uncut), refl)
