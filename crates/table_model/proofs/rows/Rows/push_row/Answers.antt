-- One more end, which is the number of cells with the row's.
use Rattle.std.proofs.Common.{◌≡◌, ◌+◌, ◌++◌, ◌∷◌, [], ℕ, List, length, ◌∙◌, ap}
use Rattle.std.proofs.lemmas.List.{length-append}
use Rattle.table_model.specs.State.{Cells, Batch}
use Rattle.table_model.proofs.EndFacts.{AreEnds-push, rows_from-push}
use Rattle.table_model.proofs.rows.Rows.push_row.Goals as goal

pub invariant_of-self-2 : goal.invariant_of-self-2
invariant_of-self-2 c =
    let cells : Cells = c.self.inside.cells.items in
    let ends : List ℕ = c.self.inside.ends.items in
    let more : c.extend_from_slice.new.self.items ≡ cells ++ c.args.cells.now = c.in_ok-extend_from_slice.ensures.items in
    let count : length c.extend_from_slice.new.self.items ≡ length cells + length c.args.cells.now = ap length more ∙ length-append cells c.args.cells.now in
    let end : length c.as_slice-end.result.now ≡ length cells + length c.args.cells.now = ap length c.as_slice-end.ensures.value ∙ count in
    let pushed : c.push.new.self.items ≡ ends ++ (length cells + length c.args.cells.now) ∷ [] =
    c.in_ok-push.ensures.items ∙ ap (λ (xs : List ℕ). xs ++ length c.as_slice-end.result.now ∷ []) c.in_ok-reserve.ensures.items ∙ ap (λ (n : ℕ). ends ++ n ∷ []) end in
    rw (pushed, count) (AreEnds-push 0 ends (length cells) (length c.args.cells.now) c.self.invariant)

pub returns-clause-ok : goal.returns-clause-ok
returns-clause-ok c =
    let cells : Cells = c.self.inside.cells.items in
    let ends : List ℕ = c.self.inside.ends.items in
    let more : c.extend_from_slice.new.self.items ≡ cells ++ c.args.cells.now = c.in_ok-extend_from_slice.ensures.items in
    let count : length c.extend_from_slice.new.self.items ≡ length cells + length c.args.cells.now = ap length more ∙ length-append cells c.args.cells.now in
    let end : length c.as_slice-end.result.now ≡ length cells + length c.args.cells.now = ap length c.as_slice-end.ensures.value ∙ count in
    let pushed : c.push.new.self.items ≡ ends ++ (length cells + length c.args.cells.now) ∷ [] =
    c.in_ok-push.ensures.items ∙ ap (λ (xs : List ℕ). xs ++ length c.as_slice-end.result.now ∷ []) c.in_ok-reserve.ensures.items ∙ ap (λ (n : ℕ). ends ++ n ∷ []) end in
    rw (pushed, more) (rows_from-push 0 ends cells c.args.cells.now c.self.invariant ∙ ap (λ (rows : Batch). rows ++ c.args.cells.now ∷ []) c.self.view_is)
