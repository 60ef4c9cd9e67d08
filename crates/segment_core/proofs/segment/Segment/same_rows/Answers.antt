-- Segments have the same rows exactly where they are as long and as wide, and their vectors have the same cells.
use Rattle.std.proofs.Common.{◌≡◌, ◌↔◌, ℕ, List, length, IsTrue, sym, ◌∙◌, ap, subst}
use Rattle.segment_core.specs.CodedVector.{VectorForm}
use Rattle.segment_core.specs.Segment.{SegmentForm, batch_of, IsSegment}
use Rattle.segment_core.proofs.SegmentLemmas.{length-batch_of}
use Rattle.segment_core.proofs.CellLemmas.{AllSame, rows_of_same, same_of_rows, columns_of_rows, decides_rows, test_false}
use Rattle.segment_core.proofs.segment.Segment.same_rows.Goals as goal

pub returns-then-self-other : goal.returns-then-self-other
returns-then-self-other c =
    let own : batch_of c.self.inside.rows c.self.inside.columns.items ≡ c.args.self.now.rows = ap (λ (s : SegmentForm). s.rows) c.self.view_is in
    let theirs : batch_of c.other.inside.rows c.other.inside.columns.items ≡ c.args.other.now.rows = ap (λ (s : SegmentForm). s.rows) c.other.view_is in
    test_false c.args.self.now.rows c.args.other.now.rows
    (λ e. c.if-self-other.true
    (sym (length-batch_of c.self.inside.rows c.self.inside.columns.items) ∙ ap length (own ∙ e ∙ sym theirs) ∙ length-batch_of c.other.inside.rows c.other.inside.columns.items))

pub returns-then-len : goal.returns-then-len
returns-then-len c =
    let own : batch_of c.self.inside.rows c.self.inside.columns.items ≡ c.args.self.now.rows = ap (λ (s : SegmentForm). s.rows) c.self.view_is in
    let theirs : batch_of c.other.inside.rows c.other.inside.columns.items ≡ c.args.other.now.rows = ap (λ (s : SegmentForm). s.rows) c.other.view_is in
    let proper : IsSegment c.self.inside.rows c.other.inside.columns.items = subst (λ (n : ℕ). IsSegment n c.other.inside.columns.items) (sym c.if-self-other.false) c.other.invariant.segment in
    let moved : batch_of c.self.inside.rows c.other.inside.columns.items ≡ c.args.other.now.rows = ap (λ (n : ℕ). batch_of n c.other.inside.columns.items) c.if-self-other.false ∙ theirs in
    test_false c.args.self.now.rows c.args.other.now.rows
    (λ e. c.if-len.true (let a = c.len.ensures in let b = c.len-2.ensures in let s = columns_of_rows c.self.inside.rows c.self.inside.columns.items c.other.inside.columns.items c.self.invariant.segment proper (own ∙ e ∙ sym moved) in cc))

pub returns : goal.returns
returns c =
    let own : batch_of c.self.inside.rows c.self.inside.columns.items ≡ c.args.self.now.rows = ap (λ (s : SegmentForm). s.rows) c.self.view_is in
    let theirs : batch_of c.other.inside.rows c.other.inside.columns.items ≡ c.args.other.now.rows = ap (λ (s : SegmentForm). s.rows) c.other.view_is in
    let proper : IsSegment c.self.inside.rows c.other.inside.columns.items = subst (λ (n : ℕ). IsSegment n c.other.inside.columns.items) (sym c.if-self-other.false) c.other.invariant.segment in
    let moved : batch_of c.self.inside.rows c.other.inside.columns.items ≡ c.args.other.now.rows = ap (λ (n : ℕ). batch_of n c.other.inside.columns.items) c.if-self-other.false ∙ theirs in
    let count : length c.self.inside.columns.items ≡ length c.other.inside.columns.items = let a = c.len.ensures in let b = c.len-2.ensures in let l = c.if-len.false in cc in
    let first : IsTrue c.have_same_cells.result ↔ AllSame c.self.inside.columns.items c.as_slice-2.result.now =
    subst (λ (columns : List (List VectorForm)). IsTrue c.have_same_cells.result ↔ AllSame columns c.as_slice-2.result.now) c.as_slice.ensures.value c.have_same_cells.ensures in
    let each : IsTrue c.have_same_cells.result ↔ AllSame c.self.inside.columns.items c.other.inside.columns.items =
    subst (λ (columns : List (List VectorForm)). IsTrue c.have_same_cells.result ↔ AllSame c.self.inside.columns.items columns) c.as_slice-2.ensures.value first in
    decides_rows c.args.self.now.rows c.args.other.now.rows c.have_same_cells.result (
      λ yes. sym own ∙ rows_of_same c.self.inside.rows c.self.inside.columns.items c.other.inside.columns.items c.self.invariant.segment proper count (each.0 yes) ∙ moved,
      λ e. each.1 (same_of_rows c.self.inside.rows c.self.inside.columns.items c.other.inside.columns.items c.self.invariant.segment proper (own ∙ e ∙ sym moved)),
    )
