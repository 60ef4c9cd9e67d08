-- The rows are those exactly where they are as many and as wide, and each vector has its part of their cells.
use Rattle.std.proofs.Common.{◌≡◌, ◌↔◌, List, length, IsTrue, refl, sym, ◌∙◌, ap, subst, arith}
use Rattle.segment_core.specs.CodedVector.{VectorForm}
use Rattle.segment_core.specs.Segment.{SegmentForm, batch_of}
use Rattle.segment_core.proofs.SegmentLemmas.{length-batch_of}
use Rattle.segment_core.proofs.CellLemmas.{AllOf, rows_from_parts, parts_from_rows, decides_rows, test_false}
use Rattle.segment_core.proofs.segment.Segment.has_rows.Goals as goal

pub returns-then-self-len : goal.returns-then-self-len
returns-then-self-len c =
    let own : batch_of c.self.inside.rows c.self.inside.columns.items ≡ c.args.self.now.rows = ap (λ (s : SegmentForm). s.rows) c.self.view_is in
    test_false c.args.self.now.rows c.args.rows.now
    (λ e. c.if-self-len.true (sym (length-batch_of c.self.inside.rows c.self.inside.columns.items) ∙ ap length (own ∙ e) ∙ sym c.len.ensures))

pub returns-then-not-have_length : goal.returns-then-not-have_length
returns-then-not-have_length c =
    let own : batch_of c.self.inside.rows c.self.inside.columns.items ≡ c.args.self.now.rows = ap (λ (s : SegmentForm). s.rows) c.self.view_is in
    let wide : length c.self.inside.columns.items ≡ c.len-2.result = let a = c.len-2.ensures in cc in
    test_false c.args.self.now.rows c.args.rows.now
    (λ e.
    let parts = parts_from_rows c.self.inside.rows c.self.inside.columns.items c.args.rows.now c.self.invariant.segment (own ∙ e) in
    let f = c.if-not-have_length.ensures.1 (λ n l. parts.arity n (let r = c.if-self-len.false in let e = c.len.ensures in omega arith) ∙ wide) in
    absurd (cc))

pub returns : goal.returns
returns c =
    let own : batch_of c.self.inside.rows c.self.inside.columns.items ≡ c.args.self.now.rows = ap (λ (s : SegmentForm). s.rows) c.self.view_is in
    let each : IsTrue c.have_cells.result ↔ AllOf c.self.inside.columns.items c.args.rows.now =
    subst (λ (columns : List (List VectorForm)). IsTrue c.have_cells.result ↔ AllOf columns c.args.rows.now) c.as_slice.ensures.value c.have_cells.ensures in
    let wide : c.len-2.result ≡ length c.self.inside.columns.items = let a = c.len-2.ensures in cc in
    let arity = c.if-not-have_length.ensures.0 refl in
    decides_rows c.args.self.now.rows c.args.rows.now c.have_cells.result (
      λ yes. sym own ∙ rows_from_parts c.self.inside.rows c.self.inside.columns.items c.args.rows.now c.self.invariant.segment (record {
        count = sym (c.if-self-len.false ∙ c.len.ensures);
        arity = λ n l. arity n (let r = c.if-self-len.false in let e = c.len.ensures in omega arith) ∙ wide;
        parts = λ k j vectors v e f. each.0 yes k vectors e j v f;
      }),
      λ e. each.1 (λ k vectors at j v f. (parts_from_rows c.self.inside.rows c.self.inside.columns.items c.args.rows.now c.self.invariant.segment (own ∙ e)).parts k j vectors v at f),
    )
