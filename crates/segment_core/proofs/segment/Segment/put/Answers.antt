-- The vector stands where another stood, and no row changes.
use Rattle.std.proofs.Common.{List, [], set, get_or, refl, sym, ◌∙◌, ap, subst}
use Rattle.std.proofs.lemmas.Option.{slice_get_within}
use Rattle.segment_core.specs.CodedVector.{VectorForm}
use Rattle.segment_core.specs.Segment.{SegmentForm, batch_of, IsSegment}
use Rattle.segment_core.proofs.PutLemmas.{found, segment_kept, rows_kept}
use Rattle.segment_core.specs.Segment.{widths_in}
use Rattle.segment_core.proofs.ValidLemmas.{has_bytes}
use Rattle.segment_core.proofs.WidthLemmas.{widths_kept}
use Rattle.segment_core.proofs.segment.Segment.put.Goals as goal

pub put-requires : goal.put-requires
put-requires c =
    let f = found c.self.inside.rows c.self.inside.columns.items c.args.self.now c.args.column c.args.vector c.index_mut-vectors.result.now c.args.made
    (record { proper = c.self.invariant.segment; view = c.self.view_is }) c.index_mut-vectors.ensures.value c.requires.there c.requires.stands in
    slice_get_within _ _ _ f.replaced.is

pub invariant_of-self : goal.invariant_of-self
invariant_of-self c =
    let f = found c.self.inside.rows c.self.inside.columns.items c.args.self.now c.args.column c.args.vector c.index_mut-vectors.result.now c.args.made
    (record { proper = c.self.invariant.segment; view = c.self.view_is }) c.index_mut-vectors.ensures.value c.requires.there c.requires.stands in
    record {
      segment = subst (λ (vectors : List VectorForm). IsSegment c.self.inside.rows (set c.self.inside.columns.items c.args.column vectors)) (sym c.put.ensures)
          (segment_kept _ _ _ _ _ _ _ f.replaced);
      canonical = λ known. absurd (cc);
    }

pub returns-clause-rows : goal.returns-clause-rows
returns-clause-rows c =
    let f = found c.self.inside.rows c.self.inside.columns.items c.args.self.now c.args.column c.args.vector c.index_mut-vectors.result.now c.args.made
    (record { proper = c.self.invariant.segment; view = c.self.view_is }) c.index_mut-vectors.ensures.value c.requires.there c.requires.stands in
    ap (λ (vectors : List VectorForm). batch_of c.self.inside.rows (set c.self.inside.columns.items c.args.column vectors)) c.put.ensures
    ∙ rows_kept _ _ _ _ _ _ _ f.replaced
    ∙ ap (λ (s : SegmentForm). s.rows) c.self.view_is

pub returns-clause-forms : goal.returns-clause-forms
returns-clause-forms c =
    let f = found c.self.inside.rows c.self.inside.columns.items c.args.self.now c.args.column c.args.vector c.index_mut-vectors.result.now c.args.made
    (record { proper = c.self.invariant.segment; view = c.self.view_is }) c.index_mut-vectors.ensures.value c.requires.there c.requires.stands in
    ap (λ (vectors : List VectorForm). set c.self.inside.columns.items c.args.column vectors)
    (c.put.ensures ∙ ap (λ (vectors : List VectorForm). set vectors c.args.vector c.args.made) (sym f.here))
    ∙ ap (λ (s : SegmentForm). set s.forms c.args.column (set (get_or c.args.self.now.forms c.args.column []) c.args.vector c.args.made)) c.self.view_is

pub returns-clause-widths : goal.returns-clause-widths
returns-clause-widths c =
    ap widths_in (returns-clause-forms c) ∙ widths_kept c.args.self.now.forms c.args.column c.args.vector c.args.made c.requires.there c.requires.stands

pub returns-clause-valid : goal.returns-clause-valid
returns-clause-valid c = λ table widths.
    let after : List (List VectorForm) = set c.self.inside.columns.items c.args.column c.put.new.self in
    has_bytes (record { rows = batch_of c.self.inside.rows after; forms = after }) c.self.inside.rows table (invariant_of-self c).segment refl widths
