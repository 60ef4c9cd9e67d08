-- A segment is canonical exactly where each of its columns is.
use Rattle.std.proofs.Common.{◌≡◌, ◌↔◌, ℕ, List, Some, slice_get, IsTrue, refl, subst}
use Rattle.segment_core.specs.CodedVector.{VectorForm}
use Rattle.segment_core.specs.Segment.{SegmentForm, AreCanonical, widths_in, canonical_forms}
use Rattle.segment_core.proofs.CellLemmas.{forms_canonical, canonical_forms_are}
use Rattle.segment_core.proofs.segment.Segment.canonical.Goals as goal

pub returns-then-self : goal.returns-then-self
returns-then-self c =
    (λ _. subst (λ (s : SegmentForm). s.forms ≡ canonical_forms (widths_in s.forms) s.rows) c.self.view_is (c.self.invariant.canonical c.if-self.true), λ _. refl)

pub returns : goal.returns
returns c =
    let each : IsTrue c.are_canonical.result ↔ ((k : ℕ) (vectors : List VectorForm) → slice_get c.self.inside.columns.items k ≡ Some vectors → AreCanonical vectors) =
    subst (λ (columns : List (List VectorForm)). IsTrue c.are_canonical.result ↔ ((k : ℕ) (vectors : List VectorForm) → slice_get columns k ≡ Some vectors → AreCanonical vectors)) c.as_slice.ensures.value c.are_canonical.ensures in
    subst (λ (s : SegmentForm). IsTrue c.are_canonical.result ↔ (s.forms ≡ canonical_forms (widths_in s.forms) s.rows)) c.self.view_is (
      λ yes. forms_canonical c.self.inside.rows c.self.inside.columns.items c.self.invariant.segment (each.0 yes),
      λ e. each.1 (canonical_forms_are c.self.inside.rows c.self.inside.columns.items c.self.invariant.segment e),
    )
