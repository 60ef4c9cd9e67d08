-- Range by range: all places of one are in the set, or one of them isn't, and then the others have a place that the set lacks.
use Rattle.std.proofs.Common.{◌≡◌, ◌≤◌, ◌+◌, ◌++◌, ◌∷◌, [], ◌||◌, true, take, get_or, refl, sym, ap, ◌∙◌, subst, inl, inr}
use Rattle.std.proofs.Math.Bool.{or-false}
use Rattle.std.proofs.lemmas.Bool.{or_cases}
use Rattle.std.proofs.lemmas.List.{take_more}
use Rattle.catalogue_join.specs.Span.{among, covers, Rises}
use Rattle.catalogue_join.proofs.Spans.{rises_at, among_within, among-append}
use Rattle.catalogue_join.proofs.ranges.Ranges.has_all.Goals as goal

pub has_range-requires : goal.has_range-requires
has_range-requires g c =
    let shape = g.S.Span.shape in
    let xs = c.deref-range-items.result.now in
    let rising = subst (λ ys. Rises shape 0 ys) (sym c.deref-range-items.ensures.value) c.other.invariant in
    let at = rises_at shape xs 0 c.loop-range.range-index c.range-item.result rising c.loop-range-test.true in
    subst (λ s. shape.low s ≤ shape.high s) (sym c.range-item.is) at.is_range

pub returns-then-not-has_range-clause-lacks : goal.returns-then-not-has_range-clause-lacks
returns-then-not-has_range-clause-lacks g c same =
    let shape = g.S.Span.shape in
    let xs = c.deref-range-items.result.now in
    let s = c.range-item.result in
    let rising = subst (λ ys. Rises shape 0 ys) (sym c.deref-range-items.ensures.value) c.other.invariant in
    let lacking = c.if-not-has_range.ensures.lacks refl in
    let covered : covers shape s lacking.place ≡ true = sym (or-false (covers shape s lacking.place)) ∙ lacking.among_others in
    let held : covers shape (get_or xs c.loop-range.range-index s) lacking.place ≡ true = subst (λ x. covers shape x lacking.place ≡ true) c.range-item.is covered in
    let there = among_within shape xs c.loop-range.range-index lacking.place s rising c.loop-range-test.true held in
    record {
      place = lacking.place;
      among_others = subst (λ ys. among shape ys lacking.place ≡ true) (c.deref-range-items.ensures.value ∙ c.other.view_is) there;
      not_among = lacking.not_among;
    }

pub loop-range-preserved : goal.loop-range-preserved
loop-range-preserved g c p among_more =
    let shape = g.S.Span.shape in
    let xs = c.deref-range-items.result.now in
    let i = c.loop-range.range-index in
    let s = c.range-item.result in
    let before = among shape (take i xs) p in
    let more : take (i + 1) xs ≡ take i xs ++ (s ∷ []) = take_more xs i s c.loop-range-test.true ∙ ap (λ x. take i xs ++ (x ∷ [])) (sym c.range-item.is) in
    let parts : (before || covers shape s p) ≡ true = sym (ap (λ ys. among shape ys p) more ∙ among-append shape (take i xs) (s ∷ []) p ∙ ap (λ b. before || b) (or-false (covers shape s p))) ∙ among_more in
    elim (or_cases before (covers shape s p) parts) [
      | inl there ↦ c.loop-range.invariant p there
      | inr here ↦ c.if-not-has_range.ensures.has refl p here
    ]
