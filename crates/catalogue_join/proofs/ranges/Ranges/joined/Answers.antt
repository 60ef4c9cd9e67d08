-- The two lists in one, with those that touch as one, rise and have the places of both.
use Rattle.std.proofs.Common.{sym, ap, subst, ◌∙◌}
use Rattle.catalogue_join.specs.Span.{among, Rises, merge, bridged}
use Rattle.catalogue_join.proofs.Spans.{Rises-joined, among-joined}
use Rattle.catalogue_join.proofs.ranges.Ranges.joined.Goals as goal

pub invariant_of-result : goal.invariant_of-result
invariant_of-result g c =
    let shape = g.S.Span.shape in
    let ours = c.self.inside.ranges.items in
    let others = c.other.inside.ranges.items in
    let is = c.in_ok-joined.ensures ∙ ap (λ xs. bridged shape (merge shape xs c.deref-2.result.now)) c.deref.ensures.value ∙ ap (λ xs. bridged shape (merge shape ours xs)) c.deref-2.ensures.value in
    subst (λ xs. Rises shape 0 xs) (sym is) (Rises-joined shape g.met.S.Span.law ours others c.self.invariant c.other.invariant)

pub returns-clause-places : goal.returns-clause-places
returns-clause-places g c p =
    let shape = g.S.Span.shape in
    let ours = c.self.inside.ranges.items in
    let others = c.other.inside.ranges.items in
    let is = c.in_ok-joined.ensures ∙ ap (λ xs. bridged shape (merge shape xs c.deref-2.result.now)) c.deref.ensures.value ∙ ap (λ xs. bridged shape (merge shape ours xs)) c.deref-2.ensures.value in
    rw (← c.self.view_is, ← c.other.view_is) (ap (λ xs. among shape xs p) is ∙ among-joined shape g.met.S.Span.law ours others c.self.invariant c.other.invariant p)

pub returns-clause-maximal : goal.returns-clause-maximal
returns-clause-maximal g c =
    let shape = g.S.Span.shape in
    let ours = c.self.inside.ranges.items in
    let others = c.other.inside.ranges.items in
    let is = c.in_ok-joined.ensures ∙ ap (λ xs. bridged shape (merge shape xs c.deref-2.result.now)) c.deref.ensures.value ∙ ap (λ xs. bridged shape (merge shape ours xs)) c.deref-2.ensures.value in
    subst (λ xs. Rises shape 0 xs) (sym is) (Rises-joined shape g.met.S.Span.law ours others c.self.invariant c.other.invariant)
