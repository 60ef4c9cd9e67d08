-- A range that touches none is put apart, and else the hull of all that touch. Where it is put apart, its first place was in none.
use Rattle.std.proofs.Common.{◌∷◌, ◌++◌, take, drop, sym, subst, ap, ◌∙◌}
use Rattle.std.proofs.lemmas.Bool.{false≢true}
use Rattle.catalogue_join.specs.Span.{IsPlace}
use Rattle.catalogue_join.proofs.Spans.{apart_lacks, puts_apart, puts_hull}
use Rattle.catalogue_join.proofs.ranges.put.Goals as goal

pub returns-in_ok-insert-clause-places : goal.returns-in_ok-insert-clause-places
returns-in_ok-insert-clause-places g c =
    let shape = g.S.Span.shape in
    let ranges = c.args.ranges.now.items in
    let range = c.args.range in
    let at = c.place_of-first.result in
    let place = subst (λ xs. IsPlace shape xs range at.0 at.1) c.deref.ensures.value c.place_of-first.ensures in
    (puts_apart shape ranges range at.0 at.1 c.insert.new.self.items c.requires.rising place c.if-first-end.true c.requires.not_empty c.requires.named c.in_ok-insert.ensures.items).places

pub returns-in_ok-insert-clause-maximal : goal.returns-in_ok-insert-clause-maximal
returns-in_ok-insert-clause-maximal g c =
    let shape = g.S.Span.shape in
    let ranges = c.args.ranges.now.items in
    let range = c.args.range in
    let at = c.place_of-first.result in
    let place = subst (λ xs. IsPlace shape xs range at.0 at.1) c.deref.ensures.value c.place_of-first.ensures in
    (puts_apart shape ranges range at.0 at.1 c.insert.new.self.items c.requires.rising place c.if-first-end.true c.requires.not_empty c.requires.named c.in_ok-insert.ensures.items).rising

pub returns-in_err-insert-clause-idle : goal.returns-in_err-insert-clause-idle
returns-in_err-insert-clause-idle g c there =
    let shape = g.S.Span.shape in
    let ranges = c.args.ranges.now.items in
    let range = c.args.range in
    let at = c.place_of-first.result in
    let place = subst (λ xs. IsPlace shape xs range at.0 at.1) c.deref.ensures.value c.place_of-first.ensures in
    absurd (false≢true (sym (apart_lacks shape ranges range at.0 at.1 c.requires.rising place c.if-first-end.true c.requires.not_empty) ∙ there))

pub returns-else-first-end-clause-places : goal.returns-else-first-end-clause-places
returns-else-first-end-clause-places g c =
    let shape = g.S.Span.shape in
    let ranges = c.args.ranges.now.items in
    let range = c.args.range in
    let at = c.place_of-first.result in
    let place = subst (λ xs. IsPlace shape xs range at.0 at.1) c.deref.ensures.value c.place_of-first.ensures in
    let first = c.index.result.now in
    let last = c.index-else-first-end.result.now in
    let hull = c.hull-hull.ensures ∙ ap (λ x. shape.hull x last) c.hull.ensures in
    let new = c.replace.ensures ∙ ap (λ x. take at.0 ranges ++ x ∷ drop at.1 ranges) hull in
    (puts_hull shape g.met.S.Span.law ranges range first last at.0 at.1 c.replace.new.ranges.items c.requires.rising place c.if-first-end.false c.requires.not_empty c.requires.named c.index.ensures c.index-else-first-end.ensures new).places

pub returns-else-first-end-clause-maximal : goal.returns-else-first-end-clause-maximal
returns-else-first-end-clause-maximal g c =
    let shape = g.S.Span.shape in
    let ranges = c.args.ranges.now.items in
    let range = c.args.range in
    let at = c.place_of-first.result in
    let place = subst (λ xs. IsPlace shape xs range at.0 at.1) c.deref.ensures.value c.place_of-first.ensures in
    let first = c.index.result.now in
    let last = c.index-else-first-end.result.now in
    let hull = c.hull-hull.ensures ∙ ap (λ x. shape.hull x last) c.hull.ensures in
    let new = c.replace.ensures ∙ ap (λ x. take at.0 ranges ++ x ∷ drop at.1 ranges) hull in
    (puts_hull shape g.met.S.Span.law ranges range first last at.0 at.1 c.replace.new.ranges.items c.requires.rising place c.if-first-end.false c.requires.not_empty c.requires.named c.index.ensures c.index-else-first-end.ensures new).rising
