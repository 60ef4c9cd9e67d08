-- One set function more of both.
use Rattle.std.proofs.Common.{◌≡◌, ◌<◌, length, slice_index_or, subst, ap, ◌∙◌, arith}
use Rattle.std.proofs.lemmas.Result.{err_from_is_err_and}
use Rattle.partial_answers.specs.Kept.{tally_in}
use Rattle.partial_answers.specs.PartialAnswer.{plus}
use Rattle.partial_answers.specs.Refusing.{RefusesKept, kept_kind}
use Rattle.partial_answers.specs.declared.kept.Kept.{Kept}
use Rattle.partial_answers.proofs.GroupMore.{group_more, kinds_more}
use Rattle.partial_answers.proofs.Refusing.{longer_differs, refuses_at}
use Rattle.partial_answers.proofs.kept.group_of_both.Goals as goal

pub loop-i-preserved : goal.loop-i-preserved
loop-i-preserved c =
    let same : length c.args.one.now ≡ length c.args.other.now = omega (arith, c.if-one-other.false) in
    let within : c.loop-i.i < length c.args.one.now = omega (arith, c.loop-i-test.true) in
    let one = c.index-one-i.is in
    let other = c.index-other-i.is in
    record {
      both = group_more c.args.one.now c.args.other.now c.loop-i.both.items c.push_kept.new.all.items c.loop-i.i c.index-one-i.result c.index-other-i.result c.in_ok-kept.kept
          within (omega (arith, within, same)) c.loop-i.invariant.both (c.in_ok-kept.ensures.both ∙ (λ j. plus (tally_in (one j)) (tally_in (other j)))) c.in_ok-push_kept.ensures;
      kinds = kinds_more c.args.one.now c.loop-i.both.items c.push_kept.new.all.items c.loop-i.i c.index-one-i.result c.in_ok-kept.kept within c.loop-i.invariant.kinds (c.in_ok-kept.ensures.kind ∙ ap kept_kind one) c.in_ok-push_kept.ensures;
    }

pub returns-in_err-kept-clause-refused : goal.returns-in_err-kept-clause-refused
returns-in_err-kept-clause-refused c =
    let p = err_from_is_err_and c.from_residual.result c.from_residual.ensures.1 in
    let e = c.in_err-kept.field-0.0 in
    let same : length c.args.one.now ≡ length c.args.other.now = omega (arith, c.if-one-other.false) in
    let within : c.loop-i.i < length c.args.one.now = omega (arith, c.loop-i-test.true) in
    let first = subst (λ (k : Kept). RefusesKept e k c.index-other-i.result) c.index-one-i.is c.in_err-kept.ensures.refused in
    let both = subst (λ (k : Kept). RefusesKept e (slice_index_or c.args.one.now c.loop-i.i c.index-one-i.result) k) c.index-other-i.is first in
    rw (p.1, p.2) (refuses_at e c.args.one.now c.args.other.now c.loop-i.i c.index-one-i.result c.index-other-i.result within (omega (arith, within, same)) both)

pub returns-then-one-other-clause-refused : goal.returns-then-one-other-clause-refused
returns-then-one-other-clause-refused c = longer_differs c.args.one.now c.args.other.now (λ e. absurd (omega (arith, c.if-one-other.true, e)))
