-- Kind by kind.
use Rattle.std.proofs.Common.{◌≡◌, ◌+◌, ◌+ℤ◌, sym, ap, subst, ◌∙◌, arith, FitsSigned, rules, ℤ}
use Rattle.std.specs.Int.{w128}
use Rattle.std.proofs.lemmas.Int.{to_z-of_z}
use Rattle.std.proofs.lemmas.Result.{err_from_is_err_and}
use Rattle.table_model.specs.Values.{lesser, greater}
use Rattle.partial_answers.specs.Kept.{tally_in}
use Rattle.partial_answers.specs.PartialAnswer.{plus}
use Rattle.partial_answers.specs.Refusing.{kept_kind}
use Rattle.partial_answers.specs.declared.kept.Kept.{Kept}
use Rattle.partial_answers.proofs.SameKinds.{count_is, sums_is, least_is, greatest_is, values_is, too_many, sum_too_many}
use Rattle.partial_answers.proofs.kept.kept_of_both.Goals as goal

pub returns-in_ok-both-in-Count-clause-both : goal.returns-in_ok-both-in-Count-clause-both
returns-in_ok-both-in-Count-clause-both c =
    let is = c.in-Count.is in
    let kind : kept_kind c.args.other.now ≡ 0 = omega (arith, c.if-kind.false, c.kind.ensures, c.kind-2.ensures, ap kept_kind is) in
    count_is c.in-Count.count _ c.args.other.now kind (c.in_ok-both-in-Count.ensures.sum ∙ ap (λ k. c.in-Count.count + k) c.count.ensures)
    ∙ sym (ap (λ (k : Kept). plus (tally_in k) (tally_in c.args.other.now)) is)

pub returns-in_err-both-in-Count-clause-refused : goal.returns-in_err-both-in-Count-clause-refused
returns-in_err-both-in-Count-clause-refused c =
    let p = err_from_is_err_and c.from_residual.result c.from_residual.ensures.1 in
    let why = c.in_err-both-in-Count.ensures.refused in
    rw (p.1, p.2, why.0) (too_many c.in-Count.count c.args.one.now c.args.other.now (ap (λ (k : Kept). (tally_in k).count) c.in-Count.is) (λ less. why.1 (omega (arith, less, c.count.ensures))))

pub returns-in_ok-sum-in-Sum-clause-both : goal.returns-in_ok-sum-in-Sum-clause-both
returns-in_ok-sum-in-Sum-clause-both c =
    let is = c.in-Sum.is in
    let kind : kept_kind c.args.other.now ≡ 1 = omega (arith, c.if-kind.false, c.kind.ensures, c.kind-2.ensures, ap kept_kind is) in
    let mine : FitsSigned w128 c.in-Sum.mine.sum = search rules in
    let other : FitsSigned w128 c.sum.result = search rules in
    let mine_is = to_z-of_z w128 c.in-Sum.mine.sum mine in
    let other_is = to_z-of_z w128 c.sum.result other ∙ c.sum.ensures in
    let both : FitsSigned w128 c.in_ok-sum-in-Sum.sum = search rules in
    sums_is c.in-Sum.mine _ c.args.other.now kind (c.in_ok-count-in-Sum.ensures.sum ∙ ap (λ k. c.in-Sum.mine.count + k) c.count-in-Sum.ensures) (to_z-of_z w128 c.in_ok-sum-in-Sum.sum both ∙ c.in_ok-sum-in-Sum.ensures.sum ∙ (λ i. mine_is i +ℤ other_is i))
    ∙ sym (ap (λ (k : Kept). plus (tally_in k) (tally_in c.args.other.now)) is)

pub returns-in_err-count-in-Sum-clause-refused : goal.returns-in_err-count-in-Sum-clause-refused
returns-in_err-count-in-Sum-clause-refused c =
    let p = err_from_is_err_and c.from_residual-in_err-count-in-Sum.result c.from_residual-in_err-count-in-Sum.ensures.1 in
    let why = c.in_err-count-in-Sum.ensures.refused in
    rw (p.1, p.2, why.0) (too_many c.in-Sum.mine.count c.args.one.now c.args.other.now (ap (λ (k : Kept). (tally_in k).count) c.in-Sum.is) (λ less. why.1 (omega (arith, less, c.count-in-Sum.ensures))))

pub returns-in_err-sum-in-Sum-clause-refused : goal.returns-in_err-sum-in-Sum-clause-refused
returns-in_err-sum-in-Sum-clause-refused c =
    let p = err_from_is_err_and c.from_residual-in_err-sum-in-Sum.result c.from_residual-in_err-sum-in-Sum.ensures.1 in
    let why = c.in_err-sum-in-Sum.ensures.refused in
    let mine : FitsSigned w128 c.in-Sum.mine.sum = search rules in
    let other : FitsSigned w128 c.sum.result = search rules in
    let mine_is = to_z-of_z w128 c.in-Sum.mine.sum mine in
    let other_is = to_z-of_z w128 c.sum.result other ∙ c.sum.ensures in
    rw (p.1, p.2, why.0) (sum_too_many c.in-Sum.mine.sum c.args.one.now c.args.other.now (ap (λ (k : Kept). (tally_in k).sum) c.in-Sum.is) (λ fits. why.1 (subst (λ (z : ℤ). FitsSigned w128 z) (sym (λ i. mine_is i +ℤ other_is i)) fits)))

pub returns-in-Least-clause-both : goal.returns-in-Least-clause-both
returns-in-Least-clause-both c =
    let is = c.in-Least.is in
    let kind : kept_kind c.args.other.now ≡ 2 = omega (arith, c.if-kind.false, c.kind.ensures, c.kind-2.ensures, ap kept_kind is) in
    least_is c.in-Least.value _ c.args.other.now kind (c.lesser.ensures ∙ ap (lesser c.in-Least.value) c.least.ensures)
    ∙ sym (ap (λ (k : Kept). plus (tally_in k) (tally_in c.args.other.now)) is)

pub returns-in-Greatest-clause-both : goal.returns-in-Greatest-clause-both
returns-in-Greatest-clause-both c =
    let is = c.in-Greatest.is in
    let kind : kept_kind c.args.other.now ≡ 3 = omega (arith, c.if-kind.false, c.kind.ensures, c.kind-2.ensures, ap kept_kind is) in
    greatest_is c.in-Greatest.value _ c.args.other.now kind (c.greater.ensures ∙ ap (greater c.in-Greatest.value) c.greatest.ensures)
    ∙ sym (ap (λ (k : Kept). plus (tally_in k) (tally_in c.args.other.now)) is)

pub returns-in_ok-both-in-Distinct-clause-both : goal.returns-in_ok-both-in-Distinct-clause-both
returns-in_ok-both-in-Distinct-clause-both c =
    let is = c.in-Distinct.is in
    let kind : kept_kind c.args.other.now ≡ 4 = omega (arith, c.if-kind.false, c.kind.ensures, c.kind-2.ensures, ap kept_kind is) in
    values_is _ _ _ c.args.other.now kind c.values.ensures.value c.in_ok-both-in-Distinct.ensures
    ∙ sym (ap (λ (k : Kept). plus (tally_in k) (tally_in c.args.other.now)) is)
