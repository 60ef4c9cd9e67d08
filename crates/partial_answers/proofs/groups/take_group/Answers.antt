-- A group that is there is added to.
use Rattle.std.proofs.Common.{List, sym, subst}
use Rattle.std.proofs.lemmas.Result.{err_from_is_err_and}
use Rattle.partial_answers.specs.Refusing.{RefusesTaking}
use Rattle.partial_answers.specs.declared.kept.Kept.{Kept}
use Rattle.partial_answers.proofs.Refusing.{refuses_taking}
use Rattle.partial_answers.proofs.groups.take_group.Goals as goal

pub returns-in_err-both-in-Some-clause-refused : goal.returns-in_err-both-in-Some-clause-refused
returns-in_err-both-in-Some-clause-refused c =
    let p = err_from_is_err_and c.from_residual-in_err-both-in-Some.result c.from_residual-in_err-both-in-Some.ensures.1 in
    let e = c.in_err-both-in-Some.field-0.0 in
    let groups = c.args.groups.now in
    let key = c.args.key in
    let taking = refuses_taking e groups key c.as_slice.result.now c.as_slice-in-Some.result.now c.in-Some.mine (sym c.in-Some.ensures.value) (sym c.as_slice.ensures.value) c.in_err-both-in-Some.ensures.refused in
    rw (p.1, p.2) (subst (λ (l : List Kept). RefusesTaking e groups key l) c.as_slice-in-Some.ensures.value taking)
