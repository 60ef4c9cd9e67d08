-- The part is read to its end, and then its name is compared.
use Rattle.std.proofs.Common.{◌≡◌, ◌∙◌, true, false, sym, ap}
use Rattle.std.proofs.lemmas.Result.{err_from_is_err_and}
use Rattle.folder_parts.specs.PartName.{name_by, part_name}
use Rattle.folder_parts.proofs.PartRefusals.{unread_ends}
use Rattle.folder_parts.proofs.comparing.compare_part.Goals as goal

pub returns-in_err-digest-clause-ends : goal.returns-in_err-digest-clause-ends
returns-in_err-digest-clause-ends g c =
    let p = err_from_is_err_and c.from_residual.result c.from_residual.ensures.1 in
    rw (p.1, p.2) (unread_ends g.R.Read.remaining c.in_err-digest.field-0.0 c.args.part.now c.digest.new.self c.digest.ensures.name c.in_err-digest.ensures.reads)

pub returns-then-branch-clause-compared : goal.returns-then-branch-clause-compared
unfolding part_name
returns-then-branch-clause-compared g c form is =
    let digest = c.in_ok-digest.ensures.digest form.bytes is.1 in
    let named : c.name.result.now ≡ name_by c.in_ok-digest.digest = c.in_ok-is_named_by.ensures.0 c.if-branch.true in
    sym is.0 ∙ sym c.digest.ensures.name ∙ sym c.name.ensures ∙ named ∙ ap name_by digest

pub returns-else-branch-clause-compared : goal.returns-else-branch-clause-compared
unfolding part_name
returns-else-branch-clause-compared g c form is same =
    let digest = c.in_ok-digest.ensures.digest form.bytes is.1 in
    let named : c.name.result.now ≡ name_by c.in_ok-digest.digest = c.name.ensures ∙ c.digest.ensures.name ∙ is.0 ∙ same ∙ sym (ap name_by digest) in
    let wrong : true ≡ false = sym (c.in_ok-is_named_by.ensures.1 named) ∙ c.if-branch.false in
    absurd cc
