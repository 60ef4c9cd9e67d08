-- The part is joined, and its name is noted.
use Rattle.std.specs.Prelude.{List, [], ◌∷◌, ◌++◌}
use Rattle.std.proofs.Common.{sym, subst}
use Rattle.std.proofs.lemmas.Result.{err_from_is_err_and}
use Rattle.table_model.specs.declared.refusal.Refusal.{Refusal}
use Rattle.folder_parts.specs.declared.fault.PartFault.TheVariants.{Refused}
use Rattle.folder_parts.specs.Parts.{PartForm}
use Rattle.folder_commands.specs.Joined.{IsStopped}
use Rattle.folder_commands.proofs.Joins.{lacks_beside}
use Rattle.folder_commands.proofs.joining.JoiningGathers.with.Goals as goal

pub returns-in_err-relied-clause-stopped : goal.returns-in_err-relied-clause-stopped
returns-in_err-relied-clause-stopped c =
    let part : PartForm = record { name = c.args.name.now; bytes = c.args.bytes.now } in
    let p = err_from_is_err_and c.from_residual-in_err-relied.result c.from_residual-in_err-relied.ensures.1 in
    rw (p.1, p.2) (λ parts so. subst (λ (e : Refusal). IsStopped (Refused e) (parts ++ part ∷ [])) (sym c.in_err-relied.ensures.refused) (lacks_beside c.args.self.join part parts so.0))

pub returns-clause-made : goal.returns-clause-made
returns-clause-made c = λ parts so. (c.in_ok-next.ensures.made parts so.0, c.in_ok-relied.ensures.relied parts so.1)
