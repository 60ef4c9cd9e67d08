-- The part is skimmed, and its name is noted.
use Rattle.std.specs.Prelude.{List, [], ◌∷◌, ◌++◌, Err}
use Rattle.std.proofs.Common.{refl, sym, subst}
use Rattle.std.proofs.lemmas.Result.{err_from_is_err_and}
use Rattle.table_model.specs.declared.refusal.Refusal.{Refusal}
use Rattle.folder_parts.specs.PartReads.{IsListed, is_refusal_of_part}
use Rattle.folder_parts.specs.declared.fault.PartFault.TheVariants.{Refused}
use Rattle.folder_parts.specs.Parts.{PartForm}
use Rattle.folder_commands.specs.Skims.{SkimsRead}
use Rattle.folder_commands.proofs.Skims.{more_lacking}
use Rattle.folder_commands.proofs.skimming.SkimmingGathers.with.Goals as goal

pub returns-in_err-next-clause-stopped : goal.returns-in_err-next-clause-stopped
returns-in_err-next-clause-stopped c =
    let p = err_from_is_err_and c.from_residual.result c.from_residual.ensures.1 in
    rw (p.1, p.2) (λ parts so. (c.in_err-next.ensures.stopped parts so.0, c.in_err-next.ensures.listed))

pub returns-in_err-relied-clause-stopped : goal.returns-in_err-relied-clause-stopped
returns-in_err-relied-clause-stopped c =
    let part : PartForm = record { name = c.args.name.now; bytes = c.args.bytes.now } in
    let names = c.args.way.now in
    let p = err_from_is_err_and c.from_residual-in_err-relied.result c.from_residual-in_err-relied.ensures.1 in
    rw (p.1, p.2) (λ parts so.
    subst (λ (e : Refusal). SkimsRead (Err (Refused e)) names.first names.count (parts ++ part ∷ []) × IsListed is_refusal_of_part (Refused e)) (sym c.in_err-relied.ensures.refused)
    (more_lacking c.args.self.skim names.first names.count part parts so.0, refl))

pub returns-clause-made : goal.returns-clause-made
returns-clause-made c = λ parts so. (c.in_ok-next.ensures.made parts so.0, c.in_ok-relied.ensures.relied parts so.1)
