-- Deletions are met if there are ranges of them.
use Rattle.std.proofs.Common.{ap, not, sym, subst, ◌∙◌}
use Rattle.folder_commands.specs.Relying.{IsNoneMet}
use Rattle.folder_commands.specs.declared.reliance.Reliance.{Reliance}
use Rattle.folder_commands.proofs.Relied.{no_ranges}
use Rattle.folder_commands.proofs.reliance.Reliance.meets.Goals as goal

pub returns-in-Deletions : goal.returns-in-Deletions
returns-in-Deletions c = λ none.
    subst (λ (r : Reliance). IsNoneMet r c.args.found.now.names.items c.args.found.now.deleted) (sym c.in-Deletions.is)
    (sym c.ranges-in-Deletions.ensures.rows ∙ no_ranges c.ranges-in-Deletions.result.now (ap not (sym c.is_empty.ensures) ∙ none))
