-- Runs that rise list the names of their set in order.
use Rattle.std.proofs.Common.{List, sym, subst}
use Rattle.catalogue_join.specs.declared.run.Run.{Run}
use Rattle.catalogue_join.specs.Run.{names_listed, names_in}
use Rattle.catalogue_join.specs.Held.{IsListOf}
use Rattle.catalogue_join.proofs.NameLists.{listed}
use Rattle.catalogue_join.proofs.held.Held.runs.Goals as goal

pub returns-clause-names : goal.returns-clause-names
returns-clause-names c =
    subst (λ s. IsListOf (names_listed c.as_slice.result.now) s) c.self.view_is
    (subst (λ (rs : List Run). IsListOf (names_listed rs) (names_in c.self.inside.runs)) (sym c.as_slice.ensures.ranges) (listed c.self.inside.runs c.self.invariant))
