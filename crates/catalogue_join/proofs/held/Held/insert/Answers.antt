-- A run of one name brings that name.
use Rattle.std.proofs.Common.{◌≡◌, ◌∙◌, ◌<◌, ◌||◌, ℕ, OnOk, ap, subst, rules}
use Rattle.std.specs.FinSet as set
use Rattle.catalogue_join.specs.Span.{among, covers}
use Rattle.catalogue_join.specs.Run.{run_shape}
use Rattle.catalogue_join.proofs.Outcomes.{OnOk_then}
use Rattle.catalogue_join.proofs.NameSets.{names_in-put}
use Rattle.catalogue_join.proofs.held.Held.insert.Goals as goal

pub returns-clause-ok : goal.returns-clause-ok
returns-clause-ok c =
    let name = c.args.name in
    let origin : c.args.name.origin.0 < 4294967296 = search rules in
    let number : c.args.name.number.0 < 4294967296 = search rules in
    let places = subst (λ x. OnOk c.insert.result ((p : ℕ) → among run_shape c.insert.new.self p ≡ (among run_shape c.self.inside.runs p || covers run_shape x p))) c.run_of.ensures c.insert.ensures.places in
    OnOk_then c.insert.result (λ h. names_in-put c.self.inside.runs c.insert.new.self name c.self.invariant c.insert.ensures.maximal origin number h ∙ ap (λ s. set.insert s name) c.self.view_is) places
