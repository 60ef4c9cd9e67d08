-- The ranges have all places of the others, or lack one.
use Rattle.std.proofs.Common.{◌∙◌, sym, inl, inr}
use Rattle.std.proofs.lemmas.Bool.{cases_Bool}
use Rattle.catalogue_join.proofs.RowSets.{rows_within, rows_lacking}
use Rattle.catalogue_join.proofs.tombs.Tombs.has_all.Goals as goal

pub returns : goal.returns
returns c =
    let rs = c.self.inside.ranges in
    let ts = c.other.inside.ranges in
    rw (← c.self.view_is, ← c.other.view_is)
    (elim (cases_Bool c.has_all.result) [
      | inl all ↦ all ∙ sym (rows_within rs ts c.self.invariant c.other.invariant (c.has_all.ensures.has all))
      | inr short ↦ short ∙ sym (rows_lacking rs ts c.self.invariant c.other.invariant (c.has_all.ensures.lacks short))
    ])
