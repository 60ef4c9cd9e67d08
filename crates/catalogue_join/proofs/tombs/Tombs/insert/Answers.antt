-- A range that came in brings its rows, and where it brings none its first row was there.
use Rattle.std.proofs.Common.{◌≡◌, ◌∙◌, ap, sym, subst, true, rules}
use Rattle.std.specs.FinSet as set
use Rattle.catalogue_join.specs.RowRange.{RowRange, rows_between, is_named_range}
use Rattle.catalogue_join.proofs.Outcomes.{OnOk_then}
use Rattle.catalogue_join.proofs.RowSets.{first_there, rows_in-put}
use Rattle.catalogue_join.proofs.tombs.Tombs.insert.Goals as goal

pub returns-clause-ok : goal.returns-clause-ok
returns-clause-ok c =
    let named : is_named_range (c.args.first, c.args.last) ≡ true = search rules in
    OnOk_then c.insert.result (λ places. rows_in-put c.self.inside.ranges c.insert.new.self (c.args.first, c.args.last) c.self.invariant c.insert.ensures.maximal named places ∙ ap (λ s. set.union s (set.from_list (rows_between c.args.first c.args.last))) c.self.view_is) c.insert.ensures.places

pub returns-clause-idle : goal.returns-clause-idle
returns-clause-idle c same =
    let range : RowRange = (c.args.first, c.args.last) in
    c.insert.ensures.idle (first_there c.self.inside.ranges range c.self.invariant c.requires.not_empty (subst (λ s. set.union s (set.from_list (rows_between c.args.first c.args.last)) ≡ s) (sym c.self.view_is) same))
