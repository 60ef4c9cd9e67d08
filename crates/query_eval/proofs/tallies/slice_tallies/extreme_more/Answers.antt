-- The values are taken into the extreme at its place.
use Rattle.std.proofs.Common.{rules, ◌≡◌, get_or, subst, sym, ap, set, refl, ◌∙◌, arith}
use Rattle.query_eval.specs.Tally.{IsTally, kind_of}
use Rattle.query_eval.specs.declared.tallies.tally.TallyKind.TheVariants as kinds
use Rattle.query_eval.proofs.GroupingLemmas.{cell_values_of}
use Rattle.query_eval.proofs.tallies.slice_tallies.extreme_more.Goals as goal

pub returns-then-place-len-clause-values : goal.returns-then-place-len-clause-values
returns-then-place-len-clause-values c = λ extreme added value g t values l is h.
    let now = c.args.tallies.now.items in
    let place = c.args.place in
    let at : c.index_mut.result.now ≡ get_or now place c.index_mut.result.now = search rules in
    cell_values_of place now (set now place c.extreme_more.new.self) c.extreme_more.new.self c.index_mut.result.now (omega (arith, c.if-place-len.true, c.len.ensures)) refl (kinds.Extreme extreme) added
    (λ vs same held. c.extreme_more.ensures.values extreme vs added (ap kind_of at ∙ same) value (subst (IsTally vs) (sym at) held)) g t values l is h
