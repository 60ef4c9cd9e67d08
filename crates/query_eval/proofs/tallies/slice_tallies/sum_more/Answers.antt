-- The values are taken into the sum at its place.
use Rattle.std.proofs.Common.{rules, ◌≡◌, FitsSigned, get_or, subst, sym, ap, set, refl, ◌∙◌, arith}
use Rattle.std.specs.Int.{w128}
use Rattle.std.proofs.lemmas.Int.{to_z-of_z}
use Rattle.query_eval.specs.Tally.{IsTally, kind_of}
use Rattle.query_eval.specs.declared.tallies.tally.TallyKind.TheVariants as kinds
use Rattle.query_eval.proofs.GroupingLemmas.{cell_values_of}
use Rattle.query_eval.proofs.tallies.slice_tallies.sum_more.Goals as goal

pub returns-then-place-len-clause-values : goal.returns-then-place-len-clause-values
returns-then-place-len-clause-values c = λ added many sum g t values l is h.
    let now = c.args.tallies.now.items in
    let place = c.args.place in
    let fits : FitsSigned w128 c.args.sum = search rules in
    let at : c.index_mut.result.now ≡ get_or c.args.tallies.now.items c.args.place c.index_mut.result.now = search rules in
    cell_values_of place now (set now place c.sum_more.new.self) c.sum_more.new.self c.index_mut.result.now (omega (arith, c.if-place-len.true, c.len.ensures)) refl kinds.Sum added
    (λ vs same held. c.sum_more.ensures.values vs added (ap kind_of at ∙ same) many (to_z-of_z w128 c.args.sum fits ∙ sum) (subst (IsTally vs) (sym at) held)) g t values l is h
