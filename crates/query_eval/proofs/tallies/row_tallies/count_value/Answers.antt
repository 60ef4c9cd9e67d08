-- The value is counted in the tally at its place.
use Rattle.std.proofs.Common.{rules, ◌≡◌, ◌∷◌, [], ℤ, List, cond, get_or, subst, sym, ap, set, refl, ◌∙◌, arith}
use Rattle.query_eval.specs.Tally.{IsTally, kind_of}
use Rattle.query_eval.specs.declared.tallies.tally.TallyKind.TheVariants as kinds
use Rattle.query_eval.proofs.GroupingLemmas.{cell_values_of}
use Rattle.query_eval.proofs.tallies.row_tallies.count_value.Goals as goal

pub returns-then-place-len-clause-values : goal.returns-then-place-len-clause-values
returns-then-place-len-clause-values c = λ z g t values l is h.
    let now = c.args.tallies.now.items in
    let place = c.args.place in
    let added : List ℤ = cond c.args.comes (z ∷ []) [] in
    let at : c.index_mut.result.now ≡ get_or c.args.tallies.now.items c.args.place c.index_mut.result.now = search rules in
    cell_values_of place now (set now place c.count_where.new.self) c.count_where.new.self c.index_mut.result.now (omega (arith, c.if-place-len.true, c.len.ensures)) refl kinds.Count added
    (λ vs same held. c.count_where.ensures.values vs z (ap kind_of at ∙ same) (subst (IsTally vs) (sym at) held)) g t values l is h
