-- The value is taken into the sum at its place.
use Rattle.std.proofs.Common.{rules, FitsSigned, w64, ◌≡◌, ◌∷◌, [], ℤ, List, cond, get_or, subst, sym, ap, set, refl, ◌∙◌, arith}
use Rattle.std.proofs.lemmas.Int.{to_z-of_z}
use Rattle.query_eval.specs.Tally.{IsTally, kind_of}
use Rattle.query_eval.specs.declared.tallies.tally.TallyKind.TheVariants as kinds
use Rattle.query_eval.proofs.GroupingLemmas.{cell_values_of}
use Rattle.query_eval.proofs.tallies.row_tallies.sum_value.Goals as goal

pub returns-then-place-len-clause-values : goal.returns-then-place-len-clause-values
returns-then-place-len-clause-values c = λ g t values l is h.
    let now = c.args.tallies.now.items in
    let place = c.args.place in
    let value : FitsSigned w64 c.args.value = search rules in
    let added : List ℤ = cond c.args.comes (c.args.value ∷ []) [] in
    let at : c.index_mut.result.now ≡ get_or c.args.tallies.now.items c.args.place c.index_mut.result.now = search rules in
    let takes = simp to_z-of_z at c.sum_where.ensures.values in
    cell_values_of place now (set now place c.sum_where.new.self) c.sum_where.new.self c.index_mut.result.now (omega (arith, c.if-place-len.true, c.len.ensures)) refl kinds.Sum added
    (λ vs same held. takes vs (ap kind_of at ∙ same) (subst (IsTally vs) (sym at) held)) g t values l is h
