-- The value is taken into the tally at its place.
use Rattle.std.proofs.Common.{rules, FitsSigned, w64, ◌≡◌, ◌∷◌, [], get_or, subst, sym, set, refl, arith}
use Rattle.std.proofs.lemmas.Int.{to_z-of_z}
use Rattle.query_eval.specs.Tally.{IsTally}
use Rattle.query_eval.proofs.GroupingLemmas.{cell_values}
use Rattle.query_eval.proofs.tallies.row_tallies.add_value.Goals as goal

pub returns-in_ok-add-clause-values : goal.returns-in_ok-add-clause-values
returns-in_ok-add-clause-values c = λ g t values l h.
    let value : FitsSigned w64 c.args.value = search rules in
    let at : c.index_mut.result.now ≡ get_or c.args.tallies.now.items c.args.place c.index_mut.result.now = search rules in
    let takes = simp to_z-of_z at c.in_ok-add.ensures.values in
    cell_values c.args.place c.args.tallies.now.items (set c.args.tallies.now.items c.args.place c.add.new.self) c.add.new.self c.index_mut.result.now (omega (arith, c.if-place-len.true, c.len.ensures)) refl (c.args.value ∷ []) (λ vs held. takes vs (subst (IsTally vs) (sym at) held)) g t values l h
