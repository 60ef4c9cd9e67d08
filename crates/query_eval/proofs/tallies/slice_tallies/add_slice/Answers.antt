-- The values are taken into the tally at its place.
use Rattle.std.proofs.Common.{rules, ◌≡◌, get_or, subst, sym, set, refl, arith}
use Rattle.query_eval.specs.Slices.{values_at}
use Rattle.query_eval.specs.Tally.{IsTally}
use Rattle.query_eval.proofs.GroupingLemmas.{cell_values}
use Rattle.query_eval.proofs.tallies.slice_tallies.add_slice.Goals as goal

pub returns-in_ok-add_rows-clause-values : goal.returns-in_ok-add_rows-clause-values
returns-in_ok-add_rows-clause-values c = λ g t values l h.
    let at : c.index_mut.result.now ≡ get_or c.args.tallies.now.items c.args.place c.index_mut.result.now = search rules in
    cell_values c.args.place c.args.tallies.now.items (set c.args.tallies.now.items c.args.place c.add_rows.new.self) c.add_rows.new.self c.index_mut.result.now (omega (arith, c.if-place-len.true, c.len.ensures)) refl (values_at c.args.rows.now c.args.values.now)
    (λ vs held. c.in_ok-add_rows.ensures.values vs (subst (IsTally vs) (sym at) held)) g t values l h
