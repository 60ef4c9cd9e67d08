-- A value that its slot has is not written again.
use Rattle.std.proofs.Common.{rules, ◌≡◌, ◌/◌, ℤ, pos, FitsSigned, of_z, to_z, get_or, eqb, sym, ap, ◌∙◌, arith}
use Rattle.std.specs.Int.{w64}
use Rattle.std.proofs.lemmas.Int.{to_z-of_z}
use Rattle.std.proofs.lemmas.Bool.{eqb-true}
use Rattle.std.proofs.lemmas.List.{take_all}
use Rattle.run_dictionary.proofs.KeyLemmas.{at_most_one}
use Rattle.run_dictionary.specs.Dict.{distinct}
use Rattle.run_dictionary.proofs.EqualLemmas.{same_numbers}
use Rattle.run_dictionary.proofs.SightLemmas.{Sights-first, Sights-more, one_unless}
use Rattle.run_dictionary.proofs.codes.write_sights.Goals as goal

pub loop-row-init : goal.loop-row-init
loop-row-init c =
    let fits : FitsSigned w64 (get_or c.args.values.now 0 (pos 0)) = search rules in
    record {
      long = search rules;
      slots = search rules;
      some = omega arith;
      bound = omega arith;
      sights = Sights-first c.args.values.now c.args.into.now (to_z w64 (of_z w64 (get_or c.args.values.now 0 (pos 0)))) (omega (arith, c.told-values)) (omega (arith, c.told-into)) (to_z-of_z w64 _ fits);
    }

pub loop-row-preserved : goal.loop-row-preserved
loop-row-preserved c =
    let value : ℤ = get_or c.args.values.now c.loop-row.row (pos 0) in
    let slot = c.mixed-slot.result / 4 in
    let old : ℤ = get_or c.loop-row.last slot (pos 0) in
    let fits : FitsSigned w64 value = search rules in
    let old_fits : FitsSigned w64 old = search rules in
    let is = to_z-of_z w64 value fits in
    let new = c.from-count.ensures ∙ one_unless (eqb (of_z w64 old) (of_z w64 value)) in
    record {
      long = search rules;
      slots = search rules;
      some = omega arith;
      bound = omega (arith, new, at_most_one (eqb (of_z w64 old) (of_z w64 value)), c.loop-row.invariant.bound);
      sights = Sights-more c.args.values.now c.loop-row.last c.loop-row.into c.loop-row.count c.loop-row.row slot c.from-count.result (to_z w64 (of_z w64 value)) (eqb (of_z w64 old) (of_z w64 value)) c.loop-row.invariant.sights
          (omega (arith, c.told-values)) (omega (arith, c.loop-row.invariant.long, c.loop-row.invariant.bound)) (omega (arith, c.mixed-slot.ensures)) c.loop-row.invariant.slots is
          (λ t. same_numbers old value old_fits fits (eqb-true _ _ t) ∙ sym is) new;
    }

pub returns-clause-same : goal.returns-clause-same
returns-clause-same c =
    let all : c.loop-row.row ≡ 1024 = omega arith in
    c.loop-row.invariant.sights.same ∙ ap distinct (take_all c.loop-row.row c.args.values.now (omega (arith, all, c.told-values)))
