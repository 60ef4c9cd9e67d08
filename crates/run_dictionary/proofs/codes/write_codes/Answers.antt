-- Each row's value has its place.
use Rattle.std.proofs.Common.{rules, ◌≡◌, ◌<◌, FitsSigned, ℤ, set, slice_index, Contains, sym, ap, ◌∙◌, subst, arith}
use Rattle.std.specs.Int.{w64}
use Rattle.std.proofs.lemmas.Int.{to_z-of_z}
use Rattle.std.proofs.lemmas.List.{length-map}
use Rattle.std.proofs.lemmas.List.Edits.{fill_by_more}
use Rattle.std.proofs.lemmas.Grind.{same_number_lists}
use Rattle.bit_interleave.specs.Range.{value_at}
use Rattle.run_dictionary.specs.Dict.{code_of}
use Rattle.run_dictionary.proofs.OrderLemmas.{member_from_Contains}
use Rattle.run_dictionary.proofs.DictLemmas.{Ascends-from_neighbours, code_of_member, get_or-map_zero}
use Rattle.run_dictionary.proofs.codes.write_codes.Goals as goal

pub place_near-requires-clause-member : goal.place_near-requires-clause-member
place_near-requires-clause-member c =
    let value = value_at c.args.values.now c.loop-row.row in
    let fits : FitsSigned w64 value = search rules in
    subst (λ (z : ℤ). Contains c.args.dictionary.now z) (sym (to_z-of_z w64 value fits)) (c.requires.members c.loop-row.row c.loop-row-test.true)

pub loop-row-preserved : goal.loop-row-preserved
loop-row-preserved c =
    let value = value_at c.args.values.now c.loop-row.row in
    let fits : FitsSigned w64 value = search rules in
    let place : c.place_near.result ≡ code_of c.args.dictionary.now value = c.place_near.ensures.place ∙ ap (code_of c.args.dictionary.now) (to_z-of_z w64 value fits) in
    record {
      long = search rules;
      written = λ n h.
          ap (λ x. slice_index (set c.loop-row.into c.loop-row.row x) n) place
          ∙ fill_by_more (λ n. code_of c.args.dictionary.now (value_at c.args.values.now n)) c.loop-row.into c.loop-row.row 0 (omega (arith, c.loop-row.invariant.long)) c.loop-row.invariant.written n h;
    }

pub returns-clause-codes : goal.returns-clause-codes
returns-clause-codes c =
    same_number_lists _ _ (c.loop-row.invariant.long ∙ sym (length-map c.args.values.now (code_of c.args.dictionary.now) ∙ c.told-values))
    (λ n h.
    let row : n < 1024 = omega (arith, c.loop-row.invariant.long) in
    c.loop-row.invariant.written n (omega arith) ∙ sym (get_or-map_zero (code_of c.args.dictionary.now) c.args.values.now n (omega arith)))

pub returns-clause-bound : goal.returns-clause-bound
returns-clause-bound c = λ n h.
    let value = value_at c.args.values.now n in
    let code = code_of_member c.args.dictionary.now value (Ascends-from_neighbours c.args.dictionary.now c.requires.rises) (member_from_Contains c.args.dictionary.now value (c.requires.members n h)) in
    omega (arith, c.loop-row.invariant.written n (omega arith), code.0)
