-- A value that an ascending dictionary has is found at its place.
use Rattle.std.proofs.Common.{◌≡◌, ℤ, pos, get_or, Contains, sym, ap, ◌∙◌, subst}
use Rattle.std.specs.Int.{w64}
use Rattle.std.proofs.lemmas.Int.{to_z-of_z}
use Rattle.run_dictionary.specs.Dict.{code_of}
use Rattle.run_dictionary.proofs.DictLemmas.{Ascends-from_neighbours, code_of_place, equal_from_cmp, not_missed}
use Rattle.run_dictionary.proofs.codes.place_of.Goals as goal
use Rattle.std.specs.Int.{cast_signed, cast_unsigned}

pub unreachable-requires : goal.unreachable-requires
unreachable-requires c =
    let passed : ℤ = cast_signed w64 (cast_unsigned w64 c.args.value) in
    let same : passed ≡ c.args.value = to_z-of_z w64 c.args.value c.ranges.value in
    not_missed c.args.dictionary.now passed c.in-Err.field-0 c.requires.rises (subst (λ (z : ℤ). Contains c.args.dictionary.now z) (sym same) c.requires.member) c.in-Err.ensures.position

pub returns-clause-place : goal.returns-clause-place
returns-clause-place c =
    let xs = c.args.dictionary.now in
    let value : get_or xs c.in-Ok.place (pos 0) ≡ c.args.value = equal_from_cmp _ _ (c.in-Ok.ensures.ok (pos 0)) ∙ to_z-of_z w64 c.args.value c.ranges.value in
    sym (ap (code_of xs) (sym value) ∙ code_of_place xs (Ascends-from_neighbours xs c.requires.rises) c.in-Ok.place c.in-Ok.ensures.bound)
