-- The row's code is an element of its step.
use Rattle.std.proofs.Common.{ℕ, ℤ, rules, FitsSigned, sym, ap, ◌∙◌, subst, arith}
use Rattle.std.specs.Int.{w64}
use Rattle.std.proofs.lemmas.Int.{to_z-of_z}
use Rattle.bit_interleave.specs.Arithmetic.{integer_width}
use Rattle.bit_interleave.specs.Packing.{packed_value}
use Rattle.bit_interleave.specs.PackedWords.{packed_width}
use Rattle.bit_interleave.specs.Range.{value_at}
use Rattle.run_dictionary.specs.Dict.{DictForm, dict_value}
use Rattle.run_dictionary.proofs.DictLemmas.{code_in_place}
use Rattle.run_dictionary.proofs.RangeLemmas.{dict_value-fits}
use Rattle.run_dictionary.proofs.dicts.Dict.value.Goals as goal

pub get-requires : goal.get-requires
get-requires c =
    let codes = c.self.inside.codes in
    let told = c.value-code.ensures.value ∙ ap (λ (w : ℕ). packed_value codes.lane_width w codes.numbers c.place-lane.result.0 c.place-lane.result.1) c.packed_width.ensures in
    let code = code_in_place _ c.self.invariant c.args.row c.value-code.result told c.place-lane.ensures.lane c.place-lane.ensures.step in
    omega (arith, code, c.self.invariant.codes c.args.row c.requires)

pub returns-clause-value : goal.returns-clause-value
returns-clause-value c =
    let codes = c.self.inside.codes in
    let form : DictForm = record { lane_width = c.self.inside.values.lane_width; width = packed_width codes; values = c.self.inside.values.values; codes = codes } in
    let told = c.value-code.ensures.value ∙ ap (λ (w : ℕ). packed_value codes.lane_width w codes.numbers c.place-lane.result.0 c.place-lane.result.1) c.packed_width.ensures in
    let code = code_in_place form c.self.invariant c.args.row c.value-code.result told c.place-lane.ensures.lane c.place-lane.ensures.step in
    let fits : FitsSigned w64 c.get.result = search rules in
    to_z-of_z w64 c.get.result fits ∙ c.get.ensures.value ∙ ap (value_at form.values) code ∙ ap (λ f. dict_value f c.args.row) c.self.view_is

pub returns-clause-fits : goal.returns-clause-fits
returns-clause-fits c =
    let value = returns-clause-value c in
    subst (λ (z : ℤ). FitsSigned (integer_width c.args.self.now.lane_width) z) (sym value)
    (subst (λ (form : DictForm). FitsSigned (integer_width form.lane_width) (dict_value form c.args.row)) c.self.view_is (dict_value-fits _ c.self.invariant c.args.row c.requires))
