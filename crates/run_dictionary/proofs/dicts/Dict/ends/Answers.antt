-- A dictionary ascends, and each of its places is used.
use Rattle.std.proofs.Common.{rules, ◌≡◌, ◌-◌, ℤ, pos, ◌≤ℤ◌, FitsSigned, of_z, to_z, length, get_or, sym, ap, ◌∙◌, subst, arith}
use Rattle.std.specs.Int.{w64}
use Rattle.std.proofs.lemmas.Int.{to_z-of_z}
use Rattle.bit_interleave.specs.PackedWords.{packed_width}
use Rattle.run_dictionary.specs.Dict.{DictForm, dict_value, dict_values, least_dict}
use Rattle.run_dictionary.proofs.DictLemmas.{values_between, row_of_place}
use Rattle.run_dictionary.proofs.dicts.Dict.ends.Goals as goal

pub returns-clause-bounds : goal.returns-clause-bounds
returns-clause-bounds c = λ n h.
    let xs = c.self.inside.values.values in
    let form : DictForm = record { lane_width = c.self.inside.values.lane_width; width = packed_width c.self.inside.codes; values = xs; codes = c.self.inside.codes } in
    let low_fits : FitsSigned w64 c.get.result = search rules in
    let high_fits : FitsSigned w64 c.get-2.result = search rules in
    let low : to_z w64 (of_z w64 c.get.result) ≡ get_or xs 0 (pos 0) = to_z-of_z w64 c.get.result low_fits ∙ c.get.ensures.value in
    let high : to_z w64 (of_z w64 c.get-2.result) ≡ get_or xs (length xs - 1) (pos 0) = to_z-of_z w64 c.get-2.result high_fits ∙ c.get-2.ensures.value ∙ ap (λ k. get_or xs (k - 1) (pos 0)) c.len.ensures in
    let between = values_between form c.self.invariant n h in
    let below = subst (λ (z : ℤ). z ≤ℤ dict_value form n) (sym low) between.0 in
    let above = subst (λ (z : ℤ). dict_value form n ≤ℤ z) (sym high) between.1 in (
      subst (λ (form : DictForm). to_z w64 (of_z w64 c.get.result) ≤ℤ dict_value form n) c.self.view_is below,
      subst (λ (form : DictForm). dict_value form n ≤ℤ to_z w64 (of_z w64 c.get-2.result)) c.self.view_is above,
    )

pub returns-clause-least : goal.returns-clause-least
returns-clause-least c =
    let xs = c.self.inside.values.values in
    let form : DictForm = record { lane_width = c.self.inside.values.lane_width; width = packed_width c.self.inside.codes; values = xs; codes = c.self.inside.codes } in
    let fits : FitsSigned w64 c.get.result = search rules in
    let least = subst (λ (form : DictForm). form ≡ least_dict form.lane_width (dict_values form)) (sym c.self.view_is) c.requires in
    let row = row_of_place form c.self.invariant least 0 (omega (arith, c.self.invariant.codes 0 (omega arith))) in
    (row.0, row.1, ap (λ (form : DictForm). dict_value form row.0) (sym c.self.view_is) ∙ row.2 ∙ sym (to_z-of_z w64 c.get.result fits ∙ c.get.ensures.value))

pub returns-clause-greatest : goal.returns-clause-greatest
returns-clause-greatest c =
    let xs = c.self.inside.values.values in
    let form : DictForm = record { lane_width = c.self.inside.values.lane_width; width = packed_width c.self.inside.codes; values = xs; codes = c.self.inside.codes } in
    let fits : FitsSigned w64 c.get-2.result = search rules in
    let least = subst (λ (form : DictForm). form ≡ least_dict form.lane_width (dict_values form)) (sym c.self.view_is) c.requires in
    let row = row_of_place form c.self.invariant least (length xs - 1) (omega (arith, c.self.invariant.codes 0 (omega arith))) in (
      row.0,
      row.1,
      ap (λ (form : DictForm). dict_value form row.0) (sym c.self.view_is) ∙ row.2
          ∙ sym (to_z-of_z w64 c.get-2.result fits ∙ c.get-2.ensures.value ∙ ap (λ k. get_or xs (k - 1) (pos 0)) c.len.ensures),
    )
