-- There is one value, or a second one, or a third.
use Rattle.std.proofs.Common.{◌≡◌, ◌≢◌, ℕ, ◌<◌, ℤ, List, length, w64, FitsSigned, to_z, of_z, ◌∙◌, sym, rules, arith}
use Rattle.std.proofs.lemmas.Int.{to_z-of_z}
use Rattle.bit_interleave.specs.Range.{value_at}
use Rattle.run_dictionary.proofs.FewValues.{is_one, is_two, is_three, is_place}
use Rattle.run_dictionary.proofs.run_words.distinct_to_three.Goals as goal

pub returns-then-second-len : goal.returns-then-second-len
returns-then-second-len c =
    is_one c.args.values.now.values c.requires (λ i h. c.first_other-second.ensures.before i (omega (arith, h, c.if-second-len.true, c.len.ensures)))

pub returns-then-first_another-len : goal.returns-then-first_another-len
returns-then-first_another-len c =
    let xs : List ℤ = c.args.values.now.values in
    let k : ℕ = c.first_other-second.result in
    let within : k < length xs = is_place k (length xs) c.first_other-second.ensures.within (λ e. c.if-second-len.false (omega (arith, e, c.len.ensures))) in
    let first_fits : FitsSigned w64 c.get.result = search rules in
    let second_fits : FitsSigned w64 c.get-2.result = search rules in
    let first : to_z w64 (of_z w64 c.get.result) ≡ value_at xs 0 = to_z-of_z w64 c.get.result first_fits ∙ c.get.ensures.value in
    let second : to_z w64 (of_z w64 c.get-2.result) ≡ value_at xs k = to_z-of_z w64 c.get-2.result second_fits ∙ c.get-2.ensures.value in
    is_two xs k c.requires within (c.first_other-second.ensures.here within)
    (λ i h both. c.first_another.ensures.before i (omega (arith, h, c.if-first_another-len.true, c.len-2.ensures)) (λ e. both.0 (e ∙ first), λ e. both.1 (e ∙ second)))

pub returns : goal.returns
returns c =
    let xs : List ℤ = c.args.values.now.values in
    let k : ℕ = c.first_other-second.result in
    let m : ℕ = c.first_another.result in
    let within : k < length xs = is_place k (length xs) c.first_other-second.ensures.within (λ e. c.if-second-len.false (omega (arith, e, c.len.ensures))) in
    let there : m < length xs = is_place m (length xs) c.first_another.ensures.within (λ e. c.if-first_another-len.false (omega (arith, e, c.len-2.ensures))) in
    let first_fits : FitsSigned w64 c.get.result = search rules in
    let second_fits : FitsSigned w64 c.get-2.result = search rules in
    let first : to_z w64 (of_z w64 c.get.result) ≡ value_at xs 0 = to_z-of_z w64 c.get.result first_fits ∙ c.get.ensures.value in
    let second : to_z w64 (of_z w64 c.get-2.result) ≡ value_at xs k = to_z-of_z w64 c.get-2.result second_fits ∙ c.get-2.ensures.value in
    let another = c.first_another.ensures.here there in
    is_three xs k m c.requires within there (c.first_other-second.ensures.here within) (λ e. another.0 (e ∙ sym first), λ e. another.1 (e ∙ sym second))
