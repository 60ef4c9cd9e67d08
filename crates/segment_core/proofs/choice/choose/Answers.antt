-- Each comparison keeps the bytes of the coding that it keeps.
use Rattle.std.proofs.Common.{◌∙◌, ℕ, refl, sym, subst}
use Rattle.segment_core.specs.Choice.{least_bytes, choice, IsFirstFewest}
use Rattle.segment_core.specs.declared.coding.Coding.{Coding}
use Rattle.segment_core.specs.declared.coding.Coding.TheVariants.{For, Delta, Runs}
use Rattle.segment_core.proofs.ChoiceLemmas.{Holds, compared, dictionary_is, first_fewest_is, bare_frame_is_first}
use Rattle.segment_core.proofs.choice.choose.Goals as goal

pub returns-then-from-lane_width-clause-value : goal.returns-then-from-lane_width-clause-value
unfolding choice
returns-then-from-lane_width-clause-value c =
    sym (bare_frame_is_first c.args.lane_width c.args.values.now c.requires.lane_width c.told-values (sym c.size.ensures ∙ sym c.from.ensures ∙ c.if-from-lane_width.true))

pub returns-then-from-lane_width-clause-fewest : goal.returns-then-from-lane_width-clause-fewest
unfolding choice
returns-then-from-lane_width-clause-fewest c =
    let bytes : Coding → ℕ = least_bytes c.args.lane_width c.args.values.now in
    subst (λ (x : Coding). IsFirstFewest bytes x) (sym (returns-then-from-lane_width-clause-value c)) (first_fewest_is bytes)

pub returns-clause-value : goal.returns-clause-value
unfolding choice
returns-clause-value c =
    let bytes : Coding → ℕ = least_bytes c.args.lane_width c.args.values.now in
    let one : Holds bytes For c.size.result For = record { coding = refl; count_is = c.size.ensures } in
    let two = compared bytes For For Delta _ _ _ _ one c.size-2.ensures c.or_fewer-of_two.ensures.coding c.or_fewer-of_two.ensures.bytes in
    let three = compared bytes _ _ Runs _ _ _ _ two c.size-3.ensures c.or_fewer-of_three.ensures.coding c.or_fewer-of_three.ensures.bytes in
    dictionary_is bytes _ _ c.or_dictionary.result c.size_below.result three c.or_dictionary.ensures c.size_below.ensures.below

pub returns-clause-fewest : goal.returns-clause-fewest
unfolding choice
returns-clause-fewest c =
    let bytes : Coding → ℕ = least_bytes c.args.lane_width c.args.values.now in
    subst (λ (x : Coding). IsFirstFewest bytes x) (sym (returns-clause-value c)) (first_fewest_is bytes)
