-- The changes and their values are the least form.
use Rattle.std.proofs.Common.{◌≡◌, ℤ, List, sym, ap, ◌∙◌, subst}
use Rattle.bit_interleave.specs.Range.{AreInRange, value_at}
use Rattle.run_dictionary.specs.Runs.{RunForm, IsRunForm, changed_values, least_runs}
use Rattle.run_dictionary.proofs.RunLemmas.{IsRunForm-least}
use Rattle.run_dictionary.proofs.runs.Runs.encode.Goals as goal

pub from_slice-requires-clause-fit : goal.from_slice-requires-clause-fit
from_slice-requires-clause-fit c =
    subst (λ (xs : List ℤ). AreInRange c.args.lane_width xs)
    (sym (c.write_changed-count.ensures.written ∙ ap (changed_values (value_at c.args.values.now)) c.told-values))
    (IsRunForm-least c.args.lane_width c.args.values.now c.requires.lane_width c.told-values c.requires.fit).range

pub invariant_of-result : goal.invariant_of-result
invariant_of-result c =
    let written = c.write_changed-count.ensures.written ∙ ap (changed_values (value_at c.args.values.now)) c.told-values in
    let kept = c.in_ok-from_slice.field-0 in
    let values : kept.values ≡ changed_values (value_at c.args.values.now) 1024 = ap (λ v. v.values) c.in_ok-from_slice.ensures ∙ written in
    let width : kept.lane_width ≡ c.args.lane_width = ap (λ v. v.lane_width) c.in_ok-from_slice.ensures in
    let made : RunForm = record { lane_width = kept.lane_width; starts = c.changes.result; values = kept.values } in
    let is : made ≡ least_runs c.args.lane_width c.args.values.now = λ i. record { lane_width = width i; starts = c.changes.ensures i; values = values i } in
    subst IsRunForm (sym is) (IsRunForm-least c.args.lane_width c.args.values.now c.requires.lane_width c.told-values c.requires.fit)
