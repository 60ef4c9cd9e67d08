-- The distinct values are counted, or too many.
use Rattle.std.proofs.Common.{rules, ◌↔◌, ◌<◌, ◌≤◌, ◌-◌, ℕ, Option, IsSome, length, sym, ap, ◌∙◌, subst, arith}
use Rattle.bit_interleave.specs.Arithmetic.{least_width}
use Rattle.run_dictionary.specs.Dict.{distinct, least_dict, dict_bytes}
use Rattle.run_dictionary.proofs.OrderLemmas.{length-distinct}
use Rattle.run_dictionary.proofs.DictLemmas.{some_distinct, least_code_width-le}
use Rattle.run_dictionary.proofs.dicts.Dict.size_below.Goals as goal

pub returns-in_err-count-clause-below : goal.returns-in_err-count-clause-below
returns-in_err-count-clause-below c =
    let bytes = dict_bytes (least_dict c.args.lane_width c.args.values.now) in
    let not_below : c.args.bound ≤ bytes = c.most_values.ensures.enough (length (distinct c.args.values.now)) c.in_err-count.ensures.none (omega (arith, length-distinct c.args.values.now, c.told-values)) in
    subst (λ (o : Option ℕ). IsSome o ↔ (bytes < c.args.bound)) (sym c.from_residual.ensures) (λ s. absurd (search (rules, s)), λ l. absurd (omega (arith, not_below, l)))

pub overflow_sub-count : goal.overflow_sub-count
overflow_sub-count c = omega (arith, c.in_ok-count.ensures.some, some_distinct c.args.values.now (omega (arith, c.told-values)))

pub payload_bytes-size-requires-clause-count : goal.payload_bytes-size-requires-clause-count
payload_bytes-size-requires-clause-count c = omega (arith, c.in_ok-count.ensures.some, length-distinct c.args.values.now, c.told-values)

pub payload_bytes-size-requires-clause-width : goal.payload_bytes-size-requires-clause-width
payload_bytes-size-requires-clause-width c =
    omega (arith, c.width_of.ensures.value ∙ ap (λ k. least_width (k - 1)) c.in_ok-count.ensures.some, least_code_width-le c.args.values.now c.told-values)
