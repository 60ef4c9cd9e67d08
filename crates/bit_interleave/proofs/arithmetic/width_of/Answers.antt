-- The leading zeros of a number in 64 bits tell its least width.
use Rattle.std.proofs.Common.{sym, subst, arith, ℕ, ◌<◌, ◌≤◌, ◌^◌}
use Rattle.bit_interleave.proofs.LeastWidthLemmas.{least_width_is, least_width-holds, least_width-least}
use Rattle.bit_interleave.proofs.arithmetic.width_of.Goals as goal

pub returns-clause-value : goal.returns-clause-value
returns-clause-value c = sym (least_width_is c.args.max)

pub returns-clause-holds : goal.returns-clause-holds
returns-clause-holds c =
    subst (λ (w : ℕ). c.args.max < 2 ^ w) (least_width_is c.args.max) (least_width-holds c.args.max (omega (arith, c.ranges.max)))

pub returns-clause-least : goal.returns-clause-least
returns-clause-least c = λ v h.
    subst (λ (w : ℕ). w ≤ v) (least_width_is c.args.max) (least_width-least c.args.max v (omega (arith, c.ranges.max)) h)
