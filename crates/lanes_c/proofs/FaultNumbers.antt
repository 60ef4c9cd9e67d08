-- No fault has the number 0, which is answered if there is none.
use Rattle.std.proofs.Common.{◌≡◌, sym, ◌∙◌, ℕ, arith}
use Rattle.lanes_c.specs.Faults.{number_of_fault}
use Rattle.lanes_c.specs.declared.fault.Fault.{Fault}

is_not_0 : (fault : Fault) → number_of_fault fault ≡ 0 → ⊥
is_not_0 = grind arith

-- so what is told of a fault is no 0
pub told_not_0 : (fault : Fault) (number : ℕ) → number ≡ number_of_fault fault → number ≡ 0 → ⊥
told_not_0 fault number told zero = is_not_0 fault (sym told ∙ zero)
