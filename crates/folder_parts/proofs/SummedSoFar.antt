-- The sum of the numbers up to a place.
use Rattle.std.specs.Prelude.{◌≡◌, ℕ, ◌+◌, ◌*◌, ◌≤◌, ◌<◌, List, length, get_or, take}
use Rattle.std.specs.List.{sum}
use Rattle.std.proofs.Common.{refl, sym, ap, ◌∙◌, arith}
use Rattle.std.proofs.lemmas.List.{take_all}
use Rattle.std.proofs.lemmas.List.Sums.{sum_by_more}

pub record SummedSoFar (numbers : List ℕ) (at total : ℕ) : Type 0 where
  pub value : total ≡ sum (take at numbers)
  pub bound : total ≤ at * 4294967295

pub summed_none : (numbers : List ℕ) → SummedSoFar numbers 0 0
summed_none numbers = record { value = refl; bound = omega arith }

more_bound : (total at number : ℕ) → total ≤ at * 4294967295 → number ≤ 4294967295 → total + number ≤ (at + 1) * 4294967295
more_bound total at number so one = omega (arith, so, one)

pub summed_next : (numbers : List ℕ) (at total number : ℕ) → SummedSoFar numbers at total → at < length numbers → number ≡ get_or numbers at 0 → number ≤ 4294967295 → SummedSoFar numbers (at + 1) (total + number)
summed_next numbers at total number so below is fit = record {
  value = (λ i. so.value i + is i) ∙ sym (sum_by_more (λ x. x) numbers at 0 below);
  bound = more_bound total at number so.bound fit;
}

pub summed_all : (numbers : List ℕ) (at total : ℕ) → SummedSoFar numbers at total → at ≡ length numbers → total ≡ sum numbers
summed_all numbers at total so end = so.value ∙ ap sum (take_all at numbers (omega (arith, end)))
