-- Passing over things one after another: what is still to be passed after those that were gives the whole.
use Rattle.std.proofs.Common.{◌≡◌, ℕ, suc, ◌+◌, ◌-◌, ◌<◌, ◌≤◌, List, Result, Ok, Err, refl, sym, ◌∙◌, arith}
use Rattle.table_model.specs.declared.refusal.Refusal.{Refusal}
use Rattle.column_file.specs.Passing.{over_each}

abbrev pub Thing : Type 0
Thing = ℕ → ℕ → List ℕ → Result (List ℕ) Refusal

-- after one more
pub goes_on : (thing : Thing) (count i total : ℕ) (bytes after : List ℕ) (whole : Result (List ℕ) Refusal)
    → i < count → thing i total bytes ≡ Ok after → over_each thing (count - i) i total bytes ≡ whole → over_each thing (count - (i + 1)) (i + 1) total after ≡ whole
unfolding over_each
goes_on thing count i total bytes after whole below one so_far =
    let k : count - i ≡ suc (count - (i + 1)) = omega arith in
    let step : over_each thing (count - i) i total bytes ≡ over_each thing (count - (i + 1)) (i + 1) total after = rw (k, one) refl in
    sym step ∙ so_far

-- where one has a fault
pub ends : (thing : Thing) (count i total : ℕ) (bytes : List ℕ) (e : Refusal) (whole : Result (List ℕ) Refusal)
    → i < count → thing i total bytes ≡ Err e → over_each thing (count - i) i total bytes ≡ whole → whole ≡ Err e
unfolding over_each
ends thing count i total bytes e whole below fault so_far =
    let k : count - i ≡ suc (count - (i + 1)) = omega arith in
    let step : over_each thing (count - i) i total bytes ≡ Err e = rw (k, fault) refl in
    sym so_far ∙ step

-- at the end
pub is_done : (thing : Thing) (count i total : ℕ) (bytes : List ℕ) (whole : Result (List ℕ) Refusal) → count ≤ i → over_each thing (count - i) i total bytes ≡ whole → whole ≡ Ok bytes
unfolding over_each
is_done thing count i total bytes whole past so_far =
    let k : count - i ≡ 0 = omega arith in
    let step : over_each thing (count - i) i total bytes ≡ Ok bytes = rw k refl in
    sym so_far ∙ step
