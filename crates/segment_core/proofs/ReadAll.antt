-- Reading, step by step: what is still to be read after the items that were gives the whole, and the readings of the parts give that of a format.
use Rattle.std.proofs.Common.{Bool, true, false, length, ◌≡◌, ℕ, suc, ◌+◌, ◌-◌, ◌<◌, ◌≤◌, List, [], ◌∷◌, ◌++◌, Result, Ok, Err, refl, sym, ◌∙◌, arith}
use Rattle.table_model.specs.declared.refusal.Refusal.{Refusal}
use Rattle.segment_core.specs.Format.{Format, read_all, checked}

-- after one more item
pub goes_on : {A : Type 0} (item : List A → Format A) (count i : ℕ) (front : List A) (total : ℕ) (bytes : List ℕ) (x : A) (after : List ℕ) (whole : Result (List A × List ℕ) Refusal)
    → i < count → (item front).read total bytes ≡ Ok (x, after) → read_all item (count - i) front total bytes ≡ whole
    → read_all item (count - (i + 1)) (front ++ x ∷ []) total after ≡ whole
unfolding read_all
goes_on item count i front total bytes x after whole below one so_far =
    let k : count - i ≡ suc (count - (i + 1)) = omega arith in
    let step : read_all item (count - i) front total bytes ≡ read_all item (count - (i + 1)) (front ++ x ∷ []) total after = rw (k, one) refl in
    sym step ∙ so_far

-- where an item has a fault
pub ends : {A : Type 0} (item : List A → Format A) (count i : ℕ) (front : List A) (total : ℕ) (bytes : List ℕ) (e : Refusal) (whole : Result (List A × List ℕ) Refusal)
    → i < count → (item front).read total bytes ≡ Err e → read_all item (count - i) front total bytes ≡ whole → whole ≡ Err e
unfolding read_all
ends item count i front total bytes e whole below fault so_far =
    let k : count - i ≡ suc (count - (i + 1)) = omega arith in
    let step : read_all item (count - i) front total bytes ≡ Err e = rw (k, fault) refl in
    sym so_far ∙ step

-- at the end
pub is_done : {A : Type 0} (item : List A → Format A) (count i : ℕ) (front : List A) (total : ℕ) (bytes : List ℕ) (whole : Result (List A × List ℕ) Refusal)
    → count ≤ i → read_all item (count - i) front total bytes ≡ whole → whole ≡ Ok (front, bytes)
unfolding read_all
is_done item count i front total bytes whole past so_far =
    let k : count - i ≡ 0 = omega arith in
    let step : read_all item (count - i) front total bytes ≡ Ok (front, bytes) = rw k refl in
    sym so_far ∙ step

-- a value that passes a test
pub checked_passes : {A : Type 0} (f : Format A) (test : A → Bool) (fault : ℕ → Refusal) (total : ℕ) (bytes : List ℕ) (x : A) (after : List ℕ)
    → f.read total bytes ≡ Ok (x, after) → test x ≡ true → (checked f test fault).read total bytes ≡ Ok (x, after)
checked_passes f test fault total bytes x after read pass = rw (read, pass) refl

-- a value that fails a test
pub checked_fails : {A : Type 0} (f : Format A) (test : A → Bool) (fault : ℕ → Refusal) (total : ℕ) (bytes : List ℕ) (x : A) (after : List ℕ)
    → f.read total bytes ≡ Ok (x, after) → test x ≡ false → (checked f test fault).read total bytes ≡ Err (fault (total - length bytes))
checked_fails f test fault total bytes x after read fail = rw (read, fail) refl
