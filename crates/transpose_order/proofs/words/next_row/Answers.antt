-- The lowest set bit of a word is its first true row.
use Rattle.std.proofs.Common.{◌≡◌, ℕ, ◌+◌, ◌*◌, ◌/◌, ◌%◌, ◌^◌, ◌<◌, ◌≤◌, true, false, slice_index_or, List, ⊎_elim, ap, ◌∙◌, refl, arith}
use Rattle.std.specs.Int.{w64, trailing_zeros}
use Rattle.std.proofs.lemmas.Bool.{cases_lt}
use Rattle.transpose_order.specs.Mask.{truth_at}
use Rattle.transpose_order.proofs.NextLemmas.{first_of_rest, none_of_rest}
use Rattle.transpose_order.proofs.words.next_row.Goals as goal

-- the first true row of what is left of the first word
first_here : (c : goal.Then-rest-ne0) → let j = c.args.from / 64 in let s = c.args.from % 64 in let rest = slice_index_or c.args.words.now j 0 / 2 ^ s in (s + trailing_zeros w64 rest < 64) × ((n : ℕ) → 64 * j + s ≤ n → n < 64 * j + s + trailing_zeros w64 rest → truth_at c.args.words.now n ≡ false) × (truth_at c.args.words.now (64 * j + s + trailing_zeros w64 rest) ≡ true)
first_here c =
    let word = slice_index_or c.args.words.now (c.args.from / 64) 0 in
    let fits : word < 2 ^ 64 = omega arith in
    first_of_rest c.args.words.now (c.args.from / 64) (c.args.from % 64) (word / 2 ^ (c.args.from % 64)) (omega arith) refl fits (omega arith) (omega arith)

pub returns-then-rest-ne0-clause-within : goal.returns-then-rest-ne0-clause-within
returns-then-rest-ne0-clause-within c = let first = first_here c in omega (arith, first.0)

pub returns-then-rest-ne0-clause-none : goal.returns-then-rest-ne0-clause-none
returns-then-rest-ne0-clause-none c = λ n from below. (first_here c).1 n (omega arith) (omega arith)

pub returns-then-rest-ne0-clause-here : goal.returns-then-rest-ne0-clause-here
returns-then-rest-ne0-clause-here c = λ _. ap (truth_at c.args.words.now) (omega arith) ∙ (first_here c).2

pub loop-j-init : goal.loop-j-init
loop-j-init c = λ n from below.
    none_of_rest c.args.words.now (c.args.from / 64) (c.args.from % 64) _ refl c.if-rest-ne0.false n (omega arith) below

-- the first true row of a later word
first_there : (words : List ℕ) (j : ℕ) → slice_index_or words j 0 < 2 ^ 64 → 0 < slice_index_or words j 0 → ((n : ℕ) → 64 * j ≤ n → n < 64 * j + trailing_zeros w64 (slice_index_or words j 0) → truth_at words n ≡ false) × (truth_at words (64 * j + trailing_zeros w64 (slice_index_or words j 0)) ≡ true)
first_there words j fits some =
    let first = first_of_rest words j 0 (slice_index_or words j 0) (omega arith) (omega arith) fits fits some in
    ((λ n from below. first.1 n (omega arith) (omega arith)), ap (truth_at words) (omega arith) ∙ first.2)

pub returns-then-words-j-ne0-clause-none : goal.returns-then-words-j-ne0-clause-none
returns-then-words-j-ne0-clause-none c = λ n from below.
    let fits : slice_index_or c.args.words.now c.loop-j.j 0 < 2 ^ 64 = omega arith in
    let some : 0 < slice_index_or c.args.words.now c.loop-j.j 0 = omega arith in
    ⊎_elim (λ (l : n < 64 * c.loop-j.j). c.loop-j.invariant n from l)
    (λ (l : 64 * c.loop-j.j ≤ n). (first_there c.args.words.now c.loop-j.j fits some).0 n l below)
    (cases_lt n (64 * c.loop-j.j))

pub returns-then-words-j-ne0-clause-here : goal.returns-then-words-j-ne0-clause-here
returns-then-words-j-ne0-clause-here c = λ _.
    let fits : slice_index_or c.args.words.now c.loop-j.j 0 < 2 ^ 64 = omega arith in
    let some : 0 < slice_index_or c.args.words.now c.loop-j.j 0 = omega arith in
    (first_there c.args.words.now c.loop-j.j fits some).1

pub loop-j-preserved : goal.loop-j-preserved
loop-j-preserved c = λ n from below.
    ⊎_elim (λ (l : n < 64 * c.loop-j.j). c.loop-j.invariant n from l)
    (λ (l : 64 * c.loop-j.j ≤ n). none_of_rest c.args.words.now c.loop-j.j 0 (slice_index_or c.args.words.now c.loop-j.j 0) (omega arith) c.if-words-j-ne0.false n (omega arith) below)
    (cases_lt n (64 * c.loop-j.j))
