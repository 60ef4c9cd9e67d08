-- A row is at a place of a word, and the row before at the place before, or at the last place of the word before.
use Rattle.std.proofs.Common.{◌≡◌, ◌==◌, ◌⊎◌, inl, inr, ℕ, ◌+◌, ◌-◌, ◌*◌, ◌/◌, ◌%◌, ◌<◌, ◌≤◌, Bool, true, List, slice_index, sym, ◌∙◌, ap, arith}
use Rattle.std.specs.Int.{bit_at}
use Rattle.std.proofs.lemmas.Bool.{cases_lt}
use Rattle.std.proofs.lemmas.Bool.Decides.{nat_tests}
use Rattle.transpose_order.specs.Mask.{has, rows_of, truth_at}
use Rattle.transpose_order.specs.MaskWords.{has-rows_of}
use Rattle.bit_interleave.specs.Places.{by_place}
use Rattle.segment_core.specs.Repeats.{RepeatByPlace, RepeatsAt, RepeatsFirst}
use Rattle.segment_core.proofs.repeats.RepeatingRows.hold.Goals as goal

-- a row of a mask is a bit of its words
marked : (rows : List Bool) (words : List ℕ) (n : ℕ) → rows ≡ rows_of (truth_at words) → n < 1024 → has rows n ≡ (bit_at (slice_index words (n / 64)) (n % 64) == 1)
marked rows words n e l = ap (λ (m : List Bool). has m n) e ∙ has-rows_of (truth_at words) n l

by_cases : (rows : List Bool) (words numbers : List ℕ) (n : ℕ) → rows ≡ rows_of (truth_at words)
    → ((j : ℕ) → 0 < j → j < 16 → RepeatsFirst words numbers j) → ((place j : ℕ) → 0 < place → place < 64 → j < 16 → RepeatsAt words numbers place j)
    → 0 < n → n < 1024 → has rows n ≡ true → (0 < n % 64) ⊎ (n % 64 ≤ 0) → by_place numbers n ≡ by_place numbers (n - 1)
by_cases rows words numbers n e first later some l m (inl p) =
    let bit : bit_at (slice_index words (n / 64)) (n % 64) ≡ 1 = let t = sym (marked rows words n e l) ∙ m in grind (arith, nat_tests) in
    let before : 16 * ((n - 1) % 64) + (n - 1) / 64 ≡ 16 * (n % 64 - 1) + n / 64 = omega arith in
    later (n % 64) (n / 64) p (omega arith) (omega arith) bit ∙ ap (slice_index numbers) (sym before)
by_cases rows words numbers n e first later some l m (inr p) =
    let place : n % 64 ≡ 0 = omega arith in
    let bit : bit_at (slice_index words (n / 64)) (n % 64) ≡ 1 = let t = sym (marked rows words n e l) ∙ m in grind (arith, nat_tests) in
    let here : 16 * (n % 64) + n / 64 ≡ n / 64 = omega arith in
    let before : 16 * ((n - 1) % 64) + (n - 1) / 64 ≡ 1007 + n / 64 = omega arith in
    ap (slice_index numbers) here ∙ first (n / 64) (omega arith) (omega arith) (ap (bit_at (slice_index words (n / 64))) (sym place) ∙ bit) ∙ ap (slice_index numbers) (sym before)

at_word : (words : List ℕ) (j place : ℕ) → place < 64 → bit_at (slice_index words j) place ≡ 1 → (bit_at (slice_index words ((64 * j + place) / 64)) ((64 * j + place) % 64) == 1) ≡ true
at_word words j place l e =
    let word : (64 * j + place) / 64 ≡ j = omega arith in
    let bit : (64 * j + place) % 64 ≡ place = omega arith in
    ap (λ k. bit_at (slice_index words k) ((64 * j + place) % 64) == 1) word ∙ ap (λ k. bit_at (slice_index words j) k == 1) bit ∙ ap (λ b. b == 1) e

later_from : (rows : List Bool) (words numbers : List ℕ) → rows ≡ rows_of (truth_at words) → RepeatByPlace rows numbers → (place j : ℕ) → 0 < place → place < 64 → j < 16 → RepeatsAt words numbers place j
later_from rows words numbers e h place j some within l bit =
    let n : ℕ = 64 * j + place in
    let is : has rows (64 * j + place) ≡ true = marked rows words (64 * j + place) e (omega arith) ∙ at_word words j place within bit in
    let here : 16 * ((64 * j + place) % 64) + (64 * j + place) / 64 ≡ 16 * place + j = omega arith in
    let before : 16 * ((64 * j + place - 1) % 64) + (64 * j + place - 1) / 64 ≡ 16 * (place - 1) + j = omega arith in
    ap (slice_index numbers) (sym here) ∙ h (64 * j + place) (omega arith) (omega arith) is ∙ ap (slice_index numbers) before

first_from : (rows : List Bool) (words numbers : List ℕ) → rows ≡ rows_of (truth_at words) → RepeatByPlace rows numbers → (j : ℕ) → 0 < j → j < 16 → RepeatsFirst words numbers j
first_from rows words numbers e h j some l bit =
    let is : has rows (64 * j + 0) ≡ true = marked rows words (64 * j + 0) e (omega arith) ∙ at_word words j 0 (omega arith) bit in
    let here : 16 * ((64 * j + 0) % 64) + (64 * j + 0) / 64 ≡ j = omega arith in
    let before : 16 * ((64 * j + 0 - 1) % 64) + (64 * j + 0 - 1) / 64 ≡ 1007 + j = omega arith in
    ap (slice_index numbers) (sym here) ∙ h (64 * j + 0) (omega arith) (omega arith) is ∙ ap (slice_index numbers) before

pub returns-then-repeat_first : goal.returns-then-repeat_first
returns-then-repeat_first c = (
  λ yes n some l m. by_cases c.args.self.now.rows c.words-words.result.now c.args.numbers.now n c.words-words.ensures (c.repeat_first.ensures.0 (c.if-repeat_first.true)) (c.repeat_at_places.ensures.0 yes) some l m (cases_lt 0 (n % 64)),
  λ h. c.repeat_at_places.ensures.1 (later_from c.args.self.now.rows c.words-words.result.now c.args.numbers.now c.words-words.ensures h),
)

pub returns-else-repeat_first : goal.returns-else-repeat_first
returns-else-repeat_first c = (
  λ yes. absurd (let no = c.if-repeat_first.false in cc),
  λ h. c.repeat_first.ensures.1 (first_from c.args.self.now.rows c.words-words.result.now c.args.numbers.now c.words-words.ensures h),
)
