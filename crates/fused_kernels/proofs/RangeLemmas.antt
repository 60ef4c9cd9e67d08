-- A number of 64 bits is in a range exactly where it is in the part of it that 64 bits hold.
use Rattle.std.proofs.Common.{◌≡◌, ℕ, ◌-◌, ◌^◌, ◌<◌, Bool, true, false, not, ◌&&◌, ℤ, pos, negsuc, int_lt, int_le, FitsSigned, List, sym, ap, ◌∙◌, arith}
use Rattle.std.specs.Int.{w64}
use Rattle.std.proofs.lemmas.Int.{ints}
use Rattle.std.proofs.lemmas.List.Elements.{All-get_or}
use Rattle.std.proofs.Math.Bool.{and-false, and-true}
use Rattle.transpose_order.specs.Mask.{rows_of, has}
use Rattle.transpose_order.specs.MaskWords.{rows_of-like, has-rows_of}
use Rattle.bit_interleave.specs.Range.{value_at}
use Rattle.fused_kernels.specs.Seen.{LanesSeen, AreLanes, between}

pub value_fits : (s : LanesSeen) (n : ℕ) → AreLanes s → n < 1024 → FitsSigned w64 (value_at s.values n)
value_fits s n form h = All-get_or (λ v. FitsSigned w64 v) s.values n (pos 0) (omega (arith, form.long)) form.fit

pub past_greatest : (low high value : ℤ) → int_lt (pos (2 ^ 63 - 1)) low ≡ true → FitsSigned w64 value → between low high value ≡ false
past_greatest low high value past fits =
    let below : int_le low value ≡ false = grind (arith, ints) in
    ap (λ b. b && int_le value high) below

pub before_least : (low high value : ℤ) → int_lt high (negsuc (2 ^ 63 - 1)) ≡ true → FitsSigned w64 value → between low high value ≡ false
before_least low high value before fits =
    let above : int_le value high ≡ false = grind (arith, ints) in
    ap (λ b. int_le low value && b) above ∙ and-false (int_le low value)

pub low_end : (low value : ℤ) → int_lt low (negsuc (2 ^ 63 - 1)) ≡ true → FitsSigned w64 value → int_le (negsuc (2 ^ 63 - 1)) value ≡ int_le low value
low_end low value before fits =
    let least : int_le (negsuc (2 ^ 63 - 1)) value ≡ true = grind (arith, ints) in
    let lower : int_le low value ≡ true = grind (arith, ints) in
    least ∙ sym lower

pub high_end : (high value : ℤ) → int_lt (pos (2 ^ 63 - 1)) high ≡ true → FitsSigned w64 value → int_le value (pos (2 ^ 63 - 1)) ≡ int_le value high
high_end high value past fits =
    let greatest : int_le value (pos (2 ^ 63 - 1)) ≡ true = grind (arith, ints) in
    let higher : int_le value high ≡ true = grind (arith, ints) in
    greatest ∙ sym higher

-- the rows of a mask that a test holds at, and those that it doesn't
pub rows_and : (look test : ℕ → Bool) (rows found : List Bool) → rows ≡ rows_of look → ((n : ℕ) → n < 1024 → has found n ≡ test n) → rows_of (λ n. has rows n && has found n) ≡ rows_of (λ n. look n && test n)
rows_and look test rows found is holds =
    rows_of-like (λ n. has rows n && has found n) (λ n. look n && test n)
    (λ n h. ap (λ b. b && has found n) (ap (λ m. has m n) is ∙ has-rows_of look n h) ∙ ap (λ b. look n && b) (holds n h))

pub rows_and_not : (look test : ℕ → Bool) (rows found : List Bool) → rows ≡ rows_of look → ((n : ℕ) → n < 1024 → has found n ≡ test n) → rows_of (λ n. has rows n && not (has found n)) ≡ rows_of (λ n. look n && not (test n))
rows_and_not look test rows found is holds =
    rows_of-like (λ n. has rows n && not (has found n)) (λ n. look n && not (test n))
    (λ n h. ap (λ b. b && not (has found n)) (ap (λ m. has m n) is ∙ has-rows_of look n h) ∙ ap (λ b. look n && not b) (holds n h))

-- where the test holds nowhere
pub no_row : (look test : ℕ → Bool) → ((n : ℕ) → n < 1024 → test n ≡ false) → rows_of (λ _. false) ≡ rows_of (λ n. look n && test n)
no_row look test none =
    rows_of-like (λ _. false) (λ n. look n && test n) (λ n h. sym (ap (λ b. look n && b) (none n h) ∙ and-false (look n)))

pub each_row : (look test : ℕ → Bool) → ((n : ℕ) → n < 1024 → test n ≡ false) → rows_of look ≡ rows_of (λ n. look n && not (test n))
each_row look test none =
    rows_of-like look (λ n. look n && not (test n)) (λ n h. sym (ap (λ b. look n && not b) (none n h) ∙ and-true (look n)))

-- two tests that agree choose the same rows
pub rows_alike : (look test other : ℕ → Bool) → ((n : ℕ) → n < 1024 → test n ≡ other n) → rows_of (λ n. look n && test n) ≡ rows_of (λ n. look n && other n)
rows_alike look test other same =
    rows_of-like (λ n. look n && test n) (λ n. look n && other n) (λ n h. ap (λ b. look n && b) (same n h))

-- the rows of two masks
pub both_masks : (f g : ℕ → Bool) (a b : List Bool) → a ≡ rows_of f → b ≡ rows_of g → rows_of (λ n. has a n && has b n) ≡ rows_of (λ n. f n && g n)
both_masks f g a b ea eb =
    rows_of-like (λ n. has a n && has b n) (λ n. f n && g n)
    (λ n h. ap (λ x. x && has b n) (ap (λ m. has m n) ea ∙ has-rows_of f n h) ∙ ap (λ y. f n && y) (ap (λ m. has m n) eb ∙ has-rows_of g n h))
