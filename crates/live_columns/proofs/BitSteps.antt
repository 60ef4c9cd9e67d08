-- Bits that are cleared one after another.
use Rattle.std.proofs.Common.{◌≡◌, ◌≢◌, ℕ, zero, suc, ◌+◌, ◌*◌, ◌/◌, ◌%◌, ◌^◌, ◌<◌, ◌≤◌, ◌==◌, ◌⊎◌, inl, inr, Bool, true, false, cond, not, nat_lt, min, ◌-◌, bit_and, List, [], ◌∷◌, ◌++◌, map, length, get_or, set, count_by, refl, sym, ap, subst, ◌∙◌, arith}
use Rattle.std.specs.Int.{bit_at, bit_not, w8}
use Rattle.std.proofs.lemmas.List.{get_or-set_same, get_or-set_other, get_or_past}
use Rattle.std.proofs.lemmas.Bool.{cases_eq, cases_lt, ne_eqb}
use Rattle.std.proofs.lemmas.Bool.Decides.{nat_tests}
use Rattle.std.proofs.lemmas.Nat.Bits.{bit_at_clear_same, bit_at_clear_other, bit_at-zero, bit_at_ones, bit_at_ones_above}
use Rattle.transpose_order.specs.Bytes.{bit_of_bytes}
use Rattle.transpose_order.specs.Mask.{has}
use Rattle.live_columns.specs.Bits.{AreMarked, front_bit}

-- ---- a cell more

never_zero : (i : ℕ) → (suc i == 0) ≡ false
never_zero i = ne_eqb (suc i) 0 (λ e. absurd (omega (arith, e)))

never_later : (n : ℕ) → (0 == suc n) ≡ false
never_later n = ne_eqb 0 (suc n) (λ e. absurd (omega (arith, e)))

both_later : (i n : ℕ) → (suc i == suc n) ≡ (i == n)
both_later i n = grind (arith, nat_tests)

has-append_one : (cells : List Bool) (b : Bool) (i : ℕ) → has (cells ++ b ∷ []) i ≡ cond (i == length cells) b (has cells i)
has-append_one [] b zero = refl
has-append_one [] b (suc i) = sym (ap (λ t. cond t b false) (never_zero i))
has-append_one (c ∷ cells) b zero = sym (ap (λ t. cond t b c) (never_later (length cells)))
has-append_one (c ∷ cells) b (suc i) = has-append_one cells b i ∙ sym (ap (λ t. cond t b (has cells i)) (both_later i (length cells)))

none_past : (cells : List Bool) (i : ℕ) → cond (i == length cells) false (has cells i) ≡ has cells i
none_past [] zero = refl
none_past [] (suc i) = ap (λ t. cond t false false) (never_zero i)
none_past (c ∷ cells) zero = ap (λ t. cond t false c) (never_later (length cells))
none_past (c ∷ cells) (suc i) = ap (λ t. cond t false (has cells i)) (both_later i (length cells)) ∙ none_past cells i

-- one that isn't null
pub marked-value : (before : ℕ → ℕ) (cells : List Bool) (bytes : List ℕ) → AreMarked before cells bytes → AreMarked before (cells ++ false ∷ []) bytes
marked-value before cells bytes h = λ i. h i ∙ ap (λ b. cond b 0 (before i)) (sym (has-append_one cells false i ∙ none_past cells i))

cleared : (here there : Bool) (n : ℕ) → cond here 0 (cond there 0 n) ≡ cond (cond here true there) 0 n
cleared true there n = refl
cleared false there n = refl

-- one that is null, and whose bit is cleared
pub marked-null : (before : ℕ → ℕ) (cells : List Bool) (cell : ℕ) (old new : List ℕ) → length cells ≡ cell → AreMarked before cells old → ((i : ℕ) → bit_of_bytes new i ≡ cond (i == cell) 0 (bit_of_bytes old i)) → AreMarked before (cells ++ true ∷ []) new
marked-null before cells cell old new here h c = λ i.
    c i ∙ ap (λ n. cond (i == n) 0 (bit_of_bytes old i)) (sym here) ∙ ap (λ n. cond (i == length cells) 0 n) (h i)
    ∙ cleared (i == length cells) (has cells i) (before i) ∙ ap (λ b. cond b 0 (before i)) (sym (has-append_one cells true i))

has-append_none : (cells more : List Bool) → ((i : ℕ) → has more i ≡ false) → (i : ℕ) → has (cells ++ more) i ≡ has cells i
has-append_none [] more none i = none i
has-append_none (c ∷ cells) more none zero = refl
has-append_none (c ∷ cells) more none (suc i) = has-append_none cells more none i

-- several of which none is null
pub marked-values : (before : ℕ → ℕ) (cells more : List Bool) (bytes : List ℕ) → ((i : ℕ) → has more i ≡ false) → AreMarked before cells bytes → AreMarked before (cells ++ more) bytes
marked-values before cells more bytes none h = λ i. h i ∙ ap (λ b. cond b 0 (before i)) (sym (has-append_none cells more none i))

-- ---- clearing a bit

-- the bits of a byte in its place
pub bit-cleared : (bytes : List ℕ) (cell new : ℕ) → cell < 8 * length bytes → new ≡ bit_and (get_or bytes (cell / 8) 0) (bit_not w8 (1 * 2 ^ (cell % 8) % 2 ^ 8)) → (i : ℕ) → bit_of_bytes (set bytes (cell / 8) new) i ≡ cond (i == cell) 0 (bit_of_bytes bytes i)
unfolding bit_of_bytes
bit-cleared bytes cell new l is i = by_byte (cases_eq (i / 8) (cell / 8))
  where
    byte : ℕ
    byte = get_or bytes (cell / 8) 0

    inside : cell / 8 < length bytes
    inside = omega (arith, l)

    by_bit : (i / 8 ≡ cell / 8) → ((i % 8 ≡ cell % 8) ⊎ (i % 8 ≢ cell % 8)) → bit_at new (i % 8) ≡ cond (i == cell) 0 (bit_at (get_or bytes (i / 8) 0) (i % 8))
    by_bit e (inl same) =
        let whole : i ≡ cell = omega (arith, e, same) in
        let on : (i == cell) ≡ true = grind (arith, nat_tests, whole) in
        ap (bit_at new) same ∙ ap (λ n. bit_at n (cell % 8)) is ∙ bit_at_clear_same w8 byte (cell % 8) (omega arith) ∙ ap (λ b. cond b 0 (bit_at (get_or bytes (i / 8) 0) (i % 8))) (sym on)
    by_bit e (inr other) =
        let ne : i ≢ cell = λ w. other (ap (λ n. n % 8) w) in
        let off : (i == cell) ≡ false = grind (arith, nat_tests, ne) in
        ap (λ n. bit_at n (i % 8)) is ∙ bit_at_clear_other w8 byte (cell % 8) (omega arith) (i % 8) (omega arith) other
        ∙ ap (λ n. bit_at (get_or bytes n 0) (i % 8)) (sym e) ∙ ap (λ b. cond b 0 (bit_at (get_or bytes (i / 8) 0) (i % 8))) (sym off)

    by_byte : (i / 8 ≡ cell / 8) ⊎ (i / 8 ≢ cell / 8) → bit_at (get_or (set bytes (cell / 8) new) (i / 8) 0) (i % 8) ≡ cond (i == cell) 0 (bit_at (get_or bytes (i / 8) 0) (i % 8))
    by_byte (inl e) = ap (λ n. bit_at (get_or (set bytes (cell / 8) new) n 0) (i % 8)) e ∙ ap (λ n. bit_at n (i % 8)) (get_or-set_same bytes (cell / 8) new 0 inside) ∙ by_bit e (cases_eq (i % 8) (cell % 8))
    by_byte (inr other) =
        let ne : i ≢ cell = λ w. other (ap (λ n. n / 8) w) in
        let off : (i == cell) ≡ false = grind (arith, nat_tests, ne) in
        ap (λ n. bit_at n (i % 8)) (get_or-set_other bytes (cell / 8) (i / 8) new 0 other) ∙ ap (λ b. cond b 0 (bit_at (get_or bytes (i / 8) 0) (i % 8))) (sym off)

-- ---- the first bits

-- bytes whose first bits are 1
pub front-bits : (cells : ℕ) (bytes : List ℕ) → cells ≤ 8 * length bytes → ((k : ℕ) → k < length bytes → get_or bytes k 0 ≡ 2 ^ (min (cells - 8 * k) 8) - 1) → (i : ℕ) → bit_of_bytes bytes i ≡ front_bit cells i
unfolding bit_of_bytes
front-bits cells bytes room h i = by_byte (cases_lt (i / 8) (length bytes))
  where
    shown : (b : Bool) → nat_lt i cells ≡ b → cond b 1 0 ≡ front_bit cells i
    shown b e = ap (λ t. cond t 1 0) (sym e)

    on : i < cells → nat_lt i cells ≡ true
    on l = grind (arith, nat_tests, l)

    off : cells ≤ i → nat_lt i cells ≡ false
    off l = grind (arith, nat_tests, l)

    by_bit : (i % 8 < min (cells - 8 * (i / 8)) 8) ⊎ (min (cells - 8 * (i / 8)) 8 ≤ i % 8) → bit_at (2 ^ (min (cells - 8 * (i / 8)) 8) - 1) (i % 8) ≡ front_bit cells i
    by_bit (inl l) = bit_at_ones (min (cells - 8 * (i / 8)) 8) (i % 8) l ∙ shown true (on (omega (arith, l)))
    by_bit (inr l) = bit_at_ones_above (min (cells - 8 * (i / 8)) 8) (i % 8) l ∙ shown false (off (omega (arith, l)))

    by_byte : (i / 8 < length bytes) ⊎ (length bytes ≤ i / 8) → bit_at (get_or bytes (i / 8) 0) (i % 8) ≡ front_bit cells i
    by_byte (inl l) = ap (λ n. bit_at n (i % 8)) (h (i / 8) l) ∙ by_bit (cases_lt (i % 8) (min (cells - 8 * (i / 8)) 8))
    by_byte (inr l) = ap (λ n. bit_at n (i % 8)) (get_or_past bytes (i / 8) 0 l) ∙ bit_at-zero (i % 8) ∙ shown false (off (omega (arith, l, room)))
