-- Each digit adds less than the next power of ten.
use Rattle.std.specs.Prelude.{◌≡◌, ℕ, ◌+◌, ◌*◌, ◌-◌, ◌^◌, ◌<◌, ◌≤◌, Bool, true, false, cond, ◌&&◌, nat_le, List, length, drop, Option, Some, None}
use Rattle.std.specs.List.{list_all}
use Rattle.std.specs.Char.{is_ascii_digit, digit_value}
use Rattle.std.proofs.Common.{refl, sym, ap, ◌∙◌, arith, get_or, add-one}
use Rattle.std.proofs.Math.Nat.{pow-le-pow_right, pow-suc}
use Rattle.std.proofs.lemmas.Bool.Decides.{nat_tests}
use Rattle.std.proofs.lemmas.List.{drop_more}
use Rattle.std.proofs.lemmas.List.Folds.{list_all_at}
use Rattle.std.specs.Str.Parse.{digits_value}
use Rattle.table_model.specs.Numeral.{value_digits, is_numeral, magnitude_of}

-- an ASCII digit's value
pub digit_is : (c : ℕ) → is_ascii_digit c ≡ true → (48 ≤ c) × (c ≤ 57) × (digit_value c ≡ c - 48)
digit_is c e =
    let low : 48 ≤ c = grind (arith, nat_tests) in
    let high : c ≤ 57 = grind (arith, nat_tests) in
    (low, high, grind (arith, nat_tests))

-- a list's byte is a digit where each is
pub digit_at : (bs : List ℕ) (i : ℕ) → i < length bs → list_all is_ascii_digit bs ≡ true → is_ascii_digit (get_or bs i 0) ≡ true
digit_at bs i within all =
    elim (is_ascii_digit (get_or bs i 0)) as (λ t. is_ascii_digit (get_or bs i 0) ≡ t → t ≡ true) [
      | true ↦ λ t. refl
      | false ↦ λ t. let both : false ≡ true = sym (list_all_at is_ascii_digit bs i 0 within t) ∙ all in cc
    ] refl

-- a number of i digits stays below the i-th power of ten, and i is below value_digits
pub ten_more : (n d i : ℕ) → n < 10 ^ i → d ≤ 9 → n * 10 + d < 10 ^ (i + 1)
ten_more n d i below digit =
    let power : 10 ^ (i + 1) ≡ 10 ^ i * 10 = ap (λ k. 10 ^ k) (add-one i) ∙ pow-suc 10 i in
    omega arith

pub room_for_ten : (n i : ℕ) → n < 10 ^ i → i < value_digits → n * 10 + 10 ≤ 10 ^ value_digits
room_for_ten n i below few =
    let power = pow-le-pow_right {n = 10} (omega arith) {i = i} {j = 29} (omega arith) in
    omega arith

-- nor past a word, where it is one of at most 19 digits
pub room_in_word : (n i : ℕ) → n < 10 ^ i → i < 19 → n * 10 + 10 ≤ 2 ^ 64
room_in_word n i below few =
    let power = pow-le-pow_right {n = 10} (omega arith) {i = i} {j = 18} (omega arith) in
    omega arith

-- whether the bytes from a place on are digits
pub digits_from : (bs : List ℕ) (i : ℕ) → i < length bs → list_all is_ascii_digit (drop i bs) ≡ (is_ascii_digit (get_or bs i 0) && list_all is_ascii_digit (drop (i + 1) bs))
digits_from bs i within = ap (list_all is_ascii_digit) (drop_more bs i 0 within)

-- what magnitude_of makes of the three tests of a numeral
abbrev tested : List ℕ → Bool → Bool → Bool → Option ℕ
tested text a b c = cond (a && (b && c)) (Some (digits_value 10 text)) None

without_digits : (text : List ℕ) (a b : Bool) → tested text a b false ≡ None
without_digits text true true = refl
without_digits text true false = refl
without_digits text false b = refl

-- a text with another byte than digits is no number, nor is one without bytes
pub no_magnitude : (text : List ℕ) → list_all is_ascii_digit text ≡ false → magnitude_of text ≡ None
unfolding magnitude_of is_numeral
no_magnitude text other = ap (tested text (nat_le 1 (length text)) (nat_le (length text) value_digits)) other ∙ without_digits text (nat_le 1 (length text)) (nat_le (length text) value_digits)

pub empty_magnitude : (text : List ℕ) → length text ≡ 0 → magnitude_of text ≡ None
unfolding magnitude_of is_numeral
empty_magnitude text empty =
    let none : nat_le 1 (length text) ≡ false = grind (arith, nat_tests) in
    ap (λ (t : Bool). tested text t (nat_le (length text) value_digits) (list_all is_ascii_digit text)) none

-- a text of some digits, few enough, is their number
pub digits_magnitude : (text : List ℕ) → 1 ≤ length text → length text ≤ 19 → list_all is_ascii_digit text ≡ true → magnitude_of text ≡ Some (digits_value 10 text)
unfolding magnitude_of is_numeral
digits_magnitude text some few all =
    let a : nat_le 1 (length text) ≡ true = grind (arith, nat_tests) in
    let b : nat_le (length text) value_digits ≡ true = grind (arith, nat_tests) in
    λ i. tested text (a i) (b i) (all i)
