-- The values at the rows of a mask, one row more.
use Rattle.std.proofs.Common.{◌≡◌, ◌≢◌, ◌==◌, nat_eq, bit_and, min, ◌⊎◌, inl, inr, subst, eq-eqb, ℕ, zero, suc, ◌+◌, ◌-◌, ◌*◌, ◌/◌, ◌%◌, ◌^◌, ◌<◌, ◌≤◌, Bool, true, false, not, cond, List, [], ◌∷◌, ◌++◌, length, get_or, count_by, Some, None, ℤ, pos, ◌+ℤ◌, refl, sym, ap, ◌∙◌, arith, append-nil, length-append}
use Rattle.std.specs.Int.{bit_at, from_bool}
use Rattle.std.proofs.Math.Nat.{div-eq_of_lt, mul-suc, pow-le-pow_right}
use Rattle.std.specs.Ordering.{int_eq}
use Rattle.std.specs.Simd.Lanes.{sum_l}
use Rattle.std.proofs.lemmas.Bool.{cases_lt, ne_eqb}
use Rattle.std.proofs.lemmas.Nat.{and_le_r}
use Rattle.std.proofs.lemmas.Nat.Bits.{bit_at-lt, bit_at_and, bit_at-pow_same}
use Rattle.std.proofs.lemmas.Bool.Decides.{Decides-int_eq}
use Rattle.std.proofs.lemmas.Int.{ints}
use Rattle.table_model.proofs.Appended.{total-append}
use Rattle.table_model.specs.Values.{total}
use Rattle.transpose_order.specs.Mask.{has, number_of_bits, rows_of}
use Rattle.transpose_order.specs.MaskWords.{bit_at-number_of_bits, number_of_bits-below, number_of_bits-suc}
use Rattle.query_eval.proofs.ColumnLemmas.{length-masked}
use Rattle.query_eval.proofs.RowsBelow.{present_more}
use Rattle.query_eval.proofs.TallyLemmas.{one_total}
use Rattle.query_eval.specs.Slices.{IsRaised, differs_at, value_of, values_at, values_below}

pub values_all : (k : ℕ) (rows : List Bool) (values : List ℤ) → k ≡ 1024 → values_below k rows values ≡ values_at rows values
unfolding rows_of
values_all k rows values e = ap (λ n. values_below n rows values) e

pub values_more : (k : ℕ) (rows : List Bool) (values : List ℤ) (b : Bool) → has rows k ≡ b → values_below (k + 1) rows values ≡ values_below k rows values ++ cond b (get_or values k (pos 0) ∷ []) []
values_more k rows values b is = present_more (value_of rows values) k b (get_or values k (pos 0)) (ap (λ c. cond c (Some (get_or values k (pos 0))) None) is)

-- no row below k is one of the mask
pub values_none : (k : ℕ) (rows : List Bool) (values : List ℤ) → ((n : ℕ) → n < k → has rows n ≡ false) → values_below k rows values ≡ []
values_none zero rows values h = refl
values_none (suc k) rows values h =
    ap (λ n. values_below n rows values) (let e : suc k ≡ k + 1 = omega arith in e) ∙ values_more k rows values false (h k (omega arith)) ∙ append-nil (values_below k rows values) ∙ values_none k rows values (λ n l. h n (omega (arith, l)))

-- rows from k on of which none is one of the mask
pub values_skip : (k j : ℕ) (rows : List Bool) (values : List ℤ) → ((b : ℕ) → b < j → has rows (k + b) ≡ false) → values_below (k + j) rows values ≡ values_below k rows values
values_skip k zero rows values h = ap (λ n. values_below n rows values) (let e : k + zero ≡ k = omega arith in e)
values_skip k (suc j) rows values h =
    ap (λ n. values_below n rows values) (let e : k + suc j ≡ (k + j) + 1 = omega arith in e) ∙ values_more (k + j) rows values false (h j (omega arith)) ∙ append-nil (values_below (k + j) rows values) ∙ values_skip k j rows values (λ b l. h b (omega (arith, l)))

values_longer : (k j : ℕ) (rows : List Bool) (values : List ℤ) → length (values_below k rows values) ≤ length (values_below (k + j) rows values)
values_longer k zero rows values = omega (arith, ap (λ n. length (values_below n rows values)) (let e : k + zero ≡ k = omega arith in e))
values_longer k (suc j) rows values =
    omega (
      arith,
      values_longer k j rows values,
      ap (λ n. length (values_below n rows values)) (let e : k + suc j ≡ (k + j) + 1 = omega arith in e),
      ap length (values_more (k + j) rows values (has rows (k + j)) refl),
      length-append (values_below (k + j) rows values) (cond (has rows (k + j)) (get_or values (k + j) (pos 0) ∷ []) []),
    )

-- a mask with a row has a value
pub values_some : (k : ℕ) (rows : List Bool) (values : List ℤ) → has rows k ≡ true → k < 1024 → values_at rows values ≢ []
values_some k rows values on l = λ e.
    absurd
    (omega (
      arith,
      values_longer (k + 1) (1023 - k) rows values,
      ap length (values_all (k + 1 + (1023 - k)) rows values (let whole : k + 1 + (1023 - k) ≡ 1024 = omega (arith, l) in whole)),
      ap length e,
      ap length (values_more k rows values true on),
      length-append (values_below k rows values) (get_or values k (pos 0) ∷ []),
    ))

-- as many values as rows
pub length-values_at : (rows : List Bool) (values : List ℤ) → length rows ≡ 1024 → length (values_at rows values) ≡ count_by (λ y. y) rows
length-values_at rows values l = length-masked rows (λ n. get_or values n (pos 0)) l

-- ---- words bit by bit
bit_below : (b : Bool) → cond b 1 0 < 2
bit_below true = omega arith
bit_below false = omega arith

bit_is : (b : Bool) → (cond b 1 0 == 1) ≡ b
bit_is true = refl
bit_is false = refl

pub test_bit : (f : ℕ → Bool) (p : ℕ) → p < 64 → (bit_at (number_of_bits 64 (λ b. cond (f b) 1 0)) p == 1) ≡ f p
test_bit f p l = ap (λ b. b == 1) (bit_at-number_of_bits 64 (λ b. cond (f b) 1 0) (λ i _. bit_below (f i)) p l) ∙ bit_is (f p)

module _ (f : ℕ → Bool) (bit word n : ℕ) (is : word ≡ number_of_bits bit (λ b. cond (f b) 1 0)) (one : n ≡ from_bool (f bit)) (within : bit < 64) where
  byte : (b : Bool) → from_bool b ≡ cond b 1 0
  byte true = refl
  byte false = refl

  shifted : n * 2 ^ bit ≡ cond (f bit) 1 0 * 2 ^ bit
  shifted = ap (λ k. k * 2 ^ bit) (one ∙ byte (f bit))

  whole : word + n * 2 ^ bit ≡ number_of_bits (suc bit) (λ b. cond (f b) 1 0)
  whole = omega (arith, shifted, is, number_of_bits-suc bit (λ b. cond (f b) 1 0))

  word_fits : word + n * 2 ^ bit < 2 ^ 64
  word_fits =
      let base : 0 < 2 = omega arith in
      let least : suc bit ≤ 64 = omega (arith, within) in
      let wide : 2 ^ suc bit ≤ 2 ^ 64 = pow-le-pow_right base least in
      omega (arith, whole, number_of_bits-below (suc bit) (λ b. cond (f b) 1 0) (λ i _. bit_below (f i)), wide)

  not_wrapped : word + n * 2 ^ bit % 2 ^ 64 ≡ word + n * 2 ^ bit
  not_wrapped = omega (arith, word_fits)

  pub word_stays : word + n * 2 ^ bit % 2 ^ 64 < 2 ^ 64
  word_stays = omega (arith, not_wrapped, word_fits)

  pub word_more : word + n * 2 ^ bit % 2 ^ 64 ≡ number_of_bits (bit + 1) (λ b. cond (f b) 1 0)
  word_more = not_wrapped ∙ whole ∙ ap (λ k. number_of_bits k (λ b. cond (f b) 1 0)) (let e : suc bit ≡ bit + 1 = omega arith in e)

-- ---- rows whose value isn't that of the row before
pub changed_at : (values : List ℤ) (row before : ℕ) (same : Bool) → before ≡ row - 1 → same ≡ int_eq (get_or values before (pos 0)) (get_or values row (pos 0)) → not same ≡ differs_at values row
changed_at values zero before same e is =
    let first : before ≡ zero = omega (arith, e) in
    ap not (is ∙ ap (λ k. int_eq (get_or values k (pos 0)) (get_or values zero (pos 0))) first ∙ (Decides-int_eq (get_or values zero (pos 0)) (get_or values zero (pos 0))).1 refl)
changed_at values (suc n) before same e is =
    let last : before ≡ n = omega (arith, e) in
    ap not (is ∙ ap (λ k. int_eq (get_or values k (pos 0)) (get_or values (suc n) (pos 0))) last)

-- ---- raised values, and their halves
-- a number is its two halves
pub halves : (n low high : ℕ) → n < 2 ^ 64 → low ≡ n % 2 ^ 32 → high ≡ n / 2 ^ 32 → low + 2 ^ 32 * high ≡ n
halves n low high h l r = omega (arith, l, r)

pub raised_more : (by : ℕ) (b : Bool) (k s t n : ℕ) (rows : List Bool) (values : List ℤ) → has rows k ≡ b → IsRaised by k rows values s → pos n ≡ cond b (get_or values k (pos 0) +ℤ pos by) (pos 0) → t ≡ s + n → IsRaised by (k + 1) rows values t
raised_more by true k s t n rows values on before one more =
    let x : ℤ = get_or values k (pos 0) in
    let now = values_more k rows values true on in
    let sum : total (values_below (k + 1) rows values) ≡ total (values_below k rows values) +ℤ x = ap total now ∙ total-append (values_below k rows values) (x ∷ []) ∙ ap (λ y. total (values_below k rows values) +ℤ y) (one_total x) in
    let long : length (values_below (k + 1) rows values) ≡ length (values_below k rows values) + 1 = ap length now ∙ length-append (values_below k rows values) (x ∷ []) in
    let all : by * length (values_below (k + 1) rows values) ≡ by * length (values_below k rows values) + by = ap (λ m. by * m) long ∙ one_more by (length (values_below k rows values)) in
    omega (arith, ints, before, one, more, sum, all)
  where
    one_more : (a m : ℕ) → a * (m + 1) ≡ a * m + a
    one_more a m = ap (λ n. a * n) (let e : m + 1 ≡ suc m = omega arith in e) ∙ mul-suc a m
raised_more by false k s t n rows values on before one more =
    let now : values_below (k + 1) rows values ≡ values_below k rows values = values_more k rows values false on ∙ append-nil (values_below k rows values) in
    let none : t ≡ s = omega (arith, ints, one, more) in
    ap pos none ∙ before ∙ ap (λ zs. total zs +ℤ pos (by * length zs)) (sym now)

-- ---- eight lanes at once
pub at_eight : (P : ℕ → Type 0) → P 0 → P 1 → P 2 → P 3 → P 4 → P 5 → P 6 → P 7 → (lane : ℕ) → lane < 8 → P lane
at_eight P a b c d e f g h zero l = a
at_eight P a b c d e f g h (suc zero) l = b
at_eight P a b c d e f g h (suc (suc zero)) l = c
at_eight P a b c d e f g h (suc (suc (suc zero))) l = d
at_eight P a b c d e f g h (suc (suc (suc (suc zero)))) l = e
at_eight P a b c d e f g h (suc (suc (suc (suc (suc zero))))) l = f
at_eight P a b c d e f g h (suc (suc (suc (suc (suc (suc zero)))))) l = g
at_eight P a b c d e f g h (suc (suc (suc (suc (suc (suc (suc zero))))))) l = h
at_eight P a b c d e f g h (suc (suc (suc (suc (suc (suc (suc (suc lane)))))))) l = absurd (omega (arith, l))

-- of a bit alone all bits are a number's exactly where the number has it
pub bit_alone : (n k : ℕ) → nat_eq (bit_and n (2 ^ k)) (2 ^ k) ≡ (bit_at n k == 1)
bit_alone n k = by_bit (bit_at n k) refl (bit_at-lt n k)
  where
    same : bit_at (bit_and n (2 ^ k)) k ≡ bit_at n k
    same = bit_at_and n (2 ^ k) k ∙ ap (min (bit_at n k)) (bit_at-pow_same k) ∙ omega (arith, bit_at-lt n k)

    by_bit : (b : ℕ) → bit_at n k ≡ b → bit_at n k < 2 → nat_eq (bit_and n (2 ^ k)) (2 ^ k) ≡ (bit_at n k == 1)
    by_bit zero is l =
        let off : bit_and n (2 ^ k) ≢ 2 ^ k = λ e. absurd (omega (arith, same, is, ap (λ m. bit_at m k) e, bit_at-pow_same k)) in
        ne_eqb (bit_and n (2 ^ k)) (2 ^ k) off ∙ sym (ap (λ m. m == 1) is)
    by_bit (suc zero) is l =
        let most : bit_and n (2 ^ k) ≤ 2 ^ k = and_le_r n (2 ^ k) in
        let on : bit_and n (2 ^ k) ≡ 2 ^ k = whole (bit_and n (2 ^ k)) (same ∙ is) most in
        eq-eqb (bit_and n (2 ^ k)) (2 ^ k) on ∙ sym (ap (λ m. m == 1) is)
      where
        whole : (m : ℕ) → bit_at m k ≡ 1 → m ≤ 2 ^ k → m ≡ 2 ^ k
        whole m e h = by_order (cases_lt m (2 ^ k))
          where
            by_order : (m < 2 ^ k) ⊎ (2 ^ k ≤ m) → m ≡ 2 ^ k
            by_order (inl a) = absurd (omega (arith, e, div-eq_of_lt a))
            by_order (inr a) = omega (arith, a, h)
    by_bit (suc (suc b)) is l = absurd (omega (arith, is, l))

-- raised values in lanes, added to a sum
pub raised_lanes : (by k s : ℕ) (lanes : List ℕ) (rows : List Bool) (values : List ℤ) → IsRaised by k rows values s
    → ((lane : ℕ) → lane < length lanes → pos (get_or lanes lane 0) ≡ cond (has rows (k + lane)) (get_or values (k + lane) (pos 0) +ℤ pos by) (pos 0))
    → IsRaised by (k + length lanes) rows values (s + sum_l lanes)
raised_lanes by k s [] rows values before each =
    let place : k ≡ k + zero = omega arith in
    let sum : s ≡ s + zero = omega arith in
    subst (λ (n : ℕ). IsRaised by n rows values (s + zero)) place (subst (IsRaised by k rows values) sum before)
raised_lanes by k s (x ∷ xs) rows values before each =
    let here : k + 0 ≡ k = omega arith in
    let one : pos x ≡ cond (has rows k) (get_or values k (pos 0) +ℤ pos by) (pos 0) = subst (λ (n : ℕ). pos x ≡ cond (has rows n) (get_or values n (pos 0) +ℤ pos by) (pos 0)) here (each 0 (omega arith)) in
    let rest = raised_lanes by (k + 1) (s + x) xs rows values (raised_more by (has rows k) k s (s + x) x rows values refl before one refl) (λ lane h. later lane h) in
    let place : (k + 1) + length xs ≡ k + suc (length xs) = omega arith in
    let sum : (s + x) + sum_l xs ≡ s + (x + sum_l xs) = omega arith in
    subst (λ (n : ℕ). IsRaised by n rows values (s + (x + sum_l xs))) place (subst (IsRaised by ((k + 1) + length xs) rows values) sum rest)
  where
    later : (lane : ℕ) → lane < length xs → pos (get_or xs lane 0) ≡ cond (has rows ((k + 1) + lane)) (get_or values ((k + 1) + lane) (pos 0) +ℤ pos by) (pos 0)
    later lane h =
        let place : k + suc lane ≡ (k + 1) + lane = omega arith in
        subst (λ (n : ℕ). pos (get_or xs lane 0) ≡ cond (has rows n) (get_or values n (pos 0) +ℤ pos by) (pos 0)) place (each (suc lane) (omega (arith, h)))
