-- The values of a dictionary that are in a range are those of the codes from a first place up to an end.
use Rattle.std.proofs.Common.{◌≡◌, ℕ, ◌-◌, ◌<◌, ◌≤◌, ◌&&◌, true, false, nat_le, int_le, ◌↔◌, ℤ, ◌≤ℤ◌, ◌⊎◌, inl, inr, refl, sym, ap, ◌∙◌, arith}
use Rattle.std.proofs.lemmas.Int.{ints}
use Rattle.std.proofs.lemmas.Bool.{cases_Bool}
use Rattle.std.proofs.lemmas.Bool.Decides.{nat_tests}
use Rattle.transpose_order.specs.Place.{lane_of, step_of}
use Rattle.bit_interleave.specs.Packing.{packed_value}
use Rattle.bit_interleave.specs.PackedWords.{PackedWords}
use Rattle.run_dictionary.specs.Dict.{packed_code}
use Rattle.fused_kernels.specs.Seen.{between}

-- the values in a range are those of the codes from the first place up to the end
pub code_in_range : (low high v : ℤ) (first end code : ℕ) → 0 < end → (((low ≤ℤ v) × (v ≤ℤ high)) ↔ ((first ≤ code) × (code < end))) → (nat_le first code && nat_le code (end - 1)) ≡ between low high v
code_in_range low high v first end code some iff = by_case (cases_Bool (between low high v))
  where
    by_case : (between low high v ≡ true) ⊎ (between low high v ≡ false) → (nat_le first code && nat_le code (end - 1)) ≡ between low high v
    by_case (inl e) =
        let l : low ≤ℤ v = grind (arith, ints) in
        let h : v ≤ℤ high = grind (arith, ints) in
        let places = iff.0 (l, h) in
        let f : nat_le first code ≡ true = (let p = places.0 in grind (arith, nat_tests)) in
        let g : nat_le code (end - 1) ≡ true = (let p = places.1 in grind (arith, nat_tests)) in
        ap (λ x. x && nat_le code (end - 1)) f ∙ g ∙ sym e
    by_case (inr e) = by_code e (cases_Bool (nat_le first code && nat_le code (end - 1)))
      where
        by_code : between low high v ≡ false → ((nat_le first code && nat_le code (end - 1)) ≡ true) ⊎ ((nat_le first code && nat_le code (end - 1)) ≡ false) → (nat_le first code && nat_le code (end - 1)) ≡ between low high v
        by_code e (inr g) = g ∙ sym e
        by_code e (inl g) =
            let f : first ≤ code = grind (arith, nat_tests) in
            let h : code < end = grind (arith, nat_tests) in
            let values = iff.1 (f, h) in
            let on : between low high v ≡ true = (let a = values.0 in let b = values.1 in grind (arith, ints)) in
            g ∙ sym on

pub no_code : (low high v : ℤ) (first end code : ℕ) → end ≤ first → (((low ≤ℤ v) × (v ≤ℤ high)) ↔ ((first ≤ code) × (code < end))) → between low high v ≡ false
no_code low high v first end code none iff = by_case (cases_Bool (between low high v))
  where
    by_case : (between low high v ≡ true) ⊎ (between low high v ≡ false) → between low high v ≡ false
    by_case (inr e) = e
    by_case (inl e) =
        let l : low ≤ℤ v = grind (arith, ints) in
        let h : v ≤ℤ high = grind (arith, ints) in
        let places = iff.0 (l, h) in
        absurd (omega (arith, places.0, places.1))

pub each_code : (low high v : ℤ) (first end code : ℕ) → first ≡ 0 → code < end → (((low ≤ℤ v) × (v ≤ℤ high)) ↔ ((first ≤ code) × (code < end))) → between low high v ≡ true
each_code low high v first end code from below iff =
    let values = iff.1 (omega (arith, from), below) in
    let l : int_le low v ≡ true = (let a = values.0 in grind (arith, ints)) in
    let h : int_le v high ≡ true = (let b = values.1 in grind (arith, ints)) in
    ap (λ x. x && int_le v high) l ∙ h

pub code_is : (width : ℕ) (codes : PackedWords) (n : ℕ) → packed_value 16 width codes.numbers (lane_of 16 n) (step_of 16 n) ≡ packed_code width codes n
unfolding packed_code
code_is width codes n = refl
