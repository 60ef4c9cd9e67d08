-- The extreme of the values of an ascending dictionary is that of the extreme code.
use Rattle.std.proofs.Common.{◌≡◌, ◌≢◌, ℕ, zero, suc, ◌+◌, ◌-◌, ◌%◌, ◌^◌, ◌<◌, ◌≤◌, ◌⊎◌, inl, inr, max, Bool, true, false, cond, nat_lt, ℤ, ◌≤ℤ◌, Option, Some, None, List, length, refl, sym, ap, ◌∙◌, subst, arith}
use Rattle.std.specs.Int.{int_max}
use Rattle.std.proofs.Math.Nat.{mod-eq_of_lt}
use Rattle.std.proofs.Math.Pow.{pow_mono}
use Rattle.std.proofs.lemmas.Int.{ints, clamps}
use Rattle.std.proofs.lemmas.Bool.{cases_lt}
use Rattle.std.proofs.lemmas.Bool.Decides.{nat_tests}
use Rattle.table_model.specs.Values.{greater}
use Rattle.transpose_order.specs.Mask.{count_below}
use Rattle.transpose_order.proofs.MaskLemmas.{count_below-zero, count_below-suc}
use Rattle.transpose_order.specs.Place.{lane_of, step_of}
use Rattle.bit_interleave.specs.Packing.{packed_value}
use Rattle.bit_interleave.specs.Range.{value_at}
use Rattle.bit_interleave.proofs.StepLemmas.{packed_value-below}
use Rattle.run_dictionary.specs.Dict.{DictForm, IsDictForm, IsAscending, code_at, dict_value, packed_code}
use Rattle.run_dictionary.proofs.DictLemmas.{Ascends-from_neighbours, less_at}
use Rattle.native_lanes.specs.Folds.{fold_to}
use Rattle.native_lanes.specs.Walks.{Walk, number_of_row, turned as turned_number}
use Rattle.native_lanes.proofs.FoldLemmas.{fold_to-zero, fold_to-suc, fold_to-same}
use Rattle.native_lanes.proofs.WalkLemmas.{number_at-is}
use Rattle.native_lanes.proofs.WalkFoldLemmas.{none_taken}
use Rattle.table_model.specs.declared.extreme.Extreme.{Extreme}
use Rattle.table_model.specs.declared.extreme.Extreme.TheVariants.{Least, Greatest}
use Rattle.table_model.specs.Extreme.{further, is_least, turned}
use Rattle.table_model.proofs.Extremes.{turned_twice}
use Rattle.fused_kernels.proofs.ExtremeLemmas.{turned_cell, turned_rows}

-- a later place below a bound has no lesser value
abbrev pub Rises : (ℕ → ℤ) → ℕ → Type 0
Rises v end = (i j : ℕ) → i ≤ j → j < end → v i ≤ℤ v j

pub ascending_rises : (values : List ℤ) → IsAscending values → Rises (value_at values) (length values)
ascending_rises values rises i j h l = by_place (cases_lt i j)
  where
    by_place : (i < j) ⊎ (j ≤ i) → value_at values i ≤ℤ value_at values j
    by_place (inl a) = let less = less_at values (Ascends-from_neighbours values rises) i j a l in omega (arith, ints, less)
    by_place (inr a) =
        let same : i ≡ j = omega arith in
        subst (λ (k : ℕ). value_at values i ≤ℤ value_at values k) same (omega (arith, ints))

-- the number of a row, where nothing is carried or added, is what is packed there
pub plain_number : (width : ℕ) (words starts : List ℕ) (n : ℕ) → width ≤ 16 → number_of_row (record { lane_width = 16; width = width; words = words; carried = false; starts = starts; added = 0 }) n ≡ packed_value 16 width words (lane_of 16 n) (step_of 16 n)
unfolding number_of_row
plain_number width words starts n h =
    let walk : Walk = record { lane_width = 16; width = width; words = words; carried = false; starts = starts; added = 0 } in
    let number = packed_value 16 width words (lane_of 16 n) (step_of 16 n) in
    let bound : 2 ^ width ≤ 2 ^ 16 = pow_mono h in
    let fits : number < 2 ^ 16 = omega (arith, packed_value-below 16 width words (lane_of 16 n) (step_of 16 n), bound) in
    let alone : 0 + 0 + number ≡ number = omega arith in
    sym (number_at-is walk (lane_of 16 n) (step_of 16 n)) ∙ ap (λ (k : ℕ). k % 2 ^ 16) alone ∙ mod-eq_of_lt fits

-- ---- the greatest
-- of two numbers of a set, the later one has no lesser value
abbrev RisesIn : (ℕ → ℤ) → (ℕ → Type 0) → Type 0
RisesIn v In = (i j : ℕ) → In i → In j → i ≤ j → v i ≤ℤ v j

-- the greater of two numbers of a set is in it
greater_in : (In : ℕ → Type 0) (x code : ℕ) → In x → In code → In (max x code)
greater_in In x code h l = by_place (cases_lt x code)
  where
    by_place : (x < code) ⊎ (code ≤ x) → In (max x code)
    by_place (inl a) = subst In (let e : code ≡ max x code = omega arith in e) l
    by_place (inr a) = subst In (let e : x ≡ max x code = omega arith in e) h

-- the greatest of some rows' codes, of which there is one, is in the set that has them
greatest_in : (b : ℕ → Bool) (code : ℕ → ℕ) (In : ℕ → Type 0) (k : ℕ) → ((n : ℕ) → n < k → In (code n)) → count_below b k ≢ 0 → In (fold_to max 0 k (λ n. cond (b n) (code n) 0))
greatest_in b code In zero all some = absurd (some (count_below-zero b))
greatest_in b code In (suc k) all some =
    let x = fold_to max 0 k (λ n. cond (b n) (code n) 0) in
    subst In (sym (fold_to-suc max 0 k (λ n. cond (b n) (code n) 0)))
    (one_in (b k) x (code k) (count_below b k) (greatest_in b code In k (λ n h. all n (omega arith))) (none_taken b code k) (all k (omega arith)) (λ e. some (count_below-suc b k ∙ e)))
  where
    one_in : (t : Bool) (x n count : ℕ) → (count ≢ 0 → In x) → (count ≡ 0 → x ≡ 0) → In n → count + cond t 1 0 ≢ 0 → In (max x (cond t n 0))
    one_in true x n zero before none here some =
        let same : n ≡ max x n = (let empty = none refl in omega (arith, empty)) in
        subst In same here
    one_in true x n (suc count) before none here some = greater_in In x n (before (λ e. absurd (omega (arith, e)))) here
    one_in false x n count before none here some =
        let same : x ≡ max x 0 = omega arith in
        subst In same (before (λ e. some (let z : count + 0 ≡ 0 = omega (arith, e) in z)))

greater_of_two : (v : ℕ → ℤ) (In : ℕ → Type 0) (x code : ℕ) → RisesIn v In → In x → In code → int_max (v x) (v code) ≡ v (max x code)
greater_of_two v In x code rises h l = by_place (cases_lt x code)
  where
    by_place : (x < code) ⊎ (code ≤ x) → int_max (v x) (v code) ≡ v (max x code)
    by_place (inl a) =
        let is : code ≡ max x code = omega arith in
        let order = rises x code h l (omega arith) in
        let value : int_max (v x) (v code) ≡ v code = omega (arith, ints, clamps, order) in
        value ∙ ap v is
    by_place (inr a) =
        let is : x ≡ max x code = omega arith in
        let order = rises code x l h a in
        let value : int_max (v x) (v code) ≡ v x = omega (arith, ints, clamps, order) in
        value ∙ ap v is

one_greater : (b : Bool) (x code count : ℕ) (v : ℕ → ℤ) (In : ℕ → Type 0) (o : Option ℤ) → RisesIn v In → (count ≢ 0 → In x) → In code → (count ≡ 0 → x ≡ 0) → o ≡ cond (nat_lt 0 count) (Some (v x)) None
    → greater o (cond b (Some (v code)) None) ≡ cond (nat_lt 0 (count + cond b 1 0)) (Some (v (max x (cond b code 0)))) None
one_greater true x code zero v In o rises h l none is =
    let same : code ≡ max x code = (let empty = none refl in omega (arith, empty)) in
    ap (λ p. greater p (Some (v code))) is ∙ ap (λ (k : ℕ). Some (v k)) same
one_greater true x code (suc count) v In o rises h l none is =
    let was : nat_lt 0 (suc count) ≡ true = grind (arith, nat_tests) in
    let on : nat_lt 0 (suc count + 1) ≡ true = grind (arith, nat_tests) in
    ap (λ p. greater p (Some (v code))) (is ∙ ap (λ t. cond t (Some (v x)) None) was) ∙ ap Some (greater_of_two v In x code rises (h (λ e. absurd (omega (arith, e)))) l)
    ∙ sym (ap (λ t. cond t (Some (v (max x code))) None) on)
one_greater false x code count v In o rises h l none is =
    let same : count + 0 ≡ count = omega arith in
    let x_is : max x 0 ≡ x = omega arith in
    unit o ∙ is ∙ sym (ap (λ k. cond (nat_lt 0 k) (Some (v (max x 0))) None) same ∙ ap (λ k. cond (nat_lt 0 count) (Some (v k)) None) x_is)
  where
    unit : (o : Option ℤ) → greater o None ≡ o
    unit None = refl
    unit (Some x) = refl

greatest_coded : (b : ℕ → Bool) (code : ℕ → ℕ) (v : ℕ → ℤ) (In : ℕ → Type 0) (k : ℕ) → RisesIn v In → ((n : ℕ) → n < k → In (code n))
    → fold_to greater None k (λ n. cond (b n) (Some (v (code n))) None) ≡ cond (nat_lt 0 (count_below b k)) (Some (v (fold_to max 0 k (λ n. cond (b n) (code n) 0)))) None
greatest_coded b code v In zero rises all =
    fold_to-zero greater None (λ n. cond (b n) (Some (v (code n))) None)
    ∙ sym (ap (λ k. cond (nat_lt 0 k) (Some (v (fold_to max 0 0 (λ n. cond (b n) (code n) 0)))) None) (count_below-zero b))
greatest_coded b code v In (suc k) rises all =
    let x = fold_to max 0 k (λ n. cond (b n) (code n) 0) in
    fold_to-suc greater None k (λ n. cond (b n) (Some (v (code n))) None)
    ∙ one_greater (b k) x (code k) (count_below b k) v In (fold_to greater None k (λ n. cond (b n) (Some (v (code n))) None)) rises (greatest_in b code In k (λ n h. all n (omega arith))) (all k (omega arith)) (none_taken b code k) (greatest_coded b code v In k rises (λ n h. all n (omega arith)))
    ∙ ap (λ n. cond (nat_lt 0 n) (Some (v (max x (cond (b k) (code k) 0)))) None) (sym (count_below-suc b k))
    ∙ ap (λ n. cond (nat_lt 0 (count_below b (suc k))) (Some (v n)) None) (sym (fold_to-suc max 0 k (λ n. cond (b n) (code n) 0)))

-- ---- either extreme, by the greatest of turned codes
-- a code of 16 bits, or how far it is below the greatest of them
abbrev pub turned_code : Extreme → ℕ → ℕ
turned_code side code = turned_number 16 (is_least side) code

code_twice : (side : Extreme) (code : ℕ) → code ≤ 2 ^ 16 - 1 → turned_code side (turned_code side code) ≡ code
code_twice Least code h = omega arith
code_twice Greatest code h = refl

-- the values of turned codes, turned, rise where those of codes do
turned_rises : (side : Extreme) (v : ℕ → ℤ) (end : ℕ) → Rises v end → RisesIn (λ i. turned side (v (turned_code side i))) (λ i. turned_code side i < end)
turned_rises Least v end rises i j h l order =
    let turn = rises (2 ^ 16 - 1 - j) (2 ^ 16 - 1 - i) (omega arith) h in
    omega (arith, ints, turn)
turned_rises Greatest v end rises i j h l order = rises i j order l

pub code_fits : (form : DictForm) → IsDictForm form → (n : ℕ) → n < 1024 → code_at form n ≤ 2 ^ 16 - 1
code_fits form is n h = let below = is.codes n h in omega (arith, below, is.many)

-- the greatest of some rows' turned codes
abbrev pub found_code : Extreme → DictForm → (ℕ → Bool) → ℕ
found_code side form b = fold_to max 0 1024 (λ n. cond (b n) (turned_code side (code_at form n)) 0)

pub found_by_walk : (side : Extreme) (form : DictForm) (b : ℕ → Bool) (walk : Walk) (flipped : Bool) (x : ℕ) → ((n : ℕ) → n < 1024 → number_of_row walk n ≡ code_at form n) → flipped ≡ is_least side
    → x ≡ fold_to max 0 1024 (λ n. cond (b n) (turned_number 16 flipped (number_of_row walk n)) 0) → x ≡ found_code side form b
found_by_walk side form b walk flipped x codes same is =
    is ∙ ap (λ t. fold_to max 0 1024 (λ n. cond (b n) (turned_number 16 t (number_of_row walk n)) 0)) same
    ∙ fold_to-same max 0 1024 (λ n. cond (b n) (turned_code side (number_of_row walk n)) 0) (λ n. cond (b n) (turned_code side (code_at form n)) 0) (λ n h. ap (λ (k : ℕ). cond (b n) (turned_code side k) 0) (codes n h))

-- turned, it is the code of the extreme
pub extreme_coded : (side : Extreme) (form : DictForm) (b : ℕ → Bool) → IsDictForm form → count_below b 1024 ≢ 0
    → (turned_code side (found_code side form b) < length form.values)
    × (Some (value_at form.values (turned_code side (found_code side form b))) ≡ fold_to (further side) None 1024 (λ n. cond (b n) (Some (dict_value form n)) None))
extreme_coded side form b is some =
    let end = length form.values in
    let code : ℕ → ℕ = λ n. turned_code side (code_at form n) in
    let In : ℕ → Type 0 = λ i. turned_code side i < end in
    let v : ℕ → ℤ = λ i. turned side (value_at form.values (turned_code side i)) in
    let back : (n : ℕ) → n < 1024 → turned_code side (code n) ≡ code_at form n = (λ n h. code_twice side (code_at form n) (code_fits form is n h)) in
    let all : (n : ℕ) → n < 1024 → In (code n) = (λ n h. subst (λ (k : ℕ). k < end) (sym (back n h)) (is.codes n h)) in
    let on : nat_lt 0 (count_below b 1024) ≡ true = grind (arith, nat_tests) in
    let x = found_code side form b in
    let value : ℤ = value_at form.values (turned_code side x) in
    let rises = turned_rises side (value_at form.values) end (ascending_rises form.values is.rises) in (
      greatest_in b code In 1024 all some,
      ap Some (sym (turned_twice side value)) ∙ ap (turned_cell side) (sym (ap (λ t. cond t (Some (v x)) None) on)
          ∙ sym (greatest_coded b code v In 1024 rises all)
          ∙ fold_to-same greater None 1024 (λ n. cond (b n) (Some (v (code n))) None) (λ n. cond (b n) (Some (turned side (dict_value form n))) None) (λ n h. ap (λ (k : ℕ). cond (b n) (Some (turned side (value_at form.values k))) None) (back n h)))
          ∙ sym (turned_rows side b (dict_value form) 1024),
    )

pub code_width : (form : DictForm) → IsDictForm form → form.width ≤ 16
code_width form is = subst (λ (t : ℕ). form.width ≤ t) is.words is.packed.fits

pub some_values : (form : DictForm) → IsDictForm form → 0 < length form.values
some_values form is = let below = is.codes 0 (omega arith) in omega (arith, below)

-- the code of a row's lane and step
pub code_of_lane : (form : DictForm) (n : ℕ) → packed_value 16 form.width form.codes.numbers (lane_of 16 n) (step_of 16 n) ≡ code_at form n
unfolding packed_code
code_of_lane form n = refl
