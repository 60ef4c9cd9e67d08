-- A vector of sixteen lanes is known by its lanes.
use Rattle.std.proofs.Common.{◌≡◌, ℕ, ◌+◌, ◌-◌, ◌*◌, ◌/◌, ◌%◌, ◌^◌, ◌<◌, ◌≤◌, List, [], ◌∷◌, map, length, get_or, take, drop, replicate, bit_and, bit_or, refl, sym, ap, subst, ◌∙◌, arith}
use Rattle.std.specs.List.{range_with_len}
use Rattle.std.specs.Simd.Lanes.{zip2, chunk, Each1}
use Rattle.std.proofs.lemmas.List.{take-map, drop-map}
use Rattle.std.proofs.lemmas.List.{length-map}
use Rattle.std.proofs.lemmas.List.FromFn.{length-map-range_with_len, get_or-map-range_with_len, fill_by_all}
use Rattle.std.proofs.lemmas.Simd.{length-chunk, get_or-chunk, Each1-from_get_or, zip2-map, map-map}
use Rattle.bit_interleave.specs.Packing.{sixteen_of}
use Rattle.bit_interleave.proofs.BitLemmas.{low_ones}

pub length-sixteen_of : {X : Type 0} → (f : ℕ → X) → length (sixteen_of f) ≡ 16
unfolding sixteen_of
length-sixteen_of f = length-map-range_with_len f 0 16

pub get_or-sixteen_of : {X : Type 0} → (f : ℕ → X) (i : ℕ) (d : X) → i < 16 → get_or (sixteen_of f) i d ≡ f i
unfolding sixteen_of
get_or-sixteen_of f i d h = get_or-map-range_with_len f 0 16 i i d h (omega arith)

pub sixteen_of-same : {X : Type 0} → (f : ℕ → X) (xs : List X) (d : X) → length xs ≡ 16 → ((i : ℕ) → i < 16 → get_or xs i d ≡ f i) → xs ≡ sixteen_of f
unfolding sixteen_of
sixteen_of-same f xs d long h = fill_by_all f xs 16 d long h

pub sixteen_of-like : {X : Type 0} → (f g : ℕ → X) (d : X) → ((i : ℕ) → i < 16 → f i ≡ g i) → sixteen_of f ≡ sixteen_of g
sixteen_of-like f g d h =
    sixteen_of-same g (sixteen_of f) d (length-sixteen_of f) (λ i l. get_or-sixteen_of f i d l ∙ h i l)

-- each of sixteen lanes is below a bound
pub Each1-sixteen_of : (f : ℕ → ℕ) (bound : ℕ) → ((i : ℕ) → i < 16 → f i < bound) → Each1 (λ n. n < bound) (sixteen_of f)
Each1-sixteen_of f bound h =
    Each1-from_get_or (λ n. n < bound) (sixteen_of f) 0 (λ i l. let near : i < 16 = omega (arith, length-sixteen_of f) in rw (get_or-sixteen_of f i 0 near) (h i near))

pub map-sixteen_of : {X Y : Type 0} → (g : X → Y) (f : ℕ → X) → map g (sixteen_of f) ≡ sixteen_of (λ i. g (f i))
unfolding sixteen_of
map-sixteen_of g f = map-map g f (range_with_len 0 16)

pub zip2-sixteen_of : {X Y Z : Type 0} → (h : X → Y → Z) (f : ℕ → X) (g : ℕ → Y) → zip2 h (sixteen_of f) (sixteen_of g) ≡ sixteen_of (λ i. h (f i) (g i))
unfolding sixteen_of
zip2-sixteen_of h f g = zip2-map h f g (range_with_len 0 16)

pub replicate_is_sixteen_of : {X : Type 0} → (x : X) → replicate 16 x ≡ sixteen_of (λ _. x)
unfolding sixteen_of
replicate_is_sixteen_of x = refl

-- what a load gives, lane by lane
pub loaded : {X : Type 0} → (number : X → ℕ) (words : List X) (at : ℕ) → at + 16 ≤ length words → map number (chunk at 16 words) ≡ sixteen_of (λ i. get_or (map number words) (at + i) 0)
loaded number words at h =
    let moved : map number (chunk at 16 words) ≡ chunk at 16 (map number words) =
    sym (ap (take 16) (drop-map number at words) ∙ take-map number 16 (drop at words)) in
    let room : at + 16 ≤ length (map number words) = omega (arith, length-map words number) in
    moved ∙ sixteen_of-same (λ i. get_or (map number words) (at + i) 0) (chunk at 16 (map number words)) 0 (length-chunk at 16 (map number words) room) (λ i l. get_or-chunk at 16 (map number words) i 0 l)

-- a splat over the lanes of xs, masked: the bits from `shift` on, cut to `width`
shifted : (xs : List ℕ) (shift width : ℕ) → width ≤ 64 → zip2 bit_and (zip2 (λ a b. a / 2 ^ b) xs (replicate (length xs) shift)) (replicate (length xs) ((2 ^ 64 - 1) / 2 ^ (64 - width))) ≡ map (λ x. x / 2 ^ shift % 2 ^ width) xs
shifted [] shift width within = refl
shifted (x ∷ xs) shift width within =
    ap (λ b. b ∷ zip2 bit_and (zip2 (λ a b. a / 2 ^ b) xs (replicate (length xs) shift)) (replicate (length xs) ((2 ^ 64 - 1) / 2 ^ (64 - width)))) (low_ones (x / 2 ^ shift) width within)
    ∙ ap (λ bs. x / 2 ^ shift % 2 ^ width ∷ bs) (shifted xs shift width within)

pub shifted_lanes : (xs : List ℕ) (shift width : ℕ) → length xs ≡ 16 → width ≤ 64 → zip2 bit_and (zip2 (λ a b. a / 2 ^ b) xs (replicate 16 shift)) (replicate 16 ((2 ^ 64 - 1) / 2 ^ (64 - width))) ≡ map (λ x. x / 2 ^ shift % 2 ^ width) xs
shifted_lanes xs shift width long within =
    subst (λ (n : ℕ). zip2 bit_and (zip2 (λ a b. a / 2 ^ b) xs (replicate n shift)) (replicate n ((2 ^ 64 - 1) / 2 ^ (64 - width))) ≡ map (λ x. x / 2 ^ shift % 2 ^ width) xs) long (shifted xs shift width within)

joined : (t : ℕ) (xs ys : List ℕ) (shift kept width : ℕ) → width ≤ 64 → length ys ≡ length xs → zip2 bit_and (zip2 bit_or (zip2 (λ a b. a / 2 ^ b) xs (replicate (length xs) shift)) (zip2 (λ a b. a * 2 ^ b % 2 ^ t) ys (replicate (length xs) kept))) (replicate (length xs) ((2 ^ 64 - 1) / 2 ^ (64 - width))) ≡ zip2 (λ x y. bit_or (x / 2 ^ shift) (y * 2 ^ kept % 2 ^ t) % 2 ^ width) xs ys
joined t [] ys shift kept width within e = refl
joined t (x ∷ xs) [] shift kept width within e = absurd (omega arith)
joined t (x ∷ xs) (y ∷ ys) shift kept width within e =
    ap (λ b. b ∷ zip2 bit_and (zip2 bit_or (zip2 (λ a b. a / 2 ^ b) xs (replicate (length xs) shift)) (zip2 (λ a b. a * 2 ^ b % 2 ^ t) ys (replicate (length xs) kept))) (replicate (length xs) ((2 ^ 64 - 1) / 2 ^ (64 - width)))) (low_ones (bit_or (x / 2 ^ shift) (y * 2 ^ kept % 2 ^ t)) width within)
    ∙ ap (λ bs. bit_or (x / 2 ^ shift) (y * 2 ^ kept % 2 ^ t) % 2 ^ width ∷ bs) (joined t xs ys shift kept width within (omega arith))

-- the bits from `shift` on of a lower lane, and above them those of a higher lane, cut to `width`
pub joined_lanes : (t : ℕ) (xs ys : List ℕ) (shift kept width : ℕ) → length xs ≡ 16 → length ys ≡ 16 → width ≤ 64 → zip2 bit_and (zip2 bit_or (zip2 (λ a b. a / 2 ^ b) xs (replicate 16 shift)) (zip2 (λ a b. a * 2 ^ b % 2 ^ t) ys (replicate 16 kept))) (replicate 16 ((2 ^ 64 - 1) / 2 ^ (64 - width))) ≡ zip2 (λ x y. bit_or (x / 2 ^ shift) (y * 2 ^ kept % 2 ^ t) % 2 ^ width) xs ys
joined_lanes t xs ys shift kept width long longer within =
    subst (λ (n : ℕ). zip2 bit_and (zip2 bit_or (zip2 (λ a b. a / 2 ^ b) xs (replicate n shift)) (zip2 (λ a b. a * 2 ^ b % 2 ^ t) ys (replicate n kept))) (replicate n ((2 ^ 64 - 1) / 2 ^ (64 - width))) ≡ zip2 (λ x y. bit_or (x / 2 ^ shift) (y * 2 ^ kept % 2 ^ t) % 2 ^ width) xs ys) long (joined t xs ys shift kept width within (omega arith))
