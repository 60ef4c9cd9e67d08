-- A vector that is written piece by piece holds each row's value in the end, as each row is one lane of one piece.
use Rattle.std.proofs.Common.{◌≡◌, ◌≢◌, ℕ, ◌+◌, ◌*◌, ◌/◌, ◌%◌, ◌<◌, ◌-◌, ◌^◌, ℤ, pos, ◌+ℤ◌, to_z, List, map, length, get_or, replicate, sym, ap, subst, ◌∙◌, ◌⊎◌, inl, inr, arith}
use Rattle.std.specs.Int.{w64, int_wrap, cast_unsigned}
use Rattle.std.specs.Int.RustNames.{FitsSigned}
use Rattle.std.specs.Simd.Lanes.{zip2}
use Rattle.std.proofs.lemmas.Bool.{cases_lt}
use Rattle.std.proofs.lemmas.Int.{int_wrap-add_same, to_z-of_z}
use Rattle.std.proofs.lemmas.Simd.{get_or-zip2, get_or-replicate, length-replicate}
use Rattle.transpose_order.specs.Place.{IsLaneWidth, lane_of, step_of, place_of}
use Rattle.transpose_order.proofs.WidthLemmas.{at_widths}
use Rattle.transpose_order.specs.Mask.{rows_of}
use Rattle.transpose_order.specs.MaskWords.{rows_of-same}
use Rattle.bit_interleave.specs.Arithmetic.{integer_width}
use Rattle.bit_interleave.specs.Packing.{sixteen_of}
use Rattle.bit_interleave.proofs.SixteenLemmas.{sixteen_of-like, map-sixteen_of}
use Rattle.bit_interleave.proofs.PieceLemmas.{place_of-place_of, places_apart, piece_of_row}
use Rattle.bit_interleave.proofs.WrapLemmas.{int_wrap-mod, int_wrap-bits}
use Rattle.bit_interleave.specs.Range.{value_at}

pub either : {A B C : Type 0} → A ⊎ B → (A → C) → (B → C) → C
either (inl a) f g = f a
either (inr b) f g = g b

-- the four pieces of a block are neighbours: their places, their lanes and their steps
pub piece_of_block : (t block k : ℕ) → IsLaneWidth t → block < 16 → k < 4 → (place_of t (4 * block + k) ≡ 4 * (place_of t (4 * block) / 4) + k) × ((4 * block + k) / t ≡ 4 * block / t) × ((4 * block + k) % t ≡ 4 * block % t + k)
piece_of_block t block k width =
    at_widths (λ t. block < 16 → k < 4 → (place_of t (4 * block + k) ≡ 4 * (place_of t (4 * block) / 4) + k) × ((4 * block + k) / t ≡ 4 * block / t) × ((4 * block + k) % t ≡ 4 * block % t + k))
    (λ h l. (omega arith, omega arith, omega arith)) (λ h l. (omega arith, omega arith, omega arith))
    (λ h l. (omega arith, omega arith, omega arith)) (λ h l. (omega arith, omega arith, omega arith)) t width

-- a block's places are a part of the sixteen, and no other block has that part
pub part_of_block : (t block : ℕ) → IsLaneWidth t → block < 16 → place_of t (4 * block) / 4 < 16
part_of_block t block width =
    at_widths (λ t. block < 16 → place_of t (4 * block) / 4 < 16) (λ h. omega arith) (λ h. omega arith) (λ h. omega arith) (λ h. omega arith) t width

-- a block's four steps are steps of its lanes
pub step_of_block : (t block k : ℕ) → IsLaneWidth t → block < 16 → k < 4 → 4 * block % t + k < t
step_of_block t block k width =
    at_widths (λ t. block < 16 → k < 4 → 4 * block % t + k < t) (λ h l. omega arith) (λ h l. omega arith) (λ h l. omega arith) (λ h l. omega arith) t width

blocks_apart : (t block q : ℕ) → IsLaneWidth t → block < 16 → q < 4 * block → place_of t q / 4 ≢ place_of t (4 * block) / 4
blocks_apart t block q width within before e =
    let k = q % 4 in
    let here : q ≡ 4 * (q / 4) + k = omega arith in
    let mine = piece_of_block t (q / 4) k width (omega arith) (omega arith) in
    let row : place_of t q ≡ 4 * (place_of t (4 * (q / 4)) / 4) + k = ap (place_of t) here ∙ mine.0 in
    let theirs = piece_of_block t block k width within (omega arith) in
    let same : place_of t (4 * block + k) ≡ place_of t q = omega (arith, theirs.0, row, e) in
    places_apart t (4 * block + k) q width (omega arith) (omega arith) (λ f. omega (arith, f)) same

-- one more block of four pieces
pub blocks_more : (t block : ℕ) (f : ℕ → ℕ → ℤ) (old new : List ℤ) → IsLaneWidth t → block < 16 → ((q i : ℕ) → q < 4 * block → i < 16 → value_at old (64 * i + place_of t q) ≡ f (16 * (q / t) + i) (q % t)) → ((k i : ℕ) → k < 4 → i < 16 → value_at new (64 * i + 4 * (place_of t (4 * block) / 4) + k) ≡ f (16 * (4 * block / t) + i) (4 * block % t + k)) → ((n : ℕ) → n % 64 / 4 ≢ place_of t (4 * block) / 4 → value_at new n ≡ value_at old n) → (q i : ℕ) → q < 4 * (block + 1) → i < 16 → value_at new (64 * i + place_of t q) ≡ f (16 * (q / t) + i) (q % t)
blocks_more t block f old new width within done written others q i before near =
    either (cases_lt q (4 * block))
    (λ h.
    let small : place_of t q < 64 = (place_of-place_of t q width (omega arith)).0 in
    let place : (64 * i + place_of t q) % 64 / 4 ≡ place_of t q / 4 = omega (arith, small) in
    others (64 * i + place_of t q) (λ e. blocks_apart t block q width within h (sym place ∙ e)) ∙ done q i h near)
    (λ h.
    let k = q - 4 * block in
    let here : q ≡ 4 * block + k = omega arith in
    let small : k < 4 = omega arith in
    let facts = piece_of_block t block k width within small in
    let row : 64 * i + place_of t q ≡ 64 * i + 4 * (place_of t (4 * block) / 4) + k = omega (arith, ap (place_of t) here, facts.0) in
    let lane : 4 * block / t ≡ q / t = sym (ap (λ n. n / t) here ∙ facts.1) in
    let step : 4 * block % t + k ≡ q % t = sym (ap (λ n. n % t) here ∙ facts.2) in
    ap (value_at new) row ∙ written k i small near ∙ ap (λ l. f (16 * l + i) (4 * block % t + k)) lane ∙ ap (f (16 * (q / t) + i)) step)

-- four facts of a block, one for each of its pieces
pub each_of_four : (P : ℕ → Type 0) → P 0 → P 1 → P 2 → P 3 → (k : ℕ) → k < 4 → P k
each_of_four P p0 p1 p2 p3 k small =
    either (cases_lt k 1) (λ h. let e : 0 ≡ k = omega arith in subst P e p0)
    (λ g. either (cases_lt k 2) (λ h. let e : 1 ≡ k = omega arith in subst P e p1)
    (λ g2. either (cases_lt k 3) (λ h. let e : 2 ≡ k = omega arith in subst P e p2) (λ g3. let e : 3 ≡ k = omega arith in subst P e p3)))

-- all pieces
pub rows_from_pieces : (t : ℕ) (f : ℕ → ℕ → ℤ) (values : List ℤ) → IsLaneWidth t → length values ≡ 1024 → ((q i : ℕ) → q < 64 → i < 16 → value_at values (64 * i + place_of t q) ≡ f (16 * (q / t) + i) (q % t)) → values ≡ rows_of (λ n. f (lane_of t n) (step_of t n))
rows_from_pieces t f values width long done =
    rows_of-same (λ n. f (lane_of t n) (step_of t n)) values (pos 0) long
    (λ n h.
    let q = place_of t (n % 64) in
    let row = piece_of_row t n width h in
    ap (value_at values) (sym row.0)
    ∙ done q (n / 64) (place_of-place_of t (n % 64) width (omega arith)).0 (omega arith)
    ∙ ap (λ l. f l (q % t)) row.1 ∙ ap (f (lane_of t n)) row.2)

-- a sum of bits wraps as the sum of the numbers
pub wrapped_sum : (t l : ℕ) (r : ℤ) → IsLaneWidth t → FitsSigned w64 r → int_wrap (integer_width t) (pos ((l + cast_unsigned w64 r) % 2 ^ 64)) ≡ int_wrap (integer_width t) (r +ℤ pos l)
wrapped_sum t l r width fits =
    let turned : l + cast_unsigned w64 r ≡ cast_unsigned w64 r + l = omega arith in
    int_wrap-mod t (l + cast_unsigned w64 r) width ∙ ap (λ n. int_wrap (integer_width t) (pos n)) turned
    ∙ int_wrap-add_same (integer_width t) (pos (cast_unsigned w64 r)) r (pos l) (int_wrap-bits t r width fits)

-- a lane of a sum with a splat
pub lane_of_sum : (n i x : ℕ) (lanes : List ℕ) → length lanes ≡ n → i < n → get_or (zip2 (λ a b. (a + b) % 2 ^ 64) lanes (replicate n x)) i 0 ≡ (get_or lanes i 0 + x) % 2 ^ 64
lane_of_sum n i x lanes long h =
    get_or-zip2 (λ a b. (a + b) % 2 ^ 64) lanes (replicate n x) i 0 0 0 (omega arith) (omega (arith, length-replicate n x))
    ∙ ap (λ y. (get_or lanes i 0 + y) % 2 ^ 64) (get_or-replicate n i x 0 h)

-- the lane and the step of a row of a piece
pub row_of_piece : (t q i : ℕ) → IsLaneWidth t → q < 64 → i < 16 → (64 * i + place_of t q < 1024) × (lane_of t (64 * i + place_of t q) ≡ 16 * (q / t) + i) × (step_of t (64 * i + place_of t q) ≡ q % t)
row_of_piece t q i width =
    at_widths (λ t. q < 64 → i < 16 → (64 * i + place_of t q < 1024) × (lane_of t (64 * i + place_of t q) ≡ 16 * (q / t) + i) × (step_of t (64 * i + place_of t q) ≡ q % t))
    (λ h l. (omega arith, omega arith, omega arith)) (λ h l. (omega arith, omega arith, omega arith))
    (λ h l. (omega arith, omega arith, omega arith)) (λ h l. (omega arith, omega arith, omega arith)) t width

-- signed lanes that fit are read back from their bits
pub read_back : (f : ℕ → ℤ) (xs : List ℤ) → xs ≡ sixteen_of f → ((i : ℕ) → i < 16 → FitsSigned w64 (f i)) → map (to_z w64) (map (cast_unsigned w64) xs) ≡ sixteen_of f
read_back f xs is fits =
    ap (λ l. map (to_z w64) (map (cast_unsigned w64) l)) is
    ∙ ap (map (to_z w64)) (map-sixteen_of (cast_unsigned w64) f)
    ∙ map-sixteen_of (to_z w64) (λ i. cast_unsigned w64 (f i))
    ∙ sixteen_of-like (λ i. to_z w64 (cast_unsigned w64 (f i))) f (pos 0) (λ i h. to_z-of_z w64 (f i) (fits i h))
