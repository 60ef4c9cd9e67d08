-- Lanes change in nothing but the number of pieces given.
use Rattle.std.proofs.Common.{◌≡◌, ℕ, ◌+◌, ◌*◌, ◌/◌, ◌%◌, ◌<◌, ◌≤◌, ℤ, pos, List, length, refl, sym, ap, ◌∙◌, subst, arith}
use Rattle.transpose_order.specs.Place.{IsLaneWidth, place_of}
use Rattle.transpose_order.specs.MaskWords.{rows_of-same}
use Rattle.bit_interleave.specs.Range.{value_at}
use Rattle.fused_kernels.specs.Seen.{LanesSeen, AreLanes, AreOnlyRead, given_of}
use Rattle.fused_kernels.proofs.PieceLemmas.{place_of_row}

pub none_given : (s : LanesSeen) → s.given ≡ 0 → s ≡ given_of s 0
none_given s e = ap (given_of s) e

pub one_more : (s now next : LanesSeen) (q : ℕ) → now ≡ given_of s q → next ≡ given_of now (now.given + 1) → next ≡ given_of s (q + 1)
one_more s now next q before one = one ∙ ap (λ (x : LanesSeen). given_of x (x.given + 1)) before

-- lanes of which so many pieces were given
pub only_read : (s now : LanesSeen) (q : ℕ) → q ≤ 64 → now ≡ given_of s q → AreOnlyRead s now
only_read s now q few e =
    let given : now.given ≡ q = ap (λ (x : LanesSeen). x.given) e in
    record { given = omega (arith, few, given); same = e ∙ ap (given_of s) (sym given) }

-- the values of the piece that is next
pub next_is : (s now : LanesSeen) (q t : ℕ) → now ≡ given_of s q → t ≡ s.lane_width → (i : ℕ) → value_at now.values (64 * i + place_of now.lane_width now.given) ≡ value_at s.values (64 * i + place_of t q)
next_is s now q t e same i =
    ap (λ (x : LanesSeen). value_at x.values (64 * i + place_of x.lane_width x.given)) e ∙ ap (λ w. value_at s.values (64 * i + place_of w q)) (sym same)

pub width_of : (s : LanesSeen) (t : ℕ) → AreLanes s → t ≡ s.lane_width → IsLaneWidth t
width_of s t form e = subst (λ (w : ℕ). IsLaneWidth w) (sym e) form.width

-- values that are right at each lane of each piece are right at each row
pub right_at_rows : {X : Type 0} → (f g : ℕ → X) (t : ℕ) → IsLaneWidth t → ((i q : ℕ) → i < 16 → q < 64 → f (64 * i + place_of t q) ≡ g (64 * i + place_of t q)) → (n : ℕ) → n < 1024 → f n ≡ g n
right_at_rows {X = X} f g t width right n h =
    let row = place_of_row t n width h in
    subst (λ (k : ℕ). f k ≡ g k) row.2 (right (n / 64) (place_of t (n % 64)) row.0 row.1)

pub values_are : (s : LanesSeen) (t : ℕ) (values : List ℤ) → AreLanes s → t ≡ s.lane_width → length values ≡ 1024 → ((i q : ℕ) → i < 16 → q < 64 → value_at values (64 * i + place_of t q) ≡ value_at s.values (64 * i + place_of t q)) → values ≡ s.values
values_are s t values form e long right =
    rows_of-same (value_at s.values) values (pos 0) long
    (right_at_rows (value_at values) (value_at s.values) t (width_of s t form e) right)
    ∙ sym (rows_of-same (value_at s.values) s.values (pos 0) form.long (λ n h. refl))
