-- A fold by a join in which order doesn't count goes over the rows piece by piece as it does row by row.
use Rattle.std.proofs.Common.{◌≡◌, ℕ, zero, suc, ◌+◌, ◌*◌, ◌<◌, refl, sym, ap, ◌∙◌, arith}
use Rattle.transpose_order.specs.Place.{IsLaneWidth, place_of, reversed, group_bits}
use Rattle.transpose_order.proofs.WidthLemmas.{at_widths}
use Rattle.native_lanes.specs.Folds.{fold_to}

-- a join with a unit in which order doesn't count
pub record IsJoin {X : Type 0} (join : X → X → X) (none : X) : Type 0 where
  pub unit : (x : X) → join x none ≡ x
  pub assoc : (x y z : X) → join (join x y) z ≡ join x (join y z)
  pub comm : (x y : X) → join x y ≡ join y x

pub fold_to-zero : {X : Type 0} (join : X → X → X) (none : X) (f : ℕ → X) → fold_to join none 0 f ≡ none
unfolding fold_to
fold_to-zero join none f = refl

pub fold_to-suc : {X : Type 0} (join : X → X → X) (none : X) (k : ℕ) (f : ℕ → X) → fold_to join none (suc k) f ≡ join (fold_to join none k f) (f k)
unfolding fold_to
fold_to-suc join none k f = refl

pub fold_to-more : {X : Type 0} (join : X → X → X) (none : X) (k : ℕ) (f : ℕ → X) → fold_to join none (k + 1) f ≡ join (fold_to join none k f) (f k)
fold_to-more join none k f =
    ap (λ n. fold_to join none n f) (let e : k + 1 ≡ suc k = omega arith in e) ∙ fold_to-suc join none k f

pub fold_to-same : {X : Type 0} (join : X → X → X) (none : X) (k : ℕ) (f g : ℕ → X) → ((i : ℕ) → i < k → f i ≡ g i) → fold_to join none k f ≡ fold_to join none k g
fold_to-same join none zero f g h = fold_to-zero join none f ∙ sym (fold_to-zero join none g)
fold_to-same join none (suc k) f g h =
    fold_to-suc join none k f ∙ ap (λ x. join x (f k)) (fold_to-same join none k f g (λ i l. h i (omega arith)))
    ∙ ap (join (fold_to join none k g)) (h k (omega arith)) ∙ sym (fold_to-suc join none k g)

-- the first m, and the n after them
pub fold_to-add : {X : Type 0} (join : X → X → X) (none : X) → IsJoin join none → (m n : ℕ) (f : ℕ → X) → fold_to join none (m + n) f ≡ join (fold_to join none m f) (fold_to join none n (λ i. f (m + i)))
fold_to-add join none laws m zero f =
    ap (λ k. fold_to join none k f) (let e : m + 0 ≡ m = omega arith in e)
    ∙ sym (ap (join (fold_to join none m f)) (fold_to-zero join none (λ i. f (m + i))) ∙ laws.unit (fold_to join none m f))
fold_to-add join none laws m (suc n) f =
    ap (λ k. fold_to join none k f) (let e : m + suc n ≡ suc (m + n) = omega arith in e) ∙ fold_to-suc join none (m + n) f
    ∙ ap (λ x. join x (f (m + n))) (fold_to-add join none laws m n f)
    ∙ laws.assoc (fold_to join none m f) (fold_to join none n (λ i. f (m + i))) (f (m + n))
    ∙ ap (join (fold_to join none m f)) (sym (fold_to-suc join none n (λ i. f (m + i))))

-- blocks of t, one after another
pub fold_to-blocks : {X : Type 0} (join : X → X → X) (none : X) → IsJoin join none → (n t : ℕ) (f : ℕ → X) → fold_to join none (n * t) f ≡ fold_to join none n (λ g. fold_to join none t (λ r. f (g * t + r)))
fold_to-blocks join none laws zero t f =
    ap (λ k. fold_to join none k f) (let e : 0 * t ≡ 0 = omega arith in e) ∙ fold_to-zero join none f ∙ sym (fold_to-zero join none (λ g. fold_to join none t (λ r. f (g * t + r))))
fold_to-blocks join none laws (suc n) t f =
    ap (λ k. fold_to join none k f) (let e : suc n * t ≡ n * t + t = omega arith in e) ∙ fold_to-add join none laws (n * t) t f
    ∙ ap (λ x. join x (fold_to join none t (λ r. f (n * t + r)))) (fold_to-blocks join none laws n t f)
    ∙ sym (fold_to-suc join none n (λ g. fold_to join none t (λ r. f (g * t + r))))

-- ---- a reversal of the bits of the groups' numbers
join_swap : {X : Type 0} (join : X → X → X) (none : X) → IsJoin join none → (x a b : X) → join (join x a) b ≡ join (join x b) a
join_swap join none laws x a b = laws.assoc x a b ∙ ap (join x) (laws.comm a b) ∙ sym (laws.assoc x b a)

four_reversed : {X : Type 0} (join : X → X → X) (none : X) → IsJoin join none → (h : ℕ → X) → fold_to join none 4 (λ g. h (reversed 2 g)) ≡ fold_to join none 4 h
unfolding fold_to
four_reversed {X = X} join none laws h =
    let swap : (x a b : X) → join (join x a) b ≡ join (join x b) a = join_swap join none laws in
    ap (λ x. join x (h 3)) (swap (join none (h 0)) (h 2) (h 1))

eight_reversed : {X : Type 0} (join : X → X → X) (none : X) → IsJoin join none → (h : ℕ → X) → fold_to join none 8 (λ g. h (reversed 3 g)) ≡ fold_to join none 8 h
unfolding fold_to
eight_reversed {X = X} join none laws h =
    let swap : (x a b : X) → join (join x a) b ≡ join (join x b) a = join_swap join none laws in
    ap (λ x. join (join (join (join (join x (h 6)) (h 1)) (h 5)) (h 3)) (h 7)) (swap (join none (h 0)) (h 4) (h 2))
    ∙ ap (λ x. join (join (join x (h 5)) (h 3)) (h 7)) (swap (join (join (join none (h 0)) (h 2)) (h 4)) (h 6) (h 1))
    ∙ ap (λ x. join (join x (h 3)) (h 7)) (swap (join (join (join (join none (h 0)) (h 2)) (h 4)) (h 1)) (h 6) (h 5))
    ∙ ap (λ x. join x (h 7)) (swap (join (join (join (join (join none (h 0)) (h 2)) (h 4)) (h 1)) (h 5)) (h 6) (h 3))
    ∙ ap (λ x. join (join (join (join x (h 5)) (h 3)) (h 6)) (h 7)) (swap (join (join none (h 0)) (h 2)) (h 4) (h 1))
    ∙ ap (λ x. join (join x (h 6)) (h 7)) (swap (join (join (join (join none (h 0)) (h 2)) (h 1)) (h 4)) (h 5) (h 3))
    ∙ ap (λ x. join (join (join (join (join x (h 4)) (h 3)) (h 5)) (h 6)) (h 7)) (swap (join none (h 0)) (h 2) (h 1))
    ∙ ap (λ x. join (join (join x (h 5)) (h 6)) (h 7)) (swap (join (join (join none (h 0)) (h 1)) (h 2)) (h 4) (h 3))

-- the 64 rows of a word, piece by piece
by_groups : {X : Type 0} (join : X → X → X) (none : X) → IsJoin join none → (t n : ℕ) (h : ℕ → X) → ((g r : ℕ) → g < n → r < t → place_of t (g * t + r) ≡ reversed (group_bits t) g * t + r) → fold_to join none (n * t) (λ q. h (place_of t q)) ≡ fold_to join none n (λ g. fold_to join none t (λ r. h (reversed (group_bits t) g * t + r)))
by_groups join none laws t n h place =
    fold_to-blocks join none laws n t (λ q. h (place_of t q))
    ∙ fold_to-same join none n (λ g. fold_to join none t (λ r. h (place_of t (g * t + r)))) (λ g. fold_to join none t (λ r. h (reversed (group_bits t) g * t + r)))
    (λ g l. fold_to-same join none t (λ r. h (place_of t (g * t + r))) (λ r. h (reversed (group_bits t) g * t + r)) (λ r m. ap h (place g r l m)))

pub fold_to-places : {X : Type 0} (join : X → X → X) (none : X) → IsJoin join none → (t : ℕ) (h : ℕ → X) → IsLaneWidth t → fold_to join none 64 (λ q. h (place_of t q)) ≡ fold_to join none 64 h
fold_to-places join none laws t h width =
    at_widths (λ t. fold_to join none 64 (λ q. h (place_of t q)) ≡ fold_to join none 64 h)
    (by_groups join none laws 8 8 h (λ g r l m. omega arith) ∙ eight_reversed join none laws (λ g. fold_to join none 8 (λ r. h (g * 8 + r))) ∙ sym (fold_to-blocks join none laws 8 8 h))
    (by_groups join none laws 16 4 h (λ g r l m. omega arith) ∙ four_reversed join none laws (λ g. fold_to join none 16 (λ r. h (g * 16 + r))) ∙ sym (fold_to-blocks join none laws 4 16 h))
    (by_groups join none laws 32 2 h (λ g r l m. omega arith) ∙ two_kept join none (λ g. fold_to join none 32 (λ r. h (g * 32 + r))) ∙ sym (fold_to-blocks join none laws 2 32 h))
    (fold_to-same join none 64 (λ q. h (place_of 64 q)) h (λ q l. ap h (omega arith)))
    t width
  where
    two_kept : {X : Type 0} (join : X → X → X) (none : X) (h : ℕ → X) → fold_to join none 2 (λ g. h (reversed 1 g)) ≡ fold_to join none 2 h
    two_kept join none h = fold_to-same join none 2 (λ g. h (reversed 1 g)) h (λ g l. ap h (omega arith))

-- all rows, lane by lane and piece by piece
pub fold_to-pieces : {X : Type 0} (join : X → X → X) (none : X) → IsJoin join none → (t : ℕ) (f : ℕ → X) → IsLaneWidth t → fold_to join none 16 (λ i. fold_to join none 64 (λ q. f (64 * i + place_of t q))) ≡ fold_to join none 1024 f
fold_to-pieces join none laws t f width =
    fold_to-same join none 16 (λ i. fold_to join none 64 (λ q. f (64 * i + place_of t q))) (λ i. fold_to join none 64 (λ p. f (i * 64 + p)))
    (λ i _. fold_to-places join none laws t (λ p. f (64 * i + p)) width ∙ fold_to-same join none 64 (λ p. f (64 * i + p)) (λ p. f (i * 64 + p)) (λ p _. ap f (omega arith)))
    ∙ sym (fold_to-blocks join none laws 16 64 f)
