-- Lanes of two pieces by turns, twice, are the lanes of four pieces by fours, which stand at neighbouring places of their rows.
use Rattle.std.proofs.Common.{◌≡◌, ◌≢◌, ℕ, ◌+◌, ◌-◌, ◌*◌, ◌/◌, ◌%◌, ◌<◌, ◌≤◌, ℤ, List, ◌++◌, length, get_or, ap, subst, ◌∙◌, arith}
use Rattle.std.proofs.lemmas.Bool.{cases_lt}
use Rattle.std.proofs.lemmas.List.{get_or_append_left, get_or-append_right}
use Rattle.frame_delta.proofs.PieceRows.{either}
use Rattle.bit_interleave.specs.Packing.{sixteen_of}
use Rattle.bit_interleave.specs.Range.{value_at}
use Rattle.bit_interleave.proofs.SixteenLemmas.{get_or-sixteen_of}

pub turns : (off : ℕ) (a b : List ℕ) (i j : ℕ) → length a ≡ 16 → i < 8 → off ≤ 8 → j ≡ i + off → (get_or (sixteen_of (λ n. get_or (a ++ b) (n % 2 * 16 + n / 2 + off) 0)) (2 * i) 0 ≡ get_or a j 0) × (get_or (sixteen_of (λ n. get_or (a ++ b) (n % 2 * 16 + n / 2 + off) 0)) (2 * i + 1) 0 ≡ get_or b j 0)
turns off a b i j long h within is =
    let f : ℕ → ℕ = λ n. get_or (a ++ b) (n % 2 * 16 + n / 2 + off) 0 in
    let even : 2 * i % 2 * 16 + 2 * i / 2 + off ≡ j = omega (arith, is) in
    let odd : (2 * i + 1) % 2 * 16 + (2 * i + 1) / 2 + off ≡ j + 16 = omega (arith, is) in
    let back : j + 16 - 16 ≡ j = omega arith in (
      get_or-sixteen_of f (2 * i) 0 (omega arith) ∙ ap (λ n. get_or (a ++ b) n 0) even ∙ get_or_append_left a b 0 j (omega (arith, long, is)),
      get_or-sixteen_of f (2 * i + 1) 0 (omega arith) ∙ ap (λ n. get_or (a ++ b) n 0) odd ∙ get_or-append_right a b 16 (j + 16) 0 long (omega arith) ∙ ap (λ n. get_or b n 0) back,
    )

-- one lane of a part stands at its row
part_row : (places k j m : ℕ) (w : ℕ → ℤ) (f : ℕ → ℕ) (x : List ℕ) (v : List ℤ) → k < 4 → m < 4 → ((n : ℕ) → n < 16 → value_at v (256 * j + 64 * (n / 4) + 4 * places + n % 4) ≡ w (get_or x n 0)) → get_or x (4 * m + k) 0 ≡ f (m + 4 * j) → value_at v (64 * (m + 4 * j) + 4 * places + k) ≡ w (f (m + 4 * j))
part_row places k j m w f x v small near written read =
    let row : 64 * (m + 4 * j) + 4 * places + k ≡ 256 * j + 64 * ((4 * m + k) / 4) + 4 * places + (4 * m + k) % 4 = omega arith in
    ap (value_at v) row ∙ written (4 * m + k) (omega arith) ∙ ap w read

-- the rows of four parts that are written one after another
pub rows_of_parts : (places k : ℕ) (w : ℕ → ℤ) (f : ℕ → ℕ) (x0 x1 x2 x3 : List ℕ) (v1 v2 v3 v4 : List ℤ) → k < 4 → places < 16 → ((n : ℕ) → n < 16 → value_at v1 (256 * 0 + 64 * (n / 4) + 4 * places + n % 4) ≡ w (get_or x0 n 0)) → ((n : ℕ) → n < 16 → value_at v2 (256 * 1 + 64 * (n / 4) + 4 * places + n % 4) ≡ w (get_or x1 n 0)) → ((n : ℕ) → n < 16 → value_at v3 (256 * 2 + 64 * (n / 4) + 4 * places + n % 4) ≡ w (get_or x2 n 0)) → ((n : ℕ) → n < 16 → value_at v4 (256 * 3 + 64 * (n / 4) + 4 * places + n % 4) ≡ w (get_or x3 n 0)) → ((n : ℕ) → n / 256 ≢ 1 → value_at v2 n ≡ value_at v1 n) → ((n : ℕ) → n / 256 ≢ 2 → value_at v3 n ≡ value_at v2 n) → ((n : ℕ) → n / 256 ≢ 3 → value_at v4 n ≡ value_at v3 n) → ((m : ℕ) → m < 4 → get_or x0 (4 * m + k) 0 ≡ f (m + 4 * 0)) → ((m : ℕ) → m < 4 → get_or x1 (4 * m + k) 0 ≡ f (m + 4 * 1)) → ((m : ℕ) → m < 4 → get_or x2 (4 * m + k) 0 ≡ f (m + 4 * 2)) → ((m : ℕ) → m < 4 → get_or x3 (4 * m + k) 0 ≡ f (m + 4 * 3)) → (i : ℕ) → i < 16 → value_at v4 (64 * i + 4 * places + k) ≡ w (f i)
rows_of_parts places k w f x0 x1 x2 x3 v1 v2 v3 v4 small room w0 w1 w2 w3 keep1 keep2 keep3 r0 r1 r2 r3 i h =
    let row : ℕ → ℕ = λ n. 64 * n + 4 * places + k in
    let at : (j : ℕ) → i / 4 ≡ j → value_at v4 (row (i - 4 * j + 4 * j)) ≡ w (f (i - 4 * j + 4 * j)) → value_at v4 (row i) ≡ w (f i) =
    λ j is done. let e : i - 4 * j + 4 * j ≡ i = omega (arith, is) in subst (λ (n : ℕ). value_at v4 (64 * n + 4 * places + k) ≡ w (f n)) e done in
    either (cases_lt i 4)
    (λ l. at 0 (omega arith) (keep3 (row (i - 4 * 0 + 4 * 0)) (λ e. omega (arith, e)) ∙ keep2 (row (i - 4 * 0 + 4 * 0)) (λ e. omega (arith, e)) ∙ keep1 (row (i - 4 * 0 + 4 * 0)) (λ e. omega (arith, e)) ∙ part_row places k 0 (i - 4 * 0) w f x0 v1 small (omega arith) w0 (r0 (i - 4 * 0) (omega arith))))
    (λ g. either (cases_lt i 8)
    (λ l. at 1 (omega arith) (keep3 (row (i - 4 * 1 + 4 * 1)) (λ e. omega (arith, e)) ∙ keep2 (row (i - 4 * 1 + 4 * 1)) (λ e. omega (arith, e)) ∙ part_row places k 1 (i - 4 * 1) w f x1 v2 small (omega arith) w1 (r1 (i - 4 * 1) (omega arith))))
    (λ g2. either (cases_lt i 12)
    (λ l. at 2 (omega arith) (keep3 (row (i - 4 * 2 + 4 * 2)) (λ e. omega (arith, e)) ∙ part_row places k 2 (i - 4 * 2) w f x2 v3 small (omega arith) w2 (r2 (i - 4 * 2) (omega arith))))
    (λ g3. at 3 (omega arith) (part_row places k 3 (i - 4 * 3) w f x3 v4 small (omega arith) w3 (r3 (i - 4 * 3) (omega arith))))))
