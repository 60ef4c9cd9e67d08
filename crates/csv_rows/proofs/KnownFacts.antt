-- What holds of bytes that a reader tells is joined call by call, and holds of nothing where they aren't told.
use Rattle.std.specs.Prelude.{◌≡◌, ℕ, ◌+◌, List, ◌++◌, length, Option, Some, None}
use Rattle.std.specs.Io.KnownBytes.{Consumes, Keeps}
use Rattle.std.proofs.Common.{refl, ap, ◌∙◌, arith}
use Rattle.std.proofs.lemmas.List.{length-append}
use Rattle.csv_rows.specs.Reading.{AsKnown, Came}

pub known_both : (P Q S : List ℕ → List ℕ → Type 0) (join : (x y z : List ℕ) → P x y → Q y z → S x z) (a b c : Option (List ℕ)) → AsKnown P a b → AsKnown Q b c → AsKnown S a c
known_both P Q S join None b c p q = tt
known_both P Q S join (Some x) None c p q = absurd p
known_both P Q S join (Some x) (Some y) None p q = absurd q
known_both P Q S join (Some x) (Some y) (Some z) p q = join x y z p q

pub known_map : (P Q : List ℕ → List ℕ → Type 0) (f : (x y : List ℕ) → P x y → Q x y) (a b : Option (List ℕ)) → AsKnown P a b → AsKnown Q a b
known_map P Q f None b p = tt
known_map P Q f (Some x) None p = absurd p
known_map P Q f (Some x) (Some y) p = f x y p

-- of the bytes before alone
pub known_before : (P Q : List ℕ → List ℕ → Type 0) (f : (x y : List ℕ) → P x y → Q x x) (a b : Option (List ℕ)) → AsKnown P a b → AsKnown Q a a
known_before P Q f None b p = tt
known_before P Q f (Some x) None p = absurd p
known_before P Q f (Some x) (Some y) p = f x y p

pub consumed : (a b : Option (List ℕ)) (chunk : List ℕ) → Consumes a b chunk → AsKnown (λ x y. x ≡ chunk ++ y) a b
consumed None b chunk h = tt
consumed (Some x) None chunk h = absurd h
consumed (Some x) (Some y) chunk h = h

pub kept : (a b : Option (List ℕ)) → Keeps a b → AsKnown (λ x y. y ≡ x) a b
kept None b h = tt
kept (Some x) None h = absurd h
kept (Some x) (Some y) h = h

-- nothing was read
pub known_self : (P : List ℕ → List ℕ → Type 0) (same : (x : List ℕ) → P x x) (a : Option (List ℕ)) → AsKnown P a a
known_self P same None = tt
known_self P same (Some x) = same x

-- as many bytes came as are counted
pub came_none : (given : ℕ) (a b : Option (List ℕ)) → Keeps a b → Came given given a b
came_none given a b h = known_map (λ x y. y ≡ x) (λ x y. given + length y ≡ given + length x) (λ x y same. ap (λ (bytes : List ℕ). given + length bytes) same) a b (kept a b h)

pub came_start : (given : ℕ) (a : Option (List ℕ)) → Came given given a a
came_start given a = known_self (λ x y. given + length y ≡ given + length x) (λ x. refl) a

pub came_chunk : (given count : ℕ) (chunk : List ℕ) (a b : Option (List ℕ)) → Consumes a b chunk → length chunk ≡ count → Came given (given + count) a b
came_chunk given count chunk a b h is =
    known_map (λ x y. x ≡ chunk ++ y) (λ x y. (given + count) + length y ≡ given + length x)
    (λ x y same. let lengths : length x ≡ length chunk + length y = ap length same ∙ length-append chunk y in omega arith) a b (consumed a b chunk h)

pub came_both : (g0 g1 g2 : ℕ) (a b c : Option (List ℕ)) → Came g0 g1 a b → Came g1 g2 b c → Came g0 g2 a c
came_both g0 g1 g2 a b c p q =
    known_both (λ x y. g1 + length y ≡ g0 + length x) (λ y z. g2 + length z ≡ g1 + length y) (λ x z. g2 + length z ≡ g0 + length x) (λ x y z p q. q ∙ p) a b c p q
