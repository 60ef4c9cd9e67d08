-- A range of names is an interval of places on one line of whole numbers, and a set of names is a list of such ranges.
use Rattle.std.specs.Prelude.{◌≡◌, ℕ, ◌+◌, ◌<◌, ◌≤◌, Bool, true, false, cond, ◌&&◌, ◌||◌, nat_lt, nat_le, List, [], ◌∷◌, length, slice_index_or, min, max}

-- where a range lies: the places of its first and its last name, whether its numbers are those of names, and the range that two make together
pub record Shape (S : Type 0) : Type 0 where
  pub low : S → ℕ
  pub high : S → ℕ
  pub named : S → Bool
  pub hull : S → S → S

module _ {S : Type 0} (shape : Shape S) where
  -- s ends, and leaves a place free, before t begins
  abbrev pub apart : S → S → Bool
  apart s t = nat_lt (shape.high s + 1) (shape.low t)

  -- the range has the place
  abbrev pub covers : S → ℕ → Bool
  covers s p = nat_le (shape.low s) p && nat_le p (shape.high s)

  -- some range of the list has the place
  abbrev pub among : List S → ℕ → Bool
  among [] p = false
  among (s ∷ ss) p = covers s p || among ss p

  -- the ranges ascend from the place n on, none is empty, and between two of them at least one place is free
  abbrev pub Rises : ℕ → List S → Type 0
  Rises n [] = Unit {0}
  Rises n (s ∷ ss) = (n ≤ shape.low s) × (shape.low s ≤ shape.high s) × (shape.named s ≡ true) × Rises (shape.high s + 2) ss

  -- the ranges begin in ascending order from the place n on, and none is empty
  abbrev pub Ascends : ℕ → List S → Type 0
  Ascends n [] = Unit {0}
  Ascends n (s ∷ ss) = (n ≤ shape.low s) × (shape.low s ≤ shape.high s) × (shape.named s ≡ true) × Ascends (shape.low s) ss

  -- two lists of ranges in one, by where they begin
  abbrev pub merge : List S → List S → List S
  merge [] ts = ts
  merge (s ∷ ss) [] = s ∷ ss
  merge (s ∷ ss) (t ∷ ts) = cond (nat_le (shape.low s) (shape.low t)) (s ∷ merge ss (t ∷ ts)) (t ∷ merge (s ∷ ss) ts)

  -- a range and the ranges after it, where those that touch are one
  abbrev pub bridged_from : S → List S → List S
  bridged_from s [] = s ∷ []
  bridged_from s (t ∷ ts) = cond (apart s t) (s ∷ bridged_from t ts) (bridged_from (shape.hull s t) ts)

  -- ranges in ascending order, where those that touch are one
  abbrev pub bridged : List S → List S
  bridged [] = []
  bridged (s ∷ ss) = bridged_from s ss

  -- a place that is not in the list, and is in the other list
  pub record Lacks (ss ts : List S) : Type 0 where
    pub place : ℕ
    pub among_others : among ts place ≡ true
    pub not_among : among ss place ≡ false

  -- the range of the list that has a place: all its places are in the list, and the one past its end is not
  pub record IsRangeAt (ss : List S) (p : ℕ) (s : S) : Type 0 where
    pub has : covers s p ≡ true
    pub named : shape.named s ≡ true
    pub inside : (q : ℕ) → covers s q ≡ true → among ss q ≡ true
    pub beyond : among ss (shape.high s + 1) ≡ false

  -- where a range goes in a list: those before i end apart before it, those from j on begin apart behind it, and those between touch it
  pub record IsPlace (ss : List S) (s : S) (i j : ℕ) : Type 0 where
    pub ordered : i ≤ j
    pub in_list : j ≤ length ss
    pub before : (k : ℕ) (d : S) → k < i → k < length ss → shape.high (slice_index_or ss k d) + 1 < shape.low s
    pub from_i : (k : ℕ) (d : S) → i ≤ k → k < length ss → shape.low s ≤ shape.high (slice_index_or ss k d) + 1
    pub below_j : (k : ℕ) (d : S) → k < j → k < length ss → shape.low (slice_index_or ss k d) ≤ shape.high s + 1
    pub behind : (k : ℕ) (d : S) → j ≤ k → k < length ss → shape.high s + 1 < shape.low (slice_index_or ss k d)

  -- the ranges of a list that share a place with s: each does, and they have the same of its places as the list
  pub record IsOverlap (ss : List S) (s : S) (shared : List S) : Type 0 where
    pub rising : Rises 0 shared
    pub reached : (k : ℕ) (d : S) → k < length shared → shape.low (slice_index_or shared k d) ≤ shape.high s
    pub reaches : (k : ℕ) (d : S) → k < length shared → shape.low s ≤ shape.high (slice_index_or shared k d)
    pub places : (p : ℕ) → shape.low s ≤ p → p ≤ shape.high s → among ss p ≡ among shared p

-- the hull of two ranges that touch reaches from where the first begins to where the last ends; the hull of named ranges is named, and named ranges that begin and end at the same places are the same
pub record IsShape {S : Type 0} (shape : Shape S) : Type 0 where
  pub low_hull : (s t : S) → shape.named s ≡ true → shape.named t ≡ true → apart shape s t ≡ false → apart shape t s ≡ false → shape.low (shape.hull s t) ≡ min (shape.low s) (shape.low t)
  pub high_hull : (s t : S) → shape.named s ≡ true → shape.named t ≡ true → apart shape s t ≡ false → apart shape t s ≡ false → shape.high (shape.hull s t) ≡ max (shape.high s) (shape.high t)
  pub named_hull : (s t : S) → shape.named s ≡ true → shape.named t ≡ true → shape.named (shape.hull s t) ≡ true
  pub same : (s t : S) → shape.named s ≡ true → shape.named t ≡ true → shape.low s ≡ shape.low t → shape.high s ≡ shape.high t → s ≡ t
