-- The parts up to a place, of which so many are packed.
use Rattle.std.specs.Prelude.{◌≡◌, ◌⊎◌, ℕ, ◌+◌, ◌*◌, ◌-◌, ◌≤◌, ◌<◌, Bool, true, false, cond, nat_le, List, length, get_or, take}
use Rattle.std.specs.List.{sum}
use Rattle.std.proofs.Common.{refl, sym, subst, ◌∙◌, inl, inr, arith}
use Rattle.std.proofs.lemmas.Bool.{leb-true}
use Rattle.std.proofs.lemmas.Bool.Decides.{leb_tells}
use Rattle.std.proofs.lemmas.List.Sums.{sum_by_more}
use Rattle.folder_parts.specs.Packing.{IsSmall, IsPackedPrefix}

pub record PackedSoFar (sizes : List ℕ) (at count before : ℕ) : Type 0 where
  pub total : before ≡ sum (take at sizes)
  pub fits : before ≤ at * 18446744073709551615
  pub bound : count ≤ at
  pub last : 0 < count → IsSmall sizes (count - 1)
  pub greatest : (i : ℕ) → count ≤ i → i < at → IsSmall sizes i → ⊥

pub packed_none : (sizes : List ℕ) → PackedSoFar sizes 0 0 0
packed_none sizes = record {
  total = refl;
  fits = omega arith;
  bound = omega arith;
  last = λ some. let no : ⊥ = omega (arith, some) in absurd no;
  greatest = λ i low below small. omega (arith, below);
}

more_fits : (before at size : ℕ) → before ≤ at * 18446744073709551615 → size ≤ 18446744073709551615 → before + size ≤ (at + 1) * 18446744073709551615
more_fits before at size so one = omega (arith, so, one)

not_small : (a b : ℕ) → nat_le a b ≡ false → a ≤ b → ⊥
not_small a b is le = of (leb_tells a b)
  where
    of : ((nat_le a b ≡ true) × (a ≤ b)) ⊎ ((nat_le a b ≡ false) × (b < a)) → ⊥
    of (inl h) = let no : true ≡ false = sym h.0 ∙ is in cc
    of (inr h) = omega (arith, h.1, le)

here_or_before : (i at : ℕ) → i < at + 1 → (i < at) ⊎ (i ≡ at)
here_or_before i at below = grind (arith, below)

-- with one more part
pub packed_next : (sizes : List ℕ) (at count before size : ℕ) → PackedSoFar sizes at count before → at < length sizes → size ≡ get_or sizes at 0 → size ≤ 18446744073709551615
    → PackedSoFar sizes (at + 1) (cond (nat_le (7 * size) before) (at + 1) count) (before + size)
packed_next sizes at count before size so below is fit = choose (nat_le (7 * size) before) refl
  where
    whole : before + size ≡ sum (take (at + 1) sizes)
    whole = (λ i. so.total i + is i) ∙ sym (sum_by_more (λ x. x) sizes at 0 below)

    here : at + 1 - 1 ≡ at
    here = omega arith

    choose : (b : Bool) → nat_le (7 * size) before ≡ b → PackedSoFar sizes (at + 1) (cond b (at + 1) count) (before + size)
    choose true h = record {
      total = whole;
      fits = more_fits before at size so.fits fit;
      bound = omega arith;
      last = λ some. subst (IsSmall sizes) (sym here) (subst (λ (n : ℕ). 7 * n ≤ sum (take at sizes)) is (subst (λ (n : ℕ). 7 * size ≤ n) so.total (leb-true (7 * size) before h)));
      greatest = λ i low under small. omega (arith, low, under);
    }
    choose false h = record {
      total = whole;
      fits = more_fits before at size so.fits fit;
      bound = let b = so.bound in omega (arith, b);
      last = so.last;
      greatest = λ i low under small. of i low small (here_or_before i at under);
    }
      where
        of : (i : ℕ) → count ≤ i → IsSmall sizes i → (i < at) ⊎ (i ≡ at) → ⊥
        of i low small (inl less) = so.greatest i low less small
        of i low small (inr same) =
            not_small (7 * size) before h (subst (λ (n : ℕ). 7 * size ≤ n) (sym so.total) (subst (λ (n : ℕ). 7 * n ≤ sum (take at sizes)) (sym is) (subst (IsSmall sizes) same small)))

-- with all parts
pub packed_all : (sizes : List ℕ) (at count before : ℕ) → PackedSoFar sizes at count before → at ≡ length sizes → IsPackedPrefix sizes count
packed_all sizes at count before so end = record {
  bound = let b = so.bound in omega (arith, b, end);
  last = so.last;
  greatest = λ i low below small. so.greatest i low (omega (arith, below, end)) small;
}
