-- Texts cut at a byte, as a script and comma-separated values are.
use Rattle.std.specs.Prelude.{ℕ, ◌==◌, cond, List, [], ◌∷◌, Option, Some, None}

-- the texts with a byte before the first of them
abbrev pub onto_first : ℕ → List (List ℕ) → List (List ℕ)
onto_first c [] = (c ∷ []) ∷ []
onto_first c (text ∷ texts) = (c ∷ text) ∷ texts

-- the pieces of a text between such bytes: one more than there are such bytes
abbrev pub pieces : ℕ → List ℕ → List (List ℕ)
pieces separator [] = [] ∷ []
pieces separator (c ∷ cs) = cond (c == separator) ([] ∷ pieces separator cs) (onto_first c (pieces separator cs))

-- what follows such a byte at the head of a text
abbrev pub without : ℕ → List ℕ → Option (List ℕ)
without byte [] = None
without byte (c ∷ cs) = cond (c == byte) (Some cs) None
