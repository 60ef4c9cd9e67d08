-- What is said of a refusal with the text that was refused, the table, and the first bytes of an input.
use Rattle.std.specs.Prelude.{◌≡◌, ◌⊎◌, ℕ, ◌<◌, ◌≤◌, ◌==◌, nat_lt, cond, List, [], length}
use Rattle.std.specs.List.{All}
use Rattle.lanes_c.specs.Names.{own_sentence}

-- how many bytes a sentence has at most
abbrev pub sentence_limit : ℕ
sentence_limit = 1024

-- a byte is of no control character of ASCII
abbrev pub IsShown : ℕ → Type 0
IsShown byte = (31 < byte) × (byte ≡ 127 → ⊥)

-- a byte as it is shown: a space in the place of a control character of ASCII
abbrev pub shown : ℕ → ℕ
shown byte = cond (nat_lt byte 32) 32 (cond (byte == 127) 32 byte)

-- a text that a terminal can show, of at most 1,024 bytes
abbrev pub IsPlain : List ℕ → Type 0
IsPlain text = (length text ≤ sentence_limit) × All IsShown text

-- the numbers of a closed handle and of the faults of a folder, which have sentences of their own
abbrev pub IsOwned : ℕ → Type 0
IsOwned number = (number ≡ 39) ⊎ ((43 < number) × (number < 47))

-- A text is what is said of a refusal of this number: a sentence of its own, if it has one; and else a plain text, which is empty of 0 and of
-- numbers past 46. It may be empty in any case, as memory may run out.
abbrev pub IsSaidOf : ℕ → List ℕ → Type 0
IsSaidOf number text =
    (IsOwned number → (text ≡ []) ⊎ (text ≡ own_sentence number))
    × ((number ≡ 0) ⊎ (46 < number) → text ≡ [])
    × ((IsOwned number → ⊥) → IsPlain text)
