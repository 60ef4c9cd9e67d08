-- How rows are spelled on a line: the grammar, as relations between texts and what they write.
use Rattle.std.specs.Prelude.{◌≡◌, ◌⊎◌, ◌↔◌, ℕ, List, [], ◌∷◌, ◌++◌, codes, Option, Some, None, IsTrue, ℤ, pos, neg_ℤ}
use Rattle.std.specs.Str.Parse.{digits_value}
use Rattle.table_model.specs.State.{Cells, Batch}
use Rattle.table_model.specs.Numeral.{is_numeral, value_digits}
use Rattle.script_lines.specs.Word.{rows_of}

-- a number: 1 to value_digits digits, in base ten
abbrev pub SpellsNumber : List ℕ → ℕ → Type 0
SpellsNumber text n = IsTrue (is_numeral value_digits text) × (digits_value 10 text ≡ n)

-- a value: NULL, or a number, which a minus sign may precede
abbrev pub SpellsValue : List ℕ → Option ℤ → Type 0
SpellsValue text None = text ≡ codes "NULL"
SpellsValue text (Some z) =
    ((n : ℕ) × SpellsNumber text n × (z ≡ pos n)) ⊎ ((digits : List ℕ) × (n : ℕ) × (text ≡ 45 ∷ digits) × SpellsNumber digits n × (z ≡ neg_ℤ (pos n)))

-- the values of a row: one, or one, a comma and further ones
abbrev pub SpellsValues : List ℕ → Cells → Type 0
SpellsValues text [] = ⊥
SpellsValues text (v ∷ []) = SpellsValue text v
SpellsValues text (v ∷ w ∷ vs) = (first : List ℕ) × (rest : List ℕ) × (text ≡ first ++ (44 ∷ rest)) × SpellsValue first v × SpellsValues rest (w ∷ vs)

-- a row: its values in parentheses
abbrev pub SpellsRow : List ℕ → Cells → Type 0
SpellsRow text row = (values : List ℕ) × (text ≡ 40 ∷ (values ++ (41 ∷ []))) × SpellsValues values row

-- rows: one, or one, a comma and further ones
abbrev pub SpellsRows : List ℕ → Batch → Type 0
SpellsRows text [] = ⊥
SpellsRows text (row ∷ []) = SpellsRow text row
SpellsRows text (row ∷ next ∷ rows) = (first : List ℕ) × (rest : List ℕ) × (text ≡ first ++ (44 ∷ rest)) × SpellsRow first row × SpellsRows rest (next ∷ rows)

-- rows are read of exactly the texts that spell them
abbrev pub RowsAreReadAsSpelled : Type 0
RowsAreReadAsSpelled = (text : List ℕ) (rows : Batch) → (rows_of text ≡ Some rows) ↔ SpellsRows text rows
