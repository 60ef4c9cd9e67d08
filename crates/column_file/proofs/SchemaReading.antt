-- The readings of the parts of a schema make that of the whole.
use Rattle.std.proofs.Common.{◌≡◌, ℕ, zero, suc, ◌<◌, Bool, true, false, not, ◌&&◌, List, [], ◌∷◌, map, Result, Ok, Err, IsOk, Bor, ◌⊎◌, inl, inr, refl, sym, ap, ◌∙◌, slice_index, arith}
use Rattle.std.specs.List.{list_all, list_any}
use Rattle.std.specs.Char.{is_ascii_alphabetic}
use Rattle.std.specs.Str.{IsUtf8}
use Rattle.std.proofs.lemmas.Bool.{and_parts}
use Rattle.std.proofs.lemmas.Bool.Decides.{nat_tests}
use Rattle.std.proofs.lemmas.Str.{IsUtf8-from_ascii}
use Rattle.table_model.specs.Identifier.{is_word_byte, is_word, is_keyword, is_identifier}
use Rattle.table_model.specs.Table.{Table, ColumnShape, has_name, asked_of, schema_of}
use Rattle.table_model.proofs.Texts.{list_any-map}
use Rattle.table_model.specs.declared.schema.ColType.{ColType}
use Rattle.table_model.specs.declared.refusal.Refusal.{Refusal}
use Rattle.table_model.specs.declared.refusal.Refusal.TheVariants.{BadSchema, Memory}
use Rattle.segment_core.specs.Format.{AreBytes, all}
use Rattle.column_file.specs.SchemaBytes.{is_upper, is_name, name, column_type, shape_of, is_new, column, column_count, schema}
use Rattle.column_file.proofs.SchemaLaws.{schema_is_lawful, valid_is_table}

-- ---- names are texts

word_byte_below : (c : ℕ) → is_word_byte c ≡ true → c < 128
word_byte_below c e = grind (arith, nat_tests)

letter_below : (c : ℕ) → is_ascii_alphabetic c ≡ true → c < 128
letter_below c e = grind (arith, nat_tests)

word_bytes_below : (bs : List ℕ) (i : ℕ) → list_all is_word_byte bs ≡ true → slice_index bs i < 128
word_bytes_below [] i e = omega arith
word_bytes_below (b ∷ bs) zero e = word_byte_below b (and_parts (is_word_byte b) (list_all is_word_byte bs) e).0
word_bytes_below (b ∷ bs) (suc i) e = word_bytes_below bs i (and_parts (is_word_byte b) (list_all is_word_byte bs) e).1

pub word_below : (bs : List ℕ) (i : ℕ) → is_word bs ≡ true → slice_index bs i < 128
word_below [] i e = omega arith
word_below (b ∷ bs) zero e = letter_below b (and_parts (is_ascii_alphabetic b) (list_all is_word_byte bs && _) e).0
word_below (b ∷ bs) (suc i) e =
    word_bytes_below bs i (and_parts (list_all is_word_byte bs) _ (and_parts (is_ascii_alphabetic b) (list_all is_word_byte bs && _) e).1).0

pub IsUtf8-name : (t : List ℕ) → is_name t ≡ true → IsUtf8 t
IsUtf8-name t e =
    let id = (and_parts (is_identifier t) (list_all is_upper t) e).0 in
    IsUtf8-from_ascii t (λ i. word_below t i (and_parts (is_word t) (not (is_keyword t)) id).0)

-- ---- columns

-- a column as it is held while the schema is read
abbrev pub Asked : Type 0
Asked = Bor (List ℕ) × ColType

abbrev pub shape : Asked → ColumnShape
shape c = shape_of (c.0.now, c.1)

abbrev pub asked : Asked → List ℕ × ColType
asked c = (c.0.now, c.1)

pub new_name : (front : List Asked) (n : List ℕ) (t : ColType) (b : Bool) → b ≡ list_any (λ (c : Asked). has_name c.0.now n) front → is_new (map shape front) (shape_of (n, t)) ≡ not b
new_name front n t b e = ap not (list_any-map (λ (d : ColumnShape). has_name d.name n) shape front ∙ sym e)

pub column_good : (version : ℕ) (front : List ColumnShape) (total : ℕ) (bytes : List ℕ) (t : ColType) (after : List ℕ) (n rest : List ℕ) → (column_type version).read total bytes ≡ Ok (t, after) → name.read total after ≡ Ok (n, rest)
    → is_new front (shape_of (n, t)) ≡ true → (column version front).read total bytes ≡ Ok (shape_of (n, t), rest)
unfolding column
column_good version front total bytes t after n rest h k new = rw (h, k, new) refl

pub column_bad : (version : ℕ) (front : List ColumnShape) (total : ℕ) (bytes : List ℕ) (t : ColType) (after : List ℕ) (n rest : List ℕ) → (column_type version).read total bytes ≡ Ok (t, after) → name.read total after ≡ Ok (n, rest)
    → is_new front (shape_of (n, t)) ≡ false → (column version front).read total bytes ≡ Err BadSchema
unfolding column
column_bad version front total bytes t after n rest h k new = rw (h, k, new) refl

-- ---- the schema

pub asked_shapes : (items : List Asked) → map asked_of (map shape items) ≡ map asked items
asked_shapes [] = refl
asked_shapes (c ∷ items) = let rest = asked_shapes items in λ i. asked c ∷ rest i

-- the table of a name and columns
abbrev pub table_of : List ℕ → List ColumnShape → Table
table_of n cs = record { name = n; columns = cs }

pub schema_read : (version total : ℕ) (bytes : List ℕ) (count : ℕ) (a : List ℕ) (n b : List ℕ) (cs : List ColumnShape) (rest : List ℕ) → column_count.read total bytes ≡ Ok (count, a) → name.read total a ≡ Ok (n, b) → (all count (column version)).read total b ≡ Ok (cs, rest)
    → (schema version).read total bytes ≡ Ok (table_of n cs, rest)
unfolding schema
schema_read version total bytes count a n b cs rest h k l = rw (h, k, l) refl

-- the schema of what was read
pub asked_is : (version total : ℕ) (bytes : List ℕ) (n : List ℕ) (items : List Asked) (rest : List ℕ) → AreBytes bytes → (schema version).read total bytes ≡ Ok (table_of n (map shape items), rest) → schema_of n (map asked items) ≡ Ok (table_of n (map shape items))
asked_is version total bytes n items rest fit e =
    let t = table_of n (map shape items) in
    let proper = valid_is_table version t ((schema_is_lawful version).takes total bytes t rest fit e).1 in
    ap (schema_of n) (sym (asked_shapes items)) ∙ proper.itself

abbrev ok_table : Table → Result Table Refusal
ok_table t = Ok t

-- where a schema is made, only memory can lack
pub only_memory : (given : Result Table Refusal) (t : Table) (e : Refusal) → given ≡ Ok t → (given ≡ Err e) ⊎ ((e ≡ Memory) × IsOk given) → e ≡ Memory
only_memory given t e is (inl fault) = let both : ok_table t ≡ Err e = sym is ∙ fault in absurd cc
only_memory given t e is (inr (memory, fine)) = memory

pub one_table : (given : Result Table Refusal) (t u : Table) → given ≡ Ok t → given ≡ Ok u → t ≡ u
one_table given t u e f = let both : ok_table t ≡ Ok u = sym e ∙ f in cc
