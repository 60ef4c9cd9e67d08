-- What a schema is has bytes, and which bytes these are.
use Rattle.std.proofs.Common.{◌≡◌, ℕ, ◌≤◌, Bool, true, false, cond, ◌⊎◌, inl, inr, not, ◌&&◌, eqb, leb, ltb, ◌<◌, List, [], ◌∷◌, ◌++◌, map, length, All, refl, ap, ◌∙◌, append_assoc, arith, lit<}
use Rattle.std.specs.Char.{to_ascii_uppercase}
use Rattle.std.specs.List.{list_all, list_any, AllByRecursion}
use Rattle.std.proofs.lemmas.Bool.{eq-eqb, le-leb, ltb-true, and_parts, and_from, or_parts}
use Rattle.std.proofs.lemmas.List.Elements.{All-from_recursion}
use Rattle.table_model.specs.Identifier.{folded, word_limit, is_word, is_word_byte, is_keyword, is_identifier}
use Rattle.table_model.specs.Table.{Table, ColumnShape, IsTable, column_limit, has_name, are_distinct, is_named, name_of, asked_of, column_of, is_schema, folded_table, bits_of}
use Rattle.table_model.specs.declared.schema.ColType.{ColType}
use Rattle.table_model.specs.declared.schema.ColType.TheVariants.{TinyInt, SmallInt, Integer, BigInt}
use Rattle.table_model.specs.declared.refusal.Refusal.TheVariants.{BadSchema}
use Rattle.segment_core.specs.Format.{Format, is_byte, AreBytes, number, all, valid_all}
use Rattle.segment_core.proofs.FormatLaws.{bytes_at, guard_ok}
use Rattle.segment_core.proofs.NumberLaws.{number_is_valid}
use Rattle.column_file.specs.SchemaBytes.{text, is_upper, is_name, name, tag_of, is_type_tag, column_type, is_new, column, column_count, schema, is_tiny, has_tiny, version_of}
use Rattle.column_file.proofs.SchemaReading.{word_below}

-- ---- the bytes

pub name_spelled : (t : List ℕ) → name.spell t ≡ (number 1).spell (length t) ++ t
unfolding name text
name_spelled t = refl

pub column_spelled : (version : ℕ) (front : List ColumnShape) (c : ColumnShape) → (column version front).spell c ≡ (number 1).spell (tag_of c.column_type) ++ name.spell c.name
unfolding column column_type
column_spelled version front c = refl

pub schema_spelled : (version : ℕ) (t : Table) → (schema version).spell t ≡ (number 2).spell (length t.columns) ++ (name.spell t.name ++ (all (length t.columns) (column version)).spell t.columns)
unfolding schema column_count
schema_spelled version t = refl

-- ---- names

word_short : (t : List ℕ) → is_word t ≡ true → (1 ≤ length t) × (length t ≤ word_limit)
word_short [] e = absurd cc
word_short (c ∷ t) e =
    let rest = (and_parts _ (list_all is_word_byte t && ltb (length t) word_limit) e).1 in
    let short : length t < word_limit = ltb-true _ _ (and_parts (list_all is_word_byte t) (ltb (length t) word_limit) rest).1 in
    (omega arith, omega arith)

pub name_short : (t : List ℕ) → is_name t ≡ true → (1 ≤ length t) × (length t ≤ word_limit)
name_short t e =
    let id = (and_parts (is_identifier t) (list_all is_upper t) e).0 in
    word_short t (and_parts (is_word t) (not (is_keyword t)) id).0

name_bytes : (t : List ℕ) → is_name t ≡ true → AreBytes t
name_bytes t e =
    let id = (and_parts (is_identifier t) (list_all is_upper t) e).0 in
    let word = (and_parts (is_word t) (not (is_keyword t)) id).0 in
    bytes_at t (λ i. let below = word_below t i word in omega arith)

name_is_valid : (t : List ℕ) → is_name t ≡ true → name.valid t ≡ true
unfolding name text
name_is_valid t e =
    let short = name_short t e in
    let size = and_from ((number 1).valid (length t)) (leb 1 (length t) && leb (length t) word_limit) (number_is_valid 1 (length t) (omega arith)) (and_from (leb 1 (length t)) (leb (length t) word_limit) (le-leb _ _ short.0) (le-leb _ _ short.1)) in
    let bytes = and_from (eqb (length t) (length t)) (list_all is_byte t) (eq-eqb _ _ refl) (name_bytes t e) in
    and_from (((number 1).valid (length t) && (leb 1 (length t) && leb (length t) word_limit)) && (eqb (length t) (length t) && list_all is_byte t)) (is_name t)
    (and_from ((number 1).valid (length t) && (leb 1 (length t) && leb (length t) word_limit)) (eqb (length t) (length t) && list_all is_byte t) size bytes) e

folded_is_upper : (t : List ℕ) → folded t ≡ t → list_all is_upper t ≡ true
folded_is_upper [] e = refl
folded_is_upper (c ∷ t) e =
    let here : to_ascii_uppercase c ≡ c = cc in
    let rest : folded t ≡ t = cc in
    and_from (is_upper c) (list_all is_upper t) (eq-eqb _ _ here) (folded_is_upper t rest)

-- ---- columns

abbrev named : List ColumnShape → List (List ℕ)
named columns = map name_of (map asked_of columns)

either : (b : Bool) → cond b true true ≡ true
either true = refl
either false = refl

-- each type stands in version 2, and in each version those that don't have 8 bits
type_is_valid : (version : ℕ) (t : ColType) → (eqb version 2 ≡ true) ⊎ (eqb (bits_of t) 8 ≡ false) → (column_type version).valid t ≡ true
unfolding column_type
type_is_valid version TinyInt (inl two) = and_from ((number 1).valid 1) (is_type_tag version 1) (number_is_valid 1 1 (lit< tt)) (rw two refl)
type_is_valid version TinyInt (inr wide) = absurd cc
type_is_valid version SmallInt stands = and_from ((number 1).valid 2) (is_type_tag version 2) (number_is_valid 1 2 (lit< tt)) (either (eqb version 2))
type_is_valid version Integer stands = and_from ((number 1).valid 4) (is_type_tag version 4) (number_is_valid 1 4 (lit< tt)) (either (eqb version 2))
type_is_valid version BigInt stands = and_from ((number 1).valid 8) (is_type_tag version 8) (number_is_valid 1 8 (lit< tt)) (either (eqb version 2))

-- columns stand in a version: it is 2, or none of them has 8 bits
abbrev Stand : ℕ → List ColumnShape → Type 0
Stand version columns = (eqb version 2 ≡ true) ⊎ (list_any is_tiny columns ≡ false)

stands_first : (version : ℕ) (c : ColumnShape) (cs : List ColumnShape) → Stand version (c ∷ cs) → (eqb version 2 ≡ true) ⊎ (is_tiny c ≡ false)
stands_first version c cs (inl two) = inl two
stands_first version c cs (inr none) = inr (or_parts (is_tiny c) (list_any is_tiny cs) none).0

stand_later : (version : ℕ) (c : ColumnShape) (cs : List ColumnShape) → Stand version (c ∷ cs) → Stand version cs
stand_later version c cs (inl two) = inl two
stand_later version c cs (inr none) = inr (or_parts (is_tiny c) (list_any is_tiny cs) none).1

version_stands : (tiny : Bool) → (eqb (cond tiny 2 1) 2 ≡ true) ⊎ (tiny ≡ false)
version_stands true = inl refl
version_stands false = inr refl

not_true : (b : Bool) → not b ≡ true → b ≡ false
not_true true e = absurd cc
not_true false e = refl

-- a column that stands further on does not have the name
further : (n : List ℕ) (front : List ColumnShape) (c : ColumnShape) (cs : List ColumnShape) → list_any (has_name n) (named (front ++ c ∷ cs)) ≡ false → has_name n c.name ≡ false
further n [] c cs e = (or_parts (has_name n c.name) (list_any (has_name n) (named cs)) e).0
further n (d ∷ front) c cs e = further n front c cs (or_parts (has_name n d.name) (list_any (has_name n) (named (front ++ c ∷ cs))) e).1

none_before : (front : List ColumnShape) (c : ColumnShape) (cs : List ColumnShape) → are_distinct (named (front ++ c ∷ cs)) ≡ true → list_any (λ (d : ColumnShape). has_name d.name c.name) front ≡ false
none_before [] c cs e = refl
none_before (d ∷ front) c cs e =
    let v = and_parts (not (list_any (has_name d.name) (named (front ++ c ∷ cs)))) (are_distinct (named (front ++ c ∷ cs))) e in
    let here = further d.name front c cs (not_true (list_any (has_name d.name) (named (front ++ c ∷ cs))) v.0) in
    let rest = none_before front c cs v.1 in
    rw (here, rest) refl

-- each column's name is one
abbrev AreNamed : List ColumnShape → Type 0
AreNamed columns = AllByRecursion (λ (c : ColumnShape). is_name c.name ≡ true) columns

columns_named : (cs : List ColumnShape) → list_all is_named (map asked_of cs) ≡ true → map column_of (map asked_of cs) ≡ cs → AreNamed cs
columns_named [] e f = tt
columns_named (c ∷ cs) e f =
    let v = and_parts (is_identifier c.name) (list_all is_named (map asked_of cs)) e in
    let first : column_of (asked_of c) ≡ c = cc in
    let rest : map column_of (map asked_of cs) ≡ cs = cc in
    let same : folded c.name ≡ c.name = ap (λ (d : ColumnShape). d.name) first in
    (and_from (is_identifier c.name) (list_all is_upper c.name) v.0 (folded_is_upper c.name same), columns_named cs v.1 rest)

columns_valid : (version : ℕ) (front cs : List ColumnShape) → AreNamed cs → are_distinct (named (front ++ cs)) ≡ true → Stand version cs → valid_all (column version) front cs ≡ true
unfolding valid_all column
columns_valid version front [] names distinct stand = refl
columns_valid version front (c ∷ cs) names distinct stand =
    let new : is_new front c ≡ true = ap not (none_before front c cs distinct) in
    let shape = and_from ((column_type version).valid c.column_type) (name.valid c.name) (type_is_valid version c.column_type (stands_first version c cs stand)) (name_is_valid c.name names.0) in
    let next : are_distinct (named ((front ++ c ∷ []) ++ cs)) ≡ true = ap (λ (xs : List ColumnShape). are_distinct (named xs)) (append_assoc front (c ∷ []) cs) ∙ distinct in
    and_from (((column_type version).valid c.column_type && name.valid c.name) && is_new front c) (valid_all (column version) (front ++ c ∷ []) cs)
    (and_from ((column_type version).valid c.column_type && name.valid c.name) (is_new front c) shape new)
    (columns_valid version (front ++ c ∷ []) cs names.1 next (stand_later version c cs stand))

-- ---- schemas

record TableParts (t : Table) : Type 0 where
  proper : is_name t.name ≡ true
  some : 1 ≤ length t.columns
  limit : length t.columns ≤ column_limit
  columns : AreNamed t.columns
  distinct : are_distinct (named t.columns) ≡ true

table_parts : (t : Table) → IsTable t → TableParts t
unfolding is_schema
table_parts t table =
    let asked = map asked_of t.columns in
    let g = guard_ok {A = Table} (is_schema t.name asked) BadSchema (folded_table t.name asked) t table.itself in
    let a = and_parts (is_identifier t.name) _ g.0 in
    let b = and_parts (leb 1 (length asked)) _ a.1 in
    let c = and_parts (leb (length asked) column_limit) (list_all is_named asked && are_distinct (map name_of asked)) b.1 in
    let d = and_parts (list_all is_named asked) (are_distinct (map name_of asked)) c.1 in
    let same_name : folded t.name ≡ t.name = ap (λ (u : Table). u.name) g.1 in
    let same_columns : map column_of asked ≡ t.columns = ap (λ (u : Table). u.columns) g.1 in
    record {
      proper = and_from (is_identifier t.name) (list_all is_upper t.name) a.0 (folded_is_upper t.name same_name);
      some = table.some;
      limit = table.limit;
      columns = columns_named t.columns d.0 same_columns;
      distinct = d.1;
    }

-- what a schema is has bytes, in its version
pub table_is_valid : (t : Table) → IsTable t → (schema (version_of t)).valid t ≡ true
unfolding schema column_count
table_is_valid t table =
    let p = table_parts t table in
    let n = length t.columns in
    let count = and_from ((number 2).valid n) (leb 1 n && leb n column_limit) (number_is_valid 2 n (let small = p.limit in omega arith)) (and_from (leb 1 n) (leb n column_limit) (le-leb _ _ p.some) (le-leb _ _ p.limit)) in
    let item : List ColumnShape → Format ColumnShape = column (version_of t) in
    let columns = and_from (eqb n n) (valid_all item [] t.columns) (eq-eqb _ _ refl) (columns_valid (version_of t) [] t.columns p.columns p.distinct (version_stands (has_tiny t))) in
    and_from ((number 2).valid n && (leb 1 n && leb n column_limit)) (name.valid t.name && (eqb n n && valid_all item [] t.columns)) count
    (and_from (name.valid t.name) (eqb n n && valid_all item [] t.columns) (name_is_valid t.name p.proper) columns)

-- ---- short names

abbrev IsShort : ColumnShape → Type 0
IsShort c = length c.name ≤ word_limit

all_short : (cs : List ColumnShape) → AreNamed cs → AllByRecursion IsShort cs
all_short [] names = tt
all_short (c ∷ cs) names = ((name_short c.name names.0).1, all_short cs names.1)

pub table_short : (t : Table) → IsTable t → (length t.name ≤ word_limit) × All (λ (c : ColumnShape). length c.name ≤ word_limit) t.columns
table_short t table =
    let p = table_parts t table in
    ((name_short t.name p.proper).1, All-from_recursion IsShort t.columns (all_short t.columns p.columns))
