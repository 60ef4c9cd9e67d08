-- A schema in bytes, in version 1 and 2: how many columns, the table's name, and each column's type and name.
use Rattle.std.specs.Prelude.{◌≡◌, ℕ, nat_le, Bool, true, cond, not, ◌&&◌, ◌||◌, ◌==◌, List, length, Some}
use Rattle.std.specs.List.{list_any, list_all}
use Rattle.std.specs.Char.{to_ascii_uppercase}
use Rattle.table_model.specs.Identifier.{word_limit, is_identifier}
use Rattle.table_model.specs.Table.{Table, ColumnShape, IsTable, bits_of, has_name, column_limit}
use Rattle.table_model.specs.declared.schema.ColType.{ColType}
use Rattle.table_model.specs.declared.schema.ColType.TheVariants.{TinyInt, SmallInt, Integer, BigInt}
use Rattle.table_model.specs.declared.refusal.Refusal.TheVariants.{BadCount, BadSchema}
use Rattle.segment_core.specs.Format.{Format, IsLawful, raw, seen, checked, before, all, number}

-- a text of 1 to word_limit bytes: how many, and these
unfoldable pub text : Format (List ℕ)
text = seen (before (checked (number 1) (λ n. nat_le 1 n && nat_le n word_limit) (λ _. BadSchema)) raw) (λ p. p.1) (λ t. Some (length t, t))

-- whether a byte is no lower-case letter
abbrev pub is_upper : ℕ → Bool
is_upper c = to_ascii_uppercase c == c

-- whether a text is an identifier in upper case
abbrev pub is_name : List ℕ → Bool
is_name t = is_identifier t && list_all is_upper t

-- the name of a table or a column
unfoldable pub name : Format (List ℕ)
name = checked text is_name (λ _. BadSchema)

-- a type's number of bytes, which represents it
abbrev pub tag_of : ColType → ℕ
tag_of TinyInt = 1
tag_of SmallInt = 2
tag_of Integer = 4
tag_of BigInt = 8

-- whether a type of version 1 has that number of bytes
abbrev pub first_tag : ℕ → Bool
first_tag tag = tag == 2 || (tag == 4 || tag == 8)

-- whether a type of this version has that number of bytes: in version 2 one byte too
abbrev pub is_type_tag : ℕ → ℕ → Bool
is_type_tag version tag = cond (version == 2) (tag == 1 || first_tag tag) (first_tag tag)

-- the type of a number of bytes
abbrev pub type_tagged : ℕ → ColType
type_tagged tag = cond (tag == 1) TinyInt (cond (tag == 2) SmallInt (cond (tag == 4) Integer BigInt))

-- a column's type, in this version
unfoldable pub column_type : ℕ → Format ColType
column_type version = seen (checked (number 1) (is_type_tag version) (λ _. BadSchema)) type_tagged (λ t. Some (tag_of t))

-- a column of this name and type
abbrev pub shape_of : List ℕ × ColType → ColumnShape
shape_of c = record { name = c.0; column_type = c.1 }

-- whether no column before has this column's name
abbrev pub is_new : List ColumnShape → ColumnShape → Bool
is_new front c = not (list_any (λ (d : ColumnShape). has_name d.name c.name) front)

-- a column, whose name is none of those before it
unfoldable pub column : ℕ → List ColumnShape → Format ColumnShape
column version front =
    checked (seen (before (column_type version) (λ _. name)) (λ p. record { name = p.1; column_type = p.0 }) (λ c. Some (c.column_type, c.name))) (is_new front) (λ _. BadSchema)

-- how many columns there are: 1 to column_limit
unfoldable pub column_count : Format ℕ
column_count = checked (number 2) (λ n. nat_le 1 n && nat_le n column_limit) BadCount

-- a schema, in this version
unfoldable pub schema : ℕ → Format Table
schema version =
    seen (before column_count (λ n. before name (λ _. all n (column version)))) (λ p. record { name = p.1.0; columns = p.1.1 }) (λ t. Some (length t.columns, (t.name, t.columns)))

-- whether a column has 8 bits
abbrev pub is_tiny : ColumnShape → Bool
is_tiny c = bits_of c.column_type == 8

-- whether a table has a column of 8 bits
abbrev pub has_tiny : Table → Bool
has_tiny table = list_any is_tiny table.columns

-- the version in which a table is written: 2 exactly where it has a column of 8 bits
abbrev pub version_of : Table → ℕ
version_of table = cond (has_tiny table) 2 1

-- in each version, what is read of a schema is spelled so and valid, what is valid and spelled so is read, and what is valid is a schema
pub record SchemasComeBack : Type 0 where
  pub lawful : (version : ℕ) → IsLawful (schema version)
  pub proper : (version : ℕ) (table : Table) → (schema version).valid table ≡ true → IsTable table
