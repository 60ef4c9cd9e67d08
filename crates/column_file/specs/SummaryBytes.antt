-- A summary in bytes: what a replica holds, as its table's schema and the names of its batches.
use Rattle.std.specs.Prelude.{ℕ, ◌-◌, nat_le, nat_lt, Bool, ◌&&◌, ◌||◌, ◌==◌, List, length, slice_index_or, codes, Some, Result, Ok}
use Rattle.std.specs.FinSet as set
use Rattle.replica_store.specs.Replica.{batch_limit}
use Rattle.column_file.specs.Ordered.{in_order}
use Rattle.table_model.specs.Name.{name_cmp, is_proper_name}
use Rattle.table_model.specs.Table.{Table}
use Rattle.table_model.specs.declared.names.BatchName.{BatchName}
use Rattle.table_model.specs.declared.refusal.Refusal.{Refusal}
use Rattle.table_model.specs.declared.refusal.Refusal.TheVariants.{BadMagic, BadVersion, BadName, BadOrder, BadCount}
use Rattle.table_model.specs.Reading.{◌>>=◌}
use Rattle.segment_core.specs.Format.{Format, IsLawful, seen, checked, before, all, number, constant, read_whole}
use Rattle.replica_store.specs.Exchange.{SummaryForm}
use Rattle.column_file.specs.SchemaBytes.{schema, version_of}

-- whether a number is one of the versions of all formats
abbrev pub is_version : ℕ → Bool
is_version n = n == 1 || n == 2

-- the version of all formats
unfoldable pub version : Format ℕ
version = checked (number 2) is_version (λ _. BadVersion)

-- whether what comes before and after a version fits: the table is written in that version
abbrev pub has_version : List ℕ × (ℕ × Table) → Bool
has_version p = p.1.0 == version_of p.1.1

-- What each format begins with: its own four bytes, the version and a schema in it. Whether the table is written in that version is judged
-- once the schema is there.
unfoldable pub head : List ℕ → Format Table
head magic =
    seen (checked (before (constant magic BadMagic) (λ _. before version schema)) has_version (λ _. BadVersion)) (λ p. p.1.1) (λ t. Some (magic, (version_of t, t)))

-- an origin and a number
unfoldable pub any_name : Format BatchName
any_name = seen (before (number 4) (λ _. number 4)) (λ p. record { origin = record { 0 = p.0 }; number = record { 0 = p.1 } }) (λ n. Some (n.origin.0, n.number.0))

-- a batch's name: its origin and its number, neither of them 0
unfoldable pub proper_name : Format BatchName
proper_name = checked any_name is_proper_name (λ _. BadName)

-- whether a name comes before another, by origin and then by number
abbrev pub precedes : BatchName → BatchName → Bool
precedes a b = nat_lt a.origin.0 b.origin.0 || (a.origin.0 == b.origin.0 && nat_lt a.number.0 b.number.0)

-- whether a name comes after the last of those before it, if there is one
abbrev pub is_after : List BatchName → BatchName → Bool
is_after front name = length front == 0 || precedes (slice_index_or front (length front - 1) name) name

-- a batch's name, after the names before it
unfoldable pub batch_name : List BatchName → Format BatchName
batch_name front = checked proper_name (is_after front) BadOrder

-- how many names there are: at most batch_limit
unfoldable pub name_count : Format ℕ
name_count = checked (number 4) (λ n. nat_le n batch_limit) BadCount

-- names in strictly ascending order
unfoldable pub names : Format (List BatchName)
names = seen (before name_count (λ n. all n batch_name)) (λ p. p.1) (λ found. Some (length found, found))

-- a summary: a schema and names
unfoldable pub summary : Format (Table × List BatchName)
summary = before (head (codes "FLSM")) (λ _. names)

-- the bytes of a summary: its names in ascending order
abbrev pub summary_bytes : SummaryForm → List ℕ
summary_bytes s = summary.spell (s.schema, in_order name_cmp s.names)

-- the summary of a schema and names
abbrev pub summary_listed : Table × List BatchName → SummaryForm
summary_listed p = record { schema = p.0; names = set.from_list p.1 }

-- the summary that bytes are, or their first fault
abbrev pub summary_read : List ℕ → Result SummaryForm Refusal
summary_read bytes = read_whole summary bytes >>= λ p. Ok (summary_listed p)

-- what is read of a summary is spelled so and valid, and what is valid and spelled so is read
abbrev pub SummariesComeBack : Type 0
SummariesComeBack = IsLawful summary
