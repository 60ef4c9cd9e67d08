-- Imports: batches of rows that wait for their names, and what they make of a replica under consecutive names.
use Rattle.std.specs.Prelude.{◌≡◌, ℕ, ◌+◌, ◌-◌, ◌/◌, ◌%◌, ◌≤◌, Bool, false, cond, not, ◌&&◌, ◌==◌, nat_le, nat_lt, List, [], ◌∷◌, ◌++◌, filter, length, map as each, Option, Some, None, Result, Ok, Err, IsTrue, refl}
use Rattle.std.specs.Coded.{Coded, code_by, coded×, coded_list}
use Rattle.std.specs.FinMap as map
use Rattle.std.specs.FinSet as set
use Rattle.std.specs.List.{All, list_all}
use Rattle.table_model.specs.Name.{is_proper_name, row_name_cmp}
use Rattle.table_model.specs.Reading.{◌>>=◌}
use Rattle.table_model.specs.State.{State, Batch, Cells, coded_batch, named_from}
use Rattle.table_model.specs.Table.{Table, IsBatch, coded_table, rows_fault}
use Rattle.table_model.specs.declared.names.BatchName.{BatchName}
use Rattle.table_model.specs.declared.names.RowName.{RowName}
use Rattle.table_model.specs.declared.refusal.Refusal.{Refusal}
use Rattle.table_model.specs.declared.refusal.Refusal.TheVariants.{BadName, NumbersSpent, Full}
use Rattle.catalogue_join.specs.RowRange.{RowRange, AreMaximal, rows_in}
use Rattle.catalogue_join.specs.Run.{name_at}
use Rattle.segment_core.specs.Segment.{SegmentForm, widths_in, widths_of}
use Rattle.replica_store.specs.Forgets.{row_count}
use Rattle.replica_store.specs.Replica.{Replica, batch_limit, merged, unless_fault}
use Rattle.column_file.specs.Files.{ranges_of}
use Rattle.replica_changes.specs.Commands.{Made}
use Rattle.replica_changes.specs.declared.importing.Imported.{Imported}

-- batches of a table's rows that wait for their names
pub record LoadForm : Type 0 where
  pub schema : Table
  pub batches : List Batch

-- a load by its parts
abbrev pub coded_load : Coded LoadForm
coded_load = code_by (Table × List Batch) (coded× coded_table (coded_list coded_batch)) (λ l. (l.schema, l.batches)) (λ p. record { schema = p.0; batches = p.1 }) (λ _. refl)

-- the rows of segments
abbrev pub batches_in : List SegmentForm → List Batch
batches_in segments = each (λ (s : SegmentForm). s.rows) segments

-- a segment that a store of the table may hold under a proper name
pub record IsLoaded (table : Table) (s : SegmentForm) : Type 0 where
  pub fits : IsBatch table s.rows
  pub widths : widths_in s.forms ≡ widths_of table

-- what is always true of a load: not more batches than a replica may have, and a store may hold each
pub record IsLoad (table : Table) (segments : List SegmentForm) : Type 0 where
  pub limit : length segments ≤ batch_limit
  pub loaded : All (IsLoaded table) segments

-- things under consecutive names of an origin, the first having the number n
abbrev pub numbered_from : {X : Type 0} → BatchName → ℕ → List X → List (BatchName × X)
numbered_from first n [] = []
numbered_from first n (x ∷ xs) = (name_at first.origin n, x) ∷ numbered_from first (n + 1) xs

-- batches under consecutive names from a first one on
abbrev pub named_batches : {X : Type 0} → BatchName → List X → List (BatchName × X)
named_batches first xs = numbered_from first first.number.0 xs

-- entries with the rows of their segments
abbrev pub named_entries : List (BatchName × SegmentForm) → List (BatchName × Batch)
named_entries entries = each (λ (e : BatchName × SegmentForm). let named : BatchName × Batch = (e.0, e.1.rows) in named) entries

-- the load without batches
abbrev pub empty_load : Table → LoadForm
empty_load table = record { schema = table; batches = [] }

-- the load with one more batch, or the refusal of its rows
abbrev pub added_batch : LoadForm → Batch → Result (Unit {0} × LoadForm) Refusal
added_batch load rows =
    unless_fault (rows_fault load.schema rows) (cond (nat_lt (length load.batches) batch_limit) (Ok (tt, record { schema = load.schema; batches = load.batches ++ (rows ∷ []) })) (Err Full))

-- whether a name is one of a number of consecutive names from a first one on
abbrev pub is_one_of : BatchName → ℕ → BatchName → Bool
is_one_of first count name = name.origin.0 == first.origin.0 && (nat_le first.number.0 name.number.0 && nat_lt name.number.0 (first.number.0 + count))

-- a number of consecutive names from a first one on are proper, and none of them is held or has a deleted row
pub record AreFree (s : State) (first : BatchName) (count : ℕ) : Type 0 where
  pub proper : IsTrue (is_proper_name first)
  pub last : first.number.0 + count ≤ 4294967296
  pub held : (name : BatchName) → IsTrue (is_one_of first count name) → map.get s.batches name ≡ None
  pub deleted : (row : RowName) → IsTrue (is_one_of first count row.batch) → set.contains s.deleted row ≡ false

-- The replica that has a load's batches under consecutive names from a first one on, and no deletion; it has the own origin of
-- another, which is no matter.
abbrev pub loaded : Replica → LoadForm → BatchName → Replica
loaded r load first = record { schema = load.schema; own = r.own; state = record { batches = map.from_entries (named_batches first load.batches); deleted = set.empty } }

-- The first of a number of consecutive names: one that isn't proper is refused, unless there is no batch, and so are numbers past the
-- greatest.
unfoldable pub first_name : BatchName → ℕ → Result BatchName Refusal
first_name first count =
    cond (count == 0) (Ok first) (cond (is_proper_name first) (cond (nat_le (first.number.0 + count) 4294967296) (Ok first) (Err NumbersSpent)) (Err BadName))

-- the name of a random word: its high 32 bits are the origin, and its low 31 bits, with 1 added, the number
abbrev pub named_by : ℕ → BatchName
named_by word = record { origin = record { 0 = word / 4294967296 }; number = record { 0 = word % 2147483648 + 1 } }

-- whether a number of consecutive names from a first one on are proper, and none of them is held or has a deleted row
unfoldable pub is_free : State → BatchName → ℕ → Bool
is_free s first count =
    is_proper_name first && (nat_le (first.number.0 + count) 4294967296
    && (list_all (λ (e : BatchName × Batch). not (is_one_of first count e.0)) (map.entries s.batches)
    && list_all (λ (range : RowRange). not (is_one_of first count range.0.batch)) (ranges_of s.deleted)))

-- the name of the first of some words from which that number of names are free
abbrev pub first_free : State → ℕ → List ℕ → Option BatchName
first_free s count [] = None
first_free s count (word ∷ words) = cond (is_free s (named_by word) count) (Some (named_by word)) (first_free s count words)

-- a name that was found, or that none is left
abbrev pub or_spent : Option BatchName → Result BatchName Refusal
or_spent (Some name) = Ok name
or_spent None = Err NumbersSpent

-- the first name of an import of a number of batches: the one that is given, or that of the first of some words from which they are free
unfoldable pub chosen_name : State → Option BatchName → List ℕ → ℕ → Result BatchName Refusal
chosen_name s (Some name) words count = first_name name count
chosen_name s None words count = or_spent (first_free s count words)

-- how many batches of a replica are new since an earlier one
abbrev pub new_since : Replica → Replica → ℕ
new_since old new = map.len new.state.batches - map.len old.state.batches

-- the first name of a number of batches, if there is a batch
abbrev pub name_of_some : ℕ → BatchName → Option BatchName
name_of_some count name = cond (count == 0) None (Some name)

-- how many rows of batches under their names are deleted
abbrev pub deleted_among : set.FinSet row_name_cmp → List (BatchName × Batch) → ℕ
deleted_among deleted [] = 0
deleted_among deleted (e ∷ es) = length (filter (λ (row : RowName × Cells). set.contains deleted row.0) (named_from e.0 0 e.1)) + deleted_among deleted es

-- what an import of a load under this first name is answered
abbrev pub imported_as : LoadForm → BatchName → Replica → Replica → Imported
imported_as load name old new =
    record {
      batches = length load.batches;
      new = new_since old new;
      rows = row_count load.batches;
      deleted = deleted_among old.state.deleted (named_batches name load.batches);
      first = name_of_some (length load.batches) name;
    }

-- a load comes under consecutive names from a first one on, as by a merge with a replica that has it
abbrev pub importing_as : LoadForm → BatchName → Replica → Made Imported
importing_as load name r = merged r (loaded r load name) >>= λ done. Ok (imported_as load name r done.1, done.1)

-- import: a load comes under the name that is given, or under one of random words
abbrev pub importing : LoadForm → Option BatchName → List ℕ → Replica → Made Imported
importing load given words r = chosen_name r.state given words (length load.batches) >>= λ name. importing_as load name r

-- names that random words give are free
abbrev pub DrawnNamesAreFree : Type 0
DrawnNamesAreFree =
    (s : State) (ranges : List RowRange) (count : ℕ) (words : List ℕ) (name : BatchName) →
    AreMaximal ranges → rows_in ranges ≡ s.deleted → first_free s count words ≡ Some name → AreFree s name count
