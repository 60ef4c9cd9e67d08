-- A store: a replica, and with it the segments that its batches lie in, which have their codings.
use Rattle.std.specs.Prelude.{◌≡◌, ◌⊎◌, ◌&&◌, Bool, T, IsTrue, is_some, nat_lt, slice_get, ℕ, cond, List, [], ◌∷◌, length, slice_set, Option, Some, None, Result, Ok, Err, refl}
use Rattle.std.specs.Coded.{Coded, code_by, coded×}
use Rattle.std.specs.FinMap as map
use Rattle.std.specs.FinSet as set
use Rattle.table_model.specs.Name.{name_cmp, coded_name, is_proper_name}
use Rattle.table_model.specs.Outcome.{Acts}
use Rattle.table_model.specs.State.{Batch}
use Rattle.table_model.specs.declared.names.BatchName.{BatchName}
use Rattle.table_model.specs.declared.names.Origin.{Origin}
use Rattle.table_model.specs.declared.refusal.Refusal.{Refusal}
use Rattle.table_model.specs.declared.refusal.Refusal.TheVariants.{NoSuchVector}
use Rattle.table_model.specs.Table.{Table, IsBatch}
use Rattle.segment_core.specs.Segment.{SegmentForm, recoded, vector_at, widths_in, widths_of}
use Rattle.segment_core.specs.declared.coding.Coding.{Coding}
use Rattle.segment_core.specs.SegmentCode.{coded_segment}
use Rattle.replica_store.specs.Replica.{Replica, coded_replica, coded_origin, differs, lacked_by, names_of, vectors_of, IsSound}

-- a batch's segment with its name
abbrev pub Entry : Type 0
Entry = BatchName × SegmentForm

-- the segments of batches, by name
abbrev pub Segments : Type 0
Segments = map.FinMap name_cmp SegmentForm

-- the rows of segments
abbrev pub rows_entries : List Entry → List (BatchName × Batch)
rows_entries [] = []
rows_entries (e ∷ es) = (e.0, e.1.rows) ∷ rows_entries es

-- the rows of each segment of a map
unfoldable pub rows_in : Segments → map.FinMap name_cmp Batch
rows_in segments = map.from_sorted (rows_entries (map.entries segments))

-- a store: a replica, and the segments of its batches, whose rows are the batches of its state
pub record StoreForm : Type 0 where
  pub replica : Replica
  pub segments : Segments

-- a store by its parts
abbrev pub coded_store : Coded StoreForm
coded_store = code_by (Replica × Segments) (coded× coded_replica (map.code coded_name coded_segment)) (λ s. (s.replica, s.segments)) (λ p. record { replica = p.0; segments = p.1 }) (λ _. refl)

-- the batches that a store keeps: the own origin that parts them, and the segments by name
pub record BatchesForm : Type 0 where
  pub own : Origin
  pub segments : Segments

-- batches by their parts
abbrev pub coded_batches : Coded BatchesForm
coded_batches = code_by (Origin × Segments) (coded× coded_origin (map.code coded_name coded_segment)) (λ b. (b.own, b.segments)) (λ p. record { own = p.0; segments = p.1 }) (λ _. refl)

-- a batch's name is proper
abbrev pub HasProperName : Entry → Type 0
HasProperName e = IsTrue (is_proper_name e.0)

-- a batch that a store of a table may hold: its name is proper, its rows fit the schema, and each column lies in lanes as wide as its type
pub record IsStored (table : Table) (e : Entry) : Type 0 where
  pub proper : IsTrue (is_proper_name e.0)
  pub fits : IsBatch table e.1.rows
  pub widths : widths_in e.1.forms ≡ widths_of table

-- a store of the table may hold each of the batches
abbrev pub AreStored : Table → Segments → Type 0
AreStored table segments = (name : BatchName) (s : SegmentForm) → map.get segments name ≡ Some s → IsStored table (name, s)

-- what is always true of a store: its own origin is at least 1, it is within the limits, it may hold each of its batches, and these are parted by its own origin
pub record IsSoundStore (table : Table) (own : Origin) (batches : BatchesForm) : Type 0 where
  pub sound : IsSound table own (rows_in batches.segments)
  pub stored : AreStored table batches.segments
  pub parted : batches.own ≡ own

-- entries are those of others, in ascending order, whose names the segments don't have
pub record AreLackedOf (held : Segments) (others fresh : List Entry) : Type 0 where
  pub sorted : T (map.is_sorted name_cmp others)
  pub lacked : fresh ≡ lacked_by (names_of held) others

-- entries are those of some batches with these names, in ascending order, that the segments don't have
abbrev pub AreFresh : Segments → List Entry → set.FinSet name_cmp → Type 0
AreFresh held fresh names = (others : List Entry) × AreLackedOf held others fresh × (names ≡ names_of (map.from_sorted others))

-- a segment that was looked for, with a vector in another coding
abbrev pub recoded_held : Option SegmentForm → ℕ → ℕ → Coding → Result (Unit {0} × SegmentForm) Refusal
recoded_held None column vector coding = Err NoSuchVector
recoded_held (Some s) column vector coding = recoded s column vector coding

-- the segments with what a call made of one put under its name
abbrev pub put_under : Segments → BatchName → Result (Unit {0} × SegmentForm) Refusal → Result (Unit {0} × Segments) Refusal
put_under segments name (Ok made) = Ok (tt, map.insert segments name made.1)
put_under segments name (Err e) = Err e

-- the segments with the least form of a coding in the place of one vector
unfoldable pub recoded_in : Segments → BatchName → ℕ → ℕ → Coding → Result (Unit {0} × Segments) Refusal
recoded_in segments name column vector coding = put_under segments name (recoded_held (map.get segments name) column vector coding)

-- the first of the segments whose rows differ from those held under its name
abbrev pub conflict_in : map.FinMap name_cmp Batch → List Entry → Option BatchName
conflict_in ours [] = None
conflict_in ours (e ∷ es) = cond (differs (map.get ours e.0) e.1.rows) (Some e.0) (conflict_in ours es)

-- the entry at a place has this name
abbrev pub HoldsAt : List Entry → BatchName → ℕ → Type 0
HoldsAt es name at = (s : SegmentForm) × (slice_get es at ≡ Some (name, s))

-- the entries after a vector of the segment under a name was to be put into another coding
abbrev pub RecodesEntries : List Entry → List Entry → Result (Unit {0}) Refusal → BatchName → ℕ → ℕ → Coding → Type 0
RecodesEntries old new result name column vector coding =
    ((map.find name_cmp name old ≡ None) × (result ≡ Err NoSuchVector) × (new ≡ old)) ⊎
    ((at : ℕ) × (s made : SegmentForm) × (slice_get old at ≡ Some (name, s)) × (new ≡ slice_set old at (name, made)) × (made.rows ≡ s.rows) × (widths_in made.forms ≡ widths_in s.forms) × Acts (λ done. done) s result made (recoded s column vector coding))

-- the test tells whether a segment has a vector at a place of a column: as many columns as its rows have cells, and a vector for each 1024 rows
pub record HasVector (s : SegmentForm) (column vector : ℕ) (test : Bool) : Type 0 where
  pub found : is_some (vector_at s.forms column vector) ≡ test
  pub columns : (table : Table) → IsBatch table s.rows → test ≡ (nat_lt column (length table.columns) && nat_lt vector (vectors_of s.rows))
