-- A replica as its callers see it, and what each call makes of it: a table's schema, an own origin and a state.
use Rattle.std.specs.Prelude.{◌≡◌, ◌↔◌, ℕ, ◌+◌, ◌/◌, ◌≤◌, max, Bool, false, not, cond, ◌&&◌, ◌==◌, nat_lt, List, [], ◌∷◌, length, Option, Some, None, Result, Ok, Err, T, IsTrue, refl}
use Rattle.std.specs.Coded.{Coded, code_by, coded×, coded_ℕ}
use Rattle.std.specs.FinMap as map
use Rattle.std.specs.FinSet as set
use Rattle.std.specs.List.{list_all}
use Rattle.table_model.specs.Name.{name_cmp, is_proper_name}
use Rattle.table_model.specs.State.{State, Batch, coded_state, empty_state, union_of, join, same_rows}
use Rattle.table_model.specs.Table.{Table, coded_table, rows_fault, same_table, IsBatch}
pub use Rattle.catalogue_join.specs.RowRange.{row_names, rows_between}
use Rattle.table_model.specs.declared.names.Origin.{Origin}
use Rattle.table_model.specs.declared.names.BatchName.{BatchName}
use Rattle.table_model.specs.declared.names.RowName.{RowName}
use Rattle.table_model.specs.declared.refusal.Refusal.{Refusal}
use Rattle.table_model.specs.declared.refusal.Refusal.TheVariants.{Conflict, Full, SchemaDiffers, NumbersSpent, NoSuchVector, BadName, BadRange}
use Rattle.replica_store.specs.declared.inserted.Inserted.{Inserted}
use Rattle.replica_store.specs.declared.inserted.Inserted.TheVariants.{New, Already}

-- a replica: its table's schema, the origin of the batches that it appends, and its state
pub record Replica : Type 0 where
  pub schema : Table
  pub own : Origin
  pub state : State

-- an origin by its number
abbrev pub coded_origin : Coded Origin
coded_origin = code_by ℕ coded_ℕ (λ o. o.0) (λ n. record { 0 = n }) (λ _. refl)

-- a replica by its schema, its own origin and its state
abbrev pub coded_replica : Coded Replica
coded_replica = code_by (Table × (Origin × State)) (coded× coded_table (coded× coded_origin coded_state)) (λ r. (r.schema, (r.own, r.state))) (λ p. record { schema = p.0; own = p.1.0; state = p.1.1 }) (λ _. refl)

-- a new replica has no batch and no deletion; its own origin is at least 1
abbrev pub new_replica : Table → Origin → Result Replica Refusal
new_replica table own = cond (own.0 == 0) (Err BadName) (Ok (record { schema = table; own = own; state = empty_state }))

-- the batches of a replica, in ascending order of name
abbrev pub entries_of : Replica → List (BatchName × Batch)
entries_of r = map.entries r.state.batches

-- the names of the batches of a map
unfoldable pub names_of : {X : Type 0} → map.FinMap name_cmp X → set.FinSet name_cmp
names_of m = set.from_list (map.keys m)

-- whether a replica holds a batch
abbrev pub holds : Replica → BatchName → Bool
holds r name = set.contains (names_of r.state.batches) name

-- entries in ascending order of name, with the set of their names
pub record AreKept {X : Type 0} (es : List (BatchName × X)) (held : set.FinSet name_cmp) : Type 0 where
  pub sorted : T (map.is_sorted name_cmp es)
  pub names : held ≡ names_of (map.from_sorted es)

-- how many batches a replica may have
abbrev pub batch_limit : ℕ
batch_limit = 1048576

-- the replica with one more batch
abbrev pub with_batch : Replica → BatchName → Batch → Replica
with_batch r name rows = record { schema = r.schema; own = r.own; state = record { batches = map.insert r.state.batches name rows; deleted = r.state.deleted } }

-- a batch that a replica may have: its name is proper, and its rows fit the schema
pub record IsEntry (table : Table) (e : BatchName × Batch) : Type 0 where
  pub proper : IsTrue (is_proper_name e.0)
  pub fits : IsBatch table e.1

-- each batch has a proper name, and rows that fit the schema
abbrev pub AllFit : Table → List (BatchName × Batch) → Type 0
AllFit table [] = Unit {0}
AllFit table (e ∷ es) = IsEntry table e × AllFit table es

-- a replica is within the limits: not too many batches, and each has a proper name and rows that fit the schema
pub record IsWithinLimits (table : Table) (batches : map.FinMap name_cmp Batch) : Type 0 where
  pub limit : map.len batches ≤ batch_limit
  pub fits : AllFit table (map.entries batches)

-- what is always true of a replica: its own origin is at least 1, and it is within the limits
pub record IsSound (table : Table) (own : Origin) (batches : map.FinMap name_cmp Batch) : Type 0 where
  pub own_proper : (own.0 == 0) ≡ false
  pub within : IsWithinLimits table batches

-- the refusal where there is a fault, else what follows
abbrev pub unless_fault : {X : Type 0} → Option Refusal → Result X Refusal → Result X Refusal
unless_fault None next = next
unless_fault (Some fault) next = Err fault

-- the greatest number that is held of an origin, or 0
abbrev pub greatest_number : {X : Type 0} → Origin → List (BatchName × X) → ℕ
greatest_number own [] = 0
greatest_number own (e ∷ es) = max (cond (e.0.origin.0 == own.0) e.0.number.0 0) (greatest_number own es)

-- a batch goes in under a name that isn't held, where there is room for one more
abbrev pub where_room : {X : Type 0} → Replica → X → Result X Refusal
where_room r answer = cond (nat_lt (map.len r.state.batches) batch_limit) (Ok answer) (Err Full)

-- what a call that decided on a batch answers and makes
abbrev pub then_added : Replica → Batch → Result BatchName Refusal → Result (BatchName × Replica) Refusal
then_added r rows (Ok name) = Ok (name, with_batch r name rows)
then_added r rows (Err e) = Err e

-- the own origin with this number
abbrev pub own_name : Replica → ℕ → BatchName
own_name r n = record { origin = r.own; number = record { 0 = n } }

-- the name after the greatest number held, where a number and room are left
abbrev pub number_after : Replica → ℕ → Result BatchName Refusal
number_after r n = cond (n == 4294967295) (Err NumbersSpent) (where_room r (own_name r (n + 1)))

-- the name that an append gives the rows: the own origin with one more than the greatest number that is held of it, else 1
unfoldable pub next_name : Replica → Batch → Result BatchName Refusal
next_name r rows = unless_fault (rows_fault r.schema rows) (number_after r (greatest_number r.own (entries_of r)))

-- append: the rows come under that name
abbrev pub appended : Replica → Batch → Result (BatchName × Replica) Refusal
appended r rows = then_added r rows (next_name r rows)

-- whether rows are new under a name, given what is held there
abbrev pub place_beside : Replica → BatchName → Batch → Option Batch → Result Inserted Refusal
place_beside r name rows None = where_room r New
place_beside r name rows (Some held) = cond (same_rows held rows) (Ok Already) (Err (Conflict name))

-- whether the rows are new under a name, or held already
unfoldable pub place_for : Replica → BatchName → Batch → Result Inserted Refusal
place_for r name rows = unless_fault (rows_fault r.schema rows) (cond (is_proper_name name) (place_beside r name rows (map.get r.state.batches name)) (Err BadName))

-- what an insert answers and makes once its place is known
abbrev pub then_placed : Replica → BatchName → Batch → Result Inserted Refusal → Result (Inserted × Replica) Refusal
then_placed r name rows (Ok New) = Ok (New, with_batch r name rows)
then_placed r name rows (Ok Already) = Ok (Already, r)
then_placed r name rows (Err e) = Err e

-- insert: the rows come under a given name, unless it has them already, or has other rows
abbrev pub inserted : Replica → BatchName → Batch → Result (Inserted × Replica) Refusal
inserted r name rows = then_placed r name rows (place_for r name rows)

-- the replica with these rows deleted, held or not
abbrev pub with_deleted : Replica → List RowName → Replica
with_deleted r rows = record { schema = r.schema; own = r.own; state = record { batches = r.state.batches; deleted = set.union r.state.deleted (set.from_list rows) } }

-- why a delete is refused: the name of the batch isn't proper, or the range ends before it begins
unfoldable pub delete_fault : RowName → ℕ → Option Refusal
delete_fault first last = cond (is_proper_name first.batch) (cond (nat_lt last first.ordinal) (Some (BadRange 0)) None) (Some BadName)

-- delete: the ordinals of a batch from the first's to the last are deleted
abbrev pub deleted_rows : Replica → RowName → ℕ → Result (Unit {0} × Replica) Refusal
deleted_rows r first last = unless_fault (delete_fault first last) (Ok (tt, with_deleted r (rows_between first last)))

-- why a delete of some rows is refused: the name of one's batch isn't proper
unfoldable pub names_fault : List RowName → Option Refusal
names_fault rows = cond (list_all (λ row. is_proper_name row.batch) rows) None (Some BadName)

-- a delete of some rows, held or not: all of them are deleted
abbrev pub deleted_names : Replica → List RowName → Result (Unit {0} × Replica) Refusal
deleted_names r rows = unless_fault (names_fault rows) (Ok (tt, with_deleted r rows))

-- how many vectors rows take
abbrev pub vectors_of : Batch → ℕ
vectors_of rows = (length rows + 1023) / 1024

-- whether a batch has a column's vector
abbrev pub has_vector : Replica → ℕ → ℕ → Option Batch → Bool
has_vector r column vector None = false
has_vector r column vector (Some rows) = nat_lt column (length r.schema.columns) && nat_lt vector (vectors_of rows)

-- why a vector isn't put into another coding: there is no such batch, or it has no such column or vector
unfoldable pub recode_fault : Replica → BatchName → ℕ → ℕ → Option Refusal
recode_fault r name column vector = cond (has_vector r column vector (map.get r.state.batches name)) None (Some NoSuchVector)

-- recode: the replica stays as it is
abbrev pub recoded_rows : Replica → BatchName → ℕ → ℕ → Result (Unit {0} × Replica) Refusal
recoded_rows r name column vector = unless_fault (recode_fault r name column vector) (Ok (tt, r))

-- whether a batch that is held has other rows
abbrev pub differs : Option Batch → Batch → Bool
differs None rows = false
differs (Some held) rows = not (same_rows held rows)

-- the batches of the list whose names are not in the set
abbrev pub lacked_by : {X : Type 0} → set.FinSet name_cmp → List (BatchName × X) → List (BatchName × X)
lacked_by names [] = []
lacked_by names (e ∷ es) = cond (set.contains names e.0) (lacked_by names es) (e ∷ lacked_by names es)

-- the first name of the list that has other rows in the map
abbrev pub conflict_with : map.FinMap name_cmp Batch → List (BatchName × Batch) → Option BatchName
conflict_with ours [] = None
conflict_with ours (e ∷ es) = cond (differs (map.get ours e.0) e.1) (Some e.0) (conflict_with ours es)

-- why two replicas don't merge: they conflict, or have too many batches together
abbrev pub conflict_or_full : Replica → Replica → Option BatchName → Option Refusal
conflict_or_full r other (Some name) = Some (Conflict name)
conflict_or_full r other None = cond (nat_lt batch_limit (map.len (union_of r.state.batches other.state.batches))) (Some Full) None

-- why a merge is refused: the schemas differ, a name has two lists of rows, or there are too many batches
unfoldable pub merge_fault : Replica → Replica → Option Refusal
merge_fault r other = cond (same_table r.schema other.schema) (conflict_or_full r other (conflict_with r.state.batches (entries_of other))) (Some SchemaDiffers)

-- a replica of a table with these batches and no deletion, of some own origin
abbrev pub replica_with : Table → map.FinMap name_cmp Batch → Replica
replica_with table batches = record { schema = table; own = record { 0 = 1 }; state = record { batches = batches; deleted = set.empty } }

-- the replica with the join of its state and another
abbrev pub joined_with : Replica → State → Replica
joined_with r s = record { schema = r.schema; own = r.own; state = join r.state s }

-- the replica with the join of both states
abbrev pub with_join : Replica → Replica → Replica
with_join r other = joined_with r other.state

-- merge: the state becomes the join
abbrev pub merged : Replica → Replica → Result (Unit {0} × Replica) Refusal
merged r other = unless_fault (merge_fault r other) (Ok (tt, with_join r other))

-- a call says whether the replica differs from before, and says so exactly
abbrev pub SaysChange : Bool → Replica → Replica → Type 0
SaysChange changed old new = (changed ≡ false) ↔ (new ≡ old)
