-- The laws of shares: each batch and each deletion is in one of them, no two count a batch together, and joined they are the table.
use Rattle.std.specs.Prelude.{◌≡◌, ◌≤◌, ℕ, zero, suc, false, true, cond, ◌==◌, ◌&&◌, List, length, Result, Ok, Some, None}
use Rattle.std.specs.Ordering.{is_lt}
use Rattle.std.specs.FinMap as map
use Rattle.std.specs.FinSet as set
use Rattle.table_model.specs.Meaning.{answer_of}
use Rattle.table_model.specs.Name.{name_cmp}
use Rattle.table_model.specs.Query.{QueryShape}
use Rattle.table_model.specs.Reading.{◌>>=◌}
use Rattle.table_model.specs.State.{State}
use Rattle.table_model.specs.Table.{Table}
use Rattle.table_model.specs.declared.names.BatchName.{BatchName}
use Rattle.table_model.specs.declared.names.RowName.{RowName}
use Rattle.table_model.specs.declared.refusal.Refusal.{Refusal}
use Rattle.column_file.specs.Files.{canonical_file, opened_from, HasFile}
use Rattle.partial_answers.specs.Counted.{Counted, counted_of, gathered}
use Rattle.partial_answers.specs.PartialAnswer.{finish}
use Rattle.partial_answers.specs.PartialAnswerLaws.{Shards, One, Two, joined, AreApart}
use Rattle.replica_store.specs.Replica.{Replica, names_of, merged, batch_limit}
use Rattle.table_spread.specs.Spread.{run_of, share_at, share_of, share_in}

-- the shares from the first up to one, each joined to those before it
abbrev pub shares_up_to : List BatchName → State → ℕ → Shards
shares_up_to firsts s zero = One (share_of firsts 0 s)
shares_up_to firsts s (suc n) = Two (shares_up_to firsts s n) (One (share_of firsts (suc n) s))

-- the shares of a replica from the first up to one, merged one after another
abbrev pub merged_up_to : List BatchName → Replica → ℕ → Result Replica Refusal
merged_up_to firsts r zero = Ok (share_in firsts 0 r)
merged_up_to firsts r (suc n) = merged_up_to firsts r n >>= λ before. merged before (share_in firsts (suc n) r) >>= λ done. Ok done.1

-- what the files of the shares hold, from the first up to one, merged one after another
abbrev pub held_up_to : List BatchName → Table → State → ℕ → Result Replica Refusal
held_up_to firsts table s zero = opened_from (record { 0 = 1 }) (canonical_file table (share_of firsts 0 s))
held_up_to firsts table s (suc n) =
    held_up_to firsts table s n >>= λ before. opened_from (record { 0 = 1 }) (canonical_file table (share_of firsts (suc n) s)) >>= λ other. merged before other >>= λ done. Ok done.1

-- What a share has: each batch that goes to it, with all its rows, and each deletion of such a batch, whether the batch has the row or
-- not. A deletion of a batch that isn't held is in the first share. The batches of a share are a run: of two names the greater one goes
-- to no share before that of the lesser one.
pub record ShareLaws : Type 0 where
  pub batches : (firsts : List BatchName) (s : State) (index : ℕ) (name : BatchName) → map.get (share_of firsts index s).batches name ≡ cond (share_at firsts (names_of s.batches) name == index) (map.get s.batches name) None
  pub deletions : (firsts : List BatchName) (s : State) (index : ℕ) (row : RowName) → set.contains (share_of firsts index s).deleted row ≡ (share_at firsts (names_of s.batches) row.batch == index && set.contains s.deleted row)
  pub some_share : (firsts : List BatchName) (held : set.FinSet name_cmp) (name : BatchName) → share_at firsts held name ≤ length firsts
  pub runs : (firsts : List BatchName) (a b : BatchName) → is_lt (name_cmp b a) ≡ false → run_of firsts a ≤ run_of firsts b
  pub strays : (firsts : List BatchName) (s : State) (index : ℕ) (row : RowName) → set.contains (share_of firsts (suc index) s).deleted row ≡ true → map.contains_key (share_of firsts (suc index) s).batches row.batch ≡ true

-- Of as many shares as there are runs, or more: joined they are the state; each is apart from those before it; their partial answers are
-- combined without a refusal, and finished they are the answer of the state; merged one after another they are the replica; and what
-- their files hold is, merged so, what the file of the state holds, so that the merge writes that file.
pub record SpreadLaws : Type 0 where
  pub shares : ShareLaws
  pub whole : (firsts : List BatchName) (s : State) (n : ℕ) → length firsts ≤ n → joined (shares_up_to firsts s n) ≡ s
  pub apart : (firsts : List BatchName) (s : State) (n : ℕ) → AreApart (shares_up_to firsts s n)
  pub gathers : (table : Table) (query : QueryShape) (firsts : List BatchName) (s : State) (n : ℕ) → length firsts ≤ n → gathered table query (shares_up_to firsts s n) ≡ Some (counted_of table query s)
  pub answers : (table : Table) (query : QueryShape) (firsts : List BatchName) (s : State) (n : ℕ) (c : Counted) → length firsts ≤ n → gathered table query (shares_up_to firsts s n) ≡ Some c → finish table query c.partial ≡ answer_of table query s
  pub merges : (firsts : List BatchName) (r : Replica) (n : ℕ) → map.len r.state.batches ≤ batch_limit → length firsts ≤ n → merged_up_to firsts r n ≡ Ok r
  pub files : (firsts : List BatchName) (table : Table) (s : State) (n : ℕ) → map.len s.batches ≤ batch_limit → length firsts ≤ n → ((index : ℕ) → HasFile table (share_of firsts index s)) → held_up_to firsts table s n ≡ Ok (record { schema = table; own = record { 0 = 1 }; state = s })
