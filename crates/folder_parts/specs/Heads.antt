-- The head of a part: its schema and how many batches it has.
use Rattle.std.specs.Prelude.{◌≡◌, ◌==◌, ◌||◌, ℕ, ◌+◌, List, length, take, codes, Result, Ok, Err, cond, nat_le}
use Rattle.std.specs.List.{sum}
use Rattle.table_model.specs.Reading.{◌>>=◌}
use Rattle.table_model.specs.Table.{Table}
use Rattle.table_model.specs.declared.refusal.Refusal.{Refusal}
use Rattle.table_model.specs.declared.refusal.Refusal.TheVariants.{Full}
use Rattle.segment_core.specs.Format.{Format, AreBytes, before}
use Rattle.column_file.specs.SummaryBytes.{head, name_count}
use Rattle.replica_store.specs.Replica.{batch_limit}

-- what a container begins with: its schema, and how many batches it has
abbrev pub front : Format (Table × ℕ)
front = before (head (codes "FLCF")) (λ _. name_count)

-- the schema and the number of batches at the front of bytes, or the first fault
abbrev pub head_in : List ℕ → Result (Table × ℕ) Refusal
head_in bytes = front.read (length bytes) bytes >>= λ found. Ok found.0

-- The head of a part is read of its first bytes alone, if they are this many.
abbrev pub HeadsAreAhead : ℕ → Type 0
HeadsAreAhead count = (bytes : List ℕ) (found : Table × ℕ) → AreBytes bytes → head_in bytes ≡ Ok found → head_in (take count bytes) ≡ Ok found

-- whether parts with these numbers of batches have room for new ones: for none always, else where all are not too many
abbrev pub room_for : List ℕ → ℕ → Result (Unit {0}) Refusal
room_for batches new = cond (new == 0 || nat_le (new + sum batches) batch_limit) (Ok tt) (Err Full)
