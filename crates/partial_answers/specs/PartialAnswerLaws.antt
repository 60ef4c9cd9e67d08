-- The laws of partial answers.
use Rattle.std.specs.Prelude.{◌≡◌, ℕ, true, fold, Some}
use Rattle.std.specs.FinMap as map
use Rattle.std.specs.FinSet as set
use Rattle.table_model.specs.Meaning.{answer_of}
use Rattle.table_model.specs.Query.{QueryShape}
use Rattle.table_model.specs.State.{State, Batch, join, empty_state}
use Rattle.table_model.specs.Table.{Table}
use Rattle.table_model.specs.declared.names.BatchName.{BatchName}
use Rattle.partial_answers.specs.PartialAnswer.{PartialAnswer, taken_in, partial_answer_of, combine, finish}

-- no row of a batch that the first has is deleted by the second and not by itself
abbrev pub LeavesAlone : State → State → Type 0
LeavesAlone s t = (name : BatchName) (rows : Batch) (n : ℕ) → map.get s.batches name ≡ Some rows → set.contains t.deleted (record { batch = name; ordinal = n }) ≡ true → set.contains s.deleted (record { batch = name; ordinal = n }) ≡ true

-- two states are apart: no batch name is in both, and neither deletes a row of the other that is live there
pub record Apart (s t : State) : Type 0 where
  pub names : (name : BatchName) (a b : Batch) → map.get s.batches name ≡ Some a → map.get t.batches name ≡ Some b → ⊥
  pub first : LeavesAlone s t
  pub second : LeavesAlone t s

-- states joined, or partial answers combined, in any order and with any bracketing
pub data Shards : Type 0 where
  One : State → Shards
  Two : Shards → Shards → Shards

-- the state that the states of a tree are joined to
abbrev pub joined : Shards → State
joined (One s) = s
joined (Two a b) = join (joined a) (joined b)

-- the partial answer that the partial answers of a tree are combined to
abbrev pub combined : Table → QueryShape → Shards → PartialAnswer
combined table query (One s) = partial_answer_of table query s
combined table query (Two a b) = combine (combined table query a) (combined table query b)

-- each two that are joined are apart
abbrev pub AreApart : Shards → Type 0
AreApart (One s) = Unit {0}
AreApart (Two a b) = AreApart a × AreApart b × Apart (joined a) (joined b)

-- Combining is commutative and associative, of whatever partial answers, and takes in group by group; the partial answer of the empty state changes no partial answer of the same query; a partial answer's
-- answer is the state's; the partial answer of a join of states that are apart is their partial answers combined; and so for any tree of such states.
pub record PartialAnswerLaws : Type 0 where
  pub commutative : (p q : PartialAnswer) → combine p q ≡ combine q p
  pub associative : (p q r : PartialAnswer) → combine (combine p q) r ≡ combine p (combine q r)
  pub in_turn : (p q : PartialAnswer) → fold taken_in p (map.entries q) ≡ combine p q
  pub nothing : (table : Table) (query : QueryShape) (s : State) → combine (partial_answer_of table query empty_state) (partial_answer_of table query s) ≡ partial_answer_of table query s
  pub alone : (table : Table) (query : QueryShape) (s : State) → finish table query (partial_answer_of table query s) ≡ answer_of table query s
  pub partials : (table : Table) (query : QueryShape) (s t : State) → Apart s t → partial_answer_of table query (join s t) ≡ combine (partial_answer_of table query s) (partial_answer_of table query t)
  pub whole : (table : Table) (query : QueryShape) (s t : State) → Apart s t → answer_of table query (join s t) ≡ finish table query (combine (partial_answer_of table query s) (partial_answer_of table query t))
  pub together : (r s t : State) → Apart r t → Apart s t → Apart (join r s) t
  pub trees : (table : Table) (query : QueryShape) (shards : Shards) → AreApart shards → answer_of table query (joined shards) ≡ finish table query (combined table query shards)
