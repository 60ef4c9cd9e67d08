-- Partial answers that name the batches that they counted, so that partial answers of states that aren't apart are told from partial answers that may be combined.
use Rattle.std.specs.Prelude.{◌≡◌, ℕ, ◌≤◌, ◌*◌, ◌^◌, Bool, true, false, cond, ◌&&◌, not, map as each, Option, Some, None, ℤ, ◌*ℤ◌, pos, FitsSigned}
use Rattle.std.specs.Int.{w128}
use Rattle.std.specs.List.{list_all}
use Rattle.std.specs.FinMap as map
use Rattle.std.specs.FinSet as set
use Rattle.table_model.specs.Group.{IsWithin}
use Rattle.table_model.specs.Meaning.{answer_of}
use Rattle.table_model.specs.Name.{name_cmp}
use Rattle.table_model.specs.Query.{QueryShape}
use Rattle.table_model.specs.State.{State, Batch, join}
use Rattle.table_model.specs.Table.{Table}
use Rattle.table_model.specs.declared.names.BatchName.{BatchName}
use Rattle.table_model.specs.declared.names.RowName.{RowName}
use Rattle.partial_answers.specs.PartialAnswer.{PartialAnswer, partial_answer_of, combine, finish}
use Rattle.partial_answers.specs.PartialAnswerLaws.{Apart, Shards, One, Two, joined}

-- a set of names of batches
abbrev pub Names : Type 0
Names = set.FinSet name_cmp

-- a partial answer with the names of the batches that it counted, and of those that it doesn't hold but deletes rows of
pub record Counted : Type 0 where
  pub partial : PartialAnswer
  pub held : Names
  pub strays : Names

-- the names of a state's batches
unfoldable pub held_of : State → Names
held_of s = set.from_list (map.keys s.batches)

-- the names of batches of which a state deletes rows and which it doesn't hold
unfoldable pub strays_of : State → Names
strays_of s = set.difference (set.from_list (each (λ (row : RowName). row.batch) (set.items s.deleted))) (held_of s)

-- the partial answer of a state, with the names of the batches that it counts and those of its stray deletions
abbrev pub counted_of : Table → QueryShape → State → Counted
counted_of table query s = record { partial = partial_answer_of table query s; held = held_of s; strays = strays_of s }

-- no name is in both
unfoldable pub have_none_in_common : Names → Names → Bool
have_none_in_common s t = list_all (λ name. not (set.contains t name)) (set.items s)

-- two partial answers may be combined: no batch was counted in both, and neither deletes a row of a batch of the other
abbrev pub may_be_combined : Counted → Counted → Bool
may_be_combined p q = have_none_in_common p.held q.held && (have_none_in_common p.strays q.held && have_none_in_common q.strays p.held)

-- two partial answers combined, with the names of both
abbrev pub combined_with : Counted → Counted → Counted
combined_with p q = record { partial = combine p.partial q.partial; held = set.union p.held q.held; strays = set.union p.strays q.strays }

-- the combination of two partial answers, unless it is refused
abbrev pub if_apart : Option Counted → Option Counted → Option Counted
if_apart None q = None
if_apart (Some p) None = None
if_apart (Some p) (Some q) = cond (may_be_combined p q) (Some (combined_with p q)) None

-- the partial answers of some states combined in a tree, unless a combination is refused
abbrev pub gathered : Table → QueryShape → Shards → Option Counted
gathered table query (One s) = Some (counted_of table query s)
gathered table query (Two a b) = if_apart (gathered table query a) (gathered table query b)

-- how many rows may be counted in all
abbrev pub counted_row_limit : ℕ
counted_row_limit = 2 ^ 44

-- Partial answers that may be combined are of states that are apart, and their combination is the partial answer of the join, names and all; a batch in both
-- is refused, so that a partial answer isn't counted twice; whatever tree isn't refused has the answer of the states joined; and of up to 2^44
-- rows a sum, and its millionths, fit 128 bits.
pub record CountedLaws : Type 0 where
  pub apart : (table : Table) (query : QueryShape) (s t : State) → may_be_combined (counted_of table query s) (counted_of table query t) ≡ true → Apart s t
  pub counted : (table : Table) (query : QueryShape) (s t : State) → may_be_combined (counted_of table query s) (counted_of table query t) ≡ true → combined_with (counted_of table query s) (counted_of table query t) ≡ counted_of table query (join s t)
  pub shared : (table : Table) (query : QueryShape) (s t : State) (name : BatchName) (a b : Batch) → map.get s.batches name ≡ Some a → map.get t.batches name ≡ Some b → may_be_combined (counted_of table query s) (counted_of table query t) ≡ false
  pub gathers : (table : Table) (query : QueryShape) (shards : Shards) (c : Counted) → gathered table query shards ≡ Some c → c ≡ counted_of table query (joined shards)
  pub answers : (table : Table) (query : QueryShape) (shards : Shards) (c : Counted) → gathered table query shards ≡ Some c → finish table query c.partial ≡ answer_of table query (joined shards)
  pub sums : (n : ℕ) (z : ℤ) → n ≤ counted_row_limit → IsWithin (n * 2 ^ 63) z → FitsSigned w128 z × FitsSigned w128 (z *ℤ pos 1000000)
