-- Operations: what replicas take, in any order and with repeats, and the state that a set of them makes.
use Rattle.std.specs.Prelude.{◌≡◌, ◌⊎◌, ◌↔◌, List, [], ◌∷◌, ◌++◌, map}
use Rattle.std.specs.FinMap as map
use Rattle.std.specs.FinSet as set
use Rattle.table_model.specs.State.{State, Batch}
use Rattle.table_model.specs.declared.names.BatchName.{BatchName}
use Rattle.table_model.specs.declared.names.RowName.{RowName}

-- a batch of rows comes under a name, or a row is deleted
pub data Operation : Type 0 where
  Insert : BatchName → Batch → Operation
  Delete : RowName → Operation

-- the operation is one of the list
abbrev pub Among : Operation → List Operation → Type 0
Among op [] = ⊥
Among op (x ∷ xs) = (op ≡ x) ⊎ Among op xs

-- no batch name has two lists of rows
abbrev pub AreAgreeing : List Operation → Type 0
AreAgreeing ops = (name : BatchName) (a b : Batch) → Among (Insert name a) ops → Among (Insert name b) ops → a ≡ b

-- two lists have the same operations: they are the same set
abbrev pub SameOperations : List Operation → List Operation → Type 0
SameOperations ops others = (op : Operation) → Among op ops ↔ Among op others

-- the batches that come
abbrev pub inserts_of : List Operation → List (BatchName × Batch)
inserts_of [] = []
inserts_of (Insert name rows ∷ ops) = (name, rows) ∷ inserts_of ops
inserts_of (Delete row ∷ ops) = inserts_of ops

-- the rows that are deleted
abbrev pub deletes_of : List Operation → List RowName
deletes_of [] = []
deletes_of (Insert name rows ∷ ops) = deletes_of ops
deletes_of (Delete row ∷ ops) = row ∷ deletes_of ops

-- the state of a set of operations that agree: the map of its inserts with the set of its deletes
unfoldable pub state_of : List Operation → State
state_of ops = record { batches = map.from_entries (inserts_of ops); deleted = set.from_list (deletes_of ops) }

-- the operations of a state: those that make it
unfoldable pub operations_of : State → List Operation
operations_of s = map (λ (e : BatchName × Batch). Insert e.0 e.1) (map.entries s.batches) ++ map Delete (set.items s.deleted)

-- the state of a set of operations doesn't depend on order or repeats, and a state and its operations make each other
pub record OperationLaws : Type 0 where
  pub same : (ops others : List Operation) → AreAgreeing ops → SameOperations ops others → state_of ops ≡ state_of others
  pub back : (s : State) → state_of (operations_of s) ≡ s
  pub agreeing : (s : State) → AreAgreeing (operations_of s)
  pub taken : (ops : List Operation) → AreAgreeing ops → SameOperations (operations_of (state_of ops)) ops
