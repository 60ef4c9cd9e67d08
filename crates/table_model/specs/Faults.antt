-- What a refusal of a call that reads and writes says of its bytes and of the counts of failures.
use Rattle.std.specs.Prelude.{◌≡◌, ◌⊎◌, ℕ, ◌+◌, ◌^◌, ◌<◌, ◌≤◌, List, ◌++◌, length, Option, Some, None}
use Rattle.std.specs.Io.KnownBytes.{Appends}
use Rattle.table_model.specs.Counted.{one_more}
use Rattle.table_model.specs.declared.refusal.Refusal.{Refusal}
use Rattle.table_model.specs.declared.refusal.Refusal.TheVariants.{Memory, ReadFault, WriteFault}

-- the known bytes grew by a front of the text
abbrev pub AppendsFront : Option (List ℕ) → Option (List ℕ) → List ℕ → Type 0
AppendsFront before now text = (front : List ℕ) × (back : List ℕ) × (text ≡ front ++ back) × Appends before now front

-- the most bytes that one call reads
abbrev pub read_limit : ℕ
read_limit = 2 ^ 48

-- what the reader has isn't more than a call reads
abbrev pub IsWithin : Option (List ℕ) → Type 0
IsWithin None = Unit {0}
IsWithin (Some input) = length input ≤ read_limit

-- the reader gave more than a call reads
abbrev pub GaveMore : Option (List ℕ) → Option (List ℕ) → Type 0
GaveMore None rest = Unit {0}
GaveMore (Some input) None = ⊥
GaveMore (Some input) (Some rest) = read_limit + length rest < length input

-- a reader's count of failures before and after a refused call: it rose with a ReadFault, unless many is what made that, and else it stayed
abbrev pub CountsReads : Type 0 → Refusal → ℕ → ℕ → Type 0
CountsReads many ReadFault before after = (after ≡ one_more before) ⊎ (many × (after ≡ before))
CountsReads many other before after = after ≡ before

-- a writer's count of failures before and after a refused call: it rose with a WriteFault, and else it stayed
abbrev pub CountsWrites : Refusal → ℕ → ℕ → Type 0
CountsWrites WriteFault before after = after ≡ one_more before
CountsWrites other before after = after ≡ before

-- both counts before and after a refused call
abbrev pub CountsBoth : Type 0 → Refusal → ℕ → ℕ → ℕ → ℕ → Type 0
CountsBoth many e r r' w w' = CountsReads many e r r' × CountsWrites e w w'

-- the same of a call that nothing refuses but out of memory and a failed read or write
abbrev pub Failed : Type 0 → Refusal → ℕ → ℕ → ℕ → ℕ → Type 0
Failed many Memory r r' w w' = CountsBoth many Memory r r' w w'
Failed many ReadFault r r' w w' = CountsBoth many ReadFault r r' w w'
Failed many WriteFault r r' w w' = CountsBoth many WriteFault r r' w w'
Failed many other r r' w w' = ⊥
