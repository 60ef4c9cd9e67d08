-- How a part of a line is read where it may run out of memory.
use Rattle.std.specs.Prelude.{◌≡◌, ◌⊎◌, Option, Some, None, Result, Ok, Err}
use Rattle.table_model.specs.declared.refusal.Refusal.{Refusal}
use Rattle.table_model.specs.declared.refusal.Refusal.TheVariants.{Memory, BadLine}

-- what was read, seen by view, is what is given; it is refused as BadLine where nothing is given, or because memory ran out
abbrev pub ReadsPart : {X Y : Type 0} → (X → Y) → Result X Refusal → Option Y → Type 0
ReadsPart view (Ok x) given = given ≡ Some (view x)
ReadsPart view (Err e) given = ((given ≡ None) × (e ≡ BadLine)) ⊎ (e ≡ Memory)
