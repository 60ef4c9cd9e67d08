-- Why a command on a file is refused.
use Rattle.std.specs.Prelude.{◌≡◌, ◌⊎◌, ℕ, List, ◌∷◌, ◌++◌, Option, Some, None, Result, Err}
use Rattle.table_model.specs.Reading.{◌>>=◌}
use Rattle.table_model.specs.Table.{Table}
use Rattle.table_model.specs.declared.refusal.Refusal.{Refusal}
use Rattle.table_model.specs.declared.refusal.Refusal.TheVariants.{Memory, ReadFault, WriteFault}
use Rattle.replica_store.specs.Replica.{Replica}
use Rattle.replica_reports.specs.Held.{held_in}
use Rattle.replica_changes.specs.Commands.{Made, file_made}
use Rattle.file_protocol.specs.Event.{Event, Read}
use Rattle.file_protocol.specs.Failed.{HasFailed}

-- Bytes in memory are refused so: as the command refuses what they hold, or as their first fault; or memory ran out.
abbrev pub IsRefusedOver : {Y : Type 0} → (Replica → Made Y) → List ℕ → Refusal → Type 0
IsRefusedOver command bytes e = (e ≡ Memory) ⊎ (file_made (held_in bytes >>= command) ≡ Err e)

-- The first call between two histories read the file, and this came of it.
abbrev pub HasRead : List ℕ → Option (Option (List ℕ)) → List Event → List Event → Type 0
HasRead name answer before after = (later : List Event) × (after ≡ later ++ Read name answer ∷ before)

-- The file was not read: memory ran out; or the read failed, or there was no file.
abbrev pub IsWhyUnread : List ℕ → List Event → List Event → Refusal → Type 0
IsWhyUnread name before after e = (e ≡ Memory) ⊎ ((e ≡ ReadFault) × (HasRead name None before after ⊎ HasRead name (Some None) before after))

-- Why a command is refused so. The file was not read; or it was to be replaced, and a call failed; or the bytes that were read are refused so.
abbrev pub IsWhyRefused : {Y : Type 0} → (Replica → Made Y) → List ℕ → List Event → List Event → Refusal → Type 0
IsWhyRefused command name before after e =
    IsWhyUnread name before after e
    ⊎ ((e ≡ WriteFault) × HasFailed before after)
    ⊎ ((bytes : List ℕ) × HasRead name (Some (Some bytes)) before after × IsRefusedOver command bytes e)

-- Why a file is not made: memory ran out, or its table is refused so; or a call failed.
abbrev pub IsWhyUnmade : Result Table Refusal → List Event → List Event → Refusal → Type 0
IsWhyUnmade made before after e = (e ≡ Memory) ⊎ (made ≡ Err e) ⊎ ((e ≡ WriteFault) × HasFailed before after)
