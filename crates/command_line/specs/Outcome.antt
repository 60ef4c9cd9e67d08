-- What the program fails with, and the status that it ends with.
use Rattle.std.specs.Prelude.{◌≡◌, ◌≢◌, ◌⊎◌, ℕ}
use Rattle.clap.specs.Values.{kind_of}
use Rattle.clap.specs.declared.error.Error.{Error}
use Rattle.clap.specs.declared.error.kind.ErrorKind.{ErrorKind}
use Rattle.clap.specs.declared.error.kind.ErrorKind.TheVariants as kinds
use Rattle.command_line.specs.declared.fault.Fault.{Fault}
use Rattle.command_line.specs.declared.fault.Fault.TheVariants.{CommandLine, Refused}
use Rattle.refusal_sentences.specs.declared.command_refusal.CommandRefusal.TheVariants.{Named}
use Rattle.table_model.specs.declared.refusal.Refusal.TheVariants.{Memory}

-- memory ran out
abbrev pub refused_memory : Fault
refused_memory = Refused (Named Memory)

-- memory ran out is a refusal; all else is the command line's
abbrev pub fault_of_kind : ErrorKind → Error → Fault
fault_of_kind kinds.OutOfMemory error = refused_memory
fault_of_kind kind error = CommandLine error

-- what the program fails with where `clap` answers an error
abbrev pub fault_of : Error → Fault
fault_of error = fault_of_kind (kind_of error) error

-- help is no fault, though the command line has nothing to run
abbrev pub status_of_kind : ErrorKind → ℕ
status_of_kind kinds.DisplayHelp = 0
status_of_kind kinds.DisplayVersion = 0
status_of_kind kind = 2

-- 0 for help, 2 for a fault of the command line, 1 for a refusal
abbrev pub status_of : Fault → ℕ
status_of (CommandLine error) = status_of_kind (kind_of error)
status_of (Refused refusal) = 1

-- a fault ends the program with its status; help that can't be written is a refusal
abbrev pub EndsWith : Fault → ℕ → Type 0
EndsWith fault status = (status ≡ status_of fault) ⊎ ((status ≡ 1) × (status_of fault ≡ 0))

-- a command line that can't be read: memory runs out, or it has a fault other than that
abbrev pub IsUnread : Fault → Type 0
IsUnread (CommandLine error) = kind_of error ≢ kinds.OutOfMemory
IsUnread (Refused refusal) = refusal ≡ Named Memory
