-- How far the replacing of a file is, by its answer.
use Rattle.file_protocol.specs.Phase.{Phase, InPlace, Stored}
use Rattle.file_protocol.specs.declared.outcome.Replaced.{Replaced}
use Rattle.file_protocol.specs.declared.outcome.Replaced.TheVariants.{Synced, Unsynced}

-- how far the replacing is by its answer
abbrev pub phase_of : Replaced → Phase
phase_of Synced = Stored
phase_of Unsynced = InPlace
