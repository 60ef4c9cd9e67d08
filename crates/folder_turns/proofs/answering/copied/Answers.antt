use Rattle.std.specs.String.{string_bytes}
use Rattle.folder_turns.proofs.Runs.{same_texts}
use Rattle.folder_turns.proofs.answering.copied.Goals as goal

pub returns-in-Ok : goal.returns-in-Ok
returns-in-Ok c = same_texts string_bytes _ _ c.in-Ok.ensures.cases.0
