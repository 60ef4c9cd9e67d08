-- A note has bytes, too.
use Rattle.std.proofs.Common.{ap}
use Rattle.folder_turns.specs.Calls.{found_of}
use Rattle.folder_turns.specs.declared.request.Answer.{Answer}
use Rattle.folder_turns.proofs.answering.finds.Goals as goal

pub returns-in-Noted : goal.returns-in-Noted
returns-in-Noted c = (_, ap (λ (a : Answer). found_of a) c.in-Noted.is)
