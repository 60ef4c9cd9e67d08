use Rattle.folder_turns.specs.Calls.{calls_after}
use Rattle.folder_turns.proofs.Runs.{started}
use Rattle.folder_turns.proofs.asking.next.Given as goal

abbrev pub ghosts-run : goal.ghosts-run
ghosts-run g a = record { before = started g.before; whole = a.whole.now; calls = calls_after a.whole.now a.told.now (started g.before) }
