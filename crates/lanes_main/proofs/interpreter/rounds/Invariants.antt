use Rattle.std.proofs.Common.{◌≡◌, ◌≤◌}
use Rattle.table_model.specs.declared.counted.TheConstants.{READ_LIMIT}
use Rattle.lanes_main.specs.Script.{parts_in}
use Rattle.lanes_main.specs.Told.{Sofar}
use Rattle.lanes_main.proofs.interpreter.rounds.Given as goal

abbrev pub invariant-loop-turn : goal.invariant-loop-turn
invariant-loop-turn g l = record {
  told : Sofar (g.R.Read.remaining l.initial.reader.0) (g.R.Read.remaining l.reader.0) (g.W.Write.contents l.initial.writer.0) (g.W.Write.contents l.writer.0) (parts_in l.session.cluster) l.session.line l.total;
  some : l._turn ≤ l.total;
  limit : l.total ≤ READ_LIMIT;
  reader : l.reader.1 ≡ l.initial.reader.1;
  writer : l.writer.1 ≡ l.initial.writer.1;
}
