-- One chunk after another is read and told.
use Rattle.std.proofs.Common.{◌∙◌, ◌+◌, arith, inr, refl}
use Rattle.std.proofs.lemmas.Result.{err_from_is_err_and}
use Rattle.table_model.specs.Faults.{GaveMore}
use Rattle.replica_reports.proofs.LinesTold.{heard_start, heard_front, heard_within, heard_past, failed_since}
use Rattle.replica_reports.proofs.RefusedTold.{hearing_start, hearing_front}
use Rattle.replica_reports.proofs.query_lines.rounds.Goals as goal

pub loop-turn-init : goal.loop-turn-init
loop-turn-init g c = record {
  heard = rw (c.new-lines.ensures.start.0, c.new-lines.ensures.start.1) (heard_start c.args.asked.now.format c.args.asked.now.file.now.replica (g.R.Read.remaining c.args.reader.now.0) (g.W.Write.contents c.args.writer.now.0));
  some = omega arith;
  limit = omega arith;
  reader = refl;
  writer = refl;
  refused = rw (c.new-lines.ensures.start.0, c.new-lines.ensures.number) (hearing_start c.args.asked.now.format c.args.asked.now.file.now.replica (g.R.Read.remaining c.args.reader.now.0) (g.L.Listener.heard c.args.listener.now));
}

pub returns-in_err-count-clause-early : goal.returns-in_err-count-clause-early
returns-in_err-count-clause-early g c =
    let p = err_from_is_err_and c.from_residual.result c.from_residual.ensures.1 in
    rw p.1 (c.in_err-count.ensures.early (g.R.Read.remaining c.args.reader.now.0) (g.W.Write.contents c.args.writer.now.0) c.loop-turn.total c.loop-turn.invariant.heard)

pub returns-in_err-count-clause-ends : goal.returns-in_err-count-clause-ends
returns-in_err-count-clause-ends g c =
    let p = err_from_is_err_and c.from_residual.result c.from_residual.ensures.1 in
    rw (p.1, p.2) (failed_since (GaveMore (g.R.Read.remaining c.args.reader.now.0) (g.R.Read.remaining c.round.new.reader.0)) c.in_err-count.field-0.0 c.args.reader.now.1 c.loop-turn.reader.1 c.round.new.reader.1 c.args.writer.now.1 c.loop-turn.writer.1 c.round.new.writer.1
    c.loop-turn.invariant.reader c.loop-turn.invariant.writer c.in_err-count.ensures.fault)

pub returns-then-count-eq0-clause-heard : goal.returns-then-count-eq0-clause-heard
returns-then-count-eq0-clause-heard g c =
    (c.loop-turn.total + c.in_ok-count.count, c.in_ok-count.ensures.heard (g.R.Read.remaining c.args.reader.now.0) (g.W.Write.contents c.args.writer.now.0) c.loop-turn.total c.loop-turn.invariant.heard)

pub returns-then-count-eq0-clause-ends : goal.returns-then-count-eq0-clause-ends
returns-then-count-eq0-clause-ends g c =
    let within = heard_within c.args.asked.now.format c.args.asked.now.file.now.replica (g.R.Read.remaining c.args.reader.now.0) (g.R.Read.remaining c.round.new.reader.0) (g.W.Write.contents c.args.writer.now.0) (g.W.Write.contents c.round.new.writer.0) c.round.new.lines.is_whole c.round.new.lines.line (c.loop-turn.total + c.in_ok-count.count)
    (c.in_ok-count.ensures.heard (g.R.Read.remaining c.args.reader.now.0) (g.W.Write.contents c.args.writer.now.0) c.loop-turn.total c.loop-turn.invariant.heard)
    (c.in_ok-count.ensures.end (omega arith)) (omega (arith, c.loop-turn.invariant.limit)) in
    record {
      read = record { end = c.in_ok-count.ensures.end (omega arith); within = within; kept = c.in_ok-count.ensures.kept.0 ∙ c.loop-turn.invariant.reader };
      kept = c.in_ok-count.ensures.kept.1 ∙ c.loop-turn.invariant.writer;
    }

pub overflow_add-total : goal.overflow_add-total
overflow_add-total g c = omega (arith, c.loop-turn.invariant.limit, c.in_ok-count.ensures.bound, c.requires.limit)

pub loop-turn-preserved : goal.loop-turn-preserved
loop-turn-preserved g c = record {
  heard = c.in_ok-count.ensures.heard (g.R.Read.remaining c.args.reader.now.0) (g.W.Write.contents c.args.writer.now.0) c.loop-turn.total c.loop-turn.invariant.heard;
  some = omega (arith, c.loop-turn.invariant.some);
  limit = omega arith;
  reader = c.in_ok-count.ensures.kept.0 ∙ c.loop-turn.invariant.reader;
  writer = c.in_ok-count.ensures.kept.1 ∙ c.loop-turn.invariant.writer;
  refused = c.in_ok-count.ensures.refused (g.R.Read.remaining c.args.reader.now.0) (g.L.Listener.heard c.args.listener.now) c.loop-turn.invariant.refused;
}

pub returns-then-total-gt-READ_LIMIT-clause-early : goal.returns-then-total-gt-READ_LIMIT-clause-early
returns-then-total-gt-READ_LIMIT-clause-early g c =
    heard_front c.args.asked.now.format c.args.asked.now.file.now.replica (g.R.Read.remaining c.args.reader.now.0) (g.R.Read.remaining c.round.new.reader.0) (g.W.Write.contents c.args.writer.now.0) (g.W.Write.contents c.round.new.writer.0) c.round.new.lines.is_whole c.round.new.lines.line (c.loop-turn.total + c.in_ok-count.count)
    (c.in_ok-count.ensures.heard (g.R.Read.remaining c.args.reader.now.0) (g.W.Write.contents c.args.writer.now.0) c.loop-turn.total c.loop-turn.invariant.heard)

pub returns-then-total-gt-READ_LIMIT-clause-ends : goal.returns-then-total-gt-READ_LIMIT-clause-ends
returns-then-total-gt-READ_LIMIT-clause-ends g c = (
  inr (
    heard_past c.args.asked.now.format c.args.asked.now.file.now.replica (g.R.Read.remaining c.args.reader.now.0) (g.R.Read.remaining c.round.new.reader.0) (g.W.Write.contents c.args.writer.now.0) (g.W.Write.contents c.round.new.writer.0) c.round.new.lines.is_whole c.round.new.lines.line (c.loop-turn.total + c.in_ok-count.count)
        (c.in_ok-count.ensures.heard (g.R.Read.remaining c.args.reader.now.0) (g.W.Write.contents c.args.writer.now.0) c.loop-turn.total c.loop-turn.invariant.heard) (omega arith),
    c.in_ok-count.ensures.kept.0 ∙ c.loop-turn.invariant.reader,
  ),
  c.in_ok-count.ensures.kept.1 ∙ c.loop-turn.invariant.writer,
)

pub returns-clause-early : goal.returns-clause-early
returns-clause-early g c = absurd (omega (arith, c.loop-turn.invariant.some, c.loop-turn.invariant.limit))

pub returns-clause-ends : goal.returns-clause-ends
returns-clause-ends g c = absurd (omega (arith, c.loop-turn.invariant.some, c.loop-turn.invariant.limit))

pub returns-in_err-count-clause-fewer : goal.returns-in_err-count-clause-fewer
returns-in_err-count-clause-fewer g c =
    let p = err_from_is_err_and c.from_residual.result c.from_residual.ensures.1 in
    rw p.1 (c.in_err-count.ensures.fewer (g.R.Read.remaining c.args.reader.now.0) (g.L.Listener.heard c.args.listener.now) c.loop-turn.invariant.refused)

pub returns-then-count-eq0-clause-refused : goal.returns-then-count-eq0-clause-refused
returns-then-count-eq0-clause-refused g c = c.in_ok-count.ensures.refused (g.R.Read.remaining c.args.reader.now.0) (g.L.Listener.heard c.args.listener.now) c.loop-turn.invariant.refused

pub returns-then-total-gt-READ_LIMIT-clause-fewer : goal.returns-then-total-gt-READ_LIMIT-clause-fewer
returns-then-total-gt-READ_LIMIT-clause-fewer g c =
    hearing_front c.args.asked.now.format c.args.asked.now.file.now.replica (g.R.Read.remaining c.args.reader.now.0) (g.R.Read.remaining c.round.new.reader.0) (g.L.Listener.heard c.args.listener.now) (g.L.Listener.heard c.round.new.listener) c.round.new.lines.number c.round.new.lines.line
    (c.in_ok-count.ensures.refused (g.R.Read.remaining c.args.reader.now.0) (g.L.Listener.heard c.args.listener.now) c.loop-turn.invariant.refused)

pub returns-clause-fewer : goal.returns-clause-fewer
returns-clause-fewer g c = absurd (omega (arith, c.loop-turn.invariant.some, c.loop-turn.invariant.limit))
