use Rattle.std.proofs.Common.{◌∙◌, ◌+◌, arith, inr, refl}
use Rattle.std.proofs.lemmas.Result.{err_from_is_err_and}
use Rattle.table_model.specs.Faults.{GaveMore}
use Rattle.lanes_main.specs.Script.{parts_in}
use Rattle.lanes_main.proofs.Tellings.{told_start, told_front, told_reached, gave_within, gave_more, failed_since}
use Rattle.lanes_main.proofs.interpreter.rounds.Goals as goal

pub returns-in_err-count-clause-stopped : goal.returns-in_err-count-clause-stopped
returns-in_err-count-clause-stopped g c =
    let p = err_from_is_err_and c.from_residual.result c.from_residual.ensures.1 in
    let so = c.loop-turn.invariant.told in
    rw (p.1, p.2) (record {
      front = c.in_err-count.ensures.early (g.R.Read.remaining c.args.reader.now.0) (g.W.Write.contents c.args.writer.now.0) c.loop-turn.total so;
      reached = λ is.
          told_reached (g.R.Read.remaining c.args.reader.now.0) (g.R.Read.remaining c.round.new.reader.0) (g.W.Write.contents c.args.writer.now.0) (g.W.Write.contents c.round.new.writer.0) (parts_in c.loop-turn.session.cluster) c.loop-turn.session.line c.loop-turn.total
          (c.in_err-count.ensures.reached is (g.R.Read.remaining c.args.reader.now.0) (g.W.Write.contents c.args.writer.now.0) c.loop-turn.total so);
      counts = failed_since (GaveMore (g.R.Read.remaining c.args.reader.now.0) (g.R.Read.remaining c.round.new.reader.0)) c.in_err-count.field-0.0 c.args.reader.now.1 c.loop-turn.reader.1 c.round.new.reader.1 c.args.writer.now.1 c.loop-turn.writer.1 c.round.new.writer.1
          c.loop-turn.invariant.reader c.loop-turn.invariant.writer c.in_err-count.ensures.fault;
    })

pub returns-then-count-eq0-clause-told : goal.returns-then-count-eq0-clause-told
returns-then-count-eq0-clause-told g c =
    (c.loop-turn.total + c.in_ok-count.count, c.in_ok-count.ensures.told (g.R.Read.remaining c.args.reader.now.0) (g.W.Write.contents c.args.writer.now.0) c.loop-turn.total c.loop-turn.invariant.told)

pub returns-then-count-eq0-clause-whole : goal.returns-then-count-eq0-clause-whole
returns-then-count-eq0-clause-whole g c =
    let within = gave_within (g.R.Read.remaining c.args.reader.now.0) (g.R.Read.remaining c.round.new.reader.0) (g.W.Write.contents c.args.writer.now.0) (g.W.Write.contents c.round.new.writer.0) (parts_in c.round.new.session.cluster) c.round.new.session.line (c.loop-turn.total + c.in_ok-count.count)
    (c.in_ok-count.ensures.told (g.R.Read.remaining c.args.reader.now.0) (g.W.Write.contents c.args.writer.now.0) c.loop-turn.total c.loop-turn.invariant.told)
    (c.in_ok-count.ensures.end (omega arith)) (omega (arith, c.loop-turn.invariant.limit)) in
    record {
      read = record { end = c.in_ok-count.ensures.end (omega arith); within = within; kept = c.in_ok-count.ensures.kept.0 ∙ c.loop-turn.invariant.reader };
      kept = c.in_ok-count.ensures.kept.1 ∙ c.loop-turn.invariant.writer;
    }

pub overflow_add-total : goal.overflow_add-total
overflow_add-total g c = omega (arith, c.loop-turn.invariant.limit, c.in_ok-count.ensures.bound, c.requires.limit)

pub loop-turn-preserved : goal.loop-turn-preserved
loop-turn-preserved g c = record {
  told = c.in_ok-count.ensures.told (g.R.Read.remaining c.args.reader.now.0) (g.W.Write.contents c.args.writer.now.0) c.loop-turn.total c.loop-turn.invariant.told;
  some = omega (arith, c.loop-turn.invariant.some);
  limit = omega arith;
  reader = c.in_ok-count.ensures.kept.0 ∙ c.loop-turn.invariant.reader;
  writer = c.in_ok-count.ensures.kept.1 ∙ c.loop-turn.invariant.writer;
}

pub returns-then-total-gt-READ_LIMIT-clause-stopped : goal.returns-then-total-gt-READ_LIMIT-clause-stopped
returns-then-total-gt-READ_LIMIT-clause-stopped g c =
    let so = c.in_ok-count.ensures.told (g.R.Read.remaining c.args.reader.now.0) (g.W.Write.contents c.args.writer.now.0) c.loop-turn.total c.loop-turn.invariant.told in
    record {
      front = told_front (g.R.Read.remaining c.args.reader.now.0) (g.R.Read.remaining c.round.new.reader.0) (g.W.Write.contents c.args.writer.now.0) (g.W.Write.contents c.round.new.writer.0) (parts_in c.round.new.session.cluster) c.round.new.session.line (c.loop-turn.total + c.in_ok-count.count) so;
      reached = λ is. told_reached (g.R.Read.remaining c.args.reader.now.0) (g.R.Read.remaining c.round.new.reader.0) (g.W.Write.contents c.args.writer.now.0) (g.W.Write.contents c.round.new.writer.0) (parts_in c.round.new.session.cluster) c.round.new.session.line (c.loop-turn.total + c.in_ok-count.count) so;
      counts = (
        inr (gave_more (g.R.Read.remaining c.args.reader.now.0) (g.R.Read.remaining c.round.new.reader.0) (g.W.Write.contents c.args.writer.now.0) (g.W.Write.contents c.round.new.writer.0) (parts_in c.round.new.session.cluster) c.round.new.session.line (c.loop-turn.total + c.in_ok-count.count) so (omega arith), c.in_ok-count.ensures.kept.0 ∙ c.loop-turn.invariant.reader),
        c.in_ok-count.ensures.kept.1 ∙ c.loop-turn.invariant.writer,
      );
    }

pub returns-clause-stopped : goal.returns-clause-stopped
returns-clause-stopped g c = absurd (omega (arith, c.loop-turn.invariant.some, c.loop-turn.invariant.limit))

pub loop-turn-init : goal.loop-turn-init
loop-turn-init g c = record {
  told = rw (c.new-session.ensures.cluster, c.new-session.ensures.line) (told_start (g.R.Read.remaining c.args.reader.now.0) (g.W.Write.contents c.args.writer.now.0));
  some = omega arith;
  limit = omega arith;
  reader = refl;
  writer = refl;
}
