-- A query that is answered leaves the others to come; one that is refused ends all.
use Rattle.std.proofs.Common.{ap, ◌∙◌, ◌++◌, ℕ, List}
use Rattle.lanes_c.specs.Opened.{answered_at}
use Rattle.lanes_c.proofs.QueryRuns.{next_so_far, stopped_at}
use Rattle.lanes_c.proofs.queries.answers_over.Goals as goal

pub returns-in-Err-clause-refused : goal.returns-in-Err-clause-refused
returns-in-Err-clause-refused c =
    rw c.of_query.ensures (stopped_at (answered_at c.args.store.now.replica) c.args.queries.now c.loop-query.query _ c.loop-query.answers.bytes.items c.loop-query.answers.ends.items c.in-Err.fault
    c.loop-query-test.true c.loop-query.invariant c.in-Err.ensures)

pub loop-query-preserved : goal.loop-query-preserved
loop-query-preserved c =
    next_so_far (answered_at c.args.store.now.replica) c.args.queries.now c.loop-query.query _ c.in-Ok.text.items c.loop-query.answers.bytes.items c.loop-query.answers.ends.items
    c.push.new.self.bytes.items c.push.new.self.ends.items c.loop-query-test.true c.loop-query.invariant c.in-Ok.ensures
    (c.in_ok-push-in-Ok.ensures.bytes ∙ ap (λ (t : List ℕ). c.loop-query.answers.bytes.items ++ t) c.as_slice.ensures.value) c.in_ok-push-in-Ok.ensures.ends
