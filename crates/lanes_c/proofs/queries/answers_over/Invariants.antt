-- The queries before this one are answered.
use Rattle.std.proofs.Common.{map}
use Rattle.lanes_c.specs.Opened.{answered_at}
use Rattle.lanes_c.proofs.QueryRuns.{SoFar}
use Rattle.lanes_c.proofs.queries.answers_over.Given as goal

abbrev pub invariant-loop-query : goal.invariant-loop-query
invariant-loop-query l = SoFar (answered_at l.store.replica) (map (λ query. query.now) l.queries) l.query l.answers.bytes.items l.answers.ends.items
