use Rattle.std.proofs.Common.{◌≡◌, ◌≤◌, take, length, vec_capacity}
use Rattle.cluster_history.specs.Run.{Run, CodedRun}
use Rattle.cluster_history.proofs.runner.run.Given as goal

abbrev pub invariant-loop-step : goal.invariant-loop-step
invariant-loop-step l = record {
  so_far : Run l.initial.cluster.parts (take l.step-index l.steps) l.replies.items l.cluster.parts;
  coded : CodedRun l.initial.cluster (take l.step-index l.steps) l.replies.items l.cluster;
  counted : length l.replies.items ≡ l.step-index;
  room : length l.steps ≤ vec_capacity l.replies;
}
