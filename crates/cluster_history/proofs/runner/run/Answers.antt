use Rattle.std.proofs.Common.{arith}
use Rattle.std.proofs.lemmas.Grind.{common_steps}
use Rattle.cluster_history.specs.Run.{StepTo, CodedStepTo}
use Rattle.cluster_history.proofs.Runs.{run_step, step_parts}
use Rattle.cluster_history.proofs.runner.run.Goals as goal

pub loop-step-preserved : goal.loop-step-preserved
loop-step-preserved c = record {
  so_far = run_step StepTo c.args.cluster.now.parts c.loop-step.cluster.parts c.step.new.self.parts c.args.steps.now c.loop-step.step-index c.loop-step.replies.items c.push.new.self.items c.step-item.result c.step.result
      (omega arith) c.step-item.is c.in_ok-push.ensures.items c.loop-step.invariant.so_far (step_parts c.loop-step.cluster c.step.new.self c.step-item.result c.step.result c.step.ensures);
  coded = run_step CodedStepTo c.args.cluster.now c.loop-step.cluster c.step.new.self c.args.steps.now c.loop-step.step-index c.loop-step.replies.items c.push.new.self.items c.step-item.result c.step.result
      (omega arith) c.step-item.is c.in_ok-push.ensures.items c.loop-step.invariant.coded c.step.ensures;
  counted = grind (arith, common_steps);
  room = omega arith;
}
