-- A run goes on to the next start, and the last to the end.
use Rattle.std.proofs.Common.{rules, suc, FitsSigned, pos, get_or, ◌∙◌, arith}
use Rattle.std.specs.Int.{w64}
use Rattle.std.proofs.lemmas.Int.{to_z-of_z}
use Rattle.transpose_order.specs.Mask.{has}
use Rattle.transpose_order.proofs.MaskLemmas.{count_below-zero}
use Rattle.run_dictionary.proofs.StepLemmas.{RunsWritten-more, RunsWritten-all}
use Rattle.run_dictionary.proofs.run_words.write_each_run.Goals as goal

pub loop-value-init : goal.loop-value-init
loop-value-init c = record {
  long = search rules;
  within = omega arith;
  written = λ n h. absurd (omega arith);
  begins = λ _. count_below-zero (λ i. has c.args.starts.now (suc i));
  last = λ e. absurd (omega arith);
}

pub loop-value-preserved : goal.loop-value-preserved
loop-value-preserved c =
    let value = get_or c.args.runs.now c.loop-value.value-index (pos 0) in
    let fits : FitsSigned w64 value = search rules in
    RunsWritten-more c.args.starts.now c.args.runs.now c.loop-value.into c.fill_rows.new.into c.loop-value.row c.next_true-end.result c.loop-value.value-index c.loop-value.invariant c.requires c.loop-value-test.true
    c.next_true-end.ensures.order c.next_true-end.ensures.within c.next_true-end.ensures.none c.next_true-end.ensures.here c.fill_rows.array_long
    (λ n h l. c.fill_rows.ensures.written n h l ∙ to_z-of_z w64 value fits) c.fill_rows.ensures.others

pub returns : goal.returns
returns c = RunsWritten-all _ _ _ _ _ c.loop-value.invariant c.requires c.loop-value-test.false
