-- Each change writes the value of a run.
use Rattle.std.proofs.Common.{rules, ◌+◌, FitsSigned, take, set, cond, ap, ◌∙◌, arith}
use Rattle.std.specs.Int.{w64}
use Rattle.std.proofs.lemmas.Int.{to_z-of_z}
use Rattle.bit_interleave.specs.Range.{value_at}
use Rattle.run_dictionary.specs.Runs.{changes_at}
use Rattle.run_dictionary.proofs.StepLemmas.{number_of_truth, changed_values-more, changed_values-first, one_at_most}
use Rattle.run_dictionary.proofs.run_words.write_changed.Goals as goal

pub loop-row-init : goal.loop-row-init
loop-row-init c =
    let v = value_at c.args.values.now in
    let fits : FitsSigned w64 (v 0) = search rules in
    record {
      long = search rules;
      bound = omega arith;
      written = ap (λ x. take 1 (set c.args.into.now 0 x)) (to_z-of_z w64 (v 0) fits) ∙ changed_values-first v c.args.into.now (omega arith);
    }

pub loop-row-preserved : goal.loop-row-preserved
loop-row-preserved c =
    let v = value_at c.args.values.now in
    let row = c.loop-row.row in
    let count = c.loop-row.count in
    let fits : FitsSigned w64 (v row) = search rules in
    let one = c.from-count.ensures ∙ number_of_truth c.differs.result ∙ ap (λ b. cond b 1 0) c.differs.ensures in
    record {
      long = search rules;
      bound = omega (arith, one, one_at_most (changes_at v row), c.loop-row.invariant.bound);
      written = ap (λ x. take (count + c.from-count.result) (set c.loop-row.into count x)) (to_z-of_z w64 (v row) fits)
          ∙ changed_values-more v row count c.from-count.result c.loop-row.into (omega arith) (omega (arith, c.loop-row.invariant.long, c.loop-row.invariant.bound)) one c.loop-row.invariant.written;
    }
