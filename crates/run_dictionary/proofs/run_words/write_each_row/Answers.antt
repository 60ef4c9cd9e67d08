-- The starts up to a row are its run.
use Rattle.std.proofs.Common.{rules, ◌≡◌, suc, ◌+◌, ℤ, FitsSigned, pos, of_z, to_z, get_or, set, cond, sym, ap, ◌∙◌, arith}
use Rattle.std.specs.Int.{w64}
use Rattle.std.proofs.lemmas.Int.{to_z-of_z}
use Rattle.std.proofs.lemmas.List.Edits.{fill_by_more}
use Rattle.transpose_order.specs.Mask.{has}
use Rattle.transpose_order.specs.MaskWords.{rows_of-same}
use Rattle.transpose_order.proofs.MaskLemmas.{count_below-zero, count_below-le}
use Rattle.run_dictionary.specs.Runs.{run_of}
use Rattle.run_dictionary.proofs.CountLemmas.{count_below-rises}
use Rattle.run_dictionary.proofs.StepLemmas.{run_of-more, number_of_truth}
use Rattle.run_dictionary.proofs.run_words.write_each_row.Goals as goal

pub loop-row-init : goal.loop-row-init
loop-row-init c = record {
  long = search rules;
  run = sym (count_below-zero (has c.args.starts.now));
  written = λ n h. absurd (omega arith);
}

pub overflow_add-run : goal.overflow_add-run
overflow_add-run c =
    let more = run_of-more c.args.starts.now c.loop-row.row c.loop-row.run c.from-run.result c.requires.first c.loop-row.invariant.run (c.from-run.ensures ∙ number_of_truth c.get.result ∙ ap (λ b. cond b 1 0) c.get.ensures) in
    record { fits = omega (arith, more.0, count_below-le (λ i. has c.args.starts.now (suc i)) c.loop-row.row) }

pub offset_bounds-runs-run : goal.offset_bounds-runs-run
offset_bounds-runs-run c =
    let more = run_of-more c.args.starts.now c.loop-row.row c.loop-row.run c.from-run.result c.requires.first c.loop-row.invariant.run (c.from-run.ensures ∙ number_of_truth c.get.result ∙ ap (λ b. cond b 1 0) c.get.ensures) in
    record { fits = omega (arith, more.0, count_below-le (λ i. has c.args.starts.now (suc i)) c.loop-row.row) }

pub bounds-runs-run : goal.bounds-runs-run
bounds-runs-run c =
    let more = run_of-more c.args.starts.now c.loop-row.row c.loop-row.run c.from-run.result c.requires.first c.loop-row.invariant.run (c.from-run.ensures ∙ number_of_truth c.get.result ∙ ap (λ b. cond b 1 0) c.get.ensures) in
    omega (arith, more.0, c.requires.count, count_below-rises (λ i. has c.args.starts.now (suc i)) c.loop-row.row 1023 (omega arith))

pub loop-row-preserved : goal.loop-row-preserved
loop-row-preserved c =
    let more = run_of-more c.args.starts.now c.loop-row.row c.loop-row.run c.from-run.result c.requires.first c.loop-row.invariant.run (c.from-run.ensures ∙ number_of_truth c.get.result ∙ ap (λ b. cond b 1 0) c.get.ensures) in
    let value : ℤ = get_or c.args.runs.now (c.loop-row.run + c.from-run.result) (pos 0) in
    let fits : FitsSigned w64 value = search rules in
    let is : to_z w64 (of_z w64 value) ≡ get_or c.args.runs.now (run_of c.args.starts.now c.loop-row.row) (pos 0) = to_z-of_z w64 value fits ∙ ap (λ k. get_or c.args.runs.now k (pos 0)) more.0 in
    record {
      long = search rules;
      run = more.1;
      written = λ n h.
          ap (λ x. get_or (set c.loop-row.into c.loop-row.row x) n (pos 0)) is
          ∙ fill_by_more (λ n. get_or c.args.runs.now (run_of c.args.starts.now n) (pos 0)) c.loop-row.into c.loop-row.row (pos 0) (omega (arith, c.loop-row.invariant.long)) c.loop-row.invariant.written n h;
    }

pub returns : goal.returns
returns c = rows_of-same _ c.loop-row.into (pos 0) c.loop-row.invariant.long (λ n h. c.loop-row.invariant.written n (omega arith))
