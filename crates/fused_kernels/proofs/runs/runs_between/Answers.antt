-- A run is found or not, whole.
use Rattle.std.proofs.Common.{rules, ◌≡◌, ◌+◌, ◌<◌, ◌≤◌, ◌&&◌, ◌||◌, nat_le, nat_lt, ℕ, ℤ, Bool, true, false, pos, List, slice_index_or, length, subst, FitsSigned, to_z, of_z, sym, ap, ◌∙◌, arith}
use Rattle.std.specs.Int.{w64}
use Rattle.std.specs.List.{list_any}
use Rattle.std.proofs.lemmas.Int.{to_z-of_z}
use Rattle.std.proofs.lemmas.Bool.Decides.{nat_tests}
use Rattle.transpose_order.specs.Mask.{has, truth_at}
use Rattle.transpose_order.specs.MaskWords.{rows_of-like}
use Rattle.bit_interleave.specs.LaneValues.{LaneValues}
use Rattle.run_dictionary.specs.Runs.{run_value}
use Rattle.fused_kernels.specs.Seen.{between}
use Rattle.native_lanes.proofs.PackedLemmas.{passed_between}
use Rattle.fused_kernels.proofs.RunLemmas.{first_run, no_run, next_run, value_of_run, all_runs, found_more, no_truth}
use Rattle.fused_kernels.proofs.runs.runs_between.Goals as goal

pub returns-then-not-is_one_between : goal.returns-then-not-is_one_between
returns-then-not-is_one_between c =
    let form = c.args.form.now in
    let low = to_z w64 (of_z w64 c.args.low) in
    let high = to_z w64 (of_z w64 c.args.high) in
    let none : list_any (between low high) form.values ≡ false = subst (λ (x : LaneValues). list_any (between low high) x.values ≡ false) c.values-values.ensures.value (sym c.is_one_between.ensures ∙ c.if-not-is_one_between.true) in
    c.none.ensures
    ∙ rows_of-like (λ _. false) (λ n. between c.args.low c.args.high (run_value form n))
    (λ n h. sym (sym (passed_between c.args.low c.args.high (run_value form n) c.ranges.low c.ranges.high) ∙ no_run form (between low high) n c.values-values.ensures.form h none))

pub loop-run-init : goal.loop-run-init
loop-run-init c = record {
  begins = first_run c.args.form.now;
  found = λ n h. let off : nat_lt n 0 ≡ false = grind (arith, nat_tests) in no_truth n h ∙ sym (ap (λ b. b && between (to_z w64 (of_z w64 c.args.low)) (to_z w64 (of_z w64 c.args.high)) (run_value c.args.form.now n)) off);
}

pub loop-run-preserved : goal.loop-run-preserved
loop-run-preserved c =
    let form = c.args.form.now in
    let row = c.loop-run.row in
    let end = c.next_true-end.result in
    let index = c.loop-run.run in
    let low = to_z w64 (of_z w64 c.args.low) in
    let high = to_z w64 (of_z w64 c.args.high) in
    let value : ℤ = c.get.result in
    let is : value ≡ slice_index_or form.values index (pos 0) = c.get.ensures.value ∙ ap (λ (x : LaneValues). slice_index_or x.values index (pos 0)) c.values-values.ensures.value in
    let left : index < length form.values = omega (arith, c.loop-run-test.true, c.len-run-end.ensures, ap (λ (x : LaneValues). length x.values) c.values-values.ensures.value) in
    let fits : FitsSigned w64 value = search rules in
    let none : (i : ℕ) → row + 1 ≤ i → i < end → has form.starts i ≡ false = subst (λ (m : List Bool). (i : ℕ) → row + 1 ≤ i → i < end → has m i ≡ false) c.starts.ensures.value c.next_true-end.ensures.none in
    let start : end < 1024 → has form.starts end ≡ true = subst (λ (m : List Bool). end < 1024 → has m end ≡ true) c.starts.ensures.value c.next_true-end.ensures.here in
    record {
      begins = next_run form row end index c.values-values.ensures.form c.loop-run.invariant.begins left c.next_true-end.ensures.order c.next_true-end.ensures.within none start;
      found = λ n h.
          c.set_run_if.ensures n h
          ∙ ap (λ b. (nat_le row n && nat_lt n end && b) || truth_at c.loop-run.found n) (c.is_between.ensures ∙ ap (between low high) (to_z-of_z w64 value fits ∙ is))
          ∙ ap (λ b. (nat_le row n && nat_lt n end && between low high (slice_index_or form.values index (pos 0))) || b) (c.loop-run.invariant.found n h)
          ∙ found_more row end n (between low high (slice_index_or form.values index (pos 0))) (between low high (run_value form n)) (omega (arith, c.next_true-end.ensures.order)) (λ from below. ap (between low high) (value_of_run form row end index n c.loop-run.invariant.begins left none from below));
    }

pub returns : goal.returns
returns c =
    let form = c.args.form.now in
    let low = to_z w64 (of_z w64 c.args.low) in
    let high = to_z w64 (of_z w64 c.args.high) in
    let done : length form.values ≤ c.loop-run.run = omega (arith, c.loop-run-test.false, c.len-run-end.ensures, ap (λ (x : LaneValues). length x.values) c.values-values.ensures.value) in
    let all : c.loop-run.row ≡ 1024 = all_runs form c.loop-run.row c.loop-run.run c.values-values.ensures.form c.loop-run.invariant.begins done in
    c.from_words.ensures
    ∙ rows_of-like (truth_at c.loop-run.found) (λ n. between c.args.low c.args.high (run_value form n))
    (λ n h.
    let on : nat_lt n c.loop-run.row ≡ true = grind (arith, nat_tests) in
    c.loop-run.invariant.found n h ∙ ap (λ b. b && between low high (run_value form n)) on
    ∙ ap (λ x. between x high (run_value form n)) (to_z-of_z w64 c.args.low c.ranges.low) ∙ ap (λ x. between c.args.low x (run_value form n)) (to_z-of_z w64 c.args.high c.ranges.high))
