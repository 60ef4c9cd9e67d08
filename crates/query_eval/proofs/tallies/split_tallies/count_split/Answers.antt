-- The spans, the slices, and then the rows that are left.
use Rattle.std.proofs.Common.{◌<◌, ◌++◌, List, length, get_or, subst, arith}
use Rattle.query_eval.specs.Grouping.{IsHeld}
use Rattle.query_eval.specs.Slices.{rows_sliced, slices_of_spans}
use Rattle.query_eval.specs.declared.grouping.split.Slice.{Slice}
use Rattle.query_eval.specs.declared.grouping.split.Span.{Span}
use Rattle.query_eval.proofs.SharedLemmas.{counted_left, held_shared, held_sliced, taken_sliced}
use Rattle.query_eval.proofs.tallies.split_tallies.count_split.Goals as goal

pub returns-then-next_true-eq1024-clause-held : goal.returns-then-next_true-eq1024-clause-held
returns-then-next_true-eq1024-clause-held c = λ a v kind nulls g t taken l h.
    let split = c.args.split.now in
    let spanned = subst (λ (ss : List Span). IsHeld (taken ++ rows_sliced v (slices_of_spans split.kept ss) g) a (get_or c.count_spans.new.tallies.items g t)) c.as_slice.ensures.value (c.count_spans.ensures.held a v kind nulls g t taken l h) in
    let inside : g < length c.count_spans.new.tallies.items = omega (arith, l, c.count_spans.ensures.size) in
    let before = taken ++ rows_sliced v (slices_of_spans split.kept split.spans.items) g in
    held_sliced v split g a taken (get_or c.count_slices.new.tallies.items g t) (λ n m. c.next_true.ensures.none n (omega arith) (omega (arith, m, c.if-next_true-eq1024.true)))
    (subst (λ (ss : List Slice). IsHeld (before ++ rows_sliced v ss g) a (get_or c.count_slices.new.tallies.items g t)) c.as_slice-2.ensures.value (c.count_slices.ensures.held a v kind nulls g t before inside spanned))

pub returns-clause-held : goal.returns-clause-held
returns-clause-held c = λ a v kind nulls g t taken l h.
    let split = c.args.split.now in
    let spanned = subst (λ (ss : List Span). IsHeld (taken ++ rows_sliced v (slices_of_spans split.kept ss) g) a (get_or c.count_spans.new.tallies.items g t)) c.as_slice.ensures.value (c.count_spans.ensures.held a v kind nulls g t taken l h) in
    let inside : g < length c.count_spans.new.tallies.items = omega (arith, l, c.count_spans.ensures.size) in
    let further : g < length c.count_slices.new.tallies.items = omega (arith, inside, c.count_slices.ensures.size) in
    let before = taken ++ rows_sliced v (slices_of_spans split.kept split.spans.items) g in
    held_shared v split g a taken (get_or c.count_rows.new.tallies.items g t)
    (c.count_rows.ensures.held a v split.left kind (counted_left a v split.left c.args.nulls.now c.and_not-rows.result nulls c.and_not-rows.ensures) g t (taken_sliced v split g taken) further
    (subst (λ (ss : List Slice). IsHeld (before ++ rows_sliced v ss g) a (get_or c.count_slices.new.tallies.items g t)) c.as_slice-2.ensures.value (c.count_slices.ensures.held a v kind nulls g t before inside spanned)))
