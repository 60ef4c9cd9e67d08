-- The spans, the slices, and then the rows that are left.
use Rattle.std.proofs.Common.{◌<◌, ◌++◌, ◌∙◌, List, length, get_or, subst, sym, arith}
use Rattle.query_eval.specs.Grouping.{IsHeld}
use Rattle.query_eval.specs.Slices.{rows_sliced, slices_of_spans}
use Rattle.query_eval.specs.declared.grouping.split.Span.{Span}
use Rattle.query_eval.proofs.GroupingLemmas.{shown_values}
use Rattle.query_eval.proofs.SharedLemmas.{held_shared, held_sliced, taken_sliced}
use Rattle.query_eval.proofs.tallies.split_tallies.add_split.Goals as goal

pub returns-then-next_true-eq1024-clause-held : goal.returns-then-next_true-eq1024-clause-held
returns-then-next_true-eq1024-clause-held c = λ a v kind cells g t taken l h.
    let split = c.args.split.now in
    let spanned = subst (λ (ss : List Span). IsHeld (taken ++ rows_sliced v (slices_of_spans split.kept ss) g) a (get_or c.add_spans.new.tallies.items g t)) c.as_slice-spans.ensures.value (c.in_ok-add_spans.ensures.held a v kind cells g t taken l h) in
    let inside : g < length c.add_spans.new.tallies.items = omega (arith, l, c.in_ok-add_spans.ensures.size) in
    held_sliced v split g a taken (get_or c.add_sliced.new.tallies.items g t) (λ n m. c.next_true.ensures.none n (omega arith) (omega (arith, m, c.if-next_true-eq1024.true)))
    (c.in_ok-add_sliced.ensures.held a v kind cells g t (taken ++ rows_sliced v (slices_of_spans split.kept split.spans.items) g) inside spanned)

pub returns-in-Sum-clause-held : goal.returns-in-Sum-clause-held
returns-in-Sum-clause-held c = λ a v kind cells g t taken l h.
    let split = c.args.split.now in
    let spanned = subst (λ (ss : List Span). IsHeld (taken ++ rows_sliced v (slices_of_spans split.kept ss) g) a (get_or c.add_spans.new.tallies.items g t)) c.as_slice-spans.ensures.value (c.in_ok-add_spans.ensures.held a v kind cells g t taken l h) in
    let inside : g < length c.add_spans.new.tallies.items = omega (arith, l, c.in_ok-add_spans.ensures.size) in
    let further : g < length c.add_sliced.new.tallies.items = omega (arith, inside, c.in_ok-add_sliced.ensures.size) in
    held_shared v split g a taken (get_or c.sum_rows.new.tallies.items g t)
    (c.sum_rows.ensures.held a v split.left (sym kind ∙ c.in-Sum.is) (shown_values a v split.left c.args.nulls.now c.and_not-rows.result c.args.values.now c.and_not-rows.ensures cells) g t (taken_sliced v split g taken) further
    (c.in_ok-add_sliced.ensures.held a v kind cells g t (taken ++ rows_sliced v (slices_of_spans split.kept split.spans.items) g) inside spanned))

pub returns-in_ok-add_rows-in-Count-clause-held : goal.returns-in_ok-add_rows-in-Count-clause-held
returns-in_ok-add_rows-in-Count-clause-held c = λ a v kind cells g t taken l h.
    let split = c.args.split.now in
    let spanned = subst (λ (ss : List Span). IsHeld (taken ++ rows_sliced v (slices_of_spans split.kept ss) g) a (get_or c.add_spans.new.tallies.items g t)) c.as_slice-spans.ensures.value (c.in_ok-add_spans.ensures.held a v kind cells g t taken l h) in
    let inside : g < length c.add_spans.new.tallies.items = omega (arith, l, c.in_ok-add_spans.ensures.size) in
    let further : g < length c.add_sliced.new.tallies.items = omega (arith, inside, c.in_ok-add_sliced.ensures.size) in
    held_shared v split g a taken (get_or c.add_rows.new.tallies.items g t)
    (c.in_ok-add_rows-in-Count.ensures.held a v split.left (shown_values a v split.left c.args.nulls.now c.and_not-rows.result c.args.values.now c.and_not-rows.ensures cells) g t (taken_sliced v split g taken) further
    (c.in_ok-add_sliced.ensures.held a v kind cells g t (taken ++ rows_sliced v (slices_of_spans split.kept split.spans.items) g) inside spanned))
