-- By codes, or slice by slice.
use Rattle.std.proofs.Common.{◌++◌, List, get_or, sym, subst, ◌∙◌}
use Rattle.query_eval.specs.Grouping.{IsHeld}
use Rattle.query_eval.specs.Slices.{rows_sliced}
use Rattle.query_eval.specs.declared.grouping.split.Slice.{Slice}
use Rattle.query_eval.proofs.tallies.split_tallies.add_sliced.Goals as goal

pub returns-then-are_coded_sums-clause-held : goal.returns-then-are_coded_sums-clause-held
returns-then-are_coded_sums-clause-held c = λ a v kind cells.
    c.sum_codes.ensures.held a v (sym kind ∙ c.are_coded_sums.ensures.kind c.if-are_coded_sums.true) cells

pub returns-clause-held : goal.returns-clause-held
returns-clause-held c = λ a v kind cells g t taken l h.
    subst (λ (ss : List Slice). IsHeld (taken ++ rows_sliced v ss g) a (get_or c.add_slices.new.tallies.items g t)) c.as_slice.ensures.value (c.in_ok-add_slices.ensures.held a v cells g t taken l h)
