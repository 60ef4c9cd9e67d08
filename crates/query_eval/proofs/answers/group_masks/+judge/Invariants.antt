-- The terms and the factors so far are judged.
use Rattle.std.proofs.Common.{take}
use Rattle.table_model.specs.Query.{formula_of_terms, formula_of_factors}
use Rattle.query_eval.specs.FieldPlaces.{truth_in}
use Rattle.query_eval.specs.Where.{IsPair}
use Rattle.query_eval.proofs.answers.group_masks.+judge.Given as goal

abbrev pub invariant-condition_masks-loop-term : goal.invariant-condition_masks-loop-term
invariant-condition_masks-loop-term l = IsPair l.mask (truth_in l.schema.columns l.plan l.groups (formula_of_terms (take l.term-index l.term-items))) l.pair

abbrev pub invariant-term_masks-loop-factor : goal.invariant-term_masks-loop-factor
invariant-term_masks-loop-factor l = IsPair l.mask (truth_in l.schema.columns l.plan l.groups (formula_of_factors (take l.factor-index l.factor-items))) l.pair
