-- The names of one summary more.
use Rattle.std.proofs.Common.{◌≡◌, ◌∙◌, ◌||◌, sym, ap, take}
use Rattle.std.specs.FinSet as set
use Rattle.std.proofs.lemmas.List.Folds.{list_any_more}
use Rattle.table_model.specs.Name.{name_cmp}
use Rattle.table_model.proofs.NameOrder.{names_total}
use Rattle.replica_store.specs.Exchange.{SummaryForm}
use Rattle.partial_answers.specs.Counted.{Names}
use Rattle.partial_commands.specs.Expecting.{is_expected, is_named_by}
use Rattle.partial_commands.proofs.expecting.expected_names.Goals as goal

pub loop-summary-init : goal.loop-summary-init
loop-summary-init c = λ q. ap (λ (s : Names). set.contains s q) c.new-names.ensures ∙ set.contains-empty name_cmp q

pub loop-summary-preserved : goal.loop-summary-preserved
loop-summary-preserved c = λ q.
    let summaries = c.args.summaries.now in
    let i = c.loop-summary.summary-index in
    let names : Names = c.loop-summary.names in
    let x : SummaryForm = c.summary-item.result in
    ap (λ (s : Names). set.contains s q) c.in_ok-join.ensures.ok
    ∙ set.contains-union names_total names c.names.result.now q
    ∙ (λ j. c.loop-summary.invariant q j || set.contains (c.names.ensures.value j) q)
    ∙ ap (λ (s : SummaryForm). is_expected (take i summaries) q || is_named_by q s) c.summary-item.is
    ∙ sym (list_any_more (is_named_by q) summaries i x c.loop-summary-test.true)
