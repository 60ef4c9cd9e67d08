-- By columns, at each group by the places of the operands.
use Rattle.std.proofs.Common.{ap, ◌∙◌}
use Rattle.query_eval.specs.FieldPlaces.{group_at, placed_truth, predicate_in}
use Rattle.query_eval.specs.declared.answers.field_places.PredicatePlaces.{PredicatePlaces}
use Rattle.query_eval.proofs.HavingLemmas.{predicate_meant}
use Rattle.query_eval.proofs.PairLemmas.{pair_like}
use Rattle.query_eval.proofs.answers.group_masks.predicate_masks.Goals as goal

pub returns-in-Some : goal.returns-in-Some
returns-in-Some c =
    let columns = c.args.schema.now.columns in
    let plan = c.args.plan.now in
    let groups = c.args.groups.now in
    let predicate = c.args.predicate.now in
    pair_like c.args.mask.now (λ n. placed_truth predicate c.of-places.result (group_at groups n)) (predicate_in columns plan groups predicate) c.in-Some.pair
    (λ n. ap (λ (at : PredicatePlaces). placed_truth predicate at (group_at groups n)) c.of-places.ensures ∙ predicate_meant columns plan (group_at groups n) predicate)
    (c.in-Some.ensures groups c.requires)
