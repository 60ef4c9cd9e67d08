-- One tally more.
use Rattle.std.proofs.Common.{◌<◌, [], ◌∷◌, length, get_or, ap, ◌∙◌, arith, length-append}
use Rattle.std.proofs.lemmas.List.{get_or_default}
use Rattle.query_eval.specs.declared.tallies.aggregate.Aggregate.{Aggregate}
use Rattle.query_eval.specs.declared.tallies.aggregate.Aggregate.TheVariants.{Rows}
use Rattle.query_eval.proofs.GroupingLemmas.{held_none}
use Rattle.query_eval.proofs.TakenLemmas.{held_pushed}
use Rattle.query_eval.proofs.tallies.whole_tallies.no_tallies.Goals as goal

pub loop-aggregate-init : goal.loop-aggregate-init
loop-aggregate-init c = record {
  size = ap length c.new-tallies.ensures.items;
  held = λ j a t l. absurd (omega (arith, l));
}

pub loop-aggregate-preserved : goal.loop-aggregate-preserved
loop-aggregate-preserved c =
    let inv = c.loop-aggregate.invariant in
    let now = c.loop-aggregate.tallies.items in
    let i = c.loop-aggregate.aggregate-index in
    let named = c.args.aggregates.now in
    let one : Aggregate = get_or named i Rows in
    let within : i < length named = omega (arith, c.loop-aggregate-test.true) in
    record {
      size = omega (arith, inv.size, ap length c.in_ok-push.ensures.items, length-append now (c.in_ok-new.field-0 ∷ []));
      held = held_pushed [] named i now c.push.new.self.items one c.in_ok-new.field-0 within inv.size c.in_ok-push.ensures.items (get_or_default named i Rows one within) (held_none one c.in_ok-new.field-0 c.in_ok-new.ensures.values (c.in_ok-new.ensures.kind ∙ c.aggregate_kind.ensures)) inv.held;
    }
