-- One field more.
use Rattle.std.proofs.Common.{rules, ◌≡◌, ◌<◌, List, length, map, get_or, sym, ap, subst, ◌∙◌, arith}
use Rattle.std.proofs.lemmas.List.{take_all}
use Rattle.query_eval.specs.Aggregate.{aggregate_value}
use Rattle.query_eval.specs.Grouping.{IsHeld}
use Rattle.query_eval.specs.declared.tallies.aggregate.Aggregate.{Aggregate}
use Rattle.query_eval.specs.declared.tallies.aggregate.Aggregate.TheVariants.{Rows}
use Rattle.query_eval.specs.declared.tallies.tally.Tally.{Tally}
use Rattle.query_eval.proofs.OrderLemmas.{fields_more}
use Rattle.query_eval.proofs.tallies.whole_tallies.tallied_fields.Goals as goal

pub loop-i-preserved : goal.loop-i-preserved
loop-i-preserved c = λ table rows few h.
    let i = c.loop-i.i in
    let named = c.args.aggregates.now in
    let t : Tally = c.index-tallies-i.result in
    let ln : i < length named = omega (arith, c.loop-i-test.true, c.min-named.ensures) in
    let mine : t ≡ get_or c.args.tallies.now i t = search rules in
    fields_more named i Rows rows c.loop-i.fields.items c.push.new.self.items c.in_ok-field.field ln (c.loop-i.invariant table rows few h) c.in_ok-push.ensures.items
    (c.in_ok-field.ensures table rows few (subst (IsHeld rows (get_or named i Rows)) (sym mine) (h.each i Rows t ln)))

pub returns : goal.returns
returns c = λ table rows few h.
    c.loop-i.invariant table rows few h
    ∙ ap (λ (named : List Aggregate). map (λ a. aggregate_value a rows) named) (take_all c.loop-i.i c.args.aggregates.now (omega (arith, h.size, c.loop-i-test.false, c.min-named.ensures)))
