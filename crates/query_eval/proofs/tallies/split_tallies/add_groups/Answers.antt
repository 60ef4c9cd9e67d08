-- One group more.
use Rattle.std.proofs.Common.{ap, length, ◌∙◌, arith, length-append, [], ◌∷◌}
use Rattle.query_eval.proofs.GroupingLemmas.{fresh_push, held_none, known_push}
use Rattle.query_eval.proofs.tallies.split_tallies.add_groups.Goals as goal

pub loop-preserved : goal.loop-preserved
loop-preserved c =
    let inv = c.loop.invariant in
    let old = c.args.tallies.now.items in
    let now = c.loop.tallies.items in
    record {
      size = omega (arith, inv.size, ap length c.in_ok-push.ensures.items, length-append now (c.in_ok-tally.tally ∷ []));
      known = known_push old now c.push.new.self.items c.in_ok-tally.tally c.in_ok-push.ensures.items (omega (arith, inv.size)) inv.known;
      fresh = fresh_push (length old) c.args.aggregate now c.push.new.self.items c.in_ok-tally.tally c.in_ok-push.ensures.items (held_none c.args.aggregate c.in_ok-tally.tally c.in_ok-tally.ensures.values (c.in_ok-tally.ensures.kind ∙ c.aggregate_kind.ensures)) inv.fresh;
    }
