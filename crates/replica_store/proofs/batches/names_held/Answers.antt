-- Each name is taken over from what is left to the names so far.
use Rattle.std.proofs.Common.{arith, ap, ◌∙◌}
use Rattle.std.specs.Prelude.{◌||◌, is_some}
use Rattle.std.specs.FinMap as map
use Rattle.std.specs.FinSet as set
use Rattle.table_model.specs.Name.{name_cmp}
use Rattle.replica_store.proofs.Offers.{named_more, named_all}
use Rattle.replica_store.proofs.batches.names_held.Goals as goal

pub loop-name-init : goal.loop-name-init
loop-name-init c = λ q.
    ap (λ s. set.contains s q || is_some (map.find name_cmp q c.args.batches.now)) c.new-names.ensures
    ∙ ap (λ b. b || is_some (map.find name_cmp q c.args.batches.now)) (set.contains-empty name_cmp q)

pub loop-name-preserved : goal.loop-name-preserved
loop-name-preserved c = λ q.
    named_more c.args.batches.now c.loop-name.name-index c.loop-name-item.result c.loop-name.names c.insert.new.self c.loop-name-test.true c.loop-name-item.is c.in_ok-insert.ensures.ok q
    ∙ c.loop-name.invariant q

pub returns : goal.returns
returns c = named_all c.args.batches.now c.loop-name.name-index c.loop-name.names c.requires.sorted (omega (arith, c.loop-name-test.false)) c.loop-name.invariant
