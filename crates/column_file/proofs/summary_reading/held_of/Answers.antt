use Rattle.std.proofs.Common.{◌∙◌, get_or, ap}
use Rattle.std.specs.FinSet as set
use Rattle.table_model.specs.Name.{name_cmp}
use Rattle.table_model.specs.declared.names.BatchName.{BatchName}
use Rattle.column_file.proofs.OrderedLists.{held_more}
use Rattle.column_file.proofs.summary_reading.held_of.Goals as goal

pub loop-name-preserved : goal.loop-name-preserved
loop-name-preserved c =
    let none : BatchName = record { origin = record { 0 = 0 }; number = record { 0 = 0 } } in
    let name : BatchName = get_or c.args.names.now c.loop-name.name-index none in
    c.in_ok-insert.ensures.ok ∙ ap (λ (held : set.FinSet name_cmp). set.insert held name) c.loop-name.invariant ∙ held_more c.args.names.now c.loop-name.name-index none c.loop-name-test.true
