-- The map has as many entries as the vectors, and its rows are as many.
use Rattle.std.specs.Prelude.{◌++◌, List}
use Rattle.std.proofs.Common.{arith, ap}
use Rattle.std.proofs.lemmas.List.{length-append}
use Rattle.std.specs.FinMap as map
use Rattle.replica_store.specs.Segments.{BatchesForm, Entry}
use Rattle.replica_store.proofs.Maps.{len-as_map}
use Rattle.replica_store.proofs.RowsIn.{len-rows_in}
use Rattle.replica_store.proofs.batches.Batches.len.Goals as goal

pub returns-clause-count : goal.returns-clause-count
returns-clause-count c =
    let es : List Entry = c.self.inside.up_to.items in
    let fs : List Entry = c.self.inside.past.items in
    omega (arith, c.len.ensures, c.len-2.ensures, c.self.inside.up_to.ok.0, c.self.inside.past.ok.0, length-append es fs, len-as_map (es ++ fs) c.self.invariant.kept.sorted, ap map.len (ap (λ (b : BatchesForm). b.segments) c.self.view_is))

pub returns-clause-rows : goal.returns-clause-rows
returns-clause-rows c =
    let es : List Entry = c.self.inside.up_to.items in
    let fs : List Entry = c.self.inside.past.items in
    omega (arith, c.len.ensures, c.len-2.ensures, c.self.inside.up_to.ok.0, c.self.inside.past.ok.0, length-append es fs, len-as_map (es ++ fs) c.self.invariant.kept.sorted, ap map.len (ap (λ (b : BatchesForm). b.segments) c.self.view_is), len-rows_in c.args.self.now.segments)
