-- What is retained is what is lacked.
use Rattle.std.specs.Prelude.{not}
use Rattle.std.specs.FinSet as set
use Rattle.std.proofs.Common.{rules, ◌∙◌}
use Rattle.std.proofs.lemmas.Fn.{filter_same}
use Rattle.replica_store.specs.Segments.{Entry}
use Rattle.replica_store.proofs.Putting.{filter_lacked}
use Rattle.replica_store.proofs.batches.keep_lacked.Goals as goal

pub returns : goal.returns
returns c = filter_same _ (λ (e : Entry). not (set.contains c.args.names.now e.0)) _ (λ x b f' k. search rules) _ _ c.retain.ensures.filtered ∙ filter_lacked c.args.names.now c.args.batches.now.items
