-- The union of batches that are apart has those of both.
use Rattle.std.specs.Prelude.{◌+◌}
use Rattle.std.proofs.Common.{sym, ap, ◌∙◌}
use Rattle.std.specs.FinMap as map
use Rattle.replica_store.specs.Brought.{BroughtForm, both_of}
use Rattle.replica_store.proofs.Brings.{len_apart}
use Rattle.replica_store.proofs.brought.Brought.batches.Goals as goal

pub returns-clause-value : goal.returns-clause-value
returns-clause-value c =
    (λ i. c.batches.ensures.value i + c.batches-2.ensures.value i)
    ∙ sym (len_apart c.self.inside.held.now.replica.state.batches c.self.inside.own.replica.state.batches c.self.invariant.apart)
    ∙ ap (λ (b : BroughtForm). map.len (both_of b).state.batches) c.self.view_is
