-- What is counted is what the union has more.
use Rattle.std.specs.Prelude.{length}
use Rattle.std.proofs.Common.{sym, ap, ◌∙◌, arith}
use Rattle.std.proofs.lemmas.Bool.Decides.{nat_tests}
use Rattle.std.specs.FinSet as set
use Rattle.replica_store.specs.Replica.{lacked_by}
use Rattle.replica_store.specs.Segments.{StoreForm}
use Rattle.replica_store.proofs.Brings.{count_brought}
use Rattle.replica_store.proofs.store.Store.exceeds_with.Goals as goal

pub returns : goal.returns
returns c =
    let count = c.count_new.ensures ∙ (λ i. length (lacked_by (set.union (c.names.ensures i) (c.names-2.ensures i)) c.entries.result.now)) in
    let all = count_brought c.args.held.now c.args.self.now c.held.inside.batches.segments c.self.inside.batches.segments c.args.offer.now c.entries.result.now c.requires
    (ap (λ (s : StoreForm). s.replica.state.batches) (sym c.held.view_is)) (ap (λ (s : StoreForm). s.replica.state.batches) (sym c.self.view_is)) c.entries.ensures.value c.entries.ensures.rows in
    grind (arith, nat_tests, all, count, c.requires.limit, c.batches.ensures.value, c.batches-2.ensures.value)
