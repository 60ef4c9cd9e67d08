-- What is lacked of both parts is what is lacked of the first, and then of the second.
use Rattle.std.proofs.Common.{sym, ap, ◌∙◌, ◌++◌}
use Rattle.replica_store.specs.Replica.{lacked_by}
use Rattle.replica_store.proofs.InParts.{lacked-append}
use Rattle.replica_store.proofs.batches.copies_lacked.Goals as goal

pub returns : goal.returns
returns c =
    c.in_ok-push_all_lacked-2.ensures
    ∙ (λ i. (c.in_ok-push_all_lacked.ensures ∙ ap (λ xs. xs ++ lacked_by c.args.names.now c.args.first.now) c.new-copies.ensures.items) i ++ lacked_by c.args.names.now c.args.second.now)
    ∙ sym (lacked-append c.args.names.now c.args.first.now c.args.second.now)
