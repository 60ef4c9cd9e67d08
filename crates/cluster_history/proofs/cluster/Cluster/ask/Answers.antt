use Rattle.std.proofs.Common.{◌≡◌, ◌∙◌, ◌<◌, ◌≤◌, refl, inl, length, arith}
use Rattle.std.proofs.lemmas.Result.{err_from_is_err_and}
use Rattle.replica_store.specs.Exchange.{summary_of}
use Rattle.cluster_history.specs.Cluster.{message_limit}
use Rattle.cluster_history.specs.Message.{messages_in}
use Rattle.cluster_history.specs.declared.message.Message.TheVariants.{Summary}
use Rattle.cluster_history.proofs.Forms.{nowhere, parts_same}
use Rattle.cluster_history.proofs.Sent.{sent_as, ask_nowhere, ask_full, ask_lacks, ask_sends, some_numbered, numbered_store, has_room, is_full, same_ok, summary_sent}
use Rattle.cluster_history.specs.declared.step.Step.TheVariants.{Ask}
use Rattle.cluster_history.proofs.cluster.Cluster.ask.Goals as goal

pub returns-in_err-place : goal.returns-in_err-place
returns-in_err-place c =
    let p = err_from_is_err_and c.from_residual.result c.from_residual.ensures.1 in
    rw (p.1, p.2) (nowhere c.args.self.now (Ask c.args.replica) c.in_err-place.field-0.0 c.in_err-place.ensures.missing.0 (ask_nowhere c.args.self.now.parts c.args.replica c.in_err-place.ensures.missing.1))

pub returns-then-len-ge-MESSAGE_LIMIT : goal.returns-then-len-ge-MESSAGE_LIMIT
returns-then-len-ge-MESSAGE_LIMIT c =
    let past : message_limit ≤ length c.self.inside.messages.items = omega arith in
    let here = some_numbered c.args.self.now.parts c.self.inside.schema c.self.inside.stores.items (messages_in c.self.inside.messages.items) c.args.replica c.in_ok-place.place (parts_same c.self.view_is) c.in_ok-place.ensures.place c.in_ok-place.ensures.bound in
    (refl, inl (ask_full c.args.self.now.parts c.args.replica here.0 here.1 (is_full c.args.self.now.parts c.self.inside.schema c.self.inside.stores.items c.self.inside.messages.items (parts_same c.self.view_is) past)))

pub returns-in_err-summary : goal.returns-in_err-summary
returns-in_err-summary c =
    let p = err_from_is_err_and c.from_residual-in_err-summary.result c.from_residual-in_err-summary.ensures.1 in
    let room : length c.self.inside.messages.items < message_limit = omega arith in
    rw (p.1, p.2) (
      refl,
      ask_lacks c.args.self.now.parts c.args.replica c.index.result.now.replica c.in_err-summary.field-0.0
          (numbered_store c.args.self.now.parts c.self.inside.schema c.self.inside.stores.items (messages_in c.self.inside.messages.items) c.args.replica c.in_ok-place.place c.index.result.now (parts_same c.self.view_is) c.in_ok-place.ensures.place c.in_ok-place.ensures.bound c.index.ensures)
          (has_room c.args.self.now.parts c.self.inside.schema c.self.inside.stores.items c.self.inside.messages.items (parts_same c.self.view_is) room) c.in_err-summary.ensures,
    )

pub returns : goal.returns
returns c =
    let room : length c.self.inside.messages.items < message_limit = omega arith in
    let below = has_room c.args.self.now.parts c.self.inside.schema c.self.inside.stores.items c.self.inside.messages.items (parts_same c.self.view_is) room in
    let same : summary_of c.index.result.now.replica ≡ c.in_ok-summary.summary = same_ok (summary_of c.index.result.now.replica) c.in_ok-summary.summary c.in_ok-summary.ensures in
    sent_as c.args.self.now c.send.new.self (Ask c.args.replica) c.send.result (Summary c.in_ok-summary.summary)
    (ask_sends c.args.self.now.parts c.args.replica c.index.result.now.replica
    (numbered_store c.args.self.now.parts c.self.inside.schema c.self.inside.stores.items (messages_in c.self.inside.messages.items) c.args.replica c.in_ok-place.place c.index.result.now (parts_same c.self.view_is) c.in_ok-place.ensures.place c.in_ok-place.ensures.bound c.index.ensures) below
    ∙ summary_sent c.args.self.now.parts (summary_of c.index.result.now.replica) c.in_ok-summary.summary same)
    (λ ok. ok) (λ sent reply. sent) c.send.ensures.acts c.send.ensures.segments c.send.ensures.refused
