use Rattle.std.proofs.Common.{◌≡◌, ◌<◌, ◌≤◌, refl, inl, length, arith, Some, None, List}
use Rattle.std.proofs.lemmas.Result.{err_from_is_err_and}
use Rattle.cluster_history.specs.Cluster.{numbered, message_limit}
use Rattle.cluster_history.specs.Message.{Carried, listing_in, messages_in}
use Rattle.cluster_history.specs.declared.message.Message.TheVariants.{Offer}
use Rattle.cluster_history.proofs.Codings.{served_at}
use Rattle.cluster_history.proofs.Forms.{nowhere, parts_same}
use Rattle.cluster_history.proofs.Sent.{sent_as, numbered_store, some_numbered, said_of, has_room, is_full, serve_nowhere, serve_none, serve_full, serve_refused, serve_sends}
use Rattle.cluster_history.specs.declared.step.Step.TheVariants.{Serve}
use Rattle.cluster_history.proofs.cluster.Cluster.serve.Goals as goal

pub returns-in_err-place : goal.returns-in_err-place
returns-in_err-place c =
    let p = err_from_is_err_and c.from_residual.result c.from_residual.ensures.1 in
    rw (p.1, p.2) (nowhere c.args.self.now (Serve c.args.replica c.args.message) c.in_err-place.field-0.0 c.in_err-place.ensures.missing.0 (serve_nowhere c.args.self.now.parts c.args.replica c.args.message c.in_err-place.ensures.missing.1))

pub returns-in_default : goal.returns-in_default
returns-in_default c =
    let here = some_numbered c.args.self.now.parts c.self.inside.schema c.self.inside.stores.items (messages_in c.self.inside.messages.items) c.args.replica c.in_ok-place.place (parts_same c.self.view_is) c.in_ok-place.ensures.place c.in_ok-place.ensures.bound in
    let none : None ≡ listing_in (numbered c.args.self.now.parts.messages c.args.message) =
    said_of (λ (messages : List Carried). listing_in (numbered messages c.args.message)) c.args.self.now.parts c.self.inside.schema c.self.inside.stores.items c.self.inside.messages.items c.as_slice.result.now None (parts_same c.self.view_is) c.as_slice.ensures.value c.in_default.ensures in
    (refl, inl (serve_none c.args.self.now.parts c.args.replica c.args.message here.0 here.1 none))

pub returns-then-len-ge-MESSAGE_LIMIT : goal.returns-then-len-ge-MESSAGE_LIMIT
returns-then-len-ge-MESSAGE_LIMIT c =
    let past : message_limit ≤ length c.self.inside.messages.items = omega arith in
    let here = some_numbered c.args.self.now.parts c.self.inside.schema c.self.inside.stores.items (messages_in c.self.inside.messages.items) c.args.replica c.in_ok-place.place (parts_same c.self.view_is) c.in_ok-place.ensures.place c.in_ok-place.ensures.bound in
    let is : Some c.in-Some.summary.now ≡ listing_in (numbered c.args.self.now.parts.messages c.args.message) =
    said_of (λ (messages : List Carried). listing_in (numbered messages c.args.message)) c.args.self.now.parts c.self.inside.schema c.self.inside.stores.items c.self.inside.messages.items c.as_slice.result.now (Some c.in-Some.summary.now) (parts_same c.self.view_is) c.as_slice.ensures.value c.in-Some.ensures in
    (refl, inl (serve_full c.args.self.now.parts c.args.replica c.args.message here.0 c.in-Some.summary.now here.1 is (is_full c.args.self.now.parts c.self.inside.schema c.self.inside.stores.items c.self.inside.messages.items (parts_same c.self.view_is) past)))

pub returns-in_err-offer : goal.returns-in_err-offer
returns-in_err-offer c =
    let p = err_from_is_err_and c.from_residual-in_err-offer.result c.from_residual-in_err-offer.ensures.1 in
    let room : length c.self.inside.messages.items < message_limit = omega arith in
    let is : Some c.in-Some.summary.now ≡ listing_in (numbered c.args.self.now.parts.messages c.args.message) =
    said_of (λ (messages : List Carried). listing_in (numbered messages c.args.message)) c.args.self.now.parts c.self.inside.schema c.self.inside.stores.items c.self.inside.messages.items c.as_slice.result.now (Some c.in-Some.summary.now) (parts_same c.self.view_is) c.as_slice.ensures.value c.in-Some.ensures in
    rw (p.1, p.2) (
      refl,
      serve_refused c.args.self.now.parts c.args.replica c.args.message c.index.result.now.replica c.in-Some.summary.now c.in_err-offer.field-0.0
          (numbered_store c.args.self.now.parts c.self.inside.schema c.self.inside.stores.items (messages_in c.self.inside.messages.items) c.args.replica c.in_ok-place.place c.index.result.now (parts_same c.self.view_is) c.in_ok-place.ensures.place c.in_ok-place.ensures.bound c.index.ensures)
          is (has_room c.args.self.now.parts c.self.inside.schema c.self.inside.stores.items c.self.inside.messages.items (parts_same c.self.view_is) room) c.in_err-offer.ensures.state,
    )

pub returns : goal.returns
returns c =
    let room : length c.self.inside.messages.items < message_limit = omega arith in
    let below = has_room c.args.self.now.parts c.self.inside.schema c.self.inside.stores.items c.self.inside.messages.items (parts_same c.self.view_is) room in
    let is : Some c.in-Some.summary.now ≡ listing_in (numbered c.args.self.now.parts.messages c.args.message) =
    said_of (λ (messages : List Carried). listing_in (numbered messages c.args.message)) c.args.self.now.parts c.self.inside.schema c.self.inside.stores.items c.self.inside.messages.items c.as_slice.result.now (Some c.in-Some.summary.now) (parts_same c.self.view_is) c.as_slice.ensures.value c.in-Some.ensures in
    sent_as c.args.self.now c.send.new.self (Serve c.args.replica c.args.message) c.send.result (Offer c.in_ok-offer.offer)
    (serve_sends c.args.self.now.parts c.args.replica c.args.message c.index.result.now.replica c.in-Some.summary.now c.in_ok-offer.offer.schema c.in_ok-offer.offer.state
    (numbered_store c.args.self.now.parts c.self.inside.schema c.self.inside.stores.items (messages_in c.self.inside.messages.items) c.args.replica c.in_ok-place.place c.index.result.now (parts_same c.self.view_is) c.in_ok-place.ensures.place c.in_ok-place.ensures.bound c.index.ensures)
    is below c.in_ok-offer.ensures.schema c.in_ok-offer.ensures.state)
    (λ ok. ok)
    (λ sent reply. served_at c.self.inside.schema c.self.inside.stores.items c.self.inside.messages.items c.args.replica c.args.message c.in_ok-place.place c.index.result.now c.in-Some.summary.now c.in_ok-offer.offer.segments c.send.new.self.segments c.args.self.now
    c.index.ensures c.in_ok-offer.ensures.segments is sent c.self.view_is c.in_ok-place.ensures.place c.in_ok-place.ensures.bound)
    c.send.ensures.acts c.send.ensures.segments c.send.ensures.refused
