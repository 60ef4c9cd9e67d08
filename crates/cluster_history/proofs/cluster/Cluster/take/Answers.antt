use Rattle.std.proofs.Common.{◌≡◌, ◌≢◌, ◌∙◌, Ok, sym, refl, inl, None, List}
use Rattle.std.proofs.lemmas.Bool.{false≢true}
use Rattle.std.proofs.lemmas.Result.{err_from_is_err_and}
use Rattle.cluster_history.specs.Cluster.{take_step, taking, done_reply, numbered}
use Rattle.cluster_history.specs.Message.{Carried, messages_in, offering_in}
use Rattle.cluster_history.specs.declared.reply.Reply.TheVariants.{Done}
use Rattle.cluster_history.proofs.Codings.{joined_at, brought_in}
use Rattle.cluster_history.proofs.Forms.{nowhere, parts_same, store_left}
use Rattle.cluster_history.proofs.Idle.{refused_where, call_same}
use Rattle.cluster_history.proofs.Placed.{no_place, call_done, call_refused}
use Rattle.cluster_history.proofs.Sent.{said_of, taking_is, taking_acts, take_none}
use Rattle.cluster_history.specs.declared.step.Step.TheVariants.{Take}
use Rattle.cluster_history.proofs.cluster.Cluster.take.Goals as goal

pub returns-in_err-place : goal.returns-in_err-place
unfolding take_step
returns-in_err-place c =
    let p = err_from_is_err_and c.from_residual.result c.from_residual.ensures.1 in
    rw (p.1, p.2) (nowhere c.args.self.now (Take c.args.replica c.args.message) c.in_err-place.field-0.0 c.in_err-place.ensures.missing.0 (no_place done_reply c.args.self.now.parts c.args.replica (taking (offering_in (numbered c.args.self.now.parts.messages c.args.message))) c.in_err-place.ensures.missing.1))

pub returns-in_default : goal.returns-in_default
returns-in_default c =
    let none : None ≡ offering_in (numbered c.args.self.now.parts.messages c.args.message) =
    said_of (λ (messages : List Carried). offering_in (numbered messages c.args.message)) c.args.self.now.parts c.self.inside.schema c.self.inside.stores.items c.self.inside.messages.items c.as_slice.result.now None
    (parts_same c.self.view_is) c.as_slice.ensures.value c.in_default.ensures.offer in
    (refl, inl (take_none c.args.self.now.parts c.args.replica c.args.message c.in_ok-place.place c.in_ok-place.ensures.place c.in_ok-place.ensures.bound none))

pub returns-in_err-apply : goal.returns-in_err-apply
unfolding take_step
returns-in_err-apply c =
    let p = err_from_is_err_and c.from_residual-in_err-apply.result c.from_residual-in_err-apply.ensures.1 in
    let offer = c.in-Some.offer.now in
    let is = said_of (λ (messages : List Carried). offering_in (numbered messages c.args.message)) c.args.self.now.parts c.self.inside.schema c.self.inside.stores.items c.self.inside.messages.items c.as_slice.result.now _
    (parts_same c.self.view_is) c.as_slice.ensures.value c.in-Some.ensures.offer in
    let lacks : take_step c.args.self.now.parts c.args.replica c.args.message ≢ Ok (Done, c.args.self.now.parts) = λ same.
    false≢true (c.in_err-apply.ensures.idle
    (sym (taking_is c.args.self.now.parts c.args.message offer c.index_mut.result.now.replica is)
    ∙ call_same c.args.self.now.parts c.self.inside.schema c.self.inside.stores.items (messages_in c.self.inside.messages.items) c.args.replica c.in_ok-place.place (taking (offering_in (numbered c.args.self.now.parts.messages c.args.message))) c.index_mut.result.now
    (parts_same c.self.view_is) c.in_ok-place.ensures.place c.in_ok-place.ensures.bound c.index_mut.ensures.value same)) in
    rw (p.1, p.2) (
      store_left c.args.self.now c.self.inside.schema c.self.inside.stores.items c.self.inside.messages.items c.in_ok-place.place c.index_mut.result.now c.apply.new.self
          c.self.view_is c.index_mut.ensures.value c.in_err-apply.ensures.refused,
      (refused_where lacks (call_refused done_reply c.args.self.now.parts c.self.inside.schema c.self.inside.stores.items (messages_in c.self.inside.messages.items) c.args.replica c.in_ok-place.place (taking (offering_in (numbered c.args.self.now.parts.messages c.args.message))) c.index_mut.result.now c.apply.new.self c.in_err-apply.field-0.0
          (parts_same c.self.view_is) c.in_ok-place.ensures.place c.in_ok-place.ensures.bound c.index_mut.ensures.value c.in_err-apply.ensures.refused
          (taking_acts c.args.self.now.parts c.args.message offer c.index_mut.result.now.replica c.apply.new.self.replica c.in_err-apply.field-0.0 is c.in_err-apply.ensures.acts))).1,
    )

pub returns : goal.returns
unfolding take_step
returns c =
    let offer = c.in-Some.offer.now in
    let is = said_of (λ (messages : List Carried). offering_in (numbered messages c.args.message)) c.args.self.now.parts c.self.inside.schema c.self.inside.stores.items c.self.inside.messages.items c.as_slice.result.now _
    (parts_same c.self.view_is) c.as_slice.ensures.value c.in-Some.ensures.offer in (
      call_done done_reply c.args.self.now.parts c.self.inside.schema c.self.inside.stores.items (messages_in c.self.inside.messages.items) c.args.replica c.in_ok-place.place (taking (offering_in (numbered c.args.self.now.parts.messages c.args.message))) c.index_mut.result.now c.apply.new.self tt
          (parts_same c.self.view_is) c.in_ok-place.ensures.place c.in_ok-place.ensures.bound c.index_mut.ensures.value
          (taking_is c.args.self.now.parts c.args.message offer c.index_mut.result.now.replica is ∙ c.in_ok-apply.ensures.acts),
      (
        offer.segments,
        brought_in c.args.self.now c.self.inside.schema c.self.inside.stores.items c.self.inside.messages.items c.as_slice.result.now c.args.message offer.segments c.self.view_is c.as_slice.ensures.value c.in-Some.ensures.segments,
        joined_at c.self.inside.schema c.self.inside.stores.items c.self.inside.messages.items c.args.replica c.in_ok-place.place c.index_mut.result.now c.apply.new.self offer.segments c.args.self.now
            c.index_mut.ensures.value c.in_ok-apply.ensures.segments c.self.view_is c.in_ok-place.ensures.place c.in_ok-place.ensures.bound,
      ),
    )
