use Rattle.std.proofs.Common.{◌≡◌, ◌≢◌, Ok, length}
use Rattle.std.proofs.lemmas.Bool.{false≢true}
use Rattle.std.proofs.lemmas.Result.{err_from_is_err_and}
use Rattle.cluster_history.specs.Cluster.{merge_step}
use Rattle.cluster_history.specs.Message.{messages_in}
use Rattle.cluster_history.specs.declared.reply.Reply.TheVariants.{Done}
use Rattle.cluster_history.proofs.Codings.{itself_at, merged_at}
use Rattle.cluster_history.proofs.Forms.{nowhere, parts_same, stores_left}
use Rattle.cluster_history.proofs.Idle.{refused_where, merge_same}
use Rattle.cluster_history.proofs.Apart.{merge_no_first, merge_no_second, merge_itself, merge_done, merge_refused}
use Rattle.cluster_history.specs.declared.step.Step.TheVariants.{Merge}
use Rattle.cluster_history.proofs.cluster.Cluster.merge.Goals as goal

pub returns-in_err-place : goal.returns-in_err-place
returns-in_err-place c =
    let p = err_from_is_err_and c.from_residual.result c.from_residual.ensures.1 in
    rw (p.1, p.2) (nowhere c.args.self.now (Merge c.args.replica c.args.other) c.in_err-place.field-0.0 c.in_err-place.ensures.missing.0 (merge_no_first c.args.self.now.parts c.args.replica c.args.other c.in_err-place.ensures.missing.1))

pub returns-in_err-from : goal.returns-in_err-from
returns-in_err-from c =
    let p = err_from_is_err_and c.from_residual-in_err-from.result c.from_residual-in_err-from.ensures.1 in
    rw (p.1, p.2) (nowhere c.args.self.now (Merge c.args.replica c.args.other) c.in_err-from.field-0.0 c.in_err-from.ensures.missing.0 (merge_no_second c.args.self.now.parts c.args.replica c.args.other c.in_ok-place.place c.in_ok-place.ensures.place c.in_err-from.ensures.missing.1))

pub returns-then-place-from : goal.returns-then-place-from
returns-then-place-from c = (
  merge_itself c.args.self.now.parts c.args.replica c.args.other c.in_ok-place.place c.in_ok-from.from c.in_ok-place.ensures.place c.in_ok-from.ensures.place c.if-place-from.true,
  itself_at c.self.inside.schema c.self.inside.stores.items c.self.inside.messages.items c.args.replica c.args.other c.in_ok-place.place c.in_ok-from.from Done c.args.self.now
      c.in_ok-from.ensures.place c.if-place-from.true c.self.view_is c.in_ok-place.ensures.place c.in_ok-place.ensures.bound,
)

pub returns-in_err-merge_apart : goal.returns-in_err-merge_apart
returns-in_err-merge_apart c =
    let p = err_from_is_err_and c.from_residual-in_err-merge_apart.result c.from_residual-in_err-merge_apart.ensures.1 in
    let apart : c.in_ok-place.place ≢ c.in_ok-from.from = c.if-place-from.false in
    let same_len : length c.merge_apart.new.stores ≡ length c.as_mut_slice.result.now = c.merge_apart.ensures.count in
    let lacks : merge_step c.args.self.now.parts c.args.replica c.args.other ≢ Ok (Done, c.args.self.now.parts) = λ same.
    false≢true (c.in_err-merge_apart.ensures.idle (merge_same c.args.self.now.parts c.self.inside.schema c.self.inside.stores.items c.as_mut_slice.result.now (messages_in c.self.inside.messages.items) c.args.replica c.args.other c.in_ok-place.place c.in_ok-from.from
    (parts_same c.self.view_is) c.as_mut_slice.ensures.value c.in_ok-place.ensures.place c.in_ok-from.ensures.place apart same)) in
    rw (p.1, p.2) (
      stores_left c.args.self.now c.self.inside.schema c.self.inside.stores.items c.as_mut_slice.result.now c.merge_apart.new.stores c.self.inside.messages.items c.self.inside.stores.len
          c.self.view_is c.as_mut_slice.ensures.value c.self.inside.stores.ok.0 c.in_err-merge_apart.ensures.refused,
      (refused_where lacks
          (merge_refused c.args.self.now.parts c.self.inside.schema c.self.inside.stores.items c.as_mut_slice.result.now c.merge_apart.new.stores (messages_in c.self.inside.messages.items) c.self.inside.stores.len c.args.replica c.args.other c.in_ok-place.place c.in_ok-from.from c.in_err-merge_apart.field-0.0
          (parts_same c.self.view_is) c.as_mut_slice.ensures.value c.self.inside.stores.ok.0 same_len c.in_ok-place.ensures.place c.in_ok-from.ensures.place apart c.in_err-merge_apart.ensures.acts)).1,
    )

pub returns : goal.returns
returns c =
    let apart : c.in_ok-place.place ≢ c.in_ok-from.from = c.if-place-from.false in
    let same_len : length c.merge_apart.new.stores ≡ length c.as_mut_slice.result.now = c.merge_apart.ensures.count in (
      merge_done c.args.self.now.parts c.self.inside.schema c.self.inside.stores.items c.as_mut_slice.result.now c.merge_apart.new.stores (messages_in c.self.inside.messages.items) c.self.inside.stores.len c.args.replica c.args.other c.in_ok-place.place c.in_ok-from.from tt
          (parts_same c.self.view_is) c.as_mut_slice.ensures.value c.self.inside.stores.ok.0 same_len c.in_ok-place.ensures.place c.in_ok-from.ensures.place apart c.in_ok-merge_apart.ensures.acts,
      merged_at c.self.inside.schema c.self.inside.stores.items c.as_mut_slice.result.now c.merge_apart.new.stores c.self.inside.messages.items c.self.inside.stores.len c.args.replica c.args.other c.in_ok-place.place c.in_ok-from.from Done c.args.self.now
          c.as_mut_slice.ensures.value c.self.inside.stores.ok.0 c.in_ok-merge_apart.ensures.segments c.in_ok-from.ensures.place c.in_ok-from.ensures.bound c.self.view_is c.in_ok-place.ensures.place c.in_ok-place.ensures.bound,
    )
