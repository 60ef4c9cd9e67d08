-- No step takes a message away, or gives one another number.
use Rattle.std.specs.Prelude.{◌≡◌, ℕ, true, false, cond, ◌==◌, nat_lt, List, [], ◌∷◌, ◌++◌, length, slice_get, Option, Some, None, Result, Ok, Err}
use Rattle.std.proofs.Common.{refl, sym, ap, subst, ◌∙◌, inl, inr, append_assoc}
use Rattle.std.proofs.lemmas.List.{append-nil}
use Rattle.table_model.specs.State.{State}
use Rattle.table_model.specs.Table.{Table}
use Rattle.table_model.specs.declared.refusal.Refusal.{Refusal}
use Rattle.table_model.specs.declared.refusal.Refusal.TheVariants.{Full}
use Rattle.replica_store.specs.Replica.{Replica, appended, inserted, deleted_rows, recoded_rows}
use Rattle.column_file.specs.Files.{canonical_read}
use Rattle.replica_store.specs.Exchange.{SummaryForm, summary_of, offered}
use Rattle.cluster_history.specs.Cluster.{ClusterParts, place_of, at_replica, at_place, held_at, placed, done_reply, numbered, message_limit, where_room, with_message, ask_of, ask_step, offer_message, serve_of, serve_step, taking, take_step, opening, open_step, told, asked_of, asked_place, export_reply, export_step, append_step, insert_step, delete_step, deleting, delete_where_step, recode_step, merge_step, merge_places, merge_reply, merged_in, query_step, query_reply, step_of}
use Rattle.cluster_history.specs.Message.{Carried, Listing, Offering, listing_in, offering_in}
use Rattle.cluster_history.specs.Run.{StepTo, answered}
use Rattle.cluster_history.specs.History.{MessagesStay}
use Rattle.cluster_history.specs.declared.reply.Reply.{Reply}
use Rattle.cluster_history.specs.declared.reply.Reply.TheVariants.{Done, Named, Put, Deleted}
use Rattle.cluster_history.specs.declared.step.Step.{Step}
use Rattle.cluster_history.specs.declared.step.Step.TheVariants.{Append, Insert, Delete, DeleteWhere, Merge, Ask, Serve, Take, Recode, Open, Export, Query}

-- what is made, if it is, has the same messages, or more
abbrev Grows : ClusterParts → Result (Reply × ClusterParts) Refusal → Type 0
Grows c (Ok done) = (more : List Carried) × (done.1.messages ≡ c.messages ++ more)
Grows c (Err e) = Unit {0}

same : (c : ClusterParts) → (more : List Carried) × (c.messages ≡ c.messages ++ more)
same c = ([], sym (append-nil c.messages))

at_replica_grows : {X : Type 0} (reply : X → Reply) (c : ClusterParts) (replica : ℕ) (call : Replica → Result (X × Replica) Refusal) → Grows c (at_replica reply c replica call)
at_replica_grows reply c replica call =
    elim (place_of (length c.stores) replica) as (λ o. Grows c (at_place reply c call o)) [
      | None ↦ tt
      | Some at ↦ elim (slice_get c.stores at) as (λ o. Grows c (held_at reply c at call o)) [
        | None ↦ tt
        | Some r ↦ elim (call r) as (λ made. Grows c (placed reply c at made)) [
          | Ok done ↦ same c
          | Err e ↦ tt
        ]
      ]
    ]

merge_reply_grows : (c : ClusterParts) (made : Result (Unit {0} × List Replica) Refusal) → Grows c (merge_reply c made)
merge_reply_grows c (Ok done) = same c
merge_reply_grows c (Err e) = tt

merge_grows : (c : ClusterParts) (to from : Option ℕ) → Grows c (merge_places c to from)
merge_grows c None from = tt
merge_grows c (Some at) None = tt
merge_grows c (Some at) (Some from) =
    elim (at == from) as (λ b. Grows c (cond b (Ok (Done, c)) (merge_reply c (merged_in c.stores at from)))) [
      | true ↦ same c
      | false ↦ merge_reply_grows c (merged_in c.stores at from)
    ]

room_grows : (c : ClusterParts) (made : Result (Reply × ClusterParts) Refusal) → Grows c made → Grows c (where_room c made)
room_grows c made grows =
    elim (nat_lt (length c.messages) message_limit) as (λ b. Grows c (cond b made (Err Full))) [
      | true ↦ grows
      | false ↦ tt
    ]

ask_grows : (c : ClusterParts) (o : Option Replica) → Grows c (ask_of c o)
ask_grows c None = tt
ask_grows c (Some r) = room_grows c (Ok (with_message c (Listing (summary_of r)))) (Listing (summary_of r) ∷ [], refl)

offer_grows : (c : ClusterParts) (table : Table) (made : Result State Refusal) → Grows c (offer_message c table made)
offer_grows c table (Ok state) = (Offering table state ∷ [], refl)
offer_grows c table (Err e) = tt

serve_grows : (c : ClusterParts) (o : Option Replica) (summary : Option SummaryForm) → Grows c (serve_of c o summary)
serve_grows c None summary = tt
serve_grows c (Some r) None = tt
serve_grows c (Some r) (Some summary) = room_grows c (offer_message c r.schema (offered r summary)) (offer_grows c r.schema (offered r summary))

told_grows : (c : ClusterParts) (t : Result Reply Refusal) → Grows c (told c t)
told_grows c (Ok reply) = same c
told_grows c (Err e) = tt

asked_grows : (c : ClusterParts) (question : Table → State → Result Reply Refusal) (o : Option ℕ) → Grows c (asked_place c question o)
asked_grows c question None = tt
asked_grows c question (Some at) =
    elim (slice_get c.stores at) as (λ o. Grows c (asked_of c question o)) [
      | None ↦ tt
      | Some r ↦ told_grows c (question r.schema r.state)
    ]

step_grows : (c : ClusterParts) (step : Step) → Grows c (step_of c step)
unfolding append_step insert_step delete_step delete_where_step recode_step merge_step ask_step serve_step take_step open_step export_step query_step
step_grows c (Append replica rows) = at_replica_grows Named c replica (λ r. appended r rows)
step_grows c (Insert replica name rows) = at_replica_grows Put c replica (λ r. inserted r name rows)
step_grows c (Delete replica first last) = at_replica_grows done_reply c replica (λ r. deleted_rows r first last)
step_grows c (DeleteWhere replica text) = at_replica_grows Deleted c replica (deleting text)
step_grows c (Merge replica other) = merge_grows c (place_of (length c.stores) replica) (place_of (length c.stores) other)
step_grows c (Ask replica) = ask_grows c (numbered c.stores replica)
step_grows c (Serve replica message) = serve_grows c (numbered c.stores replica) (listing_in (numbered c.messages message))
step_grows c (Take replica message) = at_replica_grows done_reply c replica (taking (offering_in (numbered c.messages message)))
step_grows c (Recode replica name column vector coding) = at_replica_grows done_reply c replica (λ r. recoded_rows r name column vector)
step_grows c (Open replica file) = at_replica_grows done_reply c replica (opening (canonical_read file))
step_grows c (Export replica) = asked_grows c export_reply (place_of (length c.stores) replica)
step_grows c (Query replica sql) = asked_grows c (query_reply sql) (place_of (length c.stores) replica)

answered_grows : (c : ClusterParts) (made : Result (Reply × ClusterParts) Refusal) → Grows c made → (more : List Carried) × ((answered made c).1.messages ≡ c.messages ++ more)
answered_grows c (Ok done) grows = grows
answered_grows c (Err e) grows = same c

abbrev Longer : ClusterParts → ClusterParts → Type 0
Longer c new = (more : List Carried) × (new.messages ≡ c.messages ++ more)

steps_to : (c : ClusterParts) (step : Step) (reply : Reply) (new : ClusterParts) → StepTo c step reply new → Longer c new
steps_to c step reply new (inl is) = subst (λ (p : Reply × ClusterParts). Longer c p.1) is (answered_grows c (step_of c step) (step_grows c step))
steps_to c step reply new (inr lacked) = subst (Longer c) (sym lacked.1) (same c)

-- after a run the messages are those that there were, and others behind them
pub messages_stay : MessagesStay
messages_stay old new [] [] run = subst (Longer old) (sym run) (same old)
messages_stay old new [] (reply ∷ replies) run = absurd run
messages_stay old new (step ∷ steps) [] run = absurd run
messages_stay old new (step ∷ steps) (reply ∷ replies) run =
    let first = steps_to old step reply run.0 run.1 in
    let later = messages_stay run.0 new steps replies run.2 in
    (first.0 ++ later.0, later.1 ∙ ap (λ (m : List Carried). m ++ later.0) first.1 ∙ append_assoc old.messages first.0 later.0)
