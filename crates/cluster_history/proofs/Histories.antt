-- One step keeps it: the cluster is that of what each replica took and each message brings. So a run does, and the state depends on the members alone.
use Rattle.std.specs.Prelude.{◌≡◌, ℕ, zero, suc, ◌+◌, nat_lt, true, false, cond, ◌==◌, List, [], ◌∷◌, ◌++◌, map, length, slice_get, slice_set, slice_index_or, Option, Some, None, IsSome, option_map, option_and_then, Result, Ok, Err}
use Rattle.std.proofs.Common.{refl, sym, ap, subst, ◌∙◌, inl, inr, arith}
use Rattle.std.proofs.lemmas.Bool.Decides.{nat_tests}
use Rattle.std.proofs.lemmas.Option.{get_or_from_slice_get}
use Rattle.std.proofs.lemmas.List.{set-get_or, map-append}
use Rattle.table_model.specs.declared.names.BatchName.{BatchName}
use Rattle.table_model.specs.Operation.{Operation, Insert as Inserts, Delete as Deletes, AreAgreeing, state_of, operations_of}
use Rattle.table_model.specs.State.{State}
use Rattle.table_model.specs.Table.{Table, same_table}
use Rattle.table_model.specs.declared.refusal.Refusal.{Refusal}
use Rattle.table_model.specs.declared.refusal.Refusal.TheVariants.{Memory, NoSuchReplica, NoSuchMessage, Full, SchemaDiffers}
use Rattle.table_model.proofs.Operations.{state_of-same, state_of-operations, AreAgreeing-operations}
use Rattle.replica_store.specs.Replica.{Replica, appended, inserted, deleted_rows, merged, rows_between, recoded_rows, recode_fault, unless_fault}
use Rattle.column_file.specs.Files.{canonical_file, canonical_read}
use Rattle.replica_store.specs.Exchange.{summary_of, offered, unlisted_state}
use Rattle.cluster_history.specs.Cluster.{ClusterParts, new_cluster, new_replicas, place_of, at_replica, at_place, held_at, placed, done_reply, where_room, message_limit, with_message, numbered, ask_of, ask_step, offer_message, serve_of, serve_step, taking, take_step, opening, open_step, told, asked_of, asked_place, asked_at, export_reply, export_step, append_step, insert_step, delete_step, deleting, delete_where_step, merge_step, recode_step, merge_places, merge_reply, merged_in, merged_pair, stored, query_step, query_reply, step_of}
use Rattle.cluster_history.specs.Run.{Run, StepTo, answered}
use Rattle.cluster_history.specs.History.{Brought, Names, Operations, Taken, names_in, lacking, brought_names, brought_operations, operations_held, deletes_where, ExportsAreCanonical, SameExport, or_empty, operations_by, message_of, AllBringOne, empty_sets, new_taken, set_at, taken_of, with_set, taken_after, taken_by, replica_of, replicas_of, cluster_of, EachAgrees, AllAgree, StartsEmpty, RepliesFollow, RefusedAddNothing, RunsJoin, ReadsLeaveAll, reading_at, reply_to, replica_numbered, AreAlike, SameAreAlike, SameInHistories, HistoryLaws}
use Rattle.cluster_history.specs.declared.reply.Reply.{Reply}
use Rattle.cluster_history.specs.declared.reply.Reply.TheVariants.{Done, Named, Put, Deleted, Sent, File, Refused}
use Rattle.cluster_history.specs.declared.step.Step.{Step}
use Rattle.cluster_history.specs.declared.step.Step.TheVariants.{Append, Insert, Delete, DeleteWhere, Merge, Ask, Serve, Take, Recode, Open, Export, Query}
use Rattle.cluster_history.specs.Message.{Carried, Listing, Offering, offering_in}
use Rattle.cluster_history.proofs.Messages.{listing_of, offering_of, listing_at, offering_at, names-state_of, unlisted-state_of, lacking-agree, bring_one, bring_more, same_messages}
use Rattle.cluster_history.proofs.Numbers.{messages_stay}
use Rattle.cluster_history.proofs.Takes.{Takes, append-takes, insert-takes, delete-takes, where-takes, merge-takes, again-agree, again-state}

length-replicas : (table : Table) (first : ℕ) (sets : List (List Operation)) → length (replicas_of table first sets) ≡ length sets
length-replicas table first [] = refl
length-replicas table first (ops ∷ sets) = ap suc (length-replicas table (first + 1) sets)

slice_get-replicas : (table : Table) (first : ℕ) (sets : List (List Operation)) (at : ℕ) (r : Replica) → slice_get (replicas_of table first sets) at ≡ Some r → r ≡ replica_of table (first + at) (slice_index_or sets at [])
slice_get-replicas table first [] at r e = cc
slice_get-replicas table first (ops ∷ sets) zero r e = let same : replica_of table first ops ≡ r = cc in sym same ∙ ap (λ n. replica_of table n ops) (omega arith)
slice_get-replicas table first (ops ∷ sets) (suc at) r e = slice_get-replicas table (first + 1) sets at r e ∙ ap (λ n. replica_of table n (slice_index_or sets at [])) (omega arith)

slice_set-replicas : (table : Table) (first : ℕ) (sets : List (List Operation)) (at : ℕ) (ops : List Operation) → slice_set (replicas_of table first sets) at (replica_of table (first + at) ops) ≡ replicas_of table first (slice_set sets at ops)
slice_set-replicas table first [] at ops = refl
slice_set-replicas table first (here ∷ sets) zero ops = ap (λ n. replica_of table n ops ∷ replicas_of table (first + 1) sets) (omega arith)
slice_set-replicas table first (here ∷ sets) (suc at) ops =
    ap (λ n. replica_of table first here ∷ slice_set (replicas_of table (first + 1) sets) at (replica_of table n ops)) (omega arith)
    ∙ ap (λ (rest : List Replica). replica_of table first here ∷ rest) (slice_set-replicas table (first + 1) sets at ops)

agree_at : (sets : List (List Operation)) (at : ℕ) → EachAgrees sets → AreAgreeing (slice_index_or sets at [])
agree_at [] at h = λ n a b g k. absurd g
agree_at (ops ∷ sets) zero h = h.0
agree_at (ops ∷ sets) (suc at) h = agree_at sets at h.1

agree_set : (sets : List (List Operation)) (at : ℕ) (ops : List Operation) → EachAgrees sets → AreAgreeing ops → EachAgrees (slice_set sets at ops)
agree_set [] at ops h agree = tt
agree_set (here ∷ sets) zero ops h agree = (agree, h.1)
agree_set (here ∷ sets) (suc at) ops h agree = (h.0, agree_set sets at ops h.1 agree)

abbrev cluster_at : Table → List (List Operation) → List Carried → ClusterParts
cluster_at table sets messages = record { schema = table; stores = replicas_of table 1 sets; messages = messages }

-- the cluster and what was taken, after a replica took more
abbrev Kept : Table → List (List Operation) → List Carried → ClusterParts → Type 0
Kept table sets messages c = (c ≡ cluster_at table sets messages) × EachAgrees sets

kept_set : (table : Table) (sets : List (List Operation)) (messages : List Carried) (at : ℕ) (ops : List Operation) (new : Replica) → EachAgrees sets → Takes table (1 + at) (slice_index_or sets at []) ops new →
    Kept table (slice_set sets at (ops ++ slice_index_or sets at [])) messages (record { schema = table; stores = slice_set (replicas_of table 1 sets) at new; messages = messages })
kept_set table sets messages at ops new agree takes = (
  ap (λ (stores : List Replica). record { schema = table; stores = stores; messages = messages })
      (ap (slice_set (replicas_of table 1 sets) at) takes.same ∙ slice_set-replicas table 1 sets at (ops ++ slice_index_or sets at [])),
  agree_set sets at (ops ++ slice_index_or sets at []) agree takes.agree,
)

ok_same : (a b : Reply × ClusterParts) → ◌≡◌ {A = Result (Reply × ClusterParts) Refusal} (Ok a) (Ok b) → a ≡ b
ok_same a b e = cc

-- what a call of one replica leaves, whose operations are those of its answer and of what the replica took before
step_at : {X : Type 0} (reply : X → Reply) (table : Table) (sets : List (List Operation)) (messages : List Carried) (replica : ℕ) (call : Replica → Result (X × Replica) Refusal) (done : Reply × ClusterParts) (ops : X → List Operation → List Operation) →
    EachAgrees sets →
    ((own : ℕ) (before : List Operation) (x : X) (new : Replica) → AreAgreeing before → call (replica_of table own before) ≡ Ok (x, new) → Takes table own before (ops x before) new) →
    at_replica reply (cluster_at table sets messages) replica call ≡ Ok done →
    (x : X) × (done.0 ≡ reply x) × Kept table (with_set sets (place_of (length sets) replica) (ops x (set_at sets (place_of (length sets) replica)))) messages done.1
step_at {X = X} reply table sets messages replica call done ops agree makes e =
    let c = cluster_at table sets messages in
    let Goal : Option ℕ → Type 0 = λ o. (x : X) × (done.0 ≡ reply x) × Kept table (with_set sets o (ops x (set_at sets o))) messages done.1 in
    let by_place : at_place reply c call (place_of (length sets) replica) ≡ Ok done = ap (λ n. at_place reply c call (place_of n replica)) (sym (length-replicas table 1 sets)) ∙ e in
    elim (place_of (length sets) replica) as (λ o. at_place reply c call o ≡ Ok done → Goal o) [
      | None ↦ λ f. let bad : ◌≡◌ {A = Result (Reply × ClusterParts) Refusal} (Err NoSuchReplica) (Ok done) = f in cc
      | Some at ↦ λ f.
          elim (slice_get (replicas_of table 1 sets) at) as (λ o. slice_get (replicas_of table 1 sets) at ≡ o → held_at reply c at call o ≡ Ok done → Goal (Some at)) [
            | None ↦ λ none g. let bad : ◌≡◌ {A = Result (Reply × ClusterParts) Refusal} (Err NoSuchReplica) (Ok done) = g in cc
            | Some r ↦ λ has g.
                let is = slice_get-replicas table 1 sets at r has in
                elim (call r) as (λ o. call r ≡ o → placed reply c at o ≡ Ok done → Goal (Some at)) [
                  | Err fault ↦ λ called h. let bad : ◌≡◌ {A = Result (Reply × ClusterParts) Refusal} (Err fault) (Ok done) = h in cc
                  | Ok d ↦ λ called h.
                      let takes = makes (1 + at) (slice_index_or sets at []) d.0 d.1 (agree_at sets at agree) (ap call (sym is) ∙ called) in
                      let kept = kept_set table sets messages at (ops d.0 (slice_index_or sets at [])) d.1 agree takes in
                      let same = ok_same (reply d.0, record { schema = table; stores = slice_set (replicas_of table 1 sets) at d.1; messages = messages }) done h in
                      (d.0, ap (λ (p : Reply × ClusterParts). p.0) (sym same), subst (λ (p : Reply × ClusterParts). Kept table (with_set sets (Some at) (ops d.0 (slice_index_or sets at []))) messages p.1) same kept)
                ] refl g
          ] refl f
    ] by_place

-- a replica that takes what it took has the same state
same_replicas : (table : Table) (first : ℕ) (sets : List (List Operation)) (at : ℕ) (ops : List Operation) → state_of ops ≡ state_of (slice_index_or sets at []) → replicas_of table first (slice_set sets at ops) ≡ replicas_of table first sets
same_replicas table first [] at ops same = refl
same_replicas table first (here ∷ sets) zero ops same = ap (λ s. record { schema = table; own = record { 0 = first }; state = s } ∷ replicas_of table (first + 1) sets) same
same_replicas table first (here ∷ sets) (suc at) ops same = ap (λ (rest : List Replica). replica_of table first here ∷ rest) (same_replicas table (first + 1) sets at ops same)

done_parts : (c d : ClusterParts) (reply : Reply) → ◌≡◌ {A = Result (Reply × ClusterParts) Refusal} (Ok (Done, c)) (Ok (reply, d)) → (Done ≡ reply) × (c ≡ d)
done_parts c d reply e =
    let pairs : ◌≡◌ {A = Reply × ClusterParts} (Done, c) (reply, d) = cc in
    (ap (λ (p : Reply × ClusterParts). p.0) pairs, ap (λ (p : Reply × ClusterParts). p.1) pairs)

pair_of : (at from : ℕ) (table : Table) (sets : List (List Operation)) (messages : List Carried) (reply : Reply) (new : ClusterParts) → EachAgrees sets → merge_reply (cluster_at table sets messages) (merged_in (replicas_of table 1 sets) at from) ≡ Ok (reply, new) →
    (Done ≡ reply) × Kept table (with_set sets (Some at) (slice_index_or sets from [])) messages new
unfolding merged_in
pair_of at from table sets messages reply new agree e =
    let c = cluster_at table sets messages in
    let stores = replicas_of table 1 sets in
    let Goal : Type 0 = (Done ≡ reply) × Kept table (with_set sets (Some at) (slice_index_or sets from [])) messages new in
    elim (slice_get stores at) as (λ o. slice_get stores at ≡ o → merge_reply c (merged_pair stores at o (slice_get stores from)) ≡ Ok (reply, new) → Goal) [
      | None ↦ λ none g. let bad : ◌≡◌ {A = Result (Reply × ClusterParts) Refusal} (Err NoSuchReplica) (Ok (reply, new)) = g in cc
      | Some r ↦ λ has g. elim (slice_get stores from) as (λ o. slice_get stores from ≡ o → merge_reply c (merged_pair stores at (Some r) o) ≡ Ok (reply, new) → Goal) [
        | None ↦ λ none h. let bad : ◌≡◌ {A = Result (Reply × ClusterParts) Refusal} (Err NoSuchReplica) (Ok (reply, new)) = h in cc
        | Some other ↦ λ theirs h.
            let is = slice_get-replicas table 1 sets at r has in
            let is_other = slice_get-replicas table 1 sets from other theirs in
            elim (merged r other) as (λ o. merged r other ≡ o → merge_reply c (stored stores at o) ≡ Ok (reply, new) → Goal) [
              | Err fault ↦ λ called k. let bad : ◌≡◌ {A = Result (Reply × ClusterParts) Refusal} (Err fault) (Ok (reply, new)) = k in cc
              | Ok d ↦ λ called k.
                  let takes = merge-takes table table (1 + at) (1 + from) (slice_index_or sets at []) (slice_index_or sets from []) d.0 d.1 (agree_at sets at agree) (agree_at sets from agree)
                  ((λ i. merged (sym is i) (sym is_other i)) ∙ called) in
                  let kept = kept_set table sets messages at (slice_index_or sets from []) d.1 agree takes in
                  let parts = done_parts (record { schema = table; stores = slice_set stores at d.1; messages = messages }) new reply k in
                  (parts.0, subst (λ (p : ClusterParts). Kept table (with_set sets (Some at) (slice_index_or sets from [])) messages p) parts.1 kept)
            ] refl h
      ] refl g
    ] refl e

merge_kept : (table : Table) (sets : List (List Operation)) (messages : List Carried) (to from : Option ℕ) (reply : Reply) (new : ClusterParts) → EachAgrees sets → merge_places (cluster_at table sets messages) to from ≡ Ok (reply, new) →
    (Done ≡ reply) × Kept table (with_set sets to (set_at sets from)) messages new
merge_kept table sets messages None from reply new agree e = let bad : ◌≡◌ {A = Result (Reply × ClusterParts) Refusal} (Err NoSuchReplica) (Ok (reply, new)) = e in cc
merge_kept table sets messages (Some at) None reply new agree e = let bad : ◌≡◌ {A = Result (Reply × ClusterParts) Refusal} (Err NoSuchReplica) (Ok (reply, new)) = e in cc
merge_kept table sets messages (Some at) (Some from) reply new agree e =
    let c = cluster_at table sets messages in
    let Goal : Type 0 = (Done ≡ reply) × Kept table (with_set sets (Some at) (slice_index_or sets from [])) messages new in
    elim (at == from) as (λ b. (at == from) ≡ b → cond b (Ok (Done, c)) (merge_reply c (merged_in (replicas_of table 1 sets) at from)) ≡ Ok (reply, new) → Goal) [
      | true ↦ λ t f.
          let same : at ≡ from = grind (arith, nat_tests) in
          let parts = done_parts c new reply f in
          let mine = slice_index_or sets at [] in
          let all = agree_at sets at agree in
          let again : Kept table (slice_set sets at (mine ++ mine)) messages new = (
            sym parts.1 ∙ ap (λ (stores : List Replica). record { schema = table; stores = stores; messages = messages }) (sym (same_replicas table 1 sets at (mine ++ mine) (again-state mine all))),
            agree_set sets at (mine ++ mine) agree (again-agree mine all),
          ) in
          (parts.0, subst (λ (k : ℕ). Kept table (slice_set sets at (slice_index_or sets k [] ++ mine)) messages new) same again)
      | false ↦ λ t f. pair_of at from table sets messages reply new agree f
    ] refl e

-- a question leaves the cluster
pub asked_leaves : (c : ClusterParts) (question : Table → State → Result Reply Refusal) (o : Option ℕ) → (answered (asked_place c question o) c).1 ≡ c
asked_leaves c question None = refl
asked_leaves c question (Some at) =
    elim (slice_get c.stores at) as (λ o. (answered (asked_of c question o) c).1 ≡ c) [
      | None ↦ refl
      | Some r ↦ elim (question r.schema r.state) as (λ t. (answered (told c t) c).1 ≡ c) [
        | Ok reply ↦ refl
        | Err e ↦ refl
      ]
    ]

pub answered_ok : (c : ClusterParts) (made : Result (Reply × ClusterParts) Refusal) (done : Reply × ClusterParts) → made ≡ Ok done → (answered made c).1 ≡ c → done.1 ≡ c
answered_ok c made done is leaves = let same : (answered made c).1 ≡ done.1 = ap (λ (m : Result (Reply × ClusterParts) Refusal). (answered m c).1) is in sym same ∙ leaves

set_same : (stores : List Replica) (at : ℕ) (r : Replica) → slice_get stores at ≡ Some r → slice_set stores at r ≡ stores
set_same stores at r has = ap (slice_set stores at) (sym (get_or_from_slice_get stores at r r has)) ∙ set-get_or stores at r

recode_leaves : (c : ClusterParts) (replica : ℕ) (name : BatchName) (column vector : ℕ) → (answered (recode_step c replica name column vector) c).1 ≡ c
unfolding recode_step
recode_leaves c replica name column vector =
    let call : Replica → Result (Unit {0} × Replica) Refusal = λ r. recoded_rows r name column vector in
    elim (place_of (length c.stores) replica) as (λ o. (answered (at_place done_reply c call o) c).1 ≡ c) [
      | None ↦ refl
      | Some at ↦ elim (slice_get c.stores at) as (λ o. slice_get c.stores at ≡ o → (answered (held_at done_reply c at call o) c).1 ≡ c) [
        | None ↦ λ none. refl
        | Some r ↦ λ has. elim (recode_fault r name column vector) as (λ f. (answered (placed done_reply c at (unless_fault f (Ok (tt, r)))) c).1 ≡ c) [
          | None ↦ ap (λ (stores : List Replica). let made : ClusterParts = record { schema = c.schema; stores = stores; messages = c.messages } in made) (set_same c.stores at r has)
          | Some e ↦ refl
        ]
      ] refl
    ]

-- a cluster is that of what was taken, and that agrees
abbrev Stays : Table → Taken → ClusterParts → Type 0
Stays table taken c = (c ≡ cluster_of table taken) × AllAgree taken

-- what a replica took more, with the same messages
stays_with : (table : Table) (taken : Taken) (sets : List (List Operation)) (c : ClusterParts) → AllAgree taken → Kept table sets (map (message_of table) taken.messages) c → Stays table (record taken { replicas = sets }) c
stays_with table taken sets c agree kept = (kept.0, (kept.1, agree.1))

-- one more message, which brings this
stays_more : (table : Table) (taken : Taken) (brought : Brought) (message : Carried) → AllAgree taken → AllBringOne (brought ∷ []) → message ≡ message_of table brought →
    Stays table (record taken { messages = taken.messages ++ (brought ∷ []) }) (with_message (cluster_of table taken) message).1
stays_more table taken brought message agree one is = (
  ap (λ (messages : List Carried). cluster_at table taken.replicas messages)
      (ap (λ (m : Carried). map (message_of table) taken.messages ++ (m ∷ [])) is ∙ sym (map-append (message_of table) taken.messages (brought ∷ []))),
  (agree.0, bring_more taken.messages brought agree.1 one),
)

-- what has no room isn't made
pub room_made : (c : ClusterParts) (made : Result (Reply × ClusterParts) Refusal) (done : Reply × ClusterParts) → where_room c made ≡ Ok done → made ≡ Ok done
room_made c made done e =
    elim (nat_lt (length c.messages) message_limit) as (λ b. cond b made (Err Full) ≡ Ok done → made ≡ Ok done) [
      | true ↦ λ f. f
      | false ↦ λ f. let bad : ◌≡◌ {A = Result (Reply × ClusterParts) Refusal} (Err Full) (Ok done) = f in cc
    ] e

-- the replica with a number is that of what it took
numbered_is : (table : Table) (taken : Taken) (replica : ℕ) (r : Replica) → replica_numbered (cluster_of table taken) replica ≡ Some r → (at : ℕ) × (r ≡ replica_of table (1 + at) (taken_of taken replica))
numbered_is table taken replica r has =
    let sets = taken.replicas in
    elim (place_of (length sets) replica) as (λ o. option_and_then (slice_get (replicas_of table 1 sets)) o ≡ Some r → (at : ℕ) × (r ≡ replica_of table (1 + at) (set_at sets o))) [
      | None ↦ λ none. cc
      | Some at ↦ λ found. (at, slice_get-replicas table 1 sets at r found)
    ] (ap (λ n. option_and_then (slice_get (replicas_of table 1 sets)) (place_of n replica)) (sym (length-replicas table 1 sets)) ∙ has)

agree_numbered : (taken : Taken) (replica : ℕ) → AllAgree taken → AreAgreeing (taken_of taken replica)
agree_numbered taken replica agree =
    elim (place_of (length taken.replicas) replica) as (λ o. AreAgreeing (set_at taken.replicas o)) [
      | None ↦ λ n a b g k. absurd g
      | Some at ↦ agree_at taken.replicas at agree.0
    ]

-- what an ask makes
asked : (table : Table) (taken : Taken) (replica : ℕ) (done : Reply × ClusterParts) → AllAgree taken → ask_step (cluster_of table taken) replica ≡ Ok done → Stays table (taken_after table taken (Ask replica) done.0) done.1
unfolding ask_step
asked table taken replica done agree e =
    let c = cluster_of table taken in
    elim (numbered c.stores replica) as (λ o. numbered c.stores replica ≡ o → ask_of c o ≡ Ok done → Stays table (taken_after table taken (Ask replica) done.0) done.1) [
      | None ↦ λ has f. let bad : ◌≡◌ {A = Result (Reply × ClusterParts) Refusal} (Err NoSuchReplica) (Ok done) = f in cc
      | Some r ↦ λ has f.
          let ops = taken_of taken replica in
          let is = numbered_is table taken replica r has in
          let same = ok_same (with_message c (Listing (summary_of r))) done (room_made c (Ok (with_message c (Listing (summary_of r)))) done f) in
          let lists : summary_of r ≡ listing_of table (names_in ops) = ap summary_of is.1 ∙ names-state_of table (1 + is.0) ops in
          subst (λ (p : Reply × ClusterParts). Stays table (taken_after table taken (Ask replica) p.0) p.1) same
          (stays_more table taken (Names (names_in ops)) (Listing (summary_of r)) agree tt (ap Listing lists))
    ] refl e

-- what an offer to a summary makes
offered_to : (table : Table) (taken : Taken) (own : ℕ) (ops : List Operation) (names : List BatchName) (done : Reply × ClusterParts) → AllAgree taken → AreAgreeing ops →
    offer_message (cluster_of table taken) table (offered (replica_of table own ops) (listing_of table names)) ≡ Ok done →
    (n : ℕ) × (done.0 ≡ Sent n) × Stays table (record taken { messages = taken.messages ++ (Operations (lacking names ops) ∷ []) }) done.1
offered_to table taken own ops names done agree here e =
    let c = cluster_of table taken in
    let state = unlisted_state (listing_of table names).names (state_of ops) in
    let more = record taken { messages = taken.messages ++ (Operations (lacking names ops) ∷ []) } in
    elim (same_table table table) as (λ b. offer_message c table (cond b (Ok state) (Err SchemaDiffers)) ≡ Ok done → (n : ℕ) × (done.0 ≡ Sent n) × Stays table more done.1) [
      | false ↦ λ f. let bad : ◌≡◌ {A = Result (Reply × ClusterParts) Refusal} (Err SchemaDiffers) (Ok done) = f in cc
      | true ↦ λ f.
          let same = ok_same (with_message c (Offering table state)) done f in
          let kept = stays_more table taken (Operations (lacking names ops)) (Offering table state) agree (lacking-agree names ops here, tt) (ap (Offering table) (unlisted-state_of names ops)) in
          (length c.messages + 1, ap (λ (p : Reply × ClusterParts). p.0) (sym same), subst (λ (p : Reply × ClusterParts). Stays table more p.1) same kept)
    ] e

-- what a serve makes
served : (table : Table) (taken : Taken) (replica message : ℕ) (done : Reply × ClusterParts) → AllAgree taken → serve_step (cluster_of table taken) replica message ≡ Ok done →
    Stays table (taken_after table taken (Serve replica message) done.0) done.1
unfolding serve_step
served table taken replica message done agree e =
    let c = cluster_of table taken in
    let ops = taken_of taken replica in
    let brought = brought_names (numbered taken.messages message) in
    let by_names : serve_of c (numbered c.stores replica) (option_map (listing_of table) brought) ≡ Ok done = ap (serve_of c (numbered c.stores replica)) (sym (listing_at table taken.messages message)) ∙ e in
    let Goal : Option (List BatchName) → Type 0 = λ o. (n : ℕ) × (done.0 ≡ Sent n) × Stays table (record taken { messages = taken.messages ++ (Operations (lacking (or_empty o) ops) ∷ []) }) done.1 in
    let made : Goal brought =
    elim (numbered c.stores replica) as (λ o. numbered c.stores replica ≡ o → serve_of c o (option_map (listing_of table) brought) ≡ Ok done → Goal brought) [
      | None ↦ λ has f. let bad : ◌≡◌ {A = Result (Reply × ClusterParts) Refusal} (Err NoSuchReplica) (Ok done) = f in cc
      | Some r ↦ λ has f. elim brought as (λ b. serve_of c (Some r) (option_map (listing_of table) b) ≡ Ok done → Goal b) [
        | None ↦ λ g. let bad : ◌≡◌ {A = Result (Reply × ClusterParts) Refusal} (Err NoSuchMessage) (Ok done) = g in cc
        | Some names ↦ λ g.
            let is = numbered_is table taken replica r has in
            let offer = room_made c (offer_message c r.schema (offered r (listing_of table names))) done g in
            offered_to table taken (1 + is.0) ops names done agree (agree_numbered taken replica agree)
            (ap (λ (x : Replica). offer_message c x.schema (offered x (listing_of table names))) (sym is.1) ∙ offer)
      ] f
    ] refl by_names in
    subst (λ (reply : Reply). Stays table (taken_after table taken (Serve replica message) reply) done.1) (sym made.1) made.2

-- what a take makes of a replica
take_takes : (table : Table) (taken : Taken) (message own : ℕ) (before : List Operation) (u : Unit {0}) (new : Replica) → AllAgree taken → AreAgreeing before →
    taking (offering_in (numbered (cluster_of table taken).messages message)) (replica_of table own before) ≡ Ok (u, new) → Takes table own before (operations_by taken message) new
take_takes table taken message own before u new agree here e =
    let brought = brought_operations (numbered taken.messages message) in
    elim brought as (λ b. brought ≡ b → taking (option_map (offering_of table) b) (replica_of table own before) ≡ Ok (u, new) → Takes table own before (or_empty b) new) [
      | None ↦ λ is f. let bad : ◌≡◌ {A = Result (Unit {0} × Replica) Refusal} (Err NoSuchMessage) (Ok (u, new)) = f in cc
      | Some ops ↦ λ is f. merge-takes table table own own before ops u new here (bring_one taken.messages message ops agree.1 is) f
    ] refl (ap (λ o. taking o (replica_of table own before)) (sym (offering_at table taken.messages message)) ∙ e)

-- what opening a file makes of a replica
open_takes : (table : Table) (file : List ℕ) (own : ℕ) (before : List Operation) (u : Unit {0}) (new : Replica) → AreAgreeing before →
    opening (canonical_read file) (replica_of table own before) ≡ Ok (u, new) → Takes table own before (operations_held (canonical_read file)) new
open_takes table file own before u new here e =
    elim (canonical_read file) as (λ held. opening held (replica_of table own before) ≡ Ok (u, new) → Takes table own before (operations_held held) new) [
      | Err fault ↦ λ f. let bad : ◌≡◌ {A = Result (Unit {0} × Replica) Refusal} (Err fault) (Ok (u, new)) = f in cc
      | Ok held ↦ λ f.
          let made : merged (replica_of table own before) (replica_of held.schema own (operations_of held.state)) ≡ Ok (u, new) =
          ap (λ (s : State). let theirs : Replica = record { schema = held.schema; own = record { 0 = own }; state = s } in merged (replica_of table own before) theirs) (state_of-operations held.state) ∙ f in
          merge-takes table held.schema own own before (operations_of held.state) u new here (AreAgreeing-operations held.state) made
    ] e

-- a step that is answered adds what its reply says
ok_step : (table : Table) (taken : Taken) (step : Step) (done : Reply × ClusterParts) → AllAgree taken → step_of (cluster_of table taken) step ≡ Ok done → Stays table (taken_after table taken step done.0) done.1
unfolding append_step insert_step delete_step delete_where_step merge_step take_step open_step export_step query_step
ok_step table taken (Append replica rows) done agree e =
    let s = step_at Named table taken.replicas (map (message_of table) taken.messages) replica (λ r. appended r rows) done (λ name before. Inserts name rows ∷ []) agree.0 (λ own before name new a f. append-takes table own before rows name new a f) e in
    subst (λ (reply : Reply). Stays table (taken_after table taken (Append replica rows) reply) done.1) (sym s.1) (stays_with table taken (with_set taken.replicas (place_of (length taken.replicas) replica) (Inserts s.0 rows ∷ [])) done.1 agree s.2)
ok_step table taken (Insert replica name rows) done agree e =
    let s = step_at Put table taken.replicas (map (message_of table) taken.messages) replica (λ r. inserted r name rows) done (λ answer before. Inserts name rows ∷ []) agree.0 (λ own before answer new a f. insert-takes table own before name rows answer new a f) e in
    subst (λ (reply : Reply). Stays table (taken_after table taken (Insert replica name rows) reply) done.1) (sym s.1) (stays_with table taken (with_set taken.replicas (place_of (length taken.replicas) replica) (Inserts name rows ∷ [])) done.1 agree s.2)
ok_step table taken (Delete replica first last) done agree e =
    let s = step_at done_reply table taken.replicas (map (message_of table) taken.messages) replica (λ r. deleted_rows r first last) done (λ u before. map Deletes (rows_between first last)) agree.0 (λ own before u new a f. delete-takes table own before first last u new a f) e in
    subst (λ (reply : Reply). Stays table (taken_after table taken (Delete replica first last) reply) done.1) (sym s.1) (stays_with table taken (with_set taken.replicas (place_of (length taken.replicas) replica) (map Deletes (rows_between first last))) done.1 agree s.2)
ok_step table taken (DeleteWhere replica text) done agree e =
    let s = step_at Deleted table taken.replicas (map (message_of table) taken.messages) replica (deleting text) done (λ count before. deletes_where table text before) agree.0 (λ own before count new a f. where-takes table own before text count new a f) e in
    subst (λ (reply : Reply). Stays table (taken_after table taken (DeleteWhere replica text) reply) done.1) (sym s.1) (stays_with table taken (with_set taken.replicas (place_of (length taken.replicas) replica) (deletes_where table text (taken_of taken replica))) done.1 agree s.2)
ok_step table taken (Merge replica other) done agree e =
    let count = length taken.replicas in
    let places : merge_places (cluster_of table taken) (place_of count replica) (place_of count other) ≡ Ok (done.0, done.1) =
    ap (λ n. merge_places (cluster_of table taken) (place_of n replica) (place_of n other)) (sym (length-replicas table 1 taken.replicas)) ∙ e in
    let s = merge_kept table taken.replicas (map (message_of table) taken.messages) (place_of count replica) (place_of count other) done.0 done.1 agree.0 places in
    subst (λ (reply : Reply). Stays table (taken_after table taken (Merge replica other) reply) done.1) s.0 (stays_with table taken (with_set taken.replicas (place_of count replica) (taken_of taken other)) done.1 agree s.1)
ok_step table taken (Ask replica) done agree e = asked table taken replica done agree e
ok_step table taken (Serve replica message) done agree e = served table taken replica message done agree e
ok_step table taken (Take replica message) done agree e =
    let c = cluster_of table taken in
    let s = step_at done_reply table taken.replicas c.messages replica (taking (offering_in (numbered c.messages message))) done (λ u before. operations_by taken message) agree.0 (λ own before u new a f. take_takes table taken message own before u new agree a f) e in
    subst (λ (reply : Reply). Stays table (taken_after table taken (Take replica message) reply) done.1) (sym s.1)
    (stays_with table taken (with_set taken.replicas (place_of (length taken.replicas) replica) (operations_by taken message)) done.1 agree s.2)
ok_step table taken (Recode replica name column vector coding) done agree e =
    let c = cluster_of table taken in
    (answered_ok c (recode_step c replica name column vector) done e (recode_leaves c replica name column vector), agree)
ok_step table taken (Open replica file) done agree e =
    let c = cluster_of table taken in
    let s = step_at done_reply table taken.replicas c.messages replica (opening (canonical_read file)) done (λ u before. operations_held (canonical_read file)) agree.0 (λ own before u new a f. open_takes table file own before u new a f) e in
    subst (λ (reply : Reply). Stays table (taken_after table taken (Open replica file) reply) done.1) (sym s.1)
    (stays_with table taken (with_set taken.replicas (place_of (length taken.replicas) replica) (operations_held (canonical_read file))) done.1 agree s.2)
ok_step table taken (Export replica) done agree e =
    let c = cluster_of table taken in
    (answered_ok c (export_step c replica) done e (asked_leaves c export_reply (place_of (length c.stores) replica)), agree)
ok_step table taken (Query replica sql) done agree e =
    let c = cluster_of table taken in
    (answered_ok c (query_step c replica sql) done e (asked_leaves c (query_reply sql) (place_of (length c.stores) replica)), agree)

refused : RefusedAddNothing
refused table taken (Append replica rows) e = refl
refused table taken (Insert replica name rows) e = refl
refused table taken (Delete replica first last) e = refl
refused table taken (DeleteWhere replica text) e = refl
refused table taken (Merge replica other) e = refl
refused table taken (Ask replica) e = refl
refused table taken (Serve replica message) e = refl
refused table taken (Take replica message) e = refl
refused table taken (Recode replica name column vector coding) e = refl
refused table taken (Open replica file) e = refl
refused table taken (Export replica) e = refl
refused table taken (Query replica sql) e = refl

refused_keeps : (table : Table) (taken : Taken) (step : Step) (e : Refusal) (reply : Reply) (new : ClusterParts) → AllAgree taken → Refused e ≡ reply → cluster_of table taken ≡ new → Stays table (taken_after table taken step reply) new
refused_keeps table taken step e reply new agree is same =
    let adds : taken_after table taken step reply ≡ taken = ap (taken_after table taken step) (sym is) ∙ refused table taken step e in
    subst (λ (t : Taken). Stays table t new) (sym adds) (sym same, agree)

step_keeps : (table : Table) (taken : Taken) (step : Step) (reply : Reply) (new : ClusterParts) → AllAgree taken → StepTo (cluster_of table taken) step reply new → Stays table (taken_after table taken step reply) new
step_keeps table taken step reply new agree (inr lacked) = refused_keeps table taken step Memory reply new agree (sym lacked.0) (sym lacked.1)
step_keeps table taken step reply new agree (inl is) =
    let c = cluster_of table taken in
    elim (step_of c step) as (λ o. step_of c step ≡ o → answered o c ≡ (reply, new) → Stays table (taken_after table taken step reply) new) [
      | Err e ↦ λ made f. refused_keeps table taken step e reply new agree (ap (λ (p : Reply × ClusterParts). p.0) f) (ap (λ (p : Reply × ClusterParts). p.1) f)
      | Ok done ↦ λ made f.
          let kept = ok_step table taken step done agree made in
          subst (λ (p : Reply × ClusterParts). Stays table (taken_after table taken step p.0) p.1) f kept
    ] refl is

run_keeps : (table : Table) (taken : Taken) (steps : List Step) (replies : List Reply) (new : ClusterParts) → AllAgree taken → Run (cluster_of table taken) steps replies new → Stays table (taken_by table taken steps replies) new
run_keeps table taken [] [] new agree r = (r, agree)
run_keeps table taken [] (reply ∷ replies) new agree r = absurd r
run_keeps table taken (step ∷ steps) [] new agree r = absurd r
run_keeps table taken (step ∷ steps) (reply ∷ replies) new agree r =
    let kept = step_keeps table taken step reply r.0 agree r.1 in
    run_keeps table (taken_after table taken step reply) steps replies new kept.1 (subst (λ (c : ClusterParts). Run c steps replies new) kept.0 r.2)

new_is : (table : Table) (first count : ℕ) → new_replicas table first count ≡ replicas_of table first (empty_sets count)
unfolding state_of
new_is table first zero = refl
new_is table first (suc count) = ap (λ (rest : List Replica). replica_of table first [] ∷ rest) (new_is table (first + 1) count)

new_agree : (count : ℕ) → EachAgrees (empty_sets count)
new_agree zero = tt
new_agree (suc count) = ((λ n a b g h. absurd g), new_agree count)

start : StartsEmpty
unfolding new_cluster
start table count = (ap (λ (stores : List Replica). record { schema = table; stores = stores; messages = [] }) (new_is table 1 count), (new_agree count, tt))

from_new : (table : Table) (count : ℕ) (steps : List Step) (replies : List Reply) (new : ClusterParts) → Run (new_cluster table count) steps replies new → Stays table (taken_by table (new_taken count) steps replies) new
from_new table count steps replies new r =
    let is = start table count in
    run_keeps table (new_taken count) steps replies new is.1 (subst (λ (c : ClusterParts). Run c steps replies new) is.0 r)

joined : RunsJoin
joined old mid new [] later [] later_replies r more = subst (λ (c : ClusterParts). Run c later later_replies new) r more
joined old mid new [] later (reply ∷ replies) later_replies r more = absurd r
joined old mid new (step ∷ steps) later [] later_replies r more = absurd r
joined old mid new (step ∷ steps) later (reply ∷ replies) later_replies r more = (r.0, r.1, joined r.0 mid new steps later replies later_replies r.2 more)

follow : RepliesFollow
follow table taken [] later [] later_replies new agree same r = r
follow table taken [] later (reply ∷ replies) later_replies new agree same r = absurd (omega arith)
follow table taken (step ∷ steps) later [] later_replies new agree same r = absurd (omega arith)
follow table taken (step ∷ steps) later (reply ∷ replies) later_replies new agree same r =
    let kept = step_keeps table taken step reply r.0 agree r.1 in
    follow table (taken_after table taken step reply) steps later replies later_replies new kept.1 (omega arith)
    (subst (λ (c : ClusterParts). Run c (steps ++ later) (replies ++ later_replies) new) kept.0 r.2)

some_step : (a b : Step) → Some a ≡ Some b → a ≡ b
some_step a b e = cc

reads : ReadsLeaveAll
unfolding export_step query_step
reads c table taken replica (Append r rows) asked reply e = cc
reads c table taken replica (Insert r name rows) asked reply e = cc
reads c table taken replica (Delete r first last) asked reply e = cc
reads c table taken replica (DeleteWhere r text) asked reply e = cc
reads c table taken replica (Merge r other) asked reply e = cc
reads c table taken replica (Ask r) asked reply e = cc
reads c table taken replica (Serve r message) asked reply e = cc
reads c table taken replica (Take r message) asked reply e = cc
reads c table taken replica (Recode r name column vector coding) asked reply e = cc
reads c table taken replica (Open r file) asked reply e = cc
reads c table taken replica (Export r) asked reply e =
    subst (λ (step : Step). ((answered (step_of c step) c).1 ≡ c) × (taken_after table taken step reply ≡ taken)) (some_step (Export replica) asked e)
    (asked_leaves c export_reply (place_of (length c.stores) replica), refl)
reads c table taken replica (Query r sql) asked reply e =
    subst (λ (step : Step). ((answered (step_of c step) c).1 ≡ c) × (taken_after table taken step reply ≡ taken)) (some_step (Query replica sql) asked e)
    (asked_leaves c (query_reply sql) (place_of (length c.stores) replica), refl)

asked_numbered : (c : ClusterParts) (replica : ℕ) (question : Table → State → Result Reply Refusal) → asked_at c replica question ≡ asked_of c question (replica_numbered c replica)
asked_numbered c replica question =
    elim (place_of (length c.stores) replica) as (λ o. asked_place c question o ≡ asked_of c question (option_and_then (slice_get c.stores) o)) [
      | None ↦ refl
      | Some at ↦ refl
    ]

-- the reply to a question
abbrev reply_of : Result Reply Refusal → Reply
reply_of (Ok reply) = reply
reply_of (Err e) = Refused e

told_reply : (c : ClusterParts) (t : Result Reply Refusal) → (answered (told c t) c).0 ≡ reply_of t
told_reply c (Ok reply) = refl
told_reply c (Err e) = refl

asked_reply : (c : ClusterParts) (replica : ℕ) (r : Replica) (question : Table → State → Result Reply Refusal) → replica_numbered c replica ≡ Some r →
    (answered (asked_at c replica question) c).0 ≡ reply_of (question r.schema r.state)
asked_reply c replica r question has =
    ap (λ made. (answered made c).0) (asked_numbered c replica question ∙ ap (asked_of c question) has) ∙ told_reply c (question r.schema r.state)

asked_query : (c : ClusterParts) (replica : ℕ) (r : Replica) (sql : List ℕ) → replica_numbered c replica ≡ Some r → reply_to c (Query replica sql) ≡ reply_of (query_reply sql r.schema r.state)
unfolding query_step
asked_query c replica r sql has = asked_reply c replica r (query_reply sql) has

asked_export : (c : ClusterParts) (replica : ℕ) (r : Replica) → replica_numbered c replica ≡ Some r → reply_to c (Export replica) ≡ File (canonical_file r.schema r.state)
unfolding export_step
asked_export c replica r has = asked_reply c replica r export_reply has

-- replicas of one table with equal states answer each step that only reads alike
same_replies : (c d : ClusterParts) (replica other : ℕ) (r s : Replica) (step asked other_asked : Step) → r.schema ≡ s.schema → replica_numbered c replica ≡ Some r → replica_numbered d other ≡ Some s → r.state ≡ s.state
    → reading_at replica step ≡ Some asked → reading_at other step ≡ Some other_asked → reply_to c asked ≡ reply_to d other_asked
same_replies c d replica other r s (Append q rows) asked other_asked schemas here there states e f = cc
same_replies c d replica other r s (Insert q name rows) asked other_asked schemas here there states e f = cc
same_replies c d replica other r s (Delete q first last) asked other_asked schemas here there states e f = cc
same_replies c d replica other r s (DeleteWhere q text) asked other_asked schemas here there states e f = cc
same_replies c d replica other r s (Merge q from) asked other_asked schemas here there states e f = cc
same_replies c d replica other r s (Ask q) asked other_asked schemas here there states e f = cc
same_replies c d replica other r s (Serve q message) asked other_asked schemas here there states e f = cc
same_replies c d replica other r s (Take q message) asked other_asked schemas here there states e f = cc
same_replies c d replica other r s (Recode q name column vector coding) asked other_asked schemas here there states e f = cc
same_replies c d replica other r s (Open q file) asked other_asked schemas here there states e f = cc
same_replies c d replica other r s (Export q) asked other_asked schemas here there states e f =
    ap (reply_to c) (sym (some_step (Export replica) asked e))
    ∙ asked_export c replica r here
    ∙ (λ i. File (canonical_file (schemas i) (states i)))
    ∙ sym (asked_export d other s there)
    ∙ ap (reply_to d) (some_step (Export other) other_asked f)
same_replies c d replica other r s (Query q sql) asked other_asked schemas here there states e f =
    ap (reply_to c) (sym (some_step (Query replica sql) asked e))
    ∙ asked_query c replica r sql here
    ∙ (λ i. reply_of (query_reply sql (schemas i) (states i)))
    ∙ sym (asked_query d other s sql there)
    ∙ ap (reply_to d) (some_step (Query other sql) other_asked f)

there_is : (o : Option Replica) → IsSome o → (r : Replica) × (o ≡ Some r)
there_is None h = cc
there_is (Some r) h = (r, refl)

alike : SameAreAlike
alike table taken other_taken replica other agree other_agree here there same =
    let c = cluster_of table taken in
    let d = cluster_of table other_taken in
    let mine = there_is (replica_numbered c replica) here in
    let theirs = there_is (replica_numbered d other) there in
    let is = numbered_is table taken replica mine.0 mine.1 in
    let other_is = numbered_is table other_taken other theirs.0 theirs.1 in
    let schemas : mine.0.schema ≡ theirs.0.schema = ap (λ (x : Replica). x.schema) is.1 ∙ sym (ap (λ (x : Replica). x.schema) other_is.1) in
    let states : mine.0.state ≡ theirs.0.state =
    ap (λ (x : Replica). x.state) is.1
    ∙ state_of-same (taken_of taken replica) (taken_of other_taken other) (agree_numbered taken replica agree) same
    ∙ sym (ap (λ (x : Replica). x.state) other_is.1) in (
      ap (option_map (λ (x : Replica). x.state)) mine.1 ∙ ap Some states ∙ sym (ap (option_map (λ (x : Replica). x.state)) theirs.1),
      λ step asked other_asked e f. same_replies c d replica other mine.0 theirs.0 step asked other_asked schemas mine.1 theirs.1 states e f,
    )

pub in_histories : SameInHistories
in_histories table count other_count steps other_steps replies other_replies new other_new replica other run other_run here there same =
    let kept = from_new table count steps replies new run in
    let other_kept = from_new table other_count other_steps other_replies other_new other_run in
    let taken = taken_by table (new_taken count) steps replies in
    let other_taken = taken_by table (new_taken other_count) other_steps other_replies in
    let P : ClusterParts → Type 0 = λ c. IsSome (replica_numbered c replica) in
    let Q : ClusterParts → Type 0 = λ c. IsSome (replica_numbered c other) in
    let R : ClusterParts → Type 0 = λ c. AreAlike c replica (cluster_of table other_taken) other in
    let S : ClusterParts → Type 0 = λ d. AreAlike new replica d other in
    subst S (sym other_kept.0) (subst R (sym kept.0) (alike table taken other_taken replica other kept.1 other_kept.1 (subst P kept.0 here) (subst Q other_kept.0 there) same))

-- the export of a replica
canonical : ExportsAreCanonical
canonical table taken replica here =
    let c = cluster_of table taken in
    let mine = there_is (replica_numbered c replica) here in
    let is = numbered_is table taken replica mine.0 mine.1 in
    asked_export c replica mine.0 mine.1 ∙ ap (λ (r : Replica). File (canonical_file r.schema r.state)) is.1

exported : SameExport
exported table count other_count steps other_steps replies other_replies new other_new replica other run other_run here there same =
    let kept = from_new table count steps replies new run in
    let taken = taken_by table (new_taken count) steps replies in
    let bytes = canonical_file table (state_of (taken_of taken replica)) in
    let P : ClusterParts → Type 0 = λ c. IsSome (replica_numbered c replica) in
    let Q : ClusterParts → Type 0 = λ c. reply_to c (Export replica) ≡ File bytes in
    let mine : reply_to new (Export replica) ≡ File bytes = subst Q (sym kept.0) (canonical table taken replica (subst P kept.0 here)) in
    let alike = in_histories table count other_count steps other_steps replies other_replies new other_new replica other run other_run here there same in
    (bytes, refl, mine, sym (alike.1 (Export replica) (Export replica) (Export other) refl refl) ∙ mine)

pub histories : HistoryLaws
histories =
    record { start = start; cluster = run_keeps; messages = messages_stay; brought = same_messages; refused = refused; joined = joined; replies = follow; reads = reads; alike = alike; histories = in_histories; canonical = canonical; exports = exported }
