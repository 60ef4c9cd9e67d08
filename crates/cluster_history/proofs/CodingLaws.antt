-- No step but a recode changes a coding of what replicas hold, and none one of what messages bring; so no run without a recode does.
use Rattle.std.specs.Prelude.{◌≡◌, ℕ, true, false, cond, List, [], ◌∷◌, ◌++◌, length, slice_get, slice_set, Option, Some, None, option_and_then}
use Rattle.std.specs.FinMap as finite
use Rattle.std.specs.Ordering.{eq_by_cmp}
use Rattle.std.proofs.Common.{refl, sym, ap, subst, ◌∙◌, inl, inr, arith}
use Rattle.std.proofs.lemmas.Bool.{cases_eq}
use Rattle.std.proofs.lemmas.Option.{slice_get_within, slice_get_read, get_or_from_slice_get}
use Rattle.std.proofs.lemmas.List.{get_or_append_left, length-append}
use Rattle.table_model.specs.State.{union_of}
use Rattle.table_model.specs.Name.{name_cmp}
use Rattle.table_model.specs.declared.names.BatchName.{BatchName}
use Rattle.table_model.proofs.Joins.{or_else, get-union}
use Rattle.table_model.proofs.NameOrder.{names_total}
use Rattle.table_model.proofs.Operations.{same_name}
use Rattle.segment_core.proofs.PutLemmas.{slice_get-set_same, slice_get-set_other}
use Rattle.segment_core.specs.Segment.{SegmentForm}
use Rattle.cluster_history.specs.Cluster.{numbered}
use Rattle.cluster_history.specs.Codings.{Become, IsPut, AreJoined, IsSent, StayIn, IsNoRecode, HeldStay, SentStay}
use Rattle.cluster_history.specs.Run.{CodedStepTo, RunsKeep, CodingLaws}
use Rattle.replica_store.specs.Segments.{Segments}
use Rattle.cluster_history.specs.Segments.{ClusterSegments, ClusterForm}
use Rattle.cluster_history.specs.declared.reply.Reply.{Reply}
use Rattle.cluster_history.specs.declared.step.Step.{Step}
use Rattle.cluster_history.specs.declared.step.Step.TheVariants.{Append, Insert, Delete, DeleteWhere, Merge, Ask, Serve, Take, Recode, Open, Export, Query}

-- what some segments have is there in others as it was
abbrev Keeps : Segments → Segments → Type 0
Keeps old new = (name : BatchName) (s : SegmentForm) → finite.get old name ≡ Some s → finite.get new name ≡ Some s

stay_self : (xs : List Segments) → StayIn xs xs
stay_self xs at held has = (held, has, λ name s e. e)

stay_more : (xs : List Segments) (x : Segments) → StayIn xs (xs ++ (x ∷ []))
stay_more xs x at held has =
    let below = slice_get_within xs at held has in
    (held, slice_get_read (xs ++ (x ∷ [])) (length (xs ++ (x ∷ []))) at held refl (omega (arith, below, length-append xs (x ∷ []))) (sym (get_or_append_left xs (x ∷ []) held at below ∙ get_or_from_slice_get xs at held held has)), λ name s e. e)

stay_set : (xs : List Segments) (at : ℕ) (held made : Segments) → slice_get xs at ≡ Some held → Keeps held made → StayIn xs (slice_set xs at made)
stay_set xs at held made here keeps k kept has = elim (cases_eq k at) [
  | inl same ↦
      (let one : Some kept ≡ Some held = sym has ∙ ap (slice_get xs) same ∙ here in
      let is : kept ≡ held = cc in
      (made, ap (slice_get (slice_set xs at made)) same ∙ slice_get-set_same xs at made (slice_get_within xs at held here), λ name s e. keeps name s (ap (λ (m : Segments). finite.get m name) (sym is) ∙ e)))
  | inr other ↦ (kept, slice_get-set_other xs at k made other ∙ has, λ name s e. e)
]

-- a replica's segments became others that have all of theirs
stay_become : (old : ClusterSegments) (replica : ℕ) (held made : Segments) (new : ClusterSegments) → numbered old.stores replica ≡ Some held → Keeps held made → Become old replica made new → StayIn old.stores new.stores
stay_become old replica held made new has keeps become =
    let at : ℕ = become.0 in
    let here : slice_get old.stores at ≡ Some held = sym (ap (option_and_then (slice_get old.stores)) become.1) ∙ has in
    subst (λ (ss : List Segments). StayIn old.stores ss) (sym (ap (λ (c : ClusterSegments). c.stores) become.2)) (stay_set old.stores at held made here keeps)

keeps_put : (held : Segments) (name : BatchName) (x : SegmentForm) → finite.get held name ≡ None → Keeps held (finite.insert held name x)
keeps_put held name x free q s e =
    finite.get-insert names_total held name x q
    ∙ elim (eq_by_cmp name_cmp q name) as (λ b. eq_by_cmp name_cmp q name ≡ b → cond b (Some x) (finite.get held q) ≡ Some s) [
      | true ↦ λ t. let both : None ≡ Some s = sym free ∙ ap (finite.get held) (sym (same_name q name t)) ∙ e in cc
      | false ↦ λ t. e
    ] refl

keeps_union : (held came : Segments) → Keeps held (union_of held came)
keeps_union held came q s e = get-union held came q ∙ ap (λ (o : Option SegmentForm). or_else o (finite.get came q)) e

put_stays : (old : ClusterForm) (replica : ℕ) (name : BatchName) (rows : _) (new : ClusterSegments) → IsPut old replica name rows new → StayIn old.segments.stores new.stores
put_stays old replica name rows new put = stay_become old.segments replica put.1 _ new put.3 (keeps_put put.1 name _ put.4) put.5

joined_stay : (old : ClusterForm) (replica : ℕ) (came : Segments) (new : ClusterSegments) → AreJoined old replica came new → StayIn old.segments.stores new.stores
joined_stay old replica came new joined = stay_become old.segments replica joined.0 (union_of joined.0 came) new joined.1 (keeps_union joined.0 came) joined.2

same_stay : (old new : List Segments) → new ≡ old → StayIn old new
same_stay old new is = subst (λ (xs : List Segments). StayIn old xs) (sym is) (stay_self old)

held_stay : HeldStay
held_stay old (Append replica rows) reply new other after = put_stays old replica after.0 rows new after.2
held_stay old (Insert replica name rows) reply new other (inl put) = put_stays old replica name rows new put.1
held_stay old (Insert replica name rows) reply new other (inr same) = same_stay old.segments.stores new.stores (ap (λ (c : ClusterSegments). c.stores) same.1)
held_stay old (Delete replica first last) reply new other after = same_stay old.segments.stores new.stores (ap (λ (c : ClusterSegments). c.stores) after)
held_stay old (DeleteWhere replica text) reply new other after = same_stay old.segments.stores new.stores (ap (λ (c : ClusterSegments). c.stores) after)
held_stay old (Merge replica from) reply new other after = joined_stay old replica after.0 new after.2
held_stay old (Ask replica) reply new other after = same_stay old.segments.stores new.stores (ap (λ (c : ClusterSegments). c.stores) after)
held_stay old (Serve replica message) reply new other after = same_stay old.segments.stores new.stores (ap (λ (c : ClusterSegments). c.stores) after.4)
held_stay old (Take replica message) reply new other after = joined_stay old replica after.0 new after.2
held_stay old (Recode replica name column vector coding) reply new other after = absurd other
held_stay old (Open replica file) reply new other after = joined_stay old replica after.1 new after.4
held_stay old (Export replica) reply new other after = same_stay old.segments.stores new.stores (ap (λ (c : ClusterSegments). c.stores) after)
held_stay old (Query replica sql) reply new other after = same_stay old.segments.stores new.stores (ap (λ (c : ClusterSegments). c.stores) after)

become_sent : (old : ClusterSegments) (replica : ℕ) (made : Segments) (new : ClusterSegments) → Become old replica made new → StayIn old.messages new.messages
become_sent old replica made new become = same_stay old.messages new.messages (ap (λ (c : ClusterSegments). c.messages) become.2)

sent_one : (old : ClusterSegments) (brought : Segments) (new : ClusterSegments) → IsSent old brought new → StayIn old.messages new.messages
sent_one old brought new is = subst (λ (ms : List Segments). StayIn old.messages ms) (sym (ap (λ (c : ClusterSegments). c.messages) is)) (stay_more old.messages brought)

sent_stay : SentStay
sent_stay old (Append replica rows) reply new after = become_sent old.segments replica _ new after.2.5
sent_stay old (Insert replica name rows) reply new (inl put) = become_sent old.segments replica _ new put.1.5
sent_stay old (Insert replica name rows) reply new (inr same) = same_stay old.segments.messages new.messages (ap (λ (c : ClusterSegments). c.messages) same.1)
sent_stay old (Delete replica first last) reply new after = same_stay old.segments.messages new.messages (ap (λ (c : ClusterSegments). c.messages) after)
sent_stay old (DeleteWhere replica text) reply new after = same_stay old.segments.messages new.messages (ap (λ (c : ClusterSegments). c.messages) after)
sent_stay old (Merge replica from) reply new after = become_sent old.segments replica _ new after.2.2
sent_stay old (Ask replica) reply new after = sent_one old.segments finite.empty new after
sent_stay old (Serve replica message) reply new after = sent_one old.segments _ new after.4
sent_stay old (Take replica message) reply new after = become_sent old.segments replica _ new after.2.2
sent_stay old (Recode replica name column vector coding) reply new after = become_sent old.segments replica _ new after.4
sent_stay old (Open replica file) reply new after = become_sent old.segments replica _ new after.4.2
sent_stay old (Export replica) reply new after = same_stay old.segments.messages new.messages (ap (λ (c : ClusterSegments). c.messages) after)
sent_stay old (Query replica sql) reply new after = same_stay old.segments.messages new.messages (ap (λ (c : ClusterSegments). c.messages) after)

-- what stays in a list, and then in the next, stays
stay_then : (xs ys zs : List Segments) → StayIn xs ys → StayIn ys zs → StayIn xs zs
stay_then xs ys zs first then at held has =
    let mid = first at held has in
    let last = then at mid.0 mid.1 in
    (last.0, last.1, λ name s e. last.2 name s (mid.2 name s e))

step_stays : (old mid : ClusterForm) (step : Step) (reply : Reply) → IsNoRecode step → CodedStepTo old step reply mid
    → StayIn old.segments.stores mid.segments.stores × StayIn old.segments.messages mid.segments.messages
step_stays old mid step reply other (inl made) = (held_stay old step reply mid.segments other made.1, sent_stay old step reply mid.segments made.1)
step_stays old mid step reply other (inr refused) =
    let same : mid.segments ≡ old.segments = ap (λ (c : ClusterForm). c.segments) refused.2.0 in
    (same_stay old.segments.stores mid.segments.stores (ap (λ (c : ClusterSegments). c.stores) same), same_stay old.segments.messages mid.segments.messages (ap (λ (c : ClusterSegments). c.messages) same))

runs_keep : RunsKeep
runs_keep old new [] [] none run =
    let same : new.segments ≡ old.segments = ap (λ (c : ClusterForm). c.segments) run in
    (same_stay old.segments.stores new.segments.stores (ap (λ (c : ClusterSegments). c.stores) same), same_stay old.segments.messages new.segments.messages (ap (λ (c : ClusterSegments). c.messages) same))
runs_keep old new [] (reply ∷ replies) none run = absurd run
runs_keep old new (step ∷ steps) [] none run = absurd run
runs_keep old new (step ∷ steps) (reply ∷ replies) none run =
    let first = step_stays old run.0 step reply none.0 run.1 in
    let rest = runs_keep run.0 new steps replies none.1 run.2 in (
      stay_then old.segments.stores run.0.segments.stores new.segments.stores first.0 rest.0,
      stay_then old.segments.messages run.0.segments.messages new.segments.messages first.1 rest.1,
    )

pub codings : CodingLaws
codings = record { held = held_stay; sent = sent_stay; runs = runs_keep }
