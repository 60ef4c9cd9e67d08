-- A recode of the store at a place is that of the cluster at the replica there.
use Rattle.std.specs.Prelude.{◌≡◌, ◌⊎◌, ℕ, ◌<◌, List, ◌++◌, length, take, drop, slice_get, slice_set, Some, Result, Ok, Err, IsOk}
use Rattle.std.proofs.Common.{refl, sym, ap, ◌∙◌, get_or}
use Rattle.std.proofs.lemmas.List.{length-set}
use Rattle.std.proofs.lemmas.Option.{slice_get_read, get_or_from_slice_get}
use Rattle.table_model.specs.Table.{Table}
use Rattle.table_model.specs.Outcome.{Acts}
use Rattle.table_model.specs.declared.names.BatchName.{BatchName}
use Rattle.table_model.specs.declared.refusal.Refusal.{Refusal}
use Rattle.table_model.specs.declared.refusal.Refusal.TheVariants.{Memory}
use Rattle.segment_core.specs.declared.coding.Coding.{Coding}
use Rattle.replica_store.specs.Replica.{recoded_rows}
use Rattle.replica_store.specs.Segments.{StoreForm, recoded_in}
use Rattle.cluster_history.specs.Cluster.{ClusterParts, place_of, recode_step, done_reply}
use Rattle.cluster_history.specs.Message.{Carried}
use Rattle.cluster_history.specs.ChangedStores.{RecodesAt}
use Rattle.cluster_history.specs.declared.reply.Reply.{Reply}
use Rattle.cluster_history.specs.declared.reply.Reply.TheVariants.{Done}
use Rattle.cluster_history.proofs.Apart.{refill}
use Rattle.cluster_history.proofs.Placed.{cluster_with, same_store, call_done, call_refused}

abbrev unit : Unit {0} → Unit {0}
unit u = u

-- what the store at a place does, the stores do there
pub recodes_there : (stores : List StoreForm) (place : ℕ) (s made : StoreForm) (result : Result (Unit {0}) Refusal) (name : BatchName) (column vector : ℕ) (coding : Coding)
    → place < length stores → s ≡ get_or stores place s
    → Acts unit s.replica result made.replica (recoded_rows s.replica name column vector) → Acts unit s.segments result made.segments (recoded_in s.segments name column vector coding)
    → RecodesAt stores result (slice_set stores place made) place name column vector coding
recodes_there stores place s made result name column vector coding below is acts segments =
    (s, made, slice_get_read stores (length stores) place s refl below is, refl, acts, segments)

-- stores that were lent and came back, of which one place was set
pub refilled : (stores lent new : List StoreForm) (n place : ℕ) (made : StoreForm) → lent ≡ stores → n ≡ length stores → new ≡ slice_set lent place made → take n (new ++ drop (length new) stores) ≡ slice_set stores place made
refilled stores lent new n place made is is_len set =
    let made_is : new ≡ slice_set stores place made = set ∙ ap (λ (ss : List StoreForm). slice_set ss place made) is in
    refill n stores new is_len (ap length made_is ∙ length-set stores place made) ∙ made_is

pub there_is : (stores lent : List StoreForm) (place : ℕ) (s : StoreForm) → lent ≡ stores → slice_get lent place ≡ Some s → s ≡ get_or stores place s
there_is stores lent place s is held = sym (get_or_from_slice_get stores place s s (ap (λ (ss : List StoreForm). slice_get ss place) (sym is) ∙ held))

-- a recode that is refused leaves the stores
pub recode_left : (stores new : List StoreForm) (place : ℕ) (name : BatchName) (column vector : ℕ) (coding : Coding) (e : Refusal) → RecodesAt stores (Err e) new place name column vector coding → new ≡ stores
recode_left stores new place name column vector coding e recodes =
    let s : StoreForm = recodes.0 in
    let made : StoreForm = recodes.1 in
    let same : made ≡ s = λ i. record { replica = recodes.4.0 i; segments = recodes.5.0 i } in
    recodes.3 ∙ same_store stores place s made (there_is stores stores place s refl recodes.2) same

pub recode_done : (c : ClusterParts) (schema : Table) (stores lent new : List StoreForm) (messages : List Carried) (n replica place : ℕ) (name : BatchName) (column vector : ℕ) (coding : Coding) (u : Unit {0})
    → cluster_with schema stores messages ≡ c → lent ≡ stores → n ≡ length stores → Some place ≡ place_of (length c.stores) replica → place < length c.stores
    → RecodesAt lent (Ok u) new place name column vector coding
    → recode_step c replica name column vector ≡ Ok (Done, cluster_with schema (take n (new ++ drop (length new) stores)) messages)
unfolding recode_step
recode_done c schema stores lent new messages n replica place name column vector coding u view is_lent is_len is below recodes =
    let s : StoreForm = recodes.0 in
    let made : StoreForm = recodes.1 in
    call_done done_reply c schema stores messages replica place (λ r. recoded_rows r name column vector) s made u view is below (there_is stores lent place s is_lent recodes.2) recodes.4
    ∙ ap (λ (ss : List StoreForm). let done : Result (Reply × ClusterParts) Refusal = Ok (Done, cluster_with schema ss messages) in done) (sym (refilled stores lent new n place made is_lent is_len recodes.3))

pub recode_refused : (c : ClusterParts) (schema : Table) (stores lent new : List StoreForm) (messages : List Carried) (n replica place : ℕ) (name : BatchName) (column vector : ℕ) (coding : Coding) (e : Refusal)
    → cluster_with schema stores messages ≡ c → lent ≡ stores → n ≡ length stores → Some place ≡ place_of (length c.stores) replica → place < length c.stores
    → RecodesAt lent (Err e) new place name column vector coding
    → (cluster_with schema (take n (new ++ drop (length new) stores)) messages ≡ c)
    × ((recode_step c replica name column vector ≡ Err e) ⊎ ((e ≡ Memory) × IsOk (recode_step c replica name column vector)))
unfolding recode_step
recode_refused c schema stores lent new messages n replica place name column vector coding e view is_lent is_len is below recodes =
    let s : StoreForm = recodes.0 in
    let made : StoreForm = recodes.1 in
    let same : made ≡ s = λ i. record { replica = recodes.4.0 i; segments = recodes.5.0 i } in
    let refused = call_refused done_reply c schema stores messages replica place (λ r. recoded_rows r name column vector) s made e view is below (there_is stores lent place s is_lent recodes.2) same recodes.4 in (
      ap (λ (ss : List StoreForm). cluster_with schema ss messages) (refilled stores lent new n place made is_lent is_len recodes.3) ∙ refused.0,
      refused.1,
    )
