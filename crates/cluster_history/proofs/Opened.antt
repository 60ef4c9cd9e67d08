-- What opening a file makes of a cluster, from what the file's opening and the merge after it answered.
use Rattle.std.specs.Prelude.{◌≡◌, ◌⊎◌, ℕ, ◌<◌, ◌≤◌, false, cond, ◌==◌, List, length, Some, Result, Ok, Err, IsOk}
use Rattle.std.proofs.Common.{refl, sym, ap, subst, ◌∙◌, arith, get_or}
use Rattle.std.proofs.lemmas.Bool.Decides.{nat_tests}
use Rattle.std.proofs.lemmas.Option.{slice_get_read}
use Rattle.table_model.specs.Reading.{◌>>=◌}
use Rattle.table_model.specs.Table.{Table}
use Rattle.table_model.specs.declared.names.Origin.{Origin}
use Rattle.table_model.specs.declared.refusal.Refusal.{Refusal}
use Rattle.table_model.specs.declared.refusal.Refusal.TheVariants.{Memory, BadName}
use Rattle.replica_store.specs.Replica.{Replica, merged}
use Rattle.replica_store.specs.Segments.{StoreForm}
use Rattle.replica_store.specs.Exchange.{OfferForm, offering}
use Rattle.column_file.specs.Files.{canonical_read, opened_from}
use Rattle.cluster_history.specs.Cluster.{ClusterParts, place_of, placed, at_replica, done_reply, opening}
use Rattle.cluster_history.specs.Message.{Carried}
use Rattle.cluster_history.proofs.Placed.{cluster_with, found, at_found, length-replicas_in}

proper : (own : Origin) (file : List ℕ) → 1 ≤ own.0 → opened_from own file ≡ (canonical_read file >>= λ held. Ok (offering own held))
proper own file some =
    let test : (own.0 == 0) ≡ false = grind (arith, nat_tests) in
    ap (λ b. cond b (Err BadName) (canonical_read file >>= λ held. Ok (offering own held))) test

same_ok : (r other : Replica) → ◌≡◌ {A = Result Replica Refusal} (Ok r) (Ok other) → r ≡ other
same_ok r other e = cc

same_err : (a b : Refusal) → ◌≡◌ {A = Result Replica Refusal} (Err a) (Err b) → a ≡ b
same_err a b e = cc

-- a file that was opened is read, and what it holds is the replica
pub opened_held : (own : Origin) (file : List ℕ) (other : Replica) → 1 ≤ own.0 → opened_from own file ≡ Ok other → (held : OfferForm) × (canonical_read file ≡ Ok held) × (offering own held ≡ other)
opened_held own file other some e =
    elim (canonical_read file) as (λ read. canonical_read file ≡ read → (read >>= λ held. Ok (offering own held)) ≡ Ok other → (held : OfferForm) × (canonical_read file ≡ Ok held) × (offering own held ≡ other)) [
      | Err fault ↦ λ is f. let bad : ◌≡◌ {A = Result Replica Refusal} (Err fault) (Ok other) = f in cc
      | Ok held ↦ λ is f. (held, is, same_ok (offering own held) other f)
    ] refl (sym (proper own file some) ∙ e)

-- a file that was opened is merged
pub opening_ok : (own : Origin) (file : List ℕ) (r other : Replica) → 1 ≤ own.0 → own ≡ r.own → opened_from own file ≡ Ok other → opening (canonical_read file) r ≡ merged r other
opening_ok own file r other some is e =
    elim (canonical_read file) as (λ read. (read >>= λ held. Ok (offering own held)) ≡ Ok other → opening read r ≡ merged r other) [
      | Err fault ↦ λ f. let bad : ◌≡◌ {A = Result Replica Refusal} (Err fault) (Ok other) = f in cc
      | Ok held ↦ λ f. ap (λ (o : Origin). merged r (offering o held)) (sym is) ∙ ap (merged r) (same_ok (offering own held) other f)
    ] (sym (proper own file some) ∙ e)

-- a file that was refused is refused
pub opening_err : (own : Origin) (file : List ℕ) (r : Replica) (e : Refusal) → 1 ≤ own.0 → opened_from own file ≡ Err e → opening (canonical_read file) r ≡ Err e
opening_err own file r e some is =
    elim (canonical_read file) as (λ read. (read >>= λ held. Ok (offering own held)) ≡ Err e → opening read r ≡ Err e) [
      | Err fault ↦ λ f. ap (λ (x : Refusal). let made : Result (Unit {0} × Replica) Refusal = Err x in made) (same_err fault e f)
      | Ok held ↦ λ f. let bad : ◌≡◌ {A = Result Replica Refusal} (Ok (offering own held)) (Err e) = f in cc
    ] (sym (proper own file some) ∙ is)

-- a refused merge is said of the file that was opened
pub opening_acts : (own : Origin) (file : List ℕ) (r other new : Replica) (e : Refusal) → 1 ≤ own.0 → own ≡ r.own → opened_from own file ≡ Ok other
    → (new ≡ r) × ((merged r other ≡ Err e) ⊎ ((e ≡ Memory) × IsOk (merged r other)))
    → (new ≡ r) × ((opening (canonical_read file) r ≡ Err e) ⊎ ((e ≡ Memory) × IsOk (opening (canonical_read file) r)))
opening_acts own file r other new e some is made acts =
    let P : Result (Unit {0} × Replica) Refusal → Type 0 = λ m. (new ≡ r) × ((m ≡ Err e) ⊎ ((e ≡ Memory) × IsOk m)) in
    subst P (sym (opening_ok own file r other some is made)) acts

some_store : (s t : StoreForm) → Some s ≡ Some t → s ≡ t
some_store s t e = cc

-- what stands at a place is one store, however often it is looked at
pub one_store : (stores : List StoreForm) (at : ℕ) (s t : StoreForm) → at < length stores → s ≡ get_or stores at s → t ≡ get_or stores at t → s ≡ t
one_store stores at s t below is other = some_store s t (sym (slice_get_read stores (length stores) at s refl below is) ∙ slice_get_read stores (length stores) at t refl below other)

-- as many stores as replicas
pub within : (c : ClusterParts) (schema : Table) (stores : List StoreForm) (messages : List Carried) (at : ℕ) → cluster_with schema stores messages ≡ c → at < length c.stores → at < length stores
within c schema stores messages at view below =
    let lengths : length c.stores ≡ length stores = ap (λ (d : ClusterParts). length d.stores) (sym view) ∙ length-replicas_in stores in omega (arith, below)

-- a step whose file was refused is refused
pub open_refused : (c : ClusterParts) (schema : Table) (stores : List StoreForm) (messages : List Carried) (replica at : ℕ) (s : StoreForm) (own : Origin) (file : List ℕ) (e : Refusal)
    → cluster_with schema stores messages ≡ c → Some at ≡ place_of (length c.stores) replica → at < length c.stores → s ≡ get_or stores at s
    → 1 ≤ own.0 → opened_from own file ≡ Err e → at_replica done_reply c replica (opening (canonical_read file)) ≡ Err e
open_refused c schema stores messages replica at s own file e view is below held some refused =
    let call : Replica → Result (Unit {0} × Replica) Refusal = opening (canonical_read file) in
    let Q : ClusterParts → Type 0 = λ c. Some at ≡ place_of (length c.stores) replica → at < length c.stores → at_replica done_reply c replica call ≡ Err e in
    subst Q view (λ is below.
    at_found done_reply (cluster_with schema stores messages) replica at call s.replica is (found stores at s (omega (arith, below, length-replicas_in stores)) held)
    ∙ ap (placed done_reply (cluster_with schema stores messages) at) (opening_err own file s.replica e some refused)) is below
