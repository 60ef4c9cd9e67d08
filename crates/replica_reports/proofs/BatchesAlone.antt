-- A batch alone may be offered, and a store of that offer is the replica that has it alone.
use Rattle.std.specs.Prelude.{◌≡◌, ℕ, List, [], ◌∷◌, Some, Result, Ok, Err, IfOk, IfErr, slice_get}
use Rattle.std.proofs.Common.{sym, ap, subst, inl, inr, ◌∙◌, arith}
use Rattle.std.proofs.lemmas.List.Elements.{All-nil, All-cons}
use Rattle.std.specs.FinMap as map
use Rattle.std.specs.FinSet as set
use Rattle.table_model.specs.Outcome.{Gives}
use Rattle.table_model.specs.State.{Batch, State}
use Rattle.table_model.specs.Table.{Table}
use Rattle.table_model.specs.declared.names.BatchName.{BatchName}
use Rattle.table_model.specs.declared.refusal.Refusal.{Refusal}
use Rattle.table_model.specs.declared.refusal.Refusal.TheVariants.{Memory}
use Rattle.table_model.proofs.Joins.{same_states}
use Rattle.segment_core.specs.Segment.{SegmentForm}
use Rattle.replica_store.specs.Exchange.{AreOffered, OfferForm, offering, opened}
use Rattle.replica_store.specs.Replica.{Replica, entries_of}
use Rattle.replica_store.specs.Segments.{Entry, IsStored, rows_entries, rows_in}
use Rattle.replica_reports.specs.Digests.{alone}

-- a batch that a store of the table may hold may be offered alone
pub offered_alone : (table t : Table) (e : Entry) (es : List Entry) → t ≡ table → es ≡ e ∷ [] → IsStored table e → AreOffered t es
offered_alone table t e es same is stored =
    subst (λ (s : Table). AreOffered s es) (sym same)
    (subst (AreOffered table) (sym is) (record { sorted = tt; limit = omega arith; stored = All-cons (IsStored table) e [] stored (All-nil (IsStored table)) }))

same_entry : (e d : BatchName × Batch) → Some e ≡ Some d → e ≡ d
same_entry e d is = cc

opened_as : (o : OfferForm) (one : Replica) → opened (record { 0 = 1 }) o ≡ Ok one → one ≡ offering (record { 0 = 1 }) o
opened_as o one is = cc

-- the store of the offer of a batch alone
pub alone_is : (r : Replica) (i : ℕ) (o : OfferForm) (name : BatchName) (s : SegmentForm)
    → o.schema ≡ r.schema → o.state.batches ≡ rows_in o.segments → o.state.deleted ≡ set.empty → map.entries o.segments ≡ (name, s) ∷ [] → slice_get (entries_of r) i ≡ Some (name, s.rows)
    → (one : Replica) → opened (record { 0 = 1 }) o ≡ Ok one → (e : BatchName × Batch) → slice_get (entries_of r) i ≡ Some e → one ≡ alone r.schema e
unfolding rows_in
alone_is r i o name s schema batches deleted entries is one made e there =
    let only : State = record { batches = map.from_sorted (e ∷ []); deleted = set.empty } in
    let same : (name, s.rows) ≡ e = same_entry (name, s.rows) e (sym is ∙ there) in
    let held : o.state.batches ≡ only.batches =
    batches ∙ ap (λ (es : List Entry). map.from_sorted (rows_entries es)) entries ∙ ap (λ (x : BatchName × Batch). map.from_sorted (x ∷ [])) same in
    opened_as o one made ∙ (λ j. record { schema = schema j; own = record { 0 = 1 }; state = same_states o.state only held deleted j })

-- what is said of what is given, said of a result
pub if_given : {X Y : Type 0} (view : X → Y) (P : Y → Type 0) (result : Result X Refusal) (given : Result Y Refusal) → ((y : Y) → given ≡ Ok y → P y) → Gives view result given → IfOk result (λ x. P (view x))
if_given view P (Ok x) given f gives = f (view x) gives
if_given view P (Err e) given f gives = tt

-- only memory may run out
pub only_memory : {X : Type 0} (view : X → Replica) (result : Result X Refusal) (o : OfferForm) → Gives view result (opened (record { 0 = 1 }) o) → IfErr result (λ e. e ≡ Memory)
only_memory view (Ok x) o gives = tt
only_memory view (Err e) o (inl refused) = cc
only_memory view (Err e) o (inr memory) = memory.0

-- what is said of a value, if there is one, after what was said of it
pub if_told : {X E : Type 0} {P Q : X → Type 0} (result : Result X E) → ((x : X) → P x → Q x) → IfOk result P → IfOk result Q
if_told (Ok x) f told = f x told
if_told (Err e) f told = tt
