-- A part is judged by its name, read, and joined to what those before it hold.
use Rattle.std.specs.Prelude.{◌≡◌, ◌⊎◌, [], ◌∷◌, Some, Result, Ok, Err, IfOk}
use Rattle.std.proofs.Common.{ap, subst, inl, inr}
use Rattle.table_model.specs.Outcome.{Gives}
use Rattle.table_model.specs.Reading.{Reads, ◌>>=◌}
use Rattle.table_model.specs.declared.refusal.Refusal.{Refusal}
use Rattle.replica_store.specs.Replica.{Replica, merged}
use Rattle.replica_store.specs.Segments.{StoreForm}
use Rattle.replica_store.proofs.Limits.{same_Ok}
use Rattle.column_file.specs.Files.{AreCanonicalOf}
use Rattle.column_file.specs.Input.{IsUnread}
use Rattle.replica_reports.specs.Held.{held_in}
use Rattle.replica_changes.specs.Commands.{merged_with}
use Rattle.replica_changes.proofs.FileMerges.{merging_done}
use Rattle.folder_parts.specs.Parts.{PartForm, IsWhole, IsFaultOf}
use Rattle.folder_parts.specs.declared.fault.PartFault.{PartFault}
use Rattle.folder_parts.specs.declared.fault.PartFault.TheVariants.{Damaged, Refused}

-- a want of memory, or a failed read, is told of any part
pub unread_fault : (e : Refusal) (part : PartForm) (made : Result Replica Refusal) → IsUnread e → IsFaultOf (Refused e) part made
unread_fault e part made is = inr is

-- bytes that are refused
pub opens_refused : {X : Type 0} (read : X → Replica) (part : PartForm) (e : Refusal) → IsWhole part → Reads {X = X} read (Err e) (held_in part.bytes) → IsFaultOf (Refused e) part (held_in part.bytes)
opens_refused read part e whole (inl refused) = inl (whole, refused)
opens_refused read part e whole (inr lack) = inr (inl lack)

-- a part whose bytes are refused is refused beside others
pub joins_refused : (part : PartForm) (old : Replica) (fault : PartFault) → IsFaultOf fault part (held_in part.bytes) → IsFaultOf fault part (merged_with old (part.bytes ∷ []))
joins_refused part old Damaged h = h
joins_refused part old (Refused e) (inl h) =
    inl (h.0, ap (λ (x : Result Replica Refusal). x >>= λ (r : Replica). merged old r >>= λ (done : Unit {0} × Replica). merged_with done.1 []) h.1)
joins_refused part old (Refused e) (inr is) = inr is

-- a part that was opened is joined, or refused beside others
pub joins_unmerged : {X J : Type 0} (read : X → Replica) (view : J → Unit {0} × Replica) (x : X) (part : PartForm) (old : Replica) (e : Refusal) → IsWhole part → held_in part.bytes ≡ Ok (read x)
    → Reads view (Err e) (merged old (read x)) → IsFaultOf (Refused e) part (merged_with old (part.bytes ∷ []))
joins_unmerged read view x part old e whole is (inr lack) = inr (inl lack)
joins_unmerged read view x part old e whole is (inl refused) = of (merging_done read (λ (r : Replica). r) x (Err e) (Some part.bytes) old is (inl refused))
  where
    of : (merged_with old (part.bytes ∷ []) ≡ Err e) ⊎ IsUnread e → IsFaultOf (Refused e) part (merged_with old (part.bytes ∷ []))
    of (inl refused) = inl (whole, refused)
    of (inr lack) = inr lack

pub joins_merged : {X J : Type 0} (read : X → Replica) (view : J → Replica) (x : X) (made : J) (part : PartForm) (old : Replica) → held_in part.bytes ≡ Ok (read x)
    → Reads (λ (j : J). (tt, view j)) (Ok made) (merged old (read x)) → merged_with old (part.bytes ∷ []) ≡ Ok (view made)
joins_merged read view x made part old is merges = merging_done read view x (Ok made) (Some part.bytes) old is merges

-- a store that was opened is the join of one part, unless memory runs out
pub one_joined : (s joined : StoreForm) → Gives {X = StoreForm} {Y = StoreForm} (λ j. j) (Ok joined) (Ok s) → s ≡ joined
one_joined s joined given = same_Ok s joined given

pub one_unjoined : (s : StoreForm) (e : Refusal) (part : PartForm) (made : Result Replica Refusal) → Gives {X = StoreForm} {Y = StoreForm} (λ j. j) (Err e) (Ok s) → IsFaultOf (Refused e) part made
one_unjoined s e part made (inl other) = let bad : ⊥ = cc in absurd bad
one_unjoined s e part made (inr lack) = inr (inl lack.0)

pub one_canonical : (s joined : StoreForm) → s ≡ joined → AreCanonicalOf s.replica.schema s.replica.state.batches s.segments → AreCanonicalOf joined.replica.schema joined.replica.state.batches joined.segments
one_canonical s joined same is = subst (λ (x : StoreForm). AreCanonicalOf x.replica.schema x.replica.state.batches x.segments) same is

-- the store that a join is made into has canonical segments
pub store_canonical : (joined : StoreForm) (result : Result StoreForm Refusal) → Gives {X = StoreForm} {Y = StoreForm} (λ s. s) result (Ok joined) → AreCanonicalOf joined.replica.schema joined.replica.state.batches joined.segments
    → IfOk result (λ s. AreCanonicalOf s.replica.schema s.replica.state.batches s.segments)
store_canonical joined (Ok s) given is = one_canonical joined s (same_Ok joined s given) is
store_canonical joined (Err e) given is = tt
