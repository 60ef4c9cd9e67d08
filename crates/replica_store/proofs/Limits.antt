-- The limits of a replica are kept: by a batch that goes in, and by a union; and what was decided before a batch goes in.
use Rattle.std.specs.Prelude.{◌≡◌, ℕ, ◌+◌, ◌<◌, ◌≤◌, Bool, true, false, cond, ◌==◌, nat_lt, List, [], ◌∷◌, length, Option, Some, None, is_some, Result, Ok, Err}
use Rattle.std.proofs.Common.{refl, sym, ap, subst, ◌∙◌, arith, Less, Equal, Greater}
use Rattle.std.specs.Ordering.{is_lt, eq_by_cmp}
use Rattle.std.specs.FinMap as map
use Rattle.std.specs.FinSet as set
use Rattle.std.specs.FinMap.Entries.{by_order}
use Rattle.std.proofs.lemmas.Bool.Decides.{nat_tests, Decides-eqb}
use Rattle.std.proofs.lemmas.List.{nil_from_length}
use Rattle.table_model.specs.Outcome.{unless}
use Rattle.table_model.specs.Name.{name_cmp, is_proper_name}
use Rattle.table_model.specs.State.{Batch, union_of, same_rows}
use Rattle.table_model.specs.Table.{Table, rows_fault, first_fault, same_table, IsBatch, row_limit}
use Rattle.table_model.specs.declared.names.Origin.{Origin}
use Rattle.table_model.specs.declared.names.BatchName.{BatchName}
use Rattle.table_model.specs.declared.names.RowName.{RowName}
use Rattle.table_model.specs.declared.refusal.Refusal.{Refusal}
use Rattle.table_model.specs.declared.refusal.Refusal.TheVariants.{Conflict, Full, SchemaDiffers, NumbersSpent, BadName, BadRange, EmptyBatch, BatchTooLong}
use Rattle.table_model.proofs.NameOrder.{names_total}
use Rattle.table_model.proofs.Batches.{IsBatch-fault}
use Rattle.table_model.proofs.Operations.{same_name}
use Rattle.table_model.proofs.SameTable.{one_table}
use Rattle.replica_store.specs.declared.inserted.Inserted.{Inserted}
use Rattle.replica_store.specs.declared.inserted.Inserted.TheVariants.{New, Already}
use Rattle.replica_store.specs.Entries.{merge}
use Rattle.replica_store.specs.Replica.{Replica, IsEntry, AllFit, IsWithinLimits, entries_of, greatest_number, unless_fault, where_room, number_after, next_name, own_name, place_beside, place_for, lacked_by, names_of, merge_fault, conflict_or_full, conflict_with, delete_fault, batch_limit}
use Rattle.replica_store.proofs.Maps.{Entry, as_map, entries-as_map}
use Rattle.replica_store.proofs.Merges.{as_map-merge, Sorted-union}

AllFit-put : (t : Table) (q : BatchName) (v : Batch) (es : List Entry) → AllFit t es → IsEntry t (q, v) → AllFit t (map.put name_cmp q v es)
AllFit-put t q v [] h fit = (fit, tt)
AllFit-put t q v (e ∷ es) h fit =
    elim (name_cmp q e.0) as (λ r. AllFit t (by_order r ((q, v) ∷ e ∷ es) ((e.0, v) ∷ es) (e ∷ map.put name_cmp q v es))) [
      | Less ↦ (fit, h)
      | Equal ↦ let here = h.0 in (record { proper = here.proper; fits = fit.fits }, h.1)
      | Greater ↦ (h.0, AllFit-put t q v es h.1 fit)
    ]

AllFit-merge : (t : Table) (es fs : List Entry) → AllFit t es → AllFit t fs → AllFit t (merge name_cmp es fs)
AllFit-merge t [] fs g h = h
AllFit-merge t (e ∷ es) [] g h = g
AllFit-merge t (e ∷ es) (f ∷ fs) g h =
    elim (is_lt (name_cmp e.0 f.0)) as (λ b. AllFit t (cond b (e ∷ merge name_cmp es (f ∷ fs)) (f ∷ merge name_cmp (e ∷ es) fs))) [
      | true ↦ (g.0, AllFit-merge t es (f ∷ fs) g.1 h)
      | false ↦ (h.0, AllFit-merge t (e ∷ es) fs g h.1)
    ]

AllFit-lacked : (t : Table) (names : set.FinSet name_cmp) (fs : List Entry) → AllFit t fs → AllFit t (lacked_by names fs)
AllFit-lacked t names [] h = tt
AllFit-lacked t names (f ∷ fs) h =
    elim (set.contains names f.0) as (λ b. AllFit t (cond b (lacked_by names fs) (f ∷ lacked_by names fs))) [
      | true ↦ AllFit-lacked t names fs h.1
      | false ↦ (h.0, AllFit-lacked t names fs h.1)
    ]

-- a new replica is within the limits
pub IsWithinLimits-empty : (t : Table) → IsWithinLimits t map.empty
IsWithinLimits-empty t =
    let none : map.len {X = Batch} (map.empty {R = name_cmp}) ≡ 0 = map.len-empty name_cmp Batch in
    let entries : map.entries {X = Batch} (map.empty {R = name_cmp}) ≡ [] = nil_from_length _ (sym (map.len-entries (map.empty {R = name_cmp})) ∙ none) in
    record { limit = omega arith; fits = subst (AllFit t) (sym entries) tt }

same_length : (m : map.FinMap name_cmp Batch) (q : BatchName) (v : Batch) → map.get m q ≡ None → map.len (map.insert m q v) ≡ map.len m + 1
same_length m q v none = map.len-insert names_total m q v ∙ ap (λ (o : Option Batch). cond (is_some o) (map.len m) (map.len m + 1)) none

-- a batch that goes in keeps the limits
pub IsWithinLimits-insert : (t : Table) (m : map.FinMap name_cmp Batch) (q : BatchName) (v : Batch) → IsWithinLimits t m → map.get m q ≡ None → map.len m < batch_limit → IsEntry t (q, v) → IsWithinLimits t (map.insert m q v)
IsWithinLimits-insert t m q v h none room fit =
    let more = same_length m q v none in
    record { limit = omega (arith, more); fits = subst (AllFit t) (sym (map.entries-insert names_total m q v)) (AllFit-put t q v (map.entries m) h.fits fit) }

-- a union that isn't too long keeps them
pub IsWithinLimits-union : (t : Table) (m n : map.FinMap name_cmp Batch) → IsWithinLimits t m → AllFit t (map.entries n) → map.len (union_of m n) ≤ batch_limit → IsWithinLimits t (union_of m n)
IsWithinLimits-union t m n g h limit =
    let es = map.entries m in
    let sorted = map.entries_sorted m in
    let same : as_map es ≡ m = map.same_entries_map _ _ (entries-as_map es sorted) in
    let listed : map.entries (union_of (as_map es) n) ≡ merge name_cmp es (lacked_by (names_of (as_map es)) (map.entries n)) =
    ap map.entries (sym (as_map-merge es n sorted)) ∙ entries-as_map _ (Sorted-union es n sorted) in
    let fits : AllFit t (map.entries (union_of (as_map es) n)) =
    subst (AllFit t) (sym listed) (AllFit-merge t es _ g.fits (AllFit-lacked t (names_of (as_map es)) (map.entries n) h)) in
    record { limit = limit; fits = subst (λ (x : map.FinMap name_cmp Batch). AllFit t (map.entries (union_of x n))) same fits }

-- rows without a fault are a batch
pub IsBatch-none : (t : Table) (rows : Batch) → rows_fault t rows ≡ None → IsBatch t rows
unfolding rows_fault
IsBatch-none t rows e =
    elim (length rows == 0) as (λ b. (length rows == 0) ≡ b → cond b (Some EmptyBatch) (cond (nat_lt row_limit (length rows)) (Some BatchTooLong) (first_fault t.columns 0 rows)) ≡ None → IsBatch t rows) [
      | true ↦ λ empty is. cc
      | false ↦ λ some is. elim (nat_lt row_limit (length rows)) as (λ b. nat_lt row_limit (length rows) ≡ b → cond b (Some BatchTooLong) (first_fault t.columns 0 rows) ≡ None → IsBatch t rows) [
        | true ↦ λ long is. cc
        | false ↦ λ short is. IsBatch-fault t rows (grind (arith, nat_tests)) (grind (arith, nat_tests)) is
      ] refl is
    ] refl e

-- a number past the greatest isn't held
pub past_greatest : (own : Origin) (k : ℕ) (es : List Entry) → greatest_number own es < k → map.find name_cmp (record { origin = own; number = record { 0 = k } }) es ≡ None
past_greatest own k [] less = refl
past_greatest own k (e ∷ es) less =
    let name : BatchName = record { origin = own; number = record { 0 = k } } in
    let rest = past_greatest own k es (omega arith) in
    elim (eq_by_cmp name_cmp name e.0) as (λ b. eq_by_cmp name_cmp name e.0 ≡ b → cond b (Some e.1) (map.find name_cmp name es) ≡ None) [
      | true ↦ λ t.
          let same = same_name name e.0 t in
          let of_own : (e.0.origin.0 == own.0) ≡ true = (Decides-eqb e.0.origin.0 own.0).1 (sym (ap (λ (n : BatchName). n.origin.0) same)) in
          let number : e.0.number.0 ≡ k = sym (ap (λ (n : BatchName). n.number.0) same) in
          let counted : cond (e.0.origin.0 == own.0) e.0.number.0 0 ≡ e.0.number.0 = ap (λ b. cond b e.0.number.0 0) of_own in
          absurd (omega arith)
      | false ↦ λ t. rest
    ] refl

-- what holds where a name was decided on
pub record IsFree (r : Replica) (name : BatchName) (rows : Batch) : Type 0 where
  pub new : map.get r.state.batches name ≡ None
  pub room : map.len r.state.batches < batch_limit
  pub fit : IsBatch r.schema rows

pub ok_unless : {X : Type 0} (o : Option Refusal) (next : Result X Refusal) (x : X) → unless_fault o next ≡ Ok x → (o ≡ None) × (next ≡ Ok x)
ok_unless None next x e = (refl, e)
ok_unless (Some fault) next x e = cc

ok_if : {X : Type 0} (b : Bool) (bad : Refusal) (next : Result X Refusal) (x : X) → cond b (Err bad) next ≡ Ok x → (b ≡ false) × (next ≡ Ok x)
ok_if true bad next x e = cc
ok_if false bad next x e = (refl, e)

ok_only : {X : Type 0} (b : Bool) (bad : Refusal) (next : Result X Refusal) (x : X) → cond b next (Err bad) ≡ Ok x → (b ≡ true) × (next ≡ Ok x)
ok_only true bad next x e = (refl, e)
ok_only false bad next x e = cc

pub same_Ok : {X : Type 0} (x y : X) → ◌≡◌ {A = Result X Refusal} (Ok x) (Ok y) → x ≡ y
same_Ok x y e = cc

-- an append's name is free
pub IsFree-next_name : (r : Replica) (rows : Batch) (name : BatchName) → next_name r rows ≡ Ok name → IsFree r name rows
unfolding next_name
IsFree-next_name r rows name e =
    let n = greatest_number r.own (entries_of r) in
    let checked = ok_unless (rows_fault r.schema rows) (number_after r n) name e in
    let number = ok_if (n == 4294967295) NumbersSpent (where_room r (own_name r (n + 1))) name checked.1 in
    let space = ok_only (nat_lt (map.len r.state.batches) batch_limit) Full (Ok (own_name r (n + 1))) name number.1 in
    let same = same_Ok (own_name r (n + 1)) name space.1 in
    record {
      new = subst (λ (x : BatchName). map.get r.state.batches x ≡ None) same (map.get-entries r.state.batches (own_name r (n + 1)) ∙ past_greatest r.own (n + 1) (entries_of r) (omega arith));
      room = grind (arith, nat_tests, space.0);
      fit = IsBatch-none r.schema rows checked.0;
    }

beside_new : (r : Replica) (name : BatchName) (rows : Batch) (held : Option Batch) → place_beside r name rows held ≡ Ok New → (held ≡ None) × (where_room r New ≡ Ok New)
beside_new r name rows None e = (refl, e)
beside_new r name rows (Some held) e =
    let placed = ok_only (same_rows held rows) (Conflict name) (Ok Already) New e in
    let same : Already ≡ New = same_Ok Already New placed.1 in cc

-- a name that is new is free
pub IsFree-place_for : (r : Replica) (name : BatchName) (rows : Batch) → place_for r name rows ≡ Ok New → IsFree r name rows
unfolding place_for
IsFree-place_for r name rows e =
    let checked = ok_unless (rows_fault r.schema rows) (cond (is_proper_name name) (place_beside r name rows (map.get r.state.batches name)) (Err BadName)) New e in
    let proper = ok_only (is_proper_name name) BadName (place_beside r name rows (map.get r.state.batches name)) New checked.1 in
    let beside = beside_new r name rows (map.get r.state.batches name) proper.1 in
    let space = ok_only (nat_lt (map.len r.state.batches) batch_limit) Full (Ok New) New beside.1 in
    record { new = beside.0; room = grind (arith, nat_tests, space.0); fit = IsBatch-none r.schema rows checked.0 }

-- what holds where a merge isn't refused
pub record IsMergeable (r other : Replica) : Type 0 where
  pub schema : r.schema ≡ other.schema
  pub limit : map.len (union_of r.state.batches other.state.batches) ≤ batch_limit

pub none_only : (b : Bool) (bad : Refusal) (o : Option Refusal) → cond b o (Some bad) ≡ None → (b ≡ true) × (o ≡ None)
none_only true bad o e = (refl, e)
none_only false bad o e = cc

pub not_full : (r other : Replica) (o : Option BatchName) → conflict_or_full r other o ≡ None → map.len (union_of r.state.batches other.state.batches) ≤ batch_limit
not_full r other None e =
    elim (nat_lt batch_limit (map.len (union_of r.state.batches other.state.batches))) as (λ b. nat_lt batch_limit (map.len (union_of r.state.batches other.state.batches)) ≡ b → cond b (Some Full) None ≡ None → map.len (union_of r.state.batches other.state.batches) ≤ batch_limit) [
      | true ↦ λ t is. cc
      | false ↦ λ t is. grind (arith, nat_tests)
    ] refl e
not_full r other (Some name) e = cc

pub IsMergeable-none : (r other : Replica) → merge_fault r other ≡ None → IsMergeable r other
unfolding merge_fault
IsMergeable-none r other e =
    let same = none_only (same_table r.schema other.schema) SchemaDiffers (conflict_or_full r other (conflict_with r.state.batches (entries_of other))) e in
    record { schema = one_table r.schema other.schema same.0; limit = not_full r other (conflict_with r.state.batches (entries_of other)) same.1 }

-- a name that is placed is proper
pub proper-place_for : (r : Replica) (name : BatchName) (rows : Batch) (answer : Inserted) → place_for r name rows ≡ Ok answer → is_proper_name name ≡ true
unfolding place_for
proper-place_for r name rows answer e =
    let checked = ok_unless (rows_fault r.schema rows) (cond (is_proper_name name) (place_beside r name rows (map.get r.state.batches name)) (Err BadName)) answer e in
    let proper = ok_only (is_proper_name name) BadName (place_beside r name rows (map.get r.state.batches name)) answer checked.1 in proper.0

-- what holds where a delete isn't refused
pub record IsDeletable (first : RowName) (last : ℕ) : Type 0 where
  pub proper : is_proper_name first.batch ≡ true
  pub not_empty : first.ordinal ≤ last

pub IsDeletable-none : (first : RowName) (last : ℕ) → delete_fault first last ≡ None → IsDeletable first last
unfolding delete_fault
IsDeletable-none first last e =
    let proper = none_only (is_proper_name first.batch) BadName (cond (nat_lt last first.ordinal) (Some (BadRange 0)) None) e in
    elim (nat_lt last first.ordinal) as (λ b. nat_lt last first.ordinal ≡ b → cond b (Some (BadRange 0)) None ≡ None → IsDeletable first last) [
      | true ↦ λ t is. cc
      | false ↦ λ t is. record { proper = proper.0; not_empty = grind (arith, nat_tests) }
    ] refl proper.1

-- a call that answers Ok met no fault
pub none_unless : (o : Option Refusal) (u : Unit {0}) → unless o ≡ Ok u → o ≡ None
none_unless None u e = refl
none_unless (Some fault) u e = cc
