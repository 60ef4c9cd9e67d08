-- Where nothing is lacked, a join changes nothing, and where it changes nothing, nothing is lacked. A delete that changes nothing brings no row.
use Rattle.std.specs.Prelude.{◌≡◌, ◌||◌, ℕ, Bool, true, false, nat_lt, Option, None, Some, Result, Ok, Err}
use Rattle.std.proofs.Common.{refl, sym, ap, ◌∙◌, arith}
use Rattle.std.proofs.lemmas.Bool.{or_right, ltb-false}
use Rattle.std.proofs.lemmas.Bool.Decides.{nat_tests}
use Rattle.std.specs.FinMap as map
use Rattle.std.specs.FinSet as set
use Rattle.table_model.specs.Name.{row_name_cmp}
use Rattle.table_model.specs.State.{State, union_of}
use Rattle.table_model.proofs.NameOrder.{row_names_total, exact_row_names}
use Rattle.table_model.specs.declared.refusal.Refusal.{Refusal}
use Rattle.table_model.specs.declared.names.RowName.{RowName}
use Rattle.replica_store.specs.Replica.{Replica, joined_with, rows_between, unless_fault, delete_fault, deleted_rows, with_deleted}
use Rattle.replica_store.specs.Segments.{Segments, rows_in}
use Rattle.replica_store.proofs.Merges.{union-same}
use Rattle.replica_store.proofs.RowsIn.{rows_in-union, len-rows_in}
use Rattle.replica_store.proofs.Limits.{same_Ok}

-- what a replica is joined with: the batches of segments, and deletions
abbrev pub coming : Segments → set.FinSet row_name_cmp → State
coming segments tombs = record { batches = rows_in segments; deleted = tombs }

pub absorbs : (a b : Bool) → (b ≡ true → a ≡ true) → (a || b) ≡ a
absorbs true b h = refl
absorbs false true h = sym (h refl)
absorbs false false h = refl

pub deletions_same : (ours theirs : set.FinSet row_name_cmp) → set.is_subset theirs ours ≡ true → set.union ours theirs ≡ ours
deletions_same ours theirs within =
    set.same_set row_names_total exact_row_names (set.union ours theirs) ours
    (λ q. set.contains-union row_names_total ours theirs q ∙ absorbs (set.contains ours q) (set.contains theirs q) (set.is_subset-contains row_names_total theirs ours within q))

-- a union that has no more batches adds no segment
pub segments_same : (m n : Segments) → nat_lt (map.len m) (map.len (union_of (rows_in m) (rows_in n))) ≡ false → union_of m n ≡ m
segments_same m n few =
    let count = ap map.len (sym (rows_in-union m n)) ∙ len-rows_in (union_of m n) in
    let within = ltb-false (map.len m) (map.len (union_of (rows_in m) (rows_in n))) few in
    union-same m n (omega (arith, count, within))

-- and with no row newly deleted, the replica stays
pub replica_same : (r : Replica) (m n : Segments) (tombs : set.FinSet row_name_cmp)
    → r.state.batches ≡ rows_in m → set.is_subset tombs r.state.deleted ≡ true → nat_lt (map.len m) (map.len (union_of (rows_in m) (rows_in n))) ≡ false → joined_with r (coming n tombs) ≡ r
replica_same r m n tombs rows within few =
    let batches : union_of r.state.batches (rows_in n) ≡ r.state.batches = ap (λ b. union_of b (rows_in n)) rows ∙ sym (rows_in-union m n) ∙ ap rows_in (segments_same m n few) ∙ sym rows in
    let deleted = deletions_same r.state.deleted tombs within in
    λ i. record { schema = r.schema; own = r.own; state = record { batches = batches i; deleted = deleted i } }

-- a replica that stays had all deletions
pub same_deletions : (r : Replica) (n : Segments) (tombs : set.FinSet row_name_cmp) → joined_with r (coming n tombs) ≡ r → set.is_subset tombs r.state.deleted ≡ true
same_deletions r n tombs same =
    set.contains-is_subset row_names_total tombs r.state.deleted
    (λ q there.
    ap (λ (x : Replica). set.contains x.state.deleted q) (sym same) ∙ set.contains-union row_names_total r.state.deleted tombs q ∙ or_right (set.contains r.state.deleted q) (set.contains tombs q) there)

-- and all batches
pub same_count : (r : Replica) (m n : Segments) (tombs : set.FinSet row_name_cmp)
    → r.state.batches ≡ rows_in m → joined_with r (coming n tombs) ≡ r → nat_lt (map.len m) (map.len (union_of (rows_in m) (rows_in n))) ≡ false
same_count r m n tombs rows same =
    let union : union_of (rows_in m) (rows_in n) ≡ rows_in m = ap (λ b. union_of b (rows_in n)) (sym rows) ∙ ap (λ (x : Replica). x.state.batches) same ∙ rows in
    let count : map.len (union_of (rows_in m) (rows_in n)) ≡ map.len m = ap map.len union ∙ len-rows_in m in
    grind (arith, nat_tests, count)

-- a refusal is no answer
pub no_answer : {X : Type 0} (made : Result X Refusal) (e : Refusal) (x : X) → made ≡ Err e → made ≡ Ok x → ⊥
no_answer made e x refused is = let both : Err e ≡ Ok x = sym refused ∙ is in clash e x both where
  clash : {X : Type 0} (e : Refusal) (x : X) → Err e ≡ Ok x → ⊥
  clash e x both = cc

-- a call that leaves the replica makes what it was
pub answer_same : (made : Result (Unit {0} × Replica) Refusal) (new old : Replica) → made ≡ Ok (tt, new) → made ≡ Ok (tt, old) → new ≡ old
answer_same made new old is same = ap (λ (p : Unit {0} × Replica). p.1) (same_Ok (tt, new) (tt, old) (sym is ∙ same))

-- a call that leaves the replica has no fault, and makes what it was
pub no_fault : (o : Option Refusal) (new old : Replica) → unless_fault {X = Unit {0} × Replica} o (Ok (tt, new)) ≡ Ok (tt, old) → (o ≡ None) × (new ≡ old)
no_fault None new old is = (refl, answer_same (Ok (tt, new)) new old refl is)
no_fault (Some fault) new old is = absurd (no_answer {X = Unit {0} × Replica} (Err fault) fault (tt, old) refl is)

-- a delete that leaves the replica has no fault, and its rows were deleted already
pub idle_delete : (r : Replica) (first : RowName) (last : ℕ) → deleted_rows r first last ≡ Ok (tt, r) → (delete_fault first last ≡ None) × (set.union r.state.deleted (set.from_list (rows_between first last)) ≡ r.state.deleted)
idle_delete r first last same =
    let idle = no_fault (delete_fault first last) (with_deleted r (rows_between first last)) r same in
    (idle.0, ap (λ (x : Replica). x.state.deleted) idle.1)
