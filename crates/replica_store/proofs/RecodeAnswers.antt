-- A recode puts one segment in the place of one with the same rows, whose other vectors are the same.
use Rattle.std.specs.Prelude.{◌≡◌, ◌≢◌, ℕ, true, false, cond, List, [], slice_get, Option, Some, None, Result, Ok}
use Rattle.std.proofs.Common.{refl, sym, ap, subst, ◌∙◌, get_or}
use Rattle.std.proofs.lemmas.List.{get_or-set_same, get_or-set_other}
use Rattle.std.specs.Ordering.{eq_by_cmp}
use Rattle.std.specs.FinMap as map
use Rattle.table_model.specs.Name.{name_cmp}
use Rattle.table_model.specs.declared.names.BatchName.{BatchName}
use Rattle.table_model.specs.declared.refusal.Refusal.{Refusal}
use Rattle.table_model.proofs.NameOrder.{names_total}
use Rattle.table_model.proofs.Operations.{same_name, itself}
use Rattle.segment_core.specs.CodedVector.{VectorForm, recoded_vector}
use Rattle.segment_core.specs.Segment.{SegmentForm, vector_at, with_vector, recoded, recoded_found, put_in}
use Rattle.segment_core.specs.declared.coding.Coding.{Coding}
use Rattle.segment_core.proofs.PutLemmas.{slice_get-set_other, column_there}
use Rattle.replica_store.specs.Replica.{Replica, recode_fault, recoded_rows}
use Rattle.replica_store.specs.Segments.{recoded_in, recoded_held, put_under}
use Rattle.replica_store.specs.RecodeLaws.{DifferOnlyAt, LeavesOthers, RecodeLaws}
use Rattle.replica_store.proofs.Limits.{ok_unless, same_Ok}

-- a vector put in leaves all others
put_elsewhere : (s : SegmentForm) (c k : ℕ) (v old : VectorForm) → vector_at s.forms c k ≡ Some old → DifferOnlyAt c k s (record s { forms = with_vector s.forms c k v })
put_elsewhere s c k v old is = record {
  rows = refl;
  columns = λ other j apart. ap (λ (vs : List VectorForm). slice_get vs j) (get_or-set_other s.forms c other _ [] apart);
  vectors = λ other apart.
      ap (λ (vs : List VectorForm). slice_get vs other) (get_or-set_same s.forms c _ [] (column_there s.forms c k old is))
      ∙ slice_get-set_other (get_or s.forms c []) k other v apart;
}

module _ (m new : map.FinMap name_cmp SegmentForm) (name : BatchName) (column vector : ℕ) where
  tied_self : eq_by_cmp name_cmp name name ≡ true
  tied_self = itself name

  apart_false : (q : BatchName) → q ≢ name → eq_by_cmp name_cmp q name ≡ false
  apart_false q apart = elim (eq_by_cmp name_cmp q name) as (λ b. eq_by_cmp name_cmp q name ≡ b → b ≡ false) [
    | true ↦ λ t. absurd (apart (same_name q name t))
    | false ↦ λ t. refl
  ] refl

  put_leaves : (s made : SegmentForm) → map.get m name ≡ Some s → DifferOnlyAt column vector s made → map.insert m name made ≡ new → LeavesOthers name column vector m new
  put_leaves s made has differ is = record {
    batches = λ other apart. ap (λ (x : map.FinMap name_cmp SegmentForm). map.get x other) (sym is) ∙ map.get-insert names_total m name made other ∙ ap (λ b. cond b (Some made) (map.get m other)) (apart_false other apart);
    inside = λ a b was now.
        let first : s ≡ a = let both : ◌≡◌ {A = Option SegmentForm} (Some s) (Some a) = sym has ∙ was in cc in
        let there : map.get new name ≡ Some made = ap (λ (x : map.FinMap name_cmp SegmentForm). map.get x name) (sym is) ∙ map.get-insert names_total m name made name ∙ ap (λ b. cond b (Some made) (map.get m name)) tied_self in
        let second : made ≡ b = let both : ◌≡◌ {A = Option SegmentForm} (Some made) (Some b) = sym there ∙ now in cc in
        subst (λ (x : SegmentForm). DifferOnlyAt column vector a x) second (subst (λ (x : SegmentForm). DifferOnlyAt column vector x made) first differ);
  }

  abbrev Made : Type 0
  Made = Result (Unit {0} × map.FinMap name_cmp SegmentForm) Refusal

  found_leaves : (coding : Coding) (s : SegmentForm) (o : Option VectorForm) → map.get m name ≡ Some s → vector_at s.forms column vector ≡ o → put_under m name (put_in s column vector (recoded_found coding o)) ≡ Ok (tt, new) → LeavesOthers name column vector m new
  found_leaves coding s None has at is = cc
  found_leaves coding s (Some v) has at is =
      let made : SegmentForm = record s { forms = with_vector s.forms column vector (recoded_vector coding v) } in
      let same = same_Ok (tt, map.insert m name made) (tt, new) is in
      put_leaves s made has (put_elsewhere s column vector (recoded_vector coding v) v at) (ap (λ (p : Unit {0} × map.FinMap name_cmp SegmentForm). p.1) same)

  held_leaves : (coding : Coding) (o : Option SegmentForm) → map.get m name ≡ o → put_under m name (recoded_held o column vector coding) ≡ Ok (tt, new) → LeavesOthers name column vector m new
  unfolding recoded
  held_leaves coding None has is = cc
  held_leaves coding (Some s) has is = found_leaves coding s (vector_at s.forms column vector) has refl is

recode_leaves : (old new : map.FinMap name_cmp SegmentForm) (name : BatchName) (column vector : ℕ) (coding : Coding) → recoded_in old name column vector coding ≡ Ok (tt, new) → LeavesOthers name column vector old new
unfolding recoded_in
recode_leaves old new name column vector coding is = held_leaves old new name column vector coding (map.get old name) refl is

recode_stays : (r new : Replica) (name : BatchName) (column vector : ℕ) → recoded_rows r name column vector ≡ Ok (tt, new) → new ≡ r
recode_stays r new name column vector is =
    let met = ok_unless (recode_fault r name column vector) (Ok (tt, r)) (tt, new) is in
    sym (ap (λ (p : Unit {0} × Replica). p.1) (same_Ok (tt, r) (tt, new) met.1))

pub recode_laws_hold : RecodeLaws
recode_laws_hold = record { state = recode_stays; others = recode_leaves }
