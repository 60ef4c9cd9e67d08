-- A merge that answers Ok makes the join of both states, so that its laws are those of join.
use Rattle.std.specs.Prelude.{◌≡◌, List, ℕ, ◌≤◌, true, false, cond, nat_lt, Option, Some, None, Result, Ok, Err}
use Rattle.std.proofs.Common.{refl, sym, ap, subst, ◌∙◌, arith}
use Rattle.std.proofs.lemmas.Bool.Decides.{nat_tests}
use Rattle.std.specs.FinMap as map
use Rattle.table_model.specs.State.{State, Batch, Agree, union_of, join}
use Rattle.table_model.specs.Table.{Table, same_table}
use Rattle.table_model.specs.declared.names.BatchName.{BatchName}
use Rattle.table_model.specs.declared.names.RowName.{RowName}
use Rattle.table_model.specs.declared.refusal.Refusal.{Refusal}
use Rattle.table_model.specs.declared.refusal.Refusal.TheVariants.{Full, SchemaDiffers}
use Rattle.table_model.proofs.Joins.{join-commutative, join-associative, join-again, join-agree}
use Rattle.table_model.proofs.SameTable.{one_table, itself_table}
use Rattle.replica_store.specs.declared.inserted.Inserted.{Inserted}
use Rattle.replica_store.specs.declared.inserted.Inserted.TheVariants.{New, Already}
use Rattle.replica_store.specs.Replica.{Replica, with_batch, with_join, with_deleted, rows_between, unless_fault, next_name, place_for, then_added, then_placed, deleted_rows, delete_fault, deleted_names, names_fault, merge_fault, conflict_or_full, batch_limit}
use Rattle.replica_store.specs.MergeLaws.{Merges, Keeps, with_state, conflict_of, MergeLaws, KeepingLaws}
use Rattle.replica_store.proofs.Conflicts.{agree_without, none_agreeing, conflicts}
use Rattle.replica_store.proofs.RecodeAnswers.{recode_laws_hold}
use Rattle.replica_store.proofs.Limits.{ok_unless, same_Ok, none_only, not_full}

-- what holds where a merge answers Ok
pub record IsMerge (r other new : Replica) : Type 0 where
  pub made : with_join r other ≡ new
  pub schema : r.schema ≡ other.schema
  pub agree : Agree r.state other.state
  pub limit : map.len (union_of r.state.batches other.state.batches) ≤ batch_limit

no_conflict : (r other : Replica) (o : Option BatchName) → conflict_or_full r other o ≡ None → o ≡ None
no_conflict r other None e = refl
no_conflict r other (Some name) e = cc

pub made_of : {X : Type 0} (x y : X) (r s : Replica) → ◌≡◌ {A = Result (X × Replica) Refusal} (Ok (x, r)) (Ok (y, s)) → r ≡ s
made_of {X} x y r s e = ap (λ (p : X × Replica). p.1) (same_Ok (x, r) (y, s) e)

pub is_merge : (r other new : Replica) → Merges r other new → IsMerge r other new
unfolding merge_fault
is_merge r other new e =
    let met = ok_unless (merge_fault r other) (Ok (tt, with_join r other)) (tt, new) e in
    let same = none_only (same_table r.schema other.schema) SchemaDiffers (conflict_or_full r other (conflict_of r other)) met.0 in
    record {
      made = made_of tt tt (with_join r other) new met.1;
      schema = one_table r.schema other.schema same.0;
      agree = agree_without r other (no_conflict r other (conflict_of r other) same.1);
      limit = not_full r other (conflict_of r other) same.1;
    }

not_over : (n : ℕ) → n ≤ batch_limit → nat_lt batch_limit n ≡ false
not_over n le = grind (arith, nat_tests)

-- a merge answers Ok where the schemas are one, the states agree and the union is short enough
pub merges : (r other : Replica) → r.schema ≡ other.schema → Agree r.state other.state → map.len (union_of r.state.batches other.state.batches) ≤ batch_limit → Merges r other (with_join r other)
unfolding merge_fault
merges r other schema agree limit =
    let same : same_table r.schema other.schema ≡ true = subst (λ (t : Table). same_table r.schema t ≡ true) schema (itself_table r.schema) in
    let fault : merge_fault r other ≡ None =
    ap (λ b. cond b (conflict_or_full r other (conflict_of r other)) (Some SchemaDiffers)) same
    ∙ ap (conflict_or_full r other) (none_agreeing r other agree)
    ∙ ap (λ b. cond b (Some Full) None) (not_over _ limit) in
    ap (λ o. unless_fault o (Ok (tt, with_join r other))) fault

agree_back : (s t : State) → Agree s t → Agree t s
agree_back s t agree name a b has in_other = sym (agree name b a in_other has)

commutative : (r s new : Replica) → Merges r s new → Merges s r (with_state s new)
commutative r s new e =
    let done = is_merge r s new e in
    let turned : join r.state s.state ≡ join s.state r.state = join-commutative r.state s.state done.agree in
    let limit : map.len (union_of s.state.batches r.state.batches) ≤ batch_limit = subst (λ (t : State). map.len t.batches ≤ batch_limit) turned done.limit in
    let made : with_join s r ≡ with_state s new = λ i. record { schema = s.schema; own = s.own; state = (sym turned ∙ ap (λ (x : Replica). x.state) done.made) i } in
    subst (λ (x : Replica). Merges s r x) made (merges s r (sym done.schema) (agree_back r.state s.state done.agree) limit)

associative : (r s t left both right new : Replica) → Merges r s left → Merges left t new → Merges s t both → Merges r both right → new ≡ right
associative r s t left both right new rs rst st r_st =
    let first = is_merge r s left rs in
    let second = is_merge left t new rst in
    let inner = is_merge s t both st in
    let outer = is_merge r both right r_st in
    let bracketed : with_join (with_join r s) t ≡ with_join r (with_join s t) = λ i. record { schema = r.schema; own = r.own; state = join-associative r.state s.state t.state i } in
    sym (ap (λ (x : Replica). with_join x t) first.made ∙ second.made) ∙ bracketed ∙ ap (with_join r) inner.made ∙ outer.made

again : (r s new : Replica) → Merges r s new → Merges new s new
again r s new e =
    let done = is_merge r s new e in
    let joined = with_join r s in
    let same : join (join r.state s.state) s.state ≡ join r.state s.state = join-again r.state s.state in
    let limit : map.len (union_of joined.state.batches s.state.batches) ≤ batch_limit = subst (λ (t : State). map.len t.batches ≤ batch_limit) (sym same) done.limit in
    let made : with_join joined s ≡ joined = λ i. record { schema = r.schema; own = r.own; state = same i } in
    let once : Merges joined s joined = subst (λ (x : Replica). Merges joined s x) made (merges joined s done.schema (join-agree r.state s.state done.agree) limit) in
    subst (λ (x : Replica). Merges x s x) done.made once

pub merge_laws_hold : MergeLaws
merge_laws_hold = record { conflict = conflicts; commutative = commutative; associative = associative; again = again }

keeps_itself : (r : Replica) → Keeps r r
keeps_itself r = record { schema = refl; own = refl }

kept : (r made new : Replica) → made ≡ new → Keeps r made → Keeps r new
kept r made new e h = subst (λ (x : Replica). Keeps r x) e h

added : (r new : Replica) (rows : Batch) (name : BatchName) (decided : Result BatchName Refusal) → then_added r rows decided ≡ Ok (name, new) → Keeps r new
added r new rows name (Ok n) e = kept r (with_batch r n rows) new (made_of n name _ _ e) (record { schema = refl; own = refl })
added r new rows name (Err fault) e = cc

placed : (r new : Replica) (name : BatchName) (rows : Batch) (answer : Inserted) (decided : Result Inserted Refusal) → then_placed r name rows decided ≡ Ok (answer, new) → Keeps r new
placed r new name rows answer (Ok New) e = kept r (with_batch r name rows) new (made_of New answer _ _ e) (record { schema = refl; own = refl })
placed r new name rows answer (Ok Already) e = kept r r new (made_of Already answer _ _ e) (keeps_itself r)
placed r new name rows answer (Err fault) e = cc

deleted : (r new : Replica) (first : RowName) (last : ℕ) → deleted_rows r first last ≡ Ok (tt, new) → Keeps r new
deleted r new first last e =
    let made = with_deleted r (rows_between first last) in
    let met = ok_unless (delete_fault first last) (Ok (tt, made)) (tt, new) e in
    kept r made new (made_of tt tt made new met.1) (record { schema = refl; own = refl })

deleted_all : (r new : Replica) (rows : List RowName) → deleted_names r rows ≡ Ok (tt, new) → Keeps r new
deleted_all r new rows e =
    let made = with_deleted r rows in
    let met = ok_unless (names_fault rows) (Ok (tt, made)) (tt, new) e in
    kept r made new (made_of tt tt made new met.1) (record { schema = refl; own = refl })

pub keeping_laws_hold : KeepingLaws
keeping_laws_hold = record {
  append = λ r new rows name e. added r new rows name (next_name r rows) e;
  insert = λ r new name rows answer e. placed r new name rows answer (place_for r name rows) e;
  delete = deleted;
  delete_all = deleted_all;
  merge = λ r other new e. kept r (with_join r other) new (is_merge r other new e).made (record { schema = refl; own = refl });
  recode = recode_laws_hold;
}
