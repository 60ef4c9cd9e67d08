-- No call takes anything from a replica: a batch comes under a free name, and deletions and other replicas' batches are added.
use Rattle.std.specs.Prelude.{◌≡◌, List, ℕ, true, false, cond, ◌||◌, IsTrue, Some, None, Result, Ok, Err}
use Rattle.std.proofs.Common.{refl, ap, subst, ◌∙◌}
use Rattle.std.specs.Ordering.{eq_by_cmp}
use Rattle.std.specs.FinMap as map
use Rattle.std.specs.FinSet as set
use Rattle.table_model.specs.Name.{name_cmp, row_name_cmp}
use Rattle.table_model.specs.State.{State, Batch}
use Rattle.table_model.specs.declared.names.BatchName.{BatchName}
use Rattle.table_model.specs.declared.names.RowName.{RowName}
use Rattle.table_model.specs.declared.refusal.Refusal.{Refusal}
use Rattle.table_model.proofs.NameOrder.{names_total, row_names_total}
use Rattle.table_model.proofs.Joins.{or_else, get-union}
use Rattle.table_model.proofs.Operations.{same_name}
use Rattle.replica_store.specs.declared.inserted.Inserted.{Inserted}
use Rattle.replica_store.specs.declared.inserted.Inserted.TheVariants.{New, Already}
use Rattle.replica_store.specs.Replica.{Replica, with_batch, with_join, with_deleted, rows_between, next_name, place_for, then_added, then_placed, joined_with, deleted_rows, delete_fault, deleted_names, names_fault}
use Rattle.replica_store.specs.MergeLaws.{Merges}
use Rattle.replica_store.specs.Exchange.{offering}
use Rattle.replica_store.specs.ExchangeLaws.{HasGrown, GrowthLaws}
use Rattle.replica_store.proofs.Limits.{ok_unless, IsFree-next_name, IsFree-place_for}
use Rattle.replica_store.proofs.MergeAnswers.{is_merge, made_of}

pub grown_itself : (r : Replica) → HasGrown r r
grown_itself r = record { schema = refl; batches = λ name rows has. has; deletions = λ row has. has }

pub grown_then : (r s t : Replica) → HasGrown r s → HasGrown s t → HasGrown r t
grown_then r s t first second = record {
  schema = second.schema ∙ first.schema;
  batches = λ name rows has. second.batches name rows (first.batches name rows has);
  deletions = λ row has. second.deletions row (first.deletions row has);
}

grown_as : (r made new : Replica) → made ≡ new → HasGrown r made → HasGrown r new
grown_as r made new is h = subst (λ (x : Replica). HasGrown r x) is h

-- a batch under a free name leaves the others
grown_batch : (r : Replica) (name : BatchName) (rows : Batch) → map.get r.state.batches name ≡ None → HasGrown r (with_batch r name rows)
grown_batch r name rows free = record {
  schema = refl;
  batches = λ q held has.
      map.get-insert names_total r.state.batches name rows q
      ∙ elim (eq_by_cmp name_cmp q name) as (λ b. eq_by_cmp name_cmp q name ≡ b → cond b (Some rows) (map.get r.state.batches q) ≡ Some held) [
        | true ↦ λ tied. let none : map.get r.state.batches q ≡ None = ap (map.get r.state.batches) (same_name q name tied) ∙ free in cc
        | false ↦ λ tied. has
      ] refl;
  deletions = λ row has. has;
}

-- a union has what the first set has
in_first : (s t : set.FinSet row_name_cmp) (row : RowName) → IsTrue (set.contains s row) → IsTrue (set.contains (set.union s t) row)
in_first s t row has = set.contains-union row_names_total s t row ∙ ap (λ b. b || set.contains t row) has

-- a join has what the first state has
pub grown_join : (r : Replica) (s : State) → HasGrown r (joined_with r s)
grown_join r s = record {
  schema = refl;
  batches = λ q held has. get-union r.state.batches s.batches q ∙ ap (λ o. or_else o (map.get s.batches q)) has;
  deletions = λ row has. in_first r.state.deleted s.deleted row has;
}

grown_deleted : (r : Replica) (rows : List RowName) → HasGrown r (with_deleted r rows)
grown_deleted r rows = record {
  schema = refl;
  batches = λ q held has. has;
  deletions = λ row has. in_first r.state.deleted (set.from_list rows) row has;
}

added : (r new : Replica) (rows : Batch) (name : BatchName) (decided : Result BatchName Refusal) → next_name r rows ≡ decided → then_added r rows decided ≡ Ok (name, new) → HasGrown r new
added r new rows name (Ok n) was is = let free = IsFree-next_name r rows n was in grown_as r (with_batch r n rows) new (made_of n name _ _ is) (grown_batch r n rows free.new)
added r new rows name (Err fault) was is = cc

placed : (r new : Replica) (name : BatchName) (rows : Batch) (answer : Inserted) (decided : Result Inserted Refusal) → place_for r name rows ≡ decided → then_placed r name rows decided ≡ Ok (answer, new) → HasGrown r new
placed r new name rows answer (Ok New) was is = let free = IsFree-place_for r name rows was in grown_as r (with_batch r name rows) new (made_of New answer _ _ is) (grown_batch r name rows free.new)
placed r new name rows answer (Ok Already) was is = grown_as r r new (made_of Already answer _ _ is) (grown_itself r)
placed r new name rows answer (Err fault) was is = cc

deleted : (r new : Replica) (first : RowName) (last : ℕ) → deleted_rows r first last ≡ Ok (tt, new) → HasGrown r new
deleted r new first last is =
    let made = with_deleted r (rows_between first last) in
    let met = ok_unless (delete_fault first last) (Ok (tt, made)) (tt, new) is in
    grown_as r made new (made_of tt tt made new met.1) (grown_deleted r (rows_between first last))

deleted_all : (r new : Replica) (rows : List RowName) → deleted_names r rows ≡ Ok (tt, new) → HasGrown r new
deleted_all r new rows is =
    let made = with_deleted r rows in
    let met = ok_unless (names_fault rows) (Ok (tt, made)) (tt, new) is in
    grown_as r made new (made_of tt tt made new met.1) (grown_deleted r rows)

pub grown_merge : (r other new : Replica) → Merges r other new → HasGrown r new
grown_merge r other new is = let done = is_merge r other new is in grown_as r (with_join r other) new done.made (grown_join r other.state)

pub growth_laws_hold : GrowthLaws
growth_laws_hold = record {
  none = grown_itself;
  then = grown_then;
  append = λ r new rows name is. added r new rows name (next_name r rows) refl is;
  insert = λ r new name rows answer is. placed r new name rows answer (place_for r name rows) refl is;
  delete = deleted;
  delete_all = deleted_all;
  merge = grown_merge;
  apply = λ r new offer is. grown_merge r (offering r.own offer) new is;
}
