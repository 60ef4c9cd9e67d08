-- Rows that are all deleted already bring none, and a delete that changes nothing has such rows.
use Rattle.std.proofs.Common.{◌≡◌, IsTrue, Bool, true, false, cond, ◌||◌, List, [], ◌∷◌, Option, Some, None, Ok, refl, sym, ap, ◌∙◌}
use Rattle.std.specs.FinSet as set
use Rattle.std.specs.List.{list_any, list_all, All}
use Rattle.std.specs.Ordering.{eq_by_cmp}
use Rattle.std.proofs.lemmas.Bool.{and_parts, and_from, or_right}
use Rattle.std.proofs.lemmas.List.Sums.{AllPass-from_list_all}
use Rattle.table_model.specs.Name.{row_name_cmp, is_proper_name}
use Rattle.table_model.specs.declared.names.RowName.{RowName}
use Rattle.table_model.specs.declared.refusal.Refusal.{Refusal}
use Rattle.table_model.specs.declared.refusal.Refusal.TheVariants.{BadName}
use Rattle.table_model.proofs.NameOrder.{row_names_total, exact_row_names}
use Rattle.table_model.proofs.Operations.{row_itself, same_row_name}
use Rattle.replica_store.specs.Replica.{Replica, with_deleted, names_fault, deleted_names, unless_fault}
use Rattle.replica_store.proofs.Idle.{no_fault}

abbrev Rows : Type 0
Rows = set.FinSet row_name_cmp

-- each row of the list is in the set
held_of_all : (held : Rows) (rows : List RowName) → list_all (set.contains held) rows ≡ true → (q : RowName) → list_any (eq_by_cmp row_name_cmp q) rows ≡ true → set.contains held q ≡ true
held_of_all held [] h q e = absurd cc
held_of_all held (r ∷ rows) h q e = by_first (eq_by_cmp row_name_cmp q r) refl (held_of_all held rows parts.1 q)
  where
    parts : (set.contains held r ≡ true) × (list_all (set.contains held) rows ≡ true)
    parts = and_parts (set.contains held r) (list_all (set.contains held) rows) h

    by_first : (b : Bool) → eq_by_cmp row_name_cmp q r ≡ b → (list_any (eq_by_cmp row_name_cmp q) rows ≡ true → set.contains held q ≡ true) → set.contains held q ≡ true
    by_first true f others = ap (set.contains held) (same_row_name q r f) ∙ parts.0
    by_first false f others = others (sym (ap (λ b. b || list_any (eq_by_cmp row_name_cmp q) rows) f) ∙ e)

all_of_held : (held : Rows) (rows : List RowName) → ((q : RowName) → list_any (eq_by_cmp row_name_cmp q) rows ≡ true → set.contains held q ≡ true) → list_all (set.contains held) rows ≡ true
all_of_held held [] h = refl
all_of_held held (r ∷ rows) h =
    and_from (set.contains held r) (list_all (set.contains held) rows) (h r (ap (λ b. b || list_any (eq_by_cmp row_name_cmp r) rows) (row_itself r)))
    (all_of_held held rows (λ q e. h q (or_right (eq_by_cmp row_name_cmp q r) (list_any (eq_by_cmp row_name_cmp q) rows) e)))

absorbed : (a b : Bool) → (b ≡ true → a ≡ true) → (a || b) ≡ a
absorbed true b h = refl
absorbed false true h = sym (h refl)
absorbed false false h = refl

-- rows that are all in the set bring none
pub none_new : (held : Rows) (rows : List RowName) → list_all (set.contains held) rows ≡ true → set.union held (set.from_list rows) ≡ held
none_new held rows h =
    set.same_set row_names_total exact_row_names (set.union held (set.from_list rows)) held
    (λ q.
    set.contains-union row_names_total held (set.from_list rows) q
    ∙ ap (λ (b : Bool). set.contains held q || b) (set.contains-from_list row_names_total rows q)
    ∙ absorbed (set.contains held q) (list_any (eq_by_cmp row_name_cmp q) rows) (held_of_all held rows h q))

-- and rows that bring none are all in it
pub all_held : (held : Rows) (rows : List RowName) → set.union held (set.from_list rows) ≡ held → list_all (set.contains held) rows ≡ true
all_held held rows same =
    all_of_held held rows
    (λ q e.
    ap (λ (s : Rows). set.contains s q) (sym same)
    ∙ set.contains-union row_names_total held (set.from_list rows) q
    ∙ or_right (set.contains held q) (set.contains (set.from_list {R = row_name_cmp} rows) q) (set.contains-from_list row_names_total rows q ∙ e))

-- a delete of rows that leaves the replica has no fault, and its rows were deleted already
pub idle_names : (r : Replica) (rows : List RowName) → deleted_names r rows ≡ Ok (tt, r) → (names_fault rows ≡ None) × (list_all (set.contains r.state.deleted) rows ≡ true)
idle_names r rows same =
    let idle = no_fault (names_fault rows) (with_deleted r rows) r same in
    (idle.0, all_held r.state.deleted rows (ap (λ (x : Replica). x.state.deleted) idle.1))

-- rows whose delete has no fault have proper names
pub proper_of : (rows : List RowName) → names_fault rows ≡ None → list_all (λ row. is_proper_name row.batch) rows ≡ true
unfolding names_fault
proper_of rows none = by_test (list_all (λ row. is_proper_name row.batch) rows) none
  where
    by_test : (b : Bool) → cond b None (Some BadName) ≡ None → b ≡ true
    by_test true e = refl
    by_test false e = absurd cc

-- and have them each
pub all_proper : (rows : List RowName) → names_fault rows ≡ None → All (λ (row : RowName). IsTrue (is_proper_name row.batch)) rows
all_proper rows none = AllPass-from_list_all (λ (row : RowName). is_proper_name row.batch) rows (proper_of rows none)

-- a delete that has no fault, of rows that are all deleted already, leaves the replica
pub same_after : (r : Replica) (fault : Option Refusal) (rows : List RowName) → fault ≡ None → list_all (set.contains r.state.deleted) rows ≡ true → unless_fault {X = Unit {0} × Replica} fault (Ok (tt, with_deleted r rows)) ≡ Ok (tt, r)
same_after r fault rows none all =
    ap (λ (o : Option Refusal). unless_fault {X = Unit {0} × Replica} o (Ok (tt, with_deleted r rows))) none
    ∙ ap (λ (d : Rows). let made : Replica = record { schema = r.schema; own = r.own; state = record { batches = r.state.batches; deleted = d } } in Ok (tt, made)) (none_new r.state.deleted rows all)

-- and so one of a list of rows
pub same_deleted : (r : Replica) (rows : List RowName) → names_fault rows ≡ None → list_all (set.contains r.state.deleted) rows ≡ true → deleted_names r rows ≡ Ok (tt, r)
same_deleted r rows none all = same_after r (names_fault rows) rows none all
