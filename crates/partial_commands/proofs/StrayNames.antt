-- The batches of deleted rows are those of their ranges.
use Rattle.std.specs.Prelude.{◌≡◌, ℕ, zero, suc, ◌+◌, ◌-◌, ◌<◌, ◌≤◌, Bool, true, false, ◌&&◌, ◌||◌, not, List, [], ◌∷◌, map as each, length, IsTrue}
use Rattle.std.proofs.Common.{refl, sym, ap, subst, ◌∙◌, get_or, take, arith}
use Rattle.std.proofs.lemmas.Bool.{or_right, false≢true}
use Rattle.std.proofs.lemmas.List.Folds.{list_any-append, list_any_more}
use Rattle.std.specs.Cmp.{both_ways}
use Rattle.std.specs.FinSet as set
use Rattle.std.specs.List.{list_any}
use Rattle.std.specs.Ordering.{eq_by_cmp}
use Rattle.table_model.specs.Name.{name_cmp, row_name_cmp, is_proper_name}
use Rattle.table_model.specs.declared.names.BatchName.{BatchName}
use Rattle.table_model.specs.declared.names.RowName.{RowName}
use Rattle.table_model.proofs.NameOrder.{names_total, exact_names, row_names_total}
use Rattle.table_model.proofs.Operations.{same_name, same_row_name, itself, row_itself}
use Rattle.catalogue_join.specs.RowRange.{RowRange, AreMaximal, row_names, rows_between, rows_listed, rows_in}
use Rattle.partial_answers.specs.Counted.{Names}
use Rattle.partial_answers.proofs.Names.{row_of, found_row}
use Rattle.partial_commands.specs.StorePartialAnswer.{batches_deleted, is_of_batch}

one_of : (a b : Bool) → (a || b) ≡ true → (C : Type 0) → (a ≡ true → C) → (b ≡ true → C) → C
one_of true b e C f g = f refl
one_of false b e C f g = g e

-- a range of rows at a place, whose batch has a proper name
pub proper_at : (rs : List RowRange) (i : ℕ) (d : RowRange) → AreMaximal rs → i < length rs → IsTrue (is_proper_name (get_or rs i d).0.batch)
proper_at [] i d m h = absurd (omega arith)
proper_at (r ∷ rs) zero d m h = m.0.proper
proper_at (r ∷ rs) (suc i) d m h = proper_at rs i d m.2 (omega arith)

-- each row of a range is of its batch
batch_named : (batch : BatchName) (n count : ℕ) (q : RowName) → list_any (eq_by_cmp row_name_cmp q) (row_names batch n count) ≡ true → q.batch ≡ batch
batch_named batch n zero q h = absurd (false≢true h)
batch_named batch n (suc count) q h =
    let first : RowName = record { batch = batch; ordinal = n } in
    one_of (eq_by_cmp row_name_cmp q first) (list_any (eq_by_cmp row_name_cmp q) (row_names batch (n + 1) count)) h (q.batch ≡ batch)
    (λ tied. ap (λ (r : RowName). r.batch) (same_row_name q first tied)) (λ rest. batch_named batch (n + 1) count q rest)

-- a range that isn't empty has its first row
first_named : (batch : BatchName) (n count : ℕ) → 1 ≤ count → list_any (eq_by_cmp row_name_cmp (record { batch = batch; ordinal = n })) (row_names batch n count) ≡ true
first_named batch n zero h = absurd (omega arith)
first_named batch n (suc count) h =
    let first : RowName = record { batch = batch; ordinal = n } in
    ap (λ (b : Bool). b || list_any (eq_by_cmp row_name_cmp first) (row_names batch (n + 1) count)) (row_itself first)

-- the batch of a row of some ranges is that of one of them
batch_listed : (rs : List RowRange) (q : RowName) → list_any (eq_by_cmp row_name_cmp q) (rows_listed rs) ≡ true → list_any (is_of_batch q.batch) rs ≡ true
batch_listed [] q h = h
batch_listed (r ∷ rs) q h =
    let here : Bool = list_any (eq_by_cmp row_name_cmp q) (rows_between r.0 r.1) in
    let behind : Bool = list_any (eq_by_cmp row_name_cmp q) (rows_listed rs) in
    let either : (here || behind) ≡ true = sym (list_any-append (eq_by_cmp row_name_cmp q) (rows_between r.0 r.1) (rows_listed rs)) ∙ h in
    one_of here behind either ((eq_by_cmp name_cmp q.batch r.0.batch || list_any (is_of_batch q.batch) rs) ≡ true)
    (λ has. ap (λ (b : Bool). b || list_any (is_of_batch q.batch) rs) (ap (λ (n : BatchName). eq_by_cmp name_cmp n r.0.batch) (batch_named r.0.batch r.0.ordinal (r.1 + 1 - r.0.ordinal) q has) ∙ itself r.0.batch))
    (λ rest. or_right (eq_by_cmp name_cmp q.batch r.0.batch) _ (batch_listed rs q rest))

-- the batch of one of some ranges has one of their rows
row_listed : (rs : List RowRange) (q : BatchName) → AreMaximal rs → list_any (is_of_batch q) rs ≡ true → (row : RowName) × ((list_any (eq_by_cmp row_name_cmp row) (rows_listed rs) ≡ true) × (q ≡ row.batch))
row_listed [] q m h = absurd (false≢true h)
row_listed (r ∷ rs) q m h =
    one_of (eq_by_cmp name_cmp q r.0.batch) (list_any (is_of_batch q) rs) h ((row : RowName) × ((list_any (eq_by_cmp row_name_cmp row) (rows_listed (r ∷ rs)) ≡ true) × (q ≡ row.batch)))
    (λ tied.
    let some = m.0.not_empty in
    let first : list_any (eq_by_cmp row_name_cmp r.0) (rows_between r.0 r.1) ≡ true = first_named r.0.batch r.0.ordinal (r.1 + 1 - r.0.ordinal) (omega arith) in
    let listed : list_any (eq_by_cmp row_name_cmp r.0) (rows_listed (r ∷ rs)) ≡ true =
    list_any-append (eq_by_cmp row_name_cmp r.0) (rows_between r.0 r.1) (rows_listed rs) ∙ ap (λ (b : Bool). b || list_any (eq_by_cmp row_name_cmp r.0) (rows_listed rs)) first in
    (r.0, (listed, same_name q r.0.batch tied)))
    (λ rest.
    let found = row_listed rs q m.2 rest in
    let listed : list_any (eq_by_cmp row_name_cmp found.0) (rows_listed (r ∷ rs)) ≡ true =
    list_any-append (eq_by_cmp row_name_cmp found.0) (rows_between r.0 r.1) (rows_listed rs) ∙ or_right (list_any (eq_by_cmp row_name_cmp found.0) (rows_between r.0 r.1)) _ found.1.0 in
    (found.0, (listed, found.1.1)))

module _ (ranges : List RowRange) (deleted : set.FinSet row_name_cmp) (maximal : AreMaximal ranges) (is : rows_in ranges ≡ deleted) where
  -- a row of the ranges is a deleted one
  one_row : (r : RowName) → list_any (eq_by_cmp row_name_cmp r) (rows_listed ranges) ≡ list_any (eq_by_cmp row_name_cmp r) (set.items deleted)
  unfolding rows_in
  one_row r = sym (set.contains-from_list row_names_total (rows_listed ranges) r) ∙ ap (λ (s : set.FinSet row_name_cmp). set.contains s r) is ∙ set.contains-items deleted r

  -- the batches of the deleted rows
  abbrev named : List BatchName
  named = each (λ (row : RowName). row.batch) (set.items deleted)

  one_batch : (q : BatchName) → list_any (is_of_batch q) ranges ≡ list_any (eq_by_cmp name_cmp q) named
  one_batch q =
      both_ways (list_any (is_of_batch q) ranges) (list_any (eq_by_cmp name_cmp q) named)
      (λ h. let found = row_listed ranges q maximal h in
      subst (λ (n : BatchName). list_any (eq_by_cmp name_cmp n) named ≡ true) (sym found.1.1) (row_of (set.items deleted) found.0 (sym (one_row found.0) ∙ found.1.0)))
      (λ h. let found = found_row (set.items deleted) q h in
      subst (λ (n : BatchName). list_any (is_of_batch n) ranges ≡ true) (sym found.1.1) (batch_listed ranges found.0 (one_row found.0 ∙ found.1.0)))

  -- names that are those of the ranges without the held ones are the deleted batches without them
  pub strays_are : (held names : Names) → ((q : BatchName) → set.contains names q ≡ (list_any (is_of_batch q) ranges && not (set.contains held q))) → names ≡ set.difference (batches_deleted deleted) held
  strays_are held names has = set.same_set names_total exact_names names (set.difference (batches_deleted deleted) held) (λ q.
      has q
      ∙ ap (λ (b : Bool). b && not (set.contains held q)) (one_batch q ∙ sym (set.contains-from_list names_total named q))
      ∙ sym (set.contains-difference names_total (batches_deleted deleted) held q))

-- ---- a range more

skipped : (any tied held_one has : Bool) → (tied ≡ true → held_one ≡ true) → has ≡ (any && not held_one) → has ≡ ((any || tied) && not held_one)
skipped true tied held_one has f h = h
skipped false true held_one has f h = h ∙ ap not (sym (f refl))
skipped false false held_one has f h = h

put : (any tied held_one has now : Bool) → (tied ≡ true → held_one ≡ false) → now ≡ (tied || has) → has ≡ (any && not held_one) → now ≡ ((any || tied) && not held_one)
put true true held_one has now f n h = n ∙ ap not (sym (f refl))
put true false held_one has now f n h = n ∙ h
put false true held_one has now f n h = n ∙ ap not (sym (f refl))
put false false held_one has now f n h = n ∙ h

module _ (ranges : List RowRange) (i : ℕ) (d : RowRange) (held names : Names) (q : BatchName) (below : i < length ranges) (before : set.contains names q ≡ (list_any (is_of_batch q) (take i ranges) && not (set.contains held q))) where
  abbrev batch : BatchName
  batch = (get_or ranges i d).0.batch

  more : (b : Bool) → b ≡ ((list_any (is_of_batch q) (take i ranges) || eq_by_cmp name_cmp q batch) && not (set.contains held q)) → b ≡ (list_any (is_of_batch q) (take (i + 1) ranges) && not (set.contains held q))
  more b h = h ∙ ap (λ (any : Bool). any && not (set.contains held q)) (sym (list_any_more (is_of_batch q) ranges i d below))

  -- whose batch is held
  pub more_held : set.contains held batch ≡ true → set.contains names q ≡ (list_any (is_of_batch q) (take (i + 1) ranges) && not (set.contains held q))
  more_held has = more _ (skipped (list_any (is_of_batch q) (take i ranges)) (eq_by_cmp name_cmp q batch) (set.contains held q) (set.contains names q) (λ tied. ap (set.contains held) (same_name q batch tied) ∙ has) before)

  -- whose batch isn't
  pub more_put : set.contains held batch ≡ false → set.contains (set.insert names batch) q ≡ (list_any (is_of_batch q) (take (i + 1) ranges) && not (set.contains held q))
  more_put has =
      more _ (put (list_any (is_of_batch q) (take i ranges)) (eq_by_cmp name_cmp q batch) (set.contains held q) (set.contains names q) _ (λ tied. ap (set.contains held) (same_name q batch tied) ∙ has) (set.contains-insert names_total names batch q) before)
