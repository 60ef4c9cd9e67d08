-- The rows of those ranges that are of some batches are those rows of all ranges that are of these batches.
use Rattle.std.specs.Prelude.{◌≡◌, ℕ, zero, suc, ◌+◌, ◌-◌, ◌<◌, Bool, true, false, cond, ◌&&◌, ◌||◌, List, [], ◌∷◌, ◌++◌, length, filter, take, IsTrue, ◌≤◌}
use Rattle.std.proofs.Common.{refl, sym, ap, ◌∙◌, arith, get_or}
use Rattle.std.proofs.lemmas.Bool.{false≢true}
use Rattle.std.proofs.lemmas.List.{take_more}
use Rattle.std.proofs.lemmas.List.Elements.{filter-append}
use Rattle.std.proofs.lemmas.List.Folds.{list_any-append}
use Rattle.std.specs.FinSet as set
use Rattle.std.specs.List.{list_any}
use Rattle.std.specs.Ordering.{eq_by_cmp}
use Rattle.table_model.specs.Name.{row_name_cmp, is_proper_name}
use Rattle.table_model.specs.declared.names.BatchName.{BatchName}
use Rattle.table_model.specs.declared.names.RowName.{RowName}
use Rattle.table_model.proofs.NameOrder.{row_names_total, exact_row_names}
use Rattle.table_model.proofs.Operations.{same_row_name}
use Rattle.catalogue_join.specs.RowRange.{RowRange, row_names, rows_between, rows_listed, rows_in, AreMaximal}
use Rattle.table_spread.specs.Spread.{deletions_of}
use Rattle.table_spread.proofs.Shares.{contains-deletions_of}

-- a range that was given: its batch's name is proper, and it is not empty
pub record IsGiven (r : RowRange) : Type 0 where
  pub proper : IsTrue (is_proper_name r.0.batch)
  pub not_empty : r.0.ordinal ≤ r.1

pub given_at : (rs : List RowRange) (i : ℕ) (d : RowRange) → AreMaximal rs → i < length rs → IsGiven (get_or rs i d)
given_at [] i d m below = absurd (omega (arith, below))
given_at (r ∷ rs) zero d m below = record { proper = m.0.proper; not_empty = m.0.not_empty }
given_at (r ∷ rs) (suc i) d m below = given_at rs i d m.2 (omega (arith, below))

module _ (goes : BatchName → Bool) where
  -- the ranges of some batches
  abbrev pub ranges_of_names : List RowRange → List RowRange
  ranges_of_names rs = filter (λ (r : RowRange). goes r.0.batch) rs

  -- rows of one batch go where the batch goes
  named_alike : (batch : BatchName) (count n : ℕ) (q : RowName) → list_any (eq_by_cmp row_name_cmp q) (row_names batch n count) ≡ true → q.batch ≡ batch
  named_alike batch zero n q has = absurd (false≢true has)
  named_alike batch (suc count) n q has =
      elim (eq_by_cmp row_name_cmp q (record { batch = batch; ordinal = n })) as
      (λ b. eq_by_cmp row_name_cmp q (record { batch = batch; ordinal = n }) ≡ b → (b || list_any (eq_by_cmp row_name_cmp q) (row_names batch (n + 1) count)) ≡ true → q.batch ≡ batch) [
        | true ↦ λ tied _. ap (λ (row : RowName). row.batch) (same_row_name q (record { batch = batch; ordinal = n }) tied)
        | false ↦ λ _ rest. named_alike batch count (n + 1) q rest
      ] refl has

  of_range : (r : RowRange) (q : RowName) (b : Bool) → goes r.0.batch ≡ b → (b && list_any (eq_by_cmp row_name_cmp q) (rows_between r.0 r.1)) ≡ (goes q.batch && list_any (eq_by_cmp row_name_cmp q) (rows_between r.0 r.1))
  of_range r q b e =
      elim (list_any (eq_by_cmp row_name_cmp q) (rows_between r.0 r.1)) as (λ here. list_any (eq_by_cmp row_name_cmp q) (rows_between r.0 r.1) ≡ here → (b && here) ≡ (goes q.batch && here)) [
        | true ↦ λ has. ap (λ c. c && true) (sym e ∙ ap goes (sym (named_alike r.0.batch (r.1 + 1 - r.0.ordinal) r.0.ordinal q has)))
        | false ↦ λ _. never b ∙ sym (never (goes q.batch))
      ] refl
    where
      never : (c : Bool) → (c && false) ≡ false
      never true = refl
      never false = refl

  over : (g a b : Bool) → ((g && a) || (g && b)) ≡ (g && (a || b))
  over true a b = refl
  over false a b = refl

  listed : (rs : List RowRange) (q : RowName) → list_any (eq_by_cmp row_name_cmp q) (rows_listed (ranges_of_names rs)) ≡ (goes q.batch && list_any (eq_by_cmp row_name_cmp q) (rows_listed rs))
  listed [] q = elim (goes q.batch) as (λ b. false ≡ (b && false)) [ true ↦ refl | false ↦ refl ]
  listed (r ∷ rs) q =
      first (goes r.0.batch)
      ∙ (λ i. of_range r q (goes r.0.batch) refl i || listed rs q i)
      ∙ over (goes q.batch) (list_any (eq_by_cmp row_name_cmp q) (rows_between r.0 r.1)) (list_any (eq_by_cmp row_name_cmp q) (rows_listed rs))
      ∙ ap (λ b. goes q.batch && b) (sym (list_any-append (eq_by_cmp row_name_cmp q) (rows_between r.0 r.1) (rows_listed rs)))
    where
      first : (b : Bool) → list_any (eq_by_cmp row_name_cmp q) (rows_listed (cond b (r ∷ ranges_of_names rs) (ranges_of_names rs)))
          ≡ ((b && list_any (eq_by_cmp row_name_cmp q) (rows_between r.0 r.1)) || list_any (eq_by_cmp row_name_cmp q) (rows_listed (ranges_of_names rs)))
      first true = list_any-append (eq_by_cmp row_name_cmp q) (rows_between r.0 r.1) (rows_listed (ranges_of_names rs))
      first false = refl

  pub deletions_in : (rs : List RowRange) (deleted : set.FinSet row_name_cmp) → rows_in rs ≡ deleted → rows_in (ranges_of_names rs) ≡ deletions_of goes deleted
  unfolding rows_in
  deletions_in rs deleted is = set.same_set row_names_total exact_row_names _ _ (λ q.
      set.contains-from_list row_names_total (rows_listed (ranges_of_names rs)) q
      ∙ listed rs q
      ∙ ap (λ b. goes q.batch && b) (sym (set.contains-from_list row_names_total (rows_listed rs) q) ∙ ap (λ (s : set.FinSet row_name_cmp). set.contains s q) is)
      ∙ sym (contains-deletions_of goes deleted q))

  listed-append : (rs ts : List RowRange) → rows_listed (rs ++ ts) ≡ rows_listed rs ++ rows_listed ts
  listed-append [] ts = refl
  listed-append (r ∷ rs) ts = ap (λ (rows : List RowName). rows_between r.0 r.1 ++ rows) (listed-append rs ts) ∙ append_assoc (rows_between r.0 r.1) (rows_listed rs) (rows_listed ts)
    where
      append_assoc : (a b c : List RowName) → a ++ (b ++ c) ≡ (a ++ b) ++ c
      append_assoc [] b c = refl
      append_assoc (x ∷ a) b c = ap (λ (rest : List RowName). x ∷ rest) (append_assoc a b c)

  one_more : (rs : List RowRange) (r : RowRange) → rows_in (rs ++ r ∷ []) ≡ set.union (rows_in rs) (set.from_list (rows_between r.0 r.1))
  unfolding rows_in
  one_more rs r = set.same_set row_names_total exact_row_names _ _ (λ q.
      set.contains-from_list row_names_total (rows_listed (rs ++ r ∷ [])) q
      ∙ ap (list_any (eq_by_cmp row_name_cmp q)) (listed-append rs (r ∷ []))
      ∙ list_any-append (eq_by_cmp row_name_cmp q) (rows_listed rs) (rows_between r.0 r.1 ++ [])
      ∙ ap (λ (b : Bool). list_any (eq_by_cmp row_name_cmp q) (rows_listed rs) || b) (list_any-append (eq_by_cmp row_name_cmp q) (rows_between r.0 r.1) [] ∙ or_none _)
      ∙ sym (set.contains-union row_names_total (set.from_list (rows_listed rs)) (set.from_list (rows_between r.0 r.1)) q
      ∙ (λ i. set.contains-from_list row_names_total (rows_listed rs) q i || set.contains-from_list row_names_total (rows_between r.0 r.1) q i)))
    where
      or_none : (b : Bool) → (b || false) ≡ b
      or_none true = refl
      or_none false = refl

  pub kept_more : (rs : List RowRange) (i : ℕ) (d : RowRange) → i < length rs →
      rows_in (ranges_of_names (take (i + 1) rs)) ≡ cond (goes (get_or rs i d).0.batch) (set.union (rows_in (ranges_of_names (take i rs))) (set.from_list (rows_between (get_or rs i d).0 (get_or rs i d).1))) (rows_in (ranges_of_names (take i rs)))
  kept_more rs i d below =
      let r : RowRange = get_or rs i d in
      let front : List RowRange = ranges_of_names (take i rs) in
      ap (λ (l : List RowRange). rows_in (ranges_of_names l)) (take_more rs i d below)
      ∙ ap rows_in (filter-append (λ (r : RowRange). goes r.0.batch) (take i rs) (r ∷ []))
      ∙ added (goes r.0.batch) front r
    where
      added : (b : Bool) (front : List RowRange) (r : RowRange) → rows_in (front ++ cond b (r ∷ []) []) ≡ cond b (set.union (rows_in front) (set.from_list (rows_between r.0 r.1))) (rows_in front)
      added true front r = one_more front r
      added false front r = ap rows_in (append_none front)
        where
          append_none : (l : List RowRange) → l ++ [] ≡ l
          append_none [] = refl
          append_none (x ∷ l) = ap (λ (rest : List RowRange). x ∷ rest) (append_none l)
