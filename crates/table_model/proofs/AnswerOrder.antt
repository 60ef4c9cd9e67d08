-- An answer's groups have the same keys in whatever order the rows come, and a set function doesn't see that order.
use Rattle.std.specs.Prelude.{◌≡◌, ℕ, ◌==◌, ◌||◌, suc, ◌+◌, not, slice_index_or, All, Bool, true, false, cond, List, [], ◌∷◌, map, filter, T, Option, None, ℤ, pos}
use Rattle.std.specs.FinMap as finite
use Rattle.std.specs.List.{list_any, position_or_len}
use Rattle.std.specs.List.Sorted.{IsPermutation}
use Rattle.std.specs.declared.cmp.Ordering.TheVariants.{Less}
use Rattle.std.proofs.Common.{refl, sym, ap, ◌∙◌, subst, arith, eqb→eq}
use Rattle.std.proofs.lemmas.Bool.{false≢true}
use Rattle.std.proofs.lemmas.List.Elements.{All-weaker}
use Rattle.std.proofs.lemmas.List.Kept.{AllPairs-filter}
use Rattle.table_model.specs.Answer.{whole, millionths}
use Rattle.table_model.specs.Formula.{Formula}
use Rattle.table_model.specs.Group.{Group, AreAscending, cell, key_cmp, key_of, keys_in, rows_with, group_at, groups_of}
use Rattle.table_model.specs.Meaning.{AnswerLaws, group_cell, place_of, fold_value, once_if, function_value, at_group, at_row, is_kept, item_value, item_text, grouping_of, rows_where, groups_having, answer_over}
use Rattle.table_model.specs.Query.{QueryShape}
use Rattle.table_model.specs.State.{Cells, same_cells}
use Rattle.table_model.specs.Table.{Table, ColumnShape}
use Rattle.table_model.specs.declared.answer.Field.{Field}
use Rattle.table_model.specs.declared.answer.Field.TheVariants.{Whole}
use Rattle.table_model.specs.declared.query.Fold.{Fold}
use Rattle.table_model.specs.declared.query.Fold.TheVariants.{Count, Sum, Avg, Min, Max}
use Rattle.table_model.specs.declared.query.Item.{Item}
use Rattle.table_model.specs.declared.query.ItemValue.{ItemValue}
use Rattle.table_model.specs.declared.query.ItemValue.TheVariants.{Grouped, Computed}
use Rattle.table_model.specs.declared.query.Operand.{Operand}
use Rattle.table_model.specs.declared.query.Operand.TheVariants.{Column, Literal, Function}
use Rattle.table_model.specs.declared.query.SetFunction.{SetFunction}
use Rattle.table_model.specs.declared.query.SetFunction.TheVariants.{CountRows, Of}
use Rattle.table_model.proofs.Alike.{Rearranged-filter, Rearranged-distinct, length-alike, total_or_null-alike, mean-alike, least-alike, greatest-alike}
use Rattle.table_model.proofs.Groups.{keys, keys_in-alike, values_in-alike, ascending}
use Rattle.table_model.proofs.Rearranged.{Rearranged, rearranged}

pub fold_value-alike : (f : Fold) (xs ys : List ℤ) → Rearranged xs ys → fold_value f xs ≡ fold_value f ys
fold_value-alike Count xs ys h = ap (λ n. Whole (pos n)) (length-alike xs ys h)
fold_value-alike Sum xs ys h = ap whole (total_or_null-alike xs ys h)
fold_value-alike Avg xs ys h = ap millionths (mean-alike xs ys h)
fold_value-alike Min xs ys h = ap whole (least-alike xs ys h)
fold_value-alike Max xs ys h = ap whole (greatest-alike xs ys h)

pub once_if-alike : (once : Bool) (xs ys : List ℤ) → Rearranged xs ys → Rearranged (once_if once xs) (once_if once ys)
once_if-alike true xs ys h = Rearranged-distinct xs ys h
once_if-alike false xs ys h = h

module _ (columns : List ColumnShape) where
  pub function_value-alike : (f : SetFunction) (xs ys : List Cells) → Rearranged xs ys → function_value columns f xs ≡ function_value columns f ys
  function_value-alike CountRows xs ys h = ap (λ n. Whole (pos n)) (length-alike xs ys h)
  function_value-alike (Of f once column) xs ys h = fold_value-alike f _ _ (once_if-alike once _ _ (values_in-alike (place_of columns column.name) xs ys h))

  module _ (by : List ℕ) (key : Cells) (xs ys : List Cells) (h : Rearranged xs ys) where
    abbrev one : Group
    one = record { key = key; rows = xs }

    abbrev other : Group
    other = record { key = key; rows = ys }

    at_group-alike : (operand : Operand) → at_group columns by one operand ≡ at_group columns by other operand
    at_group-alike (Column column) = refl
    at_group-alike (Literal n) = refl
    at_group-alike (Function f) = function_value-alike f xs ys h

    is_kept-alike : (having : Option Formula) → is_kept having (at_group columns by one) ≡ is_kept having (at_group columns by other)
    is_kept-alike having = λ i. is_kept having (λ operand. at_group-alike operand i)

    item_value-alike : (item : ItemValue) → item_value columns by one item ≡ item_value columns by other item
    item_value-alike (Grouped column) = refl
    item_value-alike (Computed f) = function_value-alike f xs ys h

    item_values-alike : (items : List Item) → map (λ item. item_value columns by one item.value) items ≡ map (λ item. item_value columns by other item.value) items
    item_values-alike [] = refl
    item_values-alike (item ∷ items) = λ i. item_value-alike item.value i ∷ item_values-alike items i

  -- which groups HAVING keeps, and what the select list makes of each
  abbrev kept : List ℕ → Option Formula → Group → Bool
  kept by having group = is_kept having (at_group columns by group)

  abbrev fields : List ℕ → List Item → Group → List Field
  fields by items group = map (λ item. item_value columns by group item.value) items

pub map-chosen : {G V : Type 0} (f : G → V) (b : Bool) (x : G) (xs : List G) → map f (cond b (x ∷ xs) xs) ≡ cond b (f x ∷ map f xs) (map f xs)
map-chosen f true x xs = refl
map-chosen f false x xs = refl

kept_alike : {K G V : Type 0} (p : G → Bool) (f : G → V) (g h : K → G) → ((k : K) → p (g k) ≡ p (h k)) → ((k : K) → f (g k) ≡ f (h k)) → (ks : List K) → map f (filter p (map g ks)) ≡ map f (filter p (map h ks))
kept_alike p f g h same value [] = refl
kept_alike p f g h same value (k ∷ ks) =
    let rest = kept_alike p f g h same value ks in
    map-chosen f (p (g k)) (g k) (filter p (map g ks))
    ∙ (λ i. cond (same k i) (value k i ∷ rest i) (rest i))
    ∙ sym (map-chosen f (p (h k)) (h k) (filter p (map h ks)))

rows_with-alike : (by : List ℕ) (xs ys : List Cells) (key : Cells) → Rearranged xs ys → Rearranged (rows_with by xs key) (rows_with by ys key)
unfolding rows_with
rows_with-alike by xs ys key h = Rearranged-filter (λ row. same_cells key (key_of by row)) xs ys h

-- the groups that are kept give the same fields, whatever the order of the rows
grouped_alike : (columns : List ColumnShape) (places : List ℕ) (having : Option Formula) (items : List Item) (by : List ℕ) (xs ys : List Cells) → Rearranged xs ys → map (fields columns places items) (filter (kept columns places having) (groups_of by xs)) ≡ map (fields columns places items) (filter (kept columns places having) (groups_of by ys))
unfolding groups_of
grouped_alike columns places having items [] xs ys h =
    let with_rows : List Cells → Cells → Group = λ rows key. record { key = key; rows = rows } in
    kept_alike (kept columns places having) (fields columns places items) (with_rows xs) (with_rows ys)
    (λ key. is_kept-alike columns places key xs ys h having) (λ key. item_values-alike columns places key xs ys h items) ([] ∷ [])
grouped_alike columns places having items (column ∷ by) xs ys h =
    let all = column ∷ by in
    kept_alike (kept columns places having) (fields columns places items) (group_at all xs) (group_at all ys)
    (λ key. is_kept-alike columns places key _ _ (rows_with-alike all xs ys key h) having) (λ key. item_values-alike columns places key _ _ (rows_with-alike all xs ys key h) items) (finite.keys (keys_in all xs))
    ∙ ap (λ m. map (fields columns places items) (filter (kept columns places having) (map (group_at all ys) (finite.keys m)))) (keys_in-alike all xs ys h)

order : (table : Table) (query : QueryShape) (rows others : List Cells) → IsPermutation rows others → answer_over table query rows ≡ answer_over table query others
unfolding answer_over groups_having rows_where
order table query rows others h =
    let columns = table.columns in
    let by = grouping_of columns query in
    let chosen = Rearranged-filter (λ row. is_kept query.filter (at_row columns row)) rows others (rearranged rows others h) in
    let same = grouped_alike columns by query.having query.items by _ _ chosen in
    λ i. record { heading = map item_text query.items; rows = same i }

ascends : (columns : List ColumnShape) (query : QueryShape) (rows : List Cells) → AreAscending (groups_having columns query rows)
unfolding groups_having
ascends columns query rows =
    let by = grouping_of columns query in
    AllPairs-filter (λ a b. key_cmp a.key b.key ≡ Less) (λ group. is_kept query.having (at_group columns by group)) (groups_of by (rows_where columns query rows)) (ascending by (rows_where columns query rows))

first_or_later : (b : Bool) (x : Option ℤ) (xs : List (Option ℤ)) (n : ℕ) → slice_index_or (x ∷ xs) (cond (not b) (1 + n) 0) None ≡ cond b x (slice_index_or xs n None)
first_or_later true x xs n = refl
first_or_later false x xs n = let next : 1 + n ≡ suc n = omega arith in ap (λ k. slice_index_or (x ∷ xs) k None) next

chosen_cell : (b : Bool) (place column : ℕ) (row : Cells) (later : Option ℤ) (rest : Bool) → (place == column) ≡ b → (b || rest) ≡ true → (rest ≡ true → later ≡ cell row column) → cond b (cell row place) later ≡ cell row column
chosen_cell true place column row later rest is here found = ap (cell row) (eqb→eq place column (subst T (sym is) tt))
chosen_cell false place column row later rest is here found = found here

-- a row's cell in a grouping column, by its keys
cell_of_key : (by : List ℕ) (row : Cells) (column : ℕ) → list_any (λ place. place == column) by ≡ true → slice_index_or (key_of by row) (position_or_len (λ place. place == column) by) None ≡ cell row column
cell_of_key [] row column here = absurd (false≢true here)
cell_of_key (place ∷ by) row column here =
    first_or_later (place == column) (cell row place) (key_of by row) (position_or_len (λ p. p == column) by)
    ∙ chosen_cell (place == column) place column row _ (list_any (λ p. p == column) by) refl here (cell_of_key by row column)

cells : (by : List ℕ) (rows : List Cells) (column : ℕ) → list_any (λ place. place == column) by ≡ true → All (λ group. All (λ row. group_cell by group column ≡ cell row column) group.rows) (groups_of by rows)
cells by rows column here =
    All-weaker (λ group. All (λ row. key_of by row ≡ group.key) group.rows) (λ group. All (λ row. group_cell by group column ≡ cell row column) group.rows)
    (λ group. All-weaker (λ row. key_of by row ≡ group.key) (λ row. group_cell by group column ≡ cell row column) (λ row has. ap (λ key. slice_index_or key (position_or_len (λ p. p == column) by) None) (sym has) ∙ cell_of_key by row column here) group.rows)
    (groups_of by rows) (keys by rows)

pub answers : AnswerLaws
answers = record { order = order; ascending = ascends; cells = cells }
