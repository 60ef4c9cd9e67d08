-- A finished group gives the fields that its group has, for each set function that the query names.
use Rattle.std.proofs.Common.{append-nil, get_or, take, ◌<◌, ◌≡◌, ℕ, ◌==◌, Bool, true, false, cond, not, ◌&&◌, ◌||◌, List, [], ◌∷◌, ◌++◌, map, filter, length, slice_index_or, Option, Some, None, refl, sym, ap, ◌∙◌, arith, suc, ◌+◌}
use Rattle.std.specs.List.{flat_map, list_any, position_or_len}
use Rattle.std.specs.Cmp.{booleans_Decides}
use Rattle.std.specs.Bool.{beq}
use Rattle.std.proofs.lemmas.Bool.{and_parts, false≢true, or_right}
use Rattle.std.proofs.lemmas.Bool.Decides.{Decides-eqb}
use Rattle.std.proofs.lemmas.List.{map-append, take_more}
use Rattle.std.proofs.lemmas.List.Elements.{filter-append}
use Rattle.table_model.specs.QueryCode.{fold_number, fold_of, fold_of-fold_number}
use Rattle.table_model.specs.Condition.{predicate_truth, condition_truth, field_comparison, between, is_among, is_null, not_if, asked}
use Rattle.table_model.specs.Formula.{Formula, says, in_parentheses, is_truth, negation, no_factor, both, no_term, either}
use Rattle.table_model.specs.Group.{Group}
use Rattle.table_model.specs.Meaning.{at_group, function_value, grouping_of, is_kept, item_value}
use Rattle.table_model.specs.Query.{QueryShape}
use Rattle.table_model.specs.State.{Cells}
use Rattle.table_model.specs.Table.{ColumnShape}
use Rattle.table_model.specs.Truth.{is_true, and_of, or_of, not_of, truth_of}
use Rattle.table_model.specs.declared.answer.Field.{Field}
use Rattle.table_model.specs.declared.answer.Field.TheVariants.{Null}
use Rattle.table_model.specs.declared.query.Fold.{Fold}
use Rattle.table_model.specs.declared.query.Item.{Item}
use Rattle.table_model.specs.declared.query.ItemValue.{ItemValue}
use Rattle.table_model.specs.declared.query.ItemValue.TheVariants.{Grouped, Computed}
use Rattle.table_model.specs.declared.query.Operand.{Operand}
use Rattle.table_model.specs.declared.query.Operand.TheVariants.{Column, Literal, Function}
use Rattle.table_model.specs.declared.query.Predicate.{Predicate}
use Rattle.table_model.specs.declared.query.Predicate.TheVariants.{Compare, Between, In, IsNull}
use Rattle.table_model.specs.declared.query.SetFunction.{SetFunction}
use Rattle.table_model.specs.declared.query.SetFunction.TheVariants.{CountRows, Of}
use Rattle.table_model.proofs.AnswerOrder.{map-chosen}
use Rattle.query_eval.specs.Aggregate.{aggregate_of, aggregate_value, aggregates_of, condition_functions, functions_of, having_functions, item_functions, operand_functions, predicate_functions, same_aggregate}
use Rattle.query_eval.specs.Finished.{PlanShape, finished_of, plan_of, seen_aggregate, seen_item, seen_operand}
use Rattle.query_eval.specs.declared.tallies.aggregate.Aggregate.{Aggregate}
use Rattle.query_eval.specs.declared.tallies.aggregate.Aggregate.TheVariants.{Rows, Folded}

one_fold : (f g : Fold) → (fold_number f == fold_number g) ≡ true → f ≡ g
one_fold f g e = sym (fold_of-fold_number f) ∙ ap fold_of ((Decides-eqb (fold_number f) (fold_number g)).0 e) ∙ fold_of-fold_number g

-- aggregates that are the same are one
pub one_aggregate : (a b : Aggregate) → same_aggregate a b ≡ true → a ≡ b
one_aggregate Rows Rows e = refl
one_aggregate Rows (Folded fold distinct place) e = absurd (false≢true e)
one_aggregate (Folded fold distinct place) Rows e = absurd (false≢true e)
one_aggregate (Folded f d p) (Folded g e q) h =
    let first = and_parts (fold_number f == fold_number g) (beq d e && (p == q)) h in
    let rest = and_parts (beq d e) (p == q) first.1 in
    let fold = one_fold f g first.0 in
    let distinct = (booleans_Decides d e).0 rest.0 in
    let place = (Decides-eqb p q).0 rest.1 in
    λ i. Folded (fold i) (distinct i) (place i)

pub itself_aggregate : (a : Aggregate) → same_aggregate a a ≡ true
itself_aggregate Rows = refl
itself_aggregate (Folded f d p) = (λ i. (Decides-eqb (fold_number f) (fold_number f)).1 refl i && ((booleans_Decides d d).1 refl i && (Decides-eqb p p).1 refl i))

at_or_later : (F : Aggregate → Field) (a b : Aggregate) (t : Bool) (fields : List Field) (n : ℕ) → same_aggregate a b ≡ t → (t ≡ false → slice_index_or fields n Null ≡ F a) → slice_index_or (F b ∷ fields) (cond (not t) (1 + n) 0) Null ≡ F a
at_or_later F a b true fields n is later = ap F (sym (one_aggregate a b is))
at_or_later F a b false fields n is later = let next : 1 + n ≡ suc n = omega arith in ap (λ k. slice_index_or (F b ∷ fields) k Null) next ∙ later refl

-- the field of an aggregate that was asked for
pub field_found : (F : Aggregate → Field) (a : Aggregate) (asked : List Aggregate) → list_any (same_aggregate a) asked ≡ true → slice_index_or (map F asked) (position_or_len (same_aggregate a) asked) Null ≡ F a
field_found F a [] h = absurd (false≢true h)
field_found F a (b ∷ bs) h =
    at_or_later F a b (same_aggregate a b) (map F bs) (position_or_len (same_aggregate a) bs) refl
    (λ e. field_found F a bs (ap (λ t. t || list_any (same_aggregate a) bs) (sym e) ∙ h))

value_of : (columns : List ColumnShape) (f : SetFunction) (rows : List Cells) → aggregate_value (aggregate_of columns f) rows ≡ function_value columns f rows
value_of columns CountRows rows = refl
value_of columns (Of fold distinct column) rows = refl

module _ (columns : List ColumnShape) (plan : PlanShape) where
  -- each set function was asked for
  abbrev pub AreNamed : List SetFunction → Type 0
  AreNamed [] = Unit {0}
  AreNamed (f ∷ fs) = (list_any (same_aggregate (aggregate_of columns f)) plan.aggregates ≡ true) × AreNamed fs

  pub all_named : (fs : List SetFunction) → ((a : Aggregate) → list_any (same_aggregate a) (map (aggregate_of columns) fs) ≡ true → list_any (same_aggregate a) plan.aggregates ≡ true) → AreNamed fs
  all_named [] h = tt
  all_named (f ∷ fs) h =
      let a = aggregate_of columns f in
      let here = ap (λ b. b || list_any (same_aggregate a) (map (aggregate_of columns) fs)) (itself_aggregate a) in
      (h a here, all_named fs (λ b e. h b (or_right (same_aggregate b a) _ e)))

  pub parted : (fs gs : List SetFunction) → AreNamed (fs ++ gs) → AreNamed fs × AreNamed gs
  parted [] gs h = (tt, h)
  parted (f ∷ fs) gs h = let rest = parted fs gs h.1 in ((h.0, rest.0), rest.1)

  -- operands that are seen as they are meant, if their set functions were asked for
  module _ (seen meant : Operand → Field) (operand_seen : (o : Operand) → AreNamed (operand_functions o) → seen o ≡ meant o) where
    predicate_seen : (p : Predicate) → AreNamed (predicate_functions p) → predicate_truth seen p ≡ predicate_truth meant p
    predicate_seen (Compare left op right) h =
        let parts = parted (operand_functions left) (operand_functions right) h in
        let l = operand_seen left parts.0 in
        let r = operand_seen right parts.1 in
        λ i. field_comparison op (l i) (r i)
    predicate_seen (Between operand negated low high) h =
        let parts = parted (operand_functions operand) (operand_functions low ++ operand_functions high) h in
        let ends = parted (operand_functions low) (operand_functions high) parts.1 in
        let x = operand_seen operand parts.0 in
        let l = operand_seen low ends.0 in
        let k = operand_seen high ends.1 in
        λ i. not_if negated (between (x i) (l i) (k i))
    predicate_seen (In operand negated literals) h = ap (λ x. not_if negated (is_among x literals)) (operand_seen operand h)
    predicate_seen (IsNull operand negated) h = ap (λ x. not_if negated (truth_of (is_null x))) (operand_seen operand h)

    condition_seen : (f : Formula) → AreNamed (condition_functions f) → condition_truth seen f ≡ condition_truth meant f
    condition_seen (says predicate) h = predicate_seen predicate h
    condition_seen (in_parentheses f) h = condition_seen f h
    condition_seen (is_truth f is) h = ap (asked is) (condition_seen f h)
    condition_seen (negation f) h = ap not_of (condition_seen f h)
    condition_seen no_factor h = refl
    condition_seen (both f g) h =
        let parts = parted (condition_functions f) (condition_functions g) h in
        let a = condition_seen f parts.0 in
        let b = condition_seen g parts.1 in
        λ i. and_of (a i) (b i)
    condition_seen no_term h = refl
    condition_seen (either f g) h =
        let parts = parted (condition_functions f) (condition_functions g) h in
        let a = condition_seen f parts.0 in
        let b = condition_seen g parts.1 in
        λ i. or_of (a i) (b i)

    pub kept_alike : (having : Option Formula) → AreNamed (having_functions having) → is_kept having seen ≡ is_kept having meant
    kept_alike None h = refl
    kept_alike (Some condition) h = ap is_true (condition_seen condition h)

  -- values of items that are seen as they are meant, if their set functions were asked for
  pub items_alike : (seen meant : ItemValue → Field) → ((item : ItemValue) → AreNamed (item_functions item) → seen item ≡ meant item) → (items : List Item) → AreNamed (flat_map (λ item. item_functions item.value) items) → map (λ item. seen item.value) items ≡ map (λ item. meant item.value) items
  items_alike seen meant each [] h = refl
  items_alike seen meant each (item ∷ items) h =
      let parts = parted (item_functions item.value) (flat_map (λ item. item_functions item.value) items) h in
      let first = each item.value parts.0 in
      let rest = items_alike seen meant each items parts.1 in
      λ i. first i ∷ rest i

  module _ (group : Group) where
    abbrev pub seen_of : Operand → Field
    seen_of = seen_operand columns plan (finished_of plan.aggregates group)

    abbrev pub meant_of : Operand → Field
    meant_of = at_group columns plan.grouping group

    function_seen : (f : SetFunction) → list_any (same_aggregate (aggregate_of columns f)) plan.aggregates ≡ true → seen_aggregate plan (finished_of plan.aggregates group) (aggregate_of columns f) ≡ function_value columns f group.rows
    function_seen f h = field_found (λ a. aggregate_value a group.rows) (aggregate_of columns f) plan.aggregates h ∙ value_of columns f group.rows

    operand_seen : (o : Operand) → AreNamed (operand_functions o) → seen_of o ≡ meant_of o
    operand_seen (Column column) h = refl
    operand_seen (Literal n) h = refl
    operand_seen (Function f) h = function_seen f h.0

    pub kept_seen : (having : Option Formula) → AreNamed (having_functions having) → is_kept having seen_of ≡ is_kept having meant_of
    kept_seen having h = kept_alike seen_of meant_of operand_seen having h

    item_seen : (item : ItemValue) → AreNamed (item_functions item) → seen_item columns plan (finished_of plan.aggregates group) item ≡ item_value columns plan.grouping group item
    item_seen (Grouped column) h = refl
    item_seen (Computed f) h = function_seen f h.0

    pub items_seen : (items : List Item) → AreNamed (flat_map (λ item. item_functions item.value) items) → map (λ item. seen_item columns plan (finished_of plan.aggregates group) item.value) items ≡ map (λ item. item_value columns plan.grouping group item.value) items
    items_seen items h = items_alike (seen_item columns plan (finished_of plan.aggregates group)) (item_value columns plan.grouping group) item_seen items h

pub chosen_alike : {G H V : Type 0} (F : G → H) (p : H → Bool) (f : H → V) (q : G → Bool) (g : G → V) → ((x : G) → p (F x) ≡ q x) → ((x : G) → f (F x) ≡ g x) → (xs : List G) → map f (filter p (map F xs)) ≡ map g (filter q xs)
chosen_alike F p f q g same value [] = refl
chosen_alike F p f q g same value (x ∷ xs) =
    let rest = chosen_alike F p f q g same value xs in
    map-chosen f (p (F x)) (F x) (filter p (map F xs))
    ∙ (λ i. cond (same x i) (value x i ∷ rest i) (rest i))
    ∙ sym (map-chosen g (q x) x (filter q xs))

-- the rows of the groups that HAVING keeps, by their finished groups
pub rows_seen : (columns : List ColumnShape) (query : QueryShape) (groups : List Group) → (let plan = plan_of columns query in map (λ group. map (λ item. seen_item columns plan group item.value) query.items) (filter (λ group. is_kept query.having (seen_operand columns plan group)) (map (finished_of (aggregates_of columns query)) groups)))
    ≡ map (λ group. map (λ item. item_value columns (grouping_of columns query) group item.value) query.items) (filter (λ group. is_kept query.having (at_group columns (grouping_of columns query) group)) groups)
unfolding aggregates_of
rows_seen columns query groups =
    let plan = plan_of columns query in
    let named = parted columns plan (flat_map (λ item. item_functions item.value) query.items) (having_functions query.having) (all_named columns plan (functions_of query) (λ a e. e)) in
    chosen_alike (finished_of (aggregates_of columns query)) (λ group. is_kept query.having (seen_operand columns plan group)) (λ group. map (λ item. seen_item columns plan group item.value) query.items)
    (λ group. is_kept query.having (at_group columns (grouping_of columns query) group)) (λ group. map (λ item. item_value columns (grouping_of columns query) group item.value) query.items)
    (λ group. kept_seen columns plan group query.having named.1) (λ group. items_seen columns plan group query.items named.0) groups

module _ {G V : Type 0} (f : G → V) (p : G → Bool) (xs : List G) (i : ℕ) (x : G) (h : i < length xs) (at : x ≡ get_or xs i x) where
  one_more : take (i + 1) xs ≡ take i xs ++ x ∷ []
  one_more = take_more xs i x h ∙ ap (λ (y : G). take i xs ++ y ∷ []) (sym at)

  kept_one : (b : Bool) → p x ≡ b → map f (filter p (take (i + 1) xs)) ≡ map f (filter p (take i xs)) ++ cond b (f x ∷ []) []
  kept_one b is =
      ap (λ (l : List G). map f (filter p l)) one_more
      ∙ ap (map f) (filter-append p (take i xs) (x ∷ []))
      ∙ map-append f (filter p (take i xs)) (filter p (x ∷ []))
      ∙ ap (λ (l : List V). map f (filter p (take i xs)) ++ l) (map-chosen f (p x) x [] ∙ ap (λ c. cond c (f x ∷ []) []) is)

  -- one group more that is kept
  pub kept_more : (rows next : List V) (y : V) → p x ≡ true → rows ≡ map f (filter p (take i xs)) → next ≡ rows ++ y ∷ [] → y ≡ f x → next ≡ map f (filter p (take (i + 1) xs))
  kept_more rows next y is before e v = e ∙ ap (λ (l : List V). l ++ y ∷ []) before ∙ ap (λ (z : V). map f (filter p (take i xs)) ++ z ∷ []) v ∙ sym (kept_one true is)

  -- one group more that isn't
  pub left_more : (rows : List V) → p x ≡ false → rows ≡ map f (filter p (take i xs)) → rows ≡ map f (filter p (take (i + 1) xs))
  left_more rows is before = before ∙ sym (append-nil (map f (filter p (take i xs)))) ∙ sym (kept_one false is)
