-- The laws of partial answers.
use Rattle.std.specs.Prelude.{◌≡◌, Bool, true, false, not, ◌||◌, List, [], ◌∷◌, ◌++◌, map as each, filter, length, Option, Some, None}
use Rattle.std.proofs.Common.{refl, sym, ap, ◌∙◌, arith}
use Rattle.std.specs.FinMap as map
use Rattle.std.specs.FinSet as set
use Rattle.std.specs.List.{flat_map}
use Rattle.std.proofs.lemmas.Bool.{or_right}
use Rattle.std.proofs.lemmas.List.{map-append}
use Rattle.std.proofs.lemmas.List.Elements.{filter-append}
use Rattle.table_model.specs.Meaning.{answer_of, rows_where, is_kept, at_row}
use Rattle.table_model.specs.Name.{name_cmp}
use Rattle.table_model.specs.Query.{QueryShape}
use Rattle.table_model.specs.State.{State, Batch, Cells, empty_state, join, named_from, live_rows}
use Rattle.table_model.specs.Table.{Table, ColumnShape}
use Rattle.table_model.specs.declared.names.BatchName.{BatchName}
use Rattle.table_model.specs.declared.names.RowName.{RowName}
use Rattle.table_model.proofs.Alike.{Rearranged-filter, Rearranged-map}
use Rattle.table_model.proofs.Joins.{or_else, get-union}
use Rattle.table_model.proofs.NameOrder.{row_names_total}
use Rattle.query_eval.specs.Finished.{plan_of}
use Rattle.partial_answers.specs.Measures.{measured}
use Rattle.partial_answers.specs.PartialAnswer.{partial_answer_over, partial_answer_of, combine, finish}
use Rattle.partial_answers.specs.PartialAnswerLaws.{Apart, Shards, One, Two, joined, combined, AreApart, PartialAnswerLaws}
use Rattle.partial_answers.proofs.Combined.{commutative, associative, in_turn}
use Rattle.partial_answers.proofs.Over.{finish-partial, partial-append, partial-alike}
use Rattle.partial_answers.proofs.Rows.{Named, live-join}

abbrev cells : Named → Cells
cells r = r.1

where-append : (columns : List ColumnShape) (query : QueryShape) (xs ys : List Cells) → rows_where columns query (xs ++ ys) ≡ rows_where columns query xs ++ rows_where columns query ys
unfolding rows_where
where-append columns query xs ys = filter-append (λ row. is_kept query.filter (at_row columns row)) xs ys

pub partials : (table : Table) (query : QueryShape) (s t : State) → Apart s t → partial_answer_of table query (join s t) ≡ combine (partial_answer_of table query s) (partial_answer_of table query t)
unfolding partial_answer_of rows_where
partials table query s t apart =
    let columns = table.columns in
    let plan = measured (plan_of columns query) in
    let p : Cells → Bool = λ row. is_kept query.filter (at_row columns row) in
    partial-alike plan _ _ (Rearranged-filter p _ _ (Rearranged-map cells _ _ (live-join s t apart)))
    ∙ ap (partial_answer_over plan) (ap (filter p) (map-append cells (live_rows s) (live_rows t)) ∙ filter-append p (each cells (live_rows s)) (each cells (live_rows t)))
    ∙ partial-append plan (filter p (each cells (live_rows s))) (filter p (each cells (live_rows t)))

pub alone : (table : Table) (query : QueryShape) (s : State) → finish table query (partial_answer_of table query s) ≡ answer_of table query s
unfolding partial_answer_of answer_of
alone table query s = finish-partial table query (each cells (live_rows s))

whole : (table : Table) (query : QueryShape) (s t : State) → Apart s t → answer_of table query (join s t) ≡ finish table query (combine (partial_answer_of table query s) (partial_answer_of table query t))
whole table query s t apart = sym (alone table query (join s t)) ∙ ap (finish table query) (partials table query s t apart)

no_length : {X : Type 0} (l : List X) → length l ≡ 0 → l ≡ []
no_length [] e = refl
no_length (x ∷ l) e = absurd (omega arith)

no_rows : live_rows empty_state ≡ []
unfolding live_rows
no_rows =
    let none_there : map.entries empty_state.batches ≡ [] = no_length _ (sym (map.len-entries empty_state.batches) ∙ map.len-empty name_cmp Batch) in
    ap (λ (es : List (BatchName × Batch)). filter (λ (r : Named). not (set.contains empty_state.deleted r.0)) (flat_map (λ (e : BatchName × Batch). named_from e.0 0 e.1) es)) none_there

nothing : (table : Table) (query : QueryShape) (s : State) → combine (partial_answer_of table query empty_state) (partial_answer_of table query s) ≡ partial_answer_of table query s
unfolding partial_answer_of rows_where
nothing table query s =
    let plan = measured (plan_of table.columns query) in
    let p : Cells → Bool = λ row. is_kept query.filter (at_row table.columns row) in
    ap (λ (l : List Named). combine (partial_answer_over plan (filter p (each cells l))) (partial_answer_of table query s)) no_rows
    ∙ sym (partial-append plan [] (filter p (each cells (live_rows s))))

-- ---- states that are apart
or_first : (a b : Bool) → a ≡ true → (a || b) ≡ true
or_first a b e = ap (λ c. c || b) e

chosen : (a b : Option Batch) (x : Batch) → or_else a b ≡ Some x → (C : Type 0) → (a ≡ Some x → C) → (b ≡ Some x → C) → C
chosen None b x e C f g = g e
chosen (Some y) b x e C f g = f e

one_of : (a b : Bool) → (a || b) ≡ true → (C : Type 0) → (a ≡ true → C) → (b ≡ true → C) → C
one_of true b e C f g = f refl
one_of false b e C f g = g e

together : (r s t : State) → Apart r t → Apart s t → Apart (join r s) t
together r s t a b = record {
  names = λ name x y has at. chosen (map.get r.batches name) (map.get s.batches name) x (sym (get-union r.batches s.batches name) ∙ has) ⊥ (λ is. a.names name x y is at) (λ is. b.names name x y is at);
  first = λ name rows n has gone.
      let q : RowName = record { batch = name; ordinal = n } in
      set.contains-union row_names_total r.deleted s.deleted q
      ∙ chosen (map.get r.batches name) (map.get s.batches name) rows (sym (get-union r.batches s.batches name) ∙ has) ((set.contains r.deleted q || set.contains s.deleted q) ≡ true)
      (λ is. or_first (set.contains r.deleted q) (set.contains s.deleted q) (a.first name rows n is gone))
      (λ is. or_right (set.contains r.deleted q) (set.contains s.deleted q) (b.first name rows n is gone));
  second = λ name rows n has gone.
      let q : RowName = record { batch = name; ordinal = n } in
      one_of (set.contains r.deleted q) (set.contains s.deleted q) (sym (set.contains-union row_names_total r.deleted s.deleted q) ∙ gone) (set.contains t.deleted q ≡ true)
      (λ is. a.second name rows n has is) (λ is. b.second name rows n has is);
}

tree : (table : Table) (query : QueryShape) (shards : Shards) → AreApart shards → partial_answer_of table query (joined shards) ≡ combined table query shards
tree table query (One s) h = refl
tree table query (Two a b) h = partials table query (joined a) (joined b) h.2 ∙ (λ i. combine (tree table query a h.0 i) (tree table query b h.1 i))

pub laws : PartialAnswerLaws
laws = record {
  commutative = commutative;
  associative = associative;
  in_turn = in_turn;
  nothing = nothing;
  alone = alone;
  partials = partials;
  whole = whole;
  together = together;
  trees = λ table query shards h. sym (alone table query (joined shards)) ∙ ap (finish table query) (tree table query shards h);
}
