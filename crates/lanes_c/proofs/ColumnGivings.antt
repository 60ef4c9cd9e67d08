-- Columns that are written into rooms, and the words of a schema.
use Rattle.std.proofs.Common.{◌≡◌, ◌+◌, ◌*◌, ◌<◌, ℕ, ℤ, Bool, true, ◌&&◌, nat_le, cond, List, [], ◌∷◌, ◌++◌, map, length, take, drop, get_or, Option, Result, Ok, Err, inl, inr, refl, sym, ap, ◌∙◌, append-nil}
use Rattle.std.specs.List.{flat_map}
use Rattle.std.proofs.lemmas.Grind.{flat_map-append}
use Rattle.std.proofs.lemmas.List.{length-map, take_more}
use Rattle.table_model.specs.State.{State, Cells}
use Rattle.table_model.specs.Table.{ColumnShape, Table as Schema}
use Rattle.table_model.specs.declared.names.RowName.{RowName}
use Rattle.table_model.specs.declared.refusal.Refusal.TheVariants.{Memory}
use Rattle.live_columns.specs.Chosen.{IsChosen, columns_in, rows_in}
use Rattle.live_columns.specs.Choices.{ChoiceForm, choice_of}
use Rattle.live_columns.specs.Columns.{null_count, numbers_of, stride_of, validities}
use Rattle.live_columns.specs.declared.choice.Choice.{Choice}
use Rattle.live_columns.specs.declared.choice.Unchosen.{Unchosen}
use Rattle.live_columns.specs.declared.chosen.ChosenRows.{ChosenRows}
use Rattle.lanes_c.specs.ColumnCalls.{AsksTexts, ColumnRooms, ColumnsForm, IsGiven, IsPut, PutsColumns, ReadsChoice, RowsGiven, RowsWhere, TellsColumns, column_words, columns_of, columns_over, columns_where, form_of, have_room, number_of_rows, place_of_rows, rows_told, told_choice, with_columns}
use Rattle.lanes_c.specs.Faults.{told_of_choice}
use Rattle.lanes_c.specs.declared.fault.Fault.{Fault}
use Rattle.lanes_c.specs.declared.fault.Fault.TheVariants.{Refused}
use Rattle.lanes_c.specs.declared.fault.Place.{Place}

-- the words of one column more
pub words-more : (columns : List ColumnShape) (i : ℕ) (column : ColumnShape) → i < length columns → column ≡ get_or columns i column → flat_map column_words (take (i + 1) columns) ≡ flat_map column_words (take i columns) ++ column_words column
words-more columns i column inside is =
    ap (flat_map column_words) (take_more columns i column inside) ∙ flat_map-append column_words (take i columns) (get_or columns i column ∷ [])
    ∙ ap (λ l. flat_map column_words (take i columns) ++ l) (append-nil (column_words (get_or columns i column)))
    ∙ ap (λ (c : ColumnShape). flat_map column_words (take i columns) ++ column_words c) (sym is)

-- rooms with columns at their fronts
with-room : (form : ColumnsForm) (values values' : List ℤ) (valid valid' nulls nulls' : List ℕ) → have_room form (record { values = values; valid = valid; nulls = nulls }) ≡ true
    → values' ≡ numbers_of form.columns ++ drop (length form.columns * form.rows) values → valid' ≡ validities form.columns ++ drop (length form.columns * stride_of form.rows) valid → nulls' ≡ map null_count form.columns ++ drop (length form.columns) nulls
    → IsPut form values valid nulls values' valid' nulls'
with-room form values values' valid valid' nulls nulls' room p q r =
    let old : ColumnRooms = record { values = values; valid = valid; nulls = nulls } in
    let new : ColumnRooms = record {
      values = numbers_of form.columns ++ drop (length form.columns * form.rows) values;
      valid = validities form.columns ++ drop (length form.columns * stride_of form.rows) valid;
      nulls = map null_count form.columns ++ drop (length form.columns) nulls;
    } in
    let made : record { values = values'; valid = valid'; nulls = nulls' } ≡ new = λ i. record { values = p i; valid = q i; nulls = r i } in
    made ∙ ap (λ b. cond b new old) (sym room)

-- columns that were written where there is room for all
pub put-done : (rows : RowsWhere) (s r : State) (choice : ChoiceForm) (chosen : ChosenRows) (places : List ℕ) (fit : Bool) (columns numbers bytes counts : ℕ) (values values' : List ℤ) (valid valid' nulls nulls' : List ℕ)
    → r ≡ s → places ≡ choice.places → IsChosen s (rows choice.condition) chosen → columns ≡ length places → numbers ≡ length values → bytes ≡ length valid → counts ≡ length nulls
    → fit ≡ (nat_le (columns * chosen.count) numbers && (nat_le (columns * stride_of chosen.count) bytes && nat_le columns counts)) → fit ≡ true
    → values' ≡ numbers_of (columns_in places (rows_in r chosen.vectors.items)) ++ drop (length places * chosen.count) values
    → valid' ≡ validities (columns_in places (rows_in r chosen.vectors.items)) ++ drop (length places * stride_of chosen.count) valid
    → nulls' ≡ map null_count (columns_in places (rows_in r chosen.vectors.items)) ++ drop (length places) nulls
    → IsPut (columns_of rows choice) values valid nulls values' valid' nulls'
put-done rows s r choice chosen places fit columns numbers bytes counts values values' valid valid' nulls nulls' same is h width long wide many test fits p q n =
    let form : ColumnsForm = columns_of rows choice in
    let written : columns_in places (rows_in r chosen.vectors.items) ≡ form.columns =
    ap (λ (x : State). columns_in places (rows_in x chosen.vectors.items)) same ∙ ap (λ (l : List (RowName × Cells)). columns_in places l) h.are ∙ ap (λ (l : List ℕ). columns_in l (rows choice.condition)) is in
    let count : length places ≡ length form.columns = ap length is ∙ sym (length-map {B = List (Option ℤ)} choice.places _) in
    let whole : fit ≡ have_room form (record { values = values; valid = valid; nulls = nulls }) =
    test
    ∙ ap (λ k. nat_le (k * chosen.count) numbers && (nat_le (k * stride_of chosen.count) bytes && nat_le k counts)) (width ∙ count)
    ∙ ap (λ k. nat_le (length form.columns * k) numbers && (nat_le (length form.columns * stride_of k) bytes && nat_le (length form.columns) counts)) h.count
    ∙ ap (λ k. nat_le (length form.columns * form.rows) k && (nat_le (length form.columns * stride_of form.rows) bytes && nat_le (length form.columns) counts)) long
    ∙ ap (λ k. nat_le (length form.columns * form.rows) (length values) && (nat_le (length form.columns * stride_of form.rows) k && nat_le (length form.columns) counts)) wide
    ∙ ap (λ k. nat_le (length form.columns * form.rows) (length values) && (nat_le (length form.columns * stride_of form.rows) (length valid) && nat_le (length form.columns) k)) many in
    with-room form values values' valid valid' nulls nulls' (sym whole ∙ fits)
    (p ∙ ap (λ l. numbers_of l ++ drop (length places * chosen.count) values) written ∙ ap (λ k. numbers_of form.columns ++ drop (k * chosen.count) values) count ∙ ap (λ k. numbers_of form.columns ++ drop (length form.columns * k) values) h.count)
    (q ∙ ap (λ l. validities l ++ drop (length places * stride_of chosen.count) valid) written ∙ ap (λ k. validities form.columns ++ drop (k * stride_of chosen.count) valid) count ∙ ap (λ k. validities form.columns ++ drop (length form.columns * stride_of k) valid) h.count)
    (n ∙ ap (λ l. map null_count l ++ drop (length places) nulls) written ∙ ap (λ k. map null_count form.columns ++ drop k nulls) count)

-- ---- what is asked for
-- what holds of what was given for texts holds of what is made of it
pub asks-mapped : {X Y : Type 0} (M : Result X Fault → Type 0) (N : Result Y Fault → Type 0) (x : Result X Fault) (y : Result Y Fault) (names condition : List ℕ) → (M x → N y) → ((e : Fault) → x ≡ Err e → y ≡ Err e) → AsksTexts M x names condition → AsksTexts N y names condition
asks-mapped M N x y names condition means same h = ((λ n. ((λ k. means ((h.0 n).0 k)), (λ k. same _ ((h.0 n).1 k)))), (λ n. same _ (h.1 n)))

told-ok : (rows : RowsWhere) (m : Result ChoiceForm Unchosen) (choice : ChoiceForm) → told_choice m ≡ Ok choice → columns_where rows m ≡ Ok (columns_of rows choice)
told-ok rows (Ok c) choice e =
    let same : c ≡ choice = cc in
    let whole : ChoiceForm → Result ColumnsForm Fault = λ k. Ok (columns_of rows k) in
    ap whole same
told-ok rows (Err u) choice e = absurd cc

told-err : (rows : RowsWhere) (m : Result ChoiceForm Unchosen) (fault : Fault) → told_choice m ≡ Err fault → columns_where rows m ≡ Err fault
told-err rows (Ok c) fault e = absurd cc
told-err rows (Err u) fault e =
    let same : told_of_choice u ≡ fault = cc in
    let whole : Fault → Result ColumnsForm Fault = λ k. Err k in
    ap whole same

-- a choice that is refused
pub puts-refused : (names condition : List ℕ) (table : Schema) (rows : RowsWhere) (rooms : ColumnRooms) (fault : Fault) → ReadsChoice (Err fault) names condition table → PutsColumns (Err fault) names condition table rows rooms rooms
puts-refused names condition table rows rooms fault h = record {
  given = Err fault;
  meant = asks-mapped (IsGiven (told_choice (choice_of table 32 names condition))) (IsGiven (columns_over table rows names condition)) (Err fault) (Err fault) names condition means (λ e is. again e is) h;
  told = refl;
  rooms = refl;
}
  where
    means : IsGiven (told_choice (choice_of table 32 names condition)) (Err fault) → IsGiven (columns_over table rows names condition) (Err fault)
    means (inl is) = inl (told-err rows (choice_of table 32 names condition) fault is)
    means (inr lacks) = inr lacks

    again : (e : Fault) → ◌≡◌ {A = Result ChoiceForm Fault} (Err fault) (Err e) → ◌≡◌ {A = Result ColumnsForm Fault} (Err fault) (Err e)
    again e is =
        let same : fault ≡ e = cc in
        let whole : Fault → Result ColumnsForm Fault = λ k. Err k in
        ap whole same

-- memory lacks
pub puts-nothing : (names condition : List ℕ) (table : Schema) (rows : RowsWhere) (choice : Choice) (old new : ColumnRooms) → ReadsChoice (Ok choice) names condition table → new ≡ old → PutsColumns (Err (Refused Memory)) names condition table rows old new
puts-nothing names condition table rows choice old new h same = record {
  given = Err (Refused Memory);
  meant = asks-mapped (IsGiven (told_choice (choice_of table 32 names condition))) (IsGiven (columns_over table rows names condition)) (form_of (Ok choice)) (Err (Refused Memory)) names condition (λ _. inr refl) (λ e is. absurd (cc)) h;
  told = refl;
  rooms = same;
}

-- columns that are written
pub puts-columns : (names condition : List ℕ) (table : Schema) (rows : RowsWhere) (choice : Choice) (count : ℕ) (old new : ColumnRooms) → ReadsChoice (Ok choice) names condition table → count ≡ (columns_of rows (record { condition = choice.condition; places = choice.places.items })).rows →
    new ≡ with_columns (columns_of rows (record { condition = choice.condition; places = choice.places.items })) old → PutsColumns (Ok count) names condition table rows old new
puts-columns names condition table rows choice count old new h many put =
    let form : ChoiceForm = record { condition = choice.condition; places = choice.places.items } in
    let told : ℕ → RowsGiven = λ n. Ok n in
    record {
      given = Ok (columns_of rows form);
      meant = asks-mapped (IsGiven (told_choice (choice_of table 32 names condition))) (IsGiven (columns_over table rows names condition)) (Ok form) (Ok (columns_of rows form)) names condition (told-ok rows (choice_of table 32 names condition) form) (λ e is. absurd (cc)) h;
      told = ap told many;
      rooms = put;
    }

-- what was written is told
pub tells-put : (result : RowsGiven) (names condition : List ℕ) (table : Schema) (chosen : RowsWhere) (old new : ColumnRooms) (number rows : ℕ) (place : Place) → PutsColumns result names condition table chosen old new → number ≡ number_of_rows result → rows ≡ rows_told result → place ≡ place_of_rows result →
    TellsColumns (λ given. AsksTexts (IsGiven (columns_over table chosen names condition)) given names condition) number old new rows place
tells-put result names condition table chosen old new number rows place put n m p = record {
  given = put.given;
  meant = put.meant;
  number_is = n ∙ ap number_of_rows put.told;
  rooms = put.rooms;
  rows = m ∙ ap rows_told put.told;
  place = p ∙ ap place_of_rows put.told;
}
