-- Rows are read line by line: those of the first line stand before those of the lines that follow, and its fault is the first one.
use Rattle.std.specs.Prelude.{◌≡◌, ◌⊎◌, ℕ, zero, suc, ◌<◌, Bool, true, false, cond, nat_lt, int_le, List, [], ◌∷◌, ◌++◌, length, set, slice_get, Option, Some, None, option_and_then, Result, Ok, Err, IfErr, ℤ}
use Rattle.std.specs.Bool.{passes}
use Rattle.std.specs.Int.Signed.{le_z_yes}
use Rattle.std.proofs.Common.{refl, sym, ap, ◌∙◌, arith, append_assoc, subst, inl, inr}
use Rattle.std.proofs.lemmas.Bool.{and_parts}
use Rattle.std.proofs.lemmas.Bool.Decides.{nat_tests}
use Rattle.table_model.specs.State.{Cells, Batch}
use Rattle.table_model.specs.Table.{ColumnShape, least_of, greatest_of, fits, Fits, IsRow, AreRows}
use Rattle.table_model.specs.declared.refusal.Refusal.{Refusal}
use Rattle.table_model.specs.declared.refusal.Refusal.TheVariants.{Memory}
use Rattle.csv_rows.specs.Line.{TextLine, line_limit}
use Rattle.csv_rows.specs.LineReading.{FirstTooLong}
use Rattle.csv_rows.specs.Field.{fields_of, cell_of, cell_in, fitting}
use Rattle.csv_rows.specs.DialectForm.{DialectForm}
use Rattle.csv_rows.specs.CsvText.{◌>>=◌, in_line, place_named, new_place, is_cut, may_name, is_passed, row_of, uncut_row, has_each, each_of, named_order, unless_row, cell_at, or_at, with_field, filled, null_row, line_rows, before_rows, rows_from, order_from, header_order, header_rows}
use Rattle.csv_rows.specs.Outcome.{ReadsCsv}
use Rattle.csv_rows.specs.Reading.{Counts}
use Rattle.csv_rows.specs.declared.error.CsvError.{CsvError}
use Rattle.csv_rows.specs.declared.error.CsvError.TheVariants.{BadCsv, LineTooLong, Refused}

pub before_both : (xs ys : Batch) (r : Result Batch CsvError) → before_rows xs (before_rows ys r) ≡ before_rows (xs ++ ys) r
before_both xs ys (Ok more) = ap Ok (sym (append_assoc xs ys more))
before_both xs ys (Err e) = refl

pub before_nothing : (r : Result Batch CsvError) → before_rows [] r ≡ r
before_nothing (Ok more) = refl
before_nothing (Err e) = refl

-- the rows of the first line
pub first_rows : (dialect : DialectForm) (columns : List ColumnShape) (order : List (Option ℕ)) (n : ℕ) (line : TextLine) (lines : List TextLine) (made : Batch) → line_rows dialect columns order n line ≡ Ok made
    → rows_from dialect columns order n (line ∷ lines) ≡ before_rows made (rows_from dialect columns order (suc n) lines)
first_rows dialect columns order n line lines made e = ap (λ (r : Result Batch CsvError). r >>= (λ rows. before_rows rows (rows_from dialect columns order (suc n) lines))) e

-- the fault of the first line
pub first_fault : (dialect : DialectForm) (columns : List ColumnShape) (order : List (Option ℕ)) (n : ℕ) (line : TextLine) (lines : List TextLine) (fault : CsvError) → line_rows dialect columns order n line ≡ Err fault → rows_from dialect columns order n (line ∷ lines) ≡ Err fault
first_fault dialect columns order n line lines fault e = ap (λ (r : Result Batch CsvError). r >>= (λ rows. before_rows rows (rows_from dialect columns order (suc n) lines))) e

long_line : (dialect : DialectForm) (columns : List ColumnShape) (order : List (Option ℕ)) (n : ℕ) (line : TextLine) → line_limit < length line.bytes → line_rows dialect columns order n line ≡ Err (LineTooLong n)
unfolding line_rows
long_line dialect columns order n line past =
    let test : nat_lt line_limit (length line.bytes) ≡ true = grind (arith, nat_tests) in
    ap (λ (t : Bool). cond t (Err (LineTooLong n)) (cond (is_passed order line.bytes) (Ok []) (in_line n (uncut_row dialect columns order line) >>= (λ row. Ok (row ∷ []))))) test

pub too_long : (dialect : DialectForm) (columns : List ColumnShape) (order : List (Option ℕ)) (n : ℕ) (lines : List TextLine) → FirstTooLong lines → rows_from dialect columns order n lines ≡ Err (LineTooLong n)
too_long dialect columns order n [] h = absurd h
too_long dialect columns order n (line ∷ lines) h = first_fault dialect columns order n line lines (LineTooLong n) (long_line dialect columns order n line h)

long_header : (dialect : DialectForm) (columns : List ColumnShape) (line : TextLine) → line_limit < length line.bytes → header_order dialect columns line ≡ Err (LineTooLong 1)
unfolding header_order
long_header dialect columns line past =
    let test : nat_lt line_limit (length line.bytes) ≡ true = grind (arith, nat_tests) in
    ap (λ (t : Bool). cond t (Err (LineTooLong 1)) (cond (may_name dialect columns line) (named_order dialect dialect.order columns line.bytes) (Err (BadCsv 1 0)))) test

pub header_too_long : (dialect : DialectForm) (columns : List ColumnShape) (lines : List TextLine) → FirstTooLong lines → header_rows dialect columns lines ≡ Err (LineTooLong 1)
header_too_long dialect columns [] h = absurd h
header_too_long dialect columns (line ∷ lines) h = ap (λ (r : Result (List (Option ℕ)) CsvError). r >>= (λ order. rows_from dialect columns order 2 lines)) (long_header dialect columns line h)

-- each cell that is put into a row is of its column's type
fits_is : (c : ColumnShape) (v : Option ℤ) → fits c v ≡ true → Fits c v
fits_is c None e = tt
fits_is c (Some z) e =
    let both = and_parts (int_le (least_of c.column_type) z) (int_le z (greatest_of c.column_type)) e in
    (le_z_yes (passes _ both.0), le_z_yes (passes _ both.1))

null_fits : (columns : List ColumnShape) → IsRow columns (null_row columns)
null_fits [] = tt
null_fits (c ∷ cs) = (tt, null_fits cs)

set_fits : (columns : List ColumnShape) (row : Cells) (place : ℕ) (column : ColumnShape) (v : Option ℤ) → slice_get columns place ≡ Some column → Fits column v → IsRow columns row → IsRow columns (set row place v)
set_fits [] row place column v at fit h = cc
set_fits (c ∷ cs) [] place column v at fit h = absurd h
set_fits (c ∷ cs) (x ∷ xs) zero column v at fit h = let same : c ≡ column = cc in (subst (λ (k : ColumnShape). Fits k v) (sym same) fit, h.1)
set_fits (c ∷ cs) (x ∷ xs) (suc place) column v at fit h = (h.0, set_fits cs xs place column v at fit h.1)

-- what a field is below a column is of its type
cell_fits : (dialect : DialectForm) (columns : List ColumnShape) (place : ℕ) (field : List ℕ) (v : Option ℤ) → cell_at dialect columns place field ≡ Some v → (column : ColumnShape) × (slice_get columns place ≡ Some column) × Fits column v
cell_fits dialect columns place field v e = at (slice_get columns place) refl e where
  below : (column : ColumnShape) (o : Option (Option ℤ)) → option_and_then (fitting column) o ≡ Some v → Fits column v
  below column None h = cc
  below column (Some cell) h = elim (fits column cell) as (λ t. fits column cell ≡ t → cond t (Some cell) None ≡ Some v → Fits column v) [
    | true ↦ λ fit g. let same : cell ≡ v = cc in subst (λ (x : Option ℤ). Fits column x) same (fits_is column cell fit)
    | false ↦ λ fit g. cc
  ] refl h

  at : (o : Option ColumnShape) → slice_get columns place ≡ o → option_and_then (λ column. cell_in dialect column field) o ≡ Some v → (column : ColumnShape) × (slice_get columns place ≡ Some column) × Fits column v
  at None is h = cc
  at (Some column) is h = (column, is, below column (cell_of dialect field) h)

field_fits : (dialect : DialectForm) (columns : List ColumnShape) (at : ℕ) (place : Option ℕ) (field : List ℕ) (row mid : Cells) → IsRow columns row → with_field dialect columns at place field row ≡ Ok mid → IsRow columns mid
field_fits dialect columns at None field row mid h e = let same : row ≡ mid = cc in subst (λ (r : Cells). IsRow columns r) same h
field_fits dialect columns at (Some place) field row mid h e = by (cell_at dialect columns place field) refl e where
  by : (o : Option (Option ℤ)) → cell_at dialect columns place field ≡ o → or_at at o >>= (λ cell. Ok (set row place cell)) ≡ Ok mid → IsRow columns mid
  by None is g = cc
  by (Some v) is g =
      let same : set row place v ≡ mid = cc in
      let fit = cell_fits dialect columns place field v is in
      subst (λ (r : Cells). IsRow columns r) same (set_fits columns row place fit.0 v fit.1 fit.2 h)

pub filled_fits : (dialect : DialectForm) (columns : List ColumnShape) (at : ℕ) (order : List (Option ℕ)) (fields : List (List ℕ)) (row row' : Cells) → IsRow columns row → filled dialect columns at order fields row ≡ Ok row' → IsRow columns row'
filled_fits dialect columns at [] fields row row' h e = let same : row ≡ row' = cc in subst (λ (r : Cells). IsRow columns r) same h
filled_fits dialect columns at (place ∷ order) [] row row' h e = let same : row ≡ row' = cc in subst (λ (r : Cells). IsRow columns r) same h
filled_fits dialect columns at (place ∷ order) (field ∷ fields) row row' h e =
    by (with_field dialect columns at place field row) (λ mid is g. filled_fits dialect columns (suc at) order fields mid row' (field_fits dialect columns at place field row mid h is) g) e
  where
    by : (r : Result Cells ℕ) → ((mid : Cells) → r ≡ Ok mid → filled dialect columns (suc at) order fields mid ≡ Ok row' → IsRow columns row')
        → r >>= filled dialect columns (suc at) order fields ≡ Ok row' → IsRow columns row'
    by (Err fault) goes g = cc
    by (Ok mid) goes g = goes mid refl g

-- a line's rows are rows of the table
pub line_fits : (dialect : DialectForm) (columns : List ColumnShape) (order : List (Option ℕ)) (n : ℕ) (line : TextLine) (made : Batch) → line_rows dialect columns order n line ≡ Ok made → AreRows columns made
unfolding line_rows
line_fits dialect columns order n line made e =
    elim (nat_lt line_limit (length line.bytes)) as (λ t. cond t (Err (LineTooLong n)) (cond (is_passed order line.bytes) (Ok []) (in_line n (uncut_row dialect columns order line) >>= (λ row. Ok (row ∷ [])))) ≡ Ok made → AreRows columns made) [
      | true ↦ λ h. cc
      | false ↦ λ h. elim (is_passed order line.bytes) as (λ t. cond t (Ok []) (in_line n (uncut_row dialect columns order line) >>= (λ row. Ok (row ∷ []))) ≡ Ok made → AreRows columns made) [
        | true ↦ λ g. let same : [] ≡ made = cc in subst (λ (rows : Batch). AreRows columns rows) same tt
        | false ↦ λ g. one (uncut_row dialect columns order line) refl g
      ] h
    ] e where
      row_fits : (t : Bool) (row : Cells) → cond t (filled dialect columns 1 order (fields_of dialect.separator line.bytes) (null_row columns)) (Err 0) ≡ Ok row → IsRow columns row
      row_fits true row h = filled_fits dialect columns 1 order (fields_of dialect.separator line.bytes) (null_row columns) row (null_fits columns) h
      row_fits false row h = cc

      uncut_fits : (cut : Bool) (row : Cells) → cond cut (Err 0) (row_of dialect columns order line.bytes) ≡ Ok row → IsRow columns row
      uncut_fits true row h = cc
      uncut_fits false row h = row_fits (has_each dialect (length order) line.bytes) row h

      one : (r : Result Cells ℕ) → uncut_row dialect columns order line ≡ r → in_line n r >>= (λ row. Ok (row ∷ [])) ≡ Ok made → AreRows columns made
      one (Err at) is g = cc
      one (Ok row) is g = let same : row ∷ [] ≡ made = cc in subst (λ (rows : Batch). AreRows columns rows) same (uncut_fits (is_cut dialect line) row is, tt)

pub fits_append : (columns : List ColumnShape) (xs ys : Batch) → AreRows columns xs → AreRows columns ys → AreRows columns (xs ++ ys)
fits_append columns [] ys h g = g
fits_append columns (x ∷ xs) ys h g = (h.0, fits_append columns xs ys h.1 g)

-- what was read behind rows keeps them rows of the table
pub behind_fits : (dialect : DialectForm) (columns : List ColumnShape) (order : List (Option ℕ)) (n : ℕ) (line : TextLine) (old new made : Batch) → line_rows dialect columns order n line ≡ Ok made → new ≡ old ++ made → AreRows columns old → AreRows columns new
behind_fits dialect columns order n line old new made e is h = subst (λ (rows : Batch). AreRows columns rows) (sym is) (fits_append columns old made h (line_fits dialect columns order n line made e))

-- one field more of a header
pub order_more : (columns : List ColumnShape) (at : ℕ) (named : List ℕ) (fields : List (List ℕ)) (field : List ℕ) (left : List (List ℕ)) (place : ℕ) → fields ≡ field ∷ left → new_place at named (place_named columns field) ≡ Ok place
    → order_from columns at named fields ≡ order_from columns (suc at) (named ++ (place ∷ [])) left
order_more columns at named fields field left place is ok =
    ap (order_from columns at named) is ∙ ap (λ (r : Result ℕ ℕ). r >>= (λ p. order_from columns (suc at) (named ++ (p ∷ [])) left)) ok

pub order_stop : (columns : List ColumnShape) (at : ℕ) (named : List ℕ) (fields : List (List ℕ)) (field : List ℕ) (left : List (List ℕ)) → fields ≡ field ∷ left → new_place at named (place_named columns field) ≡ Err at
    → order_from columns at named fields ≡ Err at
order_stop columns at named fields field left is fault =
    ap (order_from columns at named) is ∙ ap (λ (r : Result ℕ ℕ). r >>= (λ p. order_from columns (suc at) (named ++ (p ∷ [])) left)) fault

-- one field more of a row
pub filled_more : (dialect : DialectForm) (columns : List ColumnShape) (at : ℕ) (place : Option ℕ) (order : List (Option ℕ)) (fields : List (List ℕ)) (field : List ℕ) (left : List (List ℕ)) (row row' : Cells) → fields ≡ field ∷ left → with_field dialect columns at place field row ≡ Ok row'
    → filled dialect columns at (place ∷ order) fields row ≡ filled dialect columns (suc at) order left row'
filled_more dialect columns at place order fields field left row row' is some =
    ap (λ (fs : List (List ℕ)). filled dialect columns at (place ∷ order) fs row) is ∙ ap (λ (r : Result Cells ℕ). r >>= filled dialect columns (suc at) order left) some

pub filled_stop : (dialect : DialectForm) (columns : List ColumnShape) (at : ℕ) (place : Option ℕ) (order : List (Option ℕ)) (fields : List (List ℕ)) (field : List ℕ) (left : List (List ℕ)) (row : Cells) (fault : ℕ) → fields ≡ field ∷ left → with_field dialect columns at place field row ≡ Err fault
    → filled dialect columns at (place ∷ order) fields row ≡ Err fault
filled_stop dialect columns at place order fields field left row fault is none =
    ap (λ (fs : List (List ℕ)). filled dialect columns at (place ∷ order) fs row) is ∙ ap (λ (r : Result Cells ℕ). r >>= filled dialect columns (suc at) order left) none

-- no field is left, or no place
pub filled_all : (dialect : DialectForm) (columns : List ColumnShape) (at : ℕ) (order : List (Option ℕ)) (fields : List (List ℕ)) (row : Cells) → fields ≡ [] → filled dialect columns at order fields row ≡ Ok row
filled_all dialect columns at [] fields row none = refl
filled_all dialect columns at (place ∷ order) fields row none = ap (λ (fs : List (List ℕ)). filled dialect columns at (place ∷ order) fs row) none

-- a line's fault is of the text, never a refusal
no_refusal : (dialect : DialectForm) (columns : List ColumnShape) (order : List (Option ℕ)) (n : ℕ) (line : TextLine) (r : Refusal) → line_rows dialect columns order n line ≡ Err (Refused r) → ⊥
unfolding line_rows
no_refusal dialect columns order n line r e =
    elim (nat_lt line_limit (length line.bytes)) as (λ t. cond t (Err (LineTooLong n)) (cond (is_passed order line.bytes) (Ok []) (in_line n (uncut_row dialect columns order line) >>= (λ row. Ok (row ∷ [])))) ≡ Err (Refused r) → ⊥) [
      | true ↦ λ h. cc
      | false ↦ λ h. elim (is_passed order line.bytes) as (λ t. cond t (Ok []) (in_line n (uncut_row dialect columns order line) >>= (λ row. Ok (row ∷ []))) ≡ Err (Refused r) → ⊥) [
        | true ↦ λ g. cc
        | false ↦ λ g. one (uncut_row dialect columns order line) g
      ] h
    ] e where
      one : (row : Result Cells ℕ) → in_line n row >>= (λ row. Ok (row ∷ [])) ≡ Err (Refused r) → ⊥
      one (Ok row) g = cc
      one (Err at) g = cc

no_header_refusal : (dialect : DialectForm) (columns : List ColumnShape) (line : TextLine) (r : Refusal) → header_order dialect columns line ≡ Err (Refused r) → ⊥
unfolding header_order
no_header_refusal dialect columns line r e =
    elim (nat_lt line_limit (length line.bytes)) as (λ t. cond t (Err (LineTooLong 1)) (cond (may_name dialect columns line) (named_order dialect dialect.order columns line.bytes) (Err (BadCsv 1 0))) ≡ Err (Refused r) → ⊥) [
      | true ↦ λ h. cc
      | false ↦ λ h. elim (may_name dialect columns line) as (λ t. cond t (named_order dialect dialect.order columns line.bytes) (Err (BadCsv 1 0)) ≡ Err (Refused r) → ⊥) [
        | true ↦ λ g. one dialect.order g
        | false ↦ λ g. cc
      ] h
    ] e where
      named : (places : Result (List ℕ) ℕ) → in_line {X = List ℕ} 1 places >>= (λ places. Ok (each_of places)) ≡ Err (Refused r) → ⊥
      named (Ok places) g = cc
      named (Err at) g = cc

      given : (order : List (Option ℕ)) (row : Result Cells CsvError) → unless_row order row ≡ Err (Refused r) → ⊥
      given order (Ok row) g = cc
      given order (Err e) g = cc

      one : (order : Option (List (Option ℕ))) → named_order dialect order columns line.bytes ≡ Err (Refused r) → ⊥
      one None g = named (order_from columns 1 [] (fields_of dialect.separator line.bytes)) g
      one (Some order) g = given order (in_line 1 (row_of dialect columns order line.bytes)) g

-- the reader below didn't fail where a line is at fault, or memory lacked
pub counts_line : (many : Type 0) (dialect : DialectForm) (columns : List ColumnShape) (order : List (Option ℕ)) (n : ℕ) (line : TextLine) (e : CsvError) (before after : ℕ) → (line_rows dialect columns order n line ≡ Err e) ⊎ (e ≡ Refused Memory) → after ≡ before → Counts many e before after
counts_line many dialect columns order n line e before after (inr lack) same = subst (λ (fault : CsvError). Counts many fault before after) (sym lack) same
counts_line many dialect columns order n line (BadCsv l column) before after (inl fault) same = same
counts_line many dialect columns order n line (LineTooLong l) before after (inl fault) same = same
counts_line many dialect columns order n line (Refused r) before after (inl fault) same = absurd (no_refusal dialect columns order n line r fault)

pub counts_header : (many : Type 0) (dialect : DialectForm) (columns : List ColumnShape) (line : TextLine) (e : CsvError) (before after : ℕ) → (header_order dialect columns line ≡ Err e) ⊎ (e ≡ Refused Memory) → after ≡ before → Counts many e before after
counts_header many dialect columns line e before after (inr lack) same = subst (λ (fault : CsvError). Counts many fault before after) (sym lack) same
counts_header many dialect columns line (BadCsv l column) before after (inl fault) same = same
counts_header many dialect columns line (LineTooLong l) before after (inl fault) same = same
counts_header many dialect columns line (Refused r) before after (inl fault) same = absurd (no_header_refusal dialect columns line r fault)

pub header_counts : {X : Type 0} (view : X → List (Option ℕ)) (many : Type 0) (dialect : DialectForm) (columns : List ColumnShape) (line : TextLine) (r : Result X CsvError) (before after : ℕ) → ReadsCsv view r (header_order dialect columns line) → after ≡ before
    → IfErr r (λ e. Counts many e before after)
header_counts view many dialect columns line (Ok x) before after read same = tt
header_counts view many dialect columns line (Err e) before after read same = counts_header many dialect columns line e before after read same
