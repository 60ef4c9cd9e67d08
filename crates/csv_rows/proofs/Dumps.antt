-- What is written of rows is read as these rows: names and numbers have no byte at which a text is cut, and a number reads as itself.
use Rattle.std.specs.Prelude.{◌≡◌, ℕ, zero, suc, ◌+◌, ◌*◌, ◌^◌, ◌<◌, ◌≤◌, Bool, true, false, cond, not, ◌&&◌, ◌==◌, ◌||◌, ◌%◌, nat_lt, nat_le, List, [], ◌∷◌, ◌++◌, map, length, replicate, set, slice_get, Option, Some, None, option_map, option_and_then, position, Result, Ok, Err, ℤ, pos, negsuc, neg_ℤ, ◌≤ℤ◌}
use Rattle.std.specs.Char.{is_ascii_digit, is_ascii_alphabetic}
use Rattle.std.specs.Fmt.{decimal}
use Rattle.std.specs.List.{list_all, list_any, position_or_len, range_with_len, flat_map}
use Rattle.std.specs.Str.Parse.{digits_value}
use Rattle.std.proofs.Common.{refl, sym, ap, ◌∙◌, arith, append_assoc}
use Rattle.std.proofs.lemmas.Bool.{and_parts}
use Rattle.std.proofs.lemmas.Bool.Decides.{nat_tests}
use Rattle.std.proofs.lemmas.Fmt.{decimal_by_steps, decimal_is_IsNumeral, length-decimal-le, decimal_nonempty}
use Rattle.std.proofs.lemmas.Int.{ints}
use Rattle.std.proofs.lemmas.List.{length-append, length_push, set_at}
use Rattle.table_model.specs.Answer.{joined}
use Rattle.table_model.specs.Identifier.{folded, is_word_byte, is_word, is_keyword, is_identifier, word_limit}
use Rattle.table_model.specs.State.{Cells, Batch}
use Rattle.table_model.specs.Table.{Table, ColumnShape, IsTable, least_of, greatest_of, has_name, are_distinct, name_of, asked_of, is_named, is_schema, folded_table, column_limit, fits, Fits, IsRow, AreRows}
use Rattle.table_model.specs.declared.refusal.Refusal.TheVariants.{BadSchema}
use Rattle.table_model.specs.declared.schema.ColType.{ColType}
use Rattle.table_model.specs.declared.schema.ColType.TheVariants.{TinyInt, SmallInt, Integer, BigInt}
use Rattle.table_model.proofs.SameTable.{itself_text}
use Rattle.csv_rows.specs.Line.{line_limit, before_last, text_or, ended, lines_between, lines_of, unmarked}
use Rattle.table_model.specs.Pieces.{pieces, onto_first, without}
use Rattle.table_model.specs.Numeral.{is_numeral, magnitude_of, value_digits, integer_of, signed_of}
use Rattle.csv_rows.specs.Field.{fields_of, unquoted, is_null_word, value_of, cell_of, fitting, cell_in}
use Rattle.csv_rows.specs.DialectForm.{usual}
use Rattle.csv_rows.specs.CsvText.{◌>>=◌, in_line, place_named, new_place, order_from, has_each, header_order, cell_at, or_at, each_of, own_order, named_order, filled, null_row, row_of, is_passed, line_rows, before_rows, rows_from, header_rows}
use Rattle.csv_rows.specs.Written.{cell_text, column_name, row_line, csv_text, WrittenRowsAreRead}
use Rattle.csv_rows.specs.declared.error.CsvError.{CsvError}
use Rattle.csv_rows.specs.declared.error.CsvError.TheVariants.{BadCsv, LineTooLong}
use Rattle.table_model.proofs.Passed.{true_from_T, both_of}
use Rattle.table_model.proofs.DigitFacts.{digit_is}
use Rattle.csv_rows.proofs.Pieces.{first_piece}
use Rattle.csv_rows.proofs.Ranges.{range_more}
use Rattle.csv_rows.proofs.RowFacts.{first_rows}

-- each byte is at least n
abbrev AllFrom : ℕ → List ℕ → Type 0
AllFrom n [] = Unit {0}
AllFrom n (c ∷ cs) = (n ≤ c) × AllFrom n cs

abbrev EachFrom : ℕ → List (List ℕ) → Type 0
EachFrom n [] = Unit {0}
EachFrom n (t ∷ ts) = AllFrom n t × EachFrom n ts

from_append : (n : ℕ) (xs ys : List ℕ) → AllFrom n xs → AllFrom n ys → AllFrom n (xs ++ ys)
from_append n [] ys h g = g
from_append n (x ∷ xs) ys h g = (h.0, from_append n xs ys h.1 g)

from_less : (m n : ℕ) (xs : List ℕ) → m ≤ n → AllFrom n xs → AllFrom m xs
from_less m n [] less h = tt
from_less m n (x ∷ xs) less h = (omega (arith, h.0), from_less m n xs less h.1)

other : (c x : ℕ) → suc c ≤ x → (x == c) ≡ false
other c x h = grind (arith, nat_tests)

other_number : (n : ℕ) → 1 ≤ n → (n == 0) ≡ false
other_number n h = grind (arith, nat_tests)

itself : (c : ℕ) → (c == c) ≡ true
itself c = grind (arith, nat_tests)

-- a text without the separator, before one
pieces_end : (c : ℕ) (xs more : List ℕ) → AllFrom (suc c) xs → pieces c (xs ++ (c ∷ more)) ≡ xs ∷ pieces c more
pieces_end c [] more h = ap (λ (t : Bool). cond t ([] ∷ pieces c more) (onto_first c (pieces c more))) (itself c)
pieces_end c (x ∷ xs) more h = ap (λ (t : Bool). cond t ([] ∷ pieces c (xs ++ (c ∷ more))) (onto_first x (pieces c (xs ++ (c ∷ more))))) (other c x h.0) ∙ ap (onto_first x) (pieces_end c xs more h.1)

pieces_only : (c : ℕ) (xs : List ℕ) → AllFrom (suc c) xs → pieces c xs ≡ xs ∷ []
pieces_only c [] h = refl
pieces_only c (x ∷ xs) h = ap (λ (t : Bool). cond t ([] ∷ pieces c xs) (onto_first x (pieces c xs))) (other c x h.0) ∙ ap (onto_first x) (pieces_only c xs h.1)

-- the fields of texts that are joined
fields_joined : (t : List ℕ) (ts : List (List ℕ)) → EachFrom 45 (t ∷ ts) → fields_of 44 (joined (t ∷ ts)) ≡ t ∷ ts
fields_joined t [] h = pieces_only 44 t h.0
fields_joined t (u ∷ us) h = pieces_end 44 t (joined (u ∷ us)) h.0 ∙ ap (λ (ps : List (List ℕ)). t ∷ ps) (fields_joined u us h.1)

joined_from : (ts : List (List ℕ)) → EachFrom 45 ts → AllFrom 44 (joined ts)
joined_from [] h = tt
joined_from (t ∷ []) h = from_less 44 45 t (omega arith) h.0
joined_from (t ∷ u ∷ us) h = from_append 44 t (44 ∷ joined (u ∷ us)) (from_less 44 45 t (omega arith) h.0) (omega arith, joined_from (u ∷ us) h.1)

no_last : (c : ℕ) (xs : List ℕ) → AllFrom (suc c) xs → before_last c xs ≡ None
no_last c [] h = refl
no_last c (x ∷ []) h = ap (λ (t : Bool). cond t (Some []) None) (other c x h.0)
no_last c (x ∷ y ∷ ys) h = ap (option_map (λ (text : List ℕ). x ∷ text)) (no_last c (y ∷ ys) h.1)

-- the first line of a text that begins with one
line_first : (line more : List ℕ) → AllFrom 44 line → lines_of ((line ++ (10 ∷ [])) ++ more) ≡ ended line ∷ lines_of more
line_first line more h =
    let next = first_piece 10 more in
    ap lines_of (append_assoc line (10 ∷ []) more)
    ∙ ap lines_between (pieces_end 10 line more (from_less 11 44 line (omega arith) h))
    ∙ ap (λ (ps : List (List ℕ)). lines_between (line ∷ ps)) next.2
    ∙ ap (λ (o : Option (List ℕ)). ended (text_or o line) ∷ lines_between (next.0 ∷ next.1)) (no_last 13 line (from_less 14 44 line (omega arith) h))
    ∙ ap (λ (ps : List (List ℕ)). ended line ∷ lines_between ps) (sym next.2)

-- ---- numbers

abbrev Digits : ℕ → List ℕ → Type 0
Digits n ds = (list_all is_ascii_digit ds ≡ true) × AllFrom 48 ds

digit : (d : ℕ) → d < 10 → is_ascii_digit (48 + d) ≡ true
digit d h = grind (arith, nat_tests)

all_push : (ds : List ℕ) (c : ℕ) → list_all is_ascii_digit ds ≡ true → is_ascii_digit c ≡ true → list_all is_ascii_digit (ds ++ (c ∷ [])) ≡ true
all_push [] c all one = ap (λ (t : Bool). t && true) one
all_push (d ∷ ds) c all one =
    let both = and_parts (is_ascii_digit d) (list_all is_ascii_digit ds) all in
    ap (λ (t : Bool). t && list_all is_ascii_digit (ds ++ (c ∷ []))) both.0 ∙ all_push ds c both.1 one

less_ten : (n : ℕ) → n % 10 < 10
less_ten n = omega arith

are_digits : (n : ℕ) → n < 2 ^ 64 → Digits n (decimal n)
are_digits n small = decimal_by_steps Digits (λ k h. (ap (λ (t : Bool). t && true) (digit k h), (omega arith, tt)))
    (λ k ds h p. (all_push ds (48 + k % 10) p.0 (digit (k % 10) (less_ten k)), from_append 48 ds ((48 + k % 10) ∷ []) p.1 (omega arith, tt))) n small

-- a number reads as itself
numeral : (n : ℕ) → n < 2 ^ 64 → magnitude_of (decimal n) ≡ Some n
unfolding magnitude_of is_numeral
numeral n small =
    let digits = are_digits n small in
    let reads = decimal_is_IsNumeral n small in
    let some : nat_le 1 (length (decimal n)) ≡ true = let h = decimal_nonempty n small in grind (arith, nat_tests) in
    let few : nat_le (length (decimal n)) value_digits ≡ true = let h = length-decimal-le 20 n (omega arith) (omega (arith, small)) small in grind (arith, nat_tests) in
    (λ i. cond (some i && (few i && digits.0 i)) (Some (digits_value 10 (decimal n))) None) ∙ ap Some reads.1

-- a value of a column is below 2^63 in magnitude, or is the least
small_pos : (t : ColType) (n : ℕ) → pos n ≤ℤ greatest_of t → n < 2 ^ 64
small_pos TinyInt n h = omega (arith, ints)
small_pos SmallInt n h = omega (arith, ints)
small_pos Integer n h = omega (arith, ints)
small_pos BigInt n h = omega (arith, ints)

small_neg : (t : ColType) (n : ℕ) → least_of t ≤ℤ negsuc n → suc n < 2 ^ 64
small_neg TinyInt n h = omega (arith, ints)
small_neg SmallInt n h = omega (arith, ints)
small_neg Integer n h = omega (arith, ints)
small_neg BigInt n h = omega (arith, ints)

-- a text whose first byte is a digit is no null's word, and has no quotes and no sign
no_word : (c : ℕ) (cs : List ℕ) → 48 ≤ c → c ≤ 57 → is_null_word usual (c ∷ cs) ≡ false
unfolding is_null_word
no_word c cs low high =
    let n : (c == 78) ≡ false = grind (arith, nat_tests) in
    let b : (c == 92) ≡ false = grind (arith, nat_tests) in cc

not_quoted : (c : ℕ) (cs : List ℕ) → 35 ≤ c → unquoted (c ∷ cs) ≡ c ∷ cs
not_quoted c cs h = ap (λ (t : Bool). text_or (option_and_then (before_last 34) (cond t (Some cs) None)) (c ∷ cs)) (other 34 c h)

no_word_minus : (ds : List ℕ) → is_null_word usual (45 ∷ ds) ≡ false
unfolding is_null_word
no_word_minus ds = refl

cell_digits : (n : ℕ) (ds : List ℕ) → list_all is_ascii_digit ds ≡ true → 0 < length ds → magnitude_of ds ≡ Some n → cell_of usual ds ≡ Some (Some (pos n))
cell_digits n [] all some is = absurd (omega arith)
cell_digits n (c ∷ cs) all some is =
    let first = digit_is c (and_parts (is_ascii_digit c) (list_all is_ascii_digit cs) all).0 in
    ap (value_of usual) (not_quoted c cs (omega (arith, first.0)))
    ∙ ap (λ (t : Bool). cond t (Some None) (option_map Some (integer_of (c ∷ cs)))) (no_word c cs first.0 first.1)
    ∙ ap (λ (t : Bool). option_map Some (signed_of (c ∷ cs) (cond t (Some cs) None))) (other 45 c (omega (arith, first.0)))
    ∙ ap (λ (o : Option ℕ). option_map Some (option_map pos o)) is

cell_minus : (n : ℕ) (ds : List ℕ) → magnitude_of ds ≡ Some (suc n) → cell_of usual (45 ∷ ds) ≡ Some (Some (negsuc n))
cell_minus n ds is =
    ap (value_of usual) (not_quoted 45 ds (omega arith))
    ∙ ap (λ (t : Bool). cond t (Some None) (option_map Some (integer_of (45 ∷ ds)))) (no_word_minus ds)
    ∙ ap (λ (o : Option ℕ). option_map Some (option_map (λ k. neg_ℤ (pos k)) o)) is

-- the text of a cell has no byte at which a text is cut, is short, and reads as the cell
record Spelled (column : ColumnShape) (v : Option ℤ) : Type 0 where
  bytes : AllFrom 45 (cell_text v)
  short : length (cell_text v) ≤ 64
  reads : cell_in usual column (cell_text v) ≡ Some v

fits_true : (c : ColumnShape) (v : Option ℤ) → Fits c v → fits c v ≡ true
fits_true c None h = refl
fits_true c (Some z) h = true_from_T _ (both_of _ _ h.0.le h.1.le)

fitting_is : (column : ColumnShape) (v : Option ℤ) → Fits column v → cell_of usual (cell_text v) ≡ Some v → cell_in usual column (cell_text v) ≡ Some v
fitting_is column v h is = ap (option_and_then (fitting column)) is ∙ ap (λ (t : Bool). cond t (Some v) None) (fits_true column v h)

spelled : (column : ColumnShape) (v : Option ℤ) → Fits column v → Spelled column v
spelled column None h = record { bytes = tt; short = omega arith; reads = refl }
spelled column (Some (pos n)) h =
    let small = small_pos column.column_type n h.1 in
    let digits = are_digits n small in record {
      bytes = from_less 45 48 (decimal n) (omega arith) digits.1;
      short = (let few = length-decimal-le 20 n (omega arith) (omega (arith, small)) small in omega (arith, few));
      reads = fitting_is column (Some (pos n)) h (cell_digits n (decimal n) digits.0 (decimal_nonempty n small) (numeral n small));
    }
spelled column (Some (negsuc n)) h =
    let small = small_neg column.column_type n h.0 in
    let digits = are_digits (suc n) small in record {
      bytes = (omega arith, from_less 45 48 (decimal (suc n)) (omega arith) digits.1);
      short = (let few = length-decimal-le 20 (suc n) (omega arith) (omega (arith, small)) small in omega (arith, few));
      reads = fitting_is column (Some (negsuc n)) h (cell_minus n (decimal (suc n)) (numeral (suc n) small));
    }

-- ---- rows

cells_from : (columns : List ColumnShape) (row : Cells) → IsRow columns row → EachFrom 45 (map cell_text row)
cells_from [] [] h = tt
cells_from [] (v ∷ vs) h = absurd h
cells_from (c ∷ cs) [] h = absurd h
cells_from (c ∷ cs) (v ∷ vs) h = ((spelled c v h.0).bytes, cells_from cs vs h.1)

abbrev EachShort : List (List ℕ) → Type 0
EachShort [] = Unit {0}
EachShort (t ∷ ts) = (length t ≤ 64) × EachShort ts

cells_short : (columns : List ColumnShape) (row : Cells) → IsRow columns row → EachShort (map cell_text row)
cells_short [] [] h = tt
cells_short [] (v ∷ vs) h = absurd h
cells_short (c ∷ cs) [] h = absurd h
cells_short (c ∷ cs) (v ∷ vs) h = ((spelled c v h.0).short, cells_short cs vs h.1)

joined_short : (ts : List (List ℕ)) → EachShort ts → length (joined ts) ≤ 65 * length ts
joined_short [] h = omega arith
joined_short (t ∷ []) h = omega (arith, h.0)
joined_short (t ∷ u ∷ us) h = omega (arith, h.0, joined_short (u ∷ us) h.1, length-append t (44 ∷ joined (u ∷ us)))

row_len : (columns : List ColumnShape) (row : Cells) → IsRow columns row → length row ≡ length columns
row_len [] [] h = refl
row_len [] (v ∷ vs) h = absurd h
row_len (c ∷ cs) [] h = absurd h
row_len (c ∷ cs) (v ∷ vs) h = ap suc (row_len cs vs h.1)

at_front : (front : List ColumnShape) (c : ColumnShape) (cs : List ColumnShape) → slice_get (front ++ (c ∷ cs)) (length front) ≡ Some c
at_front [] c cs = refl
at_front (f ∷ fs) c cs = at_front fs c cs

-- the schema has one field for each column
own_len : (first n : ℕ) → length (each_of (range_with_len first n)) ≡ n
own_len first zero = refl
own_len first (suc n) = ap suc (own_len (first + 1) n)

-- the cells are put one behind another
fills : (front columns : List ColumnShape) (done row : Cells) (at : ℕ) → length done ≡ length front → IsRow columns row
    → filled usual (front ++ columns) at (each_of (range_with_len (length front) (length columns))) (map cell_text row) (done ++ replicate (length columns) None) ≡ Ok (done ++ row)
fills front [] done [] at same h = refl
fills front [] done (v ∷ vs) at same h = absurd h
fills front (c ∷ cs) done [] at same h = absurd h
fills front (c ∷ cs) done (v ∷ vs) at same h =
    let here : cell_at usual (front ++ (c ∷ cs)) (length front) (cell_text v) ≡ Some v = ap (λ (o : Option ColumnShape). option_and_then (λ column. cell_in usual column (cell_text v)) o) (at_front front c cs) ∙ (spelled c v h.0).reads in
    let put : set (done ++ (None ∷ replicate (length cs) None)) (length front) v ≡ (done ++ (v ∷ [])) ++ replicate (length cs) None = set_at done None (replicate (length cs) None) v (length front) same ∙ sym (append_assoc done (v ∷ []) (replicate (length cs) None)) in
    let longer : length (front ++ (c ∷ [])) ≡ length front + 1 = length_push front c in
    let step = fills (front ++ (c ∷ [])) cs (done ++ (v ∷ [])) vs (suc at) (length_push done v ∙ ap (λ (n : ℕ). n + 1) same ∙ sym longer) h.1 in
    ap (λ (o : Option (Option ℤ)). or_at at o >>= (λ cell. Ok (set (done ++ (None ∷ replicate (length cs) None)) (length front) cell)) >>= filled usual (front ++ (c ∷ cs)) (suc at) (each_of (range_with_len (length front + 1) (length cs))) (map cell_text vs)) here
    ∙ ap (λ (row : Cells). filled usual (front ++ (c ∷ cs)) (suc at) (each_of (range_with_len (length front + 1) (length cs))) (map cell_text vs) row) put
    ∙ (λ i. filled usual (sym (append_assoc front (c ∷ []) cs) i) (suc at) (each_of (range_with_len (sym longer i) (length cs))) (map cell_text vs) ((done ++ (v ∷ [])) ++ replicate (length cs) None))
    ∙ step
    ∙ ap Ok (append_assoc done (v ∷ []) vs)

not_empty : (columns : List ColumnShape) (row : Cells) → 1 ≤ length columns → IsRow columns row → ((length (joined (map cell_text row)) == 0) && not (length columns == 1)) ≡ false
not_empty [] row some h = absurd (omega arith)
not_empty (c ∷ []) row some h = by (length (joined (map cell_text row)) == 0) where
  by : (t : Bool) → (t && false) ≡ false
  by true = refl
  by false = refl
not_empty (c ∷ d ∷ cs) [] some h = absurd h
not_empty (c ∷ d ∷ cs) (v ∷ []) some h = absurd h.1
not_empty (c ∷ d ∷ cs) (v ∷ w ∷ vs) some h =
    let rest : List ℕ = joined (cell_text w ∷ map cell_text vs) in
    let long : length (cell_text v ++ (44 ∷ rest)) ≡ length (cell_text v) + suc (length rest) = length-append (cell_text v) (44 ∷ rest) in
    let test : (length (cell_text v ++ (44 ∷ rest)) == 0) ≡ false = other_number (length (cell_text v ++ (44 ∷ rest))) (omega (arith, long)) in
    ap (λ (t : Bool). t && not (length (c ∷ d ∷ cs) == 1)) test

not_passed : (columns : List ColumnShape) (row : Cells) → 1 ≤ length columns → IsRow columns row → is_passed (own_order columns) (joined (map cell_text row)) ≡ false
not_passed columns row some h = ap (λ (n : ℕ). (length (joined (map cell_text row)) == 0) && not (n == 1)) (own_len 0 (length columns)) ∙ not_empty columns row some h

length-cells : (row : Cells) → length (map cell_text row) ≡ length row
length-cells [] = refl
length-cells (v ∷ vs) = ap suc (length-cells vs)

fields_row : (columns : List ColumnShape) (row : Cells) → 1 ≤ length columns → IsRow columns row → fields_of 44 (joined (map cell_text row)) ≡ map cell_text row
fields_row [] row some h = absurd (omega arith)
fields_row (c ∷ cs) [] some h = absurd h
fields_row (c ∷ cs) (v ∷ vs) some h = fields_joined (cell_text v) (map cell_text vs) (cells_from (c ∷ cs) (v ∷ vs) h)

-- the line of a row makes the row
row_line_rows : (columns : List ColumnShape) (row : Cells) (n : ℕ) → 1 ≤ length columns → length columns ≤ column_limit → IsRow columns row
    → line_rows usual columns (own_order columns) n (ended (joined (map cell_text row))) ≡ Ok (row ∷ [])
unfolding line_rows
row_line_rows columns row n some few h =
    let line : List ℕ = joined (map cell_text row) in
    let order : List (Option ℕ) = own_order columns in
    let fields = fields_row columns row some h in
    let lengths : length (map cell_text row) ≡ length columns = length-cells row ∙ row_len columns row h in
    let short : nat_lt line_limit (length line) ≡ false = let most = joined_short (map cell_text row) (cells_short columns row h) in grind (arith, nat_tests) in
    let each : has_each usual (length order) line ≡ true = ap (λ (k : ℕ). k == length order) (ap (λ (fs : List (List ℕ)). length fs) fields ∙ lengths ∙ sym (own_len 0 (length columns))) ∙ itself (length order) in
    let read : row_of usual columns order line ≡ Ok row =
    ap (λ (t : Bool). cond t (filled usual columns 1 order (fields_of 44 line) (null_row columns)) (Err 0)) each
    ∙ ap (λ (fs : List (List ℕ)). filled usual columns 1 order fs (null_row columns)) fields
    ∙ fills [] columns [] row 1 refl h
    in
    ap (λ (t : Bool). cond t (Err (LineTooLong n)) (cond (is_passed order line) (Ok []) (in_line n (row_of usual columns order line) >>= (λ r. Ok (r ∷ []))))) short
    ∙ ap (λ (t : Bool). cond t (Ok []) (in_line n (row_of usual columns order line) >>= (λ r. Ok (r ∷ [])))) (not_passed columns row some h)
    ∙ ap (λ (r : Result Cells ℕ). in_line n r >>= (λ row. Ok (row ∷ []))) read

rows_lines : (columns : List ColumnShape) (rows : Batch) (n : ℕ) → 1 ≤ length columns → length columns ≤ column_limit → AreRows columns rows
    → rows_from usual columns (own_order columns) n (lines_of (flat_map row_line rows)) ≡ Ok rows
rows_lines columns [] n some few h = refl
rows_lines columns (row ∷ rows) n some few h =
    let order : List (Option ℕ) = own_order columns in
    let line : List ℕ = joined (map cell_text row) in
    ap (rows_from usual columns order n) (line_first line (flat_map row_line rows) (joined_from (map cell_text row) (cells_from columns row h.0)))
    ∙ first_rows usual columns order n (ended line) (lines_of (flat_map row_line rows)) (row ∷ []) (row_line_rows columns row n some few h.0)
    ∙ ap (before_rows (row ∷ [])) (rows_lines columns rows (suc n) some few h.1)

-- ---- the header

abbrev names : List ColumnShape → List (List ℕ)
names columns = map name_of (map asked_of columns)

abbrev AreNamed : List ColumnShape → Type 0
AreNamed [] = Unit {0}
AreNamed (c ∷ cs) = (is_identifier c.name ≡ true) × AreNamed cs

are_named : (columns : List ColumnShape) → list_all is_named (map asked_of columns) ≡ true → AreNamed columns
are_named [] e = tt
are_named (c ∷ cs) e = let both = and_parts (is_identifier c.name) (list_all is_named (map asked_of cs)) e in (both.0, are_named cs both.1)

letter : (c : ℕ) → is_ascii_alphabetic c ≡ true → (65 ≤ c) × (c ≤ 122)
letter c e = (grind (arith, nat_tests), grind (arith, nat_tests))

word_byte : (c : ℕ) → is_word_byte c ≡ true → 45 ≤ c
word_byte c e = grind (arith, nat_tests)

word_bytes : (cs : List ℕ) → list_all is_word_byte cs ≡ true → AllFrom 45 cs
word_bytes [] e = tt
word_bytes (c ∷ cs) e = let both = and_parts (is_word_byte c) (list_all is_word_byte cs) e in (word_byte c both.0, word_bytes cs both.1)

record NameFacts (name : List ℕ) : Type 0 where
  bytes : AllFrom 45 name
  short : length name ≤ 64
  some : 1 ≤ length name
  plain : unquoted name ≡ name
  unmarked : (more : List ℕ) → unmarked (name ++ more) ≡ name ++ more

name_facts : (name : List ℕ) → is_identifier name ≡ true → NameFacts name
name_facts [] e = cc
name_facts (c ∷ cs) e =
    let word = (and_parts (is_word (c ∷ cs)) (not (is_keyword (c ∷ cs))) e).0 in
    let first = and_parts (is_ascii_alphabetic c) (list_all is_word_byte cs && nat_lt (length cs) word_limit) word in
    let rest = and_parts (list_all is_word_byte cs) (nat_lt (length cs) word_limit) first.1 in
    let byte = letter c first.0 in
    let no_mark : (c == 239) ≡ false = grind (arith, nat_tests) in
    record {
      bytes = (omega (arith, byte.0), word_bytes cs rest.0);
      short = grind (arith, nat_tests);
      some = omega arith;
      plain = not_quoted c cs (omega (arith, byte.0));
      unmarked = λ more. ap (λ (t : Bool). text_or (option_and_then (without 191) (option_and_then (without 187) (cond t (Some (cs ++ more)) None))) (c ∷ (cs ++ more))) no_mark;
    }

names_from : (columns : List ColumnShape) → AreNamed columns → EachFrom 45 (map column_name columns)
names_from [] h = tt
names_from (c ∷ cs) h = ((name_facts c.name h.0).bytes, names_from cs h.1)

names_short : (columns : List ColumnShape) → AreNamed columns → EachShort (map column_name columns)
names_short [] h = tt
names_short (c ∷ cs) h = ((name_facts c.name h.0).short, names_short cs h.1)

-- no column of the first list has the name of one of the second
abbrev Apart : List ColumnShape → List ColumnShape → Type 0
Apart [] rest = Unit {0}
Apart (c ∷ cs) rest = (list_any (has_name c.name) (names rest) ≡ false) × Apart cs rest

none_of : (t u : Bool) → (t || u) ≡ false → (t ≡ false) × (u ≡ false)
none_of true u e = cc
none_of false u e = (refl, e)

apart_less : (front : List ColumnShape) (d : ColumnShape) (ds : List ColumnShape) → Apart front (d ∷ ds) → Apart front ds
apart_less [] d ds h = tt
apart_less (c ∷ cs) d ds h = ((none_of (has_name c.name d.name) (list_any (has_name c.name) (names ds)) h.0).1, apart_less cs d ds h.1)

apart_push : (front : List ColumnShape) (d : ColumnShape) (ds : List ColumnShape) → Apart front (d ∷ ds) → list_any (has_name d.name) (names ds) ≡ false → Apart (front ++ (d ∷ [])) ds
apart_push [] d ds h new = (new, tt)
apart_push (c ∷ cs) d ds h new = ((none_of (has_name c.name d.name) (list_any (has_name c.name) (names ds)) h.0).1, apart_push cs d ds h.1 new)

found_at : (front : List ColumnShape) (d : ColumnShape) (ds : List ColumnShape) → Apart front (d ∷ ds) → position_or_len (λ (column : ColumnShape). has_name column.name d.name) (front ++ (d ∷ ds)) ≡ length front
found_at [] d ds h = ap (λ (t : Bool). cond (not t) (1 + position_or_len (λ (column : ColumnShape). has_name column.name d.name) ds) 0) (itself_text (folded d.name))
found_at (c ∷ cs) d ds h =
    let one : 1 + length cs ≡ length (c ∷ cs) = omega arith in
    ap (λ (t : Bool). cond (not t) (1 + position_or_len (λ (column : ColumnShape). has_name column.name d.name) (cs ++ (d ∷ ds))) 0) (none_of (has_name c.name d.name) (list_any (has_name c.name) (names ds)) h.0).0
    ∙ ap (λ (n : ℕ). 1 + n) (found_at cs d ds h.1)
    ∙ one

place_is : (front : List ColumnShape) (d : ColumnShape) (ds : List ColumnShape) → Apart front (d ∷ ds) → unquoted d.name ≡ d.name → place_named (front ++ (d ∷ ds)) d.name ≡ Some (length front)
place_is front d ds h plain =
    let columns : List ColumnShape = front ++ (d ∷ ds) in
    let within : nat_lt (length front) (length columns) ≡ true = let lengths = length-append front (d ∷ ds) in grind (arith, nat_tests) in
    ap (λ (name : List ℕ). position (λ (column : ColumnShape). has_name column.name name) columns) plain
    ∙ ap (λ (n : ℕ). cond (nat_lt n (length columns)) (Some n) None) (found_at front d ds h)
    ∙ ap (λ (t : Bool). cond t (Some (length front)) None) within

not_yet : (a m k : ℕ) → a + m ≤ k → list_any (λ p. p == k) (range_with_len a m) ≡ false
not_yet a zero k h = refl
not_yet a (suc m) k h =
    let apart : (a == k) ≡ false = grind (arith, nat_tests) in
    ap (λ (t : Bool). t || list_any (λ p. p == k) (range_with_len (a + 1) m)) apart ∙ not_yet (a + 1) m k (omega arith)

-- the columns are named in their own order
orders : (front rest : List ColumnShape) (at : ℕ) → AreNamed rest → Apart front rest → are_distinct (names rest) ≡ true
    → order_from (front ++ rest) at (range_with_len 0 (length front)) (map column_name rest) ≡ Ok (range_with_len 0 (length front + length rest))
orders front [] at named apart distinct = let same : length front + 0 ≡ length front = omega arith in ap (λ (n : ℕ). Ok (range_with_len 0 n)) (sym same)
orders front (d ∷ ds) at named apart distinct =
    let columns : List ColumnShape = front ++ (d ∷ ds) in
    let k : ℕ = length front in
    let none : k ≡ 0 + k = omega arith in
    let own = and_parts (not (list_any (has_name d.name) (names ds))) (are_distinct (names ds)) distinct in
    let new : list_any (has_name d.name) (names ds) ≡ false = not_true (list_any (has_name d.name) (names ds)) own.0 in
    let place = place_is front d ds apart (name_facts d.name named.0).plain in
    let longer : length (front ++ (d ∷ [])) ≡ k + 1 = length_push front d in
    let more : length (front ++ (d ∷ [])) + length ds ≡ k + suc (length ds) = omega (arith, longer) in
    let step = orders (front ++ (d ∷ [])) ds (suc at) named.1 (apart_push front d ds apart new) own.1 in
    ap (λ (o : Option ℕ). new_place at (range_with_len 0 k) o >>= (λ place. order_from columns (suc at) (range_with_len 0 k ++ (place ∷ [])) (map column_name ds))) place
    ∙ ap (λ (t : Bool). cond t (Err at) (Ok k) >>= (λ place. order_from columns (suc at) (range_with_len 0 k ++ (place ∷ [])) (map column_name ds))) (not_yet 0 k k (omega arith))
    ∙ ap (λ (n : ℕ). order_from columns (suc at) (range_with_len 0 k ++ (n ∷ [])) (map column_name ds)) none
    ∙ ap (λ (ns : List ℕ). order_from columns (suc at) ns (map column_name ds)) (range_more 0 k)
    ∙ (λ i. order_from (sym (append_assoc front (d ∷ []) ds) i) (suc at) (range_with_len 0 (sym longer i)) (map column_name ds))
    ∙ step
    ∙ ap (λ (n : ℕ). Ok (range_with_len 0 n)) more
  where
    not_true : (t : Bool) → not t ≡ true → t ≡ false
    not_true true e = cc
    not_true false e = refl

length-names : (columns : List ColumnShape) → length (map column_name columns) ≡ length columns
length-names [] = refl
length-names (c ∷ cs) = ap suc (length-names cs)

joined_some : (t : List ℕ) (ts : List (List ℕ)) → 1 ≤ length t → 1 ≤ length (joined (t ∷ ts))
joined_some t [] h = h
joined_some t (u ∷ us) h = omega (arith, h, length-append t (44 ∷ joined (u ∷ us)))

header_is : (columns : List ColumnShape) → 1 ≤ length columns → length columns ≤ column_limit → AreNamed columns → are_distinct (names columns) ≡ true
    → header_order usual columns (ended (joined (map column_name columns))) ≡ Ok (own_order columns)
unfolding header_order
header_is [] some few named distinct = absurd (omega arith)
header_is (c ∷ cs) some few named distinct =
    let columns : List ColumnShape = c ∷ cs in
    let line : List ℕ = joined (map column_name columns) in
    let whole : 0 + length columns ≡ length columns = omega arith in
    let fields : fields_of 44 line ≡ map column_name columns = fields_joined c.name (map column_name cs) (names_from columns named) in
    let short : nat_lt line_limit (length line) ≡ false = let most = joined_short (map column_name columns) (names_short columns named) in let lengths = length-names columns in grind (arith, nat_tests) in
    let full : (length line == 0) ≡ false = other_number (length line) (joined_some c.name (map column_name cs) (name_facts c.name named.0).some) in
    let each : has_each usual (length columns) line ≡ true = ap (λ (k : ℕ). k == length columns) (ap (λ (fs : List (List ℕ)). length fs) fields ∙ length-names columns) ∙ itself (length columns) in
    ap (λ (t : Bool). cond t (Err (LineTooLong 1)) (cond (not (length line == 0) && has_each usual (length columns) line) (named_order usual None columns line) (Err (BadCsv 1 0)))) short
    ∙ (λ i. cond (not (full i) && each i) (in_line 1 (order_from columns 1 [] (fields i)) >>= (λ places. Ok (each_of places))) (Err (BadCsv 1 0)))
    ∙ ap (λ (r : Result (List ℕ) ℕ). in_line 1 r >>= (λ places. Ok (each_of places))) (orders [] columns 1 named tt distinct)
    ∙ ap (λ (n : ℕ). Ok (each_of (range_with_len 0 n))) whole

-- what a table's columns are
table_facts : (table : Table) → IsTable table → AreNamed table.columns × (are_distinct (names table.columns) ≡ true)
unfolding is_schema
table_facts t table = by (is_schema t.name (map asked_of t.columns)) refl table.itself where
  by : (test : Bool) → is_schema t.name (map asked_of t.columns) ≡ test → cond test (Ok (folded_table t.name (map asked_of t.columns))) (Err BadSchema) ≡ Ok t → AreNamed t.columns × (are_distinct (names t.columns) ≡ true)
  by false is e = cc
  by true is e =
      let asked = map asked_of t.columns in
      let a = and_parts (is_identifier t.name) _ is in
      let b = and_parts (nat_le 1 (length asked)) _ a.1 in
      let c = and_parts (nat_le (length asked) column_limit) (list_all is_named asked && are_distinct (map name_of asked)) b.1 in
      let d = and_parts (list_all is_named asked) (are_distinct (map name_of asked)) c.1 in
      (are_named t.columns d.0, d.1)

plain_text : (columns : List ColumnShape) (rows : Batch) → 1 ≤ length columns → AreNamed columns → unmarked (csv_text columns rows) ≡ csv_text columns rows
plain_text [] rows some named = absurd (omega arith)
plain_text (c ∷ []) rows some named =
    let assoc : csv_text (c ∷ []) rows ≡ c.name ++ (10 ∷ flat_map row_line rows) = append_assoc c.name (10 ∷ []) (flat_map row_line rows) in
    ap unmarked assoc ∙ (name_facts c.name named.0).unmarked (10 ∷ flat_map row_line rows) ∙ sym assoc
plain_text (c ∷ d ∷ cs) rows some named =
    let rest : List ℕ = 44 ∷ joined (d.name ∷ map column_name cs) in
    let assoc : csv_text (c ∷ d ∷ cs) rows ≡ c.name ++ (rest ++ (10 ∷ flat_map row_line rows)) = append_assoc (c.name ++ rest) (10 ∷ []) (flat_map row_line rows) ∙ append_assoc c.name rest (10 ∷ flat_map row_line rows) in
    ap unmarked assoc ∙ (name_facts c.name named.0).unmarked (rest ++ (10 ∷ flat_map row_line rows)) ∙ sym assoc

pub rows_read_again : WrittenRowsAreRead
rows_read_again table proper rows h =
    let columns : List ColumnShape = table.columns in
    let facts = table_facts table proper in
    let line : List ℕ = joined (map column_name columns) in
    ap (λ (text : List ℕ). header_rows usual columns (lines_of text)) (plain_text columns rows proper.some facts.0)
    ∙ ap (header_rows usual columns) (line_first line (flat_map row_line rows) (joined_from (map column_name columns) (names_from columns facts.0)))
    ∙ ap (λ (r : Result (List (Option ℕ)) CsvError). r >>= (λ order. rows_from usual columns order 2 (lines_of (flat_map row_line rows)))) (header_is columns proper.some proper.limit facts.0 facts.1)
    ∙ rows_lines columns rows 2 proper.some proper.limit h
