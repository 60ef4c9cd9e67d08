-- A part of a line, which no byte ends yet: it grows at its end, and is too long whatever follows once it has so many bytes.
use Rattle.std.specs.Prelude.{◌≡◌, ℕ, zero, suc, ◌+◌, ◌<◌, ◌≤◌, Bool, true, false, cond, ◌==◌, List, [], ◌∷◌, ◌++◌, length, drop, Option, Some, None, Err}
use Rattle.std.proofs.Common.{refl, sym, ap, ◌∙◌, arith, subst, length-append, length-drop}
use Rattle.std.proofs.lemmas.List.{append-nil}
use Rattle.table_model.specs.Pieces.{pieces, onto_first}
use Rattle.csv_rows.specs.CsvText.{lines_rows, plain_order}
use Rattle.csv_rows.specs.Line.{TextLine, line_limit, after_mark, text_or, unended, lines_between, lines_of, unmarked, EndsLine}
use Rattle.csv_rows.specs.LineReading.{onto_piece, FirstTooLong}
use Rattle.csv_rows.specs.Reading.{Reading, text_after, lines_left, rows_after, to_come}
use Rattle.csv_rows.specs.declared.error.CsvError.TheVariants.{LineTooLong}
use Rattle.csv_rows.proofs.Cuts.{all_ended, pieces_cut, between_both}
use Rattle.csv_rows.proofs.LineFacts.{part_too_long, lines_last}
use Rattle.csv_rows.proofs.Marks.{mark_more, mark_some}
use Rattle.csv_rows.proofs.Pieces.{first_piece, onto_nothing, few_pieces, count_more}
use Rattle.csv_rows.proofs.RowFacts.{too_long, header_too_long}
use Rattle.csv_pieces.specs.PieceReading.{IsOpen, part_limit}

pub open_both : (a b : List ℕ) → IsOpen a → IsOpen b → IsOpen (a ++ b)
open_both [] b h g = g
open_both (x ∷ a) b h g = (h.0, open_both a b h.1 g)

pub open_drop : (n : ℕ) (a : List ℕ) → IsOpen a → IsOpen (drop n a)
open_drop zero a h = h
open_drop (suc n) [] h = tt
open_drop (suc n) (x ∷ a) h = open_drop n a h.1

onto : (b : ℕ) (bs : List ℕ) (ps : List (List ℕ)) → onto_first b (onto_piece bs ps) ≡ onto_piece (b ∷ bs) ps
onto b bs [] = refl
onto b bs (p ∷ ps) = refl

open_pieces : (a x : List ℕ) → IsOpen a → pieces 10 (a ++ x) ≡ onto_piece a (pieces 10 x)
open_pieces [] x h = sym (onto_nothing 10 x)
open_pieces (b ∷ bs) x h =
    ap (λ (t : Bool). cond t ([] ∷ pieces 10 (bs ++ x)) (onto_first b (pieces 10 (bs ++ x)))) h.0
    ∙ ap (onto_first b) (open_pieces bs x h.1) ∙ onto b bs (pieces 10 x)

-- ---- how many lines there are

lengths_ended : (ps : List (List ℕ)) → length (all_ended ps) ≡ length ps
lengths_ended [] = refl
lengths_ended (p ∷ ps) = ap suc (lengths_ended ps)

whole_count : (text : List ℕ) → EndsLine text → suc (length (lines_of text)) ≡ length (pieces 10 text)
whole_count text ends =
    let lines : lines_of text ≡ all_ended (pieces 10 ends.0) = ap lines_of ends.1 ∙ ap lines_between (pieces_cut ends.0 []) ∙ between_both (pieces 10 ends.0) [] [] ∙ append-nil (all_ended (pieces 10 ends.0)) in
    let one : length (pieces 10 text) ≡ length (pieces 10 ends.0) + 1 = ap (λ (t : List ℕ). length (pieces 10 t)) ends.1 ∙ ap length (pieces_cut ends.0 []) ∙ length-append (pieces 10 ends.0) ([] ∷ []) in
    let many : length (lines_of text) ≡ length (pieces 10 ends.0) = ap length lines ∙ lengths_ended (pieces 10 ends.0) in
    omega arith

part_count : (part x : List ℕ) → IsOpen part → length (pieces 10 (part ++ x)) ≡ length (pieces 10 x)
part_count part x unended_part =
    let found = first_piece 10 x in
    ap length (open_pieces part x unended_part) ∙ ap (λ (ps : List (List ℕ)). length (onto_piece part ps)) found.2 ∙ sym (ap length found.2)

drop_count : (n : ℕ) (text : List ℕ) → length (pieces 10 (drop n text)) ≤ length (pieces 10 text)
drop_count zero text = omega arith
drop_count (suc n) [] = omega arith
drop_count (suc n) (b ∷ bs) = omega (arith, count_more 10 b bs, drop_count n bs)

mark_count : (text : List ℕ) → length (pieces 10 (unmarked text)) ≤ length (pieces 10 text)
mark_count text = by (after_mark text) refl where
  by : (o : Option (List ℕ)) → after_mark text ≡ o → length (pieces 10 (text_or o text)) ≤ length (pieces 10 text)
  by None e = omega arith
  by (Some rest) e = let is = (mark_some text rest e).0 in subst (λ (t : List ℕ). length (pieces 10 t) ≤ length (pieces 10 text)) is (drop_count 3 text)

-- whole lines behind a part of a line have at most as many line ends as bytes
pub few_lines : (csv : Reading) (part bytes : List ℕ) → csv.pending ≡ [] → IsOpen part → EndsLine (part ++ bytes) → EndsLine (unmarked (part ++ bytes)) → length (lines_left csv (part ++ bytes)) ≤ length bytes
few_lines csv part bytes none unended_part ends ends' = subst (λ (p : List ℕ). length (lines_of (text_after csv.order (p ++ (part ++ bytes)))) ≤ length bytes) (sym none) (by csv.order) where
  by : (o : Option (List (Option ℕ))) → length (lines_of (text_after o (part ++ bytes))) ≤ length bytes
  by (Some order) = omega (arith, whole_count (part ++ bytes) ends, part_count part bytes unended_part, few_pieces 10 bytes)
  by None = omega (arith, whole_count (unmarked (part ++ bytes)) ends', mark_count (part ++ bytes), part_count part bytes unended_part, few_pieces 10 bytes)

-- ---- a part that is too long

long_lines : (part more : List ℕ) → IsOpen part → line_limit + 1 < length part → FirstTooLong (lines_of (part ++ more))
long_lines part more unended_part past = subst (λ (ps : List (List ℕ)). FirstTooLong (lines_between ps)) (sym (open_pieces part more unended_part)) (part_too_long part more past)

-- without a byte order mark it is at most three bytes shorter
mark_open : (part : List ℕ) → IsOpen part → IsOpen (unmarked part) × (length part ≤ length (unmarked part) + 3)
mark_open part unended_part = by (after_mark part) refl where
  by : (o : Option (List ℕ)) → after_mark part ≡ o → IsOpen (text_or o part) × (length part ≤ length (text_or o part) + 3)
  by None e = (unended_part, omega arith)
  by (Some rest) e = let is = (mark_some part rest e).0 in (subst IsOpen is (open_drop 3 part unended_part), subst (λ (t : List ℕ). length part ≤ length t + 3) is (omega (arith, length-drop 3 part)))

first_long : (csv : Reading) (has : Bool) (lines : List TextLine) → FirstTooLong lines → lines_rows csv.dialect csv.table has lines ≡ Err (LineTooLong 1)
first_long csv true lines long = header_too_long csv.dialect csv.table.columns lines long
first_long csv false lines long = too_long csv.dialect csv.table.columns (plain_order csv.dialect.order csv.table.columns) 1 lines long

pub part_refused : (csv : Reading) (part more : List ℕ) → csv.pending ≡ [] → IsOpen part → (csv.order ≡ None → csv.number ≡ 0) → part_limit < length part → to_come csv (part ++ more) ≡ Err (LineTooLong (csv.number + 1))
part_refused csv part more none unended_part first past = ap (λ (p : List ℕ). rows_after csv csv.order (p ++ (part ++ more))) none ∙ by csv.order refl where
  by : (o : Option (List (Option ℕ))) → csv.order ≡ o → rows_after csv o (part ++ more) ≡ Err (LineTooLong (csv.number + 1))
  by (Some order) e =
      let same : suc csv.number ≡ csv.number + 1 = omega arith in
      too_long csv.dialect csv.table.columns order (suc csv.number) (lines_of (part ++ more)) (long_lines part more unended_part (omega arith)) ∙ ap (λ (n : ℕ). Err (LineTooLong n)) same
  by None e =
      let same : 1 ≡ csv.number + 1 = omega (arith, first e) in
      let marked = mark_open part unended_part in
      ap (λ (t : List ℕ). lines_rows csv.dialect csv.table csv.has_header (lines_of t)) (mark_more part more (omega arith))
      ∙ first_long csv csv.has_header (lines_of (unmarked part ++ more)) (long_lines (unmarked part) more marked.0 (omega (arith, marked.1)))
      ∙ ap (λ (n : ℕ). Err (LineTooLong n)) same

-- ---- the line of a part

one_line : (part : List ℕ) → IsOpen part → length (lines_of part) ≤ 1
one_line part unended_part =
    let is : lines_of part ≡ cond (length part == 0) [] (unended part ∷ []) = ap lines_of (sym (append-nil part)) ∙ ap lines_between (open_pieces part [] unended_part) ∙ lines_last part in
    subst (λ (lines : List TextLine). length lines ≤ 1) (sym is) (by (length part == 0))
  where
    by : (t : Bool) → length (cond t [] (unended part ∷ [])) ≤ 1
    by true = omega arith
    by false = omega arith

pub open_left : (csv : Reading) (part : List ℕ) → csv.pending ≡ [] → IsOpen part → length (lines_left csv part) ≤ 1
open_left csv part none unended_part = subst (λ (p : List ℕ). length (lines_of (text_after csv.order (p ++ part))) ≤ 1) (sym none) (by csv.order) where
  by : (o : Option (List (Option ℕ))) → length (lines_of (text_after o part)) ≤ 1
  by (Some order) = one_line part unended_part
  by None = one_line (unmarked part) (mark_open part unended_part).0
