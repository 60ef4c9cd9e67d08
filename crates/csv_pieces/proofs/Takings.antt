-- What a piece that is taken makes of the part of a line before it: whole lines are read with that part, and other bytes are kept behind it.
use Rattle.std.specs.Prelude.{◌≡◌, ℕ, zero, suc, ◌+◌, ◌<◌, ◌≤◌, true, false, List, [], ◌∷◌, ◌++◌, length, take, drop, Option, Some, None, IsSome, Ok, Err}
use Rattle.std.proofs.Common.{refl, sym, ap, ◌∙◌, arith, subst, append_assoc, inl, inr}
use Rattle.std.proofs.lemmas.List.{append-nil, length-take, length-take-le}
use Rattle.table_model.specs.Faults.{read_limit}
use Rattle.table_model.specs.State.{Batch}
use Rattle.table_model.specs.Table.{row_limit}
use Rattle.csv_rows.specs.CsvText.{before_rows}
use Rattle.csv_rows.specs.Line.{EndsLine, AreWhole}
use Rattle.csv_rows.specs.Reading.{Reading, lines_left, to_come}
use Rattle.csv_rows.specs.declared.error.CsvError.{CsvError}
use Rattle.csv_rows.specs.declared.error.CsvError.TheVariants.{BadCsv, LineTooLong, Refused}
use Rattle.csv_rows.proofs.RowFacts.{before_nothing}
use Rattle.csv_rows.proofs.Wholes.{unmarked_ends}
use Rattle.csv_pieces.specs.PieceReading.{IsOpen, Waits, Continues, RefusesBehind, ReadsText, ReadsOnward, RefusesText, part_limit}
use Rattle.csv_pieces.proofs.Parts.{open_both, few_lines, open_left, part_refused}

-- ---- fronts

take_front : (c m : ℕ) (xs : List ℕ) → c ≤ length (take m xs) → take c (take m xs) ≡ take c xs
take_front zero m xs h = refl
take_front (suc c) zero xs h = absurd (omega arith)
take_front (suc c) (suc m) [] h = refl
take_front (suc c) (suc m) (x ∷ xs) h = ap (λ (t : List ℕ). x ∷ t) (take_front c m xs (omega arith))

take_rest : (m : ℕ) (xs : List ℕ) → take m xs ++ drop m xs ≡ xs
take_rest zero xs = refl
take_rest (suc m) [] = refl
take_rest (suc m) (x ∷ xs) = ap (λ (t : List ℕ). x ∷ t) (take_rest m xs)

take_all : (xs : List ℕ) → take (length xs) xs ≡ xs
take_all [] = refl
take_all (x ∷ xs) = ap (λ (t : List ℕ). x ∷ t) (take_all xs)

front_on : (m : ℕ) (xs more : List ℕ) → take m xs ++ (drop m xs ++ more) ≡ xs ++ more
front_on m xs more = sym (append_assoc (take m xs) (drop m xs) more) ∙ ap (λ (t : List ℕ). t ++ more) (take_rest m xs)

-- what the front of a piece makes, the piece makes
pub front_taken : (csv csv' : Reading) (part part' piece front : List ℕ) (rows rows' : Batch) (m count : ℕ) → front ≡ take m piece → (0 < length piece → 0 < length front) → Continues csv csv' part part' rows rows' front count
    → Continues csv csv' part part' rows rows' piece count
front_taken csv csv' part part' piece front rows rows' m count is some taken =
    let shorter : length front ≤ length piece = omega (arith, ap length is, length-take m piece) in
    let same : take count front ≡ take count piece = ap (take count) is ∙ take_front count m piece (subst (λ (f : List ℕ). count ≤ length f) is taken.1) in (
      taken.0,
      omega (arith, taken.1, shorter),
      λ there. taken.2 (some there),
      taken.3,
      λ more. ap (λ (t : List ℕ). to_come csv (part ++ (t ++ more))) (sym same) ∙ taken.4 more,
    )

behind_front : (csv : Reading) (part piece front : List ℕ) (m : ℕ) (fault : CsvError) → front ≡ take m piece → ((more : List ℕ) → to_come csv (part ++ (front ++ more)) ≡ Err fault) → (more : List ℕ) → to_come csv (part ++ (piece ++ more)) ≡ Err fault
behind_front csv part piece front m fault is refused more =
    ap (λ (t : List ℕ). to_come csv (part ++ t)) (sym (front_on m piece more) ∙ ap (λ (t : List ℕ). t ++ (drop m piece ++ more)) (sym is)) ∙ refused (drop m piece ++ more)

pub front_refused : (csv : Reading) (part piece front : List ℕ) (m : ℕ) (e : CsvError) → front ≡ take m piece → RefusesBehind csv part e front → RefusesBehind csv part e piece
front_refused csv part piece front m (Refused refusal) is refused = tt
front_refused csv part piece front m (BadCsv line column) is refused = behind_front csv part piece front m (BadCsv line column) is refused
front_refused csv part piece front m (LineTooLong line) is refused = behind_front csv part piece front m (LineTooLong line) is refused

-- ---- whole lines

pub lines_end : (bytes : List ℕ) (whole : ℕ) → 0 < whole → whole ≤ length bytes → AreWhole (take whole bytes) → EndsLine (take whole bytes)
lines_end bytes whole some within (inr ends) = ends
lines_end bytes whole some within (inl none) = let len : length (take whole bytes) ≡ 0 = ap length none in absurd (omega (arith, len, length-take-le whole bytes within))

pub ends_behind : (part lines : List ℕ) → EndsLine lines → EndsLine (part ++ lines)
ends_behind part lines ends = (part ++ ends.0, ap (λ (t : List ℕ). part ++ t) ends.1 ∙ sym (append_assoc part ends.0 (10 ∷ [])))

pub lines_room : (csv : Reading) (part lines text : List ℕ) (have : ℕ) → csv.pending ≡ [] → IsOpen part → EndsLine lines → text ≡ part ++ lines → have + length lines ≤ row_limit → have + length (lines_left csv text) ≤ row_limit
lines_room csv part lines text have none unended_part ends is room =
    let few : length (lines_left csv (part ++ lines)) ≤ length lines = few_lines csv part lines none unended_part (ends_behind part lines ends) (unmarked_ends (part ++ lines) (ends_behind part lines ends)) in
    let same : length (lines_left csv text) ≡ length (lines_left csv (part ++ lines)) = ap (λ (t : List ℕ). length (lines_left csv t)) is in
    omega (arith, few, same, room)

pub lines_taken : (csv csv' : Reading) (part part' bytes text : List ℕ) (rows rows' : Batch) (whole : ℕ) → text ≡ part ++ take whole bytes → part' ≡ [] → whole ≤ length bytes → 0 < whole → EndsLine (take whole bytes)
    → ReadsOnward csv csv' rows rows' text → Continues csv csv' part part' rows rows' bytes whole
lines_taken csv csv' part part' bytes text rows rows' whole is none within some ends read =
    let ends' : EndsLine text = subst EndsLine (sym is) (ends_behind part (take whole bytes) ends) in (
      read.0,
      within,
      λ there. some,
      read.1,
      λ more. ap (to_come csv) (sym (append_assoc part (take whole bytes) more)) ∙ ap (λ (t : List ℕ). to_come csv (t ++ more)) (sym is) ∙ read.2 ends' more
          ∙ ap (λ (t : List ℕ). before_rows read.0 (to_come csv' (t ++ more))) (sym none),
    )

lines_fault : (csv : Reading) (part bytes text : List ℕ) (whole : ℕ) (fault : CsvError) → text ≡ part ++ take whole bytes → EndsLine (take whole bytes) → (EndsLine text → (more : List ℕ) → to_come csv (text ++ more) ≡ Err fault)
    → (more : List ℕ) → to_come csv (part ++ (bytes ++ more)) ≡ Err fault
lines_fault csv part bytes text whole fault is ends refused more =
    ap (λ (t : List ℕ). to_come csv (part ++ t)) (sym (front_on whole bytes more)) ∙ ap (to_come csv) (sym (append_assoc part (take whole bytes) (drop whole bytes ++ more)))
    ∙ ap (λ (t : List ℕ). to_come csv (t ++ (drop whole bytes ++ more))) (sym is) ∙ refused (subst EndsLine (sym is) (ends_behind part (take whole bytes) ends)) (drop whole bytes ++ more)

pub lines_refused : (csv : Reading) (part bytes text : List ℕ) (whole : ℕ) (e : CsvError) → text ≡ part ++ take whole bytes → EndsLine (take whole bytes) → RefusesText csv e text → RefusesBehind csv part e bytes
lines_refused csv part bytes text whole (Refused refusal) is ends refused = tt
lines_refused csv part bytes text whole (BadCsv line column) is ends refused = lines_fault csv part bytes text whole (BadCsv line column) is ends refused.1
lines_refused csv part bytes text whole (LineTooLong line) is ends refused = lines_fault csv part bytes text whole (LineTooLong line) is ends refused.1

none_is_some : (o : Option (List (Option ℕ))) → IsSome o → o ≡ None → ⊥
none_is_some None h e = let apart : false ≡ true = h in cc
none_is_some (Some order) h e = cc

pub waits_again : (csv : Reading) (part : List ℕ) → csv.pending ≡ [] → part ≡ [] → csv.number ≤ read_limit → IsSome csv.order → Waits csv part
waits_again csv part none empty bound began = record {
  none = none;
  no_end = subst IsOpen (sym empty) tt;
  short = subst (λ (p : List ℕ). length p ≤ part_limit) (sym empty) (omega arith);
  few = bound;
  first = λ unknown. absurd (none_is_some csv.order began unknown);
}

-- ---- a part of a line

pub bytes_kept : (csv : Reading) (part part' bytes : List ℕ) (rows : Batch) → part' ≡ part ++ bytes → Continues csv csv part part' rows rows bytes (length bytes)
bytes_kept csv part part' bytes rows is =
    let all : length bytes ≤ length bytes = omega arith in (
      [],
      all,
      λ there. there,
      sym (append-nil rows),
      λ more. ap (λ (t : List ℕ). to_come csv (part ++ (t ++ more))) (take_all bytes) ∙ ap (to_come csv) (sym (append_assoc part bytes more)) ∙ ap (λ (t : List ℕ). to_come csv (t ++ more)) (sym is)
          ∙ sym (before_nothing (to_come csv (part' ++ more))),
    )

pub waits_on : (csv : Reading) (part part' bytes : List ℕ) → Waits csv part → IsOpen bytes → part' ≡ part ++ bytes → length part' ≤ part_limit → Waits csv part'
waits_on csv part part' bytes waits unended_part is short = record {
  none = waits.none;
  no_end = subst IsOpen (sym is) (open_both part bytes waits.no_end unended_part);
  short = short;
  few = waits.few;
  first = waits.first;
}

-- a part that is too long has no rows
pub long_unread : (csv : Reading) (part part' bytes : List ℕ) (rows rows' : Batch) → Waits csv part → IsOpen bytes → part' ≡ part ++ bytes → part_limit < length part' → ReadsText csv rows rows' part' → ⊥
long_unread csv part part' bytes rows rows' waits unended_part is long read =
    let refused = part_refused csv part' [] waits.none (subst IsOpen (sym is) (open_both part bytes waits.no_end unended_part)) waits.first long in
    let both : Err (LineTooLong (csv.number + 1)) ≡ Ok read.0 = sym refused ∙ ap (to_come csv) (append-nil part') ∙ read.2 in cc

long_fault : (csv : Reading) (part part' bytes : List ℕ) (fault : CsvError) → Waits csv part → IsOpen bytes → part' ≡ part ++ bytes → part_limit < length part' → to_come csv part' ≡ Err fault → (more : List ℕ) → to_come csv (part ++ (bytes ++ more)) ≡ Err fault
long_fault csv part part' bytes fault waits unended_part is long refused more =
    let opened = subst IsOpen (sym is) (open_both part bytes waits.no_end unended_part) in
    let both : Err (LineTooLong (csv.number + 1)) ≡ Err fault = sym (part_refused csv part' [] waits.none opened waits.first long) ∙ ap (to_come csv) (append-nil part') ∙ refused in
    ap (to_come csv) (sym (append_assoc part bytes more)) ∙ ap (λ (t : List ℕ). to_come csv (t ++ more)) (sym is) ∙ part_refused csv part' more waits.none opened waits.first long ∙ both

pub long_refused : (csv : Reading) (part part' bytes : List ℕ) (e : CsvError) → Waits csv part → IsOpen bytes → part' ≡ part ++ bytes → part_limit < length part' → RefusesText csv e part' → RefusesBehind csv part e bytes
long_refused csv part part' bytes (Refused refusal) waits unended_part is long refused = tt
long_refused csv part part' bytes (BadCsv line column) waits unended_part is long refused = long_fault csv part part' bytes (BadCsv line column) waits unended_part is long refused.0
long_refused csv part part' bytes (LineTooLong line) waits unended_part is long refused = long_fault csv part part' bytes (LineTooLong line) waits unended_part is long refused.0

-- rows have room for the line of a part
pub part_room : (csv : Reading) (part text : List ℕ) (have : ℕ) → csv.pending ≡ [] → IsOpen part → text ≡ part → have < row_limit → have + length (lines_left csv text) ≤ row_limit
part_room csv part text have none unended_part is few =
    let one : length (lines_left csv part) ≤ 1 = open_left csv part none unended_part in
    let same : length (lines_left csv text) ≡ length (lines_left csv part) = ap (λ (t : List ℕ). length (lines_left csv t)) is in
    omega (arith, one, same, few)
