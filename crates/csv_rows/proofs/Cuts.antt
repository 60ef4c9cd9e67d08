-- A text that is cut behind a line feed: its lines, and its rows, are those of the two texts, one after the other.
use Rattle.std.specs.Prelude.{◌≡◌, ℕ, suc, ◌+◌, true, false, cond, ◌==◌, List, [], ◌∷◌, ◌++◌, length, map, Option, Result, Ok, Err}
use Rattle.std.proofs.Common.{refl, sym, ap, ◌∙◌, arith}
use Rattle.std.proofs.lemmas.List.{append-nil}
use Rattle.table_model.specs.Pieces.{pieces, onto_first}
use Rattle.table_model.specs.State.{Batch}
use Rattle.table_model.specs.Table.{ColumnShape}
use Rattle.csv_rows.specs.CsvText.{◌>>=◌, before_rows, line_rows, rows_from}
use Rattle.csv_rows.specs.DialectForm.{DialectForm}
use Rattle.csv_rows.specs.Line.{TextLine, ended, lines_between, lines_of, without_return}
use Rattle.csv_rows.specs.declared.error.CsvError.{CsvError}
use Rattle.csv_rows.proofs.Pieces.{first_piece}
use Rattle.csv_rows.proofs.RowFacts.{before_both, before_nothing}

onto : (b : ℕ) (bs more : List ℕ) → onto_first b (pieces 10 bs ++ pieces 10 more) ≡ onto_first b (pieces 10 bs) ++ pieces 10 more
onto b bs more =
    let found = first_piece 10 bs in
    ap (λ (ps : List (List ℕ)). onto_first b (ps ++ pieces 10 more)) found.2 ∙ sym (ap (λ (ps : List (List ℕ)). onto_first b ps ++ pieces 10 more) found.2)

pub pieces_cut : (front more : List ℕ) → pieces 10 (front ++ 10 ∷ more) ≡ pieces 10 front ++ pieces 10 more
pieces_cut [] more = refl
pieces_cut (b ∷ bs) more =
    elim (b == 10) as (λ t. cond t ([] ∷ pieces 10 (bs ++ 10 ∷ more)) (onto_first b (pieces 10 (bs ++ 10 ∷ more))) ≡ cond t ([] ∷ pieces 10 bs) (onto_first b (pieces 10 bs)) ++ pieces 10 more) [
      | true ↦ ap (λ (ps : List (List ℕ)). [] ∷ ps) (pieces_cut bs more)
      | false ↦ ap (onto_first b) (pieces_cut bs more) ∙ onto b bs more
    ]

-- lines that a line feed ends
abbrev pub all_ended : List (List ℕ) → List TextLine
all_ended ps = map (λ (p : List ℕ). ended (without_return p)) ps

pub between_both : (ps : List (List ℕ)) (q : List ℕ) (qs : List (List ℕ)) → lines_between (ps ++ q ∷ qs) ≡ all_ended ps ++ lines_between (q ∷ qs)
between_both [] q qs = refl
between_both (p ∷ []) q qs = refl
between_both (p ∷ next ∷ ps) q qs = ap (λ (ls : List TextLine). ended (without_return p) ∷ ls) (between_both (next ∷ ps) q qs)

-- the lines of a text that goes on behind a line feed
pub lines_cut : (front more : List ℕ) → lines_of (front ++ 10 ∷ more) ≡ lines_of (front ++ 10 ∷ []) ++ lines_of more
lines_cut front more =
    let found = first_piece 10 more in
    let whole : lines_of (front ++ 10 ∷ more) ≡ all_ended (pieces 10 front) ++ lines_of more =
    ap lines_between (pieces_cut front more) ∙ ap (λ (ps : List (List ℕ)). lines_between (pieces 10 front ++ ps)) found.2 ∙ between_both (pieces 10 front) found.0 found.1
    ∙ ap (λ (ps : List (List ℕ)). all_ended (pieces 10 front) ++ lines_between ps) (sym found.2) in
    let short : lines_of (front ++ 10 ∷ []) ≡ all_ended (pieces 10 front) = ap lines_between (pieces_cut front []) ∙ between_both (pieces 10 front) [] [] ∙ append-nil (all_ended (pieces 10 front)) in
    whole ∙ ap (λ (ls : List TextLine). ls ++ lines_of more) (sym short)

behind : (dialect : DialectForm) (columns : List ColumnShape) (order : List (Option ℕ)) (n k : ℕ) (ms : List TextLine) (made : Batch) (r : Result Batch CsvError) → n ≡ k
    → before_rows made (r >>= (λ rows. before_rows rows (rows_from dialect columns order n ms))) ≡ (before_rows made r >>= (λ rows. before_rows rows (rows_from dialect columns order k ms)))
behind dialect columns order n k ms made (Err e) same = refl
behind dialect columns order n k ms made (Ok rows) same = before_both made rows (rows_from dialect columns order n ms) ∙ ap (λ (m : ℕ). before_rows (made ++ rows) (rows_from dialect columns order m ms)) same

-- the rows of lines are those of the first ones, and behind them those of the others, or the first fault
pub rows_both : (dialect : DialectForm) (columns : List ColumnShape) (order : List (Option ℕ)) (n : ℕ) (ls ms : List TextLine)
    → rows_from dialect columns order n (ls ++ ms) ≡ (rows_from dialect columns order n ls >>= (λ rows. before_rows rows (rows_from dialect columns order (n + length ls) ms)))
rows_both dialect columns order n [] ms =
    let same : n ≡ n + 0 = omega arith in
    ap (λ (m : ℕ). rows_from dialect columns order m ms) same ∙ sym (before_nothing (rows_from dialect columns order (n + 0) ms))
rows_both dialect columns order n (line ∷ ls) ms = first (rows_both dialect columns order (suc n) ls ms) (line_rows dialect columns order n line) where
  first : rows_from dialect columns order (suc n) (ls ++ ms) ≡ (rows_from dialect columns order (suc n) ls >>= (λ rows. before_rows rows (rows_from dialect columns order (suc n + length ls) ms))) → (r : Result Batch CsvError)
      → (r >>= (λ rows. before_rows rows (rows_from dialect columns order (suc n) (ls ++ ms))))
      ≡ ((r >>= (λ rows. before_rows rows (rows_from dialect columns order (suc n) ls))) >>= (λ rows. before_rows rows (rows_from dialect columns order (n + length (line ∷ ls)) ms)))
  first others (Err e) = refl
  first others (Ok made) =
      let same : suc n + length ls ≡ n + suc (length ls) = omega arith in
      ap (before_rows made) others ∙ behind dialect columns order (suc n + length ls) (n + suc (length ls)) ms made (rows_from dialect columns order (suc n) ls) same

-- the rows of a text that goes on behind a line feed
pub rows_cut : (dialect : DialectForm) (columns : List ColumnShape) (order : List (Option ℕ)) (n : ℕ) (front more : List ℕ)
    → rows_from dialect columns order n (lines_of (front ++ 10 ∷ more))
    ≡ (rows_from dialect columns order n (lines_of (front ++ 10 ∷ [])) >>= (λ rows. before_rows rows (rows_from dialect columns order (n + length (lines_of (front ++ 10 ∷ []))) (lines_of more))))
rows_cut dialect columns order n front more = ap (rows_from dialect columns order n) (lines_cut front more) ∙ rows_both dialect columns order n (lines_of (front ++ 10 ∷ [])) (lines_of more)

-- Where the rows of whole lines were read and their lines were counted, the rows of the text that goes on are to come behind them.
pub onward : (dialect : DialectForm) (columns : List ColumnShape) (order : List (Option ℕ)) (n k : ℕ) (front more : List ℕ) (made : Batch) → rows_from dialect columns order (suc n) (lines_of (front ++ 10 ∷ [])) ≡ Ok made
    → n + length (lines_of (front ++ 10 ∷ [])) ≡ k
    → rows_from dialect columns order (suc n) (lines_of (front ++ 10 ∷ more)) ≡ before_rows made (rows_from dialect columns order (suc k) (lines_of more))
onward dialect columns order n k front more made read counted =
    let same : suc n + length (lines_of (front ++ 10 ∷ [])) ≡ suc k = omega (arith, counted) in
    rows_cut dialect columns order (suc n) front more
    ∙ ap (λ (r : Result Batch CsvError). r >>= (λ rows. before_rows rows (rows_from dialect columns order (suc n + length (lines_of (front ++ 10 ∷ []))) (lines_of more)))) read
    ∙ ap (λ (m : ℕ). before_rows made (rows_from dialect columns order m (lines_of more))) same
