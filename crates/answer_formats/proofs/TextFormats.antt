-- Texts that are written one after another, with a separator between each two, or each in its line.
use Rattle.std.specs.Prelude.{◌≡◌, ◌⊎◌, ℕ, zero, suc, ◌+◌, ◌<◌, ◌≤◌, ◌==◌, max, Bool, false, cond, List, [], ◌∷◌, ◌++◌, map, codes, length, take, get_or}
use Rattle.std.specs.List.{flat_map}
use Rattle.std.proofs.Common.{refl, sym, ap, ◌∙◌, append_assoc, arith, inl, inr}
use Rattle.std.proofs.lemmas.Grind.{common_steps}
use Rattle.std.proofs.lemmas.List.{take_all}
use Rattle.table_model.specs.Answer.{line_of, field_text}
use Rattle.table_model.specs.declared.answer.Field.{Field}
use Rattle.answer_formats.specs.Formats.{separated, csv_field, csv_rows_text, json_member, json_members, json_object, json_rows_text, text_at, widest, widths_from, to_the_right, in_columns, spaced_line, table_rows_text}

-- the line of a row of comma-separated values
abbrev pub csv_line : List Field → List ℕ
csv_line row = line_of (map csv_field row)

pub csv_lines : (rows : List (List Field)) → csv_rows_text rows ≡ flat_map csv_line rows
csv_lines [] = refl
csv_lines (row ∷ rows) = ap (λ (rest : List ℕ). csv_line row ++ rest) (csv_lines rows)

pub json_lines : (headings : List (List ℕ)) (rows : List (List Field)) → json_rows_text headings rows ≡ flat_map (json_object headings) rows
json_lines headings [] = refl
json_lines headings (row ∷ rows) = ap (λ (rest : List ℕ). json_object headings row ++ rest) (json_lines headings rows)

-- the line of a row in columns
abbrev pub table_line : List ℕ → List Field → List ℕ
table_line widths row = spaced_line (in_columns widths (map field_text row))

pub table_lines_of : (widths : List ℕ) (rows : List (List Field)) → table_rows_text widths rows ≡ flat_map (table_line widths) rows
table_lines_of widths [] = refl
table_lines_of widths (row ∷ rows) = ap (λ (rest : List ℕ). table_line widths row ++ rest) (table_lines_of widths rows)

-- a separator, unless what comes next is the first
abbrev pub gap : List ℕ → ℕ → List ℕ
gap between i = cond (i == 0) [] between

-- one text more
separated_after : (between first : List ℕ) (texts : List (List ℕ)) (i : ℕ) → i < length texts
    → separated between (take (suc i) (first ∷ texts)) ++ (between ++ get_or texts i []) ≡ separated between (take (suc (suc i)) (first ∷ texts))
separated_after between first [] i below = absurd (omega (arith, below))
separated_after between first (text ∷ texts) zero below = refl
separated_after between first (text ∷ texts) (suc i) below =
    append_assoc first (between ++ separated between (take (suc i) (text ∷ texts))) (between ++ get_or texts i [])
    ∙ ap (λ (rest : List ℕ). first ++ rest) (append_assoc between (separated between (take (suc i) (text ∷ texts))) (between ++ get_or texts i []))
    ∙ ap (λ (rest : List ℕ). first ++ (between ++ rest)) (separated_after between text texts i (omega (arith, below)))

pub separated_more : (between : List ℕ) (texts : List (List ℕ)) (i : ℕ) → i < length texts
    → separated between (take i texts) ++ (gap between i ++ get_or texts i []) ≡ separated between (take (suc i) texts)
separated_more between [] i below = absurd (omega (arith, below))
separated_more between (text ∷ texts) zero below = refl
separated_more between (text ∷ texts) (suc i) below =
    let past : (suc i == 0) ≡ false = grind (arith, common_steps) in
    ap (λ (b : Bool). separated between (text ∷ take i texts) ++ (cond b [] between ++ get_or texts i [])) past
    ∙ separated_after between text texts i (omega (arith, below))

-- a text is written behind those before it
pub next_written : (between : List ℕ) (texts : List (List ℕ)) (i : ℕ) (old out gapped next text : List ℕ) → i < length texts → text ≡ get_or texts i []
    → out ≡ old ++ separated between (take i texts) → gapped ≡ out ++ gap between i → next ≡ gapped ++ text → next ≡ old ++ separated between (take (i + 1) texts)
next_written between texts i old out gapped next text below is so_far gap_is wrote =
    let step : suc i ≡ i + 1 = omega arith in
    wrote
    ∙ (λ j. gap_is j ++ is j)
    ∙ append_assoc out (gap between i) (get_or texts i [])
    ∙ ap (λ (front : List ℕ). front ++ (gap between i ++ get_or texts i [])) so_far
    ∙ append_assoc old (separated between (take i texts)) (gap between i ++ get_or texts i [])
    ∙ ap (λ (rest : List ℕ). old ++ rest) (separated_more between texts i below)
    ∙ ap (λ (k : ℕ). old ++ separated between (take k texts)) step

-- ---- the members of an object

pub members_below : (headings : List (List ℕ)) (fields : List Field) (i : ℕ) → i < length headings → i < length fields → i < length (json_members headings fields)
members_below [] fields i below inside = below
members_below (heading ∷ headings) [] i below inside = inside
members_below (heading ∷ headings) (field ∷ fields) zero below inside = omega arith
members_below (heading ∷ headings) (field ∷ fields) (suc i) below inside = let rest = members_below headings fields i (omega (arith, below)) (omega (arith, inside)) in omega (arith, rest)

pub member_at : (headings : List (List ℕ)) (fields : List Field) (i : ℕ) (h : List ℕ) (f : Field) → i < length headings → i < length fields
    → json_member (get_or headings i h) (get_or fields i f) ≡ get_or (json_members headings fields) i []
member_at [] fields i h f below inside = absurd (omega (arith, below))
member_at (heading ∷ headings) [] i h f below inside = absurd (omega (arith, inside))
member_at (heading ∷ headings) (field ∷ fields) zero h f below inside = refl
member_at (heading ∷ headings) (field ∷ fields) (suc i) h f below inside = member_at headings fields i h f (omega (arith, below)) (omega (arith, inside))

-- there is a member for each heading with a field
pub members_end : (headings : List (List ℕ)) (fields : List Field) (i : ℕ) → (length headings ≤ i) ⊎ (length fields ≤ i) → take i (json_members headings fields) ≡ json_members headings fields
members_end headings fields i end = take_all i (json_members headings fields) (members_length headings fields i end)
  where
    members_length : (headings : List (List ℕ)) (fields : List Field) (i : ℕ) → (length headings ≤ i) ⊎ (length fields ≤ i) → length (json_members headings fields) ≤ i
    members_length [] fields i end = omega arith
    members_length (heading ∷ headings) [] i end = omega arith
    members_length (heading ∷ headings) (field ∷ fields) zero (inl end) = omega (arith, end)
    members_length (heading ∷ headings) (field ∷ fields) zero (inr end) = omega (arith, end)
    members_length (heading ∷ headings) (field ∷ fields) (suc i) (inl end) = let rest = members_length headings fields i (inl (omega (arith, end))) in omega (arith, rest)
    members_length (heading ∷ headings) (field ∷ fields) (suc i) (inr end) = let rest = members_length headings fields i (inr (omega (arith, end))) in omega (arith, rest)

-- ---- texts in columns

pub columns_below : (widths : List ℕ) (texts : List (List ℕ)) (i : ℕ) → i < length widths → i < length texts → i < length (in_columns widths texts)
columns_below [] texts i below inside = below
columns_below (width ∷ widths) [] i below inside = inside
columns_below (width ∷ widths) (text ∷ texts) zero below inside = omega arith
columns_below (width ∷ widths) (text ∷ texts) (suc i) below inside = let rest = columns_below widths texts i (omega (arith, below)) (omega (arith, inside)) in omega (arith, rest)

pub column_at : (widths : List ℕ) (texts : List (List ℕ)) (i w : ℕ) (t : List ℕ) → i < length widths → i < length texts
    → to_the_right (get_or widths i w) (get_or texts i t) ≡ get_or (in_columns widths texts) i []
column_at [] texts i w t below inside = absurd (omega (arith, below))
column_at (width ∷ widths) [] i w t below inside = absurd (omega (arith, inside))
column_at (width ∷ widths) (text ∷ texts) zero w t below inside = refl
column_at (width ∷ widths) (text ∷ texts) (suc i) w t below inside = column_at widths texts i w t (omega (arith, below)) (omega (arith, inside))

pub columns_end : (widths : List ℕ) (texts : List (List ℕ)) (i : ℕ) → (length widths ≤ i) ⊎ (length texts ≤ i) → take i (in_columns widths texts) ≡ in_columns widths texts
columns_end widths texts i end = take_all i (in_columns widths texts) (columns_length widths texts i end)
  where
    columns_length : (widths : List ℕ) (texts : List (List ℕ)) (i : ℕ) → (length widths ≤ i) ⊎ (length texts ≤ i) → length (in_columns widths texts) ≤ i
    columns_length [] texts i end = omega arith
    columns_length (width ∷ widths) [] i end = omega arith
    columns_length (width ∷ widths) (text ∷ texts) zero (inl end) = omega (arith, end)
    columns_length (width ∷ widths) (text ∷ texts) zero (inr end) = omega (arith, end)
    columns_length (width ∷ widths) (text ∷ texts) (suc i) (inl end) = let rest = columns_length widths texts i (inl (omega (arith, end))) in omega (arith, rest)
    columns_length (width ∷ widths) (text ∷ texts) (suc i) (inr end) = let rest = columns_length widths texts i (inr (omega (arith, end))) in omega (arith, rest)

-- ---- widths

-- one row more
pub widest_more : (column width : ℕ) (rows : List (List Field)) (i : ℕ) (d : List Field) → i < length rows
    → max (widest column width (take i rows)) (length (text_at column (get_or rows i d))) ≡ widest column width (take (suc i) rows)
widest_more column width [] i d below = absurd (omega (arith, below))
widest_more column width (row ∷ rows) zero d below = refl
widest_more column width (row ∷ rows) (suc i) d below = widest_more column (max width (length (text_at column row))) rows i d (omega (arith, below))

-- one column more
pub widths_more : (column : ℕ) (headings : List (List ℕ)) (rows : List (List Field)) (i : ℕ) (d : List ℕ) → i < length headings
    → widths_from column (take i headings) rows ++ (widest (column + i) (length (get_or headings i d)) rows ∷ []) ≡ widths_from column (take (suc i) headings) rows
widths_more column [] rows i d below = absurd (omega (arith, below))
widths_more column (heading ∷ headings) rows zero d below = ap (λ (k : ℕ). widest k (length heading) rows ∷ []) (omega arith)
widths_more column (heading ∷ headings) rows (suc i) d below =
    let here : column + suc i ≡ column + 1 + i = omega arith in
    ap (λ (k : ℕ). widest column (length heading) rows ∷ (widths_from (column + 1) (take i headings) rows ++ (widest k (length (get_or headings i d)) rows ∷ []))) here
    ∙ ap (λ (rest : List ℕ). widest column (length heading) rows ∷ rest) (widths_more (column + 1) headings rows i d (omega (arith, below)))

-- the width of a column with one row more
pub widest_next : (column heading : ℕ) (rows : List (List Field)) (i width long wider : ℕ) → i < length rows → width ≡ widest column heading (take i rows)
    → long ≡ length (text_at column (get_or rows i [])) → wider ≡ max width long → wider ≡ widest column heading (take (i + 1) rows)
widest_next column heading rows i width long wider below so_far is_long is =
    let step : suc i ≡ i + 1 = omega arith in
    is ∙ (λ j. max (so_far j) (is_long j)) ∙ widest_more column heading rows i [] below ∙ ap (λ (k : ℕ). widest column heading (take k rows)) step

-- the widths with one column more
pub widths_next : (headings : List (List ℕ)) (rows : List (List Field)) (i heading width : ℕ) (old new : List ℕ) → i < length headings → old ≡ widths_from 0 (take i headings) rows
    → heading ≡ length (get_or headings i []) → width ≡ widest i heading rows → new ≡ old ++ (width ∷ []) → new ≡ widths_from 0 (take (i + 1) headings) rows
widths_next headings rows i heading width old new below so_far is_long is pushed =
    let step : suc i ≡ i + 1 = omega arith in
    let from_none : i ≡ 0 + i = omega arith in
    pushed
    ∙ (λ j. so_far j ++ ((is ∙ ap (λ (k : ℕ). widest i k rows) is_long) j ∷ []))
    ∙ ap (λ (k : ℕ). widths_from 0 (take i headings) rows ++ (widest k (length (get_or headings i [])) rows ∷ [])) from_none
    ∙ widths_more 0 headings rows i [] below
    ∙ ap (λ (k : ℕ). widths_from 0 (take k headings) rows) step

-- a line whose texts are written is ended
pub line_ended : (texts : List (List ℕ)) (i : ℕ) (old out done : List ℕ) → take i texts ≡ texts
    → out ≡ old ++ separated (codes "  ") (take i texts) → done ≡ out ++ (10 ∷ []) → done ≡ old ++ spaced_line texts
line_ended texts i old out done all so_far end =
    end
    ∙ ap (λ (front : List ℕ). front ++ (10 ∷ [])) (so_far ∙ ap (λ (ts : List (List ℕ)). old ++ separated (codes "  ") ts) all)
    ∙ append_assoc old (separated (codes "  ") texts) (10 ∷ [])
