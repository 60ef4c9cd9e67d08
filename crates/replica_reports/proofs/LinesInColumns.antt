-- Lines of texts, one column and one line after another.
use Rattle.std.proofs.Common.{◌≡◌, ◌∙◌, ◌⊎◌, ℕ, zero, suc, ◌+◌, ◌<◌, ◌≤◌, max, nat_lt, Bool, List, [], ◌∷◌, ◌++◌, length, take, get_or, refl, ap, inl, inr, arith}
use Rattle.std.proofs.lemmas.List.{take_all}
use Rattle.replica_reports.specs.ColumnTexts.{widest_in, column_widths, member_text, line_members}

-- ---- widths

-- one line more
widest_more : (column width : ℕ) (lines : List (List (List ℕ))) (i : ℕ) (d : List (List ℕ)) → i < length lines
    → max (widest_in column width (take i lines)) (length (get_or (get_or lines i d) column [])) ≡ widest_in column width (take (suc i) lines)
widest_more column width [] i d below = absurd (omega (arith, below))
widest_more column width (line ∷ lines) zero d below = refl
widest_more column width (line ∷ lines) (suc i) d below = widest_more column (max width (length (get_or line column []))) lines i d (omega (arith, below))

-- one column more
widths_more : (column : ℕ) (headings : List (List ℕ)) (lines : List (List (List ℕ))) (i : ℕ) (d : List ℕ) → i < length headings
    → column_widths column (take i headings) lines ++ (widest_in (column + i) (length (get_or headings i d)) lines ∷ []) ≡ column_widths column (take (suc i) headings) lines
widths_more column [] lines i d below = absurd (omega (arith, below))
widths_more column (heading ∷ headings) lines zero d below = ap (λ (k : ℕ). widest_in k (length heading) lines ∷ []) (omega arith)
widths_more column (heading ∷ headings) lines (suc i) d below =
    let here : column + suc i ≡ column + 1 + i = omega arith in
    ap (λ (k : ℕ). widest_in column (length heading) lines ∷ (column_widths (column + 1) (take i headings) lines ++ (widest_in k (length (get_or headings i d)) lines ∷ []))) here
    ∙ ap (λ (rest : List ℕ). widest_in column (length heading) lines ∷ rest) (widths_more (column + 1) headings lines i d (omega (arith, below)))

-- the width of a column with one line more
pub widest_next : (column heading : ℕ) (lines : List (List (List ℕ))) (i width long wider : ℕ) → i < length lines → width ≡ widest_in column heading (take i lines)
    → long ≡ length (get_or (get_or lines i []) column []) → wider ≡ max width long → wider ≡ widest_in column heading (take (i + 1) lines)
widest_next column heading lines i width long wider below so_far is_long is =
    let step : suc i ≡ i + 1 = omega arith in
    is ∙ (λ j. max (so_far j) (is_long j)) ∙ widest_more column heading lines i [] below ∙ ap (λ (k : ℕ). widest_in column heading (take k lines)) step

-- the widths with one column more
pub widths_next : (headings : List (List ℕ)) (lines : List (List (List ℕ))) (i heading width : ℕ) (old new : List ℕ) → i < length headings → old ≡ column_widths 0 (take i headings) lines
    → heading ≡ length (get_or headings i []) → width ≡ widest_in i heading lines → new ≡ old ++ (width ∷ []) → new ≡ column_widths 0 (take (i + 1) headings) lines
widths_next headings lines i heading width old new below so_far is_long is pushed =
    let step : suc i ≡ i + 1 = omega arith in
    let from_none : i ≡ 0 + i = omega arith in
    pushed
    ∙ (λ j. so_far j ++ ((is ∙ ap (λ (k : ℕ). widest_in i k lines) is_long) j ∷ []))
    ∙ ap (λ (k : ℕ). column_widths 0 (take i headings) lines ++ (widest_in k (length (get_or headings i [])) lines ∷ [])) from_none
    ∙ widths_more 0 headings lines i [] below
    ∙ ap (λ (k : ℕ). column_widths 0 (take k headings) lines) step

-- ---- the members of an object

members_length : (texts at : ℕ) (keys line : List (List ℕ)) (i : ℕ) → (length keys ≤ i) ⊎ (length line ≤ i) → length (line_members texts at keys line) ≤ i
members_length texts at [] line i end = omega arith
members_length texts at (key ∷ keys) [] i end = omega arith
members_length texts at (key ∷ keys) (cell ∷ line) zero (inl end) = omega (arith, end)
members_length texts at (key ∷ keys) (cell ∷ line) zero (inr end) = omega (arith, end)
members_length texts at (key ∷ keys) (cell ∷ line) (suc i) (inl end) = let rest = members_length texts (at + 1) keys line i (inl (omega (arith, end))) in omega (arith, rest)
members_length texts at (key ∷ keys) (cell ∷ line) (suc i) (inr end) = let rest = members_length texts (at + 1) keys line i (inr (omega (arith, end))) in omega (arith, rest)

-- there is a member for each key with a cell
pub members_end : (texts : ℕ) (keys line : List (List ℕ)) (i : ℕ) → (length keys ≤ i) ⊎ (length line ≤ i) → take i (line_members texts 0 keys line) ≡ line_members texts 0 keys line
members_end texts keys line i end = take_all i (line_members texts 0 keys line) (members_length texts 0 keys line i end)

pub members_below : (texts at : ℕ) (keys line : List (List ℕ)) (i : ℕ) → i < length keys → i < length line → i < length (line_members texts at keys line)
members_below texts at [] line i below inside = below
members_below texts at (key ∷ keys) [] i below inside = inside
members_below texts at (key ∷ keys) (cell ∷ line) zero below inside = omega arith
members_below texts at (key ∷ keys) (cell ∷ line) (suc i) below inside = let rest = members_below texts (at + 1) keys line i (omega (arith, below)) (omega (arith, inside)) in omega (arith, rest)

members_from : (texts at : ℕ) (keys line : List (List ℕ)) (i : ℕ) → i < length keys → i < length line
    → member_text (nat_lt (at + i) texts) (get_or keys i []) (get_or line i []) ≡ get_or (line_members texts at keys line) i []
members_from texts at [] line i below inside = absurd (omega (arith, below))
members_from texts at (key ∷ keys) [] i below inside = absurd (omega (arith, inside))
members_from texts at (key ∷ keys) (cell ∷ line) zero below inside = ap (λ (n : ℕ). member_text (nat_lt n texts) key cell) (omega arith)
members_from texts at (key ∷ keys) (cell ∷ line) (suc i) below inside =
    let here : at + suc i ≡ at + 1 + i = omega arith in
    ap (λ (n : ℕ). member_text (nat_lt n texts) (get_or keys i []) (get_or line i [])) here
    ∙ members_from texts (at + 1) keys line i (omega (arith, below)) (omega (arith, inside))

-- the member at a place
pub member_at : (texts : ℕ) (keys line : List (List ℕ)) (i : ℕ) (is_text : Bool) (key cell : List ℕ) → i < length keys → i < length line
    → is_text ≡ nat_lt i texts → key ≡ get_or keys i [] → cell ≡ get_or line i [] → member_text is_text key cell ≡ get_or (line_members texts 0 keys line) i []
member_at texts keys line i is_text key cell below inside tested is_key is_cell =
    let from_none : i ≡ 0 + i = omega arith in
    (λ j. member_text (tested j) (is_key j) (is_cell j))
    ∙ ap (λ (n : ℕ). member_text (nat_lt n texts) (get_or keys i []) (get_or line i [])) from_none
    ∙ members_from texts 0 keys line i below inside
