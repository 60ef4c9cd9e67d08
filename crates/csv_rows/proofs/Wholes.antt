-- Whole lines: a text that ends with a line feed goes on with the next line, and what is left of it is whole again.
use Rattle.std.specs.Prelude.{◌≡◌, ℕ, suc, ◌+◌, Bool, true, false, cond, ◌==◌, List, [], ◌∷◌, ◌++◌, length, Option, Some, None, option_and_then, Result, Ok}
use Rattle.std.proofs.Common.{refl, sym, ap, ◌∙◌, arith, append_assoc, inl, inr, subst}
use Rattle.std.proofs.lemmas.Bool.{eqb-true}
use Rattle.table_model.specs.Pieces.{pieces, onto_first, without}
use Rattle.table_model.specs.State.{Batch}
use Rattle.table_model.specs.Table.{Table, ColumnShape}
use Rattle.csv_rows.specs.CsvText.{◌>>=◌, before_rows, rows_from, lines_rows, heading_order, below_heading, headings, plain_order}
use Rattle.csv_rows.specs.DialectForm.{DialectForm}
use Rattle.csv_rows.specs.Line.{TextLine, text_or, ended, unended, lines_between, lines_of, unmarked, without_return, EndsLine, AreWhole}
use Rattle.csv_rows.specs.declared.error.CsvError.{CsvError}
use Rattle.csv_rows.proofs.Cuts.{all_ended, lines_cut, pieces_cut, between_both, rows_both}
use Rattle.csv_rows.proofs.Pieces.{first_piece}

-- ---- a text goes on

on_behind : (front more : List ℕ) → (front ++ (10 ∷ [])) ++ more ≡ front ++ 10 ∷ more
on_behind front more = append_assoc front (10 ∷ []) more

-- the lines of whole lines and of what follows them
pub lines_on : (text more : List ℕ) → EndsLine text → lines_of (text ++ more) ≡ lines_of text ++ lines_of more
lines_on text more ends =
    ap (λ (t : List ℕ). lines_of (t ++ more)) ends.1 ∙ ap lines_of (on_behind ends.0 more) ∙ lines_cut ends.0 more ∙ ap (λ (t : List ℕ). lines_of t ++ lines_of more) (sym ends.1)

pub whole_on : (text more : List ℕ) → AreWhole text → lines_of (text ++ more) ≡ lines_of text ++ lines_of more
whole_on text more (inl none) = ap (λ (t : List ℕ). lines_of (t ++ more)) none ∙ ap (λ (t : List ℕ). lines_of t ++ lines_of more) (sym none)
whole_on text more (inr ends) = lines_on text more ends

-- ---- a byte order mark before whole lines

abbrev second : Option (List ℕ) → Option (List ℕ)
second found = option_and_then (without 191) (option_and_then (without 187) found)

abbrev third : Option (List ℕ) → Option (List ℕ)
third found = option_and_then (without 191) found

unmarked_front : (front : List ℕ) → (kept : List ℕ) × ((more : List ℕ) → unmarked (front ++ 10 ∷ more) ≡ kept ++ 10 ∷ more)
unmarked_front [] = ([], λ more. refl)
unmarked_front (a ∷ []) = elim (a == 239) as (λ t. (kept : List ℕ) × ((more : List ℕ) → text_or (second (cond t (Some (10 ∷ more)) None)) (a ∷ 10 ∷ more) ≡ kept ++ 10 ∷ more)) [
  | true ↦ (a ∷ [], λ more. refl)
  | false ↦ (a ∷ [], λ more. refl)
]
unmarked_front (a ∷ b ∷ []) = elim (a == 239) as (λ t. (kept : List ℕ) × ((more : List ℕ) → text_or (second (cond t (Some (b ∷ 10 ∷ more)) None)) (a ∷ b ∷ 10 ∷ more) ≡ kept ++ 10 ∷ more)) [
  | true ↦ elim (b == 187) as (λ t. (kept : List ℕ) × ((more : List ℕ) → text_or (third (cond t (Some (10 ∷ more)) None)) (a ∷ b ∷ 10 ∷ more) ≡ kept ++ 10 ∷ more)) [
    | true ↦ (a ∷ b ∷ [], λ more. refl)
    | false ↦ (a ∷ b ∷ [], λ more. refl)
  ]
  | false ↦ (a ∷ b ∷ [], λ more. refl)
]
unmarked_front (a ∷ b ∷ c ∷ cs) = elim (a == 239) as (λ t. (kept : List ℕ) × ((more : List ℕ) → text_or (second (cond t (Some (b ∷ c ∷ (cs ++ 10 ∷ more))) None)) (a ∷ b ∷ c ∷ (cs ++ 10 ∷ more)) ≡ kept ++ 10 ∷ more)) [
  | true ↦ elim (b == 187) as (λ t. (kept : List ℕ) × ((more : List ℕ) → text_or (third (cond t (Some (c ∷ (cs ++ 10 ∷ more))) None)) (a ∷ b ∷ c ∷ (cs ++ 10 ∷ more)) ≡ kept ++ 10 ∷ more)) [
    | true ↦ elim (c == 191) as (λ t. (kept : List ℕ) × ((more : List ℕ) → text_or (cond t (Some (cs ++ 10 ∷ more)) None) (a ∷ b ∷ c ∷ (cs ++ 10 ∷ more)) ≡ kept ++ 10 ∷ more)) [
      | true ↦ (cs, λ more. refl)
      | false ↦ (a ∷ b ∷ c ∷ cs, λ more. refl)
    ]
    | false ↦ (a ∷ b ∷ c ∷ cs, λ more. refl)
  ]
  | false ↦ (a ∷ b ∷ c ∷ cs, λ more. refl)
]

pub unmarked_ends : (text : List ℕ) → EndsLine text → EndsLine (unmarked text)
unmarked_ends text ends = let found = unmarked_front ends.0 in (found.0, ap unmarked ends.1 ∙ found.1 [])

pub unmarked_on : (text more : List ℕ) → EndsLine text → unmarked (text ++ more) ≡ unmarked text ++ more
unmarked_on text more ends =
    let found = unmarked_front ends.0 in
    ap (λ (t : List ℕ). unmarked (t ++ more)) ends.1 ∙ ap unmarked (on_behind ends.0 more) ∙ found.1 more ∙ sym (on_behind found.0 more)
    ∙ ap (λ (t : List ℕ). t ++ more) (sym (ap unmarked ends.1 ∙ found.1 []))

-- ---- lines that have their ends

abbrev pub AllEnded : List TextLine → Type 0
AllEnded [] = Unit {0}
AllEnded (line ∷ lines) = (line.has_end ≡ true) × AllEnded lines

each_ended : (ps : List (List ℕ)) → AllEnded (all_ended ps)
each_ended [] = tt
each_ended (p ∷ ps) = (refl, each_ended ps)

-- the lines of whole lines, of which there is one at least
pub some_line : (text : List ℕ) → EndsLine text → (line : TextLine) × (lines : List TextLine) × (lines_of text ≡ line ∷ lines) × AllEnded (line ∷ lines)
some_line text ends =
    let found = first_piece 10 ends.0 in (
      ended (without_return found.0),
      all_ended found.1,
      ap lines_of ends.1 ∙ ap lines_between (pieces_cut ends.0 []) ∙ ap (λ (ps : List (List ℕ)). lines_between (ps ++ ([] ∷ []))) found.2 ∙ between_both (found.0 ∷ found.1) [] [] ∙ nothing (ended (without_return found.0) ∷ all_ended found.1),
      (refl, each_ended found.1),
    )
  where
    nothing : (ls : List TextLine) → ls ++ [] ≡ ls
    nothing [] = refl
    nothing (l ∷ ls) = ap (λ (rest : List TextLine). l ∷ rest) (nothing ls)

pub ended_lines : (text : List ℕ) → EndsLine text → AllEnded (lines_of text)
ended_lines text ends = let some = some_line text ends in subst AllEnded (sym some.2) some.3

ended_behind : (front back : List TextLine) → AllEnded (front ++ back) → AllEnded back
ended_behind [] back h = h
ended_behind (line ∷ front) back h = ended_behind front back h.1

pub below_ended : (has : Bool) (lines : List TextLine) → AllEnded lines → AllEnded (below_heading has lines)
below_ended false lines h = h
below_ended true [] h = tt
below_ended true (line ∷ lines) h = h.1

-- a text whose lines have their ends is whole
whole_of : (text : List ℕ) → AllEnded (lines_of text) → AreWhole text
whole_of [] h = inl refl
whole_of (c ∷ cs) h = elim (c == 10) as (λ t. (c == 10) ≡ t → AllEnded (lines_between (cond t ([] ∷ pieces 10 cs) (onto_first c (pieces 10 cs)))) → AreWhole (c ∷ cs)) [
  | true ↦ λ e h.
      let byte : c ≡ 10 = eqb-true c 10 e in
      let found = first_piece 10 cs in
      feed byte (whole_of cs (subst (λ (ps : List (List ℕ)). AllEnded (lines_between ps)) (sym found.2) (below found.0 found.1 (subst (λ (ps : List (List ℕ)). AllEnded (lines_between ([] ∷ ps))) found.2 h))))
  | false ↦ λ e h.
      let found = first_piece 10 cs in
      other found.0 found.1 found.2 (subst (λ (ps : List (List ℕ)). AllEnded (lines_between (onto_first c ps))) found.2 h) (λ g. whole_of cs g)
] refl h
  where
    below : (p : List ℕ) (ps : List (List ℕ)) → AllEnded (lines_between ([] ∷ p ∷ ps)) → AllEnded (lines_between (p ∷ ps))
    below p ps g = g.1

    feed : c ≡ 10 → AreWhole cs → AreWhole (c ∷ cs)
    feed byte (inl none) = inr ([], (λ i. byte i ∷ none i))
    feed byte (inr ends) = inr (c ∷ ends.0, ap (λ (t : List ℕ). c ∷ t) ends.1)

    onto : AreWhole cs → (p q : List ℕ) (ps : List (List ℕ)) → pieces 10 cs ≡ p ∷ q ∷ ps → AreWhole (c ∷ cs)
    onto (inl none) p q ps is = let empty : [] ∷ [] ≡ p ∷ q ∷ ps = ap (pieces 10) (sym none) ∙ is in cc
    onto (inr ends) p q ps is = inr (c ∷ ends.0, ap (λ (t : List ℕ). c ∷ t) ends.1)

    other : (p : List ℕ) (ps : List (List ℕ)) → pieces 10 cs ≡ p ∷ ps → AllEnded (lines_between ((c ∷ p) ∷ ps)) → (AllEnded (lines_of cs) → AreWhole cs) → AreWhole (c ∷ cs)
    other p [] is g next = elim (suc (length p) == 0) as (λ t. (suc (length p) == 0) ≡ t → AllEnded (cond t [] (unended (c ∷ p) ∷ [])) → AreWhole (c ∷ cs)) [
      | true ↦ λ e f. let none : suc (length p) ≡ 0 = eqb-true (suc (length p)) 0 e in absurd (omega arith)
      | false ↦ λ e f. let none : false ≡ true = f.0 in cc
    ] refl g
    other p (q ∷ ps) is g next = onto (next (subst (λ (xs : List (List ℕ)). AllEnded (lines_between xs)) (sym is) (refl, g.1))) p q ps is

pub whole_left : (lines taken : List TextLine) (rest : List ℕ) → AllEnded lines → lines ≡ taken ++ lines_of rest → AreWhole rest
whole_left lines taken rest ends is = whole_of rest (ended_behind taken (lines_of rest) (subst AllEnded is ends))

-- ---- rows

-- The rows of lines of which the first were read: of these rows, and then of the lines that are left and of what follows them.
pub rows_on : (dialect : DialectForm) (columns : List ColumnShape) (order : List (Option ℕ)) (n k : ℕ) (lines taken : List TextLine) (rest more : List ℕ) (made : Batch) → AreWhole rest → lines ≡ taken ++ lines_of rest
    → rows_from dialect columns order (suc n) taken ≡ Ok made → k ≡ n + length taken → rows_from dialect columns order (suc n) (lines ++ lines_of more) ≡ before_rows made (rows_from dialect columns order (suc k) (lines_of (rest ++ more)))
rows_on dialect columns order n k lines taken rest more made whole is read counted =
    let same : suc n + length taken ≡ suc k = omega (arith, counted) in
    ap (λ (ls : List TextLine). rows_from dialect columns order (suc n) (ls ++ lines_of more)) is
    ∙ ap (rows_from dialect columns order (suc n)) (append_assoc taken (lines_of rest) (lines_of more) ∙ ap (λ (ls : List TextLine). taken ++ ls) (sym (whole_on rest more whole)))
    ∙ rows_both dialect columns order (suc n) taken (lines_of (rest ++ more))
    ∙ ap (λ (r : Result Batch CsvError). r >>= (λ rows. before_rows rows (rows_from dialect columns order (suc n + length taken) (lines_of (rest ++ more))))) read
    ∙ ap (λ (m : ℕ). before_rows made (rows_from dialect columns order m (lines_of (rest ++ more)))) same

-- the rows of all lines are those of the lines below the header
pub rows_below : (dialect : DialectForm) (table : Table) (has : Bool) (lines more : List TextLine) (order : List (Option ℕ)) → heading_order dialect table has lines ≡ Ok order
    → lines_rows dialect table has (lines ++ more) ≡ rows_from dialect table.columns order (suc (headings has)) (below_heading has lines ++ more)
rows_below dialect table false lines more order is = let same : plain_order dialect.order table.columns ≡ order = cc in ap (λ (o : List (Option ℕ)). rows_from dialect table.columns o 1 (lines ++ more)) same
rows_below dialect table true [] more order is = cc
rows_below dialect table true (heading ∷ lines) more order is = ap (λ (r : Result (List (Option ℕ)) CsvError). r >>= (λ o. rows_from dialect table.columns o 2 (lines ++ more))) is
