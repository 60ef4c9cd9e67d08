-- What was read of a row or of rows, before what the rest of the text gives, stays what the whole text gives.
use Rattle.std.specs.Prelude.{◌≡◌, ◌⊎◌, ℕ, true, false, cond, ◌==◌, List, [], ◌∷◌, ◌++◌, length, Option, Some, None, option_map, ℤ}
use Rattle.std.proofs.Common.{refl, sym, ap, ◌∙◌, append_assoc, inl, inr, arith}
use Rattle.std.proofs.lemmas.Bool.{eqb-true}
use Rattle.std.proofs.lemmas.Bool.Decides.{nat_tests}
use Rattle.std.proofs.lemmas.List.{nil_from_length}
use Rattle.table_model.specs.State.{Cells, Batch}
use Rattle.table_model.specs.declared.refusal.Refusal.{Refusal}
use Rattle.table_model.specs.declared.refusal.Refusal.TheVariants.{Memory, BadLine}
use Rattle.script_lines.specs.Word.{◌>>=◌, cut, each_of, cell_of, cells_of, opened_cells, rows_from, rows_of}
use Rattle.table_model.specs.Pieces.{pieces, onto_first, without}
use Rattle.script_lines.proofs.Cuts.{pieces_at, pieces_cut}

-- a list before what is given, if anything is
abbrev pub after_all : {X : Type 0} → List X → Option (List X) → Option (List X)
after_all xs o = option_map (λ ys. xs ++ ys) o

one_more : {X : Type 0} (xs : List X) (y : X) (o : Option (List X)) → after_all xs (option_map (λ ys. y ∷ ys) o) ≡ after_all (xs ++ (y ∷ [])) o
one_more xs y None = refl
one_more xs y (Some ys) = ap Some (sym (append_assoc xs (y ∷ []) ys))

-- the values of a text that is cut at a comma
cells_first : (rest value after : List ℕ) → Some (value, after) ≡ cut 44 rest → cells_of rest ≡ each_of cell_of (value ∷ pieces 44 after)
cells_first rest value after at = ap (each_of cell_of) (pieces_cut 44 rest ∙ ap (pieces_at 44 rest) (sym at))

cells_last : (rest : List ℕ) → None ≡ cut 44 rest → cells_of rest ≡ each_of cell_of (rest ∷ [])
cells_last rest at = ap (each_of cell_of) (pieces_cut 44 rest ∙ ap (pieces_at 44 rest) (sym at))

each_good : (xs : Cells) (value : List ℕ) (texts : List (List ℕ)) (y : Option ℤ) → Some y ≡ cell_of value → after_all xs (each_of cell_of (value ∷ texts)) ≡ after_all (xs ++ (y ∷ [])) (each_of cell_of texts)
each_good xs value texts y is = ap (λ (o : Option (Option ℤ)). after_all xs (o >>= (λ y. option_map (λ ys. y ∷ ys) (each_of cell_of texts)))) (sym is) ∙ one_more xs y (each_of cell_of texts)

each_bad : (xs : Cells) (value : List ℕ) (texts : List (List ℕ)) → None ≡ cell_of value → after_all xs (each_of cell_of (value ∷ texts)) ≡ None
each_bad xs value texts is = ap (λ (o : Option (Option ℤ)). after_all xs (o >>= (λ y. option_map (λ ys. y ∷ ys) (each_of cell_of texts)))) (sym is)

pub cells_more : (xs : Cells) (rest value after : List ℕ) (y : Option ℤ) → Some (value, after) ≡ cut 44 rest → Some y ≡ cell_of value → after_all xs (cells_of rest) ≡ after_all (xs ++ (y ∷ [])) (cells_of after)
cells_more xs rest value after y at is = ap (after_all xs) (cells_first rest value after at) ∙ each_good xs value (pieces 44 after) y is

pub cells_bad : (xs : Cells) (rest value after : List ℕ) → Some (value, after) ≡ cut 44 rest → None ≡ cell_of value → after_all xs (cells_of rest) ≡ None
cells_bad xs rest value after at is = ap (after_all xs) (cells_first rest value after at) ∙ each_bad xs value (pieces 44 after) is

pub cells_all : (xs : Cells) (rest : List ℕ) (y : Option ℤ) → None ≡ cut 44 rest → Some y ≡ cell_of rest → after_all xs (cells_of rest) ≡ Some (xs ++ (y ∷ []))
cells_all xs rest y at is = ap (after_all xs) (cells_last rest at) ∙ each_good xs rest [] y is ∙ ap Some (append_assoc xs (y ∷ []) [] ∙ refl)

pub cells_all_bad : (xs : Cells) (rest : List ℕ) → None ≡ cut 44 rest → None ≡ cell_of rest → after_all xs (cells_of rest) ≡ None
cells_all_bad xs rest at is = ap (after_all xs) (cells_last rest at) ∙ each_bad xs rest [] is

-- a row before what the rows after it are
abbrev pub row_before : Option Cells → Option Batch → Option Batch
row_before o rows = o >>= (λ row. option_map (λ rs. row ∷ rs) rows)

-- there is always a first piece
pub first_piece : (c : ℕ) (text : List ℕ) → (p : List ℕ) × (ps : List (List ℕ)) × (pieces c text ≡ p ∷ ps)
first_piece c text = shape (cut c text) (pieces_cut c text) where
  shape : (o : Option (List ℕ × List ℕ)) → pieces c text ≡ pieces_at c text o → (p : List ℕ) × (ps : List (List ℕ)) × (pieces c text ≡ p ∷ ps)
  shape None e = (text, [], e)
  shape (Some parts) e = (parts.0, pieces c parts.1, e)

pub rows_first : (rest row after : List ℕ) → Some (row, after) ≡ cut 41 rest → rows_of rest ≡ row_before (opened_cells row) (rows_from (pieces 41 after))
rows_first rest row after at =
    let next = first_piece 41 after in
    ap (λ (ps : List (List ℕ)). rows_from (onto_first 44 ps)) (pieces_cut 41 rest ∙ ap (pieces_at 41 rest) (sym at))
    ∙ ap (λ (ps : List (List ℕ)). rows_from ((44 ∷ row) ∷ ps)) next.2
    ∙ sym (ap (λ (ps : List (List ℕ)). row_before (opened_cells row) (rows_from ps)) next.2)

pub rows_none : (rest : List ℕ) → None ≡ cut 41 rest → rows_of rest ≡ None
rows_none rest at = ap (λ (ps : List (List ℕ)). rows_from (onto_first 44 ps)) (pieces_cut 41 rest ∙ ap (pieces_at 41 rest) (sym at))

-- after a comma come rows
pub rows_comma : (after next : List ℕ) → Some next ≡ without 44 after → rows_from (pieces 41 after) ≡ rows_of next
rows_comma [] next e = cc
rows_comma (c ∷ cs) next e =
    elim (c == 44) as (λ t. (c == 44) ≡ t → Some next ≡ cond t (Some cs) None → rows_from (pieces 41 (c ∷ cs)) ≡ rows_of next) [
      | true ↦ λ t is. let byte : c ≡ 44 = grind (arith, nat_tests) in let rest : next ≡ cs = cc in (λ i. rows_from (pieces 41 (byte i ∷ sym rest i)))
      | false ↦ λ t is. cc
    ] refl e

pub rows_no_comma : (c : ℕ) (cs : List ℕ) → None ≡ without 44 (c ∷ cs) → rows_from (pieces 41 (c ∷ cs)) ≡ None
rows_no_comma c cs e =
    let next = first_piece 41 cs in
    elim (c == 41) as (λ t. rows_from (cond t ([] ∷ pieces 41 cs) (onto_first c (pieces 41 cs))) ≡ None) [
      | true ↦ ap (λ (ps : List (List ℕ)). rows_from ([] ∷ ps)) next.2
      | false ↦ ap (λ (ps : List (List ℕ)). rows_from (onto_first c ps)) next.2 ∙ opened next.0 next.1
    ] where
      opened : (p : List ℕ) (ps : List (List ℕ)) → rows_from ((c ∷ p) ∷ ps) ≡ None
      opened p [] = refl
      opened p (q ∷ qs) = elim (c == 44) as (λ t. None ≡ cond t (Some cs) None → row_before (cond t (Some p) None >>= opened_cells) (rows_from (q ∷ qs)) ≡ None) [
        | true ↦ λ no. cc
        | false ↦ λ no. refl
      ] e

row_good : (xs : Batch) (row : List ℕ) (r : Cells) (rows : Option Batch) → opened_cells row ≡ Some r → after_all xs (row_before (opened_cells row) rows) ≡ after_all (xs ++ (r ∷ [])) rows
row_good xs row r rows is = ap (λ (o : Option Cells). after_all xs (row_before o rows)) is ∙ one_more xs r rows

pub rows_more : (xs : Batch) (rest row after next : List ℕ) (r : Cells) → Some (row, after) ≡ cut 41 rest → opened_cells row ≡ Some r → Some next ≡ without 44 after → after_all xs (rows_of rest) ≡ after_all (xs ++ (r ∷ [])) (rows_of next)
rows_more xs rest row after next r at is comma =
    ap (after_all xs) (rows_first rest row after at) ∙ row_good xs row r (rows_from (pieces 41 after)) is ∙ ap (after_all (xs ++ (r ∷ []))) (rows_comma after next comma)

rows_last : (xs : Batch) (rest row : List ℕ) (r : Cells) → Some (row, []) ≡ cut 41 rest → opened_cells row ≡ Some r → after_all xs (rows_of rest) ≡ Some (xs ++ (r ∷ []))
rows_last xs rest row r at is = ap (after_all xs) (rows_first rest row [] at) ∙ row_good xs row r (Some []) is ∙ ap Some (append_assoc xs (r ∷ []) [])

pub rows_all : (xs : Batch) (rest row after : List ℕ) (r : Cells) → Some (row, after) ≡ cut 41 rest → opened_cells row ≡ Some r → (length after == 0) ≡ true → after_all xs (rows_of rest) ≡ Some (xs ++ (r ∷ []))
rows_all xs rest row after r at is empty = rows_last xs rest row r (ap (λ (a : List ℕ). Some (row, a)) (sym (nil_from_length after (eqb-true (length after) 0 empty))) ∙ at) is

pub rows_no_more : (xs : Batch) (rest row after : List ℕ) (r : Cells) → Some (row, after) ≡ cut 41 rest → opened_cells row ≡ Some r → (length after == 0) ≡ false → None ≡ without 44 after → after_all xs (rows_of rest) ≡ None
rows_no_more xs rest row [] r at is some none = cc
rows_no_more xs rest row (c ∷ cs) r at is some none =
    ap (after_all xs) (rows_first rest row (c ∷ cs) at) ∙ row_good xs row r (rows_from (pieces 41 (c ∷ cs))) is ∙ ap (after_all (xs ++ (r ∷ []))) (rows_no_comma c cs none)

-- a row that isn't read leaves the rows unread, for the same cause
pub rows_unread : (xs : Batch) (text rest row after : List ℕ) (e : Refusal) → after_all xs (rows_of rest) ≡ rows_of text → Some (row, after) ≡ cut 41 rest
    → ((opened_cells row ≡ None) × (e ≡ BadLine)) ⊎ (e ≡ Memory) → ((rows_of text ≡ None) × (e ≡ BadLine)) ⊎ (e ≡ Memory)
rows_unread xs text rest row after e so_far at (inl bad) =
    inl (sym so_far ∙ ap (after_all xs) (rows_first rest row after at) ∙ ap (λ (o : Option Cells). after_all xs (row_before o (rows_from (pieces 41 after)))) bad.0, bad.1)
rows_unread xs text rest row after e so_far at (inr lack) = inr lack
