-- Two words begin a column, and what is left of the line goes on with the next.
use Rattle.std.specs.Prelude.{◌≡◌, ℕ, List, [], ◌∷◌, ◌++◌, Option, Some, None, option_map, option_and_then}
use Rattle.std.proofs.Common.{refl, sym, ap, ◌∙◌, append_assoc}
use Rattle.table_model.specs.Table.{type_named}
use Rattle.table_model.specs.declared.schema.ColType.{ColType}
use Rattle.script_lines.specs.Word.{cut, some_text}
use Rattle.table_model.specs.Pieces.{pieces}
use Rattle.script_lines.specs.Line.{column_of, columns_of}
use Rattle.script_lines.proofs.Cuts.{pieces_at, pieces_cut}
use Rattle.script_lines.proofs.RowLaws.{after_all}

pub pieces_of_cut : (text word rest : List ℕ) → Some (word, rest) ≡ cut 32 text → pieces 32 text ≡ word ∷ pieces 32 rest
pieces_of_cut text word rest at = pieces_cut 32 text ∙ ap (pieces_at 32 text) (sym at)

pub pieces_of_none : (text : List ℕ) → None ≡ cut 32 text → pieces 32 text ≡ text ∷ []
pieces_of_none text at = pieces_cut 32 text ∙ ap (pieces_at 32 text) (sym at)

pub column_none : (words : List ℕ) → None ≡ cut 32 words → columns_of (pieces 32 words) ≡ None
column_none words at = ap columns_of (pieces_of_none words at)

-- a column before what the next ones are
abbrev pub column_before : List (List ℕ) → Option (List ℕ × ColType) → Option (List (List ℕ × ColType))
column_before more o = option_and_then (λ (column : List ℕ × ColType). option_map (λ columns. column ∷ columns) (columns_of more)) o

column_first : (words name after word : List ℕ) (more : List (List ℕ)) → Some (name, after) ≡ cut 32 words → pieces 32 after ≡ word ∷ more
    → columns_of (pieces 32 words) ≡ column_before more (column_of name word)
column_first words name after word more at next = ap columns_of (pieces_of_cut words name after at) ∙ ap (λ ps. columns_of (name ∷ ps)) next

abbrev named : List ℕ → ColType → Option (List ℕ × ColType)
named name t = Some (name, t)

bad_type : (o : Option (List ℕ)) (word : List ℕ) → None ≡ type_named word → option_and_then (λ column. option_and_then (named column) (type_named word)) o ≡ None
bad_type None word bad = refl
bad_type (Some name) word bad = ap (option_and_then (named name)) (sym bad)

pub column_bad_name : (words name after word : List ℕ) (more : List (List ℕ)) → Some (name, after) ≡ cut 32 words → pieces 32 after ≡ word ∷ more → None ≡ some_text name → columns_of (pieces 32 words) ≡ None
column_bad_name words name after word more at next bad =
    column_first words name after word more at next ∙ ap (λ o. column_before more (option_and_then (λ column. option_and_then (named column) (type_named word)) o)) (sym bad)

pub column_bad_type : (words name after word : List ℕ) (more : List (List ℕ)) → Some (name, after) ≡ cut 32 words → pieces 32 after ≡ word ∷ more → None ≡ type_named word → columns_of (pieces 32 words) ≡ None
column_bad_type words name after word more at next bad = column_first words name after word more at next ∙ ap (column_before more) (bad_type (some_text name) word bad)

pub column_good : (words name after word : List ℕ) (more : List (List ℕ)) (n : List ℕ) (t : ColType) → Some (name, after) ≡ cut 32 words → pieces 32 after ≡ word ∷ more → Some n ≡ some_text name → Some t ≡ type_named word
    → columns_of (pieces 32 words) ≡ option_map (λ columns. (n, t) ∷ columns) (columns_of more)
column_good words name after word more n t at next is_name is_type =
    column_first words name after word more at next
    ∙ ap (λ o. column_before more (option_and_then (λ column. option_and_then (named column) (type_named word)) o)) (sym is_name)
    ∙ ap (λ o. column_before more (option_and_then (named n) o)) (sym is_type)

pub columns_more : (xs : List (List ℕ × ColType)) (column : List ℕ × ColType) (o : Option (List (List ℕ × ColType))) → after_all xs (option_map (λ columns. column ∷ columns) o) ≡ after_all (xs ++ (column ∷ [])) o
columns_more xs column None = refl
columns_more xs column (Some ys) = ap Some (sym (append_assoc xs (column ∷ []) ys))
