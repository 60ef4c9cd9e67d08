-- Words are read one by one.
use Rattle.std.specs.Prelude.{◌≡◌, ℕ, suc, List, [], ◌∷◌, ◌++◌, Option, Some, None, Err}
use Rattle.std.proofs.Common.{ap, ◌∙◌}
use Rattle.table_model.specs.Table.{ColumnShape}
use Rattle.csv_rows.specs.CsvText.{◌>>=◌}
use Rattle.csv_rows.specs.Wording.{word_field, or_word, order_by}

-- one word more
pub words_more : (columns : List ColumnShape) (at : ℕ) (before : List (Option ℕ)) (words : List (List ℕ)) (word : List ℕ) (left : List (List ℕ)) (field : Option ℕ) → words ≡ word ∷ left → word_field columns before word ≡ Some field
    → order_by columns at before words ≡ order_by columns (suc at) (before ++ (field ∷ [])) left
words_more columns at before words word left field is some =
    ap (order_by columns at before) is ∙ ap (λ (o : Option (Option ℕ)). or_word at o >>= (λ f. order_by columns (suc at) (before ++ (f ∷ [])) left)) some

-- a word at fault
pub words_stop : (columns : List ColumnShape) (at : ℕ) (before : List (Option ℕ)) (words : List (List ℕ)) (word : List ℕ) (left : List (List ℕ)) → words ≡ word ∷ left → word_field columns before word ≡ None
    → order_by columns at before words ≡ Err at
words_stop columns at before words word left is none =
    ap (order_by columns at before) is ∙ ap (λ (o : Option (Option ℕ)). or_word at o >>= (λ f. order_by columns (suc at) (before ++ (f ∷ [])) left)) none
