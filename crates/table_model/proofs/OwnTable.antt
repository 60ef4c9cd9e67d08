-- To fold a name twice is to fold it once, and folding keeps what makes it an identifier: so a schema's own parts give it again.
use Rattle.std.specs.Prelude.{◌≡◌, ℕ, ◌≤◌, Bool, true, false, cond, not, ◌&&◌, ◌||◌, nat_le, nat_lt, List, [], ◌∷◌, map, length, Ok, Err, Result}
use Rattle.std.specs.List.{list_any, list_all}
use Rattle.std.specs.Char.{to_ascii_uppercase, is_ascii_alphabetic}
use Rattle.std.proofs.Common.{refl, ap, ◌∙◌, arith}
use Rattle.std.proofs.lemmas.Bool.Decides.{nat_tests}
use Rattle.std.proofs.lemmas.List.{length-map}
use Rattle.std.proofs.lemmas.Str.Ascii.{uppercase-uppercase}
use Rattle.table_model.specs.Identifier.{folded, same_text, keywords, is_keyword, is_word_byte, word_limit, is_word, is_identifier}
use Rattle.table_model.specs.Table.{Table, has_name, are_distinct, name_of, is_named, column_limit, is_schema, column_of, asked_of, folded_table, schema_of, IsTable}
use Rattle.table_model.specs.declared.schema.ColType.{ColType}
use Rattle.table_model.specs.declared.refusal.Refusal.{Refusal}
use Rattle.table_model.specs.declared.refusal.Refusal.TheVariants.{BadSchema}

folded-folded : (text : List ℕ) → folded (folded text) ≡ folded text
folded-folded [] = refl
folded-folded (c ∷ cs) = let here = uppercase-uppercase c in let rest = folded-folded cs in λ i. here i ∷ rest i

alphabetic-uppercase : (c : ℕ) → is_ascii_alphabetic (to_ascii_uppercase c) ≡ is_ascii_alphabetic c
alphabetic-uppercase c = grind (arith, nat_tests)

word_byte-uppercase : (c : ℕ) → is_word_byte (to_ascii_uppercase c) ≡ is_word_byte c
word_byte-uppercase c = grind (arith, nat_tests)

word_bytes-folded : (text : List ℕ) → list_all is_word_byte (folded text) ≡ list_all is_word_byte text
word_bytes-folded [] = refl
word_bytes-folded (c ∷ cs) = let here = word_byte-uppercase c in let rest = word_bytes-folded cs in λ i. here i && rest i

is_word-folded : (text : List ℕ) → is_word (folded text) ≡ is_word text
is_word-folded [] = refl
is_word-folded (c ∷ cs) =
    let first = alphabetic-uppercase c in
    let rest = word_bytes-folded cs in
    let long = length-map cs to_ascii_uppercase in
    λ i. first i && (rest i && nat_lt (long i) word_limit)

is_keyword-folded : (text : List ℕ) → is_keyword (folded text) ≡ is_keyword text
unfolding is_keyword
is_keyword-folded text = ap (λ t. list_any (λ word. same_text t (folded word)) keywords) (folded-folded text)

is_identifier-folded : (text : List ℕ) → is_identifier (folded text) ≡ is_identifier text
is_identifier-folded text = let word = is_word-folded text in let keyword = is_keyword-folded text in λ i. word i && not (keyword i)

-- the columns of a schema as they would be asked for
abbrev again : List (List ℕ × ColType) → List (List ℕ × ColType)
again columns = map asked_of (map column_of columns)

are_named-again : (columns : List (List ℕ × ColType)) → list_all is_named (again columns) ≡ list_all is_named columns
are_named-again [] = refl
are_named-again (c ∷ cs) = let here = is_identifier-folded c.0 in let rest = are_named-again cs in λ i. here i && rest i

is_among-again : (name : List ℕ) (columns : List (List ℕ × ColType)) → list_any (has_name (folded name)) (map name_of (again columns)) ≡ list_any (has_name name) (map name_of columns)
is_among-again name [] = refl
is_among-again name (c ∷ cs) =
    let left = folded-folded name in
    let right = folded-folded c.0 in
    let rest = is_among-again name cs in
    λ i. same_text (left i) (right i) || rest i

are_distinct-again : (columns : List (List ℕ × ColType)) → are_distinct (map name_of (again columns)) ≡ are_distinct (map name_of columns)
are_distinct-again [] = refl
are_distinct-again (c ∷ cs) = let here = is_among-again c.0 cs in let rest = are_distinct-again cs in λ i. not (here i) && rest i

length-again : (columns : List (List ℕ × ColType)) → length (again columns) ≡ length columns
length-again columns = length-map (map column_of columns) asked_of ∙ length-map columns column_of

is_schema-again : (table : List ℕ) (columns : List (List ℕ × ColType)) → is_schema (folded table) (again columns) ≡ is_schema table columns
unfolding is_schema
is_schema-again table columns =
    let name = is_identifier-folded table in
    let long = length-again columns in
    let named = are_named-again columns in
    let distinct = are_distinct-again columns in
    λ i. name i && (nat_le 1 (long i) && (nat_le (long i) column_limit && (named i && distinct i)))

columns-again : (columns : List (List ℕ × ColType)) → map column_of (again columns) ≡ map column_of columns
columns-again [] = refl
columns-again (c ∷ cs) = let here = folded-folded c.0 in let rest = columns-again cs in λ i. record { name = here i; column_type = c.1 } ∷ rest i

folded_table-again : (table : List ℕ) (columns : List (List ℕ × ColType)) → folded_table (folded table) (again columns) ≡ folded_table table columns
folded_table-again table columns = let name = folded-folded table in let same = columns-again columns in λ i. record { name = name i; columns = same i }

itself : (table : List ℕ) (columns : List (List ℕ × ColType)) → is_schema table columns ≡ true → schema_of (folded table) (again columns) ≡ Ok (folded_table table columns)
itself table columns h =
    let yes : is_schema (folded table) (again columns) ≡ true = is_schema-again table columns ∙ h in
    let refused : Result Table Refusal = Err BadSchema in
    ap (λ b. cond b (Ok (folded_table (folded table) (again columns))) refused) yes ∙ ap Ok (folded_table-again table columns)

second_third : (a b c d : Bool) → (a && (b && (c && d))) ≡ true → (b ≡ true) × (c ≡ true)
second_third true true true d e = (refl, refl)
second_third true true false d e = cc
second_third true false c d e = cc
second_third false b c d e = cc

lengths : (table : List ℕ) (columns : List (List ℕ × ColType)) → is_schema table columns ≡ true → (1 ≤ length columns) × (length columns ≤ column_limit)
unfolding is_schema
lengths table columns h =
    let both : (nat_le 1 (length columns) ≡ true) × (nat_le (length columns) column_limit ≡ true) = second_third (is_identifier table) (nat_le 1 (length columns)) (nat_le (length columns) column_limit) (list_all is_named columns && are_distinct (map name_of columns)) h in
    let least : nat_le 1 (length columns) ≡ true = both.0 in
    let most : nat_le (length columns) column_limit ≡ true = both.1 in
    (grind (arith, nat_tests, least), grind (arith, nat_tests, most))

pub IsTable-folded : (table : List ℕ) (columns : List (List ℕ × ColType)) → is_schema table columns ≡ true → IsTable (folded_table table columns)
IsTable-folded table columns h =
    let limits = lengths table columns h in
    let long : length (map column_of columns) ≡ length columns = length-map columns column_of in
    record {
      some = omega (arith, limits.0, long);
      limit = omega (arith, limits.1, long);
      itself = itself table columns h;
    }
