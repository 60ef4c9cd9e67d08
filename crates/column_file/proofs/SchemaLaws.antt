-- The laws of a schema in bytes.
use Rattle.std.proofs.Common.{◌≡◌, ℕ, zero, suc, Bool, true, false, cond, not, ◌&&◌, ◌||◌, eqb, leb, List, [], ◌∷◌, ◌++◌, map, length, Some, Ok, refl, sym, ap, ◌∙◌, append_assoc, arith}
use Rattle.std.specs.List.{list_all, list_any}
use Rattle.std.proofs.lemmas.Bool.{eqb-true, leb-true, and_parts, and_from, or_parts, or_from, or_right}
use Rattle.std.proofs.lemmas.Bool.Decides.{nat_tests}
use Rattle.std.proofs.lemmas.List.{append-nil, length-map}
use Rattle.table_model.specs.Identifier.{folded, word_limit, is_identifier}
use Rattle.table_model.specs.Table.{Table, ColumnShape, IsTable, column_limit, has_name, are_distinct, is_named, name_of, asked_of, column_of, is_schema, folded_table}
use Rattle.table_model.specs.declared.schema.ColType.{ColType}
use Rattle.table_model.specs.declared.schema.ColType.TheVariants.{TinyInt, SmallInt, Integer, BigInt}
use Rattle.table_model.specs.declared.refusal.Refusal.TheVariants.{BadCount, BadSchema}
use Rattle.segment_core.specs.Format.{Format, IsLawful, is_byte, raw, number, seen, checked, before, all, valid_all}
use Rattle.segment_core.proofs.FormatLaws.{raw_is_lawful, seen_is_lawful, checked_is_lawful, before_is_lawful, all_is_lawful}
use Rattle.segment_core.proofs.NumberLaws.{number_is_lawful}
use Rattle.segment_core.proofs.VectorLaws.{some_is}
use Rattle.column_file.specs.SchemaBytes.{text, is_name, name, tag_of, first_tag, is_type_tag, type_tagged, column_type, is_upper, is_new, column, column_count, schema}

-- ---- names

pub text_is_lawful : IsLawful text
unfolding text
text_is_lawful =
    let test : ℕ → Bool = λ n. leb 1 n && leb n word_limit in
    let size = checked (number 1) test (λ _. BadSchema) in
    seen_is_lawful (before size raw) (λ p. p.1) (λ t. Some (length t, t))
    (before_is_lawful size raw (checked_is_lawful (number 1) test (λ _. BadSchema) (number_is_lawful 1)) (λ n valid. raw_is_lawful n))
    (λ p valid.
    let v = and_parts (size.valid p.0) ((raw p.0).valid p.1) valid in
    let long : length p.1 ≡ p.0 = eqb-true _ _ (and_parts (eqb (length p.1) p.0) (list_all is_byte p.1) v.1).0 in
    ap (λ (n : ℕ). Some (n, p.1)) long)
    (λ p t e. sym (ap (λ (q : ℕ × List ℕ). q.1) (some_is {A = ℕ × List ℕ} (length t, t) p e)))

pub name_is_lawful : IsLawful name
unfolding name
name_is_lawful = checked_is_lawful text is_name (λ _. BadSchema) text_is_lawful

-- ---- types

tag_known : (tag : ℕ) → (eqb tag 1 || first_tag tag) ≡ true → tag_of (type_tagged tag) ≡ tag
tag_known zero e = absurd cc
tag_known (suc zero) e = refl
tag_known (suc (suc zero)) e = refl
tag_known (suc (suc (suc zero))) e = absurd cc
tag_known (suc (suc (suc (suc zero)))) e = refl
tag_known (suc (suc (suc (suc (suc zero))))) e = absurd cc
tag_known (suc (suc (suc (suc (suc (suc zero)))))) e = absurd cc
tag_known (suc (suc (suc (suc (suc (suc (suc zero))))))) e = absurd cc
tag_known (suc (suc (suc (suc (suc (suc (suc (suc zero)))))))) e = refl
tag_known (suc (suc (suc (suc (suc (suc (suc (suc (suc n))))))))) e =
    let o : eqb (suc (suc (suc (suc (suc (suc (suc (suc (suc n))))))))) 1 ≡ false = grind (arith, nat_tests) in
    let a : eqb (suc (suc (suc (suc (suc (suc (suc (suc (suc n))))))))) 2 ≡ false = grind (arith, nat_tests) in
    let b : eqb (suc (suc (suc (suc (suc (suc (suc (suc (suc n))))))))) 4 ≡ false = grind (arith, nat_tests) in
    let c : eqb (suc (suc (suc (suc (suc (suc (suc (suc (suc n))))))))) 8 ≡ false = grind (arith, nat_tests) in
    let none : (false || (false || (false || false))) ≡ true = rw (o, a, b, c) at e in
    absurd cc

tag_is : (two : Bool) (tag : ℕ) → cond two (eqb tag 1 || first_tag tag) (first_tag tag) ≡ true → tag_of (type_tagged tag) ≡ tag
tag_is true tag e = tag_known tag e
tag_is false tag e = tag_known tag (or_right (eqb tag 1) (first_tag tag) e)

tag_gives_back : (t : ColType) → type_tagged (tag_of t) ≡ t
tag_gives_back TinyInt = refl
tag_gives_back SmallInt = refl
tag_gives_back Integer = refl
tag_gives_back BigInt = refl

pub column_type_is_lawful : (version : ℕ) → IsLawful (column_type version)
unfolding column_type
column_type_is_lawful version =
    seen_is_lawful (checked (number 1) (is_type_tag version) (λ _. BadSchema)) type_tagged (λ t. Some (tag_of t)) (checked_is_lawful (number 1) (is_type_tag version) (λ _. BadSchema) (number_is_lawful 1))
    (λ tag valid. ap Some (tag_is (eqb version 2) tag (and_parts ((number 1).valid tag) (is_type_tag version tag) valid).1))
    (λ tag t e. ap type_tagged (sym (some_is (tag_of t) tag e)) ∙ tag_gives_back t)

-- ---- columns and schemas

pub column_is_lawful : (version : ℕ) (front : List ColumnShape) → IsLawful (column version front)
unfolding column
column_is_lawful version front =
    let parts = before (column_type version) (λ _. name) in
    let made : ColType × List ℕ → ColumnShape = λ p. record { name = p.1; column_type = p.0 } in
    let shape = seen parts made (λ c. Some (c.column_type, c.name)) in
    checked_is_lawful shape (is_new front) (λ _. BadSchema)
    (seen_is_lawful parts made (λ c. Some (c.column_type, c.name)) (before_is_lawful (column_type version) (λ _. name) (column_type_is_lawful version) (λ t valid. name_is_lawful))
    (λ p valid. refl)
    (λ p c e. ap made (sym (some_is {A = ColType × List ℕ} (c.column_type, c.name) p e))))

pub column_count_is_lawful : IsLawful column_count
unfolding column_count
column_count_is_lawful = checked_is_lawful (number 2) (λ n. leb 1 n && leb n column_limit) BadCount (number_is_lawful 2)

pub schema_is_lawful : (version : ℕ) → IsLawful (schema version)
unfolding schema
schema_is_lawful version =
    let rest : ℕ → Format (List ℕ × List ColumnShape) = λ n. before name (λ _. all n (column version)) in
    let made : ℕ × (List ℕ × List ColumnShape) → Table = λ p. record { name = p.1.0; columns = p.1.1 } in
    seen_is_lawful (before column_count rest) made (λ t. Some (length t.columns, (t.name, t.columns)))
    (before_is_lawful column_count rest column_count_is_lawful (λ n valid. before_is_lawful name (λ _. all n (column version)) name_is_lawful (λ t v. all_is_lawful n (column version) (λ front below. column_is_lawful version front))))
    (λ p valid.
    let v = and_parts (column_count.valid p.0) ((rest p.0).valid p.1) valid in
    let w = and_parts (name.valid p.1.0) ((all p.0 (column version)).valid p.1.1) v.1 in
    let long : length p.1.1 ≡ p.0 = eqb-true _ _ (and_parts (eqb (length p.1.1) p.0) (valid_all (column version) [] p.1.1) w.1).0 in
    ap (λ (n : ℕ). Some (n, (p.1.0, p.1.1))) long)
    (λ p t e. ap made (sym (some_is {A = ℕ × (List ℕ × List ColumnShape)} (length t.columns, (t.name, t.columns)) p e)))

-- ---- what is valid is a schema

not_true : (b : Bool) → not b ≡ true → b ≡ false
not_true true e = absurd cc
not_true false e = refl

-- the names of columns
abbrev named : List ColumnShape → List (List ℕ)
named columns = map name_of (map asked_of columns)

among_push : (n : List ℕ) (front : List ColumnShape) (c : ColumnShape) → list_any (has_name n) (named front) ≡ false → has_name n c.name ≡ false → list_any (has_name n) (named (front ++ c ∷ [])) ≡ false
among_push n [] c e f = or_from (has_name n c.name) false f refl
among_push n (d ∷ front) c e f =
    let parts = or_parts (has_name n d.name) (list_any (has_name n) (named front)) e in
    or_from (has_name n d.name) (list_any (has_name n) (named (front ++ c ∷ []))) parts.0 (among_push n front c parts.1 f)

distinct_push : (front : List ColumnShape) (c : ColumnShape) → are_distinct (named front) ≡ true → list_any (λ (d : ColumnShape). has_name d.name c.name) front ≡ false → are_distinct (named (front ++ c ∷ [])) ≡ true
distinct_push [] c e f = refl
distinct_push (d ∷ front) c e f =
    let v = and_parts (not (list_any (has_name d.name) (named front))) (are_distinct (named front)) e in
    let w = or_parts (has_name d.name c.name) (list_any (λ (x : ColumnShape). has_name x.name c.name) front) f in
    let none = among_push d.name front c (not_true (list_any (has_name d.name) (named front)) v.0) w.0 in
    and_from (not (list_any (has_name d.name) (named (front ++ c ∷ [])))) (are_distinct (named (front ++ c ∷ []))) (ap not none) (distinct_push front c v.1 w.1)

-- the parts of a valid column
column_parts : (version : ℕ) (front : List ColumnShape) (c : ColumnShape) → (column version front).valid c ≡ true → (is_name c.name ≡ true) × (is_new front c ≡ true)
unfolding column name
column_parts version front c valid =
    let v = and_parts ((column_type version).valid c.column_type && (text.valid c.name && is_name c.name)) (is_new front c) valid in
    let w = and_parts ((column_type version).valid c.column_type) (text.valid c.name && is_name c.name) v.0 in
    ((and_parts (text.valid c.name) (is_name c.name) w.1).1, v.1)

upper_is_folded : (t : List ℕ) → list_all is_upper t ≡ true → folded t ≡ t
upper_is_folded [] e = refl
upper_is_folded (c ∷ t) e =
    let v = and_parts (is_upper c) (list_all is_upper t) e in
    let here = eqb-true _ _ v.0 in
    let rest = upper_is_folded t v.1 in
    λ i. here i ∷ rest i

columns_distinct : (version : ℕ) (front cs : List ColumnShape) → valid_all (column version) front cs ≡ true → are_distinct (named front) ≡ true → are_distinct (named (front ++ cs)) ≡ true
unfolding valid_all
columns_distinct version front [] valid e = ap (λ (xs : List ColumnShape). are_distinct (named xs)) (append-nil front) ∙ e
columns_distinct version front (c ∷ cs) valid e =
    let v = and_parts ((column version front).valid c) (valid_all (column version) (front ++ c ∷ []) cs) valid in
    let new = not_true (list_any (λ (d : ColumnShape). has_name d.name c.name) front) (column_parts version front c v.0).1 in
    ap (λ (xs : List ColumnShape). are_distinct (named xs)) (sym (append_assoc front (c ∷ []) cs)) ∙ columns_distinct version (front ++ c ∷ []) cs v.1 (distinct_push front c e new)

columns_named : (version : ℕ) (front cs : List ColumnShape) → valid_all (column version) front cs ≡ true → (list_all is_named (map asked_of cs) ≡ true) × (map column_of (map asked_of cs) ≡ cs)
unfolding valid_all
columns_named version front [] valid = (refl, refl)
columns_named version front (c ∷ cs) valid =
    let v = and_parts ((column version front).valid c) (valid_all (column version) (front ++ c ∷ []) cs) valid in
    let n = and_parts (is_identifier c.name) (list_all is_upper c.name) (column_parts version front c v.0).0 in
    let rest = columns_named version (front ++ c ∷ []) cs v.1 in
    let same = upper_is_folded c.name n.1 in
    (and_from (is_identifier c.name) (list_all is_named (map asked_of cs)) n.0 rest.0, λ i. record { name = same i; column_type = c.column_type } ∷ rest.1 i)

-- the parts of a valid schema
schema_parts : (version : ℕ) (t : Table) → (schema version).valid t ≡ true
    → ((leb 1 (length t.columns) ≡ true) × (leb (length t.columns) column_limit ≡ true)) × ((is_name t.name ≡ true) × (valid_all (column version) [] t.columns ≡ true))
unfolding schema column_count name
schema_parts version t valid =
    let n = length t.columns in
    let v = and_parts ((number 2).valid n && (leb 1 n && leb n column_limit)) ((text.valid t.name && is_name t.name) && (eqb n n && valid_all (column version) [] t.columns)) valid in
    let w = and_parts ((number 2).valid n) (leb 1 n && leb n column_limit) v.0 in
    let x = and_parts (text.valid t.name && is_name t.name) (eqb n n && valid_all (column version) [] t.columns) v.1 in
    (and_parts (leb 1 n) (leb n column_limit) w.1, ((and_parts (text.valid t.name) (is_name t.name) x.0).1, (and_parts (eqb n n) (valid_all (column version) [] t.columns) x.1).1))

valid_is_asked : (version : ℕ) (t : Table) → (schema version).valid t ≡ true → is_schema t.name (map asked_of t.columns) ≡ true
unfolding is_schema
valid_is_asked version t valid =
    let p = schema_parts version t valid in
    let long : length (map asked_of t.columns) ≡ length t.columns = length-map t.columns asked_of in
    let n = and_parts (is_identifier t.name) (list_all is_upper t.name) p.1.0 in
    let c = columns_named version [] t.columns p.1.1 in
    let d = columns_distinct version [] t.columns p.1.1 refl in
    rw (long, n.0, p.0.0, p.0.1, c.0, d) refl

pub valid_is_table : (version : ℕ) (t : Table) → (schema version).valid t ≡ true → IsTable t
valid_is_table version t valid =
    let p = schema_parts version t valid in
    let n = and_parts (is_identifier t.name) (list_all is_upper t.name) p.1.0 in
    let name_same = upper_is_folded t.name n.1 in
    let columns_same = (columns_named version [] t.columns p.1.1).1 in
    let same : folded_table t.name (map asked_of t.columns) ≡ t = λ i. record { name = name_same i; columns = columns_same i } in
    record {
      some = leb-true _ _ p.0.0;
      limit = leb-true _ _ p.0.1;
      itself = rw (valid_is_asked version t valid) (ap Ok same);
    }
