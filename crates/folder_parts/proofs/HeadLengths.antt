-- No head of a part is longer than 2,189 bytes, so it is read of the first 4,096 alone.
use Rattle.std.specs.Prelude.{◌≡◌, ℕ, ◌+◌, ◌*◌, ◌-◌, ◌≤◌, Bool, true, ◌&&◌, List, [], ◌∷◌, ◌++◌, length, take, codes, Option, Some, None, Result, Ok}
use Rattle.std.proofs.Common.{refl, leb, eqb, sym, ap, ◌∙◌, arith}
use Rattle.std.specs.List.{list_all}
use Rattle.std.proofs.lemmas.Bool.{leb-true, eqb-true, and_parts}
use Rattle.std.proofs.lemmas.List.{length-append}
use Rattle.std.proofs.Math.Seq.{take-append-add}
use Rattle.table_model.specs.Identifier.{word_limit, same_text}
use Rattle.table_model.specs.Reading.{◌>>=◌}
use Rattle.table_model.specs.Table.{Table, ColumnShape, column_limit}
use Rattle.table_model.specs.declared.schema.ColType.{ColType}
use Rattle.table_model.specs.declared.refusal.Refusal.{Refusal}
use Rattle.table_model.specs.declared.refusal.Refusal.TheVariants.{BadMagic, BadVersion, BadSchema}
use Rattle.segment_core.specs.Format.{Format, IsLawful, is_byte, raw, seen, spell_some, valid_some, checked, constant, before, all, spell_all, valid_all, number}
use Rattle.column_file.specs.SchemaBytes.{text, is_name, name, tag_of, is_type_tag, column_type, is_new, column, column_count, schema, version_of}
use Rattle.column_file.specs.SummaryBytes.{is_version, version, has_version, head, name_count}
use Rattle.segment_core.proofs.FormatLaws.{bind_ok, before_is_lawful}
use Rattle.column_file.proofs.SummaryLaws.{head_is_lawful, name_count_is_lawful}
use Rattle.folder_parts.specs.Heads.{front, HeadsAreAhead}

-- a format none of whose values takes more bytes than these
abbrev pub TakesAtMost : {A : Type 0} → ℕ → Format A → Type 0
TakesAtMost {A = A} limit f = (x : A) → f.valid x ≡ true → length (f.spell x) ≤ limit

-- ---- one combinator after another

raw_takes : (n limit : ℕ) → n ≤ limit → TakesAtMost limit (raw n)
raw_takes n limit few x valid =
    let long : length x ≡ n = eqb-true _ _ (and_parts (eqb (length x) n) (list_all is_byte x) valid).0 in
    omega (arith, long, few)

some_valid : {A : Type 0} (f : Format A) (o : Option A) → valid_some f o ≡ true → (x : A) × (o ≡ Some x) × (f.valid x ≡ true)
some_valid f None e = absurd cc
some_valid f (Some x) e = (x, refl, e)

seen_takes : {A B : Type 0} (f : Format A) (from : B → Option A) (limit : ℕ) → TakesAtMost limit f → (y : B) → valid_some f (from y) ≡ true → length (spell_some f (from y)) ≤ limit
seen_takes f from limit few y valid =
    let s = some_valid f (from y) valid in
    rw s.1 (few s.0 s.2)

checked_takes : {A : Type 0} (f : Format A) (test : A → Bool) (limit : ℕ) → TakesAtMost limit f → (x : A) → (f.valid x && test x) ≡ true → length (f.spell x) ≤ limit
checked_takes f test limit few x valid = few x (and_parts (f.valid x) (test x) valid).0

before_takes : {A B : Type 0} (f : Format A) (g : A → Format B) (first second : ℕ) → TakesAtMost first f → ((x : A) → f.valid x ≡ true → TakesAtMost second (g x))
    → TakesAtMost (first + second) (before f g)
before_takes f g first second few fewer p valid =
    let v = and_parts (f.valid p.0) ((g p.0).valid p.1) valid in
    let one = few p.0 v.0 in
    let other = fewer p.0 v.0 p.1 v.1 in
    omega (arith, length-append (f.spell p.0) ((g p.0).spell p.1), one, other)

number_takes : (n limit : ℕ) → n ≤ limit → TakesAtMost limit (number n)
number_takes n limit few = seen_takes (raw n) _ limit (raw_takes n limit few)

-- ---- the formats of a schema

text_takes : TakesAtMost 65 text
unfolding text
text_takes x valid =
    let test : ℕ → Bool = λ n. leb 1 n && leb n word_limit in
    let size : Format ℕ = checked (number 1) test (λ _. BadSchema) in
    let few : (n : ℕ) → size.valid n ≡ true → n ≤ 64 = λ n v. leb-true n 64 (and_parts (leb 1 n) (leb n word_limit) (and_parts ((number 1).valid n) (test n) v).1).1 in
    before_takes size raw 1 64 (checked_takes (number 1) test 1 (number_takes 1 1 (omega arith))) (λ n v. raw_takes n 64 (few n v)) (length x, x) valid

name_takes : TakesAtMost 65 name
unfolding name
name_takes = checked_takes text is_name 65 text_takes

type_takes : (v : ℕ) → TakesAtMost 1 (column_type v)
unfolding column_type
type_takes v t valid = checked_takes (number 1) (is_type_tag v) 1 (number_takes 1 1 (omega arith)) (tag_of t) valid

column_takes : (v : ℕ) (earlier : List ColumnShape) → TakesAtMost 66 (column v earlier)
unfolding column
column_takes v earlier x valid =
    let parts : Format (ColType × List ℕ) = before (column_type v) (λ _. name) in
    let fits : TakesAtMost 66 parts = before_takes (column_type v) (λ _. name) 1 65 (type_takes v) (λ _ _. name_takes) in
    let found = and_parts (parts.valid (x.column_type, x.name)) (is_new earlier x) valid in
    fits (x.column_type, x.name) found.0

columns_take : (v : ℕ) (front xs : List ColumnShape) → valid_all (column v) front xs ≡ true → length (spell_all (column v) front xs) ≤ length xs * 66
unfolding valid_all spell_all
columns_take v front [] valid = omega arith
columns_take v front (x ∷ xs) valid =
    let more = front ++ x ∷ [] in
    let parts = and_parts ((column v front).valid x) (valid_all (column v) more xs) valid in
    let one = column_takes v front x parts.0 in
    let others = columns_take v more xs parts.1 in
    omega (arith, length-append ((column v front).spell x) (spell_all (column v) more xs), one, others)

all_take : (v n : ℕ) → n ≤ 32 → TakesAtMost 2112 (all n (column v))
all_take v n few xs valid =
    let parts = and_parts (eqb (length xs) n) (valid_all (column v) [] xs) valid in
    let long : length xs ≡ n = eqb-true _ _ parts.0 in
    let found = columns_take v [] xs parts.1 in
    omega (arith, few, long, found)

count_takes : TakesAtMost 2 column_count
unfolding column_count
count_takes = checked_takes (number 2) _ 2 (number_takes 2 2 (omega arith))

count_is_few : (n : ℕ) → column_count.valid n ≡ true → n ≤ 32
unfolding column_count
count_is_few n valid =
    let test : ℕ → Bool = λ n. leb 1 n && leb n column_limit in
    leb-true n 32 (and_parts (leb 1 n) (leb n column_limit) (and_parts ((number 2).valid n) (test n) valid).1).1

schema_takes : (v : ℕ) → TakesAtMost 2179 (schema v)
unfolding schema
schema_takes v t valid =
    let columns : ℕ → Format (List ColumnShape) = λ n. all n (column v) in
    let rest : ℕ → Format (List ℕ × List ColumnShape) = λ n. before name (λ _. columns n) in
    before_takes column_count rest 2 2177 count_takes (λ n few. before_takes name (λ _. columns n) 65 2112 name_takes (λ _ _. all_take v n (count_is_few n few)))
    (length t.columns, (t.name, t.columns)) valid

-- ---- the head of a part

version_takes : TakesAtMost 2 version
unfolding version
version_takes = checked_takes (number 2) is_version 2 (number_takes 2 2 (omega arith))

head_takes : TakesAtMost 2185 (head (codes "FLCF"))
unfolding head
head_takes t valid =
    let magic : Format (List ℕ) = constant (codes "FLCF") BadMagic in
    let rest : Format (ℕ × Table) = before version schema in
    let parts : Format (List ℕ × (ℕ × Table)) = before magic (λ _. rest) in
    checked_takes parts has_version 2185
    (before_takes magic (λ _. rest) 4 2181 (checked_takes (raw 4) (same_text (codes "FLCF")) 4 (raw_takes 4 4 (omega arith)))
    (λ _ _. before_takes version schema 2 2179 version_takes (λ v _. schema_takes v)))
    (codes "FLCF", (version_of t, t)) valid

number_of_names_takes : TakesAtMost 4 name_count
unfolding name_count
number_of_names_takes = checked_takes (number 4) _ 4 (number_takes 4 4 (omega arith))

front_takes : TakesAtMost 2189 front
front_takes = before_takes (head (codes "FLCF")) (λ _. name_count) 2185 4 head_takes (λ _ _. number_of_names_takes)

abbrev Found : Type 0
Found = (Table × ℕ) × List ℕ

front_is_lawful : IsLawful front
front_is_lawful = before_is_lawful (head (codes "FLCF")) (λ _. name_count) (head_is_lawful (codes "FLCF")) (λ _ _. name_count_is_lawful)

pub heads_are_ahead : HeadsAreAhead 4096
heads_are_ahead bytes found fit is =
    let parts = bind_ok (front.read (length bytes) bytes) (λ (x : Found). Ok x.0) found is in
    let taken = front_is_lawful.takes (length bytes) bytes parts.0.0 parts.0.1 fit parts.1 in
    let spelled = front.spell parts.0.0 in
    let left = 4096 - length spelled in
    let fits = front_takes parts.0.0 taken.1 in
    let whole : length spelled + left ≡ 4096 = omega (arith, fits) in
    let cut : take 4096 bytes ≡ spelled ++ take left parts.0.1 =
    ap (take 4096) taken.0 ∙ ap (λ n. take n (spelled ++ parts.0.1)) (sym whole) ∙ take-append-add spelled parts.0.1 left in
    let total = length (take 4096 bytes) in
    let read : front.read total (take 4096 bytes) ≡ Ok (parts.0.0, take left parts.0.1) = ap (front.read total) cut ∙ front_is_lawful.again total parts.0.0 (take left parts.0.1) taken.1 in
    ap (λ (r : Result Found Refusal). r >>= λ x. Ok x.0) read ∙ parts.2
