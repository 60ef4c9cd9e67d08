-- What is read of a vector is passed over to the same place: each field that is passed over has so many bytes.
use Rattle.std.proofs.Common.{◌≡◌, ℕ, zero, suc, ◌+◌, ◌-◌, ◌*◌, ◌/◌, Bool, true, false, cond, not, ltb, leb, eqb, List, [], ◌∷◌, ◌++◌, length, take, drop, slice_index_or, Option, Some, None, Result, Ok, Err, refl, sym, ap, subst, ◌∙◌, append_assoc, arith}
use Rattle.std.proofs.lemmas.Bool.{ltb-false, le-ltb}
use Rattle.std.proofs.lemmas.List.{drop_at, take-append-drop, length-append, length-take-le}
use Rattle.table_model.specs.Reading.{◌>>=◌}
use Rattle.table_model.specs.declared.refusal.Refusal.{Refusal}
use Rattle.table_model.specs.declared.refusal.Refusal.TheVariants.{Truncated, BadMask, BadCount, BadDictionary, BadCode}
use Rattle.transpose_order.specs.Mask.{has}
use Rattle.run_dictionary.specs.Runs.{run_of}
use Rattle.segment_core.specs.declared.coding.Coding.{Coding}
use Rattle.segment_core.specs.declared.coding.Coding.TheVariants.{For as ByFrame, Delta as ByDeltas, Runs as ByRuns, Dict as ByDictionary}
use Rattle.segment_core.specs.CodedVector.{VectorForm}
use Rattle.segment_core.specs.declared.coded.Coded.{Coded}
use Rattle.segment_core.specs.Format.{Format, raw, checked, before, optional, read_all, all, number, signed}
use Rattle.segment_core.specs.Segment.{vector_count, rows_in}
use Rattle.segment_core.specs.SegmentBytes.{column, columns}
use Rattle.segment_core.specs.VectorBytes.{mask, words, nulls, is_null_mask, header, frame, deltas, starts, runs, is_above, dictionary, are_codes_below, codes, dict, payload, payload_of, coded, vector}
use Rattle.segment_core.proofs.FormatLaws.{bind_ok, guard_ok, guard_short, ok_is}
use Rattle.column_file.specs.Passing.{over, over_each, null_flag, over_nulls, form, payload_bytes, over_vector, over_column, over_columns}
use Rattle.column_file.proofs.Passed.{Thing}

-- bytes are so many, and then the rest
abbrev pub Has : ℕ → List ℕ → List ℕ → Type 0
Has n bytes rest = (front : List ℕ) × (bytes ≡ front ++ rest) × (length front ≡ n)

-- what a format reads has so many bytes
abbrev pub Takes : {A : Type 0} → Format A → ℕ → Type 0
Takes {A = A} f n = (total : ℕ) (bytes rest : List ℕ) (x : A) → f.read total bytes ≡ Ok (x, rest) → Has n bytes rest

has_both : (n m : ℕ) (bytes mid rest : List ℕ) → Has n bytes mid → Has m mid rest → Has (n + m) bytes rest
has_both n m bytes mid rest first second = (
  first.0 ++ second.0,
  first.1 ∙ ap (λ (t : List ℕ). first.0 ++ t) second.1 ∙ sym (append_assoc first.0 second.0 rest),
  length-append first.0 second.0 ∙ (λ i. first.2 i + second.2 i),
)

has_none : (bytes : List ℕ) → Has 0 bytes bytes
has_none bytes = ([], refl, refl)

-- so they are passed over
over_has : (n total : ℕ) (bytes rest : List ℕ) → Has n bytes rest → over n total bytes ≡ Ok rest
over_has n total bytes rest has =
    let long : length bytes ≡ n + length rest = ap length has.1 ∙ length-append has.0 rest ∙ ap (λ (k : ℕ). k + length rest) has.2 in
    let enough : ltb (length bytes) n ≡ false = le-ltb _ _ (omega (arith, long)) in
    let after : drop n bytes ≡ rest = ap (λ (t : List ℕ). drop n t) has.1 ∙ drop_at has.0 rest n has.2 in
    rw (enough, after) refl

-- ---- one combinator after another

takes_raw : (n : ℕ) → Takes (raw n) n
takes_raw n total bytes rest x e =
    let g = guard_short (ltb (length bytes) n) (Truncated total) (take n bytes, drop n bytes) (x, rest) e in
    let rest_is : drop n bytes ≡ rest = ap (λ (p : List ℕ × List ℕ). p.1) g.1 in
    (take n bytes, sym (take-append-drop n bytes) ∙ ap (λ (t : List ℕ). take n bytes ++ t) rest_is, length-take-le n bytes (ltb-false _ _ g.0))

-- a format's values seen as others, as they are read
abbrev pub seen_as : {A B : Type 0} → Format A → (A → B) → ℕ → List ℕ → Result (B × List ℕ) Refusal
seen_as {A = A} {B = B} f to total bytes = let told : A × List ℕ → Result (B × List ℕ) Refusal = λ x. Ok (to x.0, x.1) in f.read total bytes >>= told

takes_seen : {A B : Type 0} (f : Format A) (to : A → B) (n : ℕ) → Takes f n → (total : ℕ) (bytes rest : List ℕ) (y : B) → seen_as f to total bytes ≡ Ok (y, rest) → Has n bytes rest
takes_seen {A = A} {B = B} f to n takes total bytes rest y e =
    let a = bind_ok (f.read total bytes) (λ (x : A × List ℕ). Ok (to x.0, x.1)) (y, rest) e in
    let same : a.0.1 ≡ rest = ap (λ (p : B × List ℕ). p.1) (ok_is {A = B × List ℕ} (to a.0.0, a.0.1) (y, rest) a.2) in
    subst (λ (t : List ℕ). Has n bytes t) same (takes total bytes a.0.1 a.0.0 a.1)

takes_checked : {A : Type 0} (f : Format A) (test : A → Bool) (fault : ℕ → Refusal) (n : ℕ) → Takes f n → Takes (checked f test fault) n
takes_checked {A = A} f test fault n takes total bytes rest x e =
    let a = bind_ok (f.read total bytes) (λ (y : A × List ℕ). cond (test y.0) (Ok y) (Err (fault (total - length bytes)))) (x, rest) e in
    let g = guard_ok {A = A × List ℕ} (test a.0.0) (fault (total - length bytes)) a.0 (x, rest) a.2 in
    subst (λ (p : A × List ℕ). Has n bytes p.1) g.1 (takes total bytes a.0.1 a.0.0 a.1)

takes_before : {A B : Type 0} (f : Format A) (g : A → Format B) (n m : ℕ) → Takes f n → ((x : A) → Takes (g x) m) → Takes (before f g) (n + m)
takes_before {A = A} {B = B} f g n m first second total bytes rest p e =
    let a = bind_ok (f.read total bytes) (λ (x : A × List ℕ). (g x.0).read total x.1 >>= λ (y : B × List ℕ). Ok ((x.0, y.0), y.1)) (p, rest) e in
    let b = bind_ok ((g a.0.0).read total a.0.1) (λ (y : B × List ℕ). Ok ((a.0.0, y.0), y.1)) (p, rest) a.2 in
    let same : b.0.1 ≡ rest = ap (λ (q : (A × B) × List ℕ). q.1) (ok_is {A = (A × B) × List ℕ} ((a.0.0, b.0.0), b.0.1) (p, rest) b.2) in
    let whole : Has (n + m) bytes b.0.1 = has_both n m bytes a.0.1 b.0.1 (first total bytes a.0.1 a.0.0 a.1) (second a.0.0 total a.0.1 b.0.1 b.0.0 b.1) in
    subst (λ (t : List ℕ). Has (n + m) bytes t) same whole

takes_optional : {A : Type 0} (flag : Bool) (f : Format A) (n : ℕ) → Takes f n → Takes (optional flag f) (cond flag n 0)
takes_optional {A = A} true f n takes total bytes rest o e = takes_seen f Some n takes total bytes rest o e
takes_optional {A = A} false f n takes total bytes rest o e =
    let same : bytes ≡ rest = ap (λ (p : Option A × List ℕ). p.1) (ok_is {A = Option A × List ℕ} (None, bytes) (o, rest) e) in
    subst (λ (t : List ℕ). Has 0 bytes t) same (has_none bytes)

takes_items : {A : Type 0} (item : List A → Format A) (n count : ℕ) → ((front : List A) → Takes (item front) n) → (front : List A) (total : ℕ) (bytes rest : List ℕ) (xs : List A)
    → read_all item count front total bytes ≡ Ok (xs, rest) → Has (count * n) bytes rest
unfolding read_all
takes_items {A = A} item n zero takes front total bytes rest xs e =
    let same : bytes ≡ rest = ap (λ (p : List A × List ℕ). p.1) (ok_is {A = List A × List ℕ} (front, bytes) (xs, rest) e) in
    let none : 0 ≡ 0 * n = omega arith in
    subst (λ (k : ℕ). Has k bytes rest) none (subst (λ (t : List ℕ). Has 0 bytes t) same (has_none bytes))
takes_items {A = A} item n (suc count) takes front total bytes rest xs e =
    let a = bind_ok ((item front).read total bytes) (λ (x : A × List ℕ). read_all item count (front ++ x.0 ∷ []) total x.1) (xs, rest) e in
    let long : n + count * n ≡ suc count * n = omega arith in
    subst (λ (k : ℕ). Has k bytes rest) long
    (has_both n (count * n) bytes a.0.1 rest (takes front total bytes a.0.1 a.0.0 a.1) (takes_items item n count takes (front ++ a.0.0 ∷ []) total a.0.1 rest xs a.2))

takes_all : {A : Type 0} (item : List A → Format A) (n count : ℕ) → ((front : List A) → Takes (item front) n) → Takes (all count item) (count * n)
takes_all item n count takes total bytes rest xs e = takes_items item n count takes [] total bytes rest xs e

takes_number : (n : ℕ) → Takes (number n) n
takes_number n = takes_seen (raw n) _ n (takes_raw n)

takes_signed : (t : ℕ) → Takes (signed t) (t / 8)
takes_signed t = takes_seen (number (t / 8)) _ (t / 8) (takes_number (t / 8))

-- ---- the parts of vectors

takes_mask : Takes mask 128
unfolding mask
takes_mask = takes_seen (raw 128) _ 128 (takes_raw 128)

takes_words : (t w : ℕ) → Takes (words t w) (128 * w)
unfolding words
takes_words t w = takes_seen (raw (128 * w)) _ (128 * w) (takes_raw (128 * w))

takes_frame : (t width : ℕ) → Takes (frame t width) (t / 8 + 128 * width)
unfolding frame
takes_frame t width =
    takes_seen (before (signed t) (λ _. words t width)) _ (t / 8 + 128 * width) (takes_before (signed t) (λ _. words t width) (t / 8) (128 * width) (takes_signed t) (λ _. takes_words t width))

takes_deltas : (t width : ℕ) → Takes (deltas t width) (t / 8 + (1024 / t * (t / 8) + 128 * width))
unfolding deltas
takes_deltas t width =
    let bases = all (1024 / t) (λ _. signed t) in
    let size : ℕ = 1024 / t * (t / 8) in
    takes_seen (before (signed t) (λ _. before bases (λ _. words t width))) _ (t / 8 + (size + 128 * width))
    (takes_before (signed t) (λ _. before bases (λ _. words t width)) (t / 8) (size + 128 * width) (takes_signed t)
    (λ _. takes_before bases (λ _. words t width) size (128 * width) (takes_all (λ _. signed t) (t / 8) (1024 / t) (λ _. takes_signed t)) (λ _. takes_words t width)))

takes_starts : (count : ℕ) → Takes (starts count) 128
unfolding starts
takes_starts count =
    let first : Format (List Bool) = checked mask (λ rows. not (has rows 0)) BadMask in
    takes_checked first (λ rows. eqb (run_of rows 1023 + 1) count) (λ at. BadCount (at - 2)) 128 (takes_checked mask (λ rows. not (has rows 0)) BadMask 128 takes_mask)

takes_runs : (t count : ℕ) → Takes (runs t count) (128 + count * (t / 8))
unfolding runs
takes_runs t count =
    takes_seen (before (starts count) (λ _. all count (λ _. signed t))) _ (128 + count * (t / 8))
    (takes_before (starts count) (λ _. all count (λ _. signed t)) 128 (count * (t / 8)) (takes_starts count) (λ _. takes_all (λ _. signed t) (t / 8) count (λ _. takes_signed t)))

takes_dictionary : (t count : ℕ) → Takes (dictionary t count) (count * (t / 8))
unfolding dictionary
takes_dictionary t count =
    takes_all (λ front. checked (signed t) (is_above front) BadDictionary) (t / 8) count (λ front. takes_checked (signed t) (is_above front) BadDictionary (t / 8) (takes_signed t))

takes_codes : (width count : ℕ) → Takes (codes width count) (128 * width)
unfolding codes
takes_codes width count = takes_checked (words 16 width) (are_codes_below width count) BadCode (128 * width) (takes_words 16 width)

takes_dict : (t width count : ℕ) → Takes (dict t width count) (count * (t / 8) + 128 * width)
unfolding dict
takes_dict t width count =
    takes_seen (before (dictionary t count) (λ _. codes width count)) _ (count * (t / 8) + 128 * width)
    (takes_before (dictionary t count) (λ _. codes width count) (count * (t / 8)) (128 * width) (takes_dictionary t count) (λ _. takes_codes width count))

takes_payload : (t : ℕ) (c : Coding) (width count : ℕ) → Takes (payload_of t c width count) (payload_bytes t c width count)
takes_payload t ByFrame width count = takes_seen (frame t width) _ (t / 8 + 128 * width) (takes_frame t width)
takes_payload t ByDeltas width count = takes_seen (deltas t width) _ (t / 8 + (1024 / t * (t / 8) + 128 * width)) (takes_deltas t width)
takes_payload t ByRuns width count = takes_seen (runs t count) _ (128 + count * (t / 8)) (takes_runs t count)
takes_payload t ByDictionary width count = takes_seen (dict t width count) _ (count * (t / 8) + 128 * width) (takes_dict t width count)

-- ---- vectors

-- a step that did not fail is one for the next
then_is : {A B : Type 0} (r : Result A Refusal) (x : A) (f : A → Result B Refusal) (y : B) → r ≡ Ok x → f x ≡ Ok y → (r >>= f) ≡ Ok y
then_is {A = A} r x f y e next = ap (λ (s : Result A Refusal). s >>= f) e ∙ next

-- two steps that did not fail
both_ok : {A B C : Type 0} (r : Result A Refusal) (f : A → Result B Refusal) (g : B → Result C Refusal) (y : C) → (r >>= f >>= g) ≡ Ok y → (x : A) × (r ≡ Ok x) × ((f x >>= g) ≡ Ok y)
both_ok (Ok x) f g y e = (x, refl, e)
both_ok (Err d) f g y e = absurd cc

-- what is read of a value as another was read
abbrev pub ReadsAs : {A : Type 0} → Format A → ℕ → List ℕ → List ℕ → Type 0
ReadsAs {A = A} f total bytes rest = (x : A) × (f.read total bytes ≡ Ok (x, rest))

seen_reads : {A B : Type 0} (f : Format A) (to : A → B) (total : ℕ) (bytes rest : List ℕ) (y : B) → seen_as f to total bytes ≡ Ok (y, rest) → ReadsAs f total bytes rest
seen_reads {A = A} {B = B} f to total bytes rest y e =
    let a = bind_ok (f.read total bytes) (λ (x : A × List ℕ). Ok (to x.0, x.1)) (y, rest) e in
    let same : a.0.1 ≡ rest = ap (λ (p : B × List ℕ). p.1) (ok_is {A = B × List ℕ} (to a.0.0, a.0.1) (y, rest) a.2) in
    (a.0.0, a.1 ∙ ap (λ (t : List ℕ). Ok (a.0.0, t)) same)

-- one value was read, and then the other
abbrev pub ReadsThen : {A B : Type 0} → Format A → (A → Format B) → ℕ → List ℕ → List ℕ → Type 0
ReadsThen {A = A} f g total bytes rest = (x : A × List ℕ) × (f.read total bytes ≡ Ok x) × ReadsAs (g x.0) total x.1 rest

before_reads : {A B : Type 0} (f : Format A) (g : A → Format B) (total : ℕ) (bytes rest : List ℕ) (p : A × B) → (before f g).read total bytes ≡ Ok (p, rest) → ReadsThen f g total bytes rest
before_reads {A = A} {B = B} f g total bytes rest p e =
    let a = bind_ok (f.read total bytes) (λ (x : A × List ℕ). (g x.0).read total x.1 >>= λ (y : B × List ℕ). Ok ((x.0, y.0), y.1)) (p, rest) e in
    let b = bind_ok ((g a.0.0).read total a.0.1) (λ (y : B × List ℕ). Ok ((a.0.0, y.0), y.1)) (p, rest) a.2 in
    let same : b.0.1 ≡ rest = ap (λ (q : (A × B) × List ℕ). q.1) (ok_is {A = (A × B) × List ℕ} ((a.0.0, b.0.0), b.0.1) (p, rest) b.2) in
    (a.0, a.1, (b.0.0, b.1 ∙ ap (λ (t : List ℕ). Ok (b.0.0, t)) same))

-- the second after the first
abbrev pub then_read : {B C : Type 0} → (B → Format C) → ℕ → B × List ℕ → Result ((B × C) × List ℕ) Refusal
then_read {B = B} {C = C} g total x = let told : C × List ℕ → Result ((B × C) × List ℕ) Refusal = λ y. Ok ((x.0, y.0), y.1) in (g x.0).read total x.1 >>= told

-- so too where the first was seen as another
seen_before_reads : {A B C : Type 0} (f : Format A) (to : A → B) (g : B → Format C) (total : ℕ) (bytes rest : List ℕ) (p : B × C)
    → (seen_as f to total bytes >>= then_read g total) ≡ Ok (p, rest) → ReadsThen f (λ x. g (to x)) total bytes rest
seen_before_reads {A = A} {B = B} {C = C} f to g total bytes rest p e =
    let told : A × List ℕ → Result (B × List ℕ) Refusal = λ x. Ok (to x.0, x.1) in
    let a = both_ok (f.read total bytes) told (then_read g total) (p, rest) e in
    let b = bind_ok ((g (to a.0.0)).read total a.0.1) (λ (y : C × List ℕ). Ok ((to a.0.0, y.0), y.1)) (p, rest) a.2 in
    let same : b.0.1 ≡ rest = ap (λ (q : (B × C) × List ℕ). q.1) (ok_is {A = (B × C) × List ℕ} ((to a.0.0, b.0.0), b.0.1) (p, rest) b.2) in
    (a.0, a.1, (b.0.0, b.1 ∙ ap (λ (t : List ℕ). Ok (b.0.0, t)) same))

nulls_passed : (rows total : ℕ) (bytes rest : List ℕ) (found : Option (List Bool)) → (nulls rows).read total bytes ≡ Ok (found, rest) → over_nulls total bytes ≡ Ok rest
unfolding nulls null_flag over_nulls
nulls_passed rows total bytes rest found e =
    let flag = checked (number 1) (λ flag. leb flag 1) BadMask in
    let null_mask = checked mask (is_null_mask rows) BadMask in
    let s = seen_reads (before flag (λ flag. optional (eqb flag 1) null_mask)) (λ p. p.1) total bytes rest found e in
    let b = before_reads flag (λ flag. optional (eqb flag 1) null_mask) total bytes rest s.0 s.1 in
    let has : Has (cond (eqb b.0.0 1) 128 0) b.0.1 rest = takes_optional (eqb b.0.0 1) null_mask 128 (takes_checked mask (is_null_mask rows) BadMask 128 takes_mask) total b.0.1 rest b.2.0 b.2.1 in
    then_is (flag.read total bytes) b.0 (λ (x : ℕ × List ℕ). over (cond (eqb x.0 1) 128 0) total x.1) rest b.1 (over_has _ total b.0.1 rest has)

-- coded values have their form first
coded_passed : (t total : ℕ) (bytes rest : List ℕ) (values : Coded) → (coded t).read total bytes ≡ Ok (values, rest) → ((form t).read total bytes >>= λ f. over (payload_bytes t f.0.0 f.0.1.0 f.0.1.1) total f.1) ≡ Ok rest
unfolding coded header form
coded_passed t total bytes rest values e =
    let Form : Type 0 = Coding × (ℕ × ℕ) in
    let s = seen_reads (before (header t) (payload t)) (λ p. p.1) total bytes rest values e in
    let b = seen_before_reads (form t) _ (payload t) total bytes rest s.0 s.1 in
    let has : Has (payload_bytes t b.0.0.0 b.0.0.1.0 b.0.0.1.1) b.0.1 rest = takes_payload t b.0.0.0 b.0.0.1.0 b.0.0.1.1 total b.0.1 rest b.2.0 b.2.1 in
    then_is ((form t).read total bytes) b.0 (λ (f : Form × List ℕ). over (payload_bytes t f.0.0 f.0.1.0 f.0.1.1) total f.1) rest b.1 (over_has _ total b.0.1 rest has)

vector_passed : (t rows total : ℕ) (bytes rest : List ℕ) (v : VectorForm) → (vector t rows).read total bytes ≡ Ok (v, rest) → over_vector t total bytes ≡ Ok rest
unfolding vector over_vector
vector_passed t rows total bytes rest v e =
    let Form : Type 0 = Coding × (ℕ × ℕ) in
    let s = seen_reads (before (nulls rows) (λ _. coded t)) _ total bytes rest v e in
    let b = before_reads (nulls rows) (λ _. coded t) total bytes rest s.0 s.1 in
    then_is (over_nulls total bytes) b.0.1 (λ (r : List ℕ). (form t).read total r >>= λ (f : Form × List ℕ). over (payload_bytes t f.0.0 f.0.1.0 f.0.1.1) total f.1) rest
    (nulls_passed rows total bytes b.0.1 b.0.0 b.1) (coded_passed t total b.0.1 rest b.2.0 b.2.1)

-- ---- columns

items_passed : {A : Type 0} (item : List A → Format A) (thing : Thing) → ((front : List A) (total : ℕ) (bytes rest : List ℕ) (x : A) → (item front).read total bytes ≡ Ok (x, rest) → thing (length front) total bytes ≡ Ok rest)
    → (count : ℕ) (front : List A) (total : ℕ) (bytes rest : List ℕ) (xs : List A) → read_all item count front total bytes ≡ Ok (xs, rest) → over_each thing count (length front) total bytes ≡ Ok rest
unfolding read_all over_each
items_passed {A = A} item thing passed zero front total bytes rest xs e = ap (λ (p : List A × List ℕ). Ok p.1) (ok_is {A = List A × List ℕ} (front, bytes) (xs, rest) e)
items_passed {A = A} item thing passed (suc count) front total bytes rest xs e =
    let a = bind_ok ((item front).read total bytes) (λ (x : A × List ℕ). read_all item count (front ++ x.0 ∷ []) total x.1) (xs, rest) e in
    let more : length (front ++ a.0.0 ∷ []) ≡ length front + 1 = length-append front (a.0.0 ∷ []) in
    let next : over_each thing count (length front + 1) total a.0.1 ≡ Ok rest = subst (λ (n : ℕ). over_each thing count n total a.0.1 ≡ Ok rest) more (items_passed item thing passed count (front ++ a.0.0 ∷ []) total a.0.1 rest xs a.2) in
    then_is (thing (length front) total bytes) a.0.1 (λ (r : List ℕ). over_each thing count (length front + 1) total r) rest (passed front total bytes a.0.1 a.0.0 a.1) next

column_passed : (t rows total : ℕ) (bytes rest : List ℕ) (vs : List VectorForm) → (column t rows).read total bytes ≡ Ok (vs, rest) → over_column t rows total bytes ≡ Ok rest
unfolding column over_column
column_passed t rows total bytes rest vs e =
    items_passed (λ front. vector t (rows_in rows (length front))) (λ _. over_vector t) (λ front total bytes rest x read. vector_passed t (rows_in rows (length front)) total bytes rest x read) (vector_count rows) [] total bytes rest vs e

pub columns_passed : (widths : List ℕ) (rows total : ℕ) (bytes rest : List ℕ) (forms : List (List VectorForm)) → (columns widths rows).read total bytes ≡ Ok (forms, rest) → over_columns widths rows total bytes ≡ Ok rest
unfolding columns over_columns
columns_passed widths rows total bytes rest forms e =
    items_passed (λ front. column (slice_index_or widths (length front) 0) rows) (λ at. over_column (slice_index_or widths at 0) rows)
    (λ front total bytes rest x read. column_passed (slice_index_or widths (length front) 0) rows total bytes rest x read) (length widths) [] total bytes rest forms e
