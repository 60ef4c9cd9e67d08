-- What a partial answer has is valid: each piece of it has bytes.
use Rattle.std.proofs.Common.{◌≡◌, ℕ, ◌+◌, ◌*◌, ◌<◌, ◌≤◌, Bool, true, false, cond, not, IsTrue, ◌&&◌, ◌||◌, eqb, leb, ltb, List, [], ◌∷◌, ◌++◌, length, get_or, take, map, ℤ, Some, None, FitsSigned, refl, sym, ap, subst, ◌∙◌, arith}
use Rattle.std.specs.Int.{w64, w128, cast_unsigned}
use Rattle.std.specs.List.{AllByRecursion, flat_map, list_all}
use Rattle.std.specs.List.Sorted.{IsStrictlySortedBy}
use Rattle.std.specs.Map.{keys_of}
use Rattle.std.specs.Ordering.{int_cmp, is_lt}
use Rattle.std.specs.Result.{OnOk}
use Rattle.std.specs.Str.{IsUtf8, is_utf8}
use Rattle.std.specs.declared.cmp.Ordering.TheVariants.{Less}
use Rattle.std.proofs.Common.{Result, Ok, Err}
use Rattle.std.proofs.lemmas.Bool.{and_parts, and_from, eq-eqb, le-leb}
use Rattle.std.proofs.lemmas.Bool.Decides.{nat_tests}
use Rattle.std.proofs.lemmas.Grind.{take_at_read}
use Rattle.std.proofs.lemmas.List.{flat_map_more}
use Rattle.std.proofs.lemmas.List.Folds.{list_all_more}
use Rattle.std.proofs.lemmas.Str.{is_utf8-from_IsUtf8}
use Rattle.table_model.specs.Group.{key_cmp}
use Rattle.table_model.specs.State.{Cells}
use Rattle.catalogue_join.specs.Run.{is_named_run, name_place, run_shape}
use Rattle.catalogue_join.specs.RunShape.{bounds_of}
use Rattle.catalogue_join.specs.Span.{Rises}
use Rattle.catalogue_join.specs.declared.run.Run.{Run}
use Rattle.segment_core.specs.Format.{AreBytes, Format, all, is_byte, is_in_bits, number, raw, signed, valid_all}
use Rattle.segment_core.proofs.NumberLaws.{in_bits_fits, number_is_valid, signed_is_valid}
use Rattle.partial_answers.specs.Refusing.{kept_kind}
use Rattle.partial_answers.specs.declared.kept.Kept.{Kept}
use Rattle.partial_answers.specs.declared.kept.Kept.TheVariants.{Count, Sum, Least, Greatest, Distinct}
use Rattle.partial_file.specs.PartialAnswerBytes.{Body, Entry, begins_after, body, cell, cell_value, cell_words, counted, entry_of, extreme, group, groups, is_after, is_greater, is_long, is_named, is_run, kept, kept_as, key, run, run_parts, runs, sum_parts, text, value, values, wide}
use Rattle.partial_file.proofs.GroupLists.{Pair, group_after_last}
use Rattle.partial_file.proofs.Rising.{run_after_last, value_after_last}
use Rattle.partial_file.proofs.Spelled.{fits_wide, is_64, one_word, wide_below}

-- what is so in any case is so after an Ok
pub on_ok : {T E P : Type 0} (r : Result T E) → P → OnOk r P
on_ok (Ok x) p = p
on_ok (Err e) p = tt

-- ---- lists

-- items of one format are valid where each of them is
each_valid : {A : Type 0} (f : Format A) (front xs : List A) → list_all f.valid xs ≡ true → valid_all (λ _. f) front xs ≡ true
unfolding valid_all
each_valid f front [] each = refl
each_valid f front (x ∷ xs) each =
    let v = and_parts (f.valid x) (list_all f.valid xs) each in
    and_from (f.valid x) (valid_all (λ _. f) (front ++ x ∷ []) xs) v.0 (each_valid f (front ++ x ∷ []) xs v.1)

counted_valid : {A : Type 0} (item : List A → Format A) (xs : List A) → (number 8).valid (length xs) ≡ true → valid_all item [] xs ≡ true → (counted item).valid xs ≡ true
unfolding counted
counted_valid item xs count each =
    let n = length xs in
    and_from ((number 8).valid n) (eqb n n && valid_all item [] xs) count
    (and_from (eqb n n) (valid_all item [] xs) (eq-eqb n n refl) each)

each_counted : {A : Type 0} (f : Format A) (xs : List A) → (number 8).valid (length xs) ≡ true → list_all f.valid xs ≡ true → (counted (λ _. f)).valid xs ≡ true
each_counted f xs count each = counted_valid (λ _. f) xs count (each_valid f [] xs each)

-- one more of some items is put and is valid
pub items_more : {A : Type 0} (f : Format A) (xs : List A) (i : ℕ) (d : A) (start old new : List ℕ) → i < length xs → (old ≡ start ++ flat_map f.spell (take i xs)) × IsTrue (list_all f.valid (take i xs))
    → new ≡ old ++ f.spell (get_or xs i d) → f.valid (get_or xs i d) ≡ true → (new ≡ start ++ flat_map f.spell (take (i + 1) xs)) × IsTrue (list_all f.valid (take (i + 1) xs))
items_more {A = A} f xs i d start old new inside before put valid = (
  put ∙ ap (λ (t : List ℕ). t ++ f.spell (get_or xs i d)) before.0 ∙ flat_map_more f.spell start (take i xs) (get_or xs i d)
      ∙ ap (λ (ys : List A). start ++ flat_map f.spell ys) (sym (take_at_read xs i d inside).1),
  list_all_more f.valid xs i d inside ∙ and_from (list_all f.valid (take i xs)) (f.valid (get_or xs i d)) before.1 valid,
)

-- ---- texts

pub text_valid : (t : List ℕ) → (number 8).valid (length t) ≡ true → AreBytes t → IsUtf8 t → text.valid t ≡ true
unfolding text
text_valid t count bytes utf8 =
    let n = length t in
    and_from ((number 8).valid n && (raw n).valid t) (is_utf8 t)
    (and_from ((number 8).valid n) ((raw n).valid t) count (and_from (eqb n n) (list_all is_byte t) (eq-eqb n n refl) bytes)) (is_utf8-from_IsUtf8 t utf8)

-- ---- runs of names

run_valid : (front : List Run) (r : Run) → is_named_run r ≡ true → r.first.number.0 ≤ r.last.0 → begins_after front r ≡ true → (run front).valid r ≡ true
unfolding run run_parts
run_valid front r named within after =
    let b = bounds_of r named in
    let two = (number 4).valid r.first.number.0 && (number 4).valid r.last.0 in
    let three = (number 4).valid r.first.origin.0 && two in
    let numbers = and_from ((number 4).valid r.first.origin.0) two (number_is_valid 4 r.first.origin.0 b.origin)
    (and_from ((number 4).valid r.first.number.0) ((number 4).valid r.last.0) (number_is_valid 4 r.first.number.0 b.number) (number_is_valid 4 r.last.0 b.last)) in
    and_from ((three && is_named r) && is_run r) (begins_after front r)
    (and_from (three && is_named r) (is_run r) (and_from three (is_named r) numbers b.proper) (le-leb _ _ within)) after

-- the first of the runs, if there is one, begins after the end of those before it
abbrev BeginAfter : List Run → List Run → Type 0
BeginAfter front [] = Unit {0}
BeginAfter front (r ∷ rs) = begins_after front r ≡ true

place_after : (o l o' f : ℕ) → f < 4294967296 → o * 8589934592 + l + 2 ≤ o' * 8589934592 + f → (ltb o o' || (eqb o o' && ltb (l + 1) f)) ≡ true
place_after o l o' f small h = grind (arith, nat_tests)

next_run : (front : List Run) (p : Run) (rs : List Run) → Rises run_shape (name_place p.first.origin p.last.0 + 2) rs → BeginAfter (front ++ p ∷ []) rs
next_run front p [] rises = tt
next_run front p (r ∷ rs) rises =
    run_after_last front p r ∙ place_after p.first.origin.0 p.last.0 r.first.origin.0 r.first.number.0 (bounds_of r rises.2).number rises.0

all_runs : (front rs : List Run) (n : ℕ) → Rises run_shape n rs → BeginAfter front rs → valid_all run front rs ≡ true
unfolding valid_all
all_runs front [] n rises begin = refl
all_runs front (r ∷ rs) n rises begin =
    let within : r.first.number.0 ≤ r.last.0 = (let h = rises.1 in omega (arith, h)) in
    and_from ((run front).valid r) (valid_all run (front ++ r ∷ []) rs) (run_valid front r rises.2 within begin)
    (all_runs (front ++ r ∷ []) rs (name_place r.first.origin r.last.0 + 2) rises.3 (next_run front r rs rises.3))

first_run : (rs : List Run) → BeginAfter [] rs
first_run [] = tt
first_run (r ∷ rs) = refl

-- maximal runs in ascending order are valid
pub runs_valid : (rs : List Run) → (number 8).valid (length rs) ≡ true → Rises run_shape 0 rs → runs.valid rs ≡ true
unfolding runs
runs_valid rs count rises = counted_valid run rs count (all_runs [] rs 0 rises (first_run rs))

-- ---- numbers

pub narrow_is_valid : (z : ℤ) → FitsSigned w64 z → (signed 64).valid z ≡ true
narrow_is_valid z fits = signed_is_valid 64 z is_64 fits

pub wide_is_valid : (z : ℤ) → FitsSigned w128 z → wide.valid z ≡ true
unfolding wide
wide_is_valid z fits = rw (fits_wide z fits) (number_is_valid 16 (cast_unsigned w128 z) (wide_below z fits))

-- a number from 0 to a greatest, in a byte
tag_valid : (n most : ℕ) → n ≤ most → most < 256 → ((number 1).valid n && leb n most) ≡ true
tag_valid n most within small = and_from ((number 1).valid n) (leb n most) (number_is_valid 1 n (omega (arith, within, small))) (le-leb n most within)

pub null_is_valid : cell.valid None ≡ true
unfolding cell
null_is_valid = and_from ((number 1).valid 0 && leb 0 2) true (tag_valid 0 2 (omega arith) (omega arith)) refl

cell_of_words : (n : ℕ) (z : ℤ) → cell_words (Some z) ≡ n → n ≤ 2 → (cell_value n).valid (Some z) ≡ true → cell.valid (Some z) ≡ true
unfolding cell
cell_of_words n z words within valid =
    let P : ℕ → Type 0 = λ k. (((number 1).valid k && leb k 2) && (cell_value k).valid (Some z)) ≡ true in
    subst P (sym words) (and_from ((number 1).valid n && leb n 2) ((cell_value n).valid (Some z)) (tag_valid n 2 within (omega arith)) valid)

two_words : (z : ℤ) → is_in_bits 64 z ≡ false → cell_words (Some z) ≡ 2
two_words z e = ap (λ (b : Bool). cond (not b) 2 1) e

pub cell_is_valid : (z : ℤ) → FitsSigned w128 z → cell.valid (Some z) ≡ true
cell_is_valid z fits = go (is_in_bits 64 z) refl
  where
    go : (b : Bool) → is_in_bits 64 z ≡ b → cell.valid (Some z) ≡ true
    go true e = cell_of_words 1 z (one_word z e) (omega arith) (narrow_is_valid z (in_bits_fits 64 z is_64 e))
    go false e = cell_of_words 2 z (two_words z e) (omega arith) (and_from (wide.valid z) (is_long z) (wide_is_valid z fits) (ap not e))

pub no_extreme_is_valid : extreme.valid None ≡ true
unfolding extreme
no_extreme_is_valid = and_from ((number 1).valid 0 && leb 0 1) true (tag_valid 0 1 (omega arith) (omega arith)) refl

pub extreme_is_valid : (z : ℤ) → FitsSigned w64 z → extreme.valid (Some z) ≡ true
unfolding extreme
extreme_is_valid z fits = and_from ((number 1).valid 1 && leb 1 1) ((signed 64).valid z) (tag_valid 1 1 (omega arith) (omega arith)) (narrow_is_valid z fits)

-- ---- what is kept

-- the first of the values, if there is one, is greater than those before it
abbrev BeginAbove : List ℤ → List ℤ → Type 0
BeginAbove front [] = Unit {0}
BeginAbove front (z ∷ zs) = is_greater front z ≡ true

next_value : (front : List ℤ) (y : ℤ) (zs : List ℤ) → AllByRecursion (λ x. int_cmp y x ≡ Less) zs → BeginAbove (front ++ y ∷ []) zs
next_value front y [] less = tt
next_value front y (z ∷ zs) less = value_after_last front y z ∙ ap is_lt less.0

all_values : (front zs : List ℤ) → IsStrictlySortedBy int_cmp zs → list_all (signed 64).valid zs ≡ true → BeginAbove front zs → valid_all value front zs ≡ true
unfolding valid_all value IsStrictlySortedBy
all_values front [] sorted each begin = refl
all_values front (z ∷ zs) sorted each begin =
    let v = and_parts ((signed 64).valid z) (list_all (signed 64).valid zs) each in
    and_from ((signed 64).valid z && is_greater front z) (valid_all value (front ++ z ∷ []) zs)
    (and_from ((signed 64).valid z) (is_greater front z) v.0 begin)
    (all_values (front ++ z ∷ []) zs sorted.1 v.1 (next_value front z zs sorted.0))

first_value : (zs : List ℤ) → BeginAbove [] zs
first_value [] = tt
first_value (z ∷ zs) = refl

-- distinct values in ascending order are valid
pub values_valid : (zs : List ℤ) → (number 8).valid (length zs) ≡ true → IsStrictlySortedBy int_cmp zs → list_all (signed 64).valid zs ≡ true → values.valid zs ≡ true
unfolding values
values_valid zs count sorted each = counted_valid value zs count (all_values [] zs sorted each (first_value zs))

pub sums_valid : (n : ℕ) (z : ℤ) → (number 8).valid n ≡ true → wide.valid z ≡ true → sum_parts.valid (n, z) ≡ true
unfolding sum_parts
sums_valid n z count sum = and_from ((number 8).valid n) (wide.valid z) count sum

kind_within : (k : Kept) → kept_kind k ≤ 4
kind_within (Count n) = omega arith
kind_within (Sum sums) = omega arith
kind_within (Least o) = omega arith
kind_within (Greatest o) = omega arith
kind_within (Distinct zs) = omega arith

pub kept_valid : (k : Kept) → (kept_as (kept_kind k)).valid k ≡ true → kept.valid k ≡ true
unfolding kept
kept_valid k content =
    and_from ((number 1).valid (kept_kind k) && leb (kept_kind k) 4) ((kept_as (kept_kind k)).valid k) (tag_valid (kept_kind k) 4 (kind_within k) (omega arith)) content

pub measures_valid : (ks : List Kept) → (number 8).valid (length ks) ≡ true → list_all kept.valid ks ≡ true → (counted (λ _. kept)).valid ks ≡ true
measures_valid ks count each = each_counted kept ks count each

-- ---- groups

pub key_valid : (cells : Cells) → (number 8).valid (length cells) ≡ true → list_all cell.valid cells ≡ true → key.valid cells ≡ true
unfolding key
key_valid cells count each = each_counted cell cells count each

-- whether a group has bytes, wherever it is
abbrev has_both : Entry → Bool
has_both g = key.valid g.0 && (counted (λ _. kept)).valid g.1

pub group_valid : (g : Entry) → key.valid g.0 ≡ true → (counted (λ _. kept)).valid g.1 ≡ true → (group []).valid g ≡ true
unfolding group
group_valid g keys measures = and_from (has_both g) true (and_from (key.valid g.0) ((counted (λ _. kept)).valid g.1) keys measures) refl

-- the first of the groups, if there is one, comes after those before it
abbrev ComeAfter : List Entry → List Entry → Type 0
ComeAfter front [] = Unit {0}
ComeAfter front (g ∷ gs) = is_after front g ≡ true

next_group : (front : List Entry) (y : Pair) (es : List Pair) → AllByRecursion (λ k. key_cmp y.0 k ≡ Less) (keys_of es) → ComeAfter (front ++ entry_of y ∷ []) (map entry_of es)
next_group front y [] less = tt
next_group front y (e ∷ es) less = group_after_last front (entry_of y) (entry_of e) ∙ ap is_lt less.0

all_groups : (front : List Entry) (es : List Pair) → IsStrictlySortedBy key_cmp (keys_of es) → list_all (group []).valid (map entry_of es) ≡ true → ComeAfter front (map entry_of es) → valid_all group front (map entry_of es) ≡ true
unfolding valid_all IsStrictlySortedBy group
all_groups front [] sorted each come = refl
all_groups front (e ∷ es) sorted each come =
    let g = entry_of e in
    let v = and_parts ((group []).valid g) (list_all (group []).valid (map entry_of es)) each in
    let w = and_parts (has_both g) (is_after [] g) v.0 in
    and_from ((group front).valid g) (valid_all group (front ++ g ∷ []) (map entry_of es))
    (and_from (has_both g) (is_after front g) w.0 come)
    (all_groups (front ++ g ∷ []) es sorted.1 v.1 (next_group front e es sorted.0))

first_group : (gs : List Entry) → ComeAfter [] gs
first_group [] = tt
first_group (g ∷ gs) = refl

-- groups in ascending order of their keys are valid
pub groups_valid : (es : List Pair) → (number 8).valid (length (map entry_of es)) ≡ true → IsStrictlySortedBy key_cmp (keys_of es) → list_all (group []).valid (map entry_of es) ≡ true → groups.valid (map entry_of es) ≡ true
unfolding groups
groups_valid es count sorted each = counted_valid group (map entry_of es) count (all_groups [] es sorted each (first_group (map entry_of es)))

-- whether each of some groups has bytes
abbrev pub have_bytes : List Pair → Bool
have_bytes es = list_all (group []).valid (map entry_of es)

-- one more group has bytes, so all have where those that are left have
pub group_more : (all : Bool) (x : Pair) (s t : List Pair) → s ≡ x ∷ t → all ≡ have_bytes s → (group []).valid (entry_of x) ≡ true → all ≡ have_bytes t
group_more all x s t is before one = before ∙ ap have_bytes is ∙ ap (λ (b : Bool). b && have_bytes t) one

-- no group is left, so all have
pub groups_done : (all : Bool) (s : List Pair) → s ≡ [] → all ≡ have_bytes s → all ≡ true
groups_done all s is before = before ∙ ap have_bytes is

-- ---- the whole

pub body_valid : (b : Body) → text.valid b.0 ≡ true → runs.valid b.1.0 ≡ true → runs.valid b.1.1.0 ≡ true → groups.valid b.1.1.1 ≡ true → body.valid b ≡ true
unfolding body
body_valid b words held strays listed =
    and_from (text.valid b.0) (runs.valid b.1.0 && (runs.valid b.1.1.0 && groups.valid b.1.1.1)) words
    (and_from (runs.valid b.1.0) (runs.valid b.1.1.0 && groups.valid b.1.1.1) held (and_from (runs.valid b.1.1.0) (groups.valid b.1.1.1) strays listed))
