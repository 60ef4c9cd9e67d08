-- The bytes of a partial answer's fields.
use Rattle.std.proofs.Common.{◌≡◌, ℕ, ◌^◌, ◌<◌, Bool, true, false, cond, not, List, [], ◌∷◌, ◌++◌, length, map, codes, ℤ, pos, negsuc, Some, None, FitsSigned, inr, refl, sym, ap, ◌∙◌, append_assoc}
use Rattle.std.specs.Int.{w64, w128, cast_unsigned}
use Rattle.std.specs.Global.{Vec}
use Rattle.std.specs.List.{flat_map}
use Rattle.std.proofs.lemmas.Bool.{lt-ltb}
use Rattle.std.proofs.lemmas.List.{append-nil}
use Rattle.std.proofs.Math.Facts.{Fits-of_z}
use Rattle.byteorder.specs.Endian.{little_bytes}
use Rattle.transpose_order.specs.Place.{IsLaneWidth}
use Rattle.segment_core.specs.Format.{Format, number, signed, spell_all, is_in_bits}
use Rattle.segment_core.proofs.NumberLaws.{number_spelled, in_bits_fits, fits_in_bits}
use Rattle.segment_core.proofs.Writings.{spell_all-cons, spell_all-nil}
use Rattle.catalogue_join.specs.declared.run.Run.{Run}
use Rattle.table_model.specs.State.{Cells}
use Rattle.table_model.specs.Table.{Table}
use Rattle.column_file.specs.SummaryBytes.{head}
use Rattle.partial_answers.specs.Refusing.{kept_kind}
use Rattle.partial_answers.specs.declared.kept.Kept.{Kept}
use Rattle.partial_file.specs.PartialAnswerBytes.{Body, Entry, body, cell, cell_value, cell_words, counted, entry_of, extreme, group, groups, kept, kept_as, key, partial, run, run_parts, runs, sum_parts, text, value, values, wide}

-- ---- lists

-- the bytes of items do not depend on the items before them where those of one do not
pub flat : {A : Type 0} (item : List A → Format A) (front xs : List A) → ((f : List A) (x : A) → (item f).spell x ≡ (item []).spell x) → spell_all item front xs ≡ flat_map (item []).spell xs
flat item front [] same = spell_all-nil item front
flat {A = A} item front (x ∷ xs) same =
    spell_all-cons item front x xs ∙ ap (λ (t : List ℕ). t ++ spell_all item (front ++ x ∷ []) xs) (same front x)
    ∙ ap (λ (t : List ℕ). (item []).spell x ++ t) (flat item (front ++ x ∷ []) xs same)

pub counted_flat : {A : Type 0} (item : List A → Format A) (xs : List A) → ((f : List A) (x : A) → (item f).spell x ≡ (item []).spell x) → (counted item).spell xs ≡ (number 8).spell (length xs) ++ flat_map (item []).spell xs
unfolding counted
counted_flat item xs same = ap (λ (t : List ℕ). (number 8).spell (length xs) ++ t) (flat item [] xs same)

-- two texts are put one after another
pub both_put : (start mid new xs ys zs : List ℕ) → mid ≡ start ++ xs → new ≡ mid ++ ys → zs ≡ xs ++ ys → new ≡ start ++ zs
both_put start mid new xs ys zs first second whole = second ∙ ap (λ (t : List ℕ). t ++ ys) first ∙ append_assoc start xs ys ∙ ap (λ (t : List ℕ). start ++ t) (sym whole)

-- three texts are put one after another
pub three_put : (start one two new xs ys zs whole : List ℕ) → one ≡ start ++ xs → two ≡ one ++ ys → new ≡ two ++ zs → whole ≡ xs ++ (ys ++ zs) → new ≡ start ++ whole
three_put start one two new xs ys zs whole first second third is = both_put start one new xs (ys ++ zs) whole first (both_put one two new ys zs (ys ++ zs) second third refl) is

-- ---- texts and names

pub text_spelled : (t : List ℕ) → text.spell t ≡ (number 8).spell (length t) ++ t
unfolding text
text_spelled t = refl

pub run_spelled : (r : Run) → (run []).spell r ≡ (number 4).spell r.first.origin.0 ++ ((number 4).spell r.first.number.0 ++ (number 4).spell r.last.0)
unfolding run run_parts
run_spelled r = refl

run_anywhere : (front : List Run) (r : Run) → (run front).spell r ≡ (run []).spell r
unfolding run
run_anywhere front r = refl

pub runs_spelled : (rs : List Run) → runs.spell rs ≡ (number 8).spell (length rs) ++ flat_map (run []).spell rs
unfolding runs
runs_spelled rs = counted_flat run rs run_anywhere

-- ---- numbers

pub fits_wide : (z : ℤ) → FitsSigned w128 z → is_in_bits 128 z ≡ true
fits_wide (pos n) fits = lt-ltb _ _ fits.sfits
fits_wide (negsuc n) fits = lt-ltb _ _ fits.sfits

pub wide_below : (z : ℤ) → FitsSigned w128 z → cast_unsigned w128 z < 256 ^ 16
wide_below z fits = (Fits-of_z fits).fits

pub wide_spelled : (z : ℤ) → FitsSigned w128 z → wide.spell z ≡ little_bytes 16 (cast_unsigned w128 z)
unfolding wide
wide_spelled z fits = rw (fits_wide z fits) (number_spelled 16 (cast_unsigned w128 z) (wide_below z fits))

pub is_64 : IsLaneWidth 64
is_64 = inr (inr (inr refl))

pub null_spelled : cell.spell None ≡ (number 1).spell 0
unfolding cell
null_spelled = append-nil ((number 1).spell 0)

some_spelled : (z : ℤ) → cell.spell (Some z) ≡ (number 1).spell (cell_words (Some z)) ++ (cell_value (cell_words (Some z))).spell (Some z)
unfolding cell
some_spelled z = refl

pub one_word : (z : ℤ) → is_in_bits 64 z ≡ true → cell_words (Some z) ≡ 1
one_word z e = ap (λ (b : Bool). cond (not b) 2 1) e

pub short_spelled : (z : ℤ) → FitsSigned w64 z → cell.spell (Some z) ≡ (number 1).spell 1 ++ (signed 64).spell z
short_spelled z fits = some_spelled z ∙ ap (λ (n : ℕ). (number 1).spell n ++ (cell_value n).spell (Some z)) (one_word z (fits_in_bits 64 z is_64 fits))

pub long : (z : ℤ) → (FitsSigned w64 z → ⊥) → is_in_bits 64 z ≡ false
long z not = go (is_in_bits 64 z) refl
  where
    go : (b : Bool) → is_in_bits 64 z ≡ b → is_in_bits 64 z ≡ false
    go true e = absurd (not (in_bits_fits 64 z is_64 e))
    go false e = e

pub long_spelled : (z : ℤ) → (FitsSigned w64 z → ⊥) → cell.spell (Some z) ≡ (number 1).spell 2 ++ wide.spell z
unfolding cell
long_spelled z not = rw (long z not) refl

pub no_extreme_spelled : extreme.spell None ≡ (number 1).spell 0
unfolding extreme
no_extreme_spelled = append-nil ((number 1).spell 0)

pub extreme_spelled : (z : ℤ) → extreme.spell (Some z) ≡ (number 1).spell 1 ++ (signed 64).spell z
unfolding extreme
extreme_spelled z = refl

-- ---- groups

pub key_spelled : (cells : Cells) → key.spell cells ≡ (number 8).spell (length cells) ++ flat_map cell.spell cells
unfolding key
key_spelled cells = counted_flat (λ _. cell) cells (λ f x. refl)

pub values_spelled : (zs : List ℤ) → values.spell zs ≡ (number 8).spell (length zs) ++ flat_map (signed 64).spell zs
unfolding values value
values_spelled zs = counted_flat value zs (λ front z. refl)

pub sums_spelled : (n : ℕ) (z : ℤ) → sum_parts.spell (n, z) ≡ (number 8).spell n ++ wide.spell z
unfolding sum_parts
sums_spelled n z = refl

pub kept_spelled : (k : Kept) → kept.spell k ≡ (number 1).spell (kept_kind k) ++ (kept_as (kept_kind k)).spell k
unfolding kept
kept_spelled k = refl

pub measures_spelled : (ks : List Kept) → (counted (λ _. kept)).spell ks ≡ (number 8).spell (length ks) ++ flat_map kept.spell ks
measures_spelled ks = counted_flat (λ _. kept) ks (λ f x. refl)

pub group_spelled : (g : Entry) → (group []).spell g ≡ key.spell g.0 ++ (counted (λ _. kept)).spell g.1
unfolding group
group_spelled g = refl

group_anywhere : (front : List Entry) (g : Entry) → (group front).spell g ≡ (group []).spell g
unfolding group
group_anywhere front g = refl

pub groups_spelled : (gs : List Entry) → groups.spell gs ≡ (number 8).spell (length gs) ++ flat_map (group []).spell gs
unfolding groups
groups_spelled gs = counted_flat group gs group_anywhere

-- the bytes of groups
abbrev pub group_bytes : List (Cells × Vec Kept) → List ℕ
group_bytes es = flat_map (group []).spell (map entry_of es)

-- one more group is put
pub group_put : (old new whole : List ℕ) (x : Cells × Vec Kept) (s t : List (Cells × Vec Kept)) → s ≡ x ∷ t → old ++ group_bytes s ≡ whole → new ≡ old ++ (group []).spell (entry_of x) → new ++ group_bytes t ≡ whole
group_put old new whole x s t is before one =
    ap (λ (b : List ℕ). b ++ group_bytes t) one ∙ append_assoc old ((group []).spell (entry_of x)) (group_bytes t)
    ∙ ap (λ (es : List (Cells × Vec Kept)). old ++ group_bytes es) (sym is) ∙ before

-- all groups are put
pub groups_put : (new whole : List ℕ) (s : List (Cells × Vec Kept)) → s ≡ [] → new ++ group_bytes s ≡ whole → new ≡ whole
groups_put new whole s is all = sym (append-nil new) ∙ ap (λ (es : List (Cells × Vec Kept)). new ++ group_bytes es) (sym is) ∙ all

-- ---- the whole

pub body_spelled : (b : Body) → body.spell b ≡ text.spell b.0 ++ (runs.spell b.1.0 ++ (runs.spell b.1.1.0 ++ groups.spell b.1.1.1))
unfolding body
body_spelled b = refl

pub partial_answer_spelled : (t : Table) (b : Body) → partial.spell (t, b) ≡ (head (codes "FLPT")).spell t ++ body.spell b
unfolding partial
partial_answer_spelled t b = refl

-- the bytes of a partial answer after its schema are put one after another
pub body_put : (none one two three new : List ℕ) (b : Body) → none ≡ [] → one ≡ none ++ text.spell b.0 → two ≡ one ++ runs.spell b.1.0 → three ≡ two ++ runs.spell b.1.1.0 → new ≡ three ++ groups.spell b.1.1.1 → new ≡ body.spell b
body_put none one two three new b nothing first second third last =
    let end = both_put two three new (runs.spell b.1.1.0) (groups.spell b.1.1.1) (runs.spell b.1.1.0 ++ groups.spell b.1.1.1) third last refl in
    let middle = both_put one two new (runs.spell b.1.0) (runs.spell b.1.1.0 ++ groups.spell b.1.1.1) (runs.spell b.1.0 ++ (runs.spell b.1.1.0 ++ groups.spell b.1.1.1)) second end refl in
    both_put none one new (text.spell b.0) (runs.spell b.1.0 ++ (runs.spell b.1.1.0 ++ groups.spell b.1.1.1)) (body.spell b) first middle (body_spelled b)
    ∙ ap (λ (t : List ℕ). t ++ body.spell b) nothing
