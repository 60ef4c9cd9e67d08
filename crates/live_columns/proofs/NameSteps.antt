-- Names of columns, one after another.
use Rattle.std.proofs.Common.{◌≡◌, ◌≢◌, ℕ, zero, suc, ◌+◌, ◌<◌, ◌≤◌, ◌==◌, Bool, true, false, cond, List, [], ◌∷◌, ◌++◌, length, get_or, drop, map, sum_by, Bor, Option, Some, None, Result, Ok, Err, refl, sym, ap, ◌∙◌, arith, append_assoc, append-nil}
use Rattle.std.specs.List.{All, range_with_len, slice_split, onto_first}
use Rattle.std.proofs.Math.ListN.{drop_of_length-le}
use Rattle.std.proofs.lemmas.List.{drop_more, get_or-map, map-id}
use Rattle.std.proofs.lemmas.List.FromFn.{map-range_with_len_more}
use Rattle.std.proofs.lemmas.List.Splits.{length-slice_split}
use Rattle.std.proofs.lemmas.List.Elements.{All-append}
use Rattle.std.proofs.lemmas.List.Sums.{sum_by-cons}
use Rattle.table_model.specs.Table.{ColumnShape}
use Rattle.live_columns.specs.Names.{place_named, places_from, with_place}

-- places behind others
abbrev pub onto : List ℕ → Result (List ℕ) ℕ → Result (List ℕ) ℕ
onto places (Ok more) = Ok (places ++ more)
onto places (Err at) = Err at

onto-place : (places : List ℕ) (place at : ℕ) (rest : Result (List ℕ) ℕ) → onto places (with_place (Some place) at rest) ≡ onto (places ++ place ∷ []) rest
onto-place places place at (Ok more) = ap Ok (sym (append_assoc places (place ∷ []) more))
onto-place places place at (Err later) = refl

pub onto-none : (rest : Result (List ℕ) ℕ) → onto [] rest ≡ rest
onto-none (Ok more) = refl
onto-none (Err at) = refl

-- one name more
pub place-more : (columns : List ColumnShape) (names : List (List ℕ)) (i at next place : ℕ) (places name : List ℕ) (all : Result (List ℕ) ℕ) → i < length names → name ≡ get_or names i [] → place_named columns name ≡ Some place → next ≡ at + length name + 1 →
    onto places (places_from columns at (drop i names)) ≡ all → onto (places ++ place ∷ []) (places_from columns next (drop (i + 1) names)) ≡ all
place-more columns names i at next place places name all l is found step h =
    ap (λ n. onto (places ++ place ∷ []) (places_from columns n (drop (i + 1) names))) step
    ∙ sym (onto-place places place at (places_from columns (at + length name + 1) (drop (i + 1) names)))
    ∙ ap (λ o. onto places (with_place o at (places_from columns (at + length name + 1) (drop (i + 1) names)))) (sym found)
    ∙ ap (λ (t : List ℕ). onto places (places_from columns at (t ∷ drop (i + 1) names))) is
    ∙ ap (λ (l : List (List ℕ)). onto places (places_from columns at l)) (sym (drop_more names i [] l)) ∙ h

-- a name that no column has
pub place-none : (columns : List ColumnShape) (names : List (List ℕ)) (i at : ℕ) (places name : List ℕ) (all : Result (List ℕ) ℕ) → i < length names → name ≡ get_or names i [] → place_named columns name ≡ None →
    onto places (places_from columns at (drop i names)) ≡ all → all ≡ Err at
place-none columns names i at places name all l is none h =
    sym h ∙ ap (λ (l : List (List ℕ)). onto places (places_from columns at l)) (drop_more names i [] l)
    ∙ ap (λ (t : List ℕ). onto places (places_from columns at (t ∷ drop (i + 1) names))) (sym is)
    ∙ ap (λ o. onto places (with_place o at (places_from columns (at + length name + 1) (drop (i + 1) names)))) none

-- no name more
pub place-end : (columns : List ColumnShape) (names : List (List ℕ)) (i at : ℕ) (places : List ℕ) (all : Result (List ℕ) ℕ) → length names ≤ i → onto places (places_from columns at (drop i names)) ≡ all → all ≡ Ok places
place-end columns names i at places all l h =
    sym h ∙ ap (λ (l : List (List ℕ)). onto places (places_from columns at l)) (drop_of_length-le names l) ∙ ap Ok (append-nil places)

-- ---- the parts of a list are as long as it
-- a part and the byte behind it
abbrev pub part_room : List ℕ → ℕ
part_room part = length part + 1

onto_first-room : (x : ℕ) (parts : List (List ℕ)) → length parts ≢ 0 → sum_by part_room (onto_first x parts) ≡ sum_by part_room parts + 1
onto_first-room x [] ne = absurd (ne refl)
onto_first-room x (part ∷ parts) ne = omega (arith, sum_by-cons part_room (x ∷ part) parts, sum_by-cons part_room part parts)

pub parts-room : (p : ℕ → Bool) (text : List ℕ) → sum_by part_room (slice_split p text) ≡ length text + 1
parts-room p [] = refl
parts-room p (x ∷ text) = one (p x) (parts-room p text)
  where
    some : length (slice_split p text) ≢ 0
    some = λ e. absurd (omega (arith, e, length-slice_split p text))

    one : (b : Bool) → sum_by part_room (slice_split p text) ≡ length text + 1 → sum_by part_room (cond b ([] ∷ slice_split p text) (onto_first x (slice_split p text))) ≡ suc (length text) + 1
    one true h = omega (arith, h, sum_by-cons part_room [] (slice_split p text))
    one false h = omega (arith, h, onto_first-room x (slice_split p text) some)

-- ---- all places
-- one place more
pub place-next : (n : ℕ) → range_with_len 0 (n + 1) ≡ range_with_len 0 n ++ n ∷ []
place-next n = sym (map-id (range_with_len 0 (n + 1))) ∙ map-range_with_len_more (λ k. k) 0 n n (omega arith) ∙ ap (λ (l : List ℕ). l ++ n ∷ []) (map-id (range_with_len 0 n))

-- ---- parts behind references
-- the part at a place
pub part-at : (parts : List (Bor (List ℕ))) (i : ℕ) (d : Bor (List ℕ)) → i < length parts → (get_or parts i d).now ≡ get_or (map (λ (part : Bor (List ℕ)). part.now) parts) i []
part-at parts i d l = sym (get_or-map (λ (part : Bor (List ℕ)). part.now) parts i d [] l)

-- the room of parts behind references
pub parts-borrowed : (parts : List (Bor (List ℕ))) → sum_by (λ (part : Bor (List ℕ)). length part.now + 1) parts ≡ sum_by part_room (map (λ (part : Bor (List ℕ)). part.now) parts)
parts-borrowed [] = refl
parts-borrowed (part ∷ parts) =
    omega (arith, parts-borrowed parts, sum_by-cons (λ (p : Bor (List ℕ)). length p.now + 1) part parts, sum_by-cons part_room part.now (map (λ (p : Bor (List ℕ)). p.now) parts))

-- ---- places that there are
pub no-places : (columns : ℕ) → All (λ place. place < columns) []
no-places columns = λ k d l. absurd (omega (arith, l))

-- one place more
pub within-push : (columns : ℕ) (places : List ℕ) (place : ℕ) → place < columns → All (λ p. p < columns) places → All (λ p. p < columns) (places ++ place ∷ [])
within-push columns places place here h = All-append (λ p. p < columns) places (place ∷ []) h (alone here)
  where
    alone : place < columns → (k : ℕ) (d : ℕ) → k < length (place ∷ []) → get_or (place ∷ []) k d < columns
    alone is zero d l = is
    alone is (suc k) d l = absurd (omega (arith, l))
