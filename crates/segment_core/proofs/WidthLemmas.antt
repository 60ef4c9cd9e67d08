-- The lane widths of a segment's columns, and how many rows its vectors cover.
use Rattle.std.proofs.Common.{◌≡◌, ℕ, zero, suc, ◌-◌, ◌<◌, ◌≤◌, ℤ, List, [], ◌∷◌, map, length, get_or, set, slice_get, Option, Some, IsSome, IfSome, refl, sym, ◌∙◌, ap, arith}
use Rattle.std.proofs.lemmas.List.{same_lists, length-map}
use Rattle.std.proofs.Math.Seq.{map-set_same}
use Rattle.std.proofs.lemmas.Option.{slice_get-get_or}
use Rattle.table_model.specs.State.{Batch}
use Rattle.segment_core.specs.Coded.{lane_width_of}
use Rattle.segment_core.specs.CodedVector.{VectorForm, StandsFor}
use Rattle.segment_core.specs.Segment.{width_in, widths_in, canonical_column, canonical_forms, column_cells, cells_in, vector_count, rows_in, vector_at, with_vector, batch_of, IsSegment, FormsTellRows}
use Rattle.segment_core.proofs.GatherLemmas.{length-column_cells}
use Rattle.segment_core.proofs.BuildLemmas.{slice_get-canonical_column, length-canonical_forms, get_or-canonical_forms}
use Rattle.segment_core.proofs.VectorLemmas.{lane_width-canonical}
use Rattle.segment_core.proofs.PutLemmas.{picked}
use Rattle.segment_core.proofs.CellLemmas.{width_first}

-- ---- the widths of canonical columns
width_in-canonical : (t : ℕ) (cells : List (Option ℤ)) → 1 ≤ length cells → width_in (canonical_column t cells) ≡ t
width_in-canonical t cells h =
    width_first (canonical_column t cells) _ (slice_get-canonical_column t cells 0 (omega arith)) ∙ lane_width-canonical t (cells_in cells 0)

get_or-widths : (forms : List (List VectorForm)) (c d : ℕ) → c < length forms → get_or (map width_in forms) c d ≡ width_in (get_or forms c [])
get_or-widths [] c d h = absurd (omega arith)
get_or-widths (x ∷ xs) zero d h = refl
get_or-widths (x ∷ xs) (suc c) d h = get_or-widths xs c d (omega arith)

number_any : (xs : List ℕ) (n d e : ℕ) → n < length xs → get_or xs n d ≡ get_or xs n e
number_any [] n d e h = absurd (omega arith)
number_any (x ∷ xs) zero d e h = refl
number_any (x ∷ xs) (suc n) d e h = number_any xs n d e (omega arith)

pub widths_in-canonical : (widths : List ℕ) (rows : Batch) → 1 ≤ length rows → widths_in (canonical_forms widths rows) ≡ widths
widths_in-canonical widths rows h =
    let forms : List (List VectorForm) = canonical_forms widths rows in
    let long : length (widths_in forms) ≡ length widths = length-map forms width_in ∙ length-canonical_forms widths rows in
    same_lists (widths_in forms) widths long
    (λ c d w.
    let inside : c < length widths = omega arith in
    let there : c < length forms = omega (arith, length-canonical_forms widths rows) in
    get_or-widths forms c d there
    ∙ ap width_in (get_or-canonical_forms widths rows c [] inside)
    ∙ width_in-canonical (get_or widths c 0) (column_cells rows c) (omega (arith, length-column_cells rows c))
    ∙ number_any widths c 0 d inside)

-- ---- the widths after a vector is put in place of another
width_after : (vectors : List VectorForm) (k : ℕ) (made v : VectorForm) → slice_get vectors k ≡ Some v → StandsFor made v → width_in (set vectors k made) ≡ width_in vectors
width_after [] k made v e h = absurd (cc)
width_after (x ∷ xs) zero made v e h = let same : x ≡ v = cc in h.lane_width ∙ ap (λ (y : VectorForm). lane_width_of y.coded) (sym same)
width_after (x ∷ xs) (suc k) made v e h = refl

pub widths_kept : (forms : List (List VectorForm)) (c k : ℕ) (made : VectorForm) → IsSome (vector_at forms c k) → IfSome (vector_at forms c k) (λ v. StandsFor made v) → widths_in (with_vector forms c k made) ≡ widths_in forms
widths_kept forms c k made there stands =
    let p = picked (vector_at forms c k) (λ (v : VectorForm). StandsFor made v) there stands in
    map-set_same width_in forms c (set (get_or forms c []) k made) [] (width_after (get_or forms c []) k made p.0 p.1 p.2)

-- ---- the vectors tell how many rows there are
counts_from : (m n : ℕ) (vectors : List VectorForm) → 1 ≤ m → 1 ≤ n → length vectors ≡ vector_count m → vector_count m ≡ vector_count n → ((k : ℕ) (v : VectorForm) → slice_get vectors k ≡ Some v → rows_in m k ≡ rows_in n k) → m ≡ n
counts_from m n [] h l long count cover = absurd (omega arith)
counts_from m n (x ∷ xs) h l long count cover =
    let last : ℕ = vector_count m - 1 in
    let within : last < length (x ∷ xs) = omega arith in
    let same : rows_in m last ≡ rows_in n last = cover last (get_or (x ∷ xs) last x) (slice_get-get_or (x ∷ xs) last x within) in
    omega arith

pub counts_agree : (m n : ℕ) (forms : List (List VectorForm)) → IsSegment m forms → IsSegment n forms → m ≡ n
counts_agree m n forms a b =
    let first : slice_get forms 0 ≡ Some (get_or forms 0 []) = slice_get-get_or forms 0 [] (let l = a.some_columns in omega arith) in
    let own = a.columns 0 (get_or forms 0 []) first in
    let other = b.columns 0 (get_or forms 0 []) first in
    let count : vector_count m ≡ vector_count n = sym own.count ∙ other.count in
    counts_from m n (get_or forms 0 []) a.some b.some own.count count
    (λ k v e. sym (own.cover k v e) ∙ other.cover k v e)

pub forms_tell_rows : FormsTellRows
forms_tell_rows m n forms a b = ap (λ k. batch_of k forms) (counts_agree m n forms a b)
