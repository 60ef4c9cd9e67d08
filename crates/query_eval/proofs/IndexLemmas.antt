-- The entries of an index: in ascending order they give each key the same place.
use Rattle.std.proofs.Common.{◌≡◌, ℕ, ◌+◌, ◌<◌, Bool, true, false, List, length, get_or, Option, Some, None, [], refl, sym, ap, subst, ◌∙◌, arith}
use Rattle.std.specs.Cmp.{IsEquivalence}
use Rattle.std.specs.Cmp.Lexicographic.{pointwise}
use Rattle.std.specs.List.{IsDistinct}
use Rattle.std.specs.List.Sorted.{IsPermutation, IsSorted, IsStrictlySortedBy}
use Rattle.std.specs.Map.{keys_of, lookup}
use Rattle.std.specs.Option.{option_eq}
use Rattle.std.specs.Ordering.{int_eq, is_eq, is_lt, nat_cmp, ordering_reverse, ordering_then}
use Rattle.std.specs.declared.cmp.Ordering.{Ordering}
use Rattle.std.specs.declared.cmp.Ordering.TheVariants.{Less, Equal, Greater}
use Rattle.std.proofs.lemmas.Bool.{false≢true}
use Rattle.std.proofs.lemmas.List.{get_or-map, length-map}
use Rattle.std.proofs.lemmas.List.Sorted.{Contains-permutation, IsPermutation-map, IsPermutation-sym}
use Rattle.std.proofs.lemmas.Map.Keys.{IsDistinct-IsPermutation, IsDistinct-from_sorted, apart_from_distinct, sorted_from_all_adjacent}
use Rattle.std.proofs.lemmas.Map.Views.{Contains-from_lookup, lookup-from_Contains}
use Rattle.std.proofs.lemmas.Option.{none-some}
use Rattle.table_model.specs.Group.{key_cmp}
use Rattle.table_model.specs.State.{Cells, same_cells}
use Rattle.table_model.proofs.Keys.{key_total, tied_keys}
use Rattle.table_model.proofs.SameRows.{one_row, itself_row, same_cells-pointwise}
use Rattle.query_eval.specs.Entries.{Entries, place_in}
use Rattle.query_eval.proofs.PlaceLemmas.{turned}

abbrev pub key_eq : Cells → Cells → Bool
key_eq = pointwise (option_eq int_eq)

-- what the library looks up is a key's place
pub found_is : (entries : Entries) (key : Cells) → lookup (key_eq key) entries ≡ place_in entries key
found_is entries key = λ i. lookup (λ k. same_cells-pointwise key k i) entries

flips : (x y : Cells) → same_cells x y ≡ same_cells y x
flips x y = by_test (same_cells x y) refl
  where
    by_test : (b : Bool) → same_cells x y ≡ b → same_cells x y ≡ same_cells y x
    by_test true e = e ∙ sym (ap (same_cells y) (one_row x y e) ∙ itself_row y)
    by_test false e = e ∙ sym (turned x y e)

pub key_equivalence : IsEquivalence same_cells
key_equivalence = record { refl = itself_row; symm = flips; congr = λ x y z e. ap (λ k. same_cells k z) (one_row x y e) }

-- keys of which no two are the same, by the library's test and by ours
pub apart_is : (ks : List Cells) → IsDistinct key_eq ks → IsDistinct same_cells ks
apart_is ks h = subst (λ (eq : Cells → Cells → Bool). IsDistinct eq ks) (λ i a b. same_cells-pointwise a b i) h

pub apart_from_order : (ks : List Cells) → IsStrictlySortedBy key_cmp ks → IsDistinct same_cells ks
apart_from_order ks h = subst (λ (eq : Cells → Cells → Bool). IsDistinct eq ks) (λ i a b. sym (tied_keys a b) i) (IsDistinct-from_sorted key_cmp ks h)

-- of two keys that differ the first is below the second, if the second isn't below the first
rises : (x y : Cells) (o p : Ordering) → key_cmp y x ≡ o → is_lt (ordering_then o p) ≡ false → same_cells x y ≡ false → key_cmp x y ≡ Less
rises x y Less p e h apart = absurd (false≢true (sym h))
rises x y Equal p e h apart = absurd (false≢true (sym apart ∙ flips x y ∙ tied_keys y x ∙ ap is_eq e))
rises x y Greater p e h apart = key_total.antisymm x y ∙ ap ordering_reverse e

module _ (pairs entries : Entries) (apart : IsDistinct key_eq (keys_of pairs)) (moved : IsPermutation pairs entries) where
  apart_moved : IsDistinct same_cells (keys_of entries)
  apart_moved = IsDistinct-IsPermutation same_cells flips (keys_of pairs) (keys_of entries) (IsPermutation-map (λ (e : Cells × ℕ). e.0) pairs entries moved) (apart_is (keys_of pairs) apart)

  -- entries that were sorted have their keys in ascending order
  pub keys_ascend : IsSorted (λ (x y : Cells × ℕ). ordering_then (key_cmp x.0 y.0) (nat_cmp x.1 y.1)) entries → IsStrictlySortedBy key_cmp (keys_of entries)
  keys_ascend sorted = sorted_from_all_adjacent key_total (keys_of entries) [] (λ k l.
      let long = length-map entries (λ (e : Cells × ℕ). e.0) in
      let within : k + 1 < length entries = omega (arith, l, long) in
      let first = get_or-map (λ (e : Cells × ℕ). e.0) entries k ([], 0) [] (omega (arith, within)) in
      let second = get_or-map (λ (e : Cells × ℕ). e.0) entries (k + 1) ([], 0) [] within in
      let a = get_or entries k ([], 0) in
      let b = get_or entries (k + 1) ([], 0) in
      let differ = apart_from_distinct same_cells (keys_of entries) k (k + 1) [] apart_moved (omega arith) l in
      (λ i. key_cmp (first i) (second i))
      ∙ rises a.0 b.0 (key_cmp b.0 a.0) (nat_cmp b.1 a.1) refl (sorted k ([], 0) (omega arith) within) ((λ i. same_cells (sym first i) (sym second i)) ∙ differ))

  -- and give each key its place
  pub places_stay : (key : Cells) → place_in entries key ≡ place_in pairs key
  places_stay key = by_place (place_in pairs key) (place_in entries key) refl refl
    where
      by_place : (o p : Option ℕ) → place_in pairs key ≡ o → place_in entries key ≡ p → place_in entries key ≡ place_in pairs key
      by_place (Some v) p e f =
          lookup-from_Contains key_equivalence key v entries apart_moved (Contains-permutation pairs entries (key, v) moved (Contains-from_lookup one_row key v pairs e)) ∙ sym e
      by_place None None e f = f ∙ sym e
      by_place None (Some v) e f =
          absurd (none-some v (sym e ∙ lookup-from_Contains key_equivalence key v pairs (apart_is (keys_of pairs) apart)
          (Contains-permutation entries pairs (key, v) (IsPermutation-sym pairs entries moved) (Contains-from_lookup one_row key v entries f))))

-- of entries whose keys ascend, one that is among them gives its key its place
pub found_at : (entries : Entries) (i : ℕ) (key : Cells) (place : ℕ) → IsStrictlySortedBy key_cmp (keys_of entries) → i < length entries → (key, place) ≡ get_or entries i (key, place) → place_in entries key ≡ Some place
found_at entries i key place up within at = lookup-from_Contains key_equivalence key place entries (apart_from_order (keys_of entries) up) (i, within, sym at)
