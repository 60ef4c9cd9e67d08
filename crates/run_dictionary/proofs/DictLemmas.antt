-- A code is a place among ascending values, so packed and unpacked codes look up the values that they were made of.
use Rattle.std.proofs.Common.{◌≡◌, ℕ, zero, suc, ◌+◌, ◌-◌, ◌*◌, ◌/◌, ◌%◌, ◌^◌, ◌<◌, ◌≤◌, Bool, true, false, cond, int_lt, ℤ, pos, FitsSigned, ◌<ℤ◌, ◌≤ℤ◌, ◌+ℤ◌, ◌↔◌, List, [], ◌∷◌, map, length, take, replicate, get_or, Contains, ◌⊎◌, inl, inr, sym, ap, ◌∙◌, refl, subst, arith}
use Rattle.std.specs.List.{All}
use Rattle.std.specs.Ordering.{int_eq, int_cmp, is_eq, ordering_index}
use Rattle.std.specs.List.Sorted.{IsNonDecreasingBy, IsPartitionPoint}
use Rattle.std.specs.declared.cmp.Ordering.TheVariants.{Less, Equal, Greater}
use Rattle.std.proofs.lemmas.Int.{ints}
use Rattle.std.proofs.lemmas.Bool.{cases_lt, false_from_ne_true, false≢true}
use Rattle.std.proofs.lemmas.Bool.Decides.{Decides-int_eq}
use Rattle.std.proofs.lemmas.List.{length-map, get_or_default, get_or-take, length-take}
use Rattle.std.proofs.Math.ListN.{get_or-map}
use Rattle.std.proofs.lemmas.List.Elements.{All-from_get_or}
use Rattle.std.proofs.lemmas.Grind.{same_number_lists}
use Rattle.std.proofs.lemmas.List.Sums.{position_or_len_is}
use Rattle.transpose_order.specs.MaskWords.{rows_of-same, get_or-rows_of, length-rows_of}
use Rattle.transpose_order.specs.Place.{IsLaneWidth, lane_of, step_of, row_at, place_of}
use Rattle.transpose_order.proofs.PlaceLemmas.{lane_of-row_at, row_at-piece}
use Rattle.bit_interleave.specs.Arithmetic.{least_width, integer_width}
use Rattle.bit_interleave.specs.Packing.{packed_value, packed, unpacked, sixteen_of}
use Rattle.bit_interleave.proofs.SixteenLemmas.{get_or-sixteen_of}
use Rattle.bit_interleave.specs.PackedWords.{PackedWords, words_packing}
use Rattle.bit_interleave.proofs.ValueLemmas.{length-unpacked, get_or-unpacked, All-unpacked, HasWidth-words_packing}
use Rattle.bit_interleave.proofs.WordsLemmas.{All-packed}
use Rattle.bit_interleave.proofs.RoundTrip.{unpacked-packed, packed-unpacked}
use Rattle.bit_interleave.proofs.LeastWidthLemmas.{least_width-holds, least_width-least}
use Rattle.bit_interleave.specs.Places.{by_place}
use Rattle.bit_interleave.specs.Range.{value_at, AreInRange}
use Rattle.run_dictionary.specs.Dict.{DictForm, IsDictForm, IsAscending, distinct, packed_code, code_at, code_of, dict_value, dict_values, least_dict}
use Rattle.run_dictionary.proofs.OrderLemmas.{Has, Has-get_or, place_of_member, Ascends, Ascends-distinct, Has-distinct, Has-from_distinct, distinct_is, length-le_from_members, length-distinct, less_not_equal, less_from_test}

-- ---- ascending by neighbours and by members
pub Ascends-from_neighbours : (xs : List ℤ) → IsAscending xs → Ascends xs
Ascends-from_neighbours [] h = tt
Ascends-from_neighbours (x ∷ []) h = ((λ z g. elim g [ ]), tt)
Ascends-from_neighbours (x ∷ y ∷ ys) h =
    let rest : IsAscending (y ∷ ys) = (λ k l.
    let next : k + 1 + 1 ≡ suc (k + 1) = omega arith in
    subst (λ (j : ℕ). get_or (y ∷ ys) k (pos 0) <ℤ get_or (x ∷ y ∷ ys) j (pos 0)) next
    (subst (λ (j : ℕ). get_or (x ∷ y ∷ ys) j (pos 0) <ℤ get_or (x ∷ y ∷ ys) (k + 1 + 1) (pos 0)) (let e : k + 1 ≡ suc k = omega arith in e) (h (k + 1) (omega arith)))) in
    let tail : Ascends (y ∷ ys) = Ascends-from_neighbours (y ∷ ys) rest in
    let first : x <ℤ y = h 0 (omega arith) in
    ((λ z g. above z first tail g), tail)
  where
    through : (z : ℤ) → x <ℤ y → y <ℤ z → x <ℤ z
    through z l m = omega (arith, ints)

    above : (z : ℤ) → x <ℤ y → Ascends (y ∷ ys) → Has z (y ∷ ys) → x <ℤ z
    above z l t (inl e) = subst (λ (z : ℤ). x <ℤ z) (sym e) l
    above z l t (inr g) = through z l (t.0 z g)

-- an earlier value is less than a later one
pub less_at : (xs : List ℤ) → Ascends xs → (i j : ℕ) → i < j → j < length xs → get_or xs i (pos 0) <ℤ get_or xs j (pos 0)
less_at [] a i j l h = absurd (omega arith)
less_at (x ∷ xs) a i zero l h = absurd (omega arith)
less_at (x ∷ xs) a zero (suc j) l h = a.0 (get_or xs j (pos 0)) (Has-get_or xs j (omega arith))
less_at (x ∷ xs) a (suc i) (suc j) l h = less_at xs a.1 i j (omega arith) (omega arith)

pub neighbours-from_Ascends : (xs : List ℤ) → Ascends xs → IsAscending xs
neighbours-from_Ascends xs a k h = less_at xs a k (k + 1) (omega arith) h

-- two places of one value are one place
pub same_place : (xs : List ℤ) → Ascends xs → (i j : ℕ) → i < length xs → j < length xs → get_or xs i (pos 0) ≡ get_or xs j (pos 0) → i ≡ j
same_place xs a i j h l e = by_order (cases_lt i j) (cases_lt j i)
  where
    by_order : (i < j) ⊎ (j ≤ i) → (j < i) ⊎ (i ≤ j) → i ≡ j
    by_order (inl m) _ = absurd (less_not_equal _ _ (less_at xs a i j m l) e)
    by_order (inr m) (inl n) = absurd (less_not_equal _ _ (less_at xs a j i n h) (sym e))
    by_order (inr m) (inr n) = omega arith

-- ---- the place of a value
pub code_of_place : (xs : List ℤ) → Ascends xs → (k : ℕ) → k < length xs → code_of xs (get_or xs k (pos 0)) ≡ k
unfolding code_of
code_of_place xs a k h =
    position_or_len_is (λ x. int_eq x (get_or xs k (pos 0))) xs k (pos 0) (omega arith)
    (λ i l. false_from_ne_true _ (λ t. less_not_equal _ _ (less_at xs a i k l h) ((Decides-int_eq (get_or xs i (pos 0)) (get_or xs k (pos 0))).0 t)))
    (λ l. (Decides-int_eq (get_or xs k (pos 0)) (get_or xs k (pos 0))).1 refl)

pub code_of_member : (xs : List ℤ) (z : ℤ) → Ascends xs → Has z xs → (code_of xs z < length xs) × (get_or xs (code_of xs z) (pos 0) ≡ z)
code_of_member xs z a h =
    let r = place_of_member z xs h in
    let place : code_of xs z ≡ r.0 = ap (code_of xs) (sym r.2) ∙ code_of_place xs a r.0 r.1 in
    (omega (arith, place, r.1), ap (λ k. get_or xs k (pos 0)) place ∙ r.2)

-- ---- the least form
-- the codes of the least form, in row order
abbrev codes_in : List ℤ → List ℕ
codes_in values = map (code_of (distinct values)) values

abbrev least_code_width : List ℤ → ℕ
least_code_width values = least_width (length (distinct values) - 1)

pub distinct_code : (values : List ℤ) (n : ℕ) → n < length values → (code_of (distinct values) (value_at values n) < length (distinct values)) × (value_at (distinct values) (code_of (distinct values) (value_at values n)) ≡ value_at values n)
distinct_code values n h = code_of_member (distinct values) (value_at values n) (Ascends-distinct values) (Has-distinct (value_at values n) values (Has-get_or values n h))

pub get_or-map_zero : (f : ℤ → ℕ) (values : List ℤ) (n : ℕ) → n < length values → get_or (map f values) n 0 ≡ f (value_at values n)
get_or-map_zero f values n h = get_or_default (map f values) n 0 (f (pos 0)) (omega (arith, length-map values f)) ∙ get_or-map f values n (pos 0)

get_or-codes : (values : List ℤ) (n : ℕ) → n < length values → get_or (codes_in values) n 0 ≡ code_of (distinct values) (value_at values n)
get_or-codes values n h = get_or-map_zero (code_of (distinct values)) values n h

pub some_distinct : (values : List ℤ) → 0 < length values → 0 < length (distinct values)
some_distinct values h = let c = distinct_code values 0 h in omega (arith, c.0)

-- a code of the least form is below two to the power of its width
pub code_fits : (values : List ℤ) → length values ≡ 1024 → All (λ v. v < 2 ^ least_code_width values) (codes_in values)
code_fits values l =
    All-from_get_or (λ v. v < 2 ^ least_code_width values) (codes_in values) 0
    (λ n h.
    let within : n < length values = omega (arith, length-map values (code_of (distinct values))) in
    let code = distinct_code values n within in
    let holds = least_width-holds (length (distinct values) - 1) (omega (arith, length-distinct values)) in
    subst (λ (k : ℕ). k < 2 ^ least_code_width values) (sym (get_or-codes values n within)) (omega (arith, code.0, holds)))

pub least_code_width-le : (values : List ℤ) → length values ≡ 1024 → least_code_width values ≤ 10
least_code_width-le values l = least_width-least (length (distinct values) - 1) 10 (omega (arith, length-distinct values)) (omega (arith, length-distinct values))

codes_come_back : (values : List ℤ) → length values ≡ 1024 → unpacked 16 (least_code_width values) (packed 16 (least_code_width values) (codes_in values)) ≡ codes_in values
codes_come_back values l =
    unpacked-packed 16 (least_code_width values) (codes_in values) (inr (inl refl)) (length-map values (code_of (distinct values)) ∙ l) (code_fits values l)

-- the code of a row in packed words
pub packed_code-unpacked : (width : ℕ) (codes : PackedWords) (n : ℕ) → n < 1024 → get_or (unpacked 16 width codes.numbers) n 0 ≡ packed_code width codes n
unfolding packed_code
packed_code-unpacked width codes n h = get_or-unpacked 16 width codes.numbers n 0 h

pub code_at-unpacked : (form : DictForm) (n : ℕ) → n < 1024 → get_or (unpacked 16 form.width form.codes.numbers) n 0 ≡ code_at form n
code_at-unpacked form n h = packed_code-unpacked form.width form.codes n h

pub code_at-least : (t : ℕ) (values : List ℤ) (n : ℕ) → length values ≡ 1024 → n < 1024 → code_at (least_dict t values) n ≡ code_of (distinct values) (value_at values n)
code_at-least t values n l h =
    sym (code_at-unpacked (least_dict t values) n h) ∙ ap (λ xs. get_or xs n 0) (codes_come_back values l) ∙ get_or-codes values n (omega (arith, l))

dict_value-least : (t : ℕ) (values : List ℤ) (n : ℕ) → length values ≡ 1024 → n < 1024 → dict_value (least_dict t values) n ≡ value_at values n
dict_value-least t values n l h = ap (value_at (distinct values)) (code_at-least t values n l h) ∙ (distinct_code values n (omega (arith, l))).1

pub dict_values-least : (t : ℕ) (values : List ℤ) → length values ≡ 1024 → dict_values (least_dict t values) ≡ values
unfolding dict_values
dict_values-least t values l = sym (rows_of-same (dict_value (least_dict t values)) values (pos 0) l (λ n h. sym (dict_value-least t values n l h)))

pub IsDictForm-least : (t : ℕ) (values : List ℤ) → IsLaneWidth t → length values ≡ 1024 → AreInRange t values → IsDictForm (least_dict t values)
IsDictForm-least t values w l range = record {
  lane_width = w;
  words = refl;
  packed = HasWidth-words_packing 16 (least_code_width values) (codes_in values) (omega (arith, least_code_width-le values l));
  fit = All-packed 16 (least_code_width values) (codes_in values);
  many = omega (arith, length-distinct values);
  rises = neighbours-from_Ascends (distinct values) (Ascends-distinct values);
  codes = λ n h. let code = distinct_code values n (omega (arith, l)) in omega (arith, code.0, code_at-least t values n l h);
  range = All-from_get_or (λ z. FitsSigned (integer_width t) z) (distinct values) (pos 0)
      (λ k h.
      let r = place_of_member _ values (Has-from_distinct (get_or (distinct values) k (pos 0)) values (Has-get_or (distinct values) k h)) in
      subst (λ (z : ℤ). FitsSigned (integer_width t) z) r.2 (range r.0 (pos 0) r.1));
}

-- ---- forms of the same values
length-dict_values : (form : DictForm) → length (dict_values form) ≡ 1024
unfolding dict_values
length-dict_values form = length-rows_of (dict_value form)

get_or-dict_values : (form : DictForm) (n : ℕ) (d : ℤ) → n < 1024 → get_or (dict_values form) n d ≡ dict_value form n
unfolding dict_values
get_or-dict_values form n d h = get_or-rows_of (dict_value form) n d h

row_of_member : (form : DictForm) (z : ℤ) → Has z (dict_values form) → (n : ℕ) × (n < 1024) × (dict_value form n ≡ z)
row_of_member form z h =
    let r = place_of_member z (dict_values form) h in
    let within : r.0 < 1024 = omega (arith, r.1, length-dict_values form) in
    (r.0, within, sym (get_or-dict_values form r.0 (pos 0) within) ∙ r.2)

Has-dict_values : (form : DictForm) (n : ℕ) → n < 1024 → Has (dict_value form n) (dict_values form)
Has-dict_values form n h =
    subst (λ (z : ℤ). Has z (dict_values form)) (get_or-dict_values form n (pos 0) h) (Has-get_or (dict_values form) n (omega (arith, length-dict_values form)))

Has-values : (form : DictForm) → IsDictForm form → (z : ℤ) → Has z (dict_values form) → Has z form.values
Has-values form f z h =
    let r = row_of_member form z h in
    subst (λ (z : ℤ). Has z form.values) r.2 (Has-get_or form.values (code_at form r.0) (f.codes r.0 r.1))

pub fewest_values : (form : DictForm) → IsDictForm form → length (distinct (dict_values form)) ≤ length form.values
fewest_values form f =
    length-le_from_members (distinct (dict_values form)) form.values (Ascends-distinct (dict_values form)) (Ascends-from_neighbours form.values f.rises)
    (λ z h. Has-values form f z (Has-from_distinct z (dict_values form) h))

code_below : (form : DictForm) (n : ℕ) → n < 1024 → code_at form n < 2 ^ form.width
code_below form n h =
    subst (λ (k : ℕ). k < 2 ^ form.width) (code_at-unpacked form n h)
    (All-unpacked 16 form.width form.codes.numbers n 0 (omega (arith, length-unpacked 16 form.width form.codes.numbers)))

Ascends-take : (n : ℕ) (xs : List ℤ) → Ascends xs → Ascends (take n xs)
Ascends-take n xs a =
    Ascends-from_neighbours (take n xs)
    (λ k h.
    let l : length (take n xs) ≤ length xs = omega (arith, length-take n xs) in
    let m : length (take n xs) ≤ n = omega (arith, length-take n xs) in
    subst (λ (z : ℤ). z <ℤ get_or (take n xs) (k + 1) (pos 0)) (sym (get_or-take n xs k (pos 0) (omega arith)))
    (subst (λ (z : ℤ). get_or xs k (pos 0) <ℤ z) (sym (get_or-take n xs (k + 1) (pos 0) (omega arith))) (less_at xs a k (k + 1) (omega arith) (omega arith))))

-- the values that a form uses have codes of its width
pub width_holds_values : (form : DictForm) → IsDictForm form → length (distinct (dict_values form)) ≤ 2 ^ form.width
width_holds_values form f =
    let short : length (take (2 ^ form.width) form.values) ≤ 2 ^ form.width = omega (arith, length-take (2 ^ form.width) form.values) in
    let fewer = length-le_from_members (distinct (dict_values form)) (take (2 ^ form.width) form.values) (Ascends-distinct (dict_values form))
    (Ascends-take (2 ^ form.width) form.values (Ascends-from_neighbours form.values f.rises))
    (λ z h. in_front z (row_of_member form z (Has-from_distinct z (dict_values form) h))) in
    omega (arith, fewer, short)
  where
    in_front : (z : ℤ) → ((n : ℕ) × (n < 1024) × (dict_value form n ≡ z)) → Has z (take (2 ^ form.width) form.values)
    in_front z r =
        let code = code_below form r.0 r.1 in
        let within : code_at form r.0 < length (take (2 ^ form.width) form.values) = omega (arith, length-take (2 ^ form.width) form.values, code, f.codes r.0 r.1) in
        subst (λ (z : ℤ). Has z (take (2 ^ form.width) form.values)) (get_or-take (2 ^ form.width) form.values (code_at form r.0) (pos 0) code ∙ r.2)
        (Has-get_or (take (2 ^ form.width) form.values) (code_at form r.0) within)

-- each place of the dictionary is the code of a row
abbrev pub AllCodesUsed : DictForm → Type 0
AllCodesUsed form = (k : ℕ) → k < length form.values → (n : ℕ) × (n < 1024) × (code_at form n ≡ k)

pub least-from_used : (form : DictForm) → IsDictForm form → form.width ≡ least_width (length form.values - 1) → AllCodesUsed form → form.codes ≡ words_packing 16 form.width (unpacked 16 form.width form.codes.numbers) → form ≡ least_dict form.lane_width (dict_values form)
least-from_used form f narrow used back =
    let ascends = Ascends-from_neighbours form.values f.rises in
    let values : form.values ≡ distinct (dict_values form) =
    distinct_is (dict_values form) form.values ascends (λ z h. Has-values form f z h) (λ z h. in_rows z (place_of_member z form.values h)) in
    let width : form.width ≡ least_code_width (dict_values form) = narrow ∙ ap (λ xs. least_width (length xs - 1)) values in
    let codes : unpacked 16 form.width form.codes.numbers ≡ codes_in (dict_values form) =
    same_number_lists _ _ (length-unpacked 16 form.width form.codes.numbers ∙ sym (length-map (dict_values form) (code_of (distinct (dict_values form))) ∙ length-dict_values form))
    (λ n h.
    let row : n < 1024 = omega (arith, length-unpacked 16 form.width form.codes.numbers) in
    code_at-unpacked form n row ∙ sym (code_of_place form.values ascends (code_at form n) (f.codes n row))
    ∙ ap (λ xs. code_of xs (dict_value form n)) values
    ∙ ap (code_of (distinct (dict_values form))) (sym (get_or-dict_values form n (pos 0) row))
    ∙ sym (get_or-codes (dict_values form) n (omega (arith, length-dict_values form)))) in
    let words : form.codes ≡ words_packing 16 (least_code_width (dict_values form)) (codes_in (dict_values form)) =
    back ∙ ap (λ xs. words_packing 16 form.width xs) codes ∙ ap (λ w. words_packing 16 w (codes_in (dict_values form))) width in
    λ i. record { lane_width = form.lane_width; width = width i; values = values i; codes = words i }
  where
    in_rows : (z : ℤ) → ((k : ℕ) × (k < length form.values) × (get_or form.values k (pos 0) ≡ z)) → Has z (dict_values form)
    in_rows z r =
        let row = used r.0 r.1 in
        subst (λ (z : ℤ). Has z (dict_values form)) (ap (λ k. get_or form.values k (pos 0)) row.2 ∙ r.2) (Has-dict_values form row.0 row.1)

pub used-from_least : (form : DictForm) → IsDictForm form → form ≡ least_dict form.lane_width (dict_values form) → (form.width ≡ least_width (length form.values - 1)) × AllCodesUsed form
used-from_least form f e =
    let values : form.values ≡ distinct (dict_values form) = ap (λ d. d.values) e in (
      ap (λ d. d.width) e ∙ ap (λ xs. least_width (length xs - 1)) (sym values),
      λ k h.
          let z = get_or form.values k (pos 0) in
          let r = row_of_member form z (Has-from_distinct z (dict_values form) (subst (λ (xs : List ℤ). Has z xs) values (Has-get_or form.values k h))) in
          (r.0, r.1, same_place form.values (Ascends-from_neighbours form.values f.rises) (code_at form r.0) k (f.codes r.0 r.1) h r.2),
    )

-- ---- what a binary search answers
pub equal_from_cmp : (x y : ℤ) → int_cmp x y ≡ Equal → x ≡ y
equal_from_cmp x y e = (Decides-int_eq x y).0 (ap is_eq e)

index_cases : (a b c d : Bool) → (c ≡ true → a ≡ true) → (b ≡ true → d ≡ true) → ordering_index (cond a Less (cond b Greater Equal)) ≤ ordering_index (cond c Less (cond d Greater Equal))
index_cases true b c d f g = omega arith
index_cases false b true d f g = absurd (false≢true (f refl))
index_cases false true false true f g = omega arith
index_cases false true false false f g = absurd (false≢true (g refl))
index_cases false false false true f g = omega arith
index_cases false false false false f g = omega arith

pub test_from_less : (x y : ℤ) → x <ℤ y → int_lt x y ≡ true
test_from_less x y l = grind (arith, ints)

through_left : (x y v : ℤ) → x ≤ℤ y → y <ℤ v → x <ℤ v
through_left x y v l m = omega (arith, ints)

through_right : (x y v : ℤ) → x ≤ℤ y → v <ℤ x → v <ℤ y
through_right x y v l m = omega (arith, ints)

index_rises : (x y v : ℤ) → x ≤ℤ y → ordering_index (int_cmp x v) ≤ ordering_index (int_cmp y v)
index_rises x y v l =
    index_cases (int_lt x v) (int_lt v x) (int_lt y v) (int_lt v y)
    (λ t. test_from_less x v (through_left x y v l (less_from_test y v t))) (λ t. test_from_less v y (through_right x y v l (less_from_test v x t)))

-- a value that an ascending list has is not missed
pub not_missed : (xs : List ℤ) (v : ℤ) (i : ℕ) → IsAscending xs → Contains xs v → (IsNonDecreasingBy (λ y. ordering_index (int_cmp y v)) xs → IsPartitionPoint (λ y. int_cmp y v ≡ Less) (λ y. int_cmp y v ≡ Greater) xs i) → ⊥
not_missed xs v i h c p =
    let ascends = Ascends-from_neighbours xs h in
    let parts = p (λ j k d l m. ordered j k d (cases_lt j k) l m) in
    let k = c.0 in
    let equal : int_cmp (get_or xs k v) v ≡ Equal = ap (λ x. int_cmp x v) c.2 ∙ same_cmp v in
    by_side (cases_lt k i) equal (λ l. parts.0 k v (omega arith) l) (λ l. parts.1 k v l c.1)
  where
    at_most : (x y : ℤ) → x <ℤ y → x ≤ℤ y
    at_most x y l = omega (arith, ints)

    same_cmp : (v : ℤ) → int_cmp v v ≡ Equal
    same_cmp v = grind (arith, ints)

    ordered : (j k : ℕ) (d : ℤ) → (j < k) ⊎ (k ≤ j) → j ≤ k → k < length xs → ordering_index (int_cmp (get_or xs j d) v) ≤ ordering_index (int_cmp (get_or xs k d) v)
    ordered j k d (inr g) l m =
        let same : j ≡ k = omega arith in
        subst (λ (i : ℕ). ordering_index (int_cmp (get_or xs j d) v) ≤ ordering_index (int_cmp (get_or xs i d) v)) same (omega arith)
    ordered j k d (inl g) l m =
        index_rises (get_or xs j d) (get_or xs k d) v
        (at_most _ _ (subst (λ (z : ℤ). z <ℤ get_or xs k d) (get_or_default xs j (pos 0) d (omega arith))
        (subst (λ (z : ℤ). get_or xs j (pos 0) <ℤ z) (get_or_default xs k (pos 0) d m) (less_at xs (Ascends-from_neighbours xs h) j k g m))))

    by_side : (c.0 < i) ⊎ (i ≤ c.0) → int_cmp (get_or xs c.0 v) v ≡ Equal → (c.0 < i → int_cmp (get_or xs c.0 v) v ≡ Less) → (i ≤ c.0 → int_cmp (get_or xs c.0 v) v ≡ Greater) → ⊥
    by_side (inl l) e f g = let less = f l in cc
    by_side (inr l) e f g = let greater = g l in cc

-- no number is marked at first
pub none_marked : (n k : ℕ) → get_or (replicate n false) k false ≡ false
none_marked zero k = refl
none_marked (suc n) zero = refl
none_marked (suc n) (suc k) = none_marked n k

-- unpacked codes, and those of a form
pub packed_codes_read : (width : ℕ) (codes : PackedWords) (xs : List ℕ) → codes.lane_width ≡ 16 → xs ≡ unpacked codes.lane_width width codes.numbers → (n : ℕ) → n < 1024 → get_or xs n 0 ≡ packed_code width codes n
packed_codes_read width codes xs sixteen is n h =
    ap (λ xs. get_or xs n 0) (is ∙ ap (λ t. unpacked t width codes.numbers) sixteen) ∙ packed_code-unpacked width codes n h

-- codes by places
pub codes_by_place : (width : ℕ) (codes : PackedWords) (xs : List ℕ) → codes.lane_width ≡ 16 → ((n : ℕ) → n < 1024 → by_place xs n ≡ get_or (unpacked codes.lane_width width codes.numbers) n 0) → (n : ℕ) → n < 1024 → by_place xs n ≡ packed_code width codes n
codes_by_place width codes xs sixteen is n h =
    is n h ∙ ap (λ t. get_or (unpacked t width codes.numbers) n 0) sixteen ∙ packed_code-unpacked width codes n h

-- codes are equal exactly where the values are
pub codes_alike : (form : DictForm) → IsDictForm form → (m n : ℕ) → m < 1024 → n < 1024 → (code_at form m ≡ code_at form n) ↔ (value_at (dict_values form) m ≡ value_at (dict_values form) n)
codes_alike form f m n a b = (
  λ e. get_or-dict_values form m (pos 0) a ∙ ap (value_at form.values) e ∙ sym (get_or-dict_values form n (pos 0) b),
  λ e. same_place form.values (Ascends-from_neighbours form.values f.rises) (code_at form m) (code_at form n) (f.codes m a) (f.codes n b) (sym (get_or-dict_values form m (pos 0) a) ∙ e ∙ get_or-dict_values form n (pos 0) b),
)

pub codes_read : (form : DictForm) → IsDictForm form → (xs : List ℕ) → xs ≡ unpacked form.codes.lane_width form.width form.codes.numbers → (n : ℕ) → n < 1024 → get_or xs n 0 ≡ code_at form n
codes_read form f xs is n h = packed_codes_read form.width form.codes xs f.words is n h

pub words_read : (form : DictForm) → IsDictForm form → form.codes ≡ words_packing form.codes.lane_width form.width (unpacked form.codes.lane_width form.width form.codes.numbers) → form.codes ≡ words_packing 16 form.width (unpacked 16 form.width form.codes.numbers)
words_read form f back = back ∙ ap (λ t. words_packing t form.width (unpacked t form.width form.codes.numbers)) f.words

-- a form's words are those that pack its codes
pub words_pack : (form : DictForm) → IsDictForm form → form.codes ≡ words_packing 16 form.width (unpacked 16 form.width form.codes.numbers)
words_pack form f =
    words_read form f (sym (ap (λ (ns : List ℕ). same_width form.codes ns) (packed-unpacked form.codes.lane_width form.width form.codes.numbers (inr (inl f.words)) f.packed.count f.fit)))
  where
    same_width : PackedWords → List ℕ → PackedWords
    same_width p ns = record { lane_width = p.lane_width; numbers = ns }

-- the number packed at a row's lane and step
pub code_in_place : (form : DictForm) → IsDictForm form → (row : ℕ) {lane step : ℕ} (code : ℕ) → code ≡ packed_value form.codes.lane_width form.width form.codes.numbers lane step → lane ≡ lane_of 16 row → step ≡ step_of 16 row → code ≡ code_at form row
unfolding packed_code
code_in_place form f row {lane} {step} code is here there =
    is ∙ ap (λ t. packed_value t form.width form.codes.numbers lane step) f.words ∙ ap (λ l. packed_value 16 form.width form.codes.numbers l step) here
    ∙ ap (λ s. packed_value 16 form.width form.codes.numbers (lane_of 16 row) s) there

-- the code of the row at a lane and a step
pub code_at-row_at : (form : DictForm) (lane step : ℕ) → lane < 64 → step < 16 → code_at form (row_at 16 lane step) ≡ packed_value 16 form.width form.codes.numbers lane step
unfolding packed_code
code_at-row_at form lane step h l =
    let place = lane_of-row_at 16 lane step (inr (inl refl)) h l in
    ap (λ k. packed_value 16 form.width form.codes.numbers k (step_of 16 (row_at 16 lane step))) place.1
    ∙ ap (λ s. packed_value 16 form.width form.codes.numbers lane s) place.2

-- ---- the places of a range of values
-- an earlier value isn't above a later one
pub at_most_later : (xs : List ℤ) → IsAscending xs → (i j : ℕ) (d : ℤ) → i ≤ j → j < length xs → get_or xs i d ≤ℤ get_or xs j d
at_most_later xs h i j d l m = by_order (cases_lt i j)
  where
    at_most : (x y : ℤ) → x <ℤ y → x ≤ℤ y
    at_most x y l = omega (arith, ints)

    itself : (x : ℤ) → x ≤ℤ x
    itself x = omega (arith, ints)

    by_order : (i < j) ⊎ (j ≤ i) → get_or xs i d ≤ℤ get_or xs j d
    by_order (inr g) = let same : i ≡ j = omega arith in subst (λ (k : ℕ). get_or xs i d ≤ℤ get_or xs k d) same (itself (get_or xs i d))
    by_order (inl g) =
        at_most _ _ (subst (λ (z : ℤ). z <ℤ get_or xs j d) (get_or_default xs i (pos 0) d (omega arith))
        (subst (λ (z : ℤ). get_or xs i (pos 0) <ℤ z) (get_or_default xs j (pos 0) d m) (less_at xs (Ascends-from_neighbours xs h) i j g m)))

-- the first value and the last are the ends of all, and those of rows where each place is used
pub values_between : (form : DictForm) → IsDictForm form → (n : ℕ) → n < 1024 → (get_or form.values 0 (pos 0) ≤ℤ dict_value form n) × (dict_value form n ≤ℤ get_or form.values (length form.values - 1) (pos 0))
values_between form f n h = (
  at_most_later form.values f.rises 0 (code_at form n) (pos 0) (omega arith) (f.codes n h),
  at_most_later form.values f.rises (code_at form n) (length form.values - 1) (pos 0) (omega (arith, f.codes n h)) (omega (arith, f.codes n h)),
)

pub row_of_place : (form : DictForm) → IsDictForm form → form ≡ least_dict form.lane_width (dict_values form) → (k : ℕ) → k < length form.values → (n : ℕ) × (n < 1024) × (dict_value form n ≡ get_or form.values k (pos 0))
row_of_place form f e k h = let r = (used-from_least form f e).1 k h in (r.0, r.1, ap (value_at form.values) r.2)

-- before a value below a number all are below it
pub below_before : (xs : List ℤ) (low : ℤ) (middle k : ℕ) → IsAscending xs → middle < length xs → get_or xs middle (pos 0) <ℤ low → k < middle + 1 → get_or xs k (pos 0) <ℤ low
below_before xs low middle k h m less l = through _ _ low (at_most_later xs h k middle (pos 0) (omega arith) m) less
  where
    through : (x y low : ℤ) → x ≤ℤ y → y <ℤ low → x <ℤ low
    through x y low l m = omega (arith, ints)

-- from a value not below a number on none is
pub from_there : (xs : List ℤ) (low : ℤ) (middle k : ℕ) → IsAscending xs → low ≤ℤ get_or xs middle (pos 0) → middle ≤ k → k < length xs → low ≤ℤ get_or xs k (pos 0)
from_there xs low middle k h most l m = through low _ _ most (at_most_later xs h middle k (pos 0) l m)
  where
    through : (low x y : ℤ) → low ≤ℤ x → x ≤ℤ y → low ≤ℤ y
    through low x y l m = omega (arith, ints)

pub not_less_from_test : (x low : ℤ) → int_lt x low ≡ false → low ≤ℤ x
not_less_from_test x low e = grind (arith, ints)

-- a value is in a range exactly where its place is between the first place in it and the first above it
pub place-between : (xs : List ℤ) (low high : ℤ) (first end : ℕ) → ((k : ℕ) → k < first → value_at xs k <ℤ low) → ((k : ℕ) → first ≤ k → k < length xs → low ≤ℤ value_at xs k)
    → ((k : ℕ) → k < end → value_at xs k <ℤ (high +ℤ pos 1)) → ((k : ℕ) → end ≤ k → k < length xs → (high +ℤ pos 1) ≤ℤ value_at xs k) → (k : ℕ) → k < length xs
    → ((low ≤ℤ value_at xs k) × (value_at xs k ≤ℤ high)) ↔ ((first ≤ k) × (k < end))
place-between xs low high first end before from within above k h = (
  λ (l, m). (by_first (cases_lt k first) l, by_end (cases_lt k end) m),
  λ (l, m). (from k l h, at_most (value_at xs k) high (within k m)),
)
  where
    absurd_at : {X : Type 0} (x y : ℤ) → x <ℤ y → y ≤ℤ x → X
    absurd_at x y l m = absurd (omega (arith, ints))

    at_most : (x y : ℤ) → x <ℤ (y +ℤ pos 1) → x ≤ℤ y
    at_most x y l = omega (arith, ints)

    past : (x y : ℤ) → (y +ℤ pos 1) ≤ℤ x → y <ℤ x
    past x y l = omega (arith, ints)

    by_first : (k < first) ⊎ (first ≤ k) → low ≤ℤ value_at xs k → first ≤ k
    by_first (inl l) m = absurd_at (value_at xs k) low (before k l) m
    by_first (inr l) m = l

    by_end : (k < end) ⊎ (end ≤ k) → value_at xs k ≤ℤ high → k < end
    by_end (inl l) m = l
    by_end (inr l) m = absurd_at high (value_at xs k) (past (value_at xs k) high (above k l h)) m

-- the codes of a piece of lanes of 16 bits
pub codes_in_piece : (form : DictForm) → IsDictForm form → (piece : ℕ) (codes : List ℕ) → piece < 64 → codes ≡ sixteen_of (λ i. packed_value form.codes.lane_width form.width form.codes.numbers (16 * (piece / 16) + i) (piece % 16)) → (i : ℕ) → i < 16 → (64 * i + place_of 16 piece < 1024) × (get_or codes i 0 ≡ code_at form (64 * i + place_of 16 piece))
codes_in_piece form f piece codes h is i l =
    let row = row_at-piece 16 piece i (inr (inl refl)) h l in
    let within : 64 * i + place_of 16 piece < 1024 = omega (arith, row.0) in (
      within,
      ap (λ xs. get_or xs i 0) is
          ∙ get_or-sixteen_of (λ i. packed_value form.codes.lane_width form.width form.codes.numbers (16 * (piece / 16) + i) (piece % 16)) i 0 l
          ∙ ap (λ t. packed_value t form.width form.codes.numbers (16 * (piece / 16) + i) (piece % 16)) f.words
          ∙ sym (code_at-row_at form (16 * (piece / 16) + i) (piece % 16) (omega arith) (omega arith)) ∙ ap (code_at form) row.1,
    )
