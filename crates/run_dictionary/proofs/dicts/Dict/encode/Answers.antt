-- The distinct values and the packed codes are the least form.
use Rattle.std.proofs.Common.{◌≡◌, ℕ, ◌-◌, ◌^◌, ◌<◌, ◌≤◌, ℤ, List, length, map, take, Contains, refl, inl, inr, sym, ap, ◌∙◌, subst, arith}
use Rattle.std.specs.List.{All}
use Rattle.std.proofs.lemmas.List.{length-take}
use Rattle.bit_interleave.specs.Arithmetic.{least_width}
use Rattle.bit_interleave.specs.LaneValues.{LaneValues}
use Rattle.bit_interleave.specs.PackedWords.{PackedWords, words_packing, packed_width}
use Rattle.bit_interleave.specs.Range.{AreInRange, value_at}
use Rattle.bit_interleave.proofs.ValueLemmas.{packed_width-words_packing}
use Rattle.run_dictionary.specs.Dict.{IsDictForm, IsAscending, distinct, code_of, least_dict}
use Rattle.run_dictionary.proofs.OrderLemmas.{Has-get_or, Ascends-distinct, Has-distinct, Contains-from_member}
use Rattle.run_dictionary.proofs.DictLemmas.{neighbours-from_Ascends, IsDictForm-least, least_code_width-le, code_fits}
use Rattle.run_dictionary.proofs.dicts.Dict.encode.Goals as goal

pub write_codes-requires-clause-rises : goal.write_codes-requires-clause-rises
write_codes-requires-clause-rises c =
    subst (λ (xs : List ℤ). IsAscending xs) (sym c.write_distinct-count.ensures.written) (neighbours-from_Ascends (distinct c.args.values.now) (Ascends-distinct c.args.values.now))

pub write_codes-requires-clause-members : goal.write_codes-requires-clause-members
write_codes-requires-clause-members c = λ n h.
    let value = value_at c.args.values.now n in
    subst (λ (xs : List ℤ). Contains xs value) (sym c.write_distinct-count.ensures.written)
    (Contains-from_member (distinct c.args.values.now) value (Has-distinct value c.args.values.now (Has-get_or c.args.values.now n (omega (arith, c.told-values)))))

-- how many distinct values are written, their width and their codes
count_is : (values into : List ℤ) (count : ℕ) → take count into ≡ distinct values → count ≤ length into → count ≡ length (distinct values)
count_is values into count written within = omega (arith, ap length written, length-take count into)

pub pack-requires-clause-width : goal.pack-requires-clause-width
pack-requires-clause-width c =
    let values = c.args.values.now in
    let count = count_is values c.write_distinct-count.new.into c.write_distinct-count.result c.write_distinct-count.ensures.written (omega (arith, c.write_distinct-count.array_long, c.write_distinct-count.ensures.bound)) in
    let width : c.width_of-width.result ≡ least_width (length (distinct values) - 1) = c.width_of-width.ensures.value ∙ ap (λ k. least_width (k - 1)) count in
    omega (arith, width, least_code_width-le values c.told-values)

pub pack-requires-clause-fit : goal.pack-requires-clause-fit
pack-requires-clause-fit c =
    let values = c.args.values.now in
    let count = count_is values c.write_distinct-count.new.into c.write_distinct-count.result c.write_distinct-count.ensures.written (omega (arith, c.write_distinct-count.array_long, c.write_distinct-count.ensures.bound)) in
    let width : c.width_of-width.result ≡ least_width (length (distinct values) - 1) = c.width_of-width.ensures.value ∙ ap (λ k. least_width (k - 1)) count in
    let codes : c.write_codes.new.into ≡ map (code_of (distinct values)) values = c.write_codes.ensures.codes ∙ ap (λ xs. map (code_of xs) values) c.write_distinct-count.ensures.written in
    subst (λ (w : ℕ). All (λ v. v < 2 ^ w) c.write_codes.new.into) (sym width)
    (subst (λ (xs : List ℕ). All (λ v. v < 2 ^ least_width (length (distinct values) - 1)) xs) (sym codes) (code_fits values c.told-values))

-- the words and values kept are the least form's
made_is : (t : ℕ) (values : List ℤ) (kept : LaneValues) (codes : PackedWords) → length values ≡ 1024 → kept ≡ record { lane_width = t; values = distinct values }
    → codes ≡ words_packing 16 (least_width (length (distinct values) - 1)) (map (code_of (distinct values)) values)
    → record { lane_width = kept.lane_width; width = packed_width codes; values = kept.values; codes = codes } ≡ least_dict t values
made_is t values kept codes long is words =
    let width : packed_width codes ≡ least_width (length (distinct values) - 1) =
    ap packed_width words ∙ packed_width-words_packing 16 (least_width (length (distinct values) - 1)) (map (code_of (distinct values)) values) (inr (inl refl)) (omega (arith, least_code_width-le values long)) in
    λ i. record { lane_width = (is i).lane_width; width = width i; values = (is i).values; codes = words i }

pub returns : goal.returns
returns c =
    let values = c.args.values.now in
    let count = count_is values c.write_distinct-count.new.into c.write_distinct-count.result c.write_distinct-count.ensures.written (omega (arith, c.write_distinct-count.array_long, c.write_distinct-count.ensures.bound)) in
    let width : c.width_of-width.result ≡ least_width (length (distinct values) - 1) = c.width_of-width.ensures.value ∙ ap (λ k. least_width (k - 1)) count in
    let codes : c.write_codes.new.into ≡ map (code_of (distinct values)) values = c.write_codes.ensures.codes ∙ ap (λ xs. map (code_of xs) values) c.write_distinct-count.ensures.written in
    let words : c.in_ok-pack.field-0 ≡ words_packing 16 (least_width (length (distinct values) - 1)) (map (code_of (distinct values)) values) =
    c.in_ok-pack.ensures ∙ ap (λ xs. words_packing 16 c.width_of-width.result xs) codes ∙ ap (λ w. words_packing 16 w (map (code_of (distinct values)) values)) width in
    let kept : c.in_ok-from_slice.field-0 ≡ record { lane_width = c.args.lane_width; values = distinct values } =
    c.in_ok-from_slice.ensures ∙ ap (λ (xs : List ℤ). lanes_of c.args.lane_width xs) c.write_distinct-count.ensures.written in
    made_is c.args.lane_width values c.in_ok-from_slice.field-0 c.in_ok-pack.field-0 c.told-values kept words
  where
    lanes_of : ℕ → List ℤ → LaneValues
    lanes_of t xs = record { lane_width = t; values = xs }

pub invariant_of-result : goal.invariant_of-result
invariant_of-result c =
    let values = c.args.values.now in
    let count = count_is values c.write_distinct-count.new.into c.write_distinct-count.result c.write_distinct-count.ensures.written (omega (arith, c.write_distinct-count.array_long, c.write_distinct-count.ensures.bound)) in
    let width : c.width_of-width.result ≡ least_width (length (distinct values) - 1) = c.width_of-width.ensures.value ∙ ap (λ k. least_width (k - 1)) count in
    let codes : c.write_codes.new.into ≡ map (code_of (distinct values)) values = c.write_codes.ensures.codes ∙ ap (λ xs. map (code_of xs) values) c.write_distinct-count.ensures.written in
    let words : c.in_ok-pack.field-0 ≡ words_packing 16 (least_width (length (distinct values) - 1)) (map (code_of (distinct values)) values) =
    c.in_ok-pack.ensures ∙ ap (λ xs. words_packing 16 c.width_of-width.result xs) codes ∙ ap (λ w. words_packing 16 w (map (code_of (distinct values)) values)) width in
    let kept : c.in_ok-from_slice.field-0 ≡ record { lane_width = c.args.lane_width; values = distinct values } =
    c.in_ok-from_slice.ensures ∙ ap (λ (xs : List ℤ). lanes_of c.args.lane_width xs) c.write_distinct-count.ensures.written in
    let is = made_is c.args.lane_width values c.in_ok-from_slice.field-0 c.in_ok-pack.field-0 c.told-values kept words in
    subst IsDictForm (sym is) (IsDictForm-least c.args.lane_width values c.requires.lane_width c.told-values c.requires.fit)
  where
    lanes_of : ℕ → List ℤ → LaneValues
    lanes_of t xs = record { lane_width = t; values = xs }

pub from_slice-requires-clause-fit : goal.from_slice-requires-clause-fit
from_slice-requires-clause-fit c =
    subst (λ (xs : List ℤ). AreInRange c.args.lane_width xs) (sym c.write_distinct-count.ensures.written)
    (IsDictForm-least c.args.lane_width c.args.values.now c.requires.lane_width c.told-values c.requires.fit).range
