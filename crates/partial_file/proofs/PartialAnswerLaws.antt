-- The laws of a partial answer in bytes.
use Rattle.std.proofs.Common.{◌≡◌, ◌≤◌, ◌^◌, ◌<◌, ℕ, zero, suc, Bool, true, false, cond, eqb, leb, List, [], length, codes, ℤ, pos, negsuc, Option, Some, None, FitsSigned, inr, refl, sym, ap, subst, ◌∙◌, arith}
use Rattle.std.specs.Int.{w128, cast_signed, cast_unsigned, int_wrap}
use Rattle.std.specs.Str.{is_utf8}
use Rattle.std.proofs.lemmas.Bool.{eqb-true, leb-true, lt-ltb, ltb-true, and_parts}
use Rattle.std.proofs.lemmas.Int.{SFits-int_wrap, of_z-to_z, to_z-of_z}
use Rattle.std.proofs.Math.Nat.{mod-eq_of_lt}
use Rattle.bit_interleave.proofs.WrapLemmas.{int_wrap_pos}
use Rattle.transpose_order.specs.Place.{IsLaneWidth}
use Rattle.table_model.specs.State.{Cells}
use Rattle.table_model.specs.declared.refusal.Refusal.TheVariants.{BadName, BadOrder, BadRange, BadTag, BadWidth, Syntax}
use Rattle.catalogue_join.specs.Run.{name_at}
use Rattle.catalogue_join.specs.declared.run.Run.{Run}
use Rattle.segment_core.specs.Format.{Format, IsLawful, raw, seen, checked, before, optional, all, valid_all, number, signed, is_in_bits}
use Rattle.segment_core.proofs.FormatLaws.{raw_is_lawful, seen_is_lawful, checked_is_lawful, before_is_lawful, optional_is_lawful, all_is_lawful}
use Rattle.segment_core.proofs.NumberLaws.{number_is_lawful, number_valid, signed_is_lawful, chosen_some, cond_valid}
use Rattle.segment_core.proofs.VectorLaws.{some_is}
use Rattle.column_file.specs.SummaryBytes.{head}
use Rattle.column_file.proofs.SummaryLaws.{head_is_lawful}
use Rattle.partial_answers.specs.Refusing.{kept_kind}
use Rattle.partial_answers.specs.declared.kept.Kept.{Kept}
use Rattle.partial_answers.specs.declared.kept.Kept.TheVariants.{Count, Sum, Least, Greatest, Distinct}
use Rattle.partial_file.specs.PartialAnswerBytes.{Entry, as_count, as_distinct, as_greatest, as_least, as_sum, begins_after, body, cell, cell_value, cell_words, counted, extreme, flag_of, group, groups, is_after, is_greater, is_long, is_named, is_run, kept, kept_as, key, partial, run, run_parts, runs, sum_parts, text, value, values, wide}

pub counted_is_lawful : {A : Type 0} (item : List A → Format A) → ((front : List A) → IsLawful (item front)) → IsLawful (counted item)
unfolding counted
counted_is_lawful {A = A} item laws =
    let rest : ℕ → Format (List A) = λ n. all n item in
    let made : ℕ × List A → List A = λ p. p.1 in
    seen_is_lawful (before (number 8) rest) made (λ xs. Some (length xs, xs))
    (before_is_lawful (number 8) rest (number_is_lawful 8) (λ n valid. all_is_lawful n item (λ front below. laws front)))
    (λ p valid.
    let v = and_parts ((number 8).valid p.0) ((rest p.0).valid p.1) valid in
    let long : length p.1 ≡ p.0 = eqb-true _ _ (and_parts (eqb (length p.1) p.0) (valid_all item [] p.1) v.1).0 in
    ap (λ (n : ℕ). Some (n, p.1)) long)
    (λ p xs e. sym (ap made (some_is {A = ℕ × List A} (length xs, xs) p e)))

pub text_is_lawful : IsLawful text
unfolding text
text_is_lawful =
    let made : ℕ × List ℕ → List ℕ = λ p. p.1 in
    checked_is_lawful (seen (before (number 8) raw) made (λ t. Some (length t, t))) is_utf8 Syntax
    (seen_is_lawful (before (number 8) raw) made (λ t. Some (length t, t))
    (before_is_lawful (number 8) raw (number_is_lawful 8) (λ n valid. raw_is_lawful n))
    (λ p valid.
    let v = and_parts ((number 8).valid p.0) ((raw p.0).valid p.1) valid in
    let long : length p.1 ≡ p.0 = eqb-true _ _ (and_parts (eqb (length p.1) p.0) _ v.1).0 in
    ap (λ (n : ℕ). Some (n, p.1)) long)
    (λ p t e. sym (ap made (some_is {A = ℕ × List ℕ} (length t, t) p e))))

-- ---- names

run_parts_is_lawful : IsLawful run_parts
unfolding run_parts
run_parts_is_lawful =
    let numbers = before (number 4) (λ (_ : ℕ). number 4) in
    let made : ℕ × (ℕ × ℕ) → Run = λ p. record { first = name_at (record { 0 = p.0 }) p.1.0; last = record { 0 = p.1.1 } } in
    seen_is_lawful (before (number 4) (λ (_ : ℕ). numbers)) made (λ r. Some (r.first.origin.0, (r.first.number.0, r.last.0)))
    (before_is_lawful (number 4) (λ _. numbers) (number_is_lawful 4) (λ x valid. before_is_lawful (number 4) (λ _. number 4) (number_is_lawful 4) (λ y v. number_is_lawful 4)))
    (λ p valid. refl)
    (λ p r e. ap made (sym (some_is {A = ℕ × (ℕ × ℕ)} (r.first.origin.0, (r.first.number.0, r.last.0)) p e)))

pub run_is_lawful : (front : List Run) → IsLawful (run front)
unfolding run
run_is_lawful front =
    let named = checked run_parts is_named (λ _. BadName) in
    checked_is_lawful (checked named is_run BadRange) (begins_after front) BadOrder
    (checked_is_lawful named is_run BadRange (checked_is_lawful run_parts is_named (λ _. BadName) run_parts_is_lawful))

pub runs_is_lawful : IsLawful runs
unfolding runs
runs_is_lawful = counted_is_lawful run run_is_lawful

-- ---- numbers

is_64 : IsLaneWidth 64
is_64 = inr (inr (inr refl))

narrow_is_lawful : IsLawful (signed 64)
narrow_is_lawful = signed_is_lawful 64 is_64

wide_fits : (z : ℤ) → is_in_bits 128 z ≡ true → FitsSigned w128 z
wide_fits (pos n) e = record { sfits = ltb-true _ _ e }
wide_fits (negsuc n) e = record { sfits = ltb-true _ _ e }

fits_wide : (z : ℤ) → FitsSigned w128 z → is_in_bits 128 z ≡ true
fits_wide (pos n) fits = lt-ltb _ _ fits.sfits
fits_wide (negsuc n) fits = lt-ltb _ _ fits.sfits

wide_number : (n : ℕ) → n < 2 ^ 128 → FitsSigned w128 (cast_signed w128 n)
wide_number n below =
    let wrapped : int_wrap w128 (pos n) ≡ cast_signed w128 n = int_wrap_pos w128 n ∙ ap (cast_signed w128) (mod-eq_of_lt below) in
    subst (λ (z : ℤ). FitsSigned w128 z) wrapped (SFits-int_wrap w128 (pos n))

wide_back : (n : ℕ) → n < 2 ^ 128 → cond (is_in_bits 128 (cast_signed w128 n)) (Some (cast_unsigned w128 (cast_signed w128 n))) None ≡ Some n
wide_back n below = rw (fits_wide (cast_signed w128 n) (wide_number n below), of_z-to_z w128 n below) refl

pub wide_is_lawful : IsLawful wide
unfolding wide
wide_is_lawful =
    seen_is_lawful (number 16) (cast_signed w128) (λ z. cond (is_in_bits 128 z) (Some (cast_unsigned w128 z)) None) (number_is_lawful 16)
    (λ n valid. wide_back n (number_valid 16 n valid))
    (λ n z e.
    let c = chosen_some (is_in_bits 128 z) (cast_unsigned w128 z) n e in
    ap (cast_signed w128) (sym c.1) ∙ to_z-of_z w128 z (wide_fits z c.0))

chosen_lawful : {A : Type 0} (b : Bool) (f g : Format A) → IsLawful f → IsLawful g → IsLawful (cond b f g)
chosen_lawful true f g first second = first
chosen_lawful false f g first second = second

cell_value_is_lawful : (n : ℕ) → IsLawful (cell_value n)
cell_value_is_lawful n =
    let long = checked wide is_long BadWidth in
    chosen_lawful (eqb n 2) (optional true long) (optional (eqb n 1) (signed 64)) (optional_is_lawful true long (checked_is_lawful wide is_long BadWidth wide_is_lawful)) (optional_is_lawful (eqb n 1) (signed 64) narrow_is_lawful)

-- how a cell is written says how many times 8 bytes it takes
words_are : (n : ℕ) (o : Option ℤ) → n ≤ 2 → (cell_value n).valid o ≡ true → cell_words o ≡ n
words_are zero None small valid = refl
words_are zero (Some z) small valid = absurd cc
words_are (suc zero) None small valid = absurd cc
words_are (suc zero) (Some z) small valid =
    let short = (cond_valid (number 8) (is_in_bits 64 z) _ valid).0 in
    rw short refl
words_are (suc (suc zero)) None small valid = absurd cc
words_are (suc (suc zero)) (Some z) small valid =
    let long : is_long z ≡ true = (and_parts (wide.valid z) (is_long z) valid).1 in
    rw long refl
words_are (suc (suc (suc n))) o small valid = absurd (omega (arith, small))

pub cell_is_lawful : IsLawful cell
unfolding cell
cell_is_lawful =
    let tag = checked (number 1) (λ n. leb n 2) BadTag in
    let made : ℕ × Option ℤ → Option ℤ = λ p. p.1 in
    seen_is_lawful (before tag cell_value) made (λ o. Some (cell_words o, o))
    (before_is_lawful tag cell_value (checked_is_lawful (number 1) (λ n. leb n 2) BadTag (number_is_lawful 1)) (λ n valid. cell_value_is_lawful n))
    (λ p valid.
    let v = and_parts (tag.valid p.0) ((cell_value p.0).valid p.1) valid in
    let small = leb-true _ _ (and_parts ((number 1).valid p.0) (leb p.0 2) v.0).1 in
    ap (λ (n : ℕ). Some (n, p.1)) (words_are p.0 p.1 small v.1))
    (λ p o e. sym (ap made (some_is {A = ℕ × Option ℤ} (cell_words o, o) p e)))

pub key_is_lawful : IsLawful key
unfolding key
key_is_lawful = counted_is_lawful (λ _. cell) (λ front. cell_is_lawful)

flag_is : (n : ℕ) (o : Option ℤ) → n ≤ 1 → (optional (eqb n 1) (signed 64)).valid o ≡ true → flag_of o ≡ n
flag_is zero None small valid = refl
flag_is zero (Some z) small valid = absurd cc
flag_is (suc zero) None small valid = absurd cc
flag_is (suc zero) (Some z) small valid = refl
flag_is (suc (suc n)) o small valid = absurd (omega (arith, small))

pub extreme_is_lawful : IsLawful extreme
unfolding extreme
extreme_is_lawful =
    let tag = checked (number 1) (λ n. leb n 1) BadTag in
    let rest : ℕ → Format (Option ℤ) = λ n. optional (eqb n 1) (signed 64) in
    let made : ℕ × Option ℤ → Option ℤ = λ p. p.1 in
    seen_is_lawful (before tag rest) made (λ o. Some (flag_of o, o))
    (before_is_lawful tag rest (checked_is_lawful (number 1) (λ n. leb n 1) BadTag (number_is_lawful 1)) (λ n valid. optional_is_lawful (eqb n 1) (signed 64) narrow_is_lawful))
    (λ p valid.
    let v = and_parts (tag.valid p.0) ((rest p.0).valid p.1) valid in
    let small = leb-true _ _ (and_parts ((number 1).valid p.0) (leb p.0 1) v.0).1 in
    ap (λ (n : ℕ). Some (n, p.1)) (flag_is p.0 p.1 small v.1))
    (λ p o e. sym (ap made (some_is {A = ℕ × Option ℤ} (flag_of o, o) p e)))

-- ---- groups

pub value_is_lawful : (front : List ℤ) → IsLawful (value front)
unfolding value
value_is_lawful front = checked_is_lawful (signed 64) (is_greater front) BadOrder narrow_is_lawful

pub values_is_lawful : IsLawful values
unfolding values
values_is_lawful = counted_is_lawful value value_is_lawful

pub sums_is_lawful : IsLawful sum_parts
unfolding sum_parts
sums_is_lawful = before_is_lawful (number 8) (λ _. wide) (number_is_lawful 8) (λ n valid. wide_is_lawful)

count_forth : (n : ℕ) (k : Kept) → as_count k ≡ Some n → Count n ≡ k
count_forth n (Count m) e = let same : m ≡ n = some_is {A = ℕ} m n e in ap Count (sym same)
count_forth n (Sum s) e = absurd cc
count_forth n (Least o) e = absurd cc
count_forth n (Greatest o) e = absurd cc
count_forth n (Distinct zs) e = absurd cc

abbrev sum_of : ℕ × ℤ → Kept
sum_of p = Sum (record { count = p.0; sum = p.1 })

sum_forth : (p : ℕ × ℤ) (k : Kept) → as_sum k ≡ Some p → sum_of p ≡ k
sum_forth p (Sum s) e = let same : (s.count, s.sum) ≡ p = some_is {A = ℕ × ℤ} (s.count, s.sum) p e in ap sum_of (sym same)
sum_forth p (Count m) e = absurd cc
sum_forth p (Least o) e = absurd cc
sum_forth p (Greatest o) e = absurd cc
sum_forth p (Distinct zs) e = absurd cc

least_forth : (o : Option ℤ) (k : Kept) → as_least k ≡ Some o → Least o ≡ k
least_forth o (Least q) e = let same : q ≡ o = some_is {A = Option ℤ} q o e in ap Least (sym same)
least_forth o (Count m) e = absurd cc
least_forth o (Sum s) e = absurd cc
least_forth o (Greatest q) e = absurd cc
least_forth o (Distinct zs) e = absurd cc

greatest_forth : (o : Option ℤ) (k : Kept) → as_greatest k ≡ Some o → Greatest o ≡ k
greatest_forth o (Greatest q) e = let same : q ≡ o = some_is {A = Option ℤ} q o e in ap Greatest (sym same)
greatest_forth o (Count m) e = absurd cc
greatest_forth o (Sum s) e = absurd cc
greatest_forth o (Least q) e = absurd cc
greatest_forth o (Distinct zs) e = absurd cc

distinct_forth : (zs : List ℤ) (k : Kept) → as_distinct k ≡ Some zs → Distinct zs ≡ k
distinct_forth zs (Distinct ys) e = let same : ys ≡ zs = some_is {A = List ℤ} ys zs e in ap Distinct (sym same)
distinct_forth zs (Count m) e = absurd cc
distinct_forth zs (Sum s) e = absurd cc
distinct_forth zs (Least o) e = absurd cc
distinct_forth zs (Greatest o) e = absurd cc

count_is_lawful : IsLawful (seen (number 8) Count as_count)
count_is_lawful = seen_is_lawful (number 8) Count as_count (number_is_lawful 8) (λ n valid. refl) count_forth

sum_is_lawful : IsLawful (seen sum_parts sum_of as_sum)
sum_is_lawful = seen_is_lawful sum_parts sum_of as_sum sums_is_lawful (λ p valid. refl) sum_forth

least_is_lawful : IsLawful (seen extreme Least as_least)
least_is_lawful = seen_is_lawful extreme Least as_least extreme_is_lawful (λ o valid. refl) least_forth

greatest_is_lawful : IsLawful (seen extreme Greatest as_greatest)
greatest_is_lawful = seen_is_lawful extreme Greatest as_greatest extreme_is_lawful (λ o valid. refl) greatest_forth

distinct_is_lawful : IsLawful (seen values Distinct as_distinct)
distinct_is_lawful = seen_is_lawful values Distinct as_distinct values_is_lawful (λ zs valid. refl) distinct_forth

kept_as_is_lawful : (n : ℕ) → IsLawful (kept_as n)
kept_as_is_lawful n =
    let counts = seen (number 8) Count as_count in
    let sums = seen sum_parts sum_of as_sum in
    let leasts = seen extreme Least as_least in
    let greatests = seen extreme Greatest as_greatest in
    let distincts = seen values Distinct as_distinct in
    let fourth = chosen_lawful (eqb n 3) greatests distincts greatest_is_lawful distinct_is_lawful in
    let third = chosen_lawful (eqb n 2) leasts (cond (eqb n 3) greatests distincts) least_is_lawful fourth in
    let second = chosen_lawful (eqb n 1) sums (cond (eqb n 2) leasts (cond (eqb n 3) greatests distincts)) sum_is_lawful third in
    chosen_lawful (eqb n 0) counts (cond (eqb n 1) sums (cond (eqb n 2) leasts (cond (eqb n 3) greatests distincts))) count_is_lawful second

-- what is kept has the kind that it is written by
kind_is : (n : ℕ) (k : Kept) → n ≤ 4 → (kept_as n).valid k ≡ true → kept_kind k ≡ n
kind_is zero (Count m) small valid = refl
kind_is zero (Sum s) small valid = absurd cc
kind_is zero (Least o) small valid = absurd cc
kind_is zero (Greatest o) small valid = absurd cc
kind_is zero (Distinct zs) small valid = absurd cc
kind_is (suc zero) (Count m) small valid = absurd cc
kind_is (suc zero) (Sum s) small valid = refl
kind_is (suc zero) (Least o) small valid = absurd cc
kind_is (suc zero) (Greatest o) small valid = absurd cc
kind_is (suc zero) (Distinct zs) small valid = absurd cc
kind_is (suc (suc zero)) (Count m) small valid = absurd cc
kind_is (suc (suc zero)) (Sum s) small valid = absurd cc
kind_is (suc (suc zero)) (Least o) small valid = refl
kind_is (suc (suc zero)) (Greatest o) small valid = absurd cc
kind_is (suc (suc zero)) (Distinct zs) small valid = absurd cc
kind_is (suc (suc (suc zero))) (Count m) small valid = absurd cc
kind_is (suc (suc (suc zero))) (Sum s) small valid = absurd cc
kind_is (suc (suc (suc zero))) (Least o) small valid = absurd cc
kind_is (suc (suc (suc zero))) (Greatest o) small valid = refl
kind_is (suc (suc (suc zero))) (Distinct zs) small valid = absurd cc
kind_is (suc (suc (suc (suc zero)))) (Count m) small valid = absurd cc
kind_is (suc (suc (suc (suc zero)))) (Sum s) small valid = absurd cc
kind_is (suc (suc (suc (suc zero)))) (Least o) small valid = absurd cc
kind_is (suc (suc (suc (suc zero)))) (Greatest o) small valid = absurd cc
kind_is (suc (suc (suc (suc zero)))) (Distinct zs) small valid = refl
kind_is (suc (suc (suc (suc (suc n))))) k small valid = absurd (omega (arith, small))

pub kept_is_lawful : IsLawful kept
unfolding kept
kept_is_lawful =
    let tag = checked (number 1) (λ n. leb n 4) BadTag in
    let made : ℕ × Kept → Kept = λ p. p.1 in
    seen_is_lawful (before tag kept_as) made (λ k. Some (kept_kind k, k))
    (before_is_lawful tag kept_as (checked_is_lawful (number 1) (λ n. leb n 4) BadTag (number_is_lawful 1)) (λ n valid. kept_as_is_lawful n))
    (λ p valid.
    let v = and_parts (tag.valid p.0) ((kept_as p.0).valid p.1) valid in
    let small = leb-true _ _ (and_parts ((number 1).valid p.0) (leb p.0 4) v.0).1 in
    ap (λ (n : ℕ). Some (n, p.1)) (kind_is p.0 p.1 small v.1))
    (λ p k e. sym (ap made (some_is {A = ℕ × Kept} (kept_kind k, k) p e)))

pub group_is_lawful : (front : List Entry) → IsLawful (group front)
unfolding group
group_is_lawful front =
    let rest : Cells → Format (List Kept) = λ _. counted (λ _. kept) in
    checked_is_lawful (before key rest) (is_after front) BadOrder
    (before_is_lawful key rest key_is_lawful (λ x valid. counted_is_lawful (λ _. kept) (λ front. kept_is_lawful)))

pub groups_is_lawful : IsLawful groups
unfolding groups
groups_is_lawful = counted_is_lawful group group_is_lawful

-- ---- the whole

pub body_is_lawful : IsLawful body
unfolding body
body_is_lawful =
    let last = before runs (λ (_ : List Run). groups) in
    let middle = before runs (λ (_ : List Run). last) in
    before_is_lawful text (λ _. middle) text_is_lawful
    (λ t valid. before_is_lawful runs (λ _. last) runs_is_lawful (λ rs v. before_is_lawful runs (λ _. groups) runs_is_lawful (λ qs w. groups_is_lawful)))

pub partial_answer_is_lawful : IsLawful partial
unfolding partial
partial_answer_is_lawful = before_is_lawful (head (codes "FLPT")) (λ _. body) (head_is_lawful (codes "FLPT")) (λ t valid. body_is_lawful)
