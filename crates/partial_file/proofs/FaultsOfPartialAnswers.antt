-- What reading the bytes of a partial answer is refused as is a fault that they may have.
use Rattle.std.proofs.Common.{◌≡◌, ℕ, ◌/◌, Bool, true, false, cond, eqb, leb, ℤ, List, length, codes, Option, Some, None, Result, Ok, Err, refl}
use Rattle.std.specs.Int.{w128, cast_signed, cast_unsigned, int_wrap}
use Rattle.std.specs.Str.{is_utf8}
use Rattle.table_model.specs.Reading.{◌>>=◌}
use Rattle.table_model.specs.State.{Cells}
use Rattle.table_model.specs.declared.refusal.Refusal.{Refusal}
use Rattle.table_model.specs.declared.refusal.Refusal.TheVariants.{BadName, BadOrder, BadRange, BadTag, BadWidth, Syntax}
use Rattle.catalogue_join.specs.Run.{name_at}
use Rattle.catalogue_join.specs.declared.run.Run.{Run}
use Rattle.segment_core.specs.Format.{Format, raw, seen, checked, before, optional, all, number, signed, is_in_bits, read_whole}
use Rattle.column_file.specs.Input.{is_fault_of_summary}
use Rattle.column_file.specs.SummaryBytes.{head}
use Rattle.column_file.proofs.FaultsOfBytes.{Judged, Judges, then_judged, seen_judges, checked_judges, before_judges, optional_judges, all_judges, raw_judges, number_judges, head_judges, whole_judged}
use Rattle.partial_answers.specs.Refusing.{kept_kind}
use Rattle.partial_answers.specs.declared.kept.Kept.{Kept}
use Rattle.partial_answers.specs.declared.kept.Kept.TheVariants.{Count, Sum, Least, Greatest, Distinct}
use Rattle.partial_file.specs.PartialAnswerBytes.{Entry, as_count, as_distinct, as_greatest, as_least, as_sum, begins_after, body, cell, cell_value, counted, extreme, group, groups, is_after, is_greater, is_long, is_named, is_run, kept, kept_as, key, partial, run, run_parts, runs, sum_parts, text, value, values, wide}
use Rattle.partial_file.specs.PartialAnswerReading.{is_fault_of_partial_answer, partial_answer_read}

-- ---- faults of a summary are faults of a partial answer

wider : (e : Refusal) → is_fault_of_summary e ≡ true → is_fault_of_partial_answer e ≡ true
wider (Syntax at) h = refl
wider (BadRange at) h = refl
wider (BadTag at) h = refl
wider (BadWidth at) h = refl
wider other h = h

judged_wider : {X : Type 0} (r : Result X Refusal) → Judged is_fault_of_summary r → Judged is_fault_of_partial_answer r
judged_wider (Ok x) q = tt
judged_wider (Err e) q = wider e q

judges_wider : {A : Type 0} (f : Format A) → Judges is_fault_of_summary f → Judges is_fault_of_partial_answer f
judges_wider f q = λ total bytes. judged_wider (f.read total bytes) (q total bytes)

raw_fits : (n : ℕ) → Judges is_fault_of_partial_answer (raw n)
raw_fits n = judges_wider (raw n) (raw_judges n)

number_fits : (n : ℕ) → Judges is_fault_of_partial_answer (number n)
number_fits n = judges_wider (number n) (number_judges n)

chosen_judges : {A : Type 0} (b : Bool) (f g : Format A) → Judges is_fault_of_partial_answer f → Judges is_fault_of_partial_answer g → Judges is_fault_of_partial_answer (cond b f g)
chosen_judges true f g q r = q
chosen_judges false f g q r = r

counted_judges : {A : Type 0} (item : List A → Format A) → ((front : List A) → Judges is_fault_of_partial_answer (item front)) → Judges is_fault_of_partial_answer (counted item)
unfolding counted
counted_judges {A = A} item q =
    let rest : ℕ → Format (List A) = λ n. all n item in
    let made : ℕ × List A → List A = λ p. p.1 in
    seen_judges is_fault_of_partial_answer (before (number 8) rest) made (before_judges is_fault_of_partial_answer (number 8) rest (number_fits 8) (λ n. all_judges is_fault_of_partial_answer n item q))

-- ---- texts and names

text_judges : Judges is_fault_of_partial_answer text
unfolding text
text_judges =
    let components = before (number 8) raw in
    let made : ℕ × List ℕ → List ℕ = λ p. p.1 in
    checked_judges is_fault_of_partial_answer (seen components made (λ t. Some (length t, t))) is_utf8 Syntax (λ n. refl) (seen_judges is_fault_of_partial_answer components made (before_judges is_fault_of_partial_answer (number 8) raw (number_fits 8) raw_fits))

run_parts_judges : Judges is_fault_of_partial_answer run_parts
unfolding run_parts
run_parts_judges =
    let numbers = before (number 4) (λ (_ : ℕ). number 4) in
    let made : ℕ × (ℕ × ℕ) → Run = λ p. record { first = name_at (record { 0 = p.0 }) p.1.0; last = record { 0 = p.1.1 } } in
    seen_judges is_fault_of_partial_answer (before (number 4) (λ (_ : ℕ). numbers)) made (before_judges is_fault_of_partial_answer (number 4) (λ _. numbers) (number_fits 4) (λ _. before_judges is_fault_of_partial_answer (number 4) (λ _. number 4) (number_fits 4) (λ _. number_fits 4)))

run_judges : (front : List Run) → Judges is_fault_of_partial_answer (run front)
unfolding run
run_judges front =
    let named = checked run_parts is_named (λ _. BadName) in
    checked_judges is_fault_of_partial_answer (checked named is_run BadRange) (begins_after front) BadOrder (λ n. refl) (checked_judges is_fault_of_partial_answer named is_run BadRange (λ n. refl) (checked_judges is_fault_of_partial_answer run_parts is_named (λ _. BadName) (λ n. refl) run_parts_judges))

runs_judges : Judges is_fault_of_partial_answer runs
unfolding runs
runs_judges = counted_judges run run_judges

-- ---- numbers

narrow_judges : Judges is_fault_of_partial_answer (signed 64)
narrow_judges = λ total bytes. then_judged is_fault_of_partial_answer ((number (64 / 8)).read total bytes) _ (number_fits (64 / 8) total bytes) (λ x. tt)

wide_judges : Judges is_fault_of_partial_answer wide
unfolding wide
wide_judges = seen_judges is_fault_of_partial_answer (number 16) (cast_signed w128) (number_fits 16)

cell_value_judges : (n : ℕ) → Judges is_fault_of_partial_answer (cell_value n)
cell_value_judges n =
    let long = checked wide is_long BadWidth in
    chosen_judges (eqb n 2) (optional true long) (optional (eqb n 1) (signed 64)) (optional_judges is_fault_of_partial_answer true long (checked_judges is_fault_of_partial_answer wide is_long BadWidth (λ n. refl) wide_judges)) (optional_judges is_fault_of_partial_answer (eqb n 1) (signed 64) narrow_judges)

cell_judges : Judges is_fault_of_partial_answer cell
unfolding cell
cell_judges =
    let tag = checked (number 1) (λ (n : ℕ). leb n 2) BadTag in
    let made : ℕ × Option ℤ → Option ℤ = λ p. p.1 in
    seen_judges is_fault_of_partial_answer (before tag cell_value) made (before_judges is_fault_of_partial_answer tag cell_value (checked_judges is_fault_of_partial_answer (number 1) (λ (n : ℕ). leb n 2) BadTag (λ n. refl) (number_fits 1)) cell_value_judges)

key_judges : Judges is_fault_of_partial_answer key
unfolding key
key_judges = counted_judges (λ _. cell) (λ front. cell_judges)

extreme_judges : Judges is_fault_of_partial_answer extreme
unfolding extreme
extreme_judges =
    let tag = checked (number 1) (λ (n : ℕ). leb n 1) BadTag in
    let rest : ℕ → Format (Option ℤ) = λ n. optional (eqb n 1) (signed 64) in
    let made : ℕ × Option ℤ → Option ℤ = λ p. p.1 in
    seen_judges is_fault_of_partial_answer (before tag rest) made (before_judges is_fault_of_partial_answer tag rest (checked_judges is_fault_of_partial_answer (number 1) (λ (n : ℕ). leb n 1) BadTag (λ n. refl) (number_fits 1)) (λ n. optional_judges is_fault_of_partial_answer (eqb n 1) (signed 64) narrow_judges))

-- ---- groups

value_judges : (front : List ℤ) → Judges is_fault_of_partial_answer (value front)
unfolding value
value_judges front = checked_judges is_fault_of_partial_answer (signed 64) (is_greater front) BadOrder (λ n. refl) narrow_judges

values_judges : Judges is_fault_of_partial_answer values
unfolding values
values_judges = counted_judges value value_judges

sums_judges : Judges is_fault_of_partial_answer sum_parts
unfolding sum_parts
sums_judges = before_judges is_fault_of_partial_answer (number 8) (λ _. wide) (number_fits 8) (λ _. wide_judges)

abbrev sum_of : ℕ × ℤ → Kept
sum_of p = Sum (record { count = p.0; sum = p.1 })

kept_as_judges : (n : ℕ) → Judges is_fault_of_partial_answer (kept_as n)
kept_as_judges n =
    let counts = seen (number 8) Count as_count in
    let sums = seen sum_parts sum_of as_sum in
    let leasts = seen extreme Least as_least in
    let greatests = seen extreme Greatest as_greatest in
    let distincts = seen values Distinct as_distinct in
    let fourth = chosen_judges (eqb n 3) greatests distincts (seen_judges is_fault_of_partial_answer extreme Greatest extreme_judges) (seen_judges is_fault_of_partial_answer values Distinct values_judges) in
    let third = chosen_judges (eqb n 2) leasts (cond (eqb n 3) greatests distincts) (seen_judges is_fault_of_partial_answer extreme Least extreme_judges) fourth in
    let second = chosen_judges (eqb n 1) sums (cond (eqb n 2) leasts (cond (eqb n 3) greatests distincts)) (seen_judges is_fault_of_partial_answer sum_parts sum_of sums_judges) third in
    chosen_judges (eqb n 0) counts (cond (eqb n 1) sums (cond (eqb n 2) leasts (cond (eqb n 3) greatests distincts))) (seen_judges is_fault_of_partial_answer (number 8) Count (number_fits 8)) second

kept_judges : Judges is_fault_of_partial_answer kept
unfolding kept
kept_judges =
    let tag = checked (number 1) (λ (n : ℕ). leb n 4) BadTag in
    let made : ℕ × Kept → Kept = λ p. p.1 in
    seen_judges is_fault_of_partial_answer (before tag kept_as) made (before_judges is_fault_of_partial_answer tag kept_as (checked_judges is_fault_of_partial_answer (number 1) (λ (n : ℕ). leb n 4) BadTag (λ n. refl) (number_fits 1)) kept_as_judges)

group_judges : (front : List Entry) → Judges is_fault_of_partial_answer (group front)
unfolding group
group_judges front =
    let rest : Cells → Format (List Kept) = λ _. counted (λ _. kept) in
    checked_judges is_fault_of_partial_answer (before key rest) (is_after front) BadOrder (λ n. refl) (before_judges is_fault_of_partial_answer key rest key_judges (λ x. counted_judges (λ _. kept) (λ front. kept_judges)))

groups_judges : Judges is_fault_of_partial_answer groups
unfolding groups
groups_judges = counted_judges group group_judges

-- ---- the whole

body_judges : Judges is_fault_of_partial_answer body
unfolding body
body_judges =
    let last = before runs (λ (_ : List Run). groups) in
    let middle = before runs (λ (_ : List Run). last) in
    before_judges is_fault_of_partial_answer text (λ _. middle) text_judges (λ t. before_judges is_fault_of_partial_answer runs (λ _. last) runs_judges (λ rs. before_judges is_fault_of_partial_answer runs (λ _. groups) runs_judges (λ qs. groups_judges)))

partial_answer_judges : Judges is_fault_of_partial_answer partial
unfolding partial
partial_answer_judges = before_judges is_fault_of_partial_answer (head (codes "FLPT")) (λ _. body) (judges_wider (head (codes "FLPT")) (head_judges (codes "FLPT"))) (λ t. body_judges)

pub partial_answer_read_judged : (bytes : List ℕ) → Judged is_fault_of_partial_answer (partial_answer_read bytes)
partial_answer_read_judged bytes = then_judged is_fault_of_partial_answer (read_whole partial bytes) _ (whole_judged is_fault_of_partial_answer partial (λ n. refl) partial_answer_judges bytes) (λ x. tt)
