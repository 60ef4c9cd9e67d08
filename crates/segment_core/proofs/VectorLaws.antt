-- The laws of vectors in bytes.
use Rattle.std.proofs.Common.{◌≡◌, ℕ, zero, suc, ◌+◌, ◌-◌, ◌*◌, ◌/◌, ◌%◌, ◌^◌, ◌<◌, Bool, true, cond, ◌&&◌, not, ltb, leb, eqb, ℤ, List, [], ◌∷◌, ◌++◌, length, Option, Some, None, inl, inr, refl, sym, ap, subst, ◌∙◌, arith, All}
use Rattle.std.specs.List.{list_all}
use Rattle.std.proofs.lemmas.Bool.{ltb-true, lt-ltb, leb-true, eqb-true, eq-eqb, and_parts}
use Rattle.std.proofs.lemmas.List.{append-nil}
use Rattle.std.proofs.lemmas.List.Sums.{AllPass-from_list_all, list_all-from_AllPass}
use Rattle.transpose_order.specs.Place.{IsLaneWidth}
use Rattle.transpose_order.proofs.WidthLemmas.{at_widths}
use Rattle.transpose_order.specs.Mask.{has}
use Rattle.transpose_order.specs.MaskWords.{length-rows_of}
use Rattle.transpose_order.specs.MaskBytes.{mask_bytes, rows_of_bytes}
use Rattle.transpose_order.proofs.MaskByteLemmas.{mask_comes_back, bytes_come_back}
use Rattle.bit_interleave.specs.PackedWords.{PackedWords, FitLanes}
use Rattle.bit_interleave.specs.PackedBytes.{words_of_bytes, bytes_of}
use Rattle.bit_interleave.proofs.WordBytesLemmas.{words_come_back_from_bytes, bytes_come_back_from_words, All-words_of_bytes}
use Rattle.frame_delta.specs.Frame.{FrameForm}
use Rattle.frame_delta.specs.Delta.{DeltaForm}
use Rattle.run_dictionary.specs.Runs.{RunForm, run_of}
use Rattle.run_dictionary.specs.Dict.{DictForm}
use Rattle.table_model.specs.declared.refusal.Refusal.TheVariants.{BadMask, BadTag, BadWidth, BadCount, BadDictionary, BadCode}
use Rattle.segment_core.specs.declared.coding.Coding.{Coding}
use Rattle.segment_core.specs.declared.coding.Coding.TheVariants.{For as ByFrame, Delta as ByDeltas, Runs as ByRuns, Dict as ByDictionary}
use Rattle.segment_core.specs.declared.coded.Coded.{Coded}
use Rattle.segment_core.specs.declared.coded.Coded.TheVariants.{For, Delta, Runs, Dict}
use Rattle.segment_core.specs.declared.vector_bytes.Header.{Header}
use Rattle.segment_core.specs.Coded.{lane_width_of}
use Rattle.segment_core.specs.CodedVector.{VectorForm}
use Rattle.segment_core.specs.Format.{Format, IsLawful, AreBytes, is_byte, raw, checked, before, optional, all, valid_all, spell_all, number, signed}
use Rattle.segment_core.specs.VectorBytes.{mask, are_words, words, is_null_mask, null_flag, nulls, tag_of, coding_tagged, coding, is_width, is_count, header, frame, deltas, starts, runs, is_above, dictionary, are_codes_below, codes, dict, in_frame, in_deltas, in_runs, in_dictionary, payload_of, payload, header_of, coded, vector}
use Rattle.segment_core.proofs.FormatLaws.{raw_is_lawful, seen_is_lawful, checked_is_lawful, before_is_lawful, optional_is_lawful, all_is_lawful}
use Rattle.segment_core.proofs.NumberLaws.{number_is_lawful, signed_is_lawful, chosen_some, cond_valid}

pub some_is : {A : Type 0} (x y : A) → Some x ≡ Some y → x ≡ y
some_is x y e = cc

same_lanes : (t : ℕ) {A : Type 0} (x : A) → cond (eqb t t) (Some x) None ≡ Some x
same_lanes t x = rw (eq-eqb t t refl) refl

same_form : (t width : ℕ) {A : Type 0} (x : A) → cond (eqb t t && eqb width width) (Some x) None ≡ Some x
same_form t width x = rw (eq-eqb t t refl, eq-eqb width width refl) refl

-- ---- masks and packed words

small_bytes : (bytes : List ℕ) → AreBytes bytes → All (λ b. b < 2 ^ 8) bytes
small_bytes bytes fit k d below = ltb-true _ _ (AllPass-from_list_all is_byte bytes fit k d below)

length-rows_of_bytes : (bytes : List ℕ) → length (rows_of_bytes bytes) ≡ 1024
unfolding rows_of_bytes
length-rows_of_bytes bytes = length-rows_of _

pub mask_is_lawful : IsLawful mask
unfolding mask
mask_is_lawful =
    seen_is_lawful (raw 128) rows_of_bytes (λ rows. cond (eqb (length rows) 1024) (Some (mask_bytes rows)) None) (raw_is_lawful 128)
    (λ bytes valid.
    let v = and_parts (eqb (length bytes) 128) (list_all is_byte bytes) valid in
    rw (eq-eqb (length (rows_of_bytes bytes)) 1024 (length-rows_of_bytes bytes), bytes_come_back bytes (eqb-true _ _ v.0) (small_bytes bytes v.1)) refl)
    (λ bytes rows e.
    let c = chosen_some (eqb (length rows) 1024) (mask_bytes rows) bytes e in
    ap rows_of_bytes (sym c.1) ∙ mask_comes_back rows (eqb-true _ _ c.0))

-- a packed vector's bytes are a whole number of words
pub whole_words : (t w : ℕ) → IsLaneWidth t → (128 * w) % (t / 8) ≡ 0
whole_words t w lanes = at_widths (λ t. (128 * w) % (t / 8) ≡ 0) (omega arith) (omega arith) (omega arith) (omega arith) t lanes

pub fit_tests : (t : ℕ) (numbers : List ℕ) → All (λ n. n < 2 ^ t) numbers → list_all (λ n. ltb n (2 ^ t)) numbers ≡ true
fit_tests t numbers fit = list_all-from_AllPass (λ n. ltb n (2 ^ t)) numbers (λ k d below. lt-ltb _ _ (fit k d below))

fit_tested : (t : ℕ) (numbers : List ℕ) → list_all (λ n. ltb n (2 ^ t)) numbers ≡ true → All (λ n. n < 2 ^ t) numbers
fit_tested t numbers e k d below = ltb-true _ _ (AllPass-from_list_all (λ n. ltb n (2 ^ t)) numbers e k d below)

words_forth : (t : ℕ) (bytes : List ℕ) (packed : PackedWords) → IsLaneWidth t → packed.lane_width ≡ t → All (λ n. n < 2 ^ t) packed.numbers → bytes_of packed ≡ bytes → words_of_bytes t bytes ≡ packed
words_forth t bytes packed lanes same fit e =
    let P : ℕ → Type 0 = λ k. IsLaneWidth k in
    let Q : ℕ → Type 0 = λ k. All (λ n. n < 2 ^ k) packed.numbers in
    ap (λ (k : ℕ). words_of_bytes k bytes) (sym same) ∙ ap (words_of_bytes packed.lane_width) (sym e)
    ∙ words_come_back_from_bytes packed (subst P (sym same) lanes) (subst Q (sym same) fit)

pub words_is_lawful : (t w : ℕ) → IsLaneWidth t → IsLawful (words t w)
unfolding words
words_is_lawful t w lanes =
    seen_is_lawful (raw (128 * w)) (words_of_bytes t) (λ packed. cond (are_words t packed) (Some (bytes_of packed)) None) (raw_is_lawful (128 * w))
    (λ bytes valid.
    let v = and_parts (eqb (length bytes) (128 * w)) (list_all is_byte bytes) valid in
    let long : length bytes ≡ 128 * w = eqb-true _ _ v.0 in
    let whole : length bytes % (t / 8) ≡ 0 = ap (λ (k : ℕ). k % (t / 8)) long ∙ whole_words t w lanes in
    rw (eq-eqb t t refl, fit_tests t (words_of_bytes t bytes).numbers (All-words_of_bytes t bytes (length bytes / (t / 8))), bytes_come_back_from_words t bytes lanes whole (small_bytes bytes v.1)) refl)
    (λ bytes packed e.
    let c = chosen_some (are_words t packed) (bytes_of packed) bytes e in
    let v = and_parts (eqb packed.lane_width t) (list_all (λ n. ltb n (2 ^ t)) packed.numbers) c.0 in
    words_forth t bytes packed lanes (eqb-true packed.lane_width t v.0) (fit_tested t packed.numbers v.1) c.1)

-- ---- null masks

null_flag_is : (flag : ℕ) (m : Format (List Bool)) (found : Option (List Bool)) → leb flag 1 ≡ true → (optional (eqb flag 1) m).valid found ≡ true → null_flag found ≡ flag
null_flag_is zero m None small valid = refl
null_flag_is zero m (Some rows) small valid = absurd cc
null_flag_is (suc zero) m None small valid = absurd cc
null_flag_is (suc zero) m (Some rows) small valid = refl
null_flag_is (suc (suc n)) m found small valid = absurd (omega (arith, leb-true (suc (suc n)) 1 small))

pub nulls_is_lawful : (rows : ℕ) → IsLawful (nulls rows)
unfolding nulls
nulls_is_lawful rows =
    let m = checked mask (is_null_mask rows) BadMask in
    seen_is_lawful (before (checked (number 1) (λ flag. leb flag 1) BadMask) (λ flag. optional (eqb flag 1) m)) (λ p. p.1) (λ found. Some (null_flag found, found))
    (before_is_lawful (checked (number 1) (λ flag. leb flag 1) BadMask) (λ flag. optional (eqb flag 1) m) (checked_is_lawful (number 1) (λ flag. leb flag 1) BadMask (number_is_lawful 1))
    (λ flag valid. optional_is_lawful (eqb flag 1) m (checked_is_lawful mask (is_null_mask rows) BadMask mask_is_lawful)))
    (λ p valid.
    let v = and_parts ((number 1).valid p.0 && leb p.0 1) ((optional (eqb p.0 1) m).valid p.1) valid in
    let small = (and_parts ((number 1).valid p.0) (leb p.0 1) v.0).1 in
    ap (λ (flag : ℕ). Some (flag, p.1)) (null_flag_is p.0 m p.1 small v.1))
    (λ p found e. sym (ap (λ (q : ℕ × Option (List Bool)). q.1) (some_is {A = ℕ × Option (List Bool)} (null_flag found, found) p e)))

-- ---- codings, widths and counts

tag_is : (tag : ℕ) → leb tag 3 ≡ true → tag_of (coding_tagged tag) ≡ tag
tag_is zero small = refl
tag_is (suc zero) small = refl
tag_is (suc (suc zero)) small = refl
tag_is (suc (suc (suc zero))) small = refl
tag_is (suc (suc (suc (suc n)))) small = absurd (omega (arith, leb-true (suc (suc (suc (suc n)))) 3 small))

tag_gives_back : (c : Coding) → coding_tagged (tag_of c) ≡ c
tag_gives_back ByFrame = refl
tag_gives_back ByDeltas = refl
tag_gives_back ByRuns = refl
tag_gives_back ByDictionary = refl

pub coding_is_lawful : IsLawful coding
unfolding coding
coding_is_lawful =
    seen_is_lawful (checked (number 1) (λ tag. leb tag 3) BadTag) coding_tagged (λ c. Some (tag_of c)) (checked_is_lawful (number 1) (λ tag. leb tag 3) BadTag (number_is_lawful 1))
    (λ tag valid. ap Some (tag_is tag (and_parts ((number 1).valid tag) (leb tag 3) valid).1))
    (λ tag c e. ap coding_tagged (sym (some_is (tag_of c) tag e)) ∙ tag_gives_back c)

pub header_is_lawful : (t : ℕ) → IsLawful (header t)
unfolding header
header_is_lawful t =
    let width = λ (c : Coding). checked (number 1) (is_width t c) BadWidth in
    let count = λ (c : Coding). checked (number 2) (is_count c) BadCount in
    seen_is_lawful (before coding (λ c. before (width c) (λ _. count c))) (λ p. record { coding = p.0; width = p.1.0; count = p.1.1 }) (λ h. Some (h.coding, (h.width, h.count)))
    (before_is_lawful coding (λ c. before (width c) (λ _. count c)) coding_is_lawful (λ c valid.
    before_is_lawful (width c) (λ _. count c) (checked_is_lawful (number 1) (is_width t c) BadWidth (number_is_lawful 1)) (λ w valid. checked_is_lawful (number 2) (is_count c) BadCount (number_is_lawful 2))))
    (λ p valid. refl)
    (λ p h e.
    let same = some_is {A = Coding × (ℕ × ℕ)} (h.coding, (h.width, h.count)) p e in
    λ i. record { coding = (sym same i).0; width = (sym same i).1.0; count = (sym same i).1.1 })

-- ---- payloads

pub frame_is_lawful : (t width : ℕ) → IsLaneWidth t → IsLawful (frame t width)
unfolding frame
frame_is_lawful t width lanes =
    seen_is_lawful (before (signed t) (λ _. words t width)) (λ p. record { lane_width = t; width = width; reference = p.0; words = p.1 }) (λ c. cond (eqb c.lane_width t && eqb c.width width) (Some (c.reference, c.words)) None)
    (before_is_lawful (signed t) (λ _. words t width) (signed_is_lawful t lanes) (λ z valid. words_is_lawful t width lanes))
    (λ p valid. same_form t width p)
    (λ p c e.
    let s = chosen_some {A = ℤ × PackedWords} (eqb c.lane_width t && eqb c.width width) (c.reference, c.words) p e in
    let v = and_parts (eqb c.lane_width t) (eqb c.width width) s.0 in
    let same_t = eqb-true c.lane_width t v.0 in
    let same_w = eqb-true c.width width v.1 in
    λ i. record { lane_width = sym same_t i; width = sym same_w i; reference = (sym s.1 i).0; words = (sym s.1 i).1 })

pub deltas_is_lawful : (t width : ℕ) → IsLaneWidth t → IsLawful (deltas t width)
unfolding deltas
deltas_is_lawful t width lanes =
    let bases = all (1024 / t) (λ _. signed t) in
    seen_is_lawful (before (signed t) (λ _. before bases (λ _. words t width))) (λ p. record { lane_width = t; width = width; least = p.0; bases = p.1.0; words = p.1.1 }) (λ c. cond (eqb c.lane_width t && eqb c.width width) (Some (c.least, (c.bases, c.words))) None)
    (before_is_lawful (signed t) (λ _. before bases (λ _. words t width)) (signed_is_lawful t lanes) (λ z valid.
    before_is_lawful bases (λ _. words t width) (all_is_lawful (1024 / t) (λ _. signed t) (λ front below. signed_is_lawful t lanes)) (λ b valid. words_is_lawful t width lanes)))
    (λ p valid. same_form t width p)
    (λ p c e.
    let s = chosen_some {A = ℤ × (List ℤ × PackedWords)} (eqb c.lane_width t && eqb c.width width) (c.least, (c.bases, c.words)) p e in
    let v = and_parts (eqb c.lane_width t) (eqb c.width width) s.0 in
    let same_t = eqb-true c.lane_width t v.0 in
    let same_w = eqb-true c.width width v.1 in
    λ i. record { lane_width = sym same_t i; width = sym same_w i; least = (sym s.1 i).0; bases = (sym s.1 i).1.0; words = (sym s.1 i).1.1 })

pub starts_is_lawful : (count : ℕ) → IsLawful (starts count)
unfolding starts
starts_is_lawful count =
    let first = checked mask (λ rows. not (has rows 0)) BadMask in
    checked_is_lawful first (λ rows. eqb (run_of rows 1023 + 1) count) (λ at. BadCount (at - 2)) (checked_is_lawful mask (λ rows. not (has rows 0)) BadMask mask_is_lawful)

pub runs_is_lawful : (t count : ℕ) → IsLaneWidth t → IsLawful (runs t count)
unfolding runs
runs_is_lawful t count lanes =
    let values = all count (λ _. signed t) in
    seen_is_lawful (before (starts count) (λ _. values)) (λ p. record { lane_width = t; starts = p.0; values = p.1 }) (λ r. cond (eqb r.lane_width t) (Some (r.starts, r.values)) None)
    (before_is_lawful (starts count) (λ _. values) (starts_is_lawful count) (λ m valid. all_is_lawful count (λ _. signed t) (λ front below. signed_is_lawful t lanes)))
    (λ p valid. same_lanes t p)
    (λ p r e.
    let s = chosen_some {A = List Bool × List ℤ} (eqb r.lane_width t) (r.starts, r.values) p e in
    let same = eqb-true r.lane_width t s.0 in
    λ i. record { lane_width = sym same i; starts = (sym s.1 i).0; values = (sym s.1 i).1 })

pub dictionary_is_lawful : (t count : ℕ) → IsLaneWidth t → IsLawful (dictionary t count)
unfolding dictionary
dictionary_is_lawful t count lanes =
    all_is_lawful count (λ front. checked (signed t) (is_above front) BadDictionary) (λ front below. checked_is_lawful (signed t) (is_above front) BadDictionary (signed_is_lawful t lanes))

pub codes_is_lawful : (width count : ℕ) → IsLawful (codes width count)
unfolding codes
codes_is_lawful width count = checked_is_lawful (words 16 width) (are_codes_below width count) BadCode (words_is_lawful 16 width (inr (inl refl)))

pub dict_is_lawful : (t width count : ℕ) → IsLaneWidth t → IsLawful (dict t width count)
unfolding dict
dict_is_lawful t width count lanes =
    seen_is_lawful (before (dictionary t count) (λ _. codes width count)) (λ p. record { lane_width = t; width = width; values = p.0; codes = p.1 }) (λ d. cond (eqb d.lane_width t && eqb d.width width) (Some (d.values, d.codes)) None)
    (before_is_lawful (dictionary t count) (λ _. codes width count) (dictionary_is_lawful t count lanes) (λ v valid. codes_is_lawful width count))
    (λ p valid. same_form t width p)
    (λ p d e.
    let s = chosen_some {A = List ℤ × PackedWords} (eqb d.lane_width t && eqb d.width width) (d.values, d.codes) p e in
    let v = and_parts (eqb d.lane_width t) (eqb d.width width) s.0 in
    let same_t = eqb-true d.lane_width t v.0 in
    let same_w = eqb-true d.width width v.1 in
    λ i. record { lane_width = sym same_t i; width = sym same_w i; values = (sym s.1 i).0; codes = (sym s.1 i).1 })

-- ---- coded values

in_frame_is : (f : FrameForm) (c : Coded) → in_frame c ≡ Some f → For f ≡ c
in_frame_is f (For g) e = ap For (sym (some_is g f e))
in_frame_is f (Delta g) e = absurd cc
in_frame_is f (Runs g) e = absurd cc
in_frame_is f (Dict g) e = absurd cc

in_deltas_is : (f : DeltaForm) (c : Coded) → in_deltas c ≡ Some f → Delta f ≡ c
in_deltas_is f (For g) e = absurd cc
in_deltas_is f (Delta g) e = ap Delta (sym (some_is g f e))
in_deltas_is f (Runs g) e = absurd cc
in_deltas_is f (Dict g) e = absurd cc

in_runs_is : (f : RunForm) (c : Coded) → in_runs c ≡ Some f → Runs f ≡ c
in_runs_is f (For g) e = absurd cc
in_runs_is f (Delta g) e = absurd cc
in_runs_is f (Runs g) e = ap Runs (sym (some_is g f e))
in_runs_is f (Dict g) e = absurd cc

in_dictionary_is : (f : DictForm) (c : Coded) → in_dictionary c ≡ Some f → Dict f ≡ c
in_dictionary_is f (For g) e = absurd cc
in_dictionary_is f (Delta g) e = absurd cc
in_dictionary_is f (Runs g) e = absurd cc
in_dictionary_is f (Dict g) e = ap Dict (sym (some_is g f e))

payload_of_is_lawful : (t : ℕ) (c : Coding) (width count : ℕ) → IsLaneWidth t → IsLawful (payload_of t c width count)
payload_of_is_lawful t ByFrame width count lanes = seen_is_lawful (frame t width) For in_frame (frame_is_lawful t width lanes) (λ f valid. refl) in_frame_is
payload_of_is_lawful t ByDeltas width count lanes = seen_is_lawful (deltas t width) Delta in_deltas (deltas_is_lawful t width lanes) (λ f valid. refl) in_deltas_is
payload_of_is_lawful t ByRuns width count lanes = seen_is_lawful (runs t count) Runs in_runs (runs_is_lawful t count lanes) (λ f valid. refl) in_runs_is
payload_of_is_lawful t ByDictionary width count lanes = seen_is_lawful (dict t width count) Dict in_dictionary (dict_is_lawful t width count lanes) (λ f valid. refl) in_dictionary_is

frame_width_is : (t width : ℕ) (c : FrameForm) → (frame t width).valid c ≡ true → c.width ≡ width
unfolding frame
frame_width_is t width c valid =
    let form = before (signed t) (λ _. words t width) in
    let v = cond_valid form (eqb c.lane_width t && eqb c.width width) (c.reference, c.words) valid in
    eqb-true c.width width (and_parts (eqb c.lane_width t) (eqb c.width width) v.0).1

deltas_width_is : (t width : ℕ) (c : DeltaForm) → (deltas t width).valid c ≡ true → c.width ≡ width
unfolding deltas
deltas_width_is t width c valid =
    let form = before (signed t) (λ _. before (all (1024 / t) (λ _. signed t)) (λ _. words t width)) in
    let v = cond_valid form (eqb c.lane_width t && eqb c.width width) (c.least, (c.bases, c.words)) valid in
    eqb-true c.width width (and_parts (eqb c.lane_width t) (eqb c.width width) v.0).1

runs_count_is : (t count : ℕ) (r : RunForm) → (runs t count).valid r ≡ true → length r.values ≡ count
unfolding runs
runs_count_is t count r valid =
    let values = all count (λ _. signed t) in
    let v = cond_valid (before (starts count) (λ _. values)) (eqb r.lane_width t) (r.starts, r.values) valid in
    let both = and_parts ((starts count).valid r.starts) (values.valid r.values) v.1 in
    eqb-true _ _ (and_parts (eqb (length r.values) count) (valid_all (λ _. signed t) [] r.values) both.1).0

dict_parts_are : (t width count : ℕ) (d : DictForm) → (dict t width count).valid d ≡ true → (d.width ≡ width) × (length d.values ≡ count)
unfolding dict dictionary
dict_parts_are t width count d valid =
    let form = before (dictionary t count) (λ _. codes width count) in
    let v = cond_valid form (eqb d.lane_width t && eqb d.width width) (d.values, d.codes) valid in
    let both = and_parts ((dictionary t count).valid d.values) ((codes width count).valid d.codes) v.1 in
    let item = λ (front : List ℤ). checked (signed t) (is_above front) BadDictionary in
    (eqb-true _ _ (and_parts (eqb d.lane_width t) (eqb d.width width) v.0).1, eqb-true _ _ (and_parts (eqb (length d.values) count) (valid_all item [] d.values) both.0).0)

header_is : (t : ℕ) (k : Coding) (width count : ℕ) (c : Coded) → is_width t k width ≡ true → is_count k count ≡ true → (payload_of t k width count).valid c ≡ true → header_of c ≡ record { coding = k; width = width; count = count }
header_is t ByFrame width count (For f) is_w is_c valid =
    let same = frame_width_is t width f valid in
    let none = eqb-true count 0 is_c in
    λ i. record { coding = ByFrame; width = same i; count = sym none i }
header_is t ByFrame width count (Delta f) is_w is_c valid = absurd cc
header_is t ByFrame width count (Runs f) is_w is_c valid = absurd cc
header_is t ByFrame width count (Dict f) is_w is_c valid = absurd cc
header_is t ByDeltas width count (For f) is_w is_c valid = absurd cc
header_is t ByDeltas width count (Delta f) is_w is_c valid =
    let same = deltas_width_is t width f valid in
    let none = eqb-true count 0 is_c in
    λ i. record { coding = ByDeltas; width = same i; count = sym none i }
header_is t ByDeltas width count (Runs f) is_w is_c valid = absurd cc
header_is t ByDeltas width count (Dict f) is_w is_c valid = absurd cc
header_is t ByRuns width count (For f) is_w is_c valid = absurd cc
header_is t ByRuns width count (Delta f) is_w is_c valid = absurd cc
header_is t ByRuns width count (Runs f) is_w is_c valid =
    let same = eqb-true width 1 is_w in
    let many = runs_count_is t count f valid in
    λ i. record { coding = ByRuns; width = sym same i; count = many i }
header_is t ByRuns width count (Dict f) is_w is_c valid = absurd cc
header_is t ByDictionary width count (For f) is_w is_c valid = absurd cc
header_is t ByDictionary width count (Delta f) is_w is_c valid = absurd cc
header_is t ByDictionary width count (Runs f) is_w is_c valid = absurd cc
header_is t ByDictionary width count (Dict f) is_w is_c valid =
    let parts = dict_parts_are t width count f valid in
    λ i. record { coding = ByDictionary; width = parts.0 i; count = parts.1 i }

-- a header's width and count are what its coding may have
header_parts : (t : ℕ) (h : Header) → (header t).valid h ≡ true → (is_width t h.coding h.width ≡ true) × (is_count h.coding h.count ≡ true)
unfolding header
header_parts t h valid =
    let width = checked (number 1) (is_width t h.coding) BadWidth in
    let count = checked (number 2) (is_count h.coding) BadCount in
    let v = and_parts (coding.valid h.coding) (width.valid h.width && count.valid h.count) valid in
    let both = and_parts (width.valid h.width) (count.valid h.count) v.1 in
    ((and_parts ((number 1).valid h.width) (is_width t h.coding h.width) both.0).1, (and_parts ((number 2).valid h.count) (is_count h.coding h.count) both.1).1)

pub coded_is_lawful : (t : ℕ) → IsLaneWidth t → IsLawful (coded t)
unfolding coded
coded_is_lawful t lanes =
    seen_is_lawful (before (header t) (payload t)) (λ p. p.1) (λ c. Some (header_of c, c))
    (before_is_lawful (header t) (payload t) (header_is_lawful t) (λ h valid. payload_of_is_lawful t h.coding h.width h.count lanes))
    (λ p valid.
    let v = and_parts ((header t).valid p.0) ((payload t p.0).valid p.1) valid in
    let parts = header_parts t p.0 v.0 in
    ap (λ (h : Header). Some (h, p.1)) (header_is t p.0.coding p.0.width p.0.count p.1 parts.0 parts.1 v.1))
    (λ p c e. sym (ap (λ (q : Header × Coded). q.1) (some_is {A = Header × Coded} (header_of c, c) p e)))

pub vector_is_lawful : (t rows : ℕ) → IsLaneWidth t → IsLawful (vector t rows)
unfolding vector
vector_is_lawful t rows lanes =
    seen_is_lawful (before (nulls rows) (λ _. coded t)) (λ p. record { rows = rows; nulls = p.0; coded = p.1 }) (λ v. cond (eqb v.rows rows) (Some (v.nulls, v.coded)) None)
    (before_is_lawful (nulls rows) (λ _. coded t) (nulls_is_lawful rows) (λ n valid. coded_is_lawful t lanes))
    (λ p valid. same_lanes rows p)
    (λ p v e.
    let s = chosen_some {A = Option (List Bool) × Coded} (eqb v.rows rows) (v.nulls, v.coded) p e in
    let same = eqb-true v.rows rows s.0 in
    λ i. record { rows = sym same i; nulls = (sym s.1 i).0; coded = (sym s.1 i).1 })

-- ---- what is spelled

pub mask_spelled : (rows : List Bool) → length rows ≡ 1024 → mask.spell rows ≡ mask_bytes rows
unfolding mask
mask_spelled rows long = rw (eq-eqb _ _ long) refl

pub words_spelled : (t w : ℕ) (packed : PackedWords) → packed.lane_width ≡ t → FitLanes packed → (words t w).spell packed ≡ bytes_of packed
unfolding words
words_spelled t w packed same fit =
    let P : ℕ → Type 0 = λ k. All (λ n. n < 2 ^ k) packed.numbers in
    rw (eq-eqb packed.lane_width t same, fit_tests t packed.numbers (subst P same fit)) refl

pub header_spelled : (t : ℕ) (h : Header) → (header t).spell h ≡ (number 1).spell (tag_of h.coding) ++ ((number 1).spell h.width ++ (number 2).spell h.count)
unfolding header coding
header_spelled t h = refl

pub frame_spelled : (c : FrameForm) → c.words.lane_width ≡ c.lane_width
    → (frame c.lane_width c.width).spell c ≡ (signed c.lane_width).spell c.reference ++ (words c.words.lane_width c.width).spell c.words
unfolding frame
frame_spelled c same =
    rw (eq-eqb c.lane_width c.lane_width refl, eq-eqb c.width c.width refl) (ap (λ (t : ℕ). (signed c.lane_width).spell c.reference ++ (words t c.width).spell c.words) (sym same))

pub deltas_spelled : (c : DeltaForm) → c.words.lane_width ≡ c.lane_width
    → (deltas c.lane_width c.width).spell c ≡ (signed c.lane_width).spell c.least ++ ((all (length c.bases) (λ _. signed c.lane_width)).spell c.bases ++ (words c.words.lane_width c.width).spell c.words)
unfolding deltas
deltas_spelled c same =
    rw (eq-eqb c.lane_width c.lane_width refl, eq-eqb c.width c.width refl)
    (ap (λ (t : ℕ). (signed c.lane_width).spell c.least ++ ((all (length c.bases) (λ _. signed c.lane_width)).spell c.bases ++ (words t c.width).spell c.words)) (sym same))

pub runs_spelled : (r : RunForm) → (runs r.lane_width (length r.values)).spell r ≡ mask.spell r.starts ++ (all (length r.values) (λ _. signed r.lane_width)).spell r.values
unfolding runs starts
runs_spelled r = rw (eq-eqb r.lane_width r.lane_width refl) refl

ignores_tests : (t : ℕ) (values front : List ℤ) → spell_all (λ front. checked (signed t) (is_above front) BadDictionary) front values ≡ spell_all (λ _. signed t) front values
unfolding spell_all
ignores_tests t [] front = refl
ignores_tests t (v ∷ values) front = ap (λ (bytes : List ℕ). (signed t).spell v ++ bytes) (ignores_tests t values (front ++ v ∷ []))

pub dict_spelled : (d : DictForm) → d.codes.lane_width ≡ 16
    → (dict d.lane_width d.width (length d.values)).spell d ≡ (all (length d.values) (λ _. signed d.lane_width)).spell d.values ++ (words d.codes.lane_width d.width).spell d.codes
unfolding dict dictionary codes
dict_spelled d same =
    rw (eq-eqb d.lane_width d.lane_width refl, eq-eqb d.width d.width refl)
    (ap (λ (bytes : List ℕ). bytes ++ (words 16 d.width).spell d.codes) (ignores_tests d.lane_width d.values [])
    ∙ ap (λ (t : ℕ). (all (length d.values) (λ _. signed d.lane_width)).spell d.values ++ (words t d.width).spell d.codes) (sym same))

pub coded_spelled : (t : ℕ) (c : Coded) → (coded t).spell c ≡ (header t).spell (header_of c) ++ (payload t (header_of c)).spell c
unfolding coded
coded_spelled t c = refl

pub no_nulls_spelled : (rows : ℕ) → (nulls rows).spell None ≡ (number 1).spell 0
unfolding nulls
no_nulls_spelled rows = append-nil ((number 1).spell 0)

pub nulls_spelled : (rows : ℕ) (found : List Bool) → (nulls rows).spell (Some found) ≡ (number 1).spell 1 ++ mask.spell found
unfolding nulls
nulls_spelled rows found = refl

pub vector_spelled : (v : VectorForm) → (vector (lane_width_of v.coded) v.rows).spell v ≡ (nulls v.rows).spell v.nulls ++ (coded (lane_width_of v.coded)).spell v.coded
unfolding vector
vector_spelled v = rw (eq-eqb v.rows v.rows refl) refl
