-- What is valid rises: runs of names, and distinct values.
use Rattle.std.proofs.Common.{◌≡◌, ℕ, ◌+◌, ◌-◌, ◌*◌, ◌<◌, ◌≤◌, Bool, true, false, ◌&&◌, ◌||◌, eqb, ltb, get_or, List, [], ◌∷◌, ◌++◌, length, ℤ, refl, sym, ap, ◌∙◌, arith}
use Rattle.std.specs.List.{AllByRecursion}
use Rattle.std.specs.List.Sorted.{IsStrictlySortedBy}
use Rattle.std.specs.Ordering.{int_cmp, is_lt}
use Rattle.std.specs.Cmp.{int_cmp_total}
use Rattle.std.specs.declared.cmp.Ordering.{Ordering}
use Rattle.std.specs.declared.cmp.Ordering.TheVariants.{Less, Equal, Greater}
use Rattle.std.proofs.lemmas.Bool.{and_parts, leb-true}
use Rattle.std.proofs.lemmas.Bool.Decides.{nat_tests}
use Rattle.std.proofs.lemmas.List.{length-append}
use Rattle.std.proofs.Math.Seq.{get_or-append_seam}
use Rattle.catalogue_join.specs.Run.{name_place, run_shape}
use Rattle.catalogue_join.specs.RunShape.{HasBounds, named_from}
use Rattle.catalogue_join.specs.Span.{Rises}
use Rattle.catalogue_join.specs.declared.run.Run.{Run}
use Rattle.segment_core.specs.Format.{all, number, signed, valid_all}
use Rattle.segment_core.proofs.NumberLaws.{number_valid}
use Rattle.partial_file.specs.PartialAnswerBytes.{begins_after, counted, ends_before, is_greater, is_named, is_run, run, run_parts, runs, value, values}

-- ---- the last of a list

-- a list that something was put after has something
pub has_some : {A : Type 0} (front : List A) (x : A) → eqb (length (front ++ x ∷ [])) 0 ≡ false
has_some front x =
    let long : length (front ++ x ∷ []) ≡ length front + 1 = length-append front (x ∷ []) in
    grind (arith, nat_tests)

-- and that is its last
pub last_is : {A : Type 0} (front : List A) (x d : A) → get_or (front ++ x ∷ []) (length (front ++ x ∷ []) - 1) d ≡ x
last_is front x d =
    let long : length (front ++ x ∷ []) ≡ length front + 1 = length-append front (x ∷ []) in
    let last : length (front ++ x ∷ []) - 1 ≡ length front = omega arith in
    ap (λ (k : ℕ). get_or (front ++ x ∷ []) k d) last ∙ get_or-append_seam front x [] d

pub is_less : (r : Ordering) → is_lt r ≡ true → r ≡ Less
is_less Less e = refl
is_less Equal e = absurd cc
is_less Greater e = absurd cc

-- ---- runs

pub run_after_last : (front : List Run) (p r : Run) → begins_after (front ++ p ∷ []) r ≡ ends_before p r
run_after_last front p r =
    ap (λ (b : Bool). b || ends_before (get_or (front ++ p ∷ []) (length (front ++ p ∷ []) - 1) r) r) (has_some front p)
    ∙ ap (λ (q : Run). ends_before q r) (last_is front p r)

-- what is true of a run that is valid
record IsGiven (front : List Run) (r : Run) : Type 0 where
  pub bounds : HasBounds r
  pub within : r.first.number.0 ≤ r.last.0
  pub after : begins_after front r ≡ true

given : (front : List Run) (r : Run) → (run front).valid r ≡ true → IsGiven front r
unfolding run run_parts
given front r valid =
    let numbers = (number 4).valid r.first.origin.0 && ((number 4).valid r.first.number.0 && (number 4).valid r.last.0) in
    let a = and_parts ((numbers && is_named r) && is_run r) (begins_after front r) valid in
    let b = and_parts (numbers && is_named r) (is_run r) a.0 in
    let c = and_parts numbers (is_named r) b.0 in
    let d = and_parts ((number 4).valid r.first.origin.0) ((number 4).valid r.first.number.0 && (number 4).valid r.last.0) c.0 in
    let e = and_parts ((number 4).valid r.first.number.0) ((number 4).valid r.last.0) d.1 in
    record {
      bounds = record { proper = c.1; origin = number_valid 4 r.first.origin.0 d.0; number = number_valid 4 r.first.number.0 e.0; last = number_valid 4 r.last.0 e.1 };
      within = leb-true _ _ b.1;
      after = a.1;
    }

ends_place : (o l o' f : ℕ) → l < 4294967296 → (ltb o o' || (eqb o o' && ltb (l + 1) f)) ≡ true → o * 8589934592 + l + 2 ≤ o' * 8589934592 + f
ends_place o l o' f small e = grind (arith, nat_tests)

-- the runs after a run rise from behind its end
rise_after : (front : List Run) (p : Run) (rs : List Run) → p.last.0 < 4294967296 → valid_all run (front ++ p ∷ []) rs ≡ true → Rises run_shape (name_place p.first.origin p.last.0 + 2) rs
unfolding valid_all
rise_after front p [] small valid = tt
rise_after front p (r ∷ rs) small valid =
    let v = and_parts ((run (front ++ p ∷ [])).valid r) (valid_all run ((front ++ p ∷ []) ++ r ∷ []) rs) valid in
    let g = given (front ++ p ∷ []) r v.0 in
    let ends = sym (run_after_last front p r) ∙ g.after in
    let first = ends_place p.first.origin.0 p.last.0 r.first.origin.0 r.first.number.0 small ends in
    (first, (let w = g.within in omega (arith, w)), named_from r g.bounds, rise_after (front ++ p ∷ []) r rs g.bounds.last v.1)

all_rise : (rs : List Run) → valid_all run [] rs ≡ true → Rises run_shape 0 rs
unfolding valid_all
all_rise [] valid = tt
all_rise (r ∷ rs) valid =
    let v = and_parts ((run []).valid r) (valid_all run ([] ++ r ∷ []) rs) valid in
    let g = given [] r v.0 in
    (omega arith, (let w = g.within in omega (arith, w)), named_from r g.bounds, rise_after [] r rs g.bounds.last v.1)

-- runs that are valid are maximal and in ascending order
pub runs_rise : (rs : List Run) → runs.valid rs ≡ true → Rises run_shape 0 rs
unfolding runs counted
runs_rise rs valid =
    let v = and_parts ((number 8).valid (length rs)) (eqb (length rs) (length rs) && valid_all run [] rs) valid in
    all_rise rs (and_parts (eqb (length rs) (length rs)) (valid_all run [] rs) v.1).1

-- ---- values

pub value_after_last : (front : List ℤ) (y z : ℤ) → is_greater (front ++ y ∷ []) z ≡ is_lt (int_cmp y z)
value_after_last front y z =
    ap (λ (b : Bool). b || is_lt (int_cmp (get_or (front ++ y ∷ []) (length (front ++ y ∷ []) - 1) z) z)) (has_some front y)
    ∙ ap (λ (x : ℤ). is_lt (int_cmp x z)) (last_is front y z)

all_above : (y z : ℤ) (zs : List ℤ) → int_cmp y z ≡ Less → AllByRecursion (λ x. int_cmp z x ≡ Less) zs → AllByRecursion (λ x. int_cmp y x ≡ Less) zs
all_above y z [] less all = tt
all_above y z (x ∷ zs) less all = (int_cmp_total.trans y z x less all.0, all_above y z zs less all.1)

ascend_after : (front : List ℤ) (y : ℤ) (zs : List ℤ) → valid_all value (front ++ y ∷ []) zs ≡ true → AllByRecursion (λ x. int_cmp y x ≡ Less) zs × IsStrictlySortedBy int_cmp zs
unfolding valid_all value IsStrictlySortedBy
ascend_after front y [] valid = (tt, tt)
ascend_after front y (z ∷ zs) valid =
    let v = and_parts ((signed 64).valid z && is_greater (front ++ y ∷ []) z) (valid_all value ((front ++ y ∷ []) ++ z ∷ []) zs) valid in
    let w = and_parts ((signed 64).valid z) (is_greater (front ++ y ∷ []) z) v.0 in
    let less = is_less (int_cmp y z) (sym (value_after_last front y z) ∙ w.1) in
    let rest = ascend_after (front ++ y ∷ []) z zs v.1 in
    ((less, all_above y z zs less rest.0), (rest.0, rest.1))

all_ascend : (zs : List ℤ) → valid_all value [] zs ≡ true → IsStrictlySortedBy int_cmp zs
unfolding valid_all IsStrictlySortedBy
all_ascend [] valid = tt
all_ascend (z ∷ zs) valid =
    let v = and_parts ((value []).valid z) (valid_all value ([] ++ z ∷ []) zs) valid in
    ascend_after [] z zs v.1

-- values that are valid ascend
pub values_ascend : (zs : List ℤ) → values.valid zs ≡ true → IsStrictlySortedBy int_cmp zs
unfolding values counted
values_ascend zs valid =
    let v = and_parts ((number 8).valid (length zs)) (eqb (length zs) (length zs) && valid_all value [] zs) valid in
    all_ascend zs (and_parts (eqb (length zs) (length zs)) (valid_all value [] zs) v.1).1
