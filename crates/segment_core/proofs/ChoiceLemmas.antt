-- The first coding of fewest bytes is found by comparing one after another.
use Rattle.std.proofs.Common.{◌≡◌, ℕ, ◌<◌, ◌≤◌, ◌⊎◌, inl, inr, ◌*◌, ◌/◌, length, Bool, true, false, nat_lt, cond, ℤ, List, Option, IsSome, is_some, IsTrue, ◌↔◌, refl, sym, ◌∙◌, ap, subst, arith}
use Rattle.std.proofs.lemmas.Bool.{cases_lt}
use Rattle.std.proofs.lemmas.Bool.Decides.{nat_tests}
use Rattle.transpose_order.specs.Place.{IsLaneWidth}
use Rattle.run_dictionary.specs.Dict.{distinct}
use Rattle.run_dictionary.proofs.DictLemmas.{some_distinct}
use Rattle.segment_core.specs.Choice.{fewer, first_fewest, choice, least_bytes, place_in_order, IsFirstFewest}
use Rattle.segment_core.specs.declared.coding.Coding.{Coding}
use Rattle.segment_core.specs.declared.coding.Coding.TheVariants.{For, Delta, Runs, Dict}

-- ---- one comparison
pub record IsFewer (bytes : Coding → ℕ) (earlier later chosen : Coding) : Type 0 where
  pub below_earlier : bytes chosen ≤ bytes earlier
  pub below_later : bytes chosen ≤ bytes later
  pub which : ((chosen ≡ earlier) × (bytes earlier ≤ bytes later)) ⊎ ((chosen ≡ later) × (bytes later < bytes earlier))

fewer_at : (bytes : Coding → ℕ) (earlier later : Coding) (b : Bool) → nat_lt (bytes later) (bytes earlier) ≡ b → IsFewer bytes earlier later (cond b later earlier)
fewer_at bytes earlier later true e = let h : bytes later < bytes earlier = grind (arith, nat_tests) in record { below_earlier = omega arith; below_later = omega arith; which = inr (refl, h) }
fewer_at bytes earlier later false e = let h : bytes earlier ≤ bytes later = grind (arith, nat_tests) in record { below_earlier = omega arith; below_later = h; which = inl (refl, h) }

pub fewer_is : (bytes : Coding → ℕ) (earlier later : Coding) → IsFewer bytes earlier later (fewer bytes earlier later)
fewer_is bytes earlier later = fewer_at bytes earlier later (nat_lt (bytes later) (bytes earlier)) refl

pub bytes_of_fewer : (bytes : Coding → ℕ) (earlier later : Coding) (b : Bool) → bytes (cond b later earlier) ≡ cond b (bytes later) (bytes earlier)
bytes_of_fewer bytes earlier later true = refl
bytes_of_fewer bytes earlier later false = refl

-- ---- three comparisons
abbrev of_two : (Coding → ℕ) → Coding
of_two bytes = fewer bytes For Delta

abbrev of_three : (Coding → ℕ) → Coding
of_three bytes = fewer bytes (of_two bytes) Runs

abbrev of_four : (Coding → ℕ) → Coding
of_four bytes = fewer bytes (of_three bytes) Dict

record Bounds (bytes : Coding → ℕ) (chosen : Coding) : Type 0 where
  frame : bytes chosen ≤ bytes For
  deltas : bytes chosen ≤ bytes Delta
  runs : bytes chosen ≤ bytes Runs
  dictionary : bytes chosen ≤ bytes Dict

bounds : (bytes : Coding → ℕ) → Bounds bytes (of_four bytes)
bounds bytes =
    let a = fewer_is bytes For Delta in
    let b = fewer_is bytes (of_two bytes) Runs in
    let c = fewer_is bytes (of_three bytes) Dict in
    record { frame = omega arith; deltas = omega arith; runs = omega arith; dictionary = c.below_later }

fewest_of : (bytes : Coding → ℕ) (chosen : Coding) → Bounds bytes chosen → (other : Coding) → bytes chosen ≤ bytes other
fewest_of bytes chosen b For = b.frame
fewest_of bytes chosen b Delta = b.deltas
fewest_of bytes chosen b Runs = b.runs
fewest_of bytes chosen b Dict = b.dictionary

-- each coding that comes before the chosen one takes more bytes
abbrev IsFirst : (Coding → ℕ) → Coding → Type 0
IsFirst bytes chosen = (other : Coding) → place_in_order other < place_in_order chosen → bytes chosen < bytes other

still_first : (bytes : Coding → ℕ) (earlier later chosen : Coding) → IsFewer bytes earlier later chosen → IsFirst bytes earlier → ((other : Coding) → place_in_order other < place_in_order later → bytes earlier ≤ bytes other) → ((chosen ≡ earlier) × (bytes earlier ≤ bytes later)) ⊎ ((chosen ≡ later) × (bytes later < bytes earlier)) → IsFirst bytes chosen
still_first bytes earlier later chosen h first below (inl w) = subst (λ (x : Coding). IsFirst bytes x) (sym w.0) first
still_first bytes earlier later chosen h first below (inr w) =
    subst (λ (x : Coding). IsFirst bytes x) (sym w.0) (λ other l. let b = below other l in let a = w.1 in omega arith)

below_frame : (bytes : Coding → ℕ) (other : Coding) → place_in_order other < 1 → bytes For ≤ bytes other
below_frame bytes For h = omega arith
below_frame bytes Delta h = absurd (omega arith)
below_frame bytes Runs h = absurd (omega arith)
below_frame bytes Dict h = absurd (omega arith)

below_two : (bytes : Coding → ℕ) (other : Coding) → place_in_order other < 2 → bytes (of_two bytes) ≤ bytes other
below_two bytes For h = (fewer_is bytes For Delta).below_earlier
below_two bytes Delta h = (fewer_is bytes For Delta).below_later
below_two bytes Runs h = absurd (omega arith)
below_two bytes Dict h = absurd (omega arith)

below_three : (bytes : Coding → ℕ) (other : Coding) → place_in_order other < 3 → bytes (of_three bytes) ≤ bytes other
below_three bytes For h = let a = fewer_is bytes For Delta in let b = fewer_is bytes (of_two bytes) Runs in omega arith
below_three bytes Delta h = let a = fewer_is bytes For Delta in let b = fewer_is bytes (of_two bytes) Runs in omega arith
below_three bytes Runs h = (fewer_is bytes (of_two bytes) Runs).below_later
below_three bytes Dict h = absurd (omega arith)

first_of_two : (bytes : Coding → ℕ) → IsFirst bytes (of_two bytes)
first_of_two bytes =
    let a = fewer_is bytes For Delta in
    still_first bytes For Delta (of_two bytes) a (λ other h. absurd (omega arith)) (below_frame bytes) a.which

first_of_three : (bytes : Coding → ℕ) → IsFirst bytes (of_three bytes)
first_of_three bytes =
    let a = fewer_is bytes (of_two bytes) Runs in
    still_first bytes (of_two bytes) Runs (of_three bytes) a (first_of_two bytes) (below_two bytes) a.which

first_of_four : (bytes : Coding → ℕ) → IsFirst bytes (of_four bytes)
first_of_four bytes =
    let a = fewer_is bytes (of_three bytes) Dict in
    still_first bytes (of_three bytes) Dict (of_four bytes) a (first_of_three bytes) (below_three bytes) a.which

pub first_fewest_is : (bytes : Coding → ℕ) → IsFirstFewest bytes (first_fewest bytes)
unfolding first_fewest
first_fewest_is bytes = record { fewest = fewest_of bytes (of_four bytes) (bounds bytes); first = first_of_four bytes }

pub choice_is_first_fewest : (t : ℕ) (values : List ℤ) → IsFirstFewest (least_bytes t values) (choice t values)
unfolding choice
choice_is_first_fewest t values = first_fewest_is (least_bytes t values)

-- ---- a candidate with its bytes, compared with a later one
pub record Holds (bytes : Coding → ℕ) (best : Coding) (count : ℕ) (wanted : Coding) : Type 0 where
  pub coding : best ≡ wanted
  pub count_is : count ≡ bytes wanted

pub compared : (bytes : Coding → ℕ) (best wanted later made : Coding) (count more after : ℕ) → Holds bytes best count wanted → more ≡ bytes later → made ≡ cond (nat_lt more count) later best → after ≡ cond (nat_lt more count) more count → Holds bytes made after (fewer bytes wanted later)
compared bytes best wanted later made count more after h m e f =
    let test : nat_lt more count ≡ nat_lt (bytes later) (bytes wanted) = let i = h.count_is in cc in
    record {
      coding = e ∙ ap (λ b. cond b later best) test ∙ ap (λ (x : Coding). cond (nat_lt (bytes later) (bytes wanted)) later x) h.coding;
      count_is = f ∙ (let i = h.count_is in let r : cond (nat_lt more count) more count ≡ cond (nat_lt (bytes later) (bytes wanted)) (bytes later) (bytes wanted) = cc in r) ∙ sym (bytes_of_fewer bytes wanted later (nat_lt (bytes later) (bytes wanted)));
    }

none_at : (found : Option ℕ) (more count : ℕ) → (IsSome found ↔ (more < count)) → is_some found ≡ false → (b : Bool) → nat_lt more count ≡ b → false ≡ b
none_at found more count h e true f = absurd (let l : more < count = grind (arith, nat_tests) in let s = h.1 l in cc)
none_at found more count h e false f = refl

some_at : (found : Option ℕ) (more count : ℕ) (b : Bool) → (IsSome found ↔ (more < count)) → is_some found ≡ b → b ≡ nat_lt more count
some_at found more count true h e = let l = h.0 e in grind (arith, nat_tests)
some_at found more count false h e = none_at found more count h e (nat_lt more count) refl

-- the dictionary is chosen exactly where its bytes are found to be fewer
pub dictionary_is : (bytes : Coding → ℕ) (best : Coding) (count : ℕ) (chosen : Coding) (found : Option ℕ) → Holds bytes best count (of_three bytes) → chosen ≡ cond (is_some found) Dict best → (IsSome found ↔ (bytes Dict < count)) → chosen ≡ first_fewest bytes
unfolding first_fewest
dictionary_is bytes best count chosen found h e below =
    e ∙ ap (λ b. cond b Dict best) (some_at found (bytes Dict) count (is_some found) below refl)
    ∙ ap (λ n. cond (nat_lt (bytes Dict) n) Dict best) h.count_is
    ∙ ap (λ (x : Coding). cond (nat_lt (bytes Dict) (bytes (of_three bytes))) Dict x) h.coding

-- a frame is chosen at once where no other coding takes fewer bytes
pub frame_is_first : (bytes : Coding → ℕ) → bytes For ≤ bytes Delta → bytes For ≤ bytes Runs → bytes For ≤ bytes Dict → first_fewest bytes ≡ For
unfolding first_fewest
frame_is_first bytes a b c =
    let one : nat_lt (bytes Delta) (bytes For) ≡ false = grind (arith, nat_tests) in
    let two : nat_lt (bytes Runs) (bytes For) ≡ false = grind (arith, nat_tests) in
    let three : nat_lt (bytes Dict) (bytes For) ≡ false = grind (arith, nat_tests) in
    ap (λ x. fewer bytes (fewer bytes (cond x Delta For) Runs) Dict) one
    ∙ ap (λ x. fewer bytes (cond x Runs For) Dict) two
    ∙ ap (λ x. cond x Dict For) three

some_values : (t n : ℕ) → IsLaneWidth t → 1 ≤ n → t / 8 ≤ n * t / 8
some_values t n w some = elim w [
  | inl is ↦ rw is (omega (arith, some))
  | inr (inl is) ↦ rw is (omega (arith, some))
  | inr (inr (inl is)) ↦ rw is (omega (arith, some))
  | inr (inr (inr is)) ↦ rw is (omega (arith, some))
]

-- no coding takes fewer bytes than a frame without packed values
pub bare_frame_is_first : (t : ℕ) (values : List ℤ) → IsLaneWidth t → length values ≡ 1024 → least_bytes t values For ≡ t / 8 → first_fewest (least_bytes t values) ≡ For
bare_frame_is_first t values w long bare =
    let some = some_values t (length (distinct values)) w (some_distinct values (omega (arith, long))) in
    let small : t / 8 ≤ 128 = elim w [
      | inl is ↦ rw is (omega arith)
      | inr (inl is) ↦ rw is (omega arith)
      | inr (inr (inl is)) ↦ rw is (omega arith)
      | inr (inr (inr is)) ↦ rw is (omega arith)
    ] in
    frame_is_first (least_bytes t values) (omega (arith, bare)) (omega (arith, bare, small)) (omega (arith, bare, some))

-- ---- the first coding of fewest bytes is the only one that is
unique_at : (a b : Coding) → (place_in_order a < place_in_order b → ⊥) → (place_in_order b < place_in_order a → ⊥) → a ≡ b
unique_at For For l m = refl
unique_at For Delta l m = absurd (l (omega arith))
unique_at For Runs l m = absurd (l (omega arith))
unique_at For Dict l m = absurd (l (omega arith))
unique_at Delta For l m = absurd (m (omega arith))
unique_at Delta Delta l m = refl
unique_at Delta Runs l m = absurd (l (omega arith))
unique_at Delta Dict l m = absurd (l (omega arith))
unique_at Runs For l m = absurd (m (omega arith))
unique_at Runs Delta l m = absurd (m (omega arith))
unique_at Runs Runs l m = refl
unique_at Runs Dict l m = absurd (l (omega arith))
unique_at Dict For l m = absurd (m (omega arith))
unique_at Dict Delta l m = absurd (m (omega arith))
unique_at Dict Runs l m = absurd (m (omega arith))
unique_at Dict Dict l m = refl

only_first : (bytes : Coding → ℕ) (a b : Coding) → IsFirstFewest bytes a → IsFirstFewest bytes b → place_in_order a < place_in_order b → ⊥
only_first bytes a b f g l = let less = g.first a l in let most = f.fewest b in omega arith

first_fewest_only : (bytes : Coding → ℕ) (a b : Coding) → IsFirstFewest bytes a → IsFirstFewest bytes b → a ≡ b
first_fewest_only bytes a b f g = unique_at a b (only_first bytes a b f g) (only_first bytes b a g f)

-- a coding is chosen exactly where none takes fewer bytes and each before it takes more
pub chosen_is : (bytes : Coding → ℕ) (coding : Coding) → (first_fewest bytes ≡ coding) ↔ IsFirstFewest bytes coding
chosen_is bytes coding = (
  λ e. subst (λ (x : Coding). IsFirstFewest bytes x) e (first_fewest_is bytes),
  λ h. first_fewest_only bytes (first_fewest bytes) coding (first_fewest_is bytes) h,
)

-- ---- each coding by its three comparisons
each_fewest : (bytes : Coding → ℕ) (chosen : Coding) → bytes chosen ≤ bytes For → bytes chosen ≤ bytes Delta → bytes chosen ≤ bytes Runs → bytes chosen ≤ bytes Dict → (other : Coding) → bytes chosen ≤ bytes other
each_fewest bytes chosen a b c d For = a
each_fewest bytes chosen a b c d Delta = b
each_fewest bytes chosen a b c d Runs = c
each_fewest bytes chosen a b c d Dict = d

before_deltas : (bytes : Coding → ℕ) (n : ℕ) → n < bytes For → (other : Coding) → place_in_order other < 1 → n < bytes other
before_deltas bytes n a For l = a
before_deltas bytes n a Delta l = absurd (omega arith)
before_deltas bytes n a Runs l = absurd (omega arith)
before_deltas bytes n a Dict l = absurd (omega arith)

before_runs : (bytes : Coding → ℕ) (n : ℕ) → n < bytes For → n < bytes Delta → (other : Coding) → place_in_order other < 2 → n < bytes other
before_runs bytes n a b For l = a
before_runs bytes n a b Delta l = b
before_runs bytes n a b Runs l = absurd (omega arith)
before_runs bytes n a b Dict l = absurd (omega arith)

before_dictionary : (bytes : Coding → ℕ) (n : ℕ) → n < bytes For → n < bytes Delta → n < bytes Runs → (other : Coding) → place_in_order other < 3 → n < bytes other
before_dictionary bytes n a b c For l = a
before_dictionary bytes n a b c Delta l = b
before_dictionary bytes n a b c Runs l = c
before_dictionary bytes n a b c Dict l = absurd (omega arith)

-- FOR is chosen where no other takes fewer bytes
pub frame_chosen : (bytes : Coding → ℕ) → (first_fewest bytes ≡ For) ↔ ((bytes For ≤ bytes Delta) × (bytes For ≤ bytes Runs) × (bytes For ≤ bytes Dict))
frame_chosen bytes = (
  λ e. let h = (chosen_is bytes For).0 e in (h.fewest Delta, h.fewest Runs, h.fewest Dict),
  λ h. (chosen_is bytes For).1 (record { fewest = each_fewest bytes For (omega arith) h.0 h.1 h.2; first = λ other l. absurd (omega arith) }),
)

-- DELTA is chosen where FOR takes more bytes and no other fewer
pub deltas_chosen : (bytes : Coding → ℕ) → (first_fewest bytes ≡ Delta) ↔ ((bytes Delta < bytes For) × (bytes Delta ≤ bytes Runs) × (bytes Delta ≤ bytes Dict))
deltas_chosen bytes = (
  λ e. let h = (chosen_is bytes Delta).0 e in (h.first For (omega arith), h.fewest Runs, h.fewest Dict),
  λ h. (chosen_is bytes Delta).1 (record { fewest = each_fewest bytes Delta (omega (arith, h.0)) (omega arith) h.1 h.2; first = before_deltas bytes (bytes Delta) h.0 }),
)

-- RLE is chosen where FOR and DELTA take more bytes and DICT no fewer
pub runs_chosen : (bytes : Coding → ℕ) → (first_fewest bytes ≡ Runs) ↔ ((bytes Runs < bytes For) × (bytes Runs < bytes Delta) × (bytes Runs ≤ bytes Dict))
runs_chosen bytes = (
  λ e. let h = (chosen_is bytes Runs).0 e in (h.first For (omega arith), h.first Delta (omega arith), h.fewest Dict),
  λ h. (chosen_is bytes Runs).1 (record { fewest = each_fewest bytes Runs (omega (arith, h.0)) (omega (arith, h.1)) (omega arith) h.2; first = before_runs bytes (bytes Runs) h.0 h.1 }),
)

-- DICT is chosen where each other takes more bytes
pub dictionary_chosen : (bytes : Coding → ℕ) → (first_fewest bytes ≡ Dict) ↔ ((bytes Dict < bytes For) × (bytes Dict < bytes Delta) × (bytes Dict < bytes Runs))
dictionary_chosen bytes = (
  λ e. let h = (chosen_is bytes Dict).0 e in (h.first For (omega arith), h.first Delta (omega arith), h.first Runs (omega arith)),
  λ h. (chosen_is bytes Dict).1 (record { fewest = each_fewest bytes Dict (omega (arith, h.0)) (omega (arith, h.1)) (omega (arith, h.2)) (omega arith); first = before_dictionary bytes (bytes Dict) h.0 h.1 h.2 }),
)

-- ---- the same of values
pub choice_of_frame : (t : ℕ) (values : List ℤ) → (choice t values ≡ For) ↔ ((least_bytes t values For ≤ least_bytes t values Delta) × (least_bytes t values For ≤ least_bytes t values Runs) × (least_bytes t values For ≤ least_bytes t values Dict))
unfolding choice
choice_of_frame t values = frame_chosen (least_bytes t values)

pub choice_of_deltas : (t : ℕ) (values : List ℤ) → (choice t values ≡ Delta) ↔ ((least_bytes t values Delta < least_bytes t values For) × (least_bytes t values Delta ≤ least_bytes t values Runs) × (least_bytes t values Delta ≤ least_bytes t values Dict))
unfolding choice
choice_of_deltas t values = deltas_chosen (least_bytes t values)

pub choice_of_runs : (t : ℕ) (values : List ℤ) → (choice t values ≡ Runs) ↔ ((least_bytes t values Runs < least_bytes t values For) × (least_bytes t values Runs < least_bytes t values Delta) × (least_bytes t values Runs ≤ least_bytes t values Dict))
unfolding choice
choice_of_runs t values = runs_chosen (least_bytes t values)

pub choice_of_dictionary : (t : ℕ) (values : List ℤ) → (choice t values ≡ Dict) ↔ ((least_bytes t values Dict < least_bytes t values For) × (least_bytes t values Dict < least_bytes t values Delta) × (least_bytes t values Dict < least_bytes t values Runs))
unfolding choice
choice_of_dictionary t values = dictionary_chosen (least_bytes t values)

-- what is not below a bound is at least the bound
pub at_least : (b : Bool) (bytes bound : ℕ) → (IsTrue b ↔ (bytes < bound)) → b ≡ false → bound ≤ bytes
at_least b bytes bound h e = by_order (cases_lt bytes bound)
  where
    by_order : (bytes < bound) ⊎ (bound ≤ bytes) → bound ≤ bytes
    by_order (inl l) = absurd (let t : b ≡ true = h.1 l in cc)
    by_order (inr l) = l
