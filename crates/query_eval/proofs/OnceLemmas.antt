-- Each set function and each grouping column that is mentioned is there.
use Rattle.std.proofs.Common.{◌≡◌, ℕ, ◌==◌, Bool, true, false, cond, ◌||◌, List, [], ◌∷◌, ◌++◌, fold, refl, sym, ap, subst, ◌∙◌}
use Rattle.std.specs.List.{list_any}
use Rattle.std.proofs.lemmas.Bool.{false≢true, or_right}
use Rattle.std.proofs.lemmas.Bool.Decides.{Decides-eqb}
use Rattle.std.proofs.lemmas.List.Folds.{list_any-append}
use Rattle.query_eval.specs.Aggregate.{same_aggregate}
use Rattle.query_eval.specs.Once.{aggregates_once, places_once, with_aggregate, with_place}
use Rattle.query_eval.specs.declared.tallies.aggregate.Aggregate.{Aggregate}
use Rattle.query_eval.proofs.FinishLemmas.{one_aggregate, itself_aggregate}

-- ---- each set function that is mentioned is there
abbrev IsThere : List Aggregate → Aggregate → Type 0
IsThere aggregates a = list_any (same_aggregate a) aggregates ≡ true

or_left : (a b : Bool) → a ≡ true → (a || b) ≡ true
or_left a b e = ap (λ c. c || b) e

kept_there : (before : List Aggregate) (a m : Aggregate) → IsThere before a → IsThere (with_aggregate before m) a
kept_there before a m h =
    elim (list_any (same_aggregate m) before) as (λ b. IsThere (cond b before (before ++ m ∷ [])) a) [
      | true ↦ h
      | false ↦ list_any-append (same_aggregate a) before (m ∷ []) ∙ or_left (list_any (same_aggregate a) before) _ h
    ]

put_there : (before : List Aggregate) (m : Aggregate) → IsThere (with_aggregate before m) m
put_there before m =
    elim (list_any (same_aggregate m) before) as (λ b. list_any (same_aggregate m) before ≡ b → IsThere (cond b before (before ++ m ∷ [])) m) [
      | true ↦ λ e. e
      | false ↦ λ e. list_any-append (same_aggregate m) before (m ∷ []) ∙ or_right (list_any (same_aggregate m) before) _ (or_left (same_aggregate m m) false (itself_aggregate m))
    ] refl

stays : (rest before : List Aggregate) (a : Aggregate) → IsThere before a → IsThere (fold with_aggregate before rest) a
stays [] before a h = h
stays (m ∷ rest) before a h = stays rest (with_aggregate before m) a (kept_there before a m h)

comes : (rest before : List Aggregate) (a : Aggregate) → list_any (same_aggregate a) rest ≡ true → IsThere (fold with_aggregate before rest) a
comes [] before a h = absurd (false≢true h)
comes (b ∷ rest) before a h = by_test (comes rest (with_aggregate before b) a) (same_aggregate a b) refl
  where
    by_test : (list_any (same_aggregate a) rest ≡ true → IsThere (fold with_aggregate before (b ∷ rest)) a) → (t : Bool) → same_aggregate a b ≡ t → IsThere (fold with_aggregate before (b ∷ rest)) a
    by_test later true e = stays rest (with_aggregate before b) a (subst (λ (x : Aggregate). IsThere (with_aggregate before b) x) (sym (one_aggregate a b e)) (put_there before b))
    by_test later false e = later (ap (λ t. t || list_any (same_aggregate a) rest) (sym e) ∙ h)

pub named-once : (aggregates : List Aggregate) (a : Aggregate) → list_any (same_aggregate a) aggregates ≡ true → list_any (same_aggregate a) (aggregates_once aggregates) ≡ true
unfolding aggregates_once
named-once aggregates a h = comes aggregates [] a h

-- ---- a place is there exactly where it was mentioned
abbrev pub is_in : ℕ → List ℕ → Bool
is_in p places = list_any (λ other. other == p) places

or_nil : (a : Bool) → a ≡ (a || false)
or_nil true = refl
or_nil false = refl

or_joined : (a b c : Bool) → ((a || b) || c) ≡ (a || (b || c))
or_joined true b c = refl
or_joined false b c = refl

again : (before : List ℕ) (p c : ℕ) (t : Bool) → (p == c) ≡ t → is_in p before ≡ true → is_in c before ≡ (is_in c before || (p == c))
again before p c true e h =
    let here : is_in c before ≡ true = subst (λ (x : ℕ). is_in x before ≡ true) ((Decides-eqb p c).0 e) h in
    here ∙ sym (ap (λ b. b || (p == c)) here)
again before p c false e h = or_nil (is_in c before) ∙ ap (λ b. is_in c before || b) (sym e)

with_in : (before : List ℕ) (p c : ℕ) → is_in c (with_place before p) ≡ (is_in c before || (p == c))
with_in before p c =
    elim (is_in p before) as (λ b. is_in p before ≡ b → is_in c (cond b before (before ++ p ∷ [])) ≡ (is_in c before || (p == c))) [
      | true ↦ λ e. again before p c (p == c) refl e
      | false ↦ λ e. list_any-append (λ other. other == c) before (p ∷ []) ∙ ap (λ b. is_in c before || b) (sym (or_nil (p == c)))
    ] refl

all_in : (rest before : List ℕ) (c : ℕ) → is_in c (fold with_place before rest) ≡ (is_in c before || is_in c rest)
all_in [] before c = or_nil (is_in c before)
all_in (p ∷ rest) before c = all_in rest (with_place before p) c ∙ ap (λ b. b || is_in c rest) (with_in before p c) ∙ or_joined (is_in c before) (p == c) (is_in c rest)

pub in-once : (places : List ℕ) (c : ℕ) → is_in c (places_once places) ≡ is_in c places
unfolding places_once
in-once places c = all_in places [] c
