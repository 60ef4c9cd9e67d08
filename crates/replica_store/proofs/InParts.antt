-- Batches in two parts by an own origin: what is in order, found, put in, merged and put into another coding there.
use Rattle.std.specs.Prelude.{◌≡◌, ℕ, zero, suc, ◌+◌, ◌<◌, ◌≤◌, ◌-◌, ◌==◌, true, false, cond, nat_lt, T, List, [], ◌∷◌, ◌++◌, length, take, drop, slice_get, slice_set, Option, Some, None, Result}
use Rattle.std.proofs.Common.{refl, sym, ap, subst, ◌∙◌, arith, inl, inr, get_or, Less}
use Rattle.std.proofs.lemmas.Bool.Decides.{nat_tests}
use Rattle.std.proofs.lemmas.List.{get_or-drop, get_or-take, length-append, length-drop, length-take-le, get_or_append_left, get_or-append-add}
use Rattle.std.proofs.lemmas.List.Edits.{insert-append_left, insert-append_right}
use Rattle.std.specs.List.{All, insert}
use Rattle.std.specs.Ordering.{is_lt, is_eq, eq_by_cmp}
use Rattle.std.specs.FinMap as map
use Rattle.std.specs.FinMap.Entries.{is_sorted, below_all}
use Rattle.std.specs.FinSet as set
use Rattle.table_model.specs.Name.{name_cmp}
use Rattle.table_model.specs.State.{Batch}
use Rattle.table_model.specs.declared.names.BatchName.{BatchName}
use Rattle.table_model.specs.declared.names.Origin.{Origin}
use Rattle.table_model.specs.declared.refusal.Refusal.{Refusal}
use Rattle.table_model.proofs.Joins.{or_else, find-append}
use Rattle.segment_core.specs.Segment.{SegmentForm}
use Rattle.segment_core.specs.declared.coding.Coding.{Coding}
use Rattle.replica_store.specs.Entries.{count_below, merge}
use Rattle.replica_store.specs.Parted.{Each, IsUpTo, IsPast, AreParted}
use Rattle.replica_store.specs.Replica.{lacked_by, differs}
use Rattle.replica_store.specs.Segments.{Entry, RecodesEntries, conflict_in}
use Rattle.replica_store.proofs.Maps.{Sorted}
use Rattle.replica_store.proofs.Merges.{merge-nil}
use Rattle.replica_store.proofs.Numbers.{is_up_to}
use Rattle.replica_store.proofs.Places.{first_of_both, second_of_both, both_of, count_below-le}

-- an origin up to the own one comes before one past it
apart : (own : Origin) (a b : BatchName) → IsUpTo own a → IsPast own b → name_cmp a b ≡ Less
apart own a b up past = let less : nat_lt a.origin.0 b.origin.0 ≡ true = grind (arith, nat_tests) in cc

not_below : (own : Origin) (a b : BatchName) → IsUpTo own a → IsPast own b → is_lt (name_cmp b a) ≡ false
not_below own a b up past =
    let less : nat_lt b.origin.0 a.origin.0 ≡ false = grind (arith, nat_tests) in
    let other : (b.origin.0 == a.origin.0) ≡ false = grind (arith, nat_tests) in cc

unequal : (own : Origin) (a b : BatchName) → IsUpTo own a → IsPast own b → eq_by_cmp name_cmp a b ≡ false
unequal own a b up past = ap is_eq (apart own a b up past)

turned_unequal : (own : Origin) (a b : BatchName) → IsUpTo own a → IsPast own b → eq_by_cmp name_cmp b a ≡ false
turned_unequal own a b up past =
    let less : nat_lt b.origin.0 a.origin.0 ≡ false = grind (arith, nat_tests) in
    let other : (b.origin.0 == a.origin.0) ≡ false = grind (arith, nat_tests) in cc

module _ {X : Type 0} where
  below_front : (x : BatchName) (es fs : List (BatchName × X)) → T (below_all name_cmp x (es ++ fs)) → T (below_all name_cmp x es)
  below_front x [] fs h = tt
  below_front x (e ∷ es) fs h =
      both_of (is_lt (name_cmp x e.0)) (below_all name_cmp x es) (first_of_both (is_lt (name_cmp x e.0)) (below_all name_cmp x (es ++ fs)) h)
      (below_front x es fs (second_of_both (is_lt (name_cmp x e.0)) (below_all name_cmp x (es ++ fs)) h))

  -- both parts of what is in order are in order
  pub Sorted-front : (es fs : List (BatchName × X)) → Sorted (es ++ fs) → Sorted es
  Sorted-front [] fs h = tt
  Sorted-front (e ∷ es) fs h =
      both_of (below_all name_cmp e.0 es) (is_sorted name_cmp es) (below_front e.0 es fs (first_of_both (below_all name_cmp e.0 (es ++ fs)) (is_sorted name_cmp (es ++ fs)) h))
      (Sorted-front es fs (second_of_both (below_all name_cmp e.0 (es ++ fs)) (is_sorted name_cmp (es ++ fs)) h))

  pub Sorted-back : (es fs : List (BatchName × X)) → Sorted (es ++ fs) → Sorted fs
  Sorted-back [] fs h = h
  Sorted-back (e ∷ es) fs h = Sorted-back es fs (second_of_both (below_all name_cmp e.0 (es ++ fs)) (is_sorted name_cmp (es ++ fs)) h)

  none_past : (own : Origin) (q : BatchName) (fs : List (BatchName × X)) → IsUpTo own q → Each (IsPast own) fs → map.find name_cmp q fs ≡ None
  none_past own q [] up past = refl
  none_past own q (f ∷ fs) up past = ap (λ b. cond b (Some f.1) (map.find name_cmp q fs)) (unequal own q f.0 up past.0) ∙ none_past own q fs up past.1

  none_up_to : (own : Origin) (q : BatchName) (es : List (BatchName × X)) → IsPast own q → Each (IsUpTo own) es → map.find name_cmp q es ≡ None
  none_up_to own q [] past up = refl
  none_up_to own q (e ∷ es) past up = ap (λ b. cond b (Some e.1) (map.find name_cmp q es)) (turned_unequal own e.0 q up.0 past) ∙ none_up_to own q es past up.1

  or_none : (o : Option X) → or_else o None ≡ o
  or_none None = refl
  or_none (Some v) = refl

  -- a name is found in the part that may have it
  pub find-up_to : (own : Origin) (q : BatchName) (es fs : List (BatchName × X)) → IsUpTo own q → Each (IsPast own) fs → map.find name_cmp q (es ++ fs) ≡ map.find name_cmp q es
  find-up_to own q es fs up past = find-append es fs q ∙ ap (or_else (map.find name_cmp q es)) (none_past own q fs up past) ∙ or_none (map.find name_cmp q es)

  pub find-past : (own : Origin) (q : BatchName) (es fs : List (BatchName × X)) → IsPast own q → Each (IsUpTo own) es → map.find name_cmp q (es ++ fs) ≡ map.find name_cmp q fs
  find-past own q es fs past up = find-append es fs q ∙ ap (λ o. or_else o (map.find name_cmp q fs)) (none_up_to own q es past up)

  below_none : (own : Origin) (q : BatchName) (fs : List (BatchName × X)) → IsUpTo own q → Each (IsPast own) fs → count_below name_cmp q fs ≡ 0
  below_none own q [] up past = refl
  below_none own q (f ∷ fs) up past = ap (λ b. cond b (suc (count_below name_cmp q fs)) 0) (not_below own q f.0 up past.0)

  below_up_to : (own : Origin) (q : BatchName) (es fs : List (BatchName × X)) → IsUpTo own q → Each (IsPast own) fs → count_below name_cmp q (es ++ fs) ≡ count_below name_cmp q es
  below_up_to own q [] fs up past = below_none own q fs up past
  below_up_to own q (e ∷ es) fs up past = ap (λ n. cond (is_lt (name_cmp e.0 q)) (suc n) 0) (below_up_to own q es fs up past)

  below_past : (own : Origin) (q : BatchName) (es fs : List (BatchName × X)) → IsPast own q → Each (IsUpTo own) es → count_below name_cmp q (es ++ fs) ≡ length es + count_below name_cmp q fs
  below_past own q [] fs past up = omega arith
  below_past own q (e ∷ es) fs past up =
      let rest = below_past own q es fs past up.1 in
      ap (λ r. cond (is_lt r) (suc (count_below name_cmp q (es ++ fs))) 0) (apart own e.0 q up.0 past) ∙ omega (arith, rest)

  -- a batch that goes into its part goes in at its place among all
  pub insert-up_to : (own : Origin) (q : BatchName) (v : X) (es fs : List (BatchName × X)) → IsUpTo own q → Each (IsPast own) fs →
      insert es (count_below name_cmp q es) (q, v) ++ fs ≡ insert (es ++ fs) (count_below name_cmp q (es ++ fs)) (q, v)
  insert-up_to own q v es fs up past =
      sym (insert-append_left es fs (count_below name_cmp q es) (q, v) (count_below-le name_cmp q es))
      ∙ ap (λ i. insert (es ++ fs) i (q, v)) (sym (below_up_to own q es fs up past))

  pub insert-past : (own : Origin) (q : BatchName) (v : X) (es fs : List (BatchName × X)) → IsPast own q → Each (IsUpTo own) es →
      es ++ insert fs (count_below name_cmp q fs) (q, v) ≡ insert (es ++ fs) (count_below name_cmp q (es ++ fs)) (q, v)
  insert-past own q v es fs past up =
      let at = below_past own q es fs past up in
      let less : count_below name_cmp q (es ++ fs) - length es ≡ count_below name_cmp q fs = omega (arith, at) in
      sym (insert-append_right es fs (length es) (count_below name_cmp q (es ++ fs)) (q, v) refl (omega (arith, at)) ∙ ap (λ i. es ++ insert fs i (q, v)) less)

  pub Each-append : (P : BatchName → Type 0) (es fs : List (BatchName × X)) → Each P es → Each P fs → Each P (es ++ fs)
  Each-append P [] fs g h = h
  Each-append P (e ∷ es) fs g h = (g.0, Each-append P es fs g.1 h)

  Each-take : (P : BatchName → Type 0) (i : ℕ) (es : List (BatchName × X)) → Each P es → Each P (take i es)
  Each-take P zero [] h = tt
  Each-take P zero (e ∷ es) h = tt
  Each-take P (suc i) [] h = tt
  Each-take P (suc i) (e ∷ es) h = (h.0, Each-take P i es h.1)

  Each-drop : (P : BatchName → Type 0) (i : ℕ) (es : List (BatchName × X)) → Each P es → Each P (drop i es)
  Each-drop P zero [] h = tt
  Each-drop P zero (e ∷ es) h = h
  Each-drop P (suc i) [] h = tt
  Each-drop P (suc i) (e ∷ es) h = Each-drop P i es h.1

  pub Each-insert : (P : BatchName → Type 0) (es : List (BatchName × X)) (i : ℕ) (q : BatchName) (v : X) → Each P es → P q → Each P (insert es i (q, v))
  Each-insert P es i q v h here = Each-append P (take i es) ((q, v) ∷ drop i es) (Each-take P i es h) (here, Each-drop P i es h)

  pub Each-merge : (P : BatchName → Type 0) (es fs : List (BatchName × X)) → Each P es → Each P fs → Each P (merge name_cmp es fs)
  Each-merge P [] fs g h = h
  Each-merge P (e ∷ es) [] g h = g
  Each-merge P (e ∷ es) (f ∷ fs) g h =
      elim (is_lt (name_cmp e.0 f.0)) as (λ b. Each P (cond b (e ∷ merge name_cmp es (f ∷ fs)) (f ∷ merge name_cmp (e ∷ es) fs))) [
        | true ↦ (g.0, Each-merge P es (f ∷ fs) g.1 h)
        | false ↦ (h.0, Each-merge P (e ∷ es) fs g h.1)
      ]

  pub Each-from : (P : BatchName → Type 0) (es : List (BatchName × X)) → ((k : ℕ) (d : BatchName × X) → k < length es → P (get_or es k d).0) → Each P es
  Each-from P [] h = tt
  Each-from P (e ∷ es) h = (h 0 e (omega arith), Each-from P es (λ k d below. h (suc k) d (omega (arith, below))))

  -- the point of parting by origin parts the entries
  pub parted-at : (own : Origin) (es : List (BatchName × X)) (i : ℕ) → i ≤ length es →
      ((k : ℕ) (d : BatchName × X) → 0 ≤ k → k < i → is_up_to own (get_or es k d) ≡ true) →
      ((k : ℕ) (d : BatchName × X) → i ≤ k → k < length es → is_up_to own (get_or es k d) ≡ false) → AreParted own (take i es) (drop i es)
  parted-at own es i le before after = record {
    up_to = Each-from (IsUpTo own) (take i es) (λ k d below.
        let inside : k < i = omega (arith, below, length-take-le i es le) in
        let up = ap (is_up_to own) (get_or-take i es k d inside) ∙ before k d (omega arith) inside in grind (arith, nat_tests, up));
    past = Each-from (IsPast own) (drop i es) (λ k d below.
        let over = ap (is_up_to own) (get_or-drop i es k d) ∙ after (i + k) d (omega arith) (omega (arith, below, length-drop i es)) in grind (arith, nat_tests, over));
  }

  -- two merges by parts are one merge
  pub merge-parted : (own : Origin) (es fs xs ys : List (BatchName × X)) → Each (IsUpTo own) es → Each (IsPast own) fs → Each (IsUpTo own) xs → Each (IsPast own) ys →
      merge name_cmp es xs ++ merge name_cmp fs ys ≡ merge name_cmp (es ++ fs) (xs ++ ys)
  merge-parted own [] fs [] ys e f x y = refl
  merge-parted own [] [] (u ∷ xs) ys e f x y = refl
  merge-parted own [] (v ∷ fs) (u ∷ xs) ys e f x y =
      ap (λ (rest : List (BatchName × X)). u ∷ rest) (merge-parted own [] (v ∷ fs) xs ys e f x.1 y)
      ∙ sym (ap (λ b. cond b (v ∷ merge name_cmp fs ((u ∷ xs) ++ ys)) (u ∷ merge name_cmp (v ∷ fs) (xs ++ ys))) (not_below own u.0 v.0 x.0 f.0))
  merge-parted own (d ∷ es) fs [] [] e f x y = ap (λ (rest : List (BatchName × X)). (d ∷ es) ++ rest) (merge-nil fs)
  merge-parted own (d ∷ es) fs [] (w ∷ ys) e f x y =
      ap (λ (rest : List (BatchName × X)). d ∷ rest) (ap (λ (front : List (BatchName × X)). front ++ merge name_cmp fs (w ∷ ys)) (sym (merge-nil es)) ∙ merge-parted own es fs [] (w ∷ ys) e.1 f x y)
      ∙ sym (ap (λ r. cond (is_lt r) (d ∷ merge name_cmp (es ++ fs) (w ∷ ys)) (w ∷ merge name_cmp ((d ∷ es) ++ fs) ys)) (apart own d.0 w.0 e.0 y.0))
  merge-parted own (d ∷ es) fs (u ∷ xs) ys e f x y =
      elim (is_lt (name_cmp d.0 u.0)) as (λ b. cond b (d ∷ merge name_cmp es (u ∷ xs)) (u ∷ merge name_cmp (d ∷ es) xs) ++ merge name_cmp fs ys ≡ cond b (d ∷ merge name_cmp (es ++ fs) ((u ∷ xs) ++ ys)) (u ∷ merge name_cmp ((d ∷ es) ++ fs) (xs ++ ys))) [
        | true ↦ ap (λ (rest : List (BatchName × X)). d ∷ rest) (merge-parted own es fs (u ∷ xs) ys e.1 f x y)
        | false ↦ ap (λ (rest : List (BatchName × X)). u ∷ rest) (merge-parted own (d ∷ es) fs xs ys e f x.1 y)
      ]

  -- what is lacked of two lists
  pub lacked-append : (names : set.FinSet name_cmp) (es fs : List (BatchName × X)) → lacked_by names (es ++ fs) ≡ lacked_by names es ++ lacked_by names fs
  lacked-append names [] fs = refl
  lacked-append names (e ∷ es) fs =
      elim (set.contains names e.0) as (λ b. cond b (lacked_by names (es ++ fs)) (e ∷ lacked_by names (es ++ fs)) ≡ cond b (lacked_by names es) (e ∷ lacked_by names es) ++ lacked_by names fs) [
        | true ↦ lacked-append names es fs
        | false ↦ ap (λ (rest : List (BatchName × X)). e ∷ rest) (lacked-append names es fs)
      ]

pub get-front : (es fs : List Entry) (i : ℕ) (e : Entry) → slice_get es i ≡ Some e → slice_get (es ++ fs) i ≡ Some e
get-front [] fs i e is = cc
get-front (x ∷ es) fs zero e is = is
get-front (x ∷ es) fs (suc i) e is = get-front es fs i e is

set-front : (es fs : List Entry) (i : ℕ) (e new : Entry) → slice_get es i ≡ Some e → slice_set es i new ++ fs ≡ slice_set (es ++ fs) i new
set-front [] fs i e new is = cc
set-front (x ∷ es) fs zero e new is = refl
set-front (x ∷ es) fs (suc i) e new is = ap (λ (rest : List Entry). x ∷ rest) (set-front es fs i e new is)

pub get-back : (es fs : List Entry) (i : ℕ) → slice_get (es ++ fs) (length es + i) ≡ slice_get fs i
get-back [] fs i = ap (slice_get fs) (omega arith)
get-back (x ∷ es) fs i = let more : length (x ∷ es) + i ≡ suc (length es + i) = omega arith in ap (slice_get ((x ∷ es) ++ fs)) more ∙ get-back es fs i

set-back : (es fs : List Entry) (i : ℕ) (new : Entry) → es ++ slice_set fs i new ≡ slice_set (es ++ fs) (length es + i) new
set-back [] fs i new = ap (λ n. slice_set fs n new) (omega arith)
set-back (x ∷ es) fs i new =
    let more : suc (length es + i) ≡ length (x ∷ es) + i = omega arith in
    ap (λ (rest : List Entry). x ∷ rest) (set-back es fs i new) ∙ ap (λ n. slice_set ((x ∷ es) ++ fs) n new) more

-- a recode in one part is one among all
pub recodes-up_to : (own : Origin) (es fs new : List Entry) (result : Result (Unit {0}) Refusal) (n : BatchName) (column vector : ℕ) (coding : Coding)
    → IsUpTo own n → Each (IsPast own) fs → RecodesEntries es new result n column vector coding → RecodesEntries (es ++ fs) (new ++ fs) result n column vector coding
recodes-up_to own es fs new result n column vector coding up past (inl r) =
    inl (find-up_to own n es fs up past ∙ r.0, r.1, ap (λ (xs : List Entry). xs ++ fs) r.2)
recodes-up_to own es fs new result n column vector coding up past (inr r) =
    inr (r.0, r.1, r.2, get-front es fs r.0 (n, r.1) r.3, ap (λ (xs : List Entry). xs ++ fs) r.4 ∙ set-front es fs r.0 (n, r.1) (n, r.2) r.3, r.5, r.6, r.7)

pub recodes-past : (own : Origin) (es fs new : List Entry) (result : Result (Unit {0}) Refusal) (n : BatchName) (column vector : ℕ) (coding : Coding)
    → IsPast own n → Each (IsUpTo own) es → RecodesEntries fs new result n column vector coding → RecodesEntries (es ++ fs) (es ++ new) result n column vector coding
recodes-past own es fs new result n column vector coding past up (inl r) =
    inl (find-past own n es fs past up ∙ r.0, r.1, ap (λ (xs : List Entry). es ++ xs) r.2)
recodes-past own es fs new result n column vector coding past up (inr r) =
    inr (length es + r.0, r.1, r.2, get-back es fs r.0 ∙ r.3, ap (λ (xs : List Entry). es ++ xs) r.4 ∙ set-back es fs r.0 (n, r.2), r.5, r.6, r.7)

Each-set : (P : BatchName → Type 0) (es : List Entry) (i : ℕ) (n : BatchName) (s made : SegmentForm) → slice_get es i ≡ Some (n, s) → Each P es → Each P (slice_set es i (n, made))
Each-set P [] i n s made is h = cc
Each-set P (x ∷ es) zero n s made is h = let same : x.0 ≡ n = let here : x ≡ (n, s) = cc in ap (λ (e : Entry). e.0) here in (subst P same h.0, h.1)
Each-set P (x ∷ es) (suc i) n s made is h = (h.0, Each-set P es i n s made is h.1)

-- and no name changes
pub Each-recoded : (P : BatchName → Type 0) (es new : List Entry) (result : Result (Unit {0}) Refusal) (n : BatchName) (column vector : ℕ) (coding : Coding)
    → RecodesEntries es new result n column vector coding → Each P es → Each P new
Each-recoded P es new result n column vector coding (inl r) h = subst (Each P) (sym r.2) h
Each-recoded P es new result n column vector coding (inr r) h = subst (Each P) (sym r.4) (Each-set P es r.0 n r.1 r.2 r.3 h)

-- a conflict with the first part is one with both
pub conflict-front : (m : map.FinMap name_cmp Batch) (es fs : List Entry) (n : BatchName) → conflict_in m es ≡ Some n → conflict_in m (es ++ fs) ≡ Some n
conflict-front m [] fs n is = cc
conflict-front m (e ∷ es) fs n is =
    elim (differs (map.get m e.0) e.1.rows) as (λ b. cond b (Some e.0) (conflict_in m es) ≡ Some n → cond b (Some e.0) (conflict_in m (es ++ fs)) ≡ Some n) [
      | true ↦ λ h. h
      | false ↦ λ h. conflict-front m es fs n h
    ] is

-- and where the first part has none, the second decides
pub conflict-back : (m : map.FinMap name_cmp Batch) (es fs : List Entry) → conflict_in m es ≡ None → conflict_in m (es ++ fs) ≡ conflict_in m fs
conflict-back m [] fs is = refl
conflict-back m (e ∷ es) fs is =
    elim (differs (map.get m e.0) e.1.rows) as (λ b. cond b (Some e.0) (conflict_in m es) ≡ None → cond b (Some e.0) (conflict_in m (es ++ fs)) ≡ conflict_in m fs) [
      | true ↦ λ h. cc
      | false ↦ λ h. conflict-back m es fs h
    ] is

-- what holds of each entry holds of each of either part
pub All-front : (P : Entry → Type 0) (es fs : List Entry) → All P (es ++ fs) → All P es
All-front P es fs all = λ k d below. subst P (get_or_append_left es fs d k below) (all k d (omega (arith, below, length-append es fs)))

pub All-back : (P : Entry → Type 0) (es fs : List Entry) → All P (es ++ fs) → All P fs
All-back P es fs all = λ k d below. subst P (get_or-append-add es fs k d) (all (length es + k) d (omega (arith, below, length-append es fs)))
