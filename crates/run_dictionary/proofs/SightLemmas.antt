-- A value that comes again changes no distinct value, so the values without some that came before have the same.
use Rattle.std.proofs.Common.{◌≡◌, ℕ, ◌+◌, ◌<◌, ◌==◌, Bool, true, false, cond, not, ℤ, pos, List, [], ◌∷◌, ◌++◌, length, take, set, replicate, get_or, ◌⊎◌, inl, inr, refl, sym, ap, ◌∙◌, subst, arith}
use Rattle.std.proofs.lemmas.Bool.{cases_Bool, eqb-true, eqb-false}
use Rattle.std.proofs.lemmas.List.{take_more, take_more_set, take-set, get_or-set_same, get_or-set_other, get_or-replicate}
use mir.Val.{bool_byte}
use Rattle.run_dictionary.specs.Dict.{with_value, distinct}
use Rattle.run_dictionary.proofs.OrderLemmas.{Has, Has-append_left, Has-append_right, Has-distinct, Has-from_distinct}
use Rattle.run_dictionary.proofs.KeyLemmas.{distinct-old, distinct-push, distinct-cons}

-- the values so far have the distinct values of those that were written, and what each slot has was written
pub record Sights (values last into : List ℤ) (count row : ℕ) : Type 0 where
  pub slots : (s : ℕ) → s < 1024 → Has (get_or last s (pos 0)) (take count into)
  pub same : distinct (take count into) ≡ distinct (take row values)

distinct-push_same : (xs ys : List ℤ) (v : ℤ) → distinct xs ≡ distinct ys → distinct (xs ++ v ∷ []) ≡ distinct (ys ++ v ∷ [])
distinct-push_same xs ys v e = distinct-push xs v ∙ distinct-cons v xs ∙ ap (with_value v) e ∙ sym (distinct-cons v ys) ∙ sym (distinct-push ys v)

distinct-push_old : (xs ys : List ℤ) (v : ℤ) → distinct xs ≡ distinct ys → Has v xs → distinct xs ≡ distinct (ys ++ v ∷ [])
distinct-push_old xs ys v e h =
    let there : Has v ys = Has-from_distinct v ys (subst (λ (zs : List ℤ). Has v zs) e (Has-distinct v xs h)) in
    e ∙ sym (distinct-old v ys there) ∙ sym (distinct-push ys v)

pub Sights-more : (values last into : List ℤ) (count row slot one : ℕ) (v : ℤ) (seen : Bool) → Sights values last into count row → row < length values → count < length into → slot < 1024 → length last ≡ 1024 → v ≡ get_or values row (pos 0) → (seen ≡ true → get_or last slot (pos 0) ≡ v) → one ≡ cond seen 0 1
    → Sights values (set last slot v) (set into count v) (count + one) (row + 1)
Sights-more values last into count row slot one v seen was h room within long is same_seen new = by_test (cases_Bool seen)
  where
    more : take (row + 1) values ≡ take row values ++ v ∷ []
    more = take_more values row (pos 0) h ∙ ap (λ z. take row values ++ z ∷ []) (sym is)

    slot_has : (xs : List ℤ) → Has v xs → ((s : ℕ) → s < 1024 → Has (get_or last s (pos 0)) xs) → (s : ℕ) → s < 1024 → Has (get_or (set last slot v) s (pos 0)) xs
    slot_has xs here others s l = by_slot (cases_Bool (s == slot))
      where
        by_slot : ((s == slot) ≡ true) ⊎ ((s == slot) ≡ false) → Has (get_or (set last slot v) s (pos 0)) xs
        by_slot (inl e) =
            let at : s ≡ slot = eqb-true s slot e in
            subst (λ (k : ℕ). Has (get_or (set last slot v) k (pos 0)) xs) (sym at) (subst (λ (z : ℤ). Has z xs) (sym (get_or-set_same last slot v (pos 0) (omega (arith, long)))) here)
        by_slot (inr e) = subst (λ (z : ℤ). Has z xs) (sym (get_or-set_other last slot s v (pos 0) (eqb-false s slot e))) (others s l)

    by_test : (seen ≡ true) ⊎ (seen ≡ false) → Sights values (set last slot v) (set into count v) (count + one) (row + 1)
    by_test (inl t) =
        let none : one ≡ 0 = new ∙ ap (λ b. cond b 0 1) t in
        let stays : count + one ≡ count = omega (arith, none) in
        let front : take (count + one) (set into count v) ≡ take count into = ap (λ n. take n (set into count v)) stays ∙ take-set into count v in
        let here : Has v (take count into) = subst (λ (z : ℤ). Has z (take count into)) (same_seen t) (was.slots slot within) in
        record {
          slots = λ s l. subst (λ (xs : List ℤ). Has (get_or (set last slot v) s (pos 0)) xs) (sym front) (slot_has (take count into) here was.slots s l);
          same = ap distinct front ∙ distinct-push_old (take count into) (take row values) v was.same here ∙ ap distinct (sym more);
        }
    by_test (inr t) =
        let a_new : one ≡ 1 = new ∙ ap (λ b. cond b 0 1) t in
        let grows : count + one ≡ count + 1 = omega (arith, a_new) in
        let front : take (count + one) (set into count v) ≡ take count into ++ v ∷ [] = ap (λ n. take n (set into count v)) grows ∙ take_more_set into count v room in
        record {
          slots = λ s l. subst (λ (xs : List ℤ). Has (get_or (set last slot v) s (pos 0)) xs) (sym front)
              (slot_has (take count into ++ v ∷ []) (Has-append_right v (take count into) (v ∷ []) (inl refl)) (λ k m. Has-append_left (get_or last k (pos 0)) (take count into) (v ∷ []) (was.slots k m)) s l);
          same = ap distinct front ∙ distinct-push_same (take count into) (take row values) v was.same ∙ ap distinct (sym more);
        }

pub Sights-first : (values into : List ℤ) (v : ℤ) → 0 < length values → 0 < length into → v ≡ get_or values 0 (pos 0) → Sights values (replicate 1024 v) (set into 0 v) 1 1
Sights-first values into v some room is =
    let front : take 1 (set into 0 v) ≡ v ∷ [] = take_more_set into 0 v room in
    let first : take 1 values ≡ v ∷ [] = take_more values 0 (pos 0) some ∙ ap (λ z. z ∷ []) (sym is) in
    record {
      slots = λ s l. subst (λ (xs : List ℤ). Has (get_or (replicate 1024 v) s (pos 0)) xs) (sym front) (inl (get_or-replicate 1024 s v (pos 0) l));
      same = ap distinct (front ∙ sym first);
    }

pub one_unless : (b : Bool) → bool_byte (not b) ≡ cond b 0 1
one_unless true = refl
one_unless false = refl
