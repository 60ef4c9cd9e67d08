-- The laws of formats, one combinator after another: what is read is spelled so, and what is spelled so is read.
use Rattle.std.proofs.Common.{◌≡◌, ℕ, zero, suc, ◌+◌, ◌-◌, ◌<◌, Bool, true, false, cond, ◌&&◌, ltb, eqb, List, [], ◌∷◌, ◌++◌, length, get_or, take, drop, Option, Some, None, is_none, Result, Ok, Err, refl, sym, ap, subst, ◌∙◌, append_assoc, arith}
use Rattle.std.specs.List.{list_all}
use Rattle.std.proofs.lemmas.Bool.{ltb-false, le-ltb, lt-ltb, eqb-true, eq-eqb, and_parts, and_from}
use Rattle.std.proofs.lemmas.List.{take_at, drop_at, take-append-drop, length-append, length-take-le, append-nil}
use Rattle.std.proofs.lemmas.List.Folds.{list_all-append}
use Rattle.table_model.specs.declared.refusal.Refusal.{Refusal}
use Rattle.table_model.specs.declared.refusal.Refusal.TheVariants.{Truncated}
use Rattle.table_model.specs.Reading.{◌>>=◌}
use Rattle.segment_core.specs.Format.{Format, IsLawful, AreBytes, is_byte, raw, seen, spell_some, valid_some, checked, before, optional, read_all, spell_all, valid_all, all}

-- the value of a step that did not fail
pub bind_ok : {A B : Type 0} (r : Result A Refusal) (f : A → Result B Refusal) (y : B) → (r >>= f) ≡ Ok y → (x : A) × (r ≡ Ok x) × (f x ≡ Ok y)
bind_ok (Ok x) f y e = (x, refl, e)
bind_ok (Err d) f y e = absurd cc

-- a test that did not fail
pub guard_ok : {A : Type 0} (b : Bool) (d : Refusal) (x y : A) → cond b (Ok x) (Err d) ≡ Ok y → (b ≡ true) × (x ≡ y)
guard_ok true d x y e = (refl, cc)
guard_ok false d x y e = absurd cc

pub guard_short : {A : Type 0} (b : Bool) (d : Refusal) (x y : A) → cond b (Err d) (Ok x) ≡ Ok y → (b ≡ false) × (x ≡ y)
guard_short true d x y e = absurd cc
guard_short false d x y e = (refl, cc)

abbrev done : {A : Type 0} → A → Result A Refusal
done x = Ok x

pub ok_is : {A : Type 0} (x y : A) → done x ≡ done y → x ≡ y
ok_is x y e = cc

-- what stands after the front of bytes is bytes
pub rest_are_bytes : (bytes text rest : List ℕ) → bytes ≡ text ++ rest → AreBytes bytes → AreBytes rest
rest_are_bytes bytes text rest e h =
    (and_parts (list_all is_byte text) (list_all is_byte rest) (sym (list_all-append is_byte text rest) ∙ ap (list_all is_byte) (sym e) ∙ h)).1

front_are_bytes : (bytes text rest : List ℕ) → bytes ≡ text ++ rest → AreBytes bytes → AreBytes text
front_are_bytes bytes text rest e h =
    (and_parts (list_all is_byte text) (list_all is_byte rest) (sym (list_all-append is_byte text rest) ∙ ap (list_all is_byte) (sym e) ∙ h)).0

-- numbers that are bytes at each place are bytes
pub bytes_at : (bytes : List ℕ) → ((i : ℕ) → get_or bytes i 0 < 256) → AreBytes bytes
bytes_at [] h = refl
bytes_at (b ∷ bytes) h = and_from (ltb b 256) (list_all is_byte bytes) (lt-ltb b 256 (h 0)) (bytes_at bytes (λ i. h (suc i)))

-- ---- bytes as they stand

pub raw_is_lawful : (n : ℕ) → IsLawful (raw n)
raw_is_lawful n = record {
  takes = λ total bytes x rest fit e.
      let g = guard_short (ltb (length bytes) n) (Truncated total) (take n bytes, drop n bytes) (x, rest) e in
      let x_is : take n bytes ≡ x = ap (λ (p : List ℕ × List ℕ). p.0) g.1 in
      let rest_is : drop n bytes ≡ rest = ap (λ (p : List ℕ × List ℕ). p.1) g.1 in
      let parts : bytes ≡ take n bytes ++ drop n bytes = sym (take-append-drop n bytes) in
      let long : length (take n bytes) ≡ n = length-take-le n bytes (ltb-false _ _ g.0) in
      let whole : bytes ≡ x ++ rest = parts ∙ ap (λ (t : List ℕ). t ++ drop n bytes) x_is ∙ ap (λ (t : List ℕ). x ++ t) rest_is in
      (whole, and_from (eqb (length x) n) (list_all is_byte x) (eq-eqb _ _ (ap length (sym x_is) ∙ long)) (front_are_bytes bytes x rest whole fit));
  again = λ total x rest valid.
      let long : length x ≡ n = eqb-true _ _ (and_parts (eqb (length x) n) (list_all is_byte x) valid).0 in
      let enough : ltb (length (x ++ rest)) n ≡ false = le-ltb _ _ (omega (arith, length-append x rest)) in
      rw (enough, take_at x rest n long, drop_at x rest n long) refl;
}

-- ---- values seen as others

some_valid : {A : Type 0} (f : Format A) (o : Option A) → valid_some f o ≡ true → (x : A) × (o ≡ Some x) × (f.valid x ≡ true)
some_valid f None e = absurd cc
some_valid f (Some x) e = (x, refl, e)

pub seen_is_lawful : {A B : Type 0} (f : Format A) (to : A → B) (from : B → Option A) → IsLawful f
    → ((x : A) → f.valid x ≡ true → from (to x) ≡ Some x) → ((x : A) (y : B) → from y ≡ Some x → to x ≡ y) → IsLawful (seen f to from)
seen_is_lawful {A = A} {B = B} f to from law back forth = record {
  takes = λ total bytes y rest fit e.
      let a = bind_ok (f.read total bytes) (λ (x : A × List ℕ). Ok (to x.0, x.1)) (y, rest) e in
      let t = law.takes total bytes a.0.0 a.0.1 fit a.1 in
      let same : (to a.0.0, a.0.1) ≡ (y, rest) = ok_is {A = B × List ℕ} (to a.0.0, a.0.1) (y, rest) a.2 in
      let found : from (to a.0.0) ≡ Some a.0.0 = back a.0.0 t.1 in
      let made : (bytes ≡ spell_some f (from (to a.0.0)) ++ a.0.1) × (valid_some f (from (to a.0.0)) ≡ true) = rw found t in
      subst (λ (p : B × List ℕ). (bytes ≡ spell_some f (from p.0) ++ p.1) × (valid_some f (from p.0) ≡ true)) same made;
  again = λ total y rest valid.
      let s = some_valid f (from y) valid in
      rw (s.1, law.again total s.0 rest s.2, forth s.0 y s.1) refl;
}

-- ---- a test

pub checked_is_lawful : {A : Type 0} (f : Format A) (test : A → Bool) (fault : ℕ → Refusal) → IsLawful f → IsLawful (checked f test fault)
checked_is_lawful {A = A} f test fault law = record {
  takes = λ total bytes x rest fit e.
      let a = bind_ok (f.read total bytes) (λ (x : A × List ℕ). cond (test x.0) (Ok x) (Err (fault (total - length bytes)))) (x, rest) e in
      let g = guard_ok {A = A × List ℕ} (test a.0.0) (fault (total - length bytes)) a.0 (x, rest) a.2 in
      let t = law.takes total bytes a.0.0 a.0.1 fit a.1 in
      let made : (bytes ≡ f.spell a.0.0 ++ a.0.1) × ((f.valid a.0.0 && test a.0.0) ≡ true) = (t.0, and_from (f.valid a.0.0) (test a.0.0) t.1 g.0) in
      subst (λ (p : A × List ℕ). (bytes ≡ f.spell p.0 ++ p.1) × ((f.valid p.0 && test p.0) ≡ true)) g.1 made;
  again = λ total x rest valid.
      let v = and_parts (f.valid x) (test x) valid in
      rw (law.again total x rest v.0, v.1) refl;
}

-- ---- one value before another

pub before_is_lawful : {A B : Type 0} (f : Format A) (g : A → Format B) → IsLawful f → ((x : A) → f.valid x ≡ true → IsLawful (g x)) → IsLawful (before f g)
before_is_lawful {A = A} {B = B} f g first second = record {
  takes = λ total bytes p rest fit e.
      let a = bind_ok (f.read total bytes) (λ (x : A × List ℕ). (g x.0).read total x.1 >>= λ (y : B × List ℕ). Ok ((x.0, y.0), y.1)) (p, rest) e in
      let b = bind_ok ((g a.0.0).read total a.0.1) (λ (y : B × List ℕ). Ok ((a.0.0, y.0), y.1)) (p, rest) a.2 in
      let t = first.takes total bytes a.0.0 a.0.1 fit a.1 in
      let u = (second a.0.0 t.1).takes total a.0.1 b.0.0 b.0.1 (rest_are_bytes bytes (f.spell a.0.0) a.0.1 t.0 fit) b.1 in
      let same = ok_is {A = (A × B) × List ℕ} ((a.0.0, b.0.0), b.0.1) (p, rest) b.2 in
      let whole : bytes ≡ (f.spell a.0.0 ++ (g a.0.0).spell b.0.0) ++ b.0.1 =
      t.0 ∙ ap (λ (r : List ℕ). f.spell a.0.0 ++ r) u.0 ∙ sym (append_assoc (f.spell a.0.0) ((g a.0.0).spell b.0.0) b.0.1) in
      subst (λ (q : (A × B) × List ℕ). (bytes ≡ (f.spell q.0.0 ++ (g q.0.0).spell q.0.1) ++ q.1) × ((f.valid q.0.0 && (g q.0.0).valid q.0.1) ≡ true)) same
      (whole, and_from (f.valid a.0.0) ((g a.0.0).valid b.0.0) t.1 u.1);
  again = λ total p rest valid.
      let v = and_parts (f.valid p.0) ((g p.0).valid p.1) valid in
      rw (append_assoc (f.spell p.0) ((g p.0).spell p.1) rest, first.again total p.0 ((g p.0).spell p.1 ++ rest) v.0, (second p.0 v.0).again total p.1 rest v.1) refl;
}

-- ---- a value that may not be there

none_again : {A : Type 0} (f : Format A) (total : ℕ) (o : Option A) (rest : List ℕ) → is_none o ≡ true → (optional false f).read total rest ≡ Ok (o, rest)
none_again f total None rest valid = refl
none_again f total (Some x) rest valid = absurd cc

none_is_lawful : {A : Type 0} (f : Format A) → IsLawful (optional false f)
none_is_lawful {A = A} f = record {
  takes = λ total bytes o rest fit e.
      subst (λ (p : Option A × List ℕ). (bytes ≡ p.1) × (is_none p.0 ≡ true)) (ok_is {A = Option A × List ℕ} (None, bytes) (o, rest) e) (refl, refl);
  again = none_again f;
}

pub optional_is_lawful : {A : Type 0} (flag : Bool) (f : Format A) → IsLawful f → IsLawful (optional flag f)
optional_is_lawful true f law = seen_is_lawful f Some (λ o. o) law (λ x v. refl) (λ x o e. sym e)
optional_is_lawful false f law = none_is_lawful f

-- ---- items

all_take : {A : Type 0} (item : List A → Format A) (whole n : ℕ) (front : List A) (total : ℕ) (bytes : List ℕ) (ys : List A) (rest : List ℕ)
    → length front + n ≡ whole → ((front : List A) → length front < whole → IsLawful (item front)) → AreBytes bytes → read_all item n front total bytes ≡ Ok (ys, rest)
    → (xs : List A) × (ys ≡ front ++ xs) × (length xs ≡ n) × (bytes ≡ spell_all item front xs ++ rest) × (valid_all item front xs ≡ true)
unfolding read_all spell_all valid_all
all_take {A = A} item whole zero front total bytes ys rest at laws fit e =
    let same = ok_is {A = List A × List ℕ} (front, bytes) (ys, rest) e in
    ([], sym (ap (λ (p : List A × List ℕ). p.0) same) ∙ sym (append-nil front), refl, ap (λ (p : List A × List ℕ). p.1) same, refl)
all_take {A = A} item whole (suc n) front total bytes ys rest at laws fit e =
    let a = bind_ok ((item front).read total bytes) (λ (x : A × List ℕ). read_all item n (front ++ x.0 ∷ []) total x.1) (ys, rest) e in
    let t = (laws front (omega arith)).takes total bytes a.0.0 a.0.1 fit a.1 in
    let at_next : length (front ++ a.0.0 ∷ []) + n ≡ whole = omega (arith, length-append front (a.0.0 ∷ [])) in
    let u = all_take item whole n (front ++ a.0.0 ∷ []) total a.0.1 ys rest at_next laws (rest_are_bytes bytes ((item front).spell a.0.0) a.0.1 t.0 fit) a.2 in (
      a.0.0 ∷ u.0,
      u.1 ∙ append_assoc front (a.0.0 ∷ []) u.0,
      ap suc u.2,
      t.0 ∙ ap (λ (r : List ℕ). (item front).spell a.0.0 ++ r) u.3 ∙ sym (append_assoc ((item front).spell a.0.0) (spell_all item (front ++ a.0.0 ∷ []) u.0) rest),
      and_from ((item front).valid a.0.0) (valid_all item (front ++ a.0.0 ∷ []) u.0) t.1 u.4,
    )

again_none : {A : Type 0} (front : List A) (rest : List ℕ) → done {A = List A × List ℕ} (front, rest) ≡ done (front ++ [], rest)
again_none {A = A} front rest = ap (λ (xs : List A). done {A = List A × List ℕ} (xs, rest)) (sym (append-nil front))

all_again : {A : Type 0} (item : List A → Format A) (whole : ℕ) (xs front : List A) (total : ℕ) (rest : List ℕ)
    → length front + length xs ≡ whole → ((front : List A) → length front < whole → IsLawful (item front)) → valid_all item front xs ≡ true
    → read_all item (length xs) front total (spell_all item front xs ++ rest) ≡ Ok (front ++ xs, rest)
unfolding read_all spell_all valid_all
all_again item whole [] front total rest at laws valid = again_none front rest
all_again {A = A} item whole (x ∷ xs) front total rest at laws valid =
    let v = and_parts ((item front).valid x) (valid_all item (front ++ x ∷ []) xs) valid in
    let one = (laws front (omega arith)).again total x (spell_all item (front ++ x ∷ []) xs ++ rest) v.0 in
    let at_next : length (front ++ x ∷ []) + length xs ≡ whole = omega (arith, length-append front (x ∷ [])) in
    let others = all_again item whole xs (front ++ x ∷ []) total rest at_next laws v.1 in
    rw (append_assoc ((item front).spell x) (spell_all item (front ++ x ∷ []) xs) rest, one, others, append_assoc front (x ∷ []) xs) refl

pub all_is_lawful : {A : Type 0} (n : ℕ) (item : List A → Format A) → ((front : List A) → length front < n → IsLawful (item front)) → IsLawful (all n item)
all_is_lawful {A = A} n item laws = record {
  takes = λ total bytes ys rest fit e.
      let t = all_take item n n [] total bytes ys rest (omega arith) laws fit e in
      let made : (bytes ≡ spell_all item [] t.0 ++ rest) × ((eqb (length t.0) n && valid_all item [] t.0) ≡ true) =
      (t.3, and_from (eqb (length t.0) n) (valid_all item [] t.0) (eq-eqb _ _ t.2) t.4) in
      subst (λ (zs : List A). (bytes ≡ spell_all item [] zs ++ rest) × ((eqb (length zs) n && valid_all item [] zs) ≡ true)) (sym t.1) made;
  again = λ total xs rest valid.
      let v = and_parts (eqb (length xs) n) (valid_all item [] xs) valid in
      let long : length xs ≡ n = eqb-true _ _ v.0 in
      subst (λ (k : ℕ). read_all item k [] total (spell_all item [] xs ++ rest) ≡ Ok (xs, rest)) long (all_again item n xs [] total rest (omega arith) laws v.1);
}

-- ---- equal bytes come from equal values

pub same_value : {A : Type 0} (f : Format A) → IsLawful f → (x y : A) → f.valid x ≡ true → f.valid y ≡ true → f.spell x ≡ f.spell y → x ≡ y
same_value {A = A} f law x y first second same =
    let a : f.read 0 (f.spell x) ≡ Ok (x, []) = subst (λ (bytes : List ℕ). f.read 0 bytes ≡ Ok (x, [])) (append-nil (f.spell x)) (law.again 0 x [] first) in
    let b : f.read 0 (f.spell y) ≡ Ok (y, []) = subst (λ (bytes : List ℕ). f.read 0 bytes ≡ Ok (y, [])) (append-nil (f.spell y)) (law.again 0 y [] second) in
    ap (λ (p : A × List ℕ). p.0) (ok_is {A = A × List ℕ} (x, []) (y, []) (sym a ∙ ap (f.read 0) same ∙ b))
