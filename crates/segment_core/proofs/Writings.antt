-- Writing, piece by piece.
use Rattle.std.proofs.Common.{◌≡◌, ℕ, zero, suc, ◌+◌, ◌-◌, ◌*◌, ◌<◌, List, [], ◌∷◌, ◌++◌, length, get_or, slice_range, take, drop, Option, Some, None, Result, Ok, Err, OnOk, OnErr, IfErr, refl, sym, ap, ◌∙◌, append_assoc, arith}
use Rattle.std.specs.Io.KnownBytes.{Appends}
use Rattle.std.proofs.lemmas.List.{append-nil, take-append-drop, drop_more}
use Rattle.std.proofs.lemmas.Grind.{take_at_read}
use Rattle.table_model.specs.Counted.{one_more}
use Rattle.table_model.proofs.Written.{appends_both}
use Rattle.table_model.specs.Faults.{AppendsFront}
use Rattle.table_model.specs.declared.refusal.Refusal.{Refusal}
use Rattle.table_model.specs.declared.refusal.Refusal.TheVariants.{WriteFault}
use Rattle.segment_core.specs.Format.{Format, Writes, spell_all}

-- nothing was written
pub appends_none : (known : Option (List ℕ)) → Appends known known []
appends_none None = tt
appends_none (Some xs) = sym (append-nil xs)

-- what a call that writes all bytes says of them
pub writes_from : (r : Result (Unit {0}) Refusal) (old new : Option (List ℕ)) (before after : ℕ) (bytes : List ℕ)
    → OnOk r (Appends old new bytes) → OnErr r (AppendsFront old new bytes) → OnOk r (after ≡ before) → IfErr r (λ e. (e ≡ WriteFault) × (after ≡ one_more before))
    → Writes r old new before after bytes
writes_from (Ok done) old new before after bytes all front kept fault = (all, kept)
writes_from (Err e) old new before after bytes all front kept fault = (fault.0, fault.1, front)

-- a part is written after others that were
pub writes_both : (r : Result (Unit {0}) Refusal) (old mid new : Option (List ℕ)) (before between after : ℕ) (xs ys : List ℕ)
    → Appends old mid xs → between ≡ before → Writes r mid new between after ys → Writes r old new before after (xs ++ ys)
writes_both (Ok done) old mid new before between after xs ys first same h = (appends_both old mid new xs ys first h.0, h.1 ∙ same)
writes_both (Err e) old mid new before between after xs ys first same h = (
  h.0,
  h.1 ∙ ap one_more same,
  (xs ++ h.2.0, h.2.1, ap (λ (t : List ℕ). xs ++ t) h.2.2 ∙ sym (append_assoc xs h.2.0 h.2.1), appends_both old mid new xs h.2.0 first h.2.3),
)

-- a fault in a part is one in the whole
pub writes_front : (r : Result (Unit {0}) Refusal) (e : Refusal) (old new : Option (List ℕ)) (before after : ℕ) (xs ys : List ℕ)
    → r ≡ Err e → Writes (Err e) old new before after xs → Writes r old new before after (xs ++ ys)
writes_front (Ok done) e old new before after xs ys is h = absurd cc
writes_front (Err f) e old new before after xs ys is h = (
  (let same : f ≡ e = cc in same) ∙ h.0,
  h.1,
  (h.2.0, h.2.1 ++ ys, ap (λ (t : List ℕ). t ++ ys) h.2.2 ∙ append_assoc h.2.0 h.2.1 ys, h.2.3),
)

-- ---- items

-- the bytes of items are those of a front and then those of the rest
again_front : {A : Type 0} (item : List A → Format A) (front ys : List A) → spell_all item front ys ≡ [] ++ spell_all item (front ++ []) ys
again_front {A = A} item front ys = ap (λ (f : List A). spell_all item f ys) (sym (append-nil front))

pub spell_all-append : {A : Type 0} (item : List A → Format A) (front xs ys : List A) → spell_all item front (xs ++ ys) ≡ spell_all item front xs ++ spell_all item (front ++ xs) ys
unfolding spell_all
spell_all-append item front [] ys = again_front item front ys
spell_all-append {A = A} item front (x ∷ xs) ys =
    ap (λ (t : List ℕ). (item front).spell x ++ t) (spell_all-append item (front ++ x ∷ []) xs ys)
    ∙ ap (λ (f : List A). (item front).spell x ++ (spell_all item (front ++ x ∷ []) xs ++ spell_all item f ys)) (append_assoc front (x ∷ []) xs)
    ∙ sym (append_assoc ((item front).spell x) (spell_all item (front ++ x ∷ []) xs) (spell_all item (front ++ (x ∷ xs)) ys))

pub spell_all-cons : {A : Type 0} (item : List A → Format A) (front : List A) (x : A) (xs : List A) → spell_all item front (x ∷ xs) ≡ (item front).spell x ++ spell_all item (front ++ x ∷ []) xs
unfolding spell_all
spell_all-cons item front x xs = refl

pub spell_all-nil : {A : Type 0} (item : List A → Format A) (front : List A) → spell_all item front [] ≡ []
unfolding spell_all
spell_all-nil item front = refl

-- the bytes of items at one of them
pub spell_all-at : {A : Type 0} (item : List A → Format A) (xs : List A) (i : ℕ) (d : A) → i < length xs
    → spell_all item [] xs ≡ (spell_all item [] (take i xs) ++ (item (take i xs)).spell (get_or xs i d)) ++ spell_all item (take i xs ++ get_or xs i d ∷ []) (drop (i + 1) xs)
spell_all-at {A = A} item xs i d below =
    ap (spell_all item []) (sym (take-append-drop i xs)) ∙ spell_all-append item [] (take i xs) (drop i xs)
    ∙ ap (λ (t : List A). spell_all item [] (take i xs) ++ spell_all item (take i xs) t) (drop_more xs i d below)
    ∙ ap (λ (t : List ℕ). spell_all item [] (take i xs) ++ t) (spell_all-cons item (take i xs) (get_or xs i d) (drop (i + 1) xs))
    ∙ sym (append_assoc (spell_all item [] (take i xs)) ((item (take i xs)).spell (get_or xs i d)) (spell_all item (take i xs ++ get_or xs i d ∷ []) (drop (i + 1) xs)))

-- one more item is written
pub item_done : {A : Type 0} (item : List A → Format A) (xs : List A) (i : ℕ) (d : A) (old mid new : Option (List ℕ)) → i < length xs
    → Appends old mid (spell_all item [] (take i xs)) → Appends mid new ((item (take i xs)).spell (get_or xs i d)) → Appends old new (spell_all item [] (take (i + 1) xs))
item_done item xs i d old mid new below first one =
    let whole : spell_all item [] (take (i + 1) xs) ≡ spell_all item [] (take i xs) ++ (item (take i xs)).spell (get_or xs i d) =
    ap (spell_all item []) (take_at_read xs i d below).1 ∙ spell_all-append item [] (take i xs) (get_or xs i d ∷ [])
    ∙ ap (λ (t : List ℕ). spell_all item [] (take i xs) ++ t) (spell_all-cons item (take i xs) (get_or xs i d) [] ∙ ap (λ (t : List ℕ). (item (take i xs)).spell (get_or xs i d) ++ t) (spell_all-nil item (take i xs ++ get_or xs i d ∷ [])) ∙ append-nil ((item (take i xs)).spell (get_or xs i d))) in
    rw whole (appends_both old mid new (spell_all item [] (take i xs)) ((item (take i xs)).spell (get_or xs i d)) first one)

-- a fault in an item is one in all
pub item_fault : {A : Type 0} (item : List A → Format A) (xs : List A) (i : ℕ) (d : A) (r : Result (Unit {0}) Refusal) (e : Refusal) (old mid new : Option (List ℕ)) (before between after : ℕ)
    → i < length xs → r ≡ Err e → Appends old mid (spell_all item [] (take i xs)) → between ≡ before
    → Writes (Err e) mid new between after ((item (take i xs)).spell (get_or xs i d)) → Writes r old new before after (spell_all item [] xs)
item_fault item xs i d r e old mid new before between after below is first same one =
    rw (spell_all-at item xs i d below)
    (writes_front r e old new before after (spell_all item [] (take i xs) ++ (item (take i xs)).spell (get_or xs i d)) (spell_all item (take i xs ++ get_or xs i d ∷ []) (drop (i + 1) xs)) is
    (writes_both (Err e) old mid new before between after (spell_all item [] (take i xs)) ((item (take i xs)).spell (get_or xs i d)) first same one))

-- ---- blocks of 128 bytes

take_nothing : (n : ℕ) → take {A = ℕ} n [] ≡ []
take_nothing zero = refl
take_nothing (suc n) = refl

split_at_block : (bytes : List ℕ) (a b : ℕ) → take (a + b) bytes ≡ take a bytes ++ take b (drop a bytes)
split_at_block bytes zero b = ap (λ (k : ℕ). take k bytes) (let e : 0 + b ≡ b = omega arith in e)
split_at_block [] (suc a) b = take_nothing (suc a + b) ∙ sym (take_nothing b)
split_at_block (x ∷ bytes) (suc a) b =
    let e : suc a + b ≡ suc (a + b) = omega arith in
    ap (λ (k : ℕ). take k (x ∷ bytes)) e ∙ ap (λ (t : List ℕ). x ∷ t) (split_at_block bytes a b)

pub one_more_block : (bytes : List ℕ) (block : ℕ) → take (128 * (block + 1)) bytes ≡ take (128 * block) bytes ++ slice_range bytes (128 * block) (128 * block + 128)
one_more_block bytes block =
    let far : 128 * (block + 1) ≡ 128 * block + 128 = omega arith in
    let size : (128 * block + 128) - 128 * block ≡ 128 = omega arith in
    ap (λ (k : ℕ). take k bytes) far ∙ split_at_block bytes (128 * block) 128 ∙ ap (λ (k : ℕ). take (128 * block) bytes ++ take k (drop (128 * block) bytes)) (sym size)

pub at_block : (bytes : List ℕ) (block : ℕ) → bytes ≡ (take (128 * block) bytes ++ slice_range bytes (128 * block) (128 * block + 128)) ++ drop (128 * (block + 1)) bytes
at_block bytes block = sym (take-append-drop (128 * (block + 1)) bytes) ∙ ap (λ (t : List ℕ). t ++ drop (128 * (block + 1)) bytes) (one_more_block bytes block)
