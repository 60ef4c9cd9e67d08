-- Groups in ascending order of their keys, one put after the others.
use Rattle.std.proofs.Common.{◌≡◌, ℕ, ◌+◌, ◌-◌, Bool, true, ◌||◌, get_or, List, [], ◌∷◌, ◌++◌, length, map, Some, refl, sym, ap, subst, ◌∙◌, arith}
use Rattle.std.specs.BTreeMap.{insert_entry}
use Rattle.std.specs.Global.{Vec}
use Rattle.std.specs.List.{AllByRecursion, slice_get}
use Rattle.std.specs.List.Sorted.{IsStrictlySortedBy}
use Rattle.std.specs.Map.{keys_of}
use Rattle.std.specs.Ordering.{is_lt, ordering_reverse}
use Rattle.std.specs.declared.cmp.Ordering.TheVariants.{Less, Greater}
use Rattle.std.proofs.lemmas.List.{length-append, map-append}
use Rattle.table_model.specs.Group.{key_cmp}
use Rattle.table_model.specs.State.{Cells}
use Rattle.table_model.proofs.Keys.{key_total}
use Rattle.segment_core.proofs.VectorLaws.{some_is}
use Rattle.partial_answers.specs.declared.kept.Kept.{Kept}
use Rattle.partial_file.specs.PartialAnswerBytes.{Entry, entry_of, is_after}
use Rattle.partial_file.proofs.Rising.{has_some, is_less, last_is}

-- a list that has something has a last
split_last : {A : Type 0} (x : A) (xs : List A) → (front : List A) × (y : A) × (x ∷ xs ≡ front ++ y ∷ [])
split_last x [] = ([], x, refl)
split_last {A = A} x (z ∷ xs) = let s = split_last z xs in (x ∷ s.0, s.1, ap (λ (ys : List A). x ∷ ys) s.2)

get_seam : {A : Type 0} (front : List A) (x : A) → slice_get (front ++ x ∷ []) (length front) ≡ Some x
get_seam [] x = refl
get_seam (y ∷ front) x = get_seam front x

get_last : {A : Type 0} (front : List A) (x : A) → slice_get (front ++ x ∷ []) (length (front ++ x ∷ []) - 1) ≡ Some x
get_last front x =
    let long : length (front ++ x ∷ []) ≡ length front + 1 = length-append front (x ∷ []) in
    let last : length (front ++ x ∷ []) - 1 ≡ length front = omega arith in
    ap (λ (k : ℕ). slice_get (front ++ x ∷ []) k) last ∙ get_seam front x

pub group_after_last : (front : List Entry) (y g : Entry) → is_after (front ++ y ∷ []) g ≡ is_lt (key_cmp y.0 g.0)
group_after_last front y g =
    ap (λ (b : Bool). b || is_lt (key_cmp (get_or (front ++ y ∷ []) (length (front ++ y ∷ []) - 1) g).0 g.0)) (has_some front y)
    ∙ ap (λ (x : Entry). is_lt (key_cmp x.0 g.0)) (last_is front y g)

-- a group of a partial answer in the code
abbrev pub Pair : Type 0
Pair = Cells × Vec Kept

listed_last : (front : List Pair) (e : Pair) → map entry_of (front ++ e ∷ []) ≡ map entry_of front ++ entry_of e ∷ []
listed_last front e = map-append entry_of front (e ∷ [])

-- keys come after no groups
pub after_none : (es : List Pair) (g : Entry) → length es ≡ 0 → is_after (map entry_of es) g ≡ true
after_none [] g none = refl
after_none (e ∷ es) g none = absurd (omega (arith, none))

-- and after some where they come after the last
pub after_some : (es : List Pair) (e : Pair) (g : Entry) → slice_get es (length es - 1) ≡ Some e → is_after (map entry_of es) g ≡ is_lt (key_cmp e.0 g.0)
after_some [] e g last = absurd cc
after_some (x ∷ es) e g last =
    let s = split_last x es in
    let P : List Pair → Type 0 = λ xs. slice_get xs (length xs - 1) ≡ Some e in
    let same : s.1 ≡ e = some_is s.1 e (sym (get_last s.0 s.1) ∙ subst P s.2 last) in
    ap (λ (xs : List Pair). is_after (map entry_of xs) g) s.2
    ∙ ap (λ (xs : List Entry). is_after xs g) (listed_last s.0 s.1)
    ∙ group_after_last (map entry_of s.0) (entry_of s.1) g
    ∙ ap (λ (p : Pair). is_lt (key_cmp p.0 g.0)) same

greater : (a b : Cells) → key_cmp a b ≡ Less → key_cmp b a ≡ Greater
greater a b less = key_total.antisymm b a ∙ ap ordering_reverse less

above_last : (P : Cells → Type 0) (front : List Pair) (y : Pair) → AllByRecursion P (keys_of (front ++ y ∷ [])) → P y.0
above_last P [] y all = all.0
above_last P (x ∷ front) y all = above_last P front y all.1

-- a group whose keys come after those of the last goes behind it
at_end : (front : List Pair) (y : Pair) (k : Cells) (v : Vec Kept) → IsStrictlySortedBy key_cmp (keys_of (front ++ y ∷ [])) → key_cmp y.0 k ≡ Less → insert_entry key_cmp (front ++ y ∷ []) k v ≡ (front ++ y ∷ []) ++ (k, v) ∷ []
unfolding IsStrictlySortedBy
at_end [] y k v sorted less = rw (greater y.0 k less) refl
at_end (x ∷ front) y k v sorted less =
    let here : key_cmp x.0 k ≡ Less = key_total.trans x.0 y.0 k (above_last (λ q. key_cmp x.0 q ≡ Less) front y sorted.0) less in
    rw (greater x.0 k here) (ap (λ (es : List Pair). x ∷ es) (at_end front y k v sorted.1 less))

-- so it is the last of the groups
pub put_last : (es : List Pair) (k : Cells) (v : Vec Kept) → IsStrictlySortedBy key_cmp (keys_of es) → is_after (map entry_of es) (k, []) ≡ true → map entry_of (insert_entry key_cmp es k v) ≡ map entry_of es ++ (k, v.items) ∷ []
put_last [] k v sorted after = refl
put_last (x ∷ es) k v sorted after =
    let s = split_last x es in
    let g : Entry = (k, []) in
    let P : List Pair → Type 0 = λ xs. IsStrictlySortedBy key_cmp (keys_of xs) in
    let Q : List Pair → Type 0 = λ xs. is_after (map entry_of xs) g ≡ true in
    let less = is_less (key_cmp s.1.0 k) (sym (ap (λ (xs : List Entry). is_after xs g) (listed_last s.0 s.1) ∙ group_after_last (map entry_of s.0) (entry_of s.1) g) ∙ subst Q s.2 after) in
    let put : insert_entry key_cmp (x ∷ es) k v ≡ (x ∷ es) ++ (k, v) ∷ [] =
    ap (λ (xs : List Pair). insert_entry key_cmp xs k v) s.2 ∙ at_end s.0 s.1 k v (subst P s.2 sorted) less ∙ ap (λ (xs : List Pair). xs ++ (k, v) ∷ []) (sym s.2) in
    ap (λ (xs : List Pair). map entry_of xs) put ∙ listed_last (x ∷ es) (k, v)
