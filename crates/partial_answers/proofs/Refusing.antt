-- Why what two partial answers keep of a group is not added.
use Rattle.std.proofs.Common.{◌≡◌, ℕ, zero, suc, ◌<◌, List, [], ◌∷◌, map, length, get_or, Some, subst, sym, ap, ◌∙◌, arith}
use Rattle.std.proofs.lemmas.List.{length-map}
use Rattle.std.specs.BTreeMap.{get}
use Rattle.std.specs.Global.{Vec}
use Rattle.table_model.specs.Group.{key_cmp}
use Rattle.table_model.specs.State.{Cells}
use Rattle.table_model.specs.declared.refusal.Refusal.{Refusal}
use Rattle.partial_answers.specs.Refusing.{AllFit, AreAlike, Fits, GroupsFit, KeepAlike, KeptGroups, RefusesBy, RefusesGroup, RefusesGroups, RefusesKept, RefusesTaking, RefusesUnless, kept_kind}
use Rattle.partial_answers.specs.Kept.{tally_in, tallies_in}
use Rattle.partial_answers.specs.PartialAnswer.{plus, pluses}
use Rattle.partial_answers.specs.declared.fault.PartialAnswerFault.{PartialAnswerFault}
use Rattle.partial_answers.specs.declared.fault.PartialAnswerFault.TheVariants.{Memory, SchemaDiffers, QueryDiffers, NotApart, TooMany, Query}
use Rattle.partial_answers.specs.declared.kept.Kept.{Kept}

-- what refuses a part of a thing refuses the thing
pub refuses_by : (M N : Refusal → Type 0) (A B C D : Type 0) (e : PartialAnswerFault) → ((refusal : Refusal) → M refusal → N refusal) → (C → A) → (D → B) → RefusesBy M A B e → RefusesBy N C D e
refuses_by M N A B C D Memory r f g why = tt
refuses_by M N A B C D (Query refusal) r f g why = r refusal why
refuses_by M N A B C D QueryDiffers r f g why = λ c. why (f c)
refuses_by M N A B C D TooMany r f g why = λ d. why (g d)
refuses_by M N A B C D SchemaDiffers r f g why = why
refuses_by M N A B C D (NotApart name) r f g why = why

pub refuses_more : (A B C D : Type 0) (e : PartialAnswerFault) → (C → A) → (D → B) → RefusesUnless A B e → RefusesUnless C D e
refuses_more A B C D e f g why = refuses_by (λ refusal. ⊥) (λ refusal. ⊥) A B C D e (λ refusal no. no) f g why

-- if all of both fit, each does
fits_at : (xs ys : List Kept) (i : ℕ) (d e : Kept) → i < length xs → i < length ys → AllFit (pluses (tallies_in xs) (tallies_in ys)) → Fits (plus (tally_in (get_or xs i d)) (tally_in (get_or ys i e)))
fits_at [] ys i d e h k all = absurd (omega arith)
fits_at (x ∷ xs) [] i d e h k all = absurd (omega arith)
fits_at (x ∷ xs) (y ∷ ys) zero d e h k all = all.0
fits_at (x ∷ xs) (y ∷ ys) (suc i) d e h k all = fits_at xs ys i d e (omega arith) (omega arith) all.1

head_of : (ns ms : List ℕ) (n m : ℕ) → n ∷ ns ≡ m ∷ ms → n ≡ m
head_of ns ms n m e = cc

tail_of : (ns ms : List ℕ) (n m : ℕ) → n ∷ ns ≡ m ∷ ms → ns ≡ ms
tail_of ns ms n m e = cc

-- if both keep alike, each does
alike_at : (xs ys : List Kept) (i : ℕ) (d e : Kept) → i < length xs → i < length ys → AreAlike xs ys → kept_kind (get_or xs i d) ≡ kept_kind (get_or ys i e)
alike_at [] ys i d e h k all = absurd (omega arith)
alike_at (x ∷ xs) [] i d e h k all = absurd (omega arith)
alike_at (x ∷ xs) (y ∷ ys) zero d e h k all = head_of (map kept_kind xs) (map kept_kind ys) (kept_kind x) (kept_kind y) all
alike_at (x ∷ xs) (y ∷ ys) (suc i) d e h k all = alike_at xs ys i d e (omega arith) (omega arith) (tail_of (map kept_kind xs) (map kept_kind ys) (kept_kind x) (kept_kind y) all)

pub longer_differs : (xs ys : List Kept) → (length xs ≡ length ys → ⊥) → AreAlike xs ys → ⊥
longer_differs xs ys h alike = h (sym (length-map xs kept_kind) ∙ ap length alike ∙ length-map ys kept_kind)

-- what refuses one of two groups refuses them
pub refuses_at : (e : PartialAnswerFault) (xs ys : List Kept) (i : ℕ) (a b : Kept) → i < length xs → i < length ys → RefusesKept e (get_or xs i a) (get_or ys i b) → RefusesGroup e xs ys
refuses_at e xs ys i a b h k why =
    let x : Kept = get_or xs i a in
    let y : Kept = get_or ys i b in
    refuses_more (kept_kind x ≡ kept_kind y) (Fits (plus (tally_in x) (tally_in y))) (AreAlike xs ys) (AllFit (pluses (tallies_in xs) (tallies_in ys))) e (alike_at xs ys i a b h k) (fits_at xs ys i a b h k) why

-- what refuses a group's tallies refuses to take it
pub refuses_taking : (e : PartialAnswerFault) (m : KeptGroups) (key : Cells) (mine kept : List Kept) (v : Vec Kept) → get key_cmp m key ≡ Some v → v.items ≡ mine → RefusesGroup e mine kept → RefusesTaking e m key kept
refuses_taking e m key mine kept v at is why =
    refuses_more (AreAlike mine kept) (AllFit (pluses (tallies_in mine) (tallies_in kept))) ((w : Vec Kept) → get key_cmp m key ≡ Some w → AreAlike w.items kept) ((w : Vec Kept) → get key_cmp m key ≡ Some w → AllFit (pluses (tallies_in w.items) (tallies_in kept))) e
    (λ all. subst (λ (l : List Kept). AreAlike l kept) is (all v at)) (λ all. subst (λ (l : List Kept). AllFit (pluses (tallies_in l) (tallies_in kept))) is (all v at)) why

-- and with the groups as they were, the groups
pub refuses_all : (e : PartialAnswerFault) (all one other : KeptGroups) (key : Cells) (kept : Vec Kept) → get key_cmp all key ≡ get key_cmp one key → get key_cmp other key ≡ Some kept → RefusesTaking e all key kept.items → RefusesGroups e one other
refuses_all e all one other key kept same at why =
    refuses_more ((w : Vec Kept) → get key_cmp all key ≡ Some w → AreAlike w.items kept.items) ((w : Vec Kept) → get key_cmp all key ≡ Some w → AllFit (pluses (tallies_in w.items) (tallies_in kept.items))) (KeepAlike one other) (GroupsFit one other) e
    (λ h mine is. h key mine kept (sym same ∙ is) at) (λ h mine is. h key mine kept (sym same ∙ is) at) why
