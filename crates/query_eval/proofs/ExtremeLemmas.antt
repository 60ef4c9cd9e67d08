-- An extreme of values more, row by row, and by the greatest of the turned values.
use Rattle.std.proofs.Common.{◌≡◌, ◌≢◌, ℕ, ◌+◌, Bool, true, false, cond, unwrap_or, option_map, List, [], ◌∷◌, ◌++◌, map, get_or, Option, Some, None, ℤ, pos, negsuc, ◌-ℤ◌, ◌≤ℤ◌, FitsSigned, w64, refl, sym, ap, subst, ◌∙◌, arith, append-nil}
use Rattle.std.specs.Int.{int_max, int_min}
use Rattle.std.proofs.lemmas.Int.{ints, clamps}
use Rattle.std.proofs.lemmas.List.{map-append}
use Rattle.table_model.proofs.Appended.{greatest-append}
use Rattle.table_model.proofs.Extremes.{extreme-append, no_extreme, turned_twice}
use Rattle.table_model.specs.Values.{lesser, greater, greatest}
use Rattle.transpose_order.specs.Mask.{has}
use Rattle.table_model.specs.Extreme.{extreme_of, further, turned}
use Rattle.query_eval.specs.Forms.{least_number, top_of}
use Rattle.query_eval.specs.Slices.{values_below}
use Rattle.table_model.specs.declared.extreme.Extreme.{Extreme}
use Rattle.table_model.specs.declared.extreme.Extreme.TheVariants.{Least, Greatest}
use Rattle.query_eval.specs.declared.tallies.tally.TallyKind.TheVariants as kinds
use Rattle.query_eval.proofs.MaskedLemmas.{values_more}

-- ---- sides
pub same_side : (e f : Extreme) → kinds.Extreme e ≡ kinds.Extreme f → e ≡ f
same_side e f h = cc

-- ---- values more
pub extreme_many : (e : Extreme) (before after one : Option ℤ) (added : List ℤ) → one ≡ extreme_of e added → after ≡ further e before one → (values : List ℤ) → before ≡ extreme_of e values → after ≡ extreme_of e (values ++ added)
extreme_many e before after one added is now values h = now ∙ ap (λ o. further e o one) h ∙ ap (further e (extreme_of e values)) is ∙ sym (extreme-append e values added)

-- ---- the greatest of turned values
max_least : (x : ℤ) → FitsSigned w64 x → int_max x least_number ≡ x
max_least x fits = omega (arith, ints, clamps)

least_max : (x : ℤ) → FitsSigned w64 x → int_max least_number x ≡ x
least_max x fits = omega (arith, ints, clamps)

top_one : (o : Option ℤ) (x : ℤ) → FitsSigned w64 x → unwrap_or (greater o (Some x)) least_number ≡ int_max (unwrap_or o least_number) x
top_one None x fits = sym (least_max x fits)
top_one (Some y) x fits = refl

one_turned : (e : Extreme) (b : Bool) (z : ℤ) → map (turned e) (cond b (z ∷ []) []) ≡ cond b (turned e z ∷ []) []
one_turned e true z = refl
one_turned e false z = refl

pub top_more : (e : Extreme) (k : ℕ) (rows : List Bool) (values : List ℤ) (b : Bool) (top x : ℤ) → has rows k ≡ b → FitsSigned w64 top → FitsSigned w64 x → top ≡ top_of (map (turned e) (values_below k rows values)) → x ≡ cond b (turned e (get_or values k (pos 0))) least_number → int_max top x ≡ top_of (map (turned e) (values_below (k + 1) rows values))
top_more e k rows values b top x on fits also before is = one b is ∙ ap top_of (sym now)
  where
    front : List ℤ
    front = map (turned e) (values_below k rows values)

    z : ℤ
    z = turned e (get_or values k (pos 0))

    now : map (turned e) (values_below (k + 1) rows values) ≡ front ++ cond b (z ∷ []) []
    now =
        ap (map (turned e)) (values_more k rows values b on) ∙ map-append (turned e) (values_below k rows values) (cond b (get_or values k (pos 0) ∷ []) [])
        ∙ ap (λ l. front ++ l) (one_turned e b (get_or values k (pos 0)))

    one : (c : Bool) → x ≡ cond c z least_number → int_max top x ≡ top_of (front ++ cond c (z ∷ []) [])
    one true at =
        ap (λ y. int_max y x) before ∙ sym (top_one (greatest front) x also) ∙ ap (λ y. unwrap_or (greater (greatest front) (Some y)) least_number) at
        ∙ ap (λ o. unwrap_or o least_number) (sym (greatest-append front (z ∷ [])))
    one false at = ap (int_max top) at ∙ max_least top fits ∙ before ∙ ap top_of (sym (append-nil front))

-- the greatest is below a bound, one value more
top_within : (o : Option ℤ) (x bound : ℤ) → unwrap_or o least_number ≤ℤ bound → x ≤ℤ bound → unwrap_or (greater o (Some x)) least_number ≤ℤ bound
top_within None x bound h small = small
top_within (Some y) x bound h small = omega (arith, ints, clamps, h, small)

pub top_bounded : (e : Extreme) (k : ℕ) (rows : List Bool) (values : List ℤ) (b : Bool) (x bound : ℤ) → has rows k ≡ b → x ≡ cond b (turned e (get_or values k (pos 0))) least_number → x ≤ℤ bound → top_of (map (turned e) (values_below k rows values)) ≤ℤ bound → top_of (map (turned e) (values_below (k + 1) rows values)) ≤ℤ bound
top_bounded e k rows values true x bound on is small before =
    let front : List ℤ = map (turned e) (values_below k rows values) in
    let z : ℤ = turned e (get_or values k (pos 0)) in
    let now : map (turned e) (values_below (k + 1) rows values) ≡ front ++ z ∷ [] = ap (map (turned e)) (values_more k rows values true on) ∙ map-append (turned e) (values_below k rows values) (get_or values k (pos 0) ∷ []) in
    subst (λ (o : Option ℤ). unwrap_or o least_number ≤ℤ bound) (sym (ap greatest now ∙ greatest-append front (z ∷ []))) (top_within (greatest front) z bound before (subst (λ (y : ℤ). y ≤ℤ bound) is small))
top_bounded e k rows values false x bound on is small before = subst (λ (zs : List ℤ). top_of (map (turned e) zs) ≤ℤ bound) (sym (values_more k rows values false on ∙ append-nil (values_below k rows values))) before

-- ---- an extreme by the greatest of the turned values
turned_min : (x y : ℤ) → int_min x (negsuc 0 -ℤ y) ≡ negsuc 0 -ℤ int_max (negsuc 0 -ℤ x) y
turned_min x y = omega (arith, ints, clamps)

-- one value more on the side of an extreme
more_extreme : (e : Extreme) (z : ℤ) (zs : List ℤ) (o : Option ℤ) → extreme_of e zs ≡ option_map (turned e) o → extreme_of e (z ∷ zs) ≡ option_map (turned e) (greater (Some (turned e z)) o)
more_extreme Least z zs None h = ap (lesser (Some z)) h ∙ ap Some (sym (turned_twice Least z))
more_extreme Least z zs (Some y) h = ap (lesser (Some z)) h ∙ ap Some (turned_min z y)
more_extreme Greatest z zs None h = ap (greater (Some z)) h
more_extreme Greatest z zs (Some y) h = ap (greater (Some z)) h

turned_extreme : (e : Extreme) (zs : List ℤ) → extreme_of e zs ≡ option_map (turned e) (greatest (map (turned e) zs))
turned_extreme e [] = no_extreme e
turned_extreme e (z ∷ zs) = more_extreme e z zs (greatest (map (turned e) zs)) (turned_extreme e zs)

some_greatest : (z : ℤ) (o : Option ℤ) → greater (Some z) o ≢ None
some_greatest z None = λ e. absurd (cc)
some_greatest z (Some y) = λ e. absurd (cc)

none_turned : (e : Extreme) (zs : List ℤ) → greatest (map (turned e) zs) ≡ None → zs ≡ []
none_turned e [] h = refl
none_turned e (z ∷ zs) h = absurd (some_greatest (turned e z) (greatest (map (turned e) zs)) h)

-- over some values, and over none
pub extreme_some : (e : Extreme) (zs : List ℤ) (top : ℤ) → top ≡ top_of (map (turned e) zs) → (top ≡ least_number → zs ≢ []) → Some (turned e top) ≡ extreme_of e zs
extreme_some e zs top is some = by_greatest (greatest (map (turned e) zs)) refl
  where
    by_greatest : (o : Option ℤ) → greatest (map (turned e) zs) ≡ o → Some (turned e top) ≡ extreme_of e zs
    by_greatest None h = absurd (some (is ∙ ap (λ o. unwrap_or o least_number) h) (none_turned e zs h))
    by_greatest (Some y) h = ap (λ z. Some (turned e z)) (is ∙ ap (λ o. unwrap_or o least_number) h) ∙ sym (turned_extreme e zs ∙ ap (option_map (turned e)) h)

-- ---- values that an extreme is not behind
past_none : (e : Extreme) (b : ℤ) → further e (Some b) None ≡ Some b
past_none Least b = refl
past_none Greatest b = refl

past_some : (e : Extreme) (b y : ℤ) → y ≤ℤ turned e b → further e (Some b) (Some (turned e y)) ≡ Some b
past_some Least b y h = ap Some (let e : int_min b (negsuc 0 -ℤ y) ≡ b = omega (arith, ints, clamps, h) in e)
past_some Greatest b y h = ap Some (let e : int_max b y ≡ b = omega (arith, ints, clamps, h) in e)

pub extreme_reached : (e : Extreme) (b bound : ℤ) (zs : List ℤ) → bound ≤ℤ turned e b → top_of (map (turned e) zs) ≤ℤ bound → further e (Some b) (extreme_of e zs) ≡ Some b
extreme_reached e b bound zs reached small = by_greatest (greatest (map (turned e) zs)) refl
  where
    by_greatest : (o : Option ℤ) → greatest (map (turned e) zs) ≡ o → further e (Some b) (extreme_of e zs) ≡ Some b
    by_greatest None h = ap (further e (Some b)) (turned_extreme e zs ∙ ap (option_map (turned e)) h) ∙ past_none e b
    by_greatest (Some y) h =
        let top : top_of (map (turned e) zs) ≡ y = ap (λ o. unwrap_or o least_number) h in
        ap (further e (Some b)) (turned_extreme e zs ∙ ap (option_map (turned e)) h) ∙ past_some e b y (omega (arith, ints, top, small, reached))

pub extreme_none : (e : Extreme) (zs : List ℤ) → zs ≡ [] → None ≡ extreme_of e zs
extreme_none e zs h = sym (ap (extreme_of e) h ∙ no_extreme e)
