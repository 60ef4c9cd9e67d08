-- What is kept of two lists of values is what is kept of each, added; adding is commutative and associative.
use Rattle.std.specs.Prelude.{◌≡◌, ℕ, ◌+◌, true, false, cond, ◌||◌, T, List, [], ◌∷◌, ◌++◌, map as each, length, is_some, Option, Some, None, ℤ, pos, ◌+ℤ◌}
use Rattle.std.proofs.Common.{refl, sym, ap, ◌∙◌, arith, length-append}
use Rattle.std.specs.List.{list_any}
use Rattle.std.specs.Ordering.{int_cmp, int_eq, is_eq}
use Rattle.std.specs.FinMap as map
use Rattle.std.specs.FinMap.Entries.{find, below_all, is_sorted}
use Rattle.std.proofs.lemmas.Cmp.{int_cmp_total}
use Rattle.std.proofs.lemmas.Int.{ints, clamps}
use Rattle.std.proofs.lemmas.List.{map-append, length-map}
use Rattle.std.proofs.lemmas.List.Folds.{list_any-append}
use Rattle.std.specs.Int.{int_min, int_max}
use Rattle.table_model.specs.Answer.{whole, millionths}
use Rattle.table_model.specs.Group.{values_in}
use Rattle.table_model.specs.Meaning.{fold_value}
use Rattle.table_model.specs.State.{Cells}
use Rattle.table_model.specs.Values.{distinct, or_null, lesser, greater}
use Rattle.table_model.specs.declared.answer.Field.TheVariants.{Whole}
use Rattle.table_model.specs.declared.query.Fold.{Fold}
use Rattle.table_model.specs.declared.query.Fold.TheVariants.{Count, Sum, Avg, Min, Max}
use Rattle.table_model.proofs.AnswerOrder.{fold_value-alike}
use Rattle.table_model.proofs.Alike.{list_any-alike, length-alike, total-alike, least-alike, greatest-alike, Rearranged-map}
use Rattle.table_model.proofs.Appended.{total-append, lesser-assoc, least-append, greater-assoc, greatest-append}
use Rattle.table_model.proofs.Groups.{values_in-append, values_in-alike}
use Rattle.table_model.proofs.Parts.{AreApart}
use Rattle.table_model.proofs.Passed.{first_of_both, second_of_both, less_is}
use Rattle.table_model.proofs.Rearranged.{Rearranged}
use Rattle.table_model.proofs.SameMembers.{distinct-alike}
use Rattle.query_eval.specs.Aggregate.{aggregate_value}
use Rattle.query_eval.specs.Grouping.{aggregate_values}
use Rattle.query_eval.specs.TallyKinds.{aggregate_kind}
use Rattle.query_eval.specs.declared.tallies.aggregate.Aggregate.{Aggregate}
use Rattle.query_eval.specs.declared.tallies.aggregate.Aggregate.TheVariants.{Rows, Folded}
use Rattle.table_model.specs.declared.extreme.Extreme.TheVariants.{Least, Greatest}
use Rattle.query_eval.specs.declared.tallies.tally.TallyKind.{TallyKind}
use Rattle.query_eval.specs.declared.tallies.tally.TallyKind.TheVariants as kinds
use Rattle.partial_answers.specs.PartialAnswer.{Seen, set_of, union, Tally, kept_of, tally_of, plus, unless_none, field_of, Tallies, tallies_of, pluses}
use Rattle.partial_answers.proofs.Lists.{or_else, or_else-same, or_else-assoc, find-append}

-- ---- sets of values
abbrev Marked : Type 0
Marked = List (ℤ × Unit {0})

abbrev marked : ℤ → ℤ × Unit {0}
marked z = (z, tt)

abbrev firsts : Marked → List ℤ
firsts es = each (λ (e : ℤ × Unit {0}). e.0) es

same_sets : (s t : Seen) → ((q : ℤ) → map.get s q ≡ map.get t q) → s ≡ t
same_sets s t alike = map.same_map int_cmp_total map.int_cmp-IsAntisymmetric s t alike

get-union : (s t : Seen) (q : ℤ) → map.get (union s t) q ≡ or_else (map.get s q) (map.get t q)
unfolding union
get-union s t q =
    map.get-from_entries int_cmp_total (map.entries s ++ map.entries t) q
    ∙ find-append int_cmp (map.entries s) (map.entries t) q
    ∙ sym (λ i. or_else (map.get-entries s q i) (map.get-entries t q i))

one_mark : (a b : Option (Unit {0})) → or_else a b ≡ or_else b a
one_mark a b = or_else-same a b (λ x y. refl)

pub union-commutes : (s t : Seen) → union s t ≡ union t s
union-commutes s t = same_sets _ _ (λ q. get-union s t q ∙ one_mark (map.get s q) (map.get t q) ∙ sym (get-union t s q))

pub union-assoc : (s t u : Seen) → union (union s t) u ≡ union s (union t u)
union-assoc s t u = same_sets _ _ (λ q.
    get-union (union s t) u q ∙ ap (λ o. or_else o (map.get u q)) (get-union s t q)
    ∙ or_else-assoc (map.get s q) (map.get t q) (map.get u q)
    ∙ sym (get-union s (union t u) q ∙ ap (or_else (map.get s q)) (get-union t u q)))

none_seen : Seen
none_seen = map.empty

union-none : union none_seen none_seen ≡ none_seen
unfolding none_seen
union-none = same_sets _ _ (λ q. get-union map.empty map.empty q ∙ (λ i. or_else (map.get-empty int_cmp q i) (map.get-empty int_cmp q i)) ∙ sym (map.get-empty int_cmp q))

get-set_of : (zs : List ℤ) (q : ℤ) → map.get (set_of zs) q ≡ find int_cmp q (each marked zs)
unfolding set_of
get-set_of zs q = map.get-from_entries int_cmp_total (each marked zs) q

pub set_of-none : set_of [] ≡ (let s : Seen = map.empty in s)
unfolding none_seen
set_of-none = same_sets _ _ (λ q. get-set_of [] q ∙ sym (map.get-empty int_cmp q))

set_of-append : (xs ys : List ℤ) → set_of (xs ++ ys) ≡ union (set_of xs) (set_of ys)
set_of-append xs ys = same_sets _ _ (λ q.
    get-set_of (xs ++ ys) q ∙ ap (find int_cmp q) (map-append marked xs ys) ∙ find-append int_cmp (each marked xs) (each marked ys) q
    ∙ sym (get-union (set_of xs) (set_of ys) q ∙ (λ i. or_else (get-set_of xs q i) (get-set_of ys q i))))

is_some-marked : (zs : List ℤ) (q : ℤ) → is_some (find int_cmp q (each marked zs)) ≡ list_any (int_eq q) zs
is_some-marked [] q = refl
is_some-marked (z ∷ zs) q = elim (int_eq q z) as (λ b. is_some (cond b (Some tt) (find int_cmp q (each marked zs))) ≡ (b || list_any (int_eq q) zs)) [ true ↦ refl | false ↦ is_some-marked zs q ]

member : (zs : List ℤ) (q : ℤ) → list_any (int_eq q) (map.keys (set_of zs)) ≡ list_any (int_eq q) zs
member zs q = sym (map.contains_key-keys (set_of zs) q) ∙ ap is_some (get-set_of zs q) ∙ is_some-marked zs q

below : (z : ℤ) (es : Marked) → T (below_all int_cmp z es) → list_any (int_eq z) (firsts es) ≡ false
below z [] h = refl
below z (e ∷ es) h = ap (λ o. is_eq o || list_any (int_eq z) (firsts es)) (less_is (int_cmp z e.0) (first_of_both _ _ h)) ∙ below z es (second_of_both _ _ h)

apart : (es : Marked) → T (is_sorted int_cmp es) → AreApart int_eq (firsts es)
apart [] h = tt
apart (e ∷ es) h = (below e.0 es (first_of_both _ _ h), apart es (second_of_both _ _ h))

-- a set function under DISTINCT is that of the set
pub fold-set_of : (fold : Fold) (zs : List ℤ) → fold_value fold (map.keys (set_of zs)) ≡ fold_value fold (distinct zs)
fold-set_of fold zs = fold_value-alike fold _ _ (distinct-alike (map.keys (set_of zs)) zs (apart (map.entries (set_of zs)) (map.entries_sorted (set_of zs))) (member zs))

-- ---- tallies
add-comm : (m n : ℕ) → m + n ≡ n + m
add-comm m n = omega arith

add-assoc : (m n k : ℕ) → (m + n) + k ≡ m + (n + k)
add-assoc m n k = omega arith

int-comm : (x y : ℤ) → x +ℤ y ≡ y +ℤ x
int-comm x y = omega (arith, ints)

int-assoc : (x y z : ℤ) → (x +ℤ y) +ℤ z ≡ x +ℤ (y +ℤ z)
int-assoc x y z = omega (arith, ints)

min_comm : (x y : ℤ) → int_min x y ≡ int_min y x
min_comm x y = omega (arith, ints, clamps)

max_comm : (x y : ℤ) → int_max x y ≡ int_max y x
max_comm x y = omega (arith, ints, clamps)

lesser-comm : (a b : Option ℤ) → lesser a b ≡ lesser b a
lesser-comm None None = refl
lesser-comm None (Some y) = refl
lesser-comm (Some x) None = refl
lesser-comm (Some x) (Some y) = ap Some (min_comm x y)

greater-comm : (a b : Option ℤ) → greater a b ≡ greater b a
greater-comm None None = refl
greater-comm None (Some y) = refl
greater-comm (Some x) None = refl
greater-comm (Some x) (Some y) = ap Some (max_comm x y)

-- tallies of the same fields are the same
pub tally_is : (s t : Tally) → s.count ≡ t.count → s.sum ≡ t.sum → s.lowest ≡ t.lowest → s.highest ≡ t.highest → s.seen ≡ t.seen → s ≡ t
tally_is s t a b c d e = λ i. record { count = a i; sum = b i; lowest = c i; highest = d i; seen = e i }

pub plus-comm : (s t : Tally) → plus s t ≡ plus t s
plus-comm s t = tally_is _ _ (add-comm s.count t.count) (int-comm s.sum t.sum) (lesser-comm s.lowest t.lowest) (greater-comm s.highest t.highest) (union-commutes s.seen t.seen)

pub plus-assoc : (s t u : Tally) → plus (plus s t) u ≡ plus s (plus t u)
plus-assoc s t u = tally_is _ _ (add-assoc s.count t.count u.count) (int-assoc s.sum t.sum u.sum) (sym (lesser-assoc s.lowest t.lowest u.lowest)) (sym (greater-assoc s.highest t.highest u.highest)) (union-assoc s.seen t.seen u.seen)

pub kept-append : (kind : TallyKind) (xs ys : List ℤ) → kept_of kind (xs ++ ys) ≡ plus (kept_of kind xs) (kept_of kind ys)
unfolding none_seen
kept-append kinds.Count xs ys = tally_is _ _ (length-append xs ys) refl refl refl (sym union-none)
kept-append kinds.Sum xs ys = tally_is _ _ (length-append xs ys) (total-append xs ys) refl refl (sym union-none)
kept-append (kinds.Extreme Least) xs ys = tally_is _ _ refl refl (least-append xs ys) refl (sym union-none)
kept-append (kinds.Extreme Greatest) xs ys = tally_is _ _ refl refl refl (greatest-append xs ys) (sym union-none)
kept-append kinds.Distinct xs ys = tally_is _ _ refl refl refl refl (set_of-append xs ys)

values-append : (a : Aggregate) (xs ys : List Cells) → aggregate_values a (xs ++ ys) ≡ aggregate_values a xs ++ aggregate_values a ys
values-append Rows xs ys = map-append (λ _. pos 0) xs ys
values-append (Folded fold distinct place) xs ys = values_in-append place xs ys

pub tally-append : (a : Aggregate) (xs ys : List Cells) → tally_of (xs ++ ys) a ≡ plus (tally_of xs a) (tally_of ys a)
tally-append a xs ys = ap (kept_of (aggregate_kind a)) (values-append a xs ys) ∙ kept-append (aggregate_kind a) (aggregate_values a xs) (aggregate_values a ys)

-- what is kept doesn't depend on the order
pub same_members : (xs ys : List ℤ) → ((z : ℤ) → list_any (int_eq z) xs ≡ list_any (int_eq z) ys) → set_of xs ≡ set_of ys
same_members xs ys alike = same_sets _ _ (λ q.
    one_answer (map.get (set_of xs) q) (map.get (set_of ys) q)
    (ap is_some (get-set_of xs q) ∙ is_some-marked xs q ∙ alike q ∙ sym (ap is_some (get-set_of ys q) ∙ is_some-marked ys q)))
  where
    one_answer : (a b : Option (Unit {0})) → is_some a ≡ is_some b → a ≡ b
    one_answer None None e = refl
    one_answer None (Some y) e = cc
    one_answer (Some x) None e = cc
    one_answer (Some x) (Some y) e = refl

set_of-alike : (xs ys : List ℤ) → Rearranged xs ys → set_of xs ≡ set_of ys
set_of-alike xs ys h = same_members xs ys (λ z. list_any-alike (int_eq z) xs ys h)

kept-alike : (kind : TallyKind) (xs ys : List ℤ) → Rearranged xs ys → kept_of kind xs ≡ kept_of kind ys
kept-alike kinds.Count xs ys h = tally_is _ _ (length-alike xs ys h) refl refl refl refl
kept-alike kinds.Sum xs ys h = tally_is _ _ (length-alike xs ys h) (total-alike xs ys h) refl refl refl
kept-alike (kinds.Extreme Least) xs ys h = tally_is _ _ refl refl (least-alike xs ys h) refl refl
kept-alike (kinds.Extreme Greatest) xs ys h = tally_is _ _ refl refl refl (greatest-alike xs ys h) refl
kept-alike kinds.Distinct xs ys h = tally_is _ _ refl refl refl refl (set_of-alike xs ys h)

values-alike : (a : Aggregate) (xs ys : List Cells) → Rearranged xs ys → Rearranged (aggregate_values a xs) (aggregate_values a ys)
values-alike Rows xs ys h = Rearranged-map (λ _. pos 0) xs ys h
values-alike (Folded fold distinct place) xs ys h = values_in-alike place xs ys h

pub tallies-alike : (aggregates : List Aggregate) (xs ys : List Cells) → Rearranged xs ys → tallies_of aggregates xs ≡ tallies_of aggregates ys
tallies-alike aggregates xs ys h = ap (λ (f : Aggregate → Tally). each f aggregates) (λ i a. kept-alike (aggregate_kind a) _ _ (values-alike a xs ys h) i)

-- ---- the values of set functions
or_null-is : (zs : List ℤ) (n : ℤ) → unless_none (length zs) n ≡ or_null zs n
or_null-is [] n = refl
or_null-is (z ∷ zs) n = refl

pub field-tally : (a : Aggregate) (rows : List Cells) → field_of a (tally_of rows a) ≡ aggregate_value a rows
field-tally Rows rows = ap (λ n. Whole (pos n)) (length-map rows (λ _. pos 0))
field-tally (Folded fold true place) rows = fold-set_of fold (values_in place rows)
field-tally (Folded Count false place) rows = refl
field-tally (Folded Sum false place) rows = ap whole (or_null-is (values_in place rows) _)
field-tally (Folded Avg false place) rows = ap millionths (or_null-is (values_in place rows) _)
field-tally (Folded Min false place) rows = refl
field-tally (Folded Max false place) rows = refl

-- ---- lists of tallies
pub pluses-comm : (ss ts : Tallies) → pluses ss ts ≡ pluses ts ss
pluses-comm [] [] = refl
pluses-comm [] (t ∷ ts) = refl
pluses-comm (s ∷ ss) [] = refl
pluses-comm (s ∷ ss) (t ∷ ts) = λ i. plus-comm s t i ∷ pluses-comm ss ts i

pub pluses-assoc : (ss ts us : Tallies) → pluses (pluses ss ts) us ≡ pluses ss (pluses ts us)
pluses-assoc [] ts us = refl
pluses-assoc (s ∷ ss) [] us = refl
pluses-assoc (s ∷ ss) (t ∷ ts) [] = refl
pluses-assoc (s ∷ ss) (t ∷ ts) (u ∷ us) = λ i. plus-assoc s t u i ∷ pluses-assoc ss ts us i

pub tallies-append : (aggregates : List Aggregate) (xs ys : List Cells) → tallies_of aggregates (xs ++ ys) ≡ pluses (tallies_of aggregates xs) (tallies_of aggregates ys)
tallies-append [] xs ys = refl
tallies-append (a ∷ rest) xs ys = λ i. tally-append a xs ys i ∷ tallies-append rest xs ys i

-- ---- what the code adds
pub union-empty : (let s : Seen = map.empty in union s s) ≡ map.empty
unfolding none_seen
union-empty = union-none

pub set_of-both : (both xs ys : List ℤ) → ((z : ℤ) → list_any (int_eq z) both ≡ (list_any (int_eq z) xs || list_any (int_eq z) ys)) → set_of both ≡ union (set_of xs) (set_of ys)
set_of-both both xs ys h = same_members both (xs ++ ys) (λ z. h z ∙ sym (list_any-append (int_eq z) xs ys)) ∙ set_of-append xs ys
