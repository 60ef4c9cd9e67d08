-- Columns of numbers of groups: a comparison by which number is below the other, and predicates by their columns.
use Rattle.std.proofs.Common.{◌≡◌, ◌≢◌, ℕ, ◌+◌, ◌<◌, ◌≤◌, ◌⊎◌, inl, inr, Bool, true, false, cond, ◌&&◌, ◌||◌, not, nat_le, nat_lt, List, [], ◌∷◌, ◌++◌, length, length-append, get_or, set, get_or-set_other, get_or-set_same, Option, Some, None, IfSome, ℤ, pos, int_lt, refl, sym, ap, subst, ◌∙◌, arith}
use Rattle.std.specs.Ordering.{int_eq}
use Rattle.std.proofs.Math.Seq.{get_or-append_seam}
use Rattle.std.proofs.lemmas.Bool.{cases_lt}
use Rattle.std.proofs.lemmas.Bool.Decides.{nat_tests}
use Rattle.std.proofs.lemmas.Int.{ints}
use Rattle.std.proofs.lemmas.List.{get_or_append_left, get_or_past}
use Rattle.table_model.proofs.Predicates.{cells_compared}
use Rattle.table_model.proofs.TruthPairs.{is_true-truth_of, is_false-truth_of}
use Rattle.table_model.specs.Answer.{whole}
use Rattle.table_model.specs.Condition.{between, field_comparison, is_among, is_null, not_if}
use Rattle.table_model.specs.Truth.{and_of, compared, comparison, is_false, is_true, truth_of}
use Rattle.table_model.specs.declared.answer.Field.{Field}
use Rattle.table_model.specs.declared.answer.Field.TheVariants.{Null, Whole}
use Rattle.table_model.specs.declared.op.Op.{Op}
use Rattle.table_model.specs.declared.op.Op.TheVariants.{Equal, NotEqual, Less, LessOrEqual, Greater, GreaterOrEqual}
use Rattle.table_model.specs.declared.query.Operand.{Operand}
use Rattle.table_model.specs.declared.query.Predicate.{Predicate}
use Rattle.table_model.specs.declared.query.Predicate.TheVariants.{Compare, Between, In, IsNull}
use Rattle.table_model.specs.declared.truth.Truth.{Truth}
use Rattle.transpose_order.specs.Mask.{has, rows_of}
use Rattle.transpose_order.specs.MaskWords.{has-rows_of, rows_of-like}
use Rattle.query_eval.specs.Decoded.{value_unless}
use Rattle.query_eval.specs.FieldPlaces.{field_in, group_at, placed_truth}
use Rattle.query_eval.specs.Finished.{GroupFields}
use Rattle.query_eval.specs.GroupNumbers.{AreNumbers}
use Rattle.query_eval.specs.Where.{IsPair}
use Rattle.query_eval.specs.declared.answers.field_places.FieldPlace.{FieldPlace}
use Rattle.query_eval.specs.declared.answers.field_places.PredicatePlaces.{PredicatePlaces}
use Rattle.query_eval.specs.declared.answers.group_numbers.Numbers.{Numbers}
use Rattle.query_eval.specs.declared.filter.pair.Pair.{Pair}
use Rattle.query_eval.proofs.PairLemmas.{is_no, is_yes}
use Rattle.query_eval.proofs.PredicateLemmas.{pair_alike}

-- ---- comparisons by which number is below the other
equal_by : (x y : ℤ) → int_eq x y ≡ not (int_lt x y || int_lt y x)
equal_by x y = grind (arith, ints)

differs_by : (x y : ℤ) → not (int_eq x y) ≡ (int_lt x y || int_lt y x)
differs_by x y = grind (arith, ints)

at_most_by : (x y : ℤ) → compared LessOrEqual x y ≡ not (int_lt y x)
at_most_by x y = grind (arith, ints)

at_least_by : (x y : ℤ) → compared GreaterOrEqual x y ≡ not (int_lt x y)
at_least_by x y = grind (arith, ints)

abbrev below : List ℤ → List ℤ → ℕ → Bool
below left right n = int_lt (get_or left n (pos 0)) (get_or right n (pos 0))

abbrev pub holds_at : Op → List ℤ → List ℤ → ℕ → Bool
holds_at op left right n = compared op (get_or left n (pos 0)) (get_or right n (pos 0))

module _ (left right : List ℤ) (low high either : List Bool) (low_is : low ≡ rows_of (below left right)) (high_is : high ≡ rows_of (below right left)) (either_is : either ≡ rows_of (λ n. has low n || has high n)) where
  one_below : (n : ℕ) → n < 1024 → has either n ≡ (below left right n || below right left n)
  one_below n l =
      ap (λ m. has m n) either_is ∙ has-rows_of (λ n. has low n || has high n) n l
      ∙ ap (λ b. b || has high n) (ap (λ m. has m n) low_is ∙ has-rows_of (below left right) n l)
      ∙ ap (λ b. below left right n || b) (ap (λ m. has m n) high_is ∙ has-rows_of (below right left) n l)

  pub rows_differ : either ≡ rows_of (holds_at NotEqual left right)
  rows_differ = either_is ∙ rows_of-like _ _ (λ n l. sym (has-rows_of (λ n. has low n || has high n) n l) ∙ sym (ap (λ m. has m n) either_is) ∙ one_below n l ∙ sym (differs_by (get_or left n (pos 0)) (get_or right n (pos 0))))

  pub rows_equal : (found : List Bool) → found ≡ rows_of (λ n. not (has either n)) → found ≡ rows_of (holds_at Equal left right)
  rows_equal found e = e ∙ rows_of-like _ _ (λ n l. ap not (one_below n l) ∙ sym (equal_by (get_or left n (pos 0)) (get_or right n (pos 0))))

pub rows_at_least : (left right : List ℤ) (low found : List Bool) → low ≡ rows_of (below left right) → found ≡ rows_of (λ n. not (has low n)) → found ≡ rows_of (holds_at GreaterOrEqual left right)
rows_at_least left right low found e f = f ∙ rows_of-like _ _ (λ n l. ap not (ap (λ m. has m n) e ∙ has-rows_of (below left right) n l) ∙ sym (at_least_by (get_or left n (pos 0)) (get_or right n (pos 0))))

pub rows_at_most : (left right : List ℤ) (high found : List Bool) → high ≡ rows_of (below right left) → found ≡ rows_of (λ n. not (has high n)) → found ≡ rows_of (holds_at LessOrEqual left right)
rows_at_most left right high found e f = f ∙ rows_of-like _ _ (λ n l. ap not (ap (λ m. has m n) e ∙ has-rows_of (below right left) n l) ∙ sym (at_most_by (get_or left n (pos 0)) (get_or right n (pos 0))))

-- the same rows, of a comparison by another name
pub rows_by : (op other : Op) (left right : List ℤ) (found : List Bool) → op ≡ other → found ≡ rows_of (holds_at other left right) → found ≡ rows_of (holds_at op left right)
rows_by op other left right found e h = subst (λ (o : Op). found ≡ rows_of (holds_at o left right)) (sym e) h

-- ---- pairs of masks by columns
known_holds : (m a b h : Bool) (op : Op) (x y : ℤ) → h ≡ compared op x y → ((m && not (a || b)) && h) ≡ (m && is_true (comparison op (cond a None (Some x)) (cond b None (Some y))))
known_holds false a b h op x y e = refl
known_holds true true b h op x y e = refl
known_holds true false true h op x y e = refl
known_holds true false false h op x y e = e ∙ sym (is_true-truth_of (compared op x y))

known_fails : (m a b h : Bool) (op : Op) (x y : ℤ) → h ≡ compared op x y → ((m && not (a || b)) && not h) ≡ (m && is_false (comparison op (cond a None (Some x)) (cond b None (Some y))))
known_fails false a b h op x y e = refl
known_fails true true b h op x y e = refl
known_fails true false true h op x y e = refl
known_fails true false false h op x y e = ap not e ∙ sym (is_false-truth_of (compared op x y))

module _ (op : Op) (xs ys : List ℤ) (a b mask either known holds : List Bool) (pair : Pair) (either_is : either ≡ rows_of (λ n. has a n || has b n)) (known_is : known ≡ rows_of (λ n. has mask n && not (has either n))) (holds_is : holds ≡ rows_of (holds_at op xs ys)) where
  is_known : (n : ℕ) → n < 1024 → has known n ≡ (has mask n && not (has a n || has b n))
  is_known n l = ap (λ m. has m n) known_is ∙ has-rows_of (λ n. has mask n && not (has either n)) n l ∙ ap (λ x. has mask n && not x) (ap (λ m. has m n) either_is ∙ has-rows_of (λ n. has a n || has b n) n l)

  does_hold : (n : ℕ) → n < 1024 → has holds n ≡ holds_at op xs ys n
  does_hold n l = ap (λ m. has m n) holds_is ∙ has-rows_of (holds_at op xs ys) n l

  abbrev judged : ℕ → Truth
  judged n = comparison op (value_unless a xs n) (value_unless b ys n)

  pub pair_compared : pair.yes ≡ rows_of (λ n. has known n && has holds n) → pair.no ≡ rows_of (λ n. has known n && not (has holds n)) → IsPair mask (λ n. comparison op (value_unless a xs n) (value_unless b ys n)) pair
  pair_compared e f = record {
    yes = e ∙ is_yes mask judged _ (λ n l. ap (λ x. x && has holds n) (is_known n l) ∙ known_holds (has mask n) (has a n) (has b n) (has holds n) op (get_or xs n (pos 0)) (get_or ys n (pos 0)) (does_hold n l));
    no = f ∙ is_no mask judged _ (λ n l. ap (λ x. x && not (has holds n)) (is_known n l) ∙ known_fails (has mask n) (has a n) (has b n) (has holds n) op (get_or xs n (pos 0)) (get_or ys n (pos 0)) (does_hold n l));
  }

is_there : (m a : Bool) (z : ℤ) → (m && a) ≡ (m && is_true (truth_of (is_null (whole (cond a None (Some z))))))
is_there m true z = refl
is_there m false z = refl

is_absent : (m a : Bool) (z : ℤ) → (m && not a) ≡ (m && is_false (truth_of (is_null (whole (cond a None (Some z))))))
is_absent m true z = refl
is_absent m false z = refl

pub pair_null : (nulls mask : List Bool) (values : List ℤ) (pair : Pair) → pair.yes ≡ rows_of (λ n. has mask n && has nulls n) → pair.no ≡ rows_of (λ n. has mask n && not (has nulls n)) → IsPair mask (λ n. truth_of (is_null (whole (value_unless nulls values n)))) pair
pair_null nulls mask values pair e f = record {
  yes = e ∙ is_yes mask (λ n. truth_of (is_null (whole (value_unless nulls values n)))) _ (λ n l. is_there (has mask n) (has nulls n) (get_or values n (pos 0)));
  no = f ∙ is_no mask (λ n. truth_of (is_null (whole (value_unless nulls values n)))) _ (λ n l. is_absent (has mask n) (has nulls n) (get_or values n (pos 0)));
}

-- ---- predicates by the columns of their operands
module _ (groups : List GroupFields) (predicate : Predicate) (at : PredicatePlaces) (mask : List Bool) (pair : Pair) where
  abbrev cell_of : Numbers → ℕ → Option ℤ
  cell_of numbers n = value_unless numbers.nulls numbers.values n

  abbrev Judged : Predicate → Type 0
  Judged p = IsPair mask (λ n. placed_truth p at (group_at groups n)) pair

  fields_compared : (op : Op) (x y : FieldPlace) (a b : Numbers) → AreNumbers groups x a → AreNumbers groups y b → (n : ℕ) → n < 1024 → comparison op (cell_of a n) (cell_of b n) ≡ field_comparison op (field_in (group_at groups n) x) (field_in (group_at groups n) y)
  fields_compared op x y a b f g n l =
      sym (ap (λ (u : Field). field_comparison op u (field_in (group_at groups n) y)) (f n l) ∙ ap (λ (u : Field). field_comparison op (whole (cell_of a n)) u) (g n l) ∙ cells_compared op (cell_of a n) (cell_of b n))

  pub by_compare : (left right : Operand) (op : Op) (a b : Numbers) → predicate ≡ Compare left op right → AreNumbers groups at.first a → AreNumbers groups at.second b → IsPair mask (λ n. comparison op (value_unless a.nulls a.values n) (value_unless b.nulls b.values n)) pair → Judged predicate
  by_compare left right op a b e f g p =
      subst Judged (sym e) (pair_alike mask _ (λ n. placed_truth (Compare left op right) at (group_at groups n)) pair (fields_compared op at.first at.second a b f g) p)

  pub by_between : (operand low high : Operand) (negated : Bool) (a b d : Numbers) → predicate ≡ Between operand negated low high → AreNumbers groups at.first a → AreNumbers groups at.second b → AreNumbers groups at.third d
      → IsPair mask (λ n. not_if negated (and_of (comparison GreaterOrEqual (value_unless a.nulls a.values n) (value_unless b.nulls b.values n)) (comparison LessOrEqual (value_unless a.nulls a.values n) (value_unless d.nulls d.values n)))) pair → Judged predicate
  by_between operand low high negated a b d e f g h p =
      subst Judged (sym e) (pair_alike mask _ (λ n. placed_truth (Between operand negated low high) at (group_at groups n)) pair
      (λ n l. ap (λ t. not_if negated (and_of t (comparison LessOrEqual (cell_of a n) (cell_of d n)))) (fields_compared GreaterOrEqual at.first at.second a b f g n l)
      ∙ ap (λ t. not_if negated (and_of (field_comparison GreaterOrEqual (field_in (group_at groups n) at.first) (field_in (group_at groups n) at.second)) t)) (fields_compared LessOrEqual at.first at.third a d f h n l)) p)

  pub by_in : (operand : Operand) (negated : Bool) (literals : List ℤ) (a : Numbers) → predicate ≡ In operand negated literals → AreNumbers groups at.first a → IsPair mask (λ n. not_if negated (is_among (whole (value_unless a.nulls a.values n)) literals)) pair → Judged predicate
  by_in operand negated literals a e f p =
      subst Judged (sym e) (pair_alike mask _ (λ n. placed_truth (In operand negated literals) at (group_at groups n)) pair
      (λ n l. ap (λ (x : Field). not_if negated (is_among x literals)) (sym (f n l))) p)

  pub by_null : (operand : Operand) (negated : Bool) (a : Numbers) → predicate ≡ IsNull operand negated → AreNumbers groups at.first a → IsPair mask (λ n. not_if negated (truth_of (is_null (whole (value_unless a.nulls a.values n))))) pair → Judged predicate
  by_null operand negated a e f p =
      subst Judged (sym e) (pair_alike mask _ (λ n. placed_truth (IsNull operand negated) at (group_at groups n)) pair
      (λ n l. ap (λ (x : Field). not_if negated (truth_of (is_null x))) (sym (f n l))) p)

-- ---- the numbers so far
abbrev pub NumbersBelow : List GroupFields → FieldPlace → ℕ → List Bool → List ℤ → Type 0
NumbersBelow groups at k nulls values = (n : ℕ) → n < k → field_in (group_at groups n) at ≡ whole (value_unless nulls values n)

abbrev pub NoneFrom : ℕ → List Bool → Type 0
NoneFrom k nulls = (n : ℕ) → k ≤ n → n < 1024 → has nulls n ≡ false

module _ (groups : List GroupFields) (at : FieldPlace) (k : ℕ) (nulls : List Bool) (values : List ℤ) (within : k < 1024) (done : NumbersBelow groups at k nulls values) (clear : NoneFrom k nulls) where
  here : (nat_le k k && nat_lt k (k + 1)) ≡ true
  here = grind (arith, nat_tests)

  before : (n : ℕ) → n < k → (nat_le k n && nat_lt n (k + 1)) ≡ false
  before n h = grind (arith, nat_tests)

  after : (n : ℕ) → k < n → (nat_le k n && nat_lt n (k + 1)) ≡ false
  after n h = grind (arith, nat_tests)

  module _ (more : List Bool) (is : more ≡ rows_of (λ n. cond (nat_le k n && nat_lt n (k + 1)) true (has nulls n))) where
    marked : (n : ℕ) → n < 1024 → has more n ≡ cond (nat_le k n && nat_lt n (k + 1)) true (has nulls n)
    marked n l = ap (λ m. has m n) is ∙ has-rows_of (λ n. cond (nat_le k n && nat_lt n (k + 1)) true (has nulls n)) n l

    stays : (n : ℕ) → n < 1024 → (nat_le k n && nat_lt n (k + 1)) ≡ false → has more n ≡ has nulls n
    stays n l e = marked n l ∙ ap (λ b. cond b true (has nulls n)) e

    -- a null more
    pub null_more : field_in (group_at groups k) at ≡ Null → NumbersBelow groups at (k + 1) more values
    null_more e n l = by_order (cases_lt n k)
      where
        by_order : (n < k) ⊎ (k ≤ n) → field_in (group_at groups n) at ≡ whole (value_unless more values n)
        by_order (inl m) = done n m ∙ ap (λ b. whole (cond b None (Some (get_or values n (pos 0))))) (sym (stays n (omega (arith, m, within)) (before n m)))
        by_order (inr m) =
            let same : k ≡ n = omega (arith, m, l) in
            subst (λ (i : ℕ). field_in (group_at groups i) at ≡ whole (value_unless more values i)) same
            (e ∙ ap (λ b. whole (cond b None (Some (get_or values k (pos 0))))) (sym (marked k within ∙ ap (λ b. cond b true (has nulls k)) here)))

    pub null_clear : NoneFrom (k + 1) more
    null_clear n h l = stays n l (after n (omega (arith, h))) ∙ clear n (omega (arith, h)) l

  -- a number more
  pub number_more : (z : ℤ) → length values ≡ 1024 → field_in (group_at groups k) at ≡ Whole z → NumbersBelow groups at (k + 1) nulls (set values k z)
  number_more z long e n l = by_order (cases_lt n k)
    where
      by_order : (n < k) ⊎ (k ≤ n) → field_in (group_at groups n) at ≡ whole (value_unless nulls (set values k z) n)
      by_order (inl m) =
          let ne : n ≢ k = omega (arith, m) in
          done n m ∙ ap (λ (v : ℤ). whole (cond (has nulls n) None (Some v))) (sym (get_or-set_other values k n z (pos 0) ne))
      by_order (inr m) =
          let same : k ≡ n = omega (arith, m, l) in
          subst (λ (i : ℕ). field_in (group_at groups i) at ≡ whole (value_unless nulls (set values k z) i)) same
          (e ∙ sym (ap (λ b. whole (cond b None (Some (get_or (set values k z) k (pos 0))))) (clear k (omega arith) within) ∙ ap (λ (v : ℤ). Whole v) (get_or-set_same values k z (pos 0) (omega (arith, within, long)))))

  pub number_clear : NoneFrom (k + 1) nulls
  number_clear n h l = clear n (omega (arith, h)) l

-- ---- columns so far
pub columns_more : (P : ℕ → Numbers → Type 0) (columns : List (Option Numbers)) (one : Option Numbers) (k : ℕ) → length columns ≡ k → ((p : ℕ) → IfSome (get_or columns p None) (P p)) → IfSome one (P k) → (p : ℕ) → IfSome (get_or (columns ++ one ∷ []) p None) (P p)
columns_more P columns one k long done new p = by_order (cases_lt p k)
  where
    past : (cs : List (Option Numbers)) → length cs ≤ p → get_or cs p None ≡ None
    past cs l = get_or_past cs p None l

    second : (k < p) ⊎ (p ≤ k) → k ≤ p → IfSome (get_or (columns ++ one ∷ []) p None) (P p)
    second (inl l) m = subst (λ (o : Option Numbers). IfSome o (P p)) (sym (past (columns ++ one ∷ []) (omega (arith, l, long, length-append columns (one ∷ []))))) tt
    second (inr l) m =
        let same : k ≡ p = omega (arith, l, m) in
        let found : get_or (columns ++ one ∷ []) k None ≡ one = subst (λ (j : ℕ). get_or (columns ++ one ∷ []) j None ≡ one) long (get_or-append_seam columns one [] None) in
        subst (λ (i : ℕ). IfSome (get_or (columns ++ one ∷ []) i None) (P i)) same (subst (λ (o : Option Numbers). IfSome o (P k)) (sym found) new)

    by_order : (p < k) ⊎ (k ≤ p) → IfSome (get_or (columns ++ one ∷ []) p None) (P p)
    by_order (inl l) = subst (λ (o : Option Numbers). IfSome o (P p)) (sym (get_or_append_left columns (one ∷ []) None p (omega (arith, l, long)))) (done p)
    by_order (inr l) = second (cases_lt k p) l
