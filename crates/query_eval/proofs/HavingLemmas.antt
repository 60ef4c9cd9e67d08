-- HAVING at many groups: the places of operands have what the operands represent, and words of truth values are masks of groups.
use Rattle.std.proofs.Common.{◌≡◌, ◌≢◌, ℕ, ◌==◌, ◌+◌, ◌*◌, ◌/◌, ◌%◌, ◌<◌, ◌≤◌, ◌⊎◌, inl, inr, Bool, true, false, cond, ◌&&◌, nat_le, nat_lt, min, List, [], ◌∷◌, ◌++◌, map, drop, length, get_or, set, get_or-set_other, get_or-set_same, refl, sym, ap, subst, ◌∙◌, arith}
use Rattle.std.specs.Int.{bit_at}
use Rattle.std.proofs.Math.Seq.{get_or-append_seam}
use Rattle.std.proofs.lemmas.Bool.{cases_lt}
use Rattle.std.proofs.lemmas.Bool.Decides.{nat_tests}
use Rattle.std.proofs.lemmas.List.{get_or-drop, get_or_append_left, length-drop}
use Rattle.std.proofs.lemmas.Nat.Bits.{bit_at-zero}
use Rattle.table_model.specs.Condition.{between, field_comparison, is_among, is_null, not_if, predicate_truth}
use Rattle.table_model.specs.Table.{ColumnShape}
use Rattle.table_model.specs.Truth.{is_false, is_true, same_truth, truth_of}
use Rattle.table_model.specs.declared.query.Item.{Item}
use Rattle.table_model.specs.declared.query.ItemValue.{ItemValue}
use Rattle.table_model.specs.declared.query.ItemValue.TheVariants.{Grouped, Computed}
use Rattle.table_model.specs.declared.query.Operand.{Operand}
use Rattle.table_model.specs.declared.query.Operand.TheVariants.{Column, Literal, Function}
use Rattle.table_model.specs.declared.query.Predicate.{Predicate}
use Rattle.table_model.specs.declared.query.Predicate.TheVariants.{Compare, Between, In, IsNull}
use Rattle.table_model.specs.declared.truth.Truth.{Truth}
use Rattle.table_model.specs.declared.truth.Truth.TheVariants.{False, Unknown, True}
use Rattle.transpose_order.proofs.MaskLemmas.{rows_of-words}
use Rattle.transpose_order.specs.Mask.{has, number_of_bits, rows_of, truth_at}
use Rattle.transpose_order.specs.MaskWords.{has-rows_of, number_of_bits_is}
use Rattle.query_eval.specs.FieldPlaces.{field_in, group_at, item_place, operand_place, placed_truth, predicate_in, predicate_places, word_truth}
use Rattle.query_eval.specs.Finished.{GroupFields, PlanShape, seen_item, seen_items, seen_operand}
use Rattle.query_eval.specs.Pairs.{no_of, yes_of}
use Rattle.query_eval.specs.declared.answers.field_places.PredicatePlaces.{PredicatePlaces}
use Rattle.query_eval.proofs.GroupingLemmas.{word_bits}
use Rattle.query_eval.proofs.MaskedLemmas.{test_bit}
use Rattle.query_eval.proofs.PairLemmas.{has_yes, is_no, is_yes}

-- ---- the places of operands and items
module _ (columns : List ColumnShape) (plan : PlanShape) (group : GroupFields) where
  operand_meant : (o : Operand) → field_in group (operand_place columns plan o) ≡ seen_operand columns plan group o
  operand_meant (Column column) = refl
  operand_meant (Literal n) = refl
  operand_meant (Function f) = refl

  pub predicate_meant : (p : Predicate) → placed_truth p (predicate_places columns plan p) group ≡ predicate_truth (seen_operand columns plan group) p
  predicate_meant (Compare left op right) = λ i. field_comparison op (operand_meant left i) (operand_meant right i)
  predicate_meant (Between operand negated low high) = λ i. not_if negated (between (operand_meant operand i) (operand_meant low i) (operand_meant high i))
  predicate_meant (In operand negated literals) = λ i. not_if negated (is_among (operand_meant operand i) literals)
  predicate_meant (IsNull operand negated) = λ i. not_if negated (truth_of (is_null (operand_meant operand i)))

  item_meant : (value : ItemValue) → field_in group (item_place columns plan value) ≡ seen_item columns plan group value
  item_meant (Grouped column) = refl
  item_meant (Computed f) = refl

  -- the fields at the places of select items
  pub items_meant : (items : List Item) → map (field_in group) (map (λ item. item_place columns plan item.value) items) ≡ seen_items columns plan items group
  items_meant [] = refl
  items_meant (item ∷ items) =
      let first = item_meant item.value in
      let rest = items_meant items in
      λ i. first i ∷ rest i

-- ---- words of truth values
true_if : (b : Bool) (t : Truth) → is_true (cond b t Unknown) ≡ (b && is_true t)
true_if true t = refl
true_if false t = refl

false_if : (b : Bool) (t : Truth) → is_false (cond b t Unknown) ≡ (b && is_false t)
false_if true t = refl
false_if false t = refl

pub same_true : (t : Truth) → same_truth t True ≡ is_true t
same_true False = refl
same_true Unknown = refl
same_true True = refl

pub same_false : (t : Truth) → same_truth t False ≡ is_false t
same_false False = refl
same_false Unknown = refl
same_false True = refl

-- a word without a bit is that of a test that no bit passes
pub no_bits : (f : ℕ → Bool) → ((b : ℕ) → b < 64 → f b ≡ false) → 0 ≡ number_of_bits 64 (λ b. cond (f b) 1 0)
no_bits f h = number_of_bits_is 64 0 (λ b. cond (f b) 1 0) (omega arith) (λ b l. bit_at-zero b ∙ sym (ap (λ t. cond t 1 0) (h b l)))

no_bit : (word b : ℕ) → word ≡ 0 → (bit_at word b == 1) ≡ false
no_bit word b e = ap (λ w. bit_at w b == 1) e ∙ ap (λ k. k == 1) (bit_at-zero b)

pub no_true : (word b : ℕ) (t : Truth) → word ≡ 0 → is_true (cond (bit_at word b == 1) t Unknown) ≡ false
no_true word b t e = ap (λ x. is_true (cond x t Unknown)) (no_bit word b e)

pub no_false : (word b : ℕ) (t : Truth) → word ≡ 0 → is_false (cond (bit_at word b == 1) t Unknown) ≡ false
no_false word b t e = ap (λ x. is_false (cond x t Unknown)) (no_bit word b e)

module _ (columns : List ColumnShape) (plan : PlanShape) (groups : List GroupFields) (predicate : Predicate) (at : PredicatePlaces) (is : at ≡ predicate_places columns plan predicate) (mask : List Bool) (rows words : List ℕ) (whole : mask ≡ rows_of (truth_at rows)) where
  abbrev meant : ℕ → Truth
  meant = predicate_in columns plan groups predicate

  placed : (n : ℕ) → placed_truth predicate at (group_at groups n) ≡ meant n
  placed n = ap (λ (x : PredicatePlaces). placed_truth predicate x (group_at groups n)) is ∙ predicate_meant columns plan (group_at groups n) predicate

  abbrev judged : ℕ → ℕ → Truth
  judged j bit = word_truth predicate at groups (get_or rows j 0) (64 * j) bit

  -- the words of the groups at which the predicate is true
  pub words_yes : ((j : ℕ) → j < 16 → get_or words j 0 ≡ number_of_bits 64 (λ bit. cond (is_true (judged j bit)) 1 0)) → rows_of (truth_at words) ≡ yes_of mask meant
  words_yes h =
      rows_of-words words (λ n. has mask n && is_true (meant n))
      (λ j p l m.
      ap (λ w. bit_at w p == 1) (h j l) ∙ test_bit (λ bit. is_true (judged j bit)) p m ∙ true_if (bit_at (get_or rows j 0) p == 1) (placed_truth predicate at (group_at groups (64 * j + p)))
      ∙ (λ i. word_bits rows mask j p l m whole i && is_true (placed (64 * j + p) i)))
      ∙ is_yes mask meant _ (λ n l. refl)

  -- and those of the groups at which it is false
  pub words_no : ((j : ℕ) → j < 16 → get_or words j 0 ≡ number_of_bits 64 (λ bit. cond (is_false (judged j bit)) 1 0)) → rows_of (truth_at words) ≡ no_of mask meant
  words_no h =
      rows_of-words words (λ n. has mask n && is_false (meant n))
      (λ j p l m.
      ap (λ w. bit_at w p == 1) (h j l) ∙ test_bit (λ bit. is_false (judged j bit)) p m ∙ false_if (bit_at (get_or rows j 0) p == 1) (placed_truth predicate at (group_at groups (64 * j + p)))
      ∙ (λ i. word_bits rows mask j p l m whole i && is_false (placed (64 * j + p) i)))
      ∙ is_no mask meant _ (λ n l. refl)

-- one word more
pub word_put : (f : ℕ → ℕ) (words : List ℕ) (k word : ℕ) → k < length words → word ≡ f k → ((j : ℕ) → j < k → get_or words j 0 ≡ f j) → (j : ℕ) → j < k + 1 → get_or (set words k word) j 0 ≡ f j
word_put f words k word within is before j l = by_order (cases_lt j k)
  where
    by_order : (j < k) ⊎ (k ≤ j) → get_or (set words k word) j 0 ≡ f j
    by_order (inl m) = let ne : j ≢ k = omega (arith, m) in get_or-set_other words k j word 0 ne ∙ before j m
    by_order (inr m) = let e : k ≡ j = omega (arith, m, l) in subst (λ (i : ℕ). get_or (set words k word) i 0 ≡ f i) e (get_or-set_same words k word 0 within ∙ is)

-- ---- masks of the groups that are kept
is_within : (len n : ℕ) → n < 1024 → n < len → (nat_le 0 n && nat_lt n (min len 1024)) ≡ true
is_within len n h l = grind (arith, nat_tests)

-- all groups are among the first of them
pub all_within : (all old : List Bool) (len end : ℕ) → end ≡ min len 1024 → all ≡ rows_of (λ n. cond (nat_le 0 n && nat_lt n end) true (has old n)) → (n : ℕ) → n < 1024 → n < len → has all n ≡ true
all_within all old len end is e n h l =
    ap (λ m. has m n) e ∙ has-rows_of (λ n. cond (nat_le 0 n && nat_lt n end) true (has old n)) n h
    ∙ ap (λ k. cond (nat_le 0 n && nat_lt n k) true (has old n)) is ∙ ap (λ b. cond b true (has old n)) (is_within len n h l)

-- at a group of a mask a condition is true where the mask of its true groups has it
pub yes_is_kept : (mask found : List Bool) (t : ℕ → Truth) (n : ℕ) → n < 1024 → found ≡ yes_of mask t → has mask n ≡ true → has found n ≡ is_true (t n)
yes_is_kept mask found t n h e on = ap (λ m. has m n) e ∙ has_yes mask t n h ∙ ap (λ b. b && is_true (t n)) on

abbrev pub KeptBelow : (GroupFields → Bool) → List GroupFields → ℕ → List (List Bool) → Type 0
KeptBelow kept groups end masks = (n : ℕ) → n < end → n < length groups → has (get_or masks (n / 1024) []) (n % 1024) ≡ kept (group_at groups n)

-- one mask more
pub masks_more : (kept : GroupFields → Bool) (groups : List GroupFields) (k : ℕ) (masks after : List (List Bool)) (mask : List Bool) → length masks ≡ k → after ≡ masks ++ mask ∷ [] → KeptBelow kept groups (1024 * k) masks
    → ((n : ℕ) → n < 1024 → n < length (drop (1024 * k) groups) → has mask n ≡ kept (group_at (drop (1024 * k) groups) n)) → KeptBelow kept groups (1024 * (k + 1)) after
masks_more kept groups k masks after mask size e before here n h l =
    subst (λ (ms : List (List Bool)). has (get_or ms (n / 1024) []) (n % 1024) ≡ kept (group_at groups n)) (sym e) (by_order (cases_lt n (1024 * k)))
  where
    by_order : (n < 1024 * k) ⊎ (1024 * k ≤ n) → has (get_or (masks ++ mask ∷ []) (n / 1024) []) (n % 1024) ≡ kept (group_at groups n)
    by_order (inl m) = ap (λ (x : List Bool). has x (n % 1024)) (get_or_append_left masks (mask ∷ []) [] (n / 1024) (omega (arith, m, size))) ∙ before n m l
    by_order (inr m) =
        let last : length masks ≡ n / 1024 = omega (arith, m, h, size) in
        let place : 1024 * k + n % 1024 ≡ n = omega (arith, m, h) in
        let found : get_or (masks ++ mask ∷ []) (n / 1024) [] ≡ mask = subst (λ (j : ℕ). get_or (masks ++ mask ∷ []) j [] ≡ mask) last (get_or-append_seam masks mask [] []) in
        ap (λ (x : List Bool). has x (n % 1024)) found ∙ here (n % 1024) (omega arith) (omega (arith, length-drop (1024 * k) groups, place, l))
        ∙ ap kept (get_or-drop (1024 * k) groups (n % 1024) _ ∙ ap (λ j. group_at groups j) place)
