-- Operands of HAVING and select items at a finished group.
use Rattle.std.proofs.Common.{◌≡◌, ℕ, ◌+◌, ◌<◌, Bool, true, false, cond, not, nat_lt, List, length, drop, get_or, Some, None, ℤ, refl, sym, ap, ◌∙◌, arith}
use Rattle.std.specs.List.{position, position_or_len}
use Rattle.std.proofs.lemmas.Bool.Decides.{nat_tests}
use Rattle.std.proofs.lemmas.List.Sums.{prefix_len-le-length}
use Rattle.std.proofs.lemmas.List.{drop_more}
use Rattle.table_model.specs.Condition.{field_comparison, is_among}
use Rattle.table_model.specs.Truth.{or_of}
use Rattle.table_model.specs.declared.answer.Field.{Field}
use Rattle.table_model.specs.declared.answer.Field.TheVariants.{Whole}
use Rattle.table_model.specs.declared.op.Op.TheVariants.{Equal}
use Rattle.table_model.specs.declared.truth.Truth.{Truth}
use Rattle.table_model.specs.declared.truth.Truth.TheVariants.{False, Unknown, True}

or_assoc : (p q r : Truth) → or_of (or_of p q) r ≡ or_of p (or_of q r)
or_assoc False q r = refl
or_assoc Unknown False r = refl
or_assoc Unknown Unknown False = refl
or_assoc Unknown Unknown Unknown = refl
or_assoc Unknown Unknown True = refl
or_assoc Unknown True r = refl
or_assoc True q r = refl

-- one literal more
pub among_more : (x : Field) (ns : List ℤ) (i : ℕ) (d : ℤ) (so_far next all : Truth) → i < length ns → or_of so_far (is_among x (drop i ns)) ≡ all → next ≡ or_of so_far (field_comparison Equal x (Whole (get_or ns i d))) → or_of next (is_among x (drop (i + 1) ns)) ≡ all
among_more x ns i d so_far next all h before e =
    ap (λ t. or_of t (is_among x (drop (i + 1) ns))) e
    ∙ or_assoc so_far (field_comparison Equal x (Whole (get_or ns i d))) (is_among x (drop (i + 1) ns))
    ∙ ap (λ (l : List ℤ). or_of so_far (is_among x l)) (sym (drop_more ns i d h))
    ∙ before

module _ {X : Type 0} (p : X → Bool) (xs : List X) where
  none_if : (b : Bool) → nat_lt (position_or_len p xs) (length xs) ≡ b → cond b (Some (position_or_len p xs)) None ≡ None → length xs ≡ position_or_len p xs
  none_if true is e = absurd (cc)
  none_if false is e = let most = prefix_len-le-length (λ x. not (p x)) xs in grind (arith, nat_tests, most, is)

  some_if : (b : Bool) (i : ℕ) → cond b (Some (position_or_len p xs)) None ≡ Some i → i ≡ position_or_len p xs
  some_if true i e = cc
  some_if false i e = absurd (cc)

  -- where none passes, the first that passes stands past the end
  pub position_none : position p xs ≡ None → length xs ≡ position_or_len p xs
  position_none e = none_if (nat_lt (position_or_len p xs) (length xs)) refl e

  pub position_some : (i : ℕ) → position p xs ≡ Some i → i ≡ position_or_len p xs
  position_some i e = some_if (nat_lt (position_or_len p xs) (length xs)) i e
