-- Set functions of a group under way.
use Rattle.std.specs.Prelude.{◌≡◌, ◌==◌, ◌<◌, ◌≤◌, ◌++◌, [], ℕ, Bool, List, cond, length, slice_index_or, ℤ}
use Rattle.std.specs.List.{list_any}
use Rattle.std.specs.Ordering.{int_eq}
use Rattle.table_model.specs.Group.{state_row_limit}
use Rattle.table_model.specs.Meaning.{fold_value, once_if}
use Rattle.table_model.specs.Values.{total}
use Rattle.table_model.specs.declared.answer.Field.{Field}
use Rattle.table_model.specs.declared.query.Fold.{Fold}
use Rattle.table_model.proofs.Bounds.{AreSmall}
use Rattle.table_model.specs.Extreme.{extreme_of}
use Rattle.query_eval.specs.TallyKinds.{fold_kind}
use Rattle.query_eval.specs.declared.tallies.tally.Sums.{Sums}
use Rattle.query_eval.specs.declared.tallies.tally.Tally.{Tally}
use Rattle.query_eval.specs.declared.tallies.tally.Tally.TheVariants.{Count, Sum, Extreme, Distinct}
use Rattle.query_eval.specs.declared.tallies.tally.TallyKind.{TallyKind}
use Rattle.query_eval.specs.declared.tallies.tally.TallyKind.TheVariants as kinds

-- the number and the sum of some values
pub record AreSums (values : List ℤ) (sums : Sums) : Type 0 where
  pub count : sums.count ≡ length values
  pub sum : sums.sum ≡ total values

-- they are so of no more values of a column than a state may have rows
abbrev pub AreTold : List ℤ → Sums → Type 0
AreTold values sums = length values ≤ state_row_limit → AreSmall values → AreSums values sums

-- what a set function under way keeps
abbrev pub kind_of : Tally → TallyKind
kind_of (Count count) = kinds.Count
kind_of (Sum sums) = kinds.Sum
kind_of (Extreme extreme value) = kinds.Extreme extreme
kind_of (Distinct seen) = kinds.Distinct

-- two lists have equal values, in any order and however often
abbrev pub AreAlike : List ℤ → List ℤ → Type 0
AreAlike keys values = (z : ℤ) → list_any (int_eq z) keys ≡ list_any (int_eq z) values

-- a set function under way has taken in these values, of which the number and the sum are those of no more values of a column than a state may have rows
abbrev pub IsTally : List ℤ → Tally → Type 0
IsTally values (Count count) = length values ≤ state_row_limit → count ≡ length values
IsTally values (Sum sums) = AreTold values sums
IsTally values (Extreme extreme value) = value ≡ extreme_of extreme values
IsTally values (Distinct seen) = AreAlike seen.value.values values

-- a set function under way that had taken in these values has taken in some more
abbrev pub TakesMore : List ℤ → List ℤ → Tally → Tally → Type 0
TakesMore values more old new = IsTally values old → IsTally (values ++ more) new

-- the tally at a place has taken in some values, and the others none
abbrev pub HaveMoreAt : ℕ → List ℤ → List Tally → List Tally → Type 0
HaveMoreAt place added old new = (g : ℕ) (t : Tally) (values : List ℤ) → g < length old → TakesMore values (cond (place == g) added []) (slice_index_or old g t) (slice_index_or new g t)

-- of tallies that keep this, the one at a place has taken in some values, and the others none
abbrev pub HaveAt : TallyKind → ℕ → List ℤ → List Tally → List Tally → Type 0
HaveAt kind place added old new = (g : ℕ) (t : Tally) (values : List ℤ) → g < length old → kind_of (slice_index_or old g t) ≡ kind → IsTally values (slice_index_or old g t) → IsTally (values ++ cond (place == g) added []) (slice_index_or new g t)

-- a field is the value of a set function under way, of no more values of a column than a state may have rows
abbrev pub IsFieldOf : Fold → Tally → Field → Type 0
IsFieldOf fold tally field = (distinct : Bool) (values : List ℤ) → length values ≤ state_row_limit → AreSmall values → IsTally values tally → kind_of tally ≡ fold_kind distinct fold → field ≡ fold_value fold (once_if distinct values)
