-- The names of batches for which two partial answers can't be combined.
use Rattle.std.specs.Prelude.{◌≡◌, Bool, true, cond, ◌&&◌, ◌||◌, List, [], ◌∷◌, Option, Some, None}
use Rattle.std.specs.FinSet as set
use Rattle.std.specs.Ordering.{is_lt}
use Rattle.std.specs.declared.cmp.Ordering.TheVariants.{Less}
use Rattle.table_model.specs.Name.{name_cmp}
use Rattle.table_model.specs.declared.names.BatchName.{BatchName}
use Rattle.partial_answers.specs.Counted.{Counted, Names}

-- the first of a list, if it has one
abbrev pub first_of : {X : Type 0} → List X → Option X
first_of [] = None
first_of (x ∷ xs) = Some x

-- the lesser of two names, where None is no name
abbrev pub lesser_name : Option BatchName → Option BatchName → Option BatchName
lesser_name None b = b
lesser_name (Some x) None = Some x
lesser_name (Some x) (Some y) = cond (is_lt (name_cmp y x)) (Some y) (Some x)

-- the least name that two sets have
pub record IsLeastShared (s t : Names) (name : BatchName) : Type 0 where
  pub first : set.contains s name ≡ true
  pub second : set.contains t name ≡ true
  pub least : (q : BatchName) → set.contains s q ≡ true → set.contains t q ≡ true → name_cmp q name ≡ Less → ⊥

-- two sets have no name in common
abbrev pub ShareNone : Names → Names → Type 0
ShareNone s t = (q : BatchName) → set.contains s q ≡ true → set.contains t q ≡ true → ⊥

-- the least name that two sets have, if there is one
abbrev pub IsFirstShared : Names → Names → Option BatchName → Type 0
IsFirstShared s t None = ShareNone s t
IsFirstShared s t (Some name) = IsLeastShared s t name

-- a batch that both partial answers counted, or that one counted and the other deletes rows of
abbrev pub is_between : Counted → Counted → BatchName → Bool
is_between p q name = (set.contains p.held name && set.contains q.held name) || ((set.contains p.strays name && set.contains q.held name) || (set.contains q.strays name && set.contains p.held name))

-- the least such batch
pub record IsLeastBetween (p q : Counted) (name : BatchName) : Type 0 where
  pub between : is_between p q name ≡ true
  pub least : (other : BatchName) → is_between p q other ≡ true → name_cmp other name ≡ Less → ⊥

-- the least such batch, if there is one
abbrev pub IsFirstBetween : Counted → Counted → Option BatchName → Type 0
IsFirstBetween p q None = (other : BatchName) → is_between p q other ≡ true → ⊥
IsFirstBetween p q (Some name) = IsLeastBetween p q name
