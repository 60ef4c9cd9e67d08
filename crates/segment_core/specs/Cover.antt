-- Which rows a vector covers, and which of them are null.
use Rattle.std.specs.Prelude.{ℕ, Bool, List, Option}

-- how many rows are covered, and which of them are null if one is
pub record Cover : Type 0 where
  pub rows : ℕ
  pub nulls : Option (List Bool)
