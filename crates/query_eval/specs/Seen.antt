-- The values of a group under DISTINCT, as they are kept.
use Rattle.std.specs.Prelude.{◌≡◌, List, ℤ}
use Rattle.std.specs.HashSet.{hasher_of}
use Rattle.std.specs.List.{IsDistinct}
use Rattle.std.specs.Ordering.{int_eq}
use Rattle.query_eval.specs.declared.hash_key.HashKey.{HashKey}
use Rattle.query_eval.specs.declared.tallies.seen.Content.{Content}
use Rattle.query_eval.specs.declared.tallies.seen.Content.TheVariants as kept

-- the values as contracts see them, each once and in any order, with the key of the hashes that find them if there are many
pub record SeenValues : Type 0 where
  pub values : List ℤ
  pub hash_key : HashKey

-- the values
abbrev pub seen_in : Content → List ℤ
seen_in (kept.List list) = list.items
seen_in (kept.Set set) = set.value.keys

-- no two values of a list are the same; those of a set never are
abbrev pub AreApart : Content → Type 0
AreApart (kept.List list) = IsDistinct int_eq list.items
AreApart (kept.Set set) = Unit {0}

-- the hashes of a set have a key
abbrev pub AreHashedBy : HashKey → Content → Type 0
AreHashedBy key (kept.List list) = Unit {0}
AreHashedBy key (kept.Set set) = hasher_of set.value ≡ key
