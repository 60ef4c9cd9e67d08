-- The members of a set in ascending order.
use Rattle.std.specs.Prelude.{List, map as each}
use Rattle.std.specs.FinMap as map
use Rattle.std.specs.FinSet as set
use Rattle.std.specs.declared.cmp.Ordering.{Ordering}

-- the members of a set, as the keys of a map
unfoldable pub in_order : {K : Type 0} (R : K → K → Ordering) → set.FinSet R → List K
in_order R s = map.keys (map.from_entries {R = R} (each (λ k. (k, tt {0})) (set.items s)))
