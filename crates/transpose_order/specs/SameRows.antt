-- Whether two masks have the same rows.
use Rattle.std.specs.Prelude.{Bool, List}
use Rattle.std.specs.Bool.{beq}
use Rattle.std.specs.Cmp.{IsEquivalence, bool_eq_equiv}
use Rattle.std.specs.Cmp.Lexicographic.{pointwise}
use Rattle.std.proofs.lemmas.Cmp.{lists_equiv}

-- two masks have the same rows
unfoldable pub same_rows : List Bool → List Bool → Bool
same_rows a b = pointwise beq a b

pub same_rows-equivalence : IsEquivalence same_rows
unfolding same_rows
same_rows-equivalence = lists_equiv bool_eq_equiv
