-- Operand by operand.
use Rattle.std.proofs.Common.{refl}
use Rattle.query_parser.proofs.Visits.{places_more}
use Rattle.query_parser.proofs.names.in_predicate.Goals as goal

pub returns-in-Compare : goal.returns-in-Compare
returns-in-Compare c = rw c.in-Compare.is (places_more _ _ _ _ _ _ _ _ refl c.in_operand-found.ensures c.in_operand.ensures)

pub returns-in-Between : goal.returns-in-Between
returns-in-Between c =
    rw c.in-Between.is
    (places_more _ _ _ _ _ _ _ _ refl (places_more _ _ _ _ _ _ _ _ refl c.in_operand-found-in-Between.ensures c.in_operand-found-in-Between-2.ensures) c.in_operand-in-Between.ensures)
