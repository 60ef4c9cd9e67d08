-- The segments of both are canonical, and so are those of the union.
use Rattle.folder_parts.proofs.CanonicalJoins.{joined_canonical}
use Rattle.std.proofs.lemmas.Result.{err_from_is_err_and}
use Rattle.replica_store.specs.Segments.{StoreForm}
use Rattle.folder_parts.proofs.PartRefusals.{unjoined_listed}
use Rattle.folder_parts.proofs.joining.Join.with_part.Goals as goal

pub invariant_of-result : goal.invariant_of-result
invariant_of-result c =
    joined_canonical c.self.inside.joined.replica c.in_ok-other.other.replica c.in_ok-next.next.replica c.self.inside.joined.segments c.in_ok-other.other.segments c.in_ok-next.next.segments tt c.self.invariant c.in_ok-other.ensures.segments c.in_ok-next.ensures.value c.in_ok-next.ensures.segments

pub returns-in_err-next-clause-listed : goal.returns-in_err-next-clause-listed
returns-in_err-next-clause-listed c =
    let p = err_from_is_err_and c.from_residual-in_err-next.result c.from_residual-in_err-next.ensures.1 in
    rw (p.1, p.2) (unjoined_listed (λ (j : StoreForm). (tt, j.replica)) c.self.inside.joined.replica c.in_ok-other.other.replica c.in_err-next.field-0.0 c.in_err-next.ensures.value)
