-- Which refusals a part's bytes have.
use Rattle.std.proofs.lemmas.Result.{err_from_is_err_and}
use Rattle.replica_store.specs.Segments.{StoreForm}
use Rattle.folder_parts.proofs.PartRefusals.{open_listed}
use Rattle.folder_parts.proofs.joining.open_part.Goals as goal

pub returns-in_err-store-clause-listed : goal.returns-in_err-store-clause-listed
returns-in_err-store-clause-listed c =
    let p = err_from_is_err_and c.from_residual-in_err-store.result c.from_residual-in_err-store.ensures.1 in
    rw (p.1, p.2) (open_listed (λ (s : StoreForm). s.replica) (record { 0 = 1 }) c.args.bytes.now c.in_err-store.field-0.0 c.in_err-store.ensures.read)
