-- What forgetting leaves when the other calls of a store come: a replica that forgot has what is left of the state that it would have.
use Rattle.std.specs.Prelude.{◌≡◌, IsTrue, Some, Ok}
use Rattle.std.specs.FinMap as map
use Rattle.std.specs.FinSet as set
use Rattle.table_model.specs.State.{State, Batch, Agree, join}
use Rattle.table_model.specs.declared.names.BatchName.{BatchName}
use Rattle.replica_store.specs.Forgotten.{IsRestOf}
use Rattle.replica_store.specs.Exchange.{SummaryForm, OfferForm}
use Rattle.replica_store.specs.ExchangeLaws.{IsOffer, Applies}
use Rattle.replica_store.specs.Forgets.{forgotten_batches}
use Rattle.replica_store.specs.MergeLaws.{Merges}
use Rattle.replica_store.specs.Replica.{Replica}

-- each name that a summary lists is of a batch of the state
abbrev pub AreOf : SummaryForm → State → Type 0
AreOf summary whole = (name : BatchName) → IsTrue (set.contains summary.names name) → (rows : Batch) × (map.get whole.batches name ≡ Some rows)

-- a forget, a merge and an offer, however late, leave what is left of the state that they would make without any forget, where the
-- states without any forget agree; the batches that a summary listed may have been forgotten since
pub record ForgetStoreLaws : Type 0 where
  pub forget : (r new : Replica) (whole : State) → IsRestOf r.state whole → forgotten_batches r ≡ Ok (tt, new) → IsRestOf new.state whole
  pub merge : (r other new : Replica) (whole others : State) → Agree whole others → IsRestOf r.state whole → IsRestOf other.state others → Merges r other new → IsRestOf new.state (join whole others)
  pub apply : (server r new : Replica) (summary : SummaryForm) (offer : OfferForm) (whole others : State) → IsOffer server summary offer → AreOf summary whole → Agree whole others
      → IsRestOf r.state whole → IsRestOf server.state others → Applies r offer new → IsRestOf new.state (join whole others)
