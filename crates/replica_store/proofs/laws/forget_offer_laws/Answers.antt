use Rattle.replica_store.proofs.OfferLaws.{offer_laws}
use Rattle.replica_store.proofs.laws.forget_offer_laws.Goals as goal

pub returns : goal.returns
returns c = offer_laws
