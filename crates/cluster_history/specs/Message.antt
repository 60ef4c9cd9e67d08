-- Messages between the replicas of a cluster, by what they bring: no coding is part of it.
use Rattle.std.specs.Prelude.{◌≡◌, ◌⊎◌, List, map, Option, Some, None, refl}
use Rattle.std.proofs.Common.{inl, inr}
use Rattle.std.specs.Coded.{Coded, code_by, coded×, coded⊎}
use Rattle.table_model.specs.State.{State, coded_state}
use Rattle.table_model.specs.Table.{Table, coded_table}
use Rattle.replica_store.specs.Exchange.{SummaryForm, coded_summary}
use Rattle.cluster_history.specs.declared.message.Message.{Message}
use Rattle.cluster_history.specs.declared.message.Message.TheVariants as messages

-- what a message brings: the names of batches, or a table's schema and a state
pub data Carried : Type 0 where
  Listing : SummaryForm → Carried
  Offering : Table → State → Carried

-- a message's two forms as a sum
abbrev pub forms_of : Carried → SummaryForm ⊎ (Table × State)
forms_of (Listing summary) = inl summary
forms_of (Offering table state) = inr (table, state)

-- a message of either form
abbrev pub of_form : SummaryForm ⊎ (Table × State) → Carried
of_form (inl summary) = Listing summary
of_form (inr offer) = Offering offer.0 offer.1

-- a message is that of its form
abbrev pub same_form : (m : Carried) → of_form (forms_of m) ≡ m
same_form (Listing summary) = refl
same_form (Offering table state) = refl

-- a message by its form
abbrev pub coded_message : Coded Carried
coded_message = code_by (SummaryForm ⊎ (Table × State)) (coded⊎ coded_summary (coded× coded_table coded_state)) forms_of of_form same_form

-- what a message brings, without its codings
abbrev pub carried : Message → Carried
carried (messages.Summary summary) = Listing summary
carried (messages.Offer offer) = Offering offer.schema offer.state

-- what messages bring
abbrev pub messages_in : List Message → List Carried
messages_in sent = map carried sent

-- the summary that a message is, if it is one
abbrev pub listing_in : Option Carried → Option SummaryForm
listing_in None = None
listing_in (Some (Listing summary)) = Some summary
listing_in (Some (Offering table state)) = None

-- the schema and the state that a message offers, if it is an offer
abbrev pub offering_in : Option Carried → Option (Table × State)
offering_in None = None
offering_in (Some (Listing summary)) = None
offering_in (Some (Offering table state)) = let offer : Table × State = (table, state) in Some offer
