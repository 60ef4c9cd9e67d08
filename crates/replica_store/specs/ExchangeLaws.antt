-- The law of late offers: what a replica has once an offer is applied, however late and however often it comes.
use Rattle.std.specs.Prelude.{◌≡◌, List, ℕ, ◌≤◌, cond, IsTrue, Some, None, Ok}
use Rattle.std.specs.FinMap as map
use Rattle.std.specs.FinSet as set
use Rattle.table_model.specs.State.{Batch, Agree, union_of}
use Rattle.table_model.specs.declared.names.BatchName.{BatchName}
use Rattle.table_model.specs.declared.names.RowName.{RowName}
use Rattle.replica_store.specs.declared.inserted.Inserted.{Inserted}
use Rattle.replica_store.specs.Replica.{Replica, batch_limit, appended, inserted, deleted_rows, deleted_names, joined_with}
use Rattle.replica_store.specs.MergeLaws.{Merges}
use Rattle.replica_store.specs.Exchange.{SummaryForm, OfferForm, summary_of, offered, applied}

-- an offer that a replica made for a summary
pub record IsOffer (server : Replica) (summary : SummaryForm) (offer : OfferForm) : Type 0 where
  pub schema : offer.schema ≡ server.schema
  pub state : offered server summary ≡ Ok offer.state

-- to apply the offer to the first replica answers Ok and makes the second
abbrev pub Applies : Replica → OfferForm → Replica → Type 0
Applies r offer new = applied r offer ≡ Ok (tt, new)

-- a replica holds every batch that a summary lists
abbrev pub HoldsListed : Replica → SummaryForm → Type 0
HoldsListed r summary = (name : BatchName) → IsTrue (set.contains summary.names name) → IsTrue (map.contains_key r.state.batches name)

-- an offer holds exactly the server's batches that the summary doesn't list, and all the server's deletions
pub record HoldsUnlisted (server : Replica) (summary : SummaryForm) (offer : OfferForm) : Type 0 where
  pub schema : summary.schema ≡ server.schema
  pub batches : (name : BatchName) → map.get offer.state.batches name ≡ cond (set.contains summary.names name) None (map.get server.state.batches name)
  pub deletions : offer.state.deleted ≡ server.state.deleted

-- a later replica has all that an earlier one had: the schema, each batch with its rows, each deletion
pub record HasGrown (earlier later : Replica) : Type 0 where
  pub schema : later.schema ≡ earlier.schema
  pub batches : (name : BatchName) (rows : Batch) → map.get earlier.state.batches name ≡ Some rows → map.get later.state.batches name ≡ Some rows
  pub deletions : (row : RowName) → IsTrue (set.contains earlier.state.deleted row) → IsTrue (set.contains later.state.deleted row)

-- a replica only grows, through any calls that answer Ok, one after another
pub record GrowthLaws : Type 0 where
  pub none : (r : Replica) → HasGrown r r
  pub then : (r s t : Replica) → HasGrown r s → HasGrown s t → HasGrown r t
  pub append : (r new : Replica) (rows : Batch) (name : BatchName) → appended r rows ≡ Ok (name, new) → HasGrown r new
  pub insert : (r new : Replica) (name : BatchName) (rows : Batch) (answer : Inserted) → inserted r name rows ≡ Ok (answer, new) → HasGrown r new
  pub delete : (r new : Replica) (first : RowName) (last : ℕ) → deleted_rows r first last ≡ Ok (tt, new) → HasGrown r new
  pub delete_all : (r new : Replica) (rows : List RowName) → deleted_names r rows ≡ Ok (tt, new) → HasGrown r new
  pub merge : (r other new : Replica) → Merges r other new → HasGrown r new
  pub apply : (r new : Replica) (offer : OfferForm) → Applies r offer new → HasGrown r new

-- offers, however late and however often they are applied:
-- an offer holds exactly what the summary doesn't list;
-- a replica that holds all that the summary listed, and agrees with the server as it was when it served, gets the join of both states;
-- so does the replica that made the summary, at once, or later, when it has grown, and what it had gained meanwhile is kept;
-- and such an offer is taken wherever the schemas are one and there is room for the join;
-- an offer that was applied, applied once more, at once or to what the replica has become since, answers Ok and changes nothing
pub record ExchangeLaws : Type 0 where
  pub growth : GrowthLaws
  pub offer : (server : Replica) (summary : SummaryForm) (offer : OfferForm) → IsOffer server summary offer → HoldsUnlisted server summary offer
  pub holding : (server r new : Replica) (summary : SummaryForm) (offer : OfferForm) → IsOffer server summary offer → HoldsListed r summary → Agree r.state server.state → Applies r offer new → new ≡ joined_with r server.state
  pub catches_up : (server r new : Replica) (offer : OfferForm) → IsOffer server (summary_of r) offer → Agree r.state server.state → Applies r offer new → new ≡ joined_with r server.state
  pub keeps : (server asked late new : Replica) (offer : OfferForm) → IsOffer server (summary_of asked) offer → HasGrown asked late → Agree late.state server.state → Applies late offer new → (new ≡ joined_with late server.state) × HasGrown late new
  pub taken : (server r : Replica) (summary : SummaryForm) (offer : OfferForm) → IsOffer server summary offer → HoldsListed r summary → Agree r.state server.state → r.schema ≡ server.schema → map.len (union_of r.state.batches server.state.batches) ≤ batch_limit → Applies r offer (joined_with r server.state)
  pub again : (r new late : Replica) (offer : OfferForm) → Applies r offer new → HasGrown new late → map.len late.state.batches ≤ batch_limit → Applies late offer late
