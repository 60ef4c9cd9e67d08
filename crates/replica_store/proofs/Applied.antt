-- An offer's batches as entries, whole or in two parts, and what a replica is joined with.
use Rattle.std.specs.Prelude.{ℕ, ◌++◌, take, drop, ◌≡◌, List}
use Rattle.std.proofs.Common.{sym, ap, ◌∙◌}
use Rattle.std.proofs.lemmas.List.{take-append-drop}
use Rattle.std.specs.FinMap as map
use Rattle.std.specs.FinSet as set
use Rattle.table_model.specs.Name.{row_name_cmp}
use Rattle.replica_store.specs.Replica.{Replica, joined_with}
use Rattle.replica_store.specs.Segments.{Entry, rows_in}
use Rattle.replica_store.specs.Exchange.{OfferForm}
use Rattle.replica_store.proofs.Idle.{coming}
use Rattle.replica_store.proofs.Maps.{as_map}
use Rattle.replica_store.proofs.Merges.{map_of_entries}

-- the entries of an offer are its segments
pub whole : (o : OfferForm) (es : List Entry) → es ≡ map.entries o.segments → as_map es ≡ o.segments
whole o es is = ap as_map is ∙ map_of_entries o.segments

-- an offer's batches in two parts
pub one_list : (es front back : List Entry) (i : ℕ) → front ≡ take i es → back ≡ drop i es → front ++ back ≡ es
one_list es front back i is rest = (λ k. is k ++ rest k) ∙ take-append-drop i es

-- and its state has their rows
pub rows_are : (o : OfferForm) (es : List Entry) → es ≡ map.entries o.segments → o.state.batches ≡ rows_in o.segments → o.state.batches ≡ rows_in (as_map es)
rows_are o es is rows = rows ∙ ap rows_in (sym (whole o es is))

-- joined with an offer, a replica is joined with its entries and deletions
pub joins : (r : Replica) (o : OfferForm) (es : List Entry) (tombs : set.FinSet row_name_cmp) → es ≡ map.entries o.segments → o.state.batches ≡ rows_in o.segments → tombs ≡ o.state.deleted → joined_with r o.state ≡ joined_with r (coming (as_map es) tombs)
joins r o es tombs is rows deleted = λ i. joined_with r (record { batches = rows_are o es is rows i; deleted = sym deleted i })
