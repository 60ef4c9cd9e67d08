-- Exchange: a summary tells which batches a replica has, and an offer brings it those that another replica has in addition.
use Rattle.std.specs.Prelude.{◌≤◌, cond, ◌==◌, T, IsTrue, List, length, Result, Ok, Err, refl}
use Rattle.std.specs.Coded.{Coded, code_by, coded×}
use Rattle.std.specs.List.{All}
use Rattle.std.specs.FinMap as map
use Rattle.std.specs.FinSet as set
use Rattle.table_model.specs.Name.{name_cmp, coded_name, is_proper_name}
use Rattle.table_model.specs.State.{State, coded_state}
use Rattle.table_model.specs.Table.{Table, coded_table, same_table}
use Rattle.table_model.specs.declared.names.BatchName.{BatchName}
use Rattle.table_model.specs.declared.names.Origin.{Origin}
use Rattle.table_model.specs.declared.refusal.Refusal.{Refusal}
use Rattle.table_model.specs.declared.refusal.Refusal.TheVariants.{SchemaDiffers, BadName}
use Rattle.catalogue_join.specs.Held.{lacks}
use Rattle.segment_core.specs.Segment.{SegmentForm}
use Rattle.segment_core.specs.SegmentCode.{coded_segment}
use Rattle.replica_store.specs.Replica.{Replica, batch_limit, names_of, merged}
use Rattle.replica_store.specs.Segments.{Entry, IsStored}

-- a summary: a table's schema, and a set of names of batches
pub record SummaryForm : Type 0 where
  pub schema : Table
  pub names : set.FinSet name_cmp

-- a summary by its schema and its names
abbrev pub coded_summary : Coded SummaryForm
coded_summary = code_by (Table × set.FinSet name_cmp) (coded× coded_table (set.code coded_name)) (λ s. (s.schema, s.names)) (λ p. record { schema = p.0; names = p.1 }) (λ _. refl)

-- names that a summary may have: not more than a replica may have batches, and each is proper
pub record AreListable (names : set.FinSet name_cmp) : Type 0 where
  pub limit : set.len names ≤ batch_limit
  pub proper : (name : BatchName) → IsTrue (set.contains names name) → IsTrue (is_proper_name name)

-- the summary of a replica: the names of its batches
abbrev pub summary_of : Replica → SummaryForm
summary_of r = record { schema = r.schema; names = names_of r.state.batches }

-- the summary without names
abbrev pub empty_summary : Table → SummaryForm
empty_summary table = record { schema = table; names = set.empty }

-- an offer: a table's schema, a state, and the segments of its batches, whose rows are the batches of the state
pub record OfferForm : Type 0 where
  pub schema : Table
  pub state : State
  pub segments : map.FinMap name_cmp SegmentForm

-- an offer by its parts
abbrev pub coded_offer : Coded OfferForm
coded_offer =
    code_by (Table × (State × map.FinMap name_cmp SegmentForm)) (coded× coded_table (coded× coded_state (map.code coded_name coded_segment))) (λ o. (o.schema, (o.state, o.segments)))
    (λ p. record { schema = p.0; state = p.1.0; segments = p.1.1 }) (λ _. refl)

-- batches that an offer may have: in ascending order of name, not more than a replica may have, and each as a store of the table may hold it
pub record AreOffered (table : Table) (entries : List Entry) : Type 0 where
  pub sorted : T (map.is_sorted name_cmp entries)
  pub limit : length entries ≤ batch_limit
  pub stored : All (IsStored table) entries

-- the batches whose names aren't listed
unfoldable pub unlisted : {X : Type 0} → set.FinSet name_cmp → map.FinMap name_cmp X → map.FinMap name_cmp X
unlisted names batches = map.retain_keys batches (lacks names)

-- of a state, what is offered where these names are listed: the batches whose names aren't, and all deletions
abbrev pub unlisted_state : set.FinSet name_cmp → State → State
unlisted_state names s = record { batches = unlisted names s.batches; deleted = s.deleted }

-- offer: the state that a replica offers to a summary, refused where the schemas differ
abbrev pub offered : Replica → SummaryForm → Result State Refusal
offered r summary = cond (same_table r.schema summary.schema) (Ok (unlisted_state summary.names r.state)) (Err SchemaDiffers)

-- the replica of an own origin that has an offer's schema and its state
abbrev pub offering : Origin → OfferForm → Replica
offering own offer = record { schema = offer.schema; own = own; state = offer.state }

-- apply: as a merge with a replica that has the offer's schema and its state
abbrev pub applied : Replica → OfferForm → Result (Unit {0} × Replica) Refusal
applied r offer = merged r (offering r.own offer)

-- the replica that has exactly what is offered; its own origin is at least 1
abbrev pub opened : Origin → OfferForm → Result Replica Refusal
opened own offer = cond (own.0 == 0) (Err BadName) (Ok (offering own offer))
