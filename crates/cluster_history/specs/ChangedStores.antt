-- Lists of stores of which one alone has changed.
use Rattle.std.specs.Prelude.{◌≡◌, ℕ, List, slice_get, slice_set, Some, Result}
use Rattle.table_model.specs.Outcome.{Acts}
use Rattle.table_model.specs.State.{union_of}
use Rattle.table_model.specs.declared.names.BatchName.{BatchName}
use Rattle.table_model.specs.declared.refusal.Refusal.{Refusal}
use Rattle.segment_core.specs.declared.coding.Coding.{Coding}
use Rattle.replica_store.specs.Replica.{recoded_rows}
use Rattle.replica_store.specs.Segments.{StoreForm, recoded_in}

-- the store at the place became what a recode makes of its replica and of its segments, and the other stores stay
abbrev pub RecodesAt : List StoreForm → Result (Unit {0}) Refusal → List StoreForm → ℕ → BatchName → ℕ → ℕ → Coding → Type 0
RecodesAt old result new place name column vector coding =
    (s made : StoreForm) × (slice_get old place ≡ Some s) × (new ≡ slice_set old place made)
    × Acts (λ done. done) s.replica result made.replica (recoded_rows s.replica name column vector) × Acts (λ done. done) s.segments result made.segments (recoded_in s.segments name column vector coding)

-- the stores after the one at a place took in the batches of another: it has their segments in addition to its own, and the other stores stay
abbrev pub MergesAt : List StoreForm → ℕ → ℕ → List StoreForm → Type 0
MergesAt old place from new =
    (s other made : StoreForm) × (slice_get old place ≡ Some s) × (slice_get old from ≡ Some other) × (new ≡ slice_set old place made) × (made.segments ≡ union_of s.segments other.segments)
