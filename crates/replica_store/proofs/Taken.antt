-- A store that takes in batches stays sound, and it has what both have, also where all of the deletions were there.
use Rattle.std.specs.Prelude.{◌≡◌, ◌≤◌, true, Result, Ok, Err, OnOk, OnErr}
use Rattle.std.proofs.Common.{sym, ap, subst, ◌∙◌}
use Rattle.std.specs.FinMap as map
use Rattle.std.specs.FinSet as set
use Rattle.table_model.specs.Name.{name_cmp, row_name_cmp}
use Rattle.table_model.specs.State.{Batch, union_of}
use Rattle.table_model.specs.Table.{Table}
use Rattle.table_model.specs.declared.names.Origin.{Origin}
use Rattle.segment_core.specs.Segment.{SegmentForm}
use Rattle.replica_store.specs.Replica.{IsWithinLimits, Replica, joined_with, batch_limit}
use Rattle.replica_store.specs.Segments.{BatchesForm, IsSoundStore, AreStored, rows_in}
use Rattle.replica_store.proofs.Idle.{deletions_same}
use Rattle.replica_store.proofs.Limits.{IsWithinLimits-union}
use Rattle.replica_store.proofs.RowsIn.{rows_in-union}
use Rattle.replica_store.proofs.Stored.{AreStored-union, AllFit-rows_in}

-- what was taken in keeps the limits, and a refused call leaves all
pub sound_taken : {E : Type 0} (schema : Table) (own : Origin) (old new : BatchesForm) (come : map.FinMap name_cmp SegmentForm) (result : Result (Unit {0}) E) → IsSoundStore schema own old → AreStored schema come
    → map.len (union_of (rows_in old.segments) (rows_in come)) ≤ batch_limit → OnOk result (new.segments ≡ union_of old.segments come) → new.own ≡ old.own → OnErr result (new ≡ old) → IsSoundStore schema own new
sound_taken schema own old new come (Err e) h stored limit ok parted err = subst (IsSoundStore schema own) (sym err) h
sound_taken schema own old new come (Ok done) h stored limit ok parted err =
    let all : rows_in new.segments ≡ union_of (rows_in old.segments) (rows_in come) = ap rows_in ok ∙ rows_in-union old.segments come in
    record {
      sound = record {
        own_proper = h.sound.own_proper;
        within = subst (λ (m : map.FinMap name_cmp Batch). IsWithinLimits schema m) (sym all) (IsWithinLimits-union schema (rows_in old.segments) (rows_in come) h.sound.within (AllFit-rows_in schema come stored) limit);
      };
      stored = subst (AreStored schema) (sym ok) (AreStored-union schema old.segments come h.stored stored);
      parted = parted ∙ h.parted;
    }

-- where all deletions were there, batches alone make the join
pub batches_joined : (schema : Table) (own : Origin) (old new come : map.FinMap name_cmp SegmentForm) (deleted tombs : set.FinSet row_name_cmp) → new ≡ union_of old come → set.is_subset tombs deleted ≡ true
    → ◌≡◌ {A = Replica} (record { schema = schema; own = own; state = record { batches = rows_in new; deleted = deleted } })
    (joined_with (record { schema = schema; own = own; state = record { batches = rows_in old; deleted = deleted } }) (record { batches = rows_in come; deleted = tombs }))
batches_joined schema own old new come deleted tombs made within =
    let all = ap rows_in made ∙ rows_in-union old come in
    λ i. record { schema = schema; own = own; state = record { batches = all i; deleted = sym (deletions_same deleted tombs within) i } }
