-- The entries are those of the map of segments, which the own origin parts, and each of them may be held.
use Rattle.std.specs.Prelude.{List}
use Rattle.std.proofs.Common.{sym, ap, subst, ◌∙◌}
use Rattle.std.specs.List.{All}
use Rattle.std.specs.FinMap as map
use Rattle.table_model.specs.declared.names.Origin.{Origin}
use Rattle.replica_store.specs.Parted.{AreParted}
use Rattle.replica_store.specs.Segments.{StoreForm, Entry, IsStored, rows_in}
use Rattle.replica_store.proofs.InParts.{All-front, All-back}
use Rattle.replica_store.proofs.Stored.{All-stored}
use Rattle.replica_store.proofs.store.Store.parts.Goals as goal

pub returns-clause-value : goal.returns-clause-value
returns-clause-value c = c.parts.ensures.whole ∙ ap (λ (s : StoreForm). map.entries s.segments) c.self.view_is

pub returns-clause-rows : goal.returns-clause-rows
returns-clause-rows c = ap (λ (s : StoreForm). s.replica.state.batches) (sym c.self.view_is) ∙ ap (λ (s : StoreForm). rows_in s.segments) c.self.view_is

pub returns-clause-parted : goal.returns-clause-parted
returns-clause-parted c =
    subst (λ (s : StoreForm). AreParted s.replica.own c.parts.result.0.now c.parts.result.1.now) c.self.view_is
    (subst (λ (own : Origin). AreParted own c.parts.result.0.now c.parts.result.1.now) c.self.invariant.parted c.parts.ensures.parted)

pub returns-clause-first : goal.returns-clause-first
returns-clause-first c =
    let all = subst (λ (xs : List Entry). All (IsStored c.self.inside.schema) xs) (sym c.parts.ensures.whole) (All-stored c.self.inside.schema c.self.inside.batches.segments c.self.invariant.stored) in
    subst (λ (s : StoreForm). All (IsStored s.replica.schema) c.parts.result.0.now) c.self.view_is (All-front (IsStored c.self.inside.schema) c.parts.result.0.now c.parts.result.1.now all)

pub returns-clause-second : goal.returns-clause-second
returns-clause-second c =
    let all = subst (λ (xs : List Entry). All (IsStored c.self.inside.schema) xs) (sym c.parts.ensures.whole) (All-stored c.self.inside.schema c.self.inside.batches.segments c.self.invariant.stored) in
    subst (λ (s : StoreForm). All (IsStored s.replica.schema) c.parts.result.1.now) c.self.view_is (All-back (IsStored c.self.inside.schema) c.parts.result.0.now c.parts.result.1.now all)
