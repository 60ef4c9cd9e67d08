-- Nothing is lacked of a store if the join with it changes nothing.
use Rattle.std.specs.Prelude.{◌++◌, ◌≡◌, Bool, true, false, not}
use Rattle.std.proofs.Common.{refl, sym, ap, ◌∙◌}
use Rattle.std.specs.FinMap as map
use Rattle.table_model.specs.Name.{name_cmp}
use Rattle.segment_core.specs.Segment.{SegmentForm}
use Rattle.replica_store.specs.Replica.{joined_with}
use Rattle.replica_store.specs.Segments.{StoreForm}
use Rattle.replica_store.proofs.Idle.{coming}
use Rattle.replica_store.proofs.JoinedStores.{whole, in_order}
use Rattle.replica_store.proofs.store.Store.lacks_of.Goals as goal

not_false : (b : Bool) → not b ≡ false → b ≡ true
not_false true e = refl
not_false false e = sym e

pub has_all-requires : goal.has_all-requires
has_all-requires c = in_order c.brought.inside.batches.segments (c.parts.result.0.now ++ c.parts.result.1.now) c.parts.ensures.whole

pub returns : goal.returns
returns c =
    let es = c.parts.result.0.now ++ c.parts.result.1.now in
    let state = ap (λ (s : StoreForm). joined_with c.args.self.now.replica s.replica.state) (sym c.brought.view_is) in
    let same = state ∙ ap (λ (m : map.FinMap name_cmp SegmentForm). joined_with c.args.self.now.replica (coming m c.brought.inside.tombs)) (sym (whole c.brought.inside.batches.segments es c.parts.ensures.whole)) in
    ((λ none. same ∙ c.has_all.ensures.state (not_false c.has_all.result none)), (λ is. ap not (c.has_all.ensures.lacking (sym same ∙ is))))
