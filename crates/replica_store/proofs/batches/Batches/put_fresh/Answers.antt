-- The parts merged with the parts of what is lacked are the union's.
use Rattle.std.specs.Prelude.{◌≡◌}
use Rattle.std.proofs.Common.{sym, ap, subst, ◌∙◌}
use Rattle.std.proofs.lemmas.Bool.{eqb-true}
use Rattle.std.proofs.lemmas.List.{nil_from_length}
use Rattle.std.specs.FinMap as map
use Rattle.table_model.specs.State.{union_of}
use Rattle.table_model.specs.Name.{name_cmp}
use Rattle.segment_core.specs.Segment.{SegmentForm}
use Rattle.replica_store.specs.Entries.{merge}
use Rattle.replica_store.specs.Replica.{names_of}
use Rattle.replica_store.specs.Segments.{BatchesForm}
use Rattle.replica_store.proofs.Maps.{Sorted, as_map}
use Rattle.replica_store.proofs.Merges.{Sorted-lacked, union-nothing}
use Rattle.replica_store.proofs.Putting.{kept_merged, map_merged, lacked_inside}
use Rattle.replica_store.proofs.batches.Batches.put_fresh.Goals as goal

pub parted-requires : goal.parted-requires
parted-requires c = subst Sorted (sym c.requires.1.lacked) (Sorted-lacked (names_of c.args.self.now.segments) c.requires.0 c.requires.1.sorted)

pub invariant_of-self : goal.invariant_of-self
invariant_of-self c =
    let lacked = lacked_inside c.self.inside.own c.self.inside.up_to.items c.self.inside.past.items c.self.inside.held c.args.self.now c.self.invariant c.self.view_is c.requires.0 c.args.fresh.items c.requires.1.lacked in
    kept_merged c.self.inside.own c.self.inside.up_to.items c.self.inside.past.items c.merged.result.items c.merged-2.result.items c.in_ok-fresh_up_to.fresh_up_to.items c.in_ok-fresh_up_to.fresh_past.items
    c.requires.0 c.self.inside.held c.in_ok-held.held c.args.names.now c.self.invariant c.in_ok-fresh_up_to.ensures.parted (c.in_ok-fresh_up_to.ensures.whole ∙ lacked) c.requires.1.sorted
    (c.merged.ensures ∙ ap (λ v. merge name_cmp v.items c.in_ok-fresh_up_to.fresh_up_to.items) c.replace-up_to.ensures.value) (c.merged-2.ensures ∙ ap (λ v. merge name_cmp v.items c.in_ok-fresh_up_to.fresh_past.items) c.replace-past.ensures.value)
    c.in_ok-held.ensures c.requires.2

pub returns-clause-ok : goal.returns-clause-ok
returns-clause-ok c others of =
    let lacked = lacked_inside c.self.inside.own c.self.inside.up_to.items c.self.inside.past.items c.self.inside.held c.args.self.now c.self.invariant c.self.view_is others c.args.fresh.items of.lacked in
    map_merged c.self.inside.own c.self.inside.up_to.items c.self.inside.past.items c.merged.result.items c.merged-2.result.items c.in_ok-fresh_up_to.fresh_up_to.items c.in_ok-fresh_up_to.fresh_past.items
    others c.self.inside.held c.self.invariant c.in_ok-fresh_up_to.ensures.parted (c.in_ok-fresh_up_to.ensures.whole ∙ lacked) of.sorted
    (c.merged.ensures ∙ ap (λ v. merge name_cmp v.items c.in_ok-fresh_up_to.fresh_up_to.items) c.replace-up_to.ensures.value) (c.merged-2.ensures ∙ ap (λ v. merge name_cmp v.items c.in_ok-fresh_up_to.fresh_past.items) c.replace-past.ensures.value)
    ∙ ap (λ (m : map.FinMap name_cmp SegmentForm). union_of m (as_map others)) (ap (λ (b : BatchesForm). b.segments) c.self.view_is)

pub returns-then-is_empty-clause-ok : goal.returns-then-is_empty-clause-ok
returns-then-is_empty-clause-ok c others of =
    let none : c.args.fresh.len ≡ 0 = eqb-true c.args.fresh.len 0 (sym c.is_empty.ensures ∙ c.if-is_empty.true) in
    sym (union-nothing c.args.self.now.segments others of.sorted (sym of.lacked ∙ nil_from_length c.args.fresh.items (sym c.args.fresh.ok.0 ∙ none)))
