-- What has a live row stays in both parts, with its names.
use Rattle.std.specs.Prelude.{◌++◌, List}
use Rattle.std.proofs.Common.{sym, ap, subst, ◌∙◌}
use Rattle.std.specs.List.{All}
use Rattle.replica_store.specs.Forgets.{live_entries, live_segments}
use Rattle.replica_store.specs.Parted.{AreKeptInParts}
use Rattle.replica_store.specs.Segments.{BatchesForm, Entry, HasProperName}
use Rattle.replica_store.proofs.Forgetting.{all_front, all_back, all_parts, names_both, kept_live, map_live}
use Rattle.replica_store.proofs.Maps.{as_map}
use Rattle.replica_store.proofs.batches.Batches.forget.Goals as goal

pub hold_live-requires : goal.hold_live-requires
hold_live-requires c =
    let es : List Entry = c.self.inside.up_to.items in
    let fs : List Entry = c.self.inside.past.items in
    let all = all_parts HasProperName es fs c.args.self.now.segments c.self.invariant.kept.sorted (ap (λ (b : BatchesForm). b.segments) c.self.view_is) c.requires.proper in
    subst (All HasProperName) (sym c.as_slice.ensures.value) (all_front HasProperName es fs all)

pub hold_live-requires-2 : goal.hold_live-requires-2
hold_live-requires-2 c =
    let es : List Entry = c.self.inside.up_to.items in
    let fs : List Entry = c.self.inside.past.items in
    let all = all_parts HasProperName es fs c.args.self.now.segments c.self.invariant.kept.sorted (ap (λ (b : BatchesForm). b.segments) c.self.view_is) c.requires.proper in
    subst (All HasProperName) (sym c.as_slice-2.ensures.value) (all_back HasProperName es fs all)

pub invariant_of-self : goal.invariant_of-self
invariant_of-self c =
    let es : List Entry = c.self.inside.up_to.items in
    let fs : List Entry = c.self.inside.past.items in
    let made = kept_live c.self.inside.own c.args.deleted.now es fs c.self.inside.held c.hold_live-2.new.held c.self.invariant
    (names_both c.args.deleted.now es fs c.as_slice.result.now c.as_slice-2.result.now c.new-held.result c.hold_live.new.held c.hold_live-2.new.held c.new-held.ensures c.as_slice.ensures.value c.as_slice-2.ensures.value c.in_ok-hold_live.ensures c.in_ok-hold_live-2.ensures) in
    subst (λ (xs : List Entry). AreKeptInParts c.self.inside.own xs c.keep_live-2.new.entries.items c.hold_live-2.new.held) (sym c.keep_live.ensures)
    (subst (λ (xs : List Entry). AreKeptInParts c.self.inside.own (live_entries c.args.deleted.now es) xs c.hold_live-2.new.held) (sym c.keep_live-2.ensures) made)

pub returns-clause-ok : goal.returns-clause-ok
returns-clause-ok c =
    let es : List Entry = c.self.inside.up_to.items in
    let fs : List Entry = c.self.inside.past.items in
    (λ i. as_map (c.keep_live.ensures i ++ c.keep_live-2.ensures i))
    ∙ map_live c.args.deleted.now es fs c.self.invariant.kept.sorted
    ∙ ap (live_segments c.args.deleted.now) (ap (λ (b : BatchesForm). b.segments) c.self.view_is)
