-- Each batch has a live row where each of both parts has.
use Rattle.std.specs.Prelude.{◌&&◌, Bool, List}
use Rattle.std.proofs.Common.{refl, sym, ap, ◌∙◌}
use Rattle.std.specs.List.{list_all}
use Rattle.replica_store.specs.Forgets.{is_live_entry}
use Rattle.replica_store.specs.Segments.{BatchesForm, Entry}
use Rattle.replica_store.proofs.Forgetting.{both_live}
use Rattle.replica_store.proofs.batches.Batches.are_live.Goals as goal

pub returns-then-are_live : goal.returns-then-are_live
returns-then-are_live c =
    let es : List Entry = c.self.inside.up_to.items in
    let fs : List Entry = c.self.inside.past.items in
    ap (λ (b : Bool). b && c.are_live-then-are_live.result) (sym c.if-are_live.true)
    ∙ both_live c.args.deleted.now es fs c.args.self.now.segments c.are_live.result c.are_live-then-are_live.result c.self.invariant.kept.sorted (ap (λ (b : BatchesForm). b.segments) c.self.view_is)
    (c.are_live.ensures ∙ ap (list_all (is_live_entry c.args.deleted.now)) c.as_slice.ensures.value)
    (c.are_live-then-are_live.ensures ∙ ap (list_all (is_live_entry c.args.deleted.now)) c.as_slice-then-are_live.ensures.value)

pub returns-else-are_live : goal.returns-else-are_live
returns-else-are_live c =
    let es : List Entry = c.self.inside.up_to.items in
    let fs : List Entry = c.self.inside.past.items in
    let later : Bool = list_all (is_live_entry c.args.deleted.now) fs in
    c.if-are_live.false
    ∙ sym (ap (λ (b : Bool). b && later) c.if-are_live.false)
    ∙ both_live c.args.deleted.now es fs c.args.self.now.segments c.are_live.result later c.self.invariant.kept.sorted (ap (λ (b : BatchesForm). b.segments) c.self.view_is)
    (c.are_live.ensures ∙ ap (list_all (is_live_entry c.args.deleted.now)) c.as_slice.ensures.value)
    refl
