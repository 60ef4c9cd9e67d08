-- A place is in the first part, or as many places on in the second.
use Rattle.std.specs.Prelude.{◌≡◌, ◌+◌, ◌-◌, ◌++◌, List, length, slice_get}
use Rattle.std.proofs.Common.{arith, sym, ap, ◌∙◌}
use Rattle.std.proofs.lemmas.List.{length-append}
use Rattle.std.specs.FinMap as map
use Rattle.replica_store.specs.Segments.{BatchesForm, Entry}
use Rattle.replica_store.proofs.InParts.{get-front, get-back}
use Rattle.replica_store.proofs.Maps.{entries-as_map, len-as_map}
use Rattle.replica_store.proofs.batches.Batches.at.Goals as goal

pub entry_at-requires-else-index-before : goal.entry_at-requires-else-index-before
entry_at-requires-else-index-before c =
    let es : List Entry = c.self.inside.up_to.items in
    let fs : List Entry = c.self.inside.past.items in
    omega (arith, c.requires, c.if-index-before.false, c.len-before.ensures, c.self.inside.up_to.ok.0, ap length c.as_slice-else-index-before.ensures.value, length-append es fs, len-as_map (es ++ fs) c.self.invariant.kept.sorted, ap map.len (ap (λ (b : BatchesForm). b.segments) c.self.view_is))

pub returns-then-index-before : goal.returns-then-index-before
returns-then-index-before c =
    let es : List Entry = c.self.inside.up_to.items in
    let fs : List Entry = c.self.inside.past.items in
    ap (λ (xs : List Entry). slice_get xs c.args.index) (ap map.entries (sym (ap (λ (b : BatchesForm). b.segments) c.self.view_is)) ∙ entries-as_map (es ++ fs) c.self.invariant.kept.sorted)
    ∙ get-front es fs c.args.index (c.entry_at.result.0, c.entry_at.result.1.now) (ap (λ (xs : List Entry). slice_get xs c.args.index) (sym c.as_slice.ensures.value) ∙ c.entry_at.ensures)

pub returns-else-index-before : goal.returns-else-index-before
returns-else-index-before c =
    let es : List Entry = c.self.inside.up_to.items in
    let fs : List Entry = c.self.inside.past.items in
    let at : c.args.index ≡ length es + (c.args.index - c.len-before.result) = omega (arith, c.if-index-before.false, c.len-before.ensures, c.self.inside.up_to.ok.0) in
    ap (λ (xs : List Entry). slice_get xs c.args.index) (ap map.entries (sym (ap (λ (b : BatchesForm). b.segments) c.self.view_is)) ∙ entries-as_map (es ++ fs) c.self.invariant.kept.sorted)
    ∙ ap (slice_get (es ++ fs)) at
    ∙ get-back es fs (c.args.index - c.len-before.result)
    ∙ ap (λ (xs : List Entry). slice_get xs (c.args.index - c.len-before.result)) (sym c.as_slice-else-index-before.ensures.value)
    ∙ c.entry_at-else-index-before.ensures
