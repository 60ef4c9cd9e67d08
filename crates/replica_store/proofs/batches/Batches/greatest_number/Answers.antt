-- The greatest number of both parts is the greater one.
use Rattle.std.specs.Prelude.{◌≡◌, ◌++◌, List}
use Rattle.std.proofs.Common.{sym, ap, subst, ◌∙◌, arith}
use Rattle.std.specs.FinMap as map
use Rattle.replica_store.specs.Replica.{greatest_number}
use Rattle.replica_store.specs.Segments.{BatchesForm, Entry}
use Rattle.replica_store.proofs.InParts.{Sorted-front, Sorted-back}
use Rattle.replica_store.proofs.Maps.{Sorted, entries-as_map}
use Rattle.replica_store.proofs.Numbers.{greatest-append}
use Rattle.replica_store.proofs.RowsIn.{greatest-rows, entries-rows_in}
use Rattle.replica_store.proofs.batches.Batches.greatest_number.Goals as goal

pub last_number-up_to-requires : goal.last_number-up_to-requires
last_number-up_to-requires c = subst Sorted (sym c.as_slice.ensures.value) (Sorted-front c.self.inside.up_to.items c.self.inside.past.items c.self.invariant.kept.sorted)

pub last_number-past-requires : goal.last_number-past-requires
last_number-past-requires c = subst Sorted (sym c.as_slice-2.ensures.value) (Sorted-back c.self.inside.up_to.items c.self.inside.past.items c.self.invariant.kept.sorted)

pub returns : goal.returns
returns c =
    let es : List Entry = c.self.inside.up_to.items in
    let fs : List Entry = c.self.inside.past.items in
    let front : c.last_number-up_to.result ≡ greatest_number c.args.origin es = c.last_number-up_to.ensures ∙ ap (greatest_number c.args.origin) c.as_slice.ensures.value in
    let back : c.last_number-past.result ≡ greatest_number c.args.origin fs = c.last_number-past.ensures ∙ ap (greatest_number c.args.origin) c.as_slice-2.ensures.value in
    let all : c.max.result ≡ greatest_number c.args.origin (es ++ fs) = omega (arith, front, back, greatest-append c.args.origin es fs, c.max.ensures) in
    all
    ∙ ap (greatest_number c.args.origin) (sym (entries-as_map (es ++ fs) c.self.invariant.kept.sorted) ∙ ap map.entries (ap (λ (b : BatchesForm). b.segments) c.self.view_is))
    ∙ sym (greatest-rows c.args.origin (map.entries c.args.self.now.segments))
    ∙ ap (greatest_number c.args.origin) (sym (entries-rows_in c.args.self.now.segments))
