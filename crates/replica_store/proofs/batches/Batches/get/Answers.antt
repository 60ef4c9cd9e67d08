-- What is found in the part of the name's origin is what the map has.
use Rattle.std.specs.Prelude.{◌≡◌, ◌++◌, List, Option}
use Rattle.std.proofs.Common.{sym, ap, subst, ◌∙◌, arith}
use Rattle.std.proofs.lemmas.Bool.Decides.{nat_tests}
use Rattle.std.specs.Option.{option_map}
use Rattle.std.specs.FinMap as map
use Rattle.table_model.specs.Name.{name_cmp}
use Rattle.table_model.specs.declared.names.BatchName.{BatchName}
use Rattle.table_model.specs.declared.names.Origin.{Origin}
use Rattle.segment_core.specs.Segment.{SegmentForm}
use Rattle.replica_store.specs.Parted.{IsUpTo, IsPast, AreParted}
use Rattle.replica_store.specs.Segments.{BatchesForm, Entry}
use Rattle.replica_store.proofs.InParts.{Sorted-front, Sorted-back, find-up_to, find-past}
use Rattle.replica_store.proofs.Maps.{Sorted, as_map, get-as_map}
use Rattle.replica_store.proofs.RowsIn.{rows, get-rows_in}
use Rattle.replica_store.proofs.batches.Batches.get.Goals as goal

in_front : (own : Origin) (q : BatchName) (es fs part : List Entry) (o : Option SegmentForm) → AreParted own es fs → Sorted (es ++ fs) → IsUpTo own q → part ≡ es → o ≡ map.find name_cmp q part → o ≡ map.get (as_map (es ++ fs)) q
in_front own q es fs part o parted sorted up is found =
    found ∙ ap (map.find name_cmp q) is ∙ sym (find-up_to own q es fs up parted.past) ∙ sym (get-as_map (es ++ fs) q sorted)

in_back : (own : Origin) (q : BatchName) (es fs part : List Entry) (o : Option SegmentForm) → AreParted own es fs → Sorted (es ++ fs) → IsPast own q → part ≡ fs → o ≡ map.find name_cmp q part → o ≡ map.get (as_map (es ++ fs)) q
in_back own q es fs part o parted sorted past is found =
    found ∙ ap (map.find name_cmp q) is ∙ sym (find-past own q es fs past parted.up_to) ∙ sym (get-as_map (es ++ fs) q sorted)

pub found-requires : goal.found-requires
found-requires c = subst Sorted (sym c.as_slice.ensures.value) (Sorted-front c.self.inside.up_to.items c.self.inside.past.items c.self.invariant.kept.sorted)

pub found-requires-else-name-self : goal.found-requires-else-name-self
found-requires-else-name-self c = subst Sorted (sym c.as_slice-else-name-self.ensures.value) (Sorted-back c.self.inside.up_to.items c.self.inside.past.items c.self.invariant.kept.sorted)

pub returns-then-name-self-clause-segment : goal.returns-then-name-self-clause-segment
returns-then-name-self-clause-segment c =
    in_front c.self.inside.own c.args.name c.self.inside.up_to.items c.self.inside.past.items c.as_slice.result.now _ c.self.invariant.parted c.self.invariant.kept.sorted (grind (arith, nat_tests)) c.as_slice.ensures.value c.found.ensures
    ∙ ap (λ m. map.get m c.args.name) (ap (λ (b : BatchesForm). b.segments) c.self.view_is)

pub returns-else-name-self-clause-segment : goal.returns-else-name-self-clause-segment
returns-else-name-self-clause-segment c =
    in_back c.self.inside.own c.args.name c.self.inside.up_to.items c.self.inside.past.items c.as_slice-else-name-self.result.now _ c.self.invariant.parted c.self.invariant.kept.sorted (grind (arith, nat_tests)) c.as_slice-else-name-self.ensures.value c.found-else-name-self.ensures
    ∙ ap (λ m. map.get m c.args.name) (ap (λ (b : BatchesForm). b.segments) c.self.view_is)

pub returns-then-name-self-clause-rows : goal.returns-then-name-self-clause-rows
returns-then-name-self-clause-rows c =
    ap (option_map rows) (in_front c.self.inside.own c.args.name c.self.inside.up_to.items c.self.inside.past.items c.as_slice.result.now _ c.self.invariant.parted c.self.invariant.kept.sorted (grind (arith, nat_tests)) c.as_slice.ensures.value c.found.ensures
    ∙ ap (λ m. map.get m c.args.name) (ap (λ (b : BatchesForm). b.segments) c.self.view_is))
    ∙ sym (get-rows_in c.args.self.now.segments c.args.name)

pub returns-else-name-self-clause-rows : goal.returns-else-name-self-clause-rows
returns-else-name-self-clause-rows c =
    ap (option_map rows) (in_back c.self.inside.own c.args.name c.self.inside.up_to.items c.self.inside.past.items c.as_slice-else-name-self.result.now _ c.self.invariant.parted c.self.invariant.kept.sorted (grind (arith, nat_tests)) c.as_slice-else-name-self.ensures.value c.found-else-name-self.ensures
    ∙ ap (λ m. map.get m c.args.name) (ap (λ (b : BatchesForm). b.segments) c.self.view_is))
    ∙ sym (get-rows_in c.args.self.now.segments c.args.name)
