-- Vectors without entries are the map without any.
use Rattle.std.specs.Prelude.{◌≡◌, ◌++◌, List, []}
use Rattle.std.proofs.Common.{sym, ap, subst, ◌∙◌}
use Rattle.replica_store.specs.Parted.{Each, IsUpTo, IsPast}
use Rattle.replica_store.specs.Replica.{names_of}
use Rattle.segment_core.specs.Segment.{SegmentForm}
use Rattle.replica_store.specs.Segments.{Entry, rows_in}
use Rattle.replica_store.proofs.Maps.{Sorted, as_map, as_map-empty}
use Rattle.replica_store.proofs.RowsIn.{rows_in-empty}
use Rattle.replica_store.proofs.Names.{names_of-empty}
use Rattle.replica_store.proofs.batches.Batches.new.Goals as goal

pub invariant_of-result : goal.invariant_of-result
invariant_of-result c =
    let none : c.new.result.items ++ c.new-2.result.items ≡ [] = λ i. c.new.ensures.items i ++ c.new-2.ensures.items i in
    record {
      kept = record {
        sorted = subst Sorted (sym none) tt;
        names = c.new-held.ensures ∙ sym (ap (λ (es : List Entry). names_of (as_map es)) none ∙ ap names_of as_map-empty ∙ names_of-empty SegmentForm);
      };
      parted = record { up_to = subst (Each (IsUpTo _)) (sym c.new.ensures.items) tt; past = subst (Each (IsPast _)) (sym c.new-2.ensures.items) tt };
    }

pub returns-clause-segments : goal.returns-clause-segments
returns-clause-segments c = ap as_map (λ i. c.new.ensures.items i ++ c.new-2.ensures.items i) ∙ as_map-empty

pub returns-clause-rows : goal.returns-clause-rows
returns-clause-rows c = ap (λ (es : List Entry). rows_in (as_map es)) (λ i. c.new.ensures.items i ++ c.new-2.ensures.items i) ∙ ap rows_in as_map-empty ∙ rows_in-empty
