use Rattle.std.proofs.Common.{◌≡◌, ◌++◌, ◌∷◌, ◌+◌, [], List, Option, length, ap, sym, subst, rules, arith}
use Rattle.std.proofs.lemmas.List.{length-append}
use Rattle.segment_core.specs.Segment.{SegmentForm}
use Rattle.column_file.proofs.CanonicalWriting.{ChosenBelow, chosen_more}
use Rattle.column_file.proofs.canonical_writing.canonical_copies.Goals as goal

pub loop-index-init : goal.loop-index-init
loop-index-init c = record {
  long = ap length c.in_ok-made.ensures.items;
  each_one = λ i d below. absurd (omega arith);
}

pub loop-index-preserved : goal.loop-index-preserved
loop-index-preserved c =
    let one : Option SegmentForm = c.in_ok-canonical_copy.field-0 in
    let items : c.push.new.self.items ≡ c.loop-index.made.items ++ one ∷ [] = search rules in
    let longer = length-append c.loop-index.made.items (one ∷ []) in
    let Q : List (Option SegmentForm) → Type 0 = λ xs. ChosenBelow c.args.entries.now xs (c.loop-index.index + 1) in
    record {
      long = omega (arith, ap length items, longer, c.loop-index.invariant.long);
      each_one = subst Q (sym items) (chosen_more c.args.entries.now c.loop-index.made.items c.loop-index.index one c.index-entries-index.result c.loop-index.invariant.long c.loop-index-test.true c.loop-index.invariant.each_one c.index-entries-index.is c.in_ok-canonical_copy.ensures);
    }
