-- Each kept row is in the slice of its code.
use Rattle.std.proofs.Common.{subst, arith}
use Rattle.query_eval.specs.Slices.{AreSliced}
use Rattle.query_eval.proofs.SliceLemmas.{slices_alone, split_whole}
use Rattle.query_eval.proofs.grouping.split.Split.by_codes.Goals as goal

pub returns-clause-codes : goal.returns-clause-codes
returns-clause-codes c = record {
  within = λ _ n l. omega (arith, c.requires.within n l, c.requires.few);
  few = λ _. c.in_ok-left.ensures.few;
  rows = λ _. c.in_ok-left.ensures.rows;
}

pub returns-clause-placed : goal.returns-clause-placed
returns-clause-placed c = λ by v shown h.
    let kept = c.args.self.now.kept in
    split_whole by v kept c.args.places.now.index.entries c.slice_codes.new.places.index.entries _
    (subst (AreSliced by v kept c.in_ok-left.left c.args.places.now.index.entries c.slice_codes.new.places.index.entries) (slices_alone kept c.clear.new.self.items c.slice_codes.new.slices.items c.clear.ensures.items) (c.in_ok-left.ensures.sliced by v shown h))
    c.in_ok-left.ensures.none
