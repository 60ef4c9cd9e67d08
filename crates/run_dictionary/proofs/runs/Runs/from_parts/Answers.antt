-- The parts meet the form's rules.
use Rattle.run_dictionary.proofs.runs.Runs.from_parts.Goals as goal

pub invariant_of-result : goal.invariant_of-result
invariant_of-result c = record {
  lane_width = c.keep_their_range.ensures.width;
  rows = c.keeps_1024_rows.ensures;
  first = c.requires.first;
  count = c.requires.count;
  range = c.keep_their_range.ensures.fit;
}
