-- The changes of the numbers are those of the values.
use Rattle.std.proofs.Common.{◌/◌, ap}
use Rattle.run_dictionary.proofs.BelowLemmas.{changes_by_places, runs_below}
use Rattle.run_dictionary.proofs.runs.Runs.is_below.Goals as goal

pub returns : goal.returns
returns c = λ values long same.
    runs_below c.args.lane_width values c.args.bound _ _ c.changes_reach.result c.requires (ap (λ k. k / (c.args.lane_width / 8)) c.saturating_sub.ensures) (changes_by_places c.args.numbers.now values same) c.changes_reach.ensures
