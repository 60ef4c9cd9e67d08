-- The remembered place is that of null's key, and else the key is looked for.
use Rattle.std.proofs.Common.{◌∷◌, [], None}
use Rattle.query_eval.proofs.PlaceLemmas.{index_null, taken_known}
use Rattle.query_eval.proofs.grouping.places.Places.of_null.Goals as goal

pub returns-in-Some-clause-taken : goal.returns-in-Some-clause-taken
returns-in-Some-clause-taken c = λ h. taken_known (None ∷ []) c.in-Some.place c.args.self.now.index.entries (h.null c.in-Some.place c.in-Some.is)

pub returns-clause-index : goal.returns-clause-index
returns-clause-index c = λ h.
    index_null c.of_cell.new.self.index c.of_cell.new.self.recent c.of_cell.new.self.null c.in_ok-place.place c.in_ok-place.ensures.taken.now (c.in_ok-place.ensures.index h)
