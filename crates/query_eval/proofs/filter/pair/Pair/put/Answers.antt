-- One row more in one of the masks, or in none.
use Rattle.std.proofs.Common.{refl, ◌∙◌}
use Rattle.query_eval.proofs.BelowLemmas.{put_true, put_false, put_unknown}
use Rattle.query_eval.proofs.filter.pair.Pair.put.Goals as goal

pub returns-in-True : goal.returns-in-True
returns-in-True c = λ mask t p m h. put_true c.args.self.now _ c.args.row c.set_range.ensures refl mask t p m (h ∙ c.in-True.is)

pub returns-in-False : goal.returns-in-False
returns-in-False c = λ mask t p m h. put_false c.args.self.now _ c.args.row refl c.set_range-in-False.ensures mask t p m (h ∙ c.in-False.is)

pub returns-in-Unknown : goal.returns-in-Unknown
returns-in-Unknown c = λ mask t p m h. put_unknown c.args.self.now _ c.args.row refl refl mask t p m (h ∙ c.in-Unknown.is)
