-- Where they can't be packed, they are taken in as any values are.
use Rattle.query_eval.proofs.tallies.span_tallies.add_sums.Goals as goal

pub returns-clause-held : goal.returns-clause-held
returns-clause-held c = λ a v kind cells. c.in_ok-add_between.ensures.held a v cells
