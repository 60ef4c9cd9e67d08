-- What a kind keeps is what the aggregate asks for.
use Rattle.std.proofs.Common.{sym, ◌∙◌}
use Rattle.query_eval.proofs.tallies.span_tallies.add_spans.Goals as goal

pub returns-in_ok-add_sums-in-Sum-clause-held : goal.returns-in_ok-add_sums-in-Sum-clause-held
returns-in_ok-add_sums-in-Sum-clause-held c = λ a v kind cells. c.in_ok-add_sums-in-Sum.ensures.held a v (sym kind ∙ c.in-Sum.is) cells

pub returns-in-Extreme-clause-held : goal.returns-in-Extreme-clause-held
returns-in-Extreme-clause-held c = λ a v kind cells. c.add_extremes.ensures.held a v (sym kind ∙ c.in-Extreme.is) cells

pub returns-in_ok-add_between-in-Count-clause-held : goal.returns-in_ok-add_between-in-Count-clause-held
returns-in_ok-add_between-in-Count-clause-held c = λ a v kind cells. c.in_ok-add_between-in-Count.ensures.held a v cells
