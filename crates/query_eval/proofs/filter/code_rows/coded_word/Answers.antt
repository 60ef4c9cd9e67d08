-- The lanes are the codes of 64 rows.
use Rattle.std.proofs.Common.{◌==◌, ◌+◌, ◌-◌, ap, ◌∙◌, arith}
use Rattle.query_eval.proofs.CodeLemmas.{lane_is, length-lanes}
use Rattle.query_eval.proofs.filter.code_rows.coded_word.Goals as goal

pub equal_lanes-requires : goal.equal_lanes-requires
equal_lanes-requires c = length-lanes c.args.codes.now c.args.first (c.args.first + 64 - c.args.first) c.told-codes c.requires (omega arith)

pub returns : goal.returns
returns c b l =
    c.equal_lanes.ensures b l ∙ ap (λ n. n == c.args.code) (lane_is c.args.codes.now c.args.first (c.args.first + 64 - c.args.first) b (omega arith) l)
