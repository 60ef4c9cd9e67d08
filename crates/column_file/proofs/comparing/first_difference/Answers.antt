use Rattle.std.proofs.Common.{◌≡◌, ◌∙◌, sym, arith}
use Rattle.column_file.proofs.Openings.{goes_on, ends_here}
use Rattle.column_file.proofs.comparing.first_difference.Goals as goal

pub loop-index-preserved : goal.loop-index-preserved
loop-index-preserved c =
    goes_on c.args.a.now c.args.b.now c.loop-index.index 0 (omega arith) (omega arith) c.if-a-index.false c.loop-index.invariant

pub returns : goal.returns
returns c =
    let at : c.loop-index.index ≡ c.min-shorter.result = omega arith in
    sym at ∙ ends_here c.args.a.now c.args.b.now c.loop-index.index (at ∙ c.min-shorter.ensures) c.loop-index.invariant
