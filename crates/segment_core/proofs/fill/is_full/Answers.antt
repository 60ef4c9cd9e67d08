-- Where row 1023 is one of the rows, all 1024 are.
use Rattle.std.proofs.Common.{◌<◌, arith}
use Rattle.std.proofs.lemmas.Bool.Decides.{nat_tests}
use Rattle.segment_core.proofs.fill.is_full.Goals as goal

pub returns-else-rows-eq1024 : goal.returns-else-rows-eq1024
returns-else-rows-eq1024 c =
    let short = c.if-rows-eq1024.false in
    let limit = c.requires in (
      λ yes. absurd (grind (arith, nat_tests)),
      λ full. let last : 1023 < c.args.rows = (full 1023 (omega arith)).0 in absurd (omega arith),
    )
