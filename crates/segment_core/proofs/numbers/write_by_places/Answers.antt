-- All indices are seen, and each row has one.
use Rattle.std.proofs.Common.{arith}
use Rattle.segment_core.proofs.NumberLemmas.{signed_at}
use Rattle.segment_core.proofs.numbers.write_by_places.Goals as goal

pub returns : goal.returns
returns c = let seen = c.loop-index-test.false in signed_at c.loop-index.numbers c.args.values.now (λ q l. c.loop-index.invariant.done q (omega arith))
