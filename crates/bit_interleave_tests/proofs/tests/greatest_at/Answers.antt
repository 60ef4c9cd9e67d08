-- The loop has filled every row.
use Rattle.std.proofs.Common.{◌<◌, ◌^◌, arith}
use Rattle.std.proofs.lemmas.List.Elements.{All-from_get_or}
use Rattle.bit_interleave_tests.proofs.tests.greatest_at.Goals as goal

pub returns : goal.returns
returns c = All-from_get_or (λ v. v < 2 ^ c.args.width) c.loop-n.values 0 (λ n h. c.loop-n.invariant.fit n (omega arith))
