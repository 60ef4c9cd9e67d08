-- The low bits are a remainder.
use Rattle.std.proofs.Common.{◌/◌, ◌^◌}
use Rattle.std.proofs.lemmas.Nat.{and_mask}
use Rattle.native_lanes.proofs.walk_16.bits_from.Goals as goal

pub returns : goal.returns
returns c = and_mask (c.args.word / 2 ^ c.args.shift) 16
