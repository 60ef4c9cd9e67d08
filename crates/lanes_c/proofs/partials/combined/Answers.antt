-- The bytes of both are given.
use Rattle.lanes_c.specs.Rooms.{given_by}
use Rattle.lanes_c.proofs.PartialAnswerGivings.{combined_given}
use Rattle.lanes_c.proofs.partials.combined.Goals as goal

pub returns : goal.returns
returns c = combined_given (given_by c.bytes_of.result) c.in_ok-both.both c.args.one.now c.args.other.now c.in_ok-both.ensures.both c.bytes_of.ensures
