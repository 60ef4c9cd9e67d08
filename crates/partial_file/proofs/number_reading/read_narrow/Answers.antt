use Rattle.std.proofs.Common.{inr, refl}
use Rattle.partial_file.proofs.number_reading.read_narrow.Goals as goal

pub wrap-requires : goal.wrap-requires
wrap-requires c = inr (inr (inr refl))
