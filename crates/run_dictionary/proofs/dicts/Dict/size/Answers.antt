-- No dictionary of 1024 values has that many bytes.
use Rattle.run_dictionary.proofs.SizeLemmas.{dict_bytes-least}
use Rattle.run_dictionary.proofs.dicts.Dict.size.Goals as goal

pub unwrap-requires : goal.unwrap-requires
unwrap-requires c = c.size_below.ensures.below.1 (dict_bytes-least c.args.lane_width c.args.values.now c.requires.lane_width c.told-values)
