-- The key is what is left of the value's bits.
use Rattle.std.proofs.Common.{◌%◌, of_z, ap, ◌∙◌}
use Rattle.std.specs.Int.{w64}
use Rattle.std.proofs.lemmas.Int.{to_z-of_z}
use Rattle.run_dictionary.specs.Keys.{key_of}
use Rattle.run_dictionary.proofs.counting.key_of.Goals as goal

pub returns : goal.returns
unfolding key_of
returns c = ap (λ k. k % 65536) (c.cast_unsigned.ensures ∙ ap (of_z w64) (to_z-of_z w64 c.args.value c.ranges.value))
