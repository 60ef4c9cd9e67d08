-- The two halves are those of the definition.
use Rattle.std.proofs.Common.{refl}
use Rattle.query_eval.specs.HashKey.{folded}
use Rattle.query_eval.proofs.hash_key.folded_product.Goals as goal

pub returns : goal.returns
unfolding folded
returns c = refl
