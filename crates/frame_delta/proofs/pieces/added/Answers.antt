-- Lane by lane.
use Rattle.std.proofs.Common.{◌+◌, ◌%◌, ◌^◌, ◌∙◌, sym, arith}
use Rattle.std.proofs.lemmas.Simd.{length-zip2, get_or-zip2}
use Rattle.frame_delta.proofs.pieces.added.Goals as goal

pub returns-clause-long : goal.returns-clause-long
returns-clause-long c =
    length-zip2 (λ a b. (a + b) % 2 ^ 64) c.args.a c.args.b (c.requires.left ∙ sym c.requires.right) ∙ c.requires.left

pub returns-clause-lanes : goal.returns-clause-lanes
returns-clause-lanes c = λ i h.
    get_or-zip2 (λ a b. (a + b) % 2 ^ 64) c.args.a c.args.b i 0 0 0 (omega (arith, c.requires.left)) (omega (arith, c.requires.right))
