-- A load is of the elements from its index on.
use Rattle.std.proofs.Common.{◌≡◌, ◌+◌, ◌-◌, ◌*◌, get_or, ap, ◌∙◌, arith}
use Rattle.std.proofs.lemmas.Simd.{get_or-chunk}
use borrow.Rule.Slice.PartMut.{mid_of}
use Rattle.frame_delta.proofs.spans.at.Goals as goal

pub returns-clause-lanes : goal.returns-clause-lanes
returns-clause-lanes c = λ i h.
    let from = 16 * c.args.place in
    let here : 0 + i ≡ i = omega arith in
    get_or-chunk 0 16 (mid_of from (1024 - from) c.args.numbers.now) i 0 h
    ∙ ap (λ k. get_or (mid_of from (1024 - from) c.args.numbers.now) k 0) here
    ∙ get_or-chunk from (1024 - from) c.args.numbers.now i 0 (omega (arith, h, c.requires))
