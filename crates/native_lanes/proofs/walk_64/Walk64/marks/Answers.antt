-- An offset that is half on takes numbers that are half on to the offset.
use Rattle.std.proofs.Common.{◌+◌, ◌%◌, ◌^◌, ℕ, nat_le, ap, ◌∙◌}
use Rattle.native_lanes.specs.Walks.{number_at, half_on}
use Rattle.native_lanes.proofs.WalkLemmas.{half_on_offset}
use Rattle.native_lanes.proofs.walk_64.Walk64.marks.Goals as goal

pub returns : goal.returns
returns c = λ lane r h k.
    c.marks_up_to.ensures lane r h k
    ∙ ap (λ (n : ℕ). nat_le (half_on n) c.args.span) (c.shifted.ensures.numbers lane r h k ∙ ap (λ (n : ℕ). (number_at c.args.self.now lane r + n) % 2 ^ 64) c.half_on.ensures)
    ∙ ap (λ (n : ℕ). nat_le n c.args.span) (half_on_offset (number_at c.args.self.now lane r) c.args.offset)
