use Rattle.std.proofs.Common.{◌∙◌, ◌+◌, ◌-◌, ◌++◌, List, ℕ, length, take, sym, ap, arith}
use Rattle.column_file.specs.Comparing.{told, has_differed}
use Rattle.column_file.proofs.Comparisons.{none_here, differed_is, inside_first, inside_second, same_came, other_came, place_moved}
use Rattle.column_file.proofs.comparing.ComparisonWrite.write.Goals as goal

pub invariant_of-self : goal.invariant_of-self
invariant_of-self c =
    let none = none_here c.self.inside.other c.is_some.result c.is_some.ensures c.if-is_some.false in
    let moved = place_moved c.self.inside.expected.now c.split_at.result.1.now c.split_at-2.result.1.now c.args.piece.now c.self.inside.same c.first_difference-count.result c.self.inside.other c.self.invariant c.split_at.ensures.back_len c.first_difference-count.ensures c.split_at-2.ensures.back_len in
    (other_came c.self.inside.expected.now c.args.piece.now c.split_at.result.1.now c.self.inside.same c.first_difference-count.result (length c.self.inside.expected.now - length c.split_at-2.result.1.now) 0 c.self.inside.other c.self.invariant none c.split_at.ensures.back c.first_difference-count.ensures moved c.if-count-piece.true).0

pub returns-then-count-piece-clause-bytes : goal.returns-then-count-piece-clause-bytes
returns-then-count-piece-clause-bytes c =
    let none = none_here c.self.inside.other c.is_some.result c.is_some.ensures c.if-is_some.false in
    let moved = place_moved c.self.inside.expected.now c.split_at.result.1.now c.split_at-2.result.1.now c.args.piece.now c.self.inside.same c.first_difference-count.result c.self.inside.other c.self.invariant c.split_at.ensures.back_len c.first_difference-count.ensures c.split_at-2.ensures.back_len in
    let one = (other_came c.self.inside.expected.now c.args.piece.now c.split_at.result.1.now c.self.inside.same c.first_difference-count.result (length c.self.inside.expected.now - length c.split_at-2.result.1.now) 0 c.self.inside.other c.self.invariant none c.split_at.ensures.back c.first_difference-count.ensures moved c.if-count-piece.true).1 in
    one ∙ ap (λ (v : List ℕ × List ℕ). told v ++ take (c.first_difference-count.result + 1) c.args.piece.now) c.self.view_is

pub invariant_of-self-else-count-piece : goal.invariant_of-self-else-count-piece
invariant_of-self-else-count-piece c =
    let none = none_here c.self.inside.other c.is_some.result c.is_some.ensures c.if-is_some.false in
    let moved = place_moved c.self.inside.expected.now c.split_at.result.1.now c.split_at-2.result.1.now c.args.piece.now c.self.inside.same c.first_difference-count.result c.self.inside.other c.self.invariant c.split_at.ensures.back_len c.first_difference-count.ensures c.split_at-2.ensures.back_len in
    (same_came c.self.inside.expected.now c.args.piece.now c.split_at.result.1.now c.self.inside.same c.first_difference-count.result (length c.self.inside.expected.now - length c.split_at-2.result.1.now) c.self.inside.other c.self.invariant none c.split_at.ensures.back c.first_difference-count.ensures moved).0

pub returns-then-is_some-clause-fails : goal.returns-then-is_some-clause-fails
returns-then-is_some-clause-fails c =
    sym (differed_is c.self.inside.expected.now c.self.inside.same c.self.inside.other c.is_some.result c.self.invariant c.is_some.ensures ∙ ap has_differed c.self.view_is) ∙ c.if-is_some.true

pub returns-clause-bound : goal.returns-clause-bound
returns-clause-bound c = omega (arith, inside_second c.split_at.result.1.now c.args.piece.now, c.first_difference-count.ensures)

pub returns-clause-bytes : goal.returns-clause-bytes
returns-clause-bytes c =
    let none = none_here c.self.inside.other c.is_some.result c.is_some.ensures c.if-is_some.false in
    let moved = place_moved c.self.inside.expected.now c.split_at.result.1.now c.split_at-2.result.1.now c.args.piece.now c.self.inside.same c.first_difference-count.result c.self.inside.other c.self.invariant c.split_at.ensures.back_len c.first_difference-count.ensures c.split_at-2.ensures.back_len in
    let one = (same_came c.self.inside.expected.now c.args.piece.now c.split_at.result.1.now c.self.inside.same c.first_difference-count.result (length c.self.inside.expected.now - length c.split_at-2.result.1.now) c.self.inside.other c.self.invariant none c.split_at.ensures.back c.first_difference-count.ensures moved).1 in
    one ∙ ap (λ (v : List ℕ × List ℕ). told v ++ take c.first_difference-count.result c.args.piece.now) c.self.view_is

pub split_at-requires-2 : goal.split_at-requires-2
split_at-requires-2 c = omega (arith, inside_first c.split_at.result.1.now c.args.piece.now, c.first_difference-count.ensures)
