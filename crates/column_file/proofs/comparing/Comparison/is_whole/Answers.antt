use Rattle.std.proofs.Common.{◌∙◌, ◌&&◌, eqb, List, ℕ, length, ap}
use Rattle.column_file.specs.Files.{first_difference}
use Rattle.column_file.proofs.Comparisons.{whole_is, not_whole}
use Rattle.column_file.proofs.comparing.Comparison.is_whole.Goals as goal

pub returns-then-is_some : goal.returns-then-is_some
returns-then-is_some c =
    not_whole c.self.inside.expected.now c.self.inside.same c.self.inside.other c.is_some.result c.self.invariant c.is_some.ensures c.if-is_some.true
    ∙ ap (λ (v : List ℕ × List ℕ). eqb (first_difference v.0 v.1) (length v.0) && eqb (first_difference v.0 v.1) (length v.1)) c.self.view_is

pub returns : goal.returns
returns c =
    whole_is c.self.inside.expected.now c.self.inside.same c.self.inside.other c.is_some.result c.self.invariant c.is_some.ensures c.if-is_some.false
    ∙ ap (λ (v : List ℕ × List ℕ). eqb (first_difference v.0 v.1) (length v.0) && eqb (first_difference v.0 v.1) (length v.1)) c.self.view_is
