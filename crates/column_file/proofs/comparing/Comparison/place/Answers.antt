use Rattle.std.proofs.Common.{◌∙◌, List, ℕ, ap}
use Rattle.column_file.specs.Files.{first_difference}
use Rattle.column_file.proofs.Comparisons.{place_is}
use Rattle.column_file.proofs.comparing.Comparison.place.Goals as goal

pub returns : goal.returns
returns c =
    place_is c.self.inside.expected.now c.self.inside.same c.self.inside.other c.self.invariant ∙ ap (λ (v : List ℕ × List ℕ). first_difference v.0 v.1) c.self.view_is
