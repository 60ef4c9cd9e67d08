use Rattle.std.proofs.Common.{◌∙◌, ap}
use Rattle.column_file.specs.Comparing.{has_differed}
use Rattle.column_file.proofs.Comparisons.{differed_is}
use Rattle.column_file.proofs.comparing.Comparison.has_differed.Goals as goal

pub returns : goal.returns
returns c =
    differed_is c.self.inside.expected.now c.self.inside.same c.self.inside.other c.is_some.result c.self.invariant c.is_some.ensures
    ∙ ap has_differed c.self.view_is
