-- Lists of one length whose ranges are the same pair by pair are one.
use Rattle.std.proofs.Common.{sym, ◌∙◌}
use Rattle.column_file.proofs.Openings.{same_ranges}
use Rattle.column_file.proofs.opening.are_same_ranges.Goals as goal

pub returns-then-a-b : goal.returns-then-a-b
returns-then-a-b c = λ is. same_ranges c.args.a.now c.args.b.now c.if-a-b.true (sym c.are_same_pairs.ensures ∙ is)
