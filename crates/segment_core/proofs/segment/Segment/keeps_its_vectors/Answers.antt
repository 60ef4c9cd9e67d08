-- The number of rows that is counted is the length of the rows.
use Rattle.std.proofs.Common.{◌≡◌, ℕ, subst}
use Rattle.segment_core.specs.Segment.{batch_of, IsSegment}
use Rattle.segment_core.proofs.segment.Segment.keeps_its_vectors.Goals as goal

pub returns-clause-rows : goal.returns-clause-rows
returns-clause-rows c = subst (λ (n : ℕ). c.args.self.now.rows ≡ batch_of n c.args.self.now.forms) c.rows.ensures.count c.rows.ensures.rows

pub returns-clause-form : goal.returns-clause-form
returns-clause-form c = subst (λ (n : ℕ). IsSegment n c.args.self.now.forms) c.rows.ensures.count c.rows.ensures.form
