use Rattle.column_file.proofs.CanonicalWriting.{canonical_itself}
use Rattle.column_file.proofs.canonical_writing.canonical_copy.Goals as goal

pub returns-then-canonical : goal.returns-then-canonical
returns-then-canonical c = canonical_itself c.args.segment.now (c.canonical.ensures.0 c.if-canonical.true)
