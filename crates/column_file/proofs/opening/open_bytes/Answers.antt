-- What the bytes hold is opened to its own segments.
use Rattle.column_file.proofs.OpenedSegments.{opened_segments}
use Rattle.column_file.proofs.opening.open_bytes.Goals as goal

pub returns-clause-segments : goal.returns-clause-segments
returns-clause-segments c = opened_segments c.args.own c.in_ok-offer.offer c.into_store.result c.into_store.ensures.value c.into_store.ensures.segments c.in_ok-offer.ensures.segments
