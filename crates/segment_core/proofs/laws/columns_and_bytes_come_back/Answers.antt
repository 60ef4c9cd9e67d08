use Rattle.segment_core.specs.SegmentBytes.{batch_columns}
use Rattle.segment_core.proofs.FormatLaws.{same_value}
use Rattle.segment_core.proofs.SegmentLaws.{batch_columns_are_lawful}
use Rattle.segment_core.proofs.laws.columns_and_bytes_come_back.Goals as goal

pub returns-clause-back : goal.returns-clause-back
returns-clause-back c = batch_columns_are_lawful

pub returns-clause-same : goal.returns-clause-same
returns-clause-same c = λ table rows forms others first second same.
    same_value (batch_columns table rows) (batch_columns_are_lawful table rows) forms others first second same
