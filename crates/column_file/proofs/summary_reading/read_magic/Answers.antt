use Rattle.std.proofs.Common.{◌≡◌, true, rules}
use Rattle.table_model.specs.Identifier.{same_text}
use Rattle.column_file.proofs.SummaryLaws.{magic_read}
use Rattle.column_file.proofs.summary_reading.read_magic.Goals as goal

pub returns-clause-read : goal.returns-clause-read
returns-clause-read c =
    let same : same_text c.args.magic.now c.split_at.result.0.now ≡ true = search rules in
    magic_read c.args.magic.now c.args.bytes.now c.split_at.result.0.now c.split_at.result.1.now c.args.total c.if-bytes-magic.false c.split_at.ensures.front c.split_at.ensures.back same
