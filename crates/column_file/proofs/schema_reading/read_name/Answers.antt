use Rattle.std.proofs.Common.{◌≡◌, true, rules}
use Rattle.column_file.specs.SchemaBytes.{is_name}
use Rattle.column_file.proofs.SchemaReading.{IsUtf8-name}
use Rattle.column_file.proofs.schema_reading.read_name.Goals as goal

pub returns-in_default-clause-read : goal.returns-in_default-clause-read
returns-in_default-clause-read c =
    let named : is_name c.in_ok-text.text.now ≡ true = search rules in
    absurd (c.in_default.ensures.cases.0 (IsUtf8-name c.in_ok-text.text.now named))
