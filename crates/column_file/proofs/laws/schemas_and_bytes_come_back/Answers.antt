use Rattle.column_file.proofs.SchemaLaws.{schema_is_lawful, valid_is_table}
use Rattle.column_file.proofs.laws.schemas_and_bytes_come_back.Goals as goal

pub returns : goal.returns
returns c = record { lawful = schema_is_lawful; proper = valid_is_table }
