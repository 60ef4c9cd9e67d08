use Rattle.column_file.proofs.SummaryLaws.{summary_is_lawful}
use Rattle.column_file.proofs.laws.summaries_and_bytes_come_back.Goals as goal

pub returns : goal.returns
returns c = summary_is_lawful
