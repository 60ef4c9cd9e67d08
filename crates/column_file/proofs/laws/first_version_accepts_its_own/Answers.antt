use Rattle.column_file.proofs.FirstFiles.{first_files_come_back, first_offers_come_back, first_summaries_come_back}
use Rattle.column_file.proofs.laws.first_version_accepts_its_own.Goals as goal

pub returns : goal.returns
returns c = record {
  files = first_files_come_back;
  offers = first_offers_come_back;
  summaries = first_summaries_come_back;
}
