use Rattle.column_file.proofs.FirstLaws.{versions_are_written, first_files_stay, first_files_hold, first_files_open, first_offers_are_read, first_summaries_are_read}
use Rattle.column_file.proofs.laws.first_version_is_kept.Goals as goal

pub returns : goal.returns
returns c = record {
  field = versions_are_written;
  bytes = first_files_stay;
  files = first_files_hold;
  opened = first_files_open;
  offers = first_offers_are_read;
  summaries = first_summaries_are_read;
}
