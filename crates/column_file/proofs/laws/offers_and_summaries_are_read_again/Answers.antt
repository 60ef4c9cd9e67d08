use Rattle.column_file.proofs.FileLaws.{offers_are_read_again}
use Rattle.column_file.proofs.SummaryAgain.{summaries_are_read_again}
use Rattle.column_file.proofs.laws.offers_and_summaries_are_read_again.Goals as goal

pub returns : goal.returns
returns c = record { offers = offers_are_read_again; summaries = summaries_are_read_again }
