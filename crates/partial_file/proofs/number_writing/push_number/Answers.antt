use Rattle.segment_core.proofs.NumberLaws.{number_is_valid}
use Rattle.partial_file.proofs.number_writing.push_number.Goals as goal

pub returns-clause-valid : goal.returns-clause-valid
returns-clause-valid c = number_is_valid c.args.size c.args.value c.requires.fits
