-- What was opened is opened to the same replica, of which the answers are.
use Rattle.std.proofs.Common.{ap, sym, ◌∙◌}
use Rattle.column_file.proofs.FirstLaws.{first_files_open}
use Rattle.lanes_main.specs.FileReport.{opened_report}
use Rattle.lanes_main.proofs.laws.first_answers_stay.Goals as goal

pub returns : goal.returns
returns c = λ queries input r e. ap (opened_report queries) (first_files_open (record { 0 = 1 }) input r e ∙ sym e)
