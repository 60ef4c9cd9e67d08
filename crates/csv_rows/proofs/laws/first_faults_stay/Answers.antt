use Rattle.std.proofs.Common.{None}
use Rattle.csv_rows.proofs.CutTexts.{fault_stays}
use Rattle.csv_rows.proofs.laws.first_faults_stay.Goals as goal

pub returns : goal.returns
returns c = λ dialect table has front fault ends refused more. fault_stays dialect table has None front more fault ends refused
