-- Maximal ranges rise, and of the lists that rise only one has the same rows.
use Rattle.catalogue_join.proofs.RowSets.{rises_from_maximal, same_ranges_of_rows}
use Rattle.catalogue_join.proofs.laws.rows_have_one_list_of_ranges.Goals as goal

pub returns : goal.returns
returns c ranges others maximal also same = same_ranges_of_rows ranges others (rises_from_maximal ranges maximal) (rises_from_maximal others also) same
