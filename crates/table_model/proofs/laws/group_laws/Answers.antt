-- Each row's keys occur, and the keys that occur all differ.
use Rattle.table_model.proofs.Groups.{groups}
use Rattle.table_model.proofs.laws.group_laws.Goals as goal

pub returns : goal.returns
returns c = groups
