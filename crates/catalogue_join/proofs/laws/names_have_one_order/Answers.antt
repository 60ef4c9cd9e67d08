-- Two strictly ascending lists with the same members are the same.
use Rattle.catalogue_join.proofs.SortedLists.{only_list}
use Rattle.catalogue_join.proofs.laws.names_have_one_order.Goals as goal

pub returns : goal.returns
returns c = only_list
