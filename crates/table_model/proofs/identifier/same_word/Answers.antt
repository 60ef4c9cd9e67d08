-- Lower case and upper case forget the same.
use Rattle.table_model.proofs.Texts.{same_folded-lower}
use Rattle.table_model.proofs.identifier.same_word.Goals as goal

pub returns : goal.returns
returns c = same_folded-lower c.args.a.now c.args.b.now c.eq_ignore_ascii_case.result c.eq_ignore_ascii_case.ensures.test
