-- The constant's words are the keywords.
use Rattle.std.proofs.Common.{rules}
use Rattle.table_model.specs.Identifier.{keywords, is_keyword}
use Rattle.table_model.proofs.identifier.is_keyword.Goals as goal

pub returns : goal.returns
unfolding keywords is_keyword
returns c = search rules
