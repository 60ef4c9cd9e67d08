-- The spellings are the same words.
use Rattle.std.proofs.Common.{refl}
use Rattle.table_model.specs.Identifier.{keywords as reserved_words}
use Rattle.query_parser.specs.Token.{keywords}
use Rattle.query_parser.proofs.laws.keywords_are_reserved.Goals as goal

pub returns : goal.returns
unfolding keywords reserved_words
returns c = refl
