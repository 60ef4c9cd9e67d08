-- The descent finds the stack's first fault, and what it reads is in the grammar.
use Rattle.std.proofs.Common.{length}
use Rattle.query_parser.specs.Descent.{query_of}
use Rattle.query_parser.specs.Stack.{text_fault}
use Rattle.query_parser.specs.Token.{tokens_of}
use Rattle.query_parser.proofs.Conditions.{finds}
use Rattle.query_parser.proofs.Spelling.{answers}
use Rattle.query_parser.proofs.Wholes.{takes_queries, syntax_no_query}
use Rattle.query_parser.proofs.query.parse.Goals as goal

pub returns-clause-first : goal.returns-clause-first
unfolding query_of text_fault
returns-clause-first c = finds (length c.args.text.now) (tokens_of c.args.text.now) c.read_text.result c.read_text.ensures

pub returns-clause-grammar : goal.returns-clause-grammar
unfolding query_of
returns-clause-grammar c = answers (length c.args.text.now) (tokens_of c.args.text.now) c.read_text.result c.read_text.ensures

pub returns-clause-takes : goal.returns-clause-takes
unfolding query_of
returns-clause-takes c = takes_queries (length c.args.text.now) (tokens_of c.args.text.now) c.read_text.result c.read_text.ensures

pub returns-clause-syntax : goal.returns-clause-syntax
unfolding query_of
returns-clause-syntax c = λ at e. syntax_no_query (length c.args.text.now) at (tokens_of c.args.text.now) c.read_text.result c.read_text.ensures e
