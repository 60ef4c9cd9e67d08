-- The descent finds the stack's first fault, and what it reads is in the grammar.
use Rattle.std.proofs.Common.{length}
use Rattle.query_parser.specs.Descent.{condition_of}
use Rattle.query_parser.specs.Stack.{condition_fault}
use Rattle.query_parser.specs.Token.{tokens_of}
use Rattle.query_parser.proofs.WholeConditions.{finds_condition, answers_condition, takes_conditions, syntax_no_condition}
use Rattle.query_parser.proofs.where_text.parse_condition.Goals as goal

pub returns-clause-first : goal.returns-clause-first
unfolding condition_of condition_fault
returns-clause-first c = finds_condition (length c.args.text.now) (tokens_of c.args.text.now) c.read_condition_text.result c.read_condition_text.ensures

pub returns-clause-grammar : goal.returns-clause-grammar
unfolding condition_of
returns-clause-grammar c = answers_condition (length c.args.text.now) (tokens_of c.args.text.now) c.read_condition_text.result c.read_condition_text.ensures

pub returns-clause-takes : goal.returns-clause-takes
unfolding condition_of
returns-clause-takes c = takes_conditions (length c.args.text.now) (tokens_of c.args.text.now) c.read_condition_text.result c.read_condition_text.ensures

pub returns-clause-syntax : goal.returns-clause-syntax
unfolding condition_of
returns-clause-syntax c = λ at e. syntax_no_condition (length c.args.text.now) at (tokens_of c.args.text.now) c.read_condition_text.result c.read_condition_text.ensures e
