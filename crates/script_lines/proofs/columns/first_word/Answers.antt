use Rattle.script_lines.proofs.ColumnLaws.{pieces_of_cut, pieces_of_none}
use Rattle.script_lines.proofs.columns.first_word.Goals as goal

pub returns-in-None-clause-words : goal.returns-in-None-clause-words
returns-in-None-clause-words c = pieces_of_none c.args.text.now c.in-None.ensures.parts

pub returns-in-Some-clause-words : goal.returns-in-Some-clause-words
returns-in-Some-clause-words c = pieces_of_cut c.args.text.now c.in-Some.word.now c.in-Some.rest.now c.in-Some.ensures.parts
