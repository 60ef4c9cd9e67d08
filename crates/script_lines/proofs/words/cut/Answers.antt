use Rattle.std.proofs.lemmas.Str.Pattern.{split_once_first}
use Rattle.script_lines.proofs.Cuts.{cut_from}
use Rattle.script_lines.proofs.words.cut.Goals as goal

pub returns-clause-parts : goal.returns-clause-parts
returns-clause-parts c = cut_from c.args.separator c.args.text.now c.split_once.result (split_once_first c.args.separator c.args.text.now c.split_once.result c.split_once.ensures.cases c.requires)
