use Rattle.std.proofs.lemmas.Str.Pattern.{strip_prefix_char}
use Rattle.script_lines.proofs.Cuts.{without_from}
use Rattle.script_lines.proofs.words.without.Goals as goal

pub returns-clause-rest : goal.returns-clause-rest
returns-clause-rest c = without_from c.args.first c.args.text.now c.strip_prefix.result (strip_prefix_char c.args.first c.args.text.now c.strip_prefix.result c.strip_prefix.ensures.cases c.requires)
