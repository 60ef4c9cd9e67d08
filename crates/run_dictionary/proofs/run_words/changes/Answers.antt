-- The words of the mask are those of its rows.
use Rattle.std.proofs.Common.{◌∙◌, arith}
use Rattle.transpose_order.proofs.MaskLemmas.{rows_of-words}
use Rattle.bit_interleave.specs.Range.{value_at}
use Rattle.run_dictionary.specs.Runs.{changes_at}
use Rattle.run_dictionary.proofs.run_words.changes.Goals as goal

pub returns : goal.returns
returns c = c.from_words.ensures ∙ rows_of-words c.loop-j.words (changes_at (value_at c.args.values.now)) (λ j p h l. c.loop-j.invariant.1 j p (omega arith) l)
