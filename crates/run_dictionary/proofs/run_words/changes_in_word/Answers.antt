-- A bit is set where the value changes.
use Rattle.std.proofs.Common.{ℕ, ◌+◌, ◌*◌, Bool, cond, ap, ◌∙◌, arith}
use Rattle.bit_interleave.specs.Range.{value_at}
use Rattle.run_dictionary.specs.Runs.{changes_at}
use Rattle.run_dictionary.proofs.StepLemmas.{number_of_truth, bit_more}
use Rattle.run_dictionary.proofs.run_words.changes_in_word.Goals as goal

pub loop-p-preserved : goal.loop-p-preserved
loop-p-preserved c =
    let f : ℕ → Bool = λ p. changes_at (value_at c.args.values.now) (64 * c.args.j + p) in
    let more = bit_more f c.loop-p.word c.from.result c.loop-p.p (omega arith) (c.from.ensures ∙ number_of_truth c.differs.result ∙ ap (λ b. cond b 1 0) c.differs.ensures) c.loop-p.invariant.below c.loop-p.invariant.above in
    record { below = more.0; above = more.1 }
