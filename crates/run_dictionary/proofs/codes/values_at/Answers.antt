-- Each value is in the range of 64 bits, so its bits are read back as it is.
use Rattle.std.proofs.Common.{ℤ, List, pos, FitsSigned, slice_index, sym, ◌∙◌, subst, arith}
use Rattle.std.specs.Int.{w64}
use Rattle.bit_interleave.specs.Range.{value_at}
use Rattle.bit_interleave.proofs.SixteenLemmas.{sixteen_of-same}
use Rattle.run_dictionary.proofs.RangeLemmas.{read_back}
use Rattle.run_dictionary.proofs.codes.values_at.Goals as goal

pub returns-clause-values : goal.returns-clause-values
returns-clause-values c =
    read_back c.loop-i.values (λ i h. c.loop-i.invariant.fit i (omega (arith, c.loop-i.invariant.long)))
    ∙ sixteen_of-same (λ i. value_at c.args.dictionary.now.values (slice_index c.args.codes.now i)) c.loop-i.values (pos 0) c.loop-i.invariant.long (λ i h. c.loop-i.invariant.done i (omega arith))

pub returns-clause-fit : goal.returns-clause-fit
returns-clause-fit c = λ i h.
    let back = read_back c.loop-i.values (λ i h. c.loop-i.invariant.fit i (omega (arith, c.loop-i.invariant.long))) in
    subst (λ (xs : List ℤ). FitsSigned w64 (value_at xs i)) (sym back) (c.loop-i.invariant.fit i (omega arith))
