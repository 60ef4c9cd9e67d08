-- A value differs where it is not the one before.
use Rattle.std.proofs.Common.{rules, not, FitsSigned, sym, ap, ◌∙◌}
use Rattle.std.specs.Int.{w64}
use Rattle.std.specs.Ordering.{int_eq}
use Rattle.bit_interleave.specs.Range.{value_at}
use Rattle.run_dictionary.proofs.RunLemmas.{changes_at-is}
use Rattle.run_dictionary.proofs.EqualLemmas.{eqb-bits}
use Rattle.run_dictionary.proofs.run_words.differs.Goals as goal

pub returns : goal.returns
returns c =
    let v = value_at c.args.values.now in
    let here : FitsSigned w64 (v c.args.row) = search rules in
    let before : FitsSigned w64 (v c.saturating_sub.result) = search rules in
    ap not (eqb-bits (v c.args.row) (v c.saturating_sub.result) here before)
    ∙ ap (λ k. not (int_eq (v c.args.row) (v k))) c.saturating_sub.ensures ∙ sym (changes_at-is v c.args.row)
