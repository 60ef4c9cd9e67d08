-- One row more in each table.
use Rattle.std.proofs.Common.{rules, ◌≡◌, ◌==◌, ◌+◌, ◌*◌, ◌^◌, ◌<◌, ℕ, ℤ, List, cond, get_or, pos, ◌+ℤ◌, FitsSigned, w64, sym, ap, subst, ◌∙◌, arith}
use Rattle.std.proofs.lemmas.Int.{to_z-of_z}
use Rattle.table_model.specs.Group.{IsWithin}
use Rattle.query_eval.specs.CodeSums.{rows_coded}
use Rattle.query_eval.specs.Packed.{packed_sum}
use Rattle.query_eval.specs.Slices.{code_limit}
use Rattle.query_eval.proofs.CodeSumLemmas.{pair_more, within_more}
use Rattle.query_eval.proofs.MaskedLemmas.{values_all}
use Rattle.query_eval.proofs.tallies.code_tallies.add_packed.Goals as goal

pub loop-pair-preserved : goal.loop-pair-preserved
loop-pair-preserved c = record {
  even = λ k l. subst (IsWithin (2 ^ 52 * (pair + 1))) (sym (first k l)) (within_more pair (get_or codes (2 * pair) 0 == k) _ _ (c.loop-pair.invariant.even k l) (c.requires.packed (2 * pair) (omega (arith, inside))));
  odd = λ k l. subst (IsWithin (2 ^ 52 * (pair + 1))) (sym (second k l)) (within_more pair (get_or codes (2 * pair + 1) 0 == k) _ _ (c.loop-pair.invariant.odd k l) (c.requires.packed (2 * pair + 1) (omega (arith, inside))));
  sums = λ rows values h k l. pair_more rows codes values packed k pair _ _ _ _ h inside (c.loop-pair.invariant.sums rows values h k l) (first k l) (second k l);
}
  where
    codes : List ℕ
    codes = c.args.codes.now

    packed : List ℤ
    packed = c.args.packed.now

    pair : ℕ
    pair = c.loop-pair.pair

    inside : pair < 512
    inside = c.loop-pair-test.true

    even_fits : FitsSigned w64 (get_or packed (2 * pair) (pos 0))
    even_fits = search rules

    odd_fits : FitsSigned w64 (get_or packed (2 * pair + 1) (pos 0))
    odd_fits = search rules

    first : (k : ℕ) → k < code_limit → get_or c.add_code.new.sums k (pos 0) ≡ get_or c.loop-pair.even k (pos 0) +ℤ cond (get_or codes (2 * pair) 0 == k) (get_or packed (2 * pair) (pos 0)) (pos 0)
    first k l = c.add_code.ensures k l ∙ ap (λ z. get_or c.loop-pair.even k (pos 0) +ℤ cond (get_or codes (2 * pair) 0 == k) z (pos 0)) (to_z-of_z w64 (get_or packed (2 * pair) (pos 0)) even_fits)

    second : (k : ℕ) → k < code_limit → get_or c.add_code-in-loop-pair.new.sums k (pos 0) ≡ get_or c.loop-pair.odd k (pos 0) +ℤ cond (get_or codes (2 * pair + 1) 0 == k) (get_or packed (2 * pair + 1) (pos 0)) (pos 0)
    second k l = c.add_code-in-loop-pair.ensures k l ∙ ap (λ z. get_or c.loop-pair.odd k (pos 0) +ℤ cond (get_or codes (2 * pair + 1) 0 == k) z (pos 0)) (to_z-of_z w64 (get_or packed (2 * pair + 1) (pos 0)) odd_fits)

pub returns-clause-sums : goal.returns-clause-sums
returns-clause-sums c = λ rows values h k l.
    c.loop-pair.invariant.sums rows values h k l
    ∙ ap packed_sum (values_all (2 * c.loop-pair.pair) (rows_coded rows c.args.codes.now k) values (omega (arith, c.loop-pair-test.false, c.loop-pair.auto)))
