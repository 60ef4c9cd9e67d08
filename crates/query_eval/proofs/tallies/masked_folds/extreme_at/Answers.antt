-- One word more, by the greatest of the shown values.
use Rattle.std.proofs.Common.{rules, ◌≡◌, ◌==◌, ◌+◌, ◌*◌, ◌<◌, ℕ, ℤ, Bool, List, Some, false, get_or, map, FitsSigned, w64, to_z, sym, ap, ◌∙◌, arith}
use Rattle.std.proofs.lemmas.Int.{to_z-of_z}
use Rattle.std.specs.Int.{bit_at}
use Rattle.std.proofs.lemmas.Nat.Bits.{bit_at-zero}
use Rattle.transpose_order.specs.Mask.{has}
use Rattle.table_model.specs.Extreme.{turned}
use Rattle.query_eval.specs.Forms.{top_of}
use Rattle.query_eval.specs.Forms.{top_below}
use Rattle.query_eval.specs.Slices.{values_at}
use Rattle.query_eval.proofs.ExtremeLemmas.{extreme_none, extreme_some}
use Rattle.query_eval.proofs.GroupingLemmas.{word_bits}
use Rattle.query_eval.proofs.MaskedLemmas.{values_all, values_none, values_skip, values_some}
use Rattle.query_eval.proofs.tallies.masked_folds.extreme_at.Goals.{then-words-index-ne0, else-words-index-ne0}
use Rattle.query_eval.proofs.tallies.masked_folds.extreme_at.Goals as goal

pub returns-then-next_true-eq1024 : goal.returns-then-next_true-eq1024
returns-then-next_true-eq1024 c =
    let rows = c.args.rows.now in
    let values = c.args.values.now in
    extreme_none c.args.extreme (values_at rows values) (sym (values_all c.next_true.result rows values c.if-next_true-eq1024.true) ∙ values_none c.next_true.result rows values (λ n l. c.next_true.ensures.none n (omega arith) l))

pub loop-index-preserved : goal.loop-index-preserved
loop-index-preserved c =
    elim c.if-words-index-ne0.branch [
      | then-words-index-ne0 w ↦ (let fits : FitsSigned w64 w.top_in_word-top.result = search rules in w.top-is ∙ to_z-of_z w64 w.top_in_word-top.result fits) ∙ w.top_in_word-top.ensures rows bits c.loop-index.invariant ∙ next
      | else-words-index-ne0 w ↦ w.top-is ∙ c.loop-index.invariant ∙ skipped (search rules) ∙ next
    ]
  where
    j : ℕ
    j = c.loop-index.index

    rows : List Bool
    rows = c.args.rows.now

    values : List ℤ
    values = c.args.values.now

    words : List ℕ
    words = c.words-words.result.now

    bits : (b : ℕ) → b < 64 → (bit_at (get_or words j 0) b == 1) ≡ has rows (64 * j + b)
    bits b l = word_bits words rows j b c.loop-index-test.true l c.words-words.ensures

    next : top_below c.args.extreme (64 * j + 64) rows values ≡ top_below c.args.extreme (64 * (j + 1)) rows values
    next = let e : 64 * j + 64 ≡ 64 * (j + 1) = omega arith in ap (λ k. top_below c.args.extreme k rows values) e

    skipped : get_or words j 0 ≡ 0 → top_below c.args.extreme (64 * j) rows values ≡ top_below c.args.extreme (64 * j + 64) rows values
    skipped zero_word =
        let none : (b : ℕ) → b < 64 → has rows (64 * j + b) ≡ false = (λ b l. sym (bits b l) ∙ ap (λ n. bit_at n b == 1) zero_word ∙ ap (λ n. n == 1) (bit_at-zero b)) in
        ap (λ zs. top_of (map (turned c.args.extreme) zs)) (sym (values_skip (64 * j) 64 rows values none))

pub returns : goal.returns
returns c =
    let e : 64 * c.loop-index.index ≡ 1024 = omega (arith, c.loop-index-test.false, c.loop-index.auto.index-end) in
    let rows = c.args.rows.now in
    let values = c.args.values.now in
    let top : ℤ = to_z w64 c.loop-index.top-bits in
    let row : c.next_true.result < 1024 = omega (arith, c.next_true.ensures.within, c.if-next_true-eq1024.false) in
    let fits : FitsSigned w64 c.turned.result = search rules in
    ap Some (to_z-of_z w64 c.turned.result fits ∙ c.turned.ensures)
    ∙ extreme_some c.args.extreme (values_at rows values) top (c.loop-index.invariant ∙ ap (λ zs. top_of (map (turned c.args.extreme) zs)) (values_all (64 * c.loop-index.index) rows values e)) (λ _. values_some c.next_true.result rows values (c.next_true.ensures.here row) row)
