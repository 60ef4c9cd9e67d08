-- One word more.
use Rattle.std.proofs.Common.{rules, ◌≡◌, ℕ, Bool, List, length, slice_index, refl, sym, ap, ◌∙◌, arith}
use Rattle.fused_kernels.proofs.RowRunLemmas.{put_more, put_none}
use Rattle.fused_kernels.proofs.row_codes.put_at.Goals.{then-words-index-ne0, else-words-index-ne0}
use Rattle.fused_kernels.proofs.row_codes.put_at.Goals as goal

pub loop-index-preserved : goal.loop-index-preserved
loop-index-preserved c =
    elim c.if-words-index-ne0.branch [
      | then-words-index-ne0 w ↦
          record {
            long = ap (λ (xs : List ℕ). length xs) w.codes-is ∙ w.put_in_word.array_long;
            written = λ n h. ap (λ (xs : List ℕ). slice_index xs n) w.codes-is ∙ put_more rows words start old w.put_in_word.new.codes index c.args.code n c.loop-index-test.true (sym c.words-words.ensures) c.loop-index.invariant.written c.loop-index.invariant.after w.put_in_word.ensures.written w.put_in_word.ensures.before h;
            after = λ n h. ap (λ (xs : List ℕ). slice_index xs n) w.codes-is ∙ w.put_in_word.ensures.after n (omega (arith, h)) ∙ c.loop-index.invariant.after n (omega (arith, h));
          }
      | else-words-index-ne0 w ↦
          let none : slice_index words index ≡ 0 = search rules in
          record {
            long = ap (λ (xs : List ℕ). length xs) w.codes-is ∙ c.loop-index.invariant.long;
            written = λ n h. ap (λ (xs : List ℕ). slice_index xs n) w.codes-is ∙ put_more rows words start old old index c.args.code n c.loop-index-test.true (sym c.words-words.ensures) c.loop-index.invariant.written c.loop-index.invariant.after (λ b l. put_none words old index c.args.code b none) (λ k l. refl) h;
            after = λ n h. ap (λ (xs : List ℕ). slice_index xs n) w.codes-is ∙ c.loop-index.invariant.after n (omega (arith, h));
          }
    ]
  where
    index : ℕ
    index = c.loop-index.index

    rows : List Bool
    rows = c.args.rows.now

    words : List ℕ
    words = c.words-words.result.now

    start : List ℕ
    start = c.args.codes.now

    old : List ℕ
    old = c.loop-index.codes

pub returns : goal.returns
returns c = λ n h. c.loop-index.invariant.written n (omega (arith, h))
