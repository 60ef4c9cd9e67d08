-- One word more.
use Rattle.std.proofs.Common.{◌≡◌, ◌+◌, ◌*◌, ℕ, subst, arith}
use Rattle.query_eval.specs.Places.{ArePlaced}
use Rattle.query_eval.proofs.GroupingLemmas.{word_bits}
use Rattle.query_eval.proofs.PlaceLemmas.{placed_none}
use Rattle.query_eval.proofs.grouping.row_places.place_by_value.Goals as goal

pub loop-index-init : goal.loop-index-init
loop-index-init c = record { index = λ h. h; placed = λ by v shown h. placed_none by v c.args.mask.now c.args.places.now.index.entries c.args.out.now }

pub loop-index-preserved : goal.loop-index-preserved
loop-index-preserved c =
    let j = c.loop-index.index in
    let inv = c.loop-index.invariant in
    let next : 64 * j + 64 ≡ 64 * (j + 1) = omega arith in
    record {
      index = λ h. c.in_ok-place_word.ensures.index (inv.index h);
      placed = λ by v shown h.
          subst (λ (k : ℕ). ArePlaced k by v c.args.mask.now c.args.places.now.index.entries c.place_word.new.places.index.entries c.place_word.new.out) next
          (c.in_ok-place_word.ensures.placed by v c.args.mask.now c.args.nulls.now c.args.places.now.index.entries shown (λ b m. word_bits c.words-words.result.now c.args.mask.now j b c.loop-index-test.true m c.words-words.ensures)
          (λ b m. word_bits c.words-null_words.result.now c.args.nulls.now j b c.loop-index-test.true m c.words-null_words.ensures) (inv.index h) (inv.placed by v shown h));
    }

pub returns-clause-placed : goal.returns-clause-placed
returns-clause-placed c = λ by v shown h.
    let e : 64 * c.loop-index.index ≡ 1024 = omega (arith, c.loop-index-test.false, c.loop-index.auto.index-end) in
    subst (λ (k : ℕ). ArePlaced k by v c.args.mask.now c.args.places.now.index.entries c.loop-index.places.index.entries c.loop-index.out) e (c.loop-index.invariant.placed by v shown h)
