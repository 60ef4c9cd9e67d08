-- One word more.
use Rattle.std.proofs.Common.{◌≡◌, ◌≢◌, ◌==◌, ◌+◌, ◌*◌, ◌/◌, ◌%◌, ◌<◌, ◌≤◌, ◌⊎◌, inl, inr, ℕ, Bool, List, false, get_or, set, length-set, sym, ap, ◌∙◌, arith, get_or-set_same, get_or-set_other}
use Rattle.std.specs.Int.{bit_at}
use Rattle.std.proofs.lemmas.Bool.{cases_lt}
use Rattle.transpose_order.specs.Mask.{has, rows_of, truth_at}
use Rattle.query_eval.proofs.GroupingLemmas.{word_bits}
use Rattle.query_eval.proofs.filter.turning_rows.turning_rows.Goals as goal

pub loop-index-init : goal.loop-index-init
loop-index-init c = record {
  long = omega arith;
  before = λ j e. absurd (omega (arith, e));
  inside = λ j b l. absurd (omega (arith, l));
  joint = λ j l. absurd (omega (arith, l));
}

pub loop-index-preserved : goal.loop-index-preserved
loop-index-preserved c = record {
  long = length-set old index w ∙ c.loop-index.invariant.long;
  before = λ j e. ap (λ k. get_or words k 0) (let f : index ≡ j = omega (arith, e) in f);
  inside = λ j b l. inside j b l (cases_lt j index);
  joint = λ j l. joint j l (cases_lt (j + 1) index);
}
  where
    index : ℕ
    index = c.loop-index.index

    words : List ℕ
    words = c.words-words.result.now

    old : List ℕ
    old = c.loop-index.turning

    w : ℕ
    w = c.turning_bits.result

    other : (n : ℕ) → n ≢ index → get_or (set old index w) n 0 ≡ get_or old n 0
    other n ne = rw get_or-set_other

    here : get_or (set old index w) index 0 ≡ w
    here = get_or-set_same old index w 0 (omega (arith, c.loop-index.invariant.long, c.loop-index-test.true))

    inside : (j b : ℕ) → j < index + 1 → (j < index) ⊎ (index ≤ j) → b + 1 < 64 → (bit_at (get_or (set old index w) j 0) (b + 1) == 1) ≡ false → (bit_at (get_or words j 0) (b + 1) == 1) ≡ (bit_at (get_or words j 0) b == 1)
    inside j b l (inl below) m off = c.loop-index.invariant.inside j b below m (ap (λ x. bit_at x (b + 1) == 1) (sym (other j (let e : j ≢ index = omega (arith, below) in e))) ∙ off)
    inside j b l (inr at) m off =
        let e : index ≡ j = omega (arith, l, at) in
        ap (λ k. bit_at (get_or words k 0) (b + 1) == 1) (sym e)
        ∙ c.turning_bits.ensures.inside b m (ap (λ x. bit_at x (b + 1) == 1) (sym here ∙ ap (λ k. get_or (set old index w) k 0) e) ∙ off)
        ∙ ap (λ k. bit_at (get_or words k 0) b == 1) e

    joint : (j : ℕ) → j + 1 < index + 1 → (j + 1 < index) ⊎ (index ≤ j + 1) → (bit_at (get_or (set old index w) (j + 1) 0) 0 == 1) ≡ false → (bit_at (get_or words (j + 1) 0) 0 == 1) ≡ (bit_at (get_or words j 0) 63 == 1)
    joint j l (inl below) off = c.loop-index.invariant.joint j below (ap (λ x. bit_at x 0 == 1) (sym (other (j + 1) (let e : j + 1 ≢ index = omega (arith, below) in e))) ∙ off)
    joint j l (inr at) off =
        let e : index ≡ j + 1 = omega (arith, l, at) in
        ap (λ k. bit_at (get_or words k 0) 0 == 1) (sym e)
        ∙ c.turning_bits.ensures.joint (ap (λ x. bit_at x 0 == 1) (sym here ∙ ap (λ k. get_or (set old index w) k 0) e) ∙ off)
        ∙ ap (λ x. bit_at x 63 == 1) (c.loop-index.invariant.before j (sym e))

turned : (words turning : List ℕ) (mask rows : List Bool) → mask ≡ rows_of (truth_at words) → rows ≡ rows_of (truth_at turning)
    → ((j b : ℕ) → j < 16 → b + 1 < 64 → (bit_at (get_or turning j 0) (b + 1) == 1) ≡ false → (bit_at (get_or words j 0) (b + 1) == 1) ≡ (bit_at (get_or words j 0) b == 1))
    → ((j : ℕ) → j + 1 < 16 → (bit_at (get_or turning (j + 1) 0) 0 == 1) ≡ false → (bit_at (get_or words (j + 1) 0) 0 == 1) ≡ (bit_at (get_or words j 0) 63 == 1))
    → (n : ℕ) → n + 1 < 1024 → has rows (n + 1) ≡ false → has mask (n + 1) ≡ has mask n
turned words turning mask rows is also inside joint n l off = by_place (cases_lt (n % 64) 63)
  where
    j : ℕ
    j = n / 64

    by_place : (n % 64 < 63) ⊎ (63 ≤ n % 64) → has mask (n + 1) ≡ has mask n
    by_place (inl h) =
        let b : ℕ = n % 64 in
        let here : 64 * j + b ≡ n = omega arith in
        let next : 64 * j + (b + 1) ≡ n + 1 = omega arith in
        let word : j < 16 = omega (arith, l) in
        ap (has mask) (sym next) ∙ sym (word_bits words mask j (b + 1) word (omega (arith, h)) is)
        ∙ inside j b word (omega (arith, h)) (word_bits turning rows j (b + 1) word (omega (arith, h)) also ∙ ap (has rows) next ∙ off)
        ∙ word_bits words mask j b word (omega (arith, h)) is ∙ ap (has mask) here
    by_place (inr h) =
        let here : 64 * j + 63 ≡ n = omega (arith, h) in
        let next : 64 * (j + 1) + 0 ≡ n + 1 = omega (arith, h) in
        let word : j + 1 < 16 = omega (arith, l, h) in
        ap (has mask) (sym next) ∙ sym (word_bits words mask (j + 1) 0 word (omega arith) is)
        ∙ joint j word (word_bits turning rows (j + 1) 0 word (omega arith) also ∙ ap (has rows) next ∙ off)
        ∙ word_bits words mask j 63 (omega (arith, word)) (omega arith) is ∙ ap (has mask) here

pub returns : goal.returns
returns c =
    let all : c.loop-index.index ≡ 16 = omega (arith, c.loop-index-test.false, c.loop-index.auto.index-end) in
    turned c.words-words.result.now c.loop-index.turning c.args.mask.now c.from_words.result c.words-words.ensures c.from_words.ensures
    (λ j b l. c.loop-index.invariant.inside j b (omega (arith, l, all))) (λ j l. c.loop-index.invariant.joint j (omega (arith, l, all)))
