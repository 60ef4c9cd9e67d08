-- One word more.
use Rattle.std.proofs.Common.{rules, ◌≡◌, ◌≢◌, ◌+◌, ◌*◌, ◌/◌, ◌%◌, ◌<◌, ◌≤◌, ◌⊎◌, inl, inr, ◌≤ℤ◌, ℕ, ℤ, List, get_or, set, length-set, pos, FitsSigned, w64, to_z, of_z, sym, subst, ◌∙◌, arith, get_or-set_same, get_or-set_other}
use Rattle.std.proofs.lemmas.Bool.{cases_lt}
use Rattle.std.proofs.lemmas.Int.{to_z-of_z}
use Rattle.query_eval.proofs.tallies.word_tops.word_tops.Goals as goal

pub loop-index-init : goal.loop-index-init
loop-index-init c = record { long = omega arith; top = λ j b l. absurd (omega (arith, l)) }

pub loop-index-preserved : goal.loop-index-preserved
loop-index-preserved c = record { long = length-set old index z ∙ c.loop-index.invariant.long; top = λ j b l. by_word j b l (cases_lt j index) }
  where
    index : ℕ
    index = c.loop-index.index

    old : List ℤ
    old = c.loop-index.tops

    z : ℤ
    z = to_z w64 (of_z w64 c.word_top.result)

    fits : FitsSigned w64 c.word_top.result
    fits = search rules

    other : (n : ℕ) → n ≢ index → get_or (set old index z) n (pos 0) ≡ get_or old n (pos 0)
    other n ne = rw get_or-set_other

    here : get_or (set old index z) index (pos 0) ≡ c.word_top.result
    here = get_or-set_same old index z (pos 0) (omega (arith, c.loop-index.invariant.long, c.loop-index-test.true)) ∙ to_z-of_z w64 c.word_top.result fits

    by_word : (j b : ℕ) → j < index + 1 → (j < index) ⊎ (index ≤ j) → b < 64 → get_or c.args.shown.now (64 * j + b) (pos 0) ≤ℤ get_or (set old index z) j (pos 0)
    by_word j b l (inl below) m = subst (λ (y : ℤ). get_or c.args.shown.now (64 * j + b) (pos 0) ≤ℤ y) (sym (other j (let e : j ≢ index = omega (arith, below) in e))) (c.loop-index.invariant.top j b below m)
    by_word j b l (inr h) m =
        let e : index ≡ j = omega (arith, l, h) in
        subst (λ (k : ℕ). get_or c.args.shown.now (64 * k + b) (pos 0) ≤ℤ get_or (set old index z) k (pos 0)) e
        (subst (λ (y : ℤ). get_or c.args.shown.now (64 * index + b) (pos 0) ≤ℤ y) (sym here) (c.word_top.ensures b m))

pub returns : goal.returns
returns c = λ n l.
    let whole : 64 * (n / 64) + n % 64 ≡ n = omega arith in
    subst (λ (k : ℕ). get_or c.args.shown.now k (pos 0) ≤ℤ get_or c.loop-index.tops (n / 64) (pos 0)) whole
    (c.loop-index.invariant.top (n / 64) (n % 64) (omega (arith, l, c.loop-index-test.false)) (omega arith))
