-- One word more.
use Rattle.std.proofs.Common.{◌≡◌, ◌+◌, ◌-◌, ◌*◌, ◌<◌, ◌≤◌, ◌⊎◌, inl, inr, ℕ, get_or, pos, sym, ap, subst, ◌∙◌, arith}
use Rattle.std.proofs.lemmas.Bool.{cases_lt}
use Rattle.transpose_order.proofs.MaskLemmas.{has-word}
use Rattle.query_eval.specs.Forms.{formed_at, taken_form}
use Rattle.query_eval.proofs.tallies.forms.Form.write.Goals as goal

pub loop-index-preserved : goal.loop-index-preserved
loop-index-preserved c = λ n l. by_row n l (cases_lt n (64 * c.loop-index.index))
  where
    index : ℕ
    index = c.loop-index.index

    by_row : (n : ℕ) → n < 64 * (index + 1) → (n < 64 * index) ⊎ (64 * index ≤ n) → get_or c.write_word.new.room n (pos 0) ≡ formed_at c.args.self c.args.rows.now c.args.values.now n
    by_row n l (inl below) = c.write_word.ensures.before n below ∙ c.loop-index.invariant n below
    by_row n l (inr here) =
        let bit : ℕ = n - 64 * index in
        let place : 64 * index + bit ≡ n = omega arith in
        let within : bit < 64 = omega arith in
        let on = sym (has-word c.words-words.result.now c.args.rows.now (sym c.words-words.ensures) index bit c.loop-index-test.true within) in
        subst (λ (k : ℕ). get_or c.write_word.new.room k (pos 0) ≡ formed_at c.args.self c.args.rows.now c.args.values.now k) place
        (c.write_word.ensures.value bit within ∙ ap (λ b. taken_form c.args.self b (get_or c.args.values.now (64 * index + bit) (pos 0))) on)
