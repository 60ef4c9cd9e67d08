-- One row more.
use Rattle.std.proofs.Common.{rules, ◌≡◌, ◌≢◌, ◌==◌, ◌+◌, ◌<◌, ◌≤◌, ◌⊎◌, inl, inr, ℕ, ℤ, get_or, set, length, pos, FitsSigned, w64, to_z, of_z, ap, subst, ◌∙◌, arith, get_or-set_same, get_or-set_other, length-set}
use Rattle.std.specs.Int.{bit_at}
use Rattle.std.proofs.lemmas.Bool.{cases_lt}
use Rattle.std.proofs.lemmas.Int.{to_z-of_z}
use Rattle.query_eval.specs.Forms.{taken_form}
use Rattle.query_eval.proofs.tallies.forms.Form.write_word.Goals as goal

pub loop-bit-preserved : goal.loop-bit-preserved
loop-bit-preserved c = record {
  long = length-set c.loop-bit.room row z ∙ c.loop-bit.invariant.long;
  before = λ n l. other n (let e : n ≢ row = omega arith in e) ∙ c.loop-bit.invariant.before n l;
  value = λ b l. by_bit b l (cases_lt b bit);
}
  where
    bit : ℕ
    bit = c.loop-bit.bit

    row : ℕ
    row = c.args.first + bit

    z : ℤ
    z = to_z w64 (of_z w64 c.at.result)

    other : (n : ℕ) → n ≢ row → get_or (set c.loop-bit.room row z) n (pos 0) ≡ get_or c.loop-bit.room n (pos 0)
    other n ne = rw get_or-set_other

    is : z ≡ taken_form c.args.self (bit_at c.args.word bit == 1) (get_or c.args.values.now row (pos 0))
    is =
        let within : row < 1024 = omega (arith, c.loop-bit-test.true, c.requires.first) in
        let fits : FitsSigned w64 (get_or c.args.values.now row (pos 0)) = search rules in
        let now : FitsSigned w64 c.at.result = search rules in
        to_z-of_z w64 c.at.result now ∙ c.at.ensures ∙ ap (taken_form c.args.self c.has_bit.result) (to_z-of_z w64 (get_or c.args.values.now row (pos 0)) fits)
        ∙ ap (λ b. taken_form c.args.self b (get_or c.args.values.now row (pos 0))) c.has_bit.ensures

    by_bit : (b : ℕ) → b < bit + 1 → (b < bit) ⊎ (bit ≤ b) → get_or (set c.loop-bit.room row z) (c.args.first + b) (pos 0) ≡ taken_form c.args.self (bit_at c.args.word b == 1) (get_or c.args.values.now (c.args.first + b) (pos 0))
    by_bit b l (inl below) = other (c.args.first + b) (let e : c.args.first + b ≢ row = omega arith in e) ∙ c.loop-bit.invariant.value b below
    by_bit b l (inr here) =
        let same : bit ≡ b = omega arith in
        let long : row < length c.loop-bit.room = omega (arith, c.loop-bit.invariant.long, c.loop-bit-test.true, c.requires.first) in
        subst (λ (k : ℕ). get_or (set c.loop-bit.room row z) (c.args.first + k) (pos 0) ≡ taken_form c.args.self (bit_at c.args.word k == 1) (get_or c.args.values.now (c.args.first + k) (pos 0))) same
        (rw get_or-set_same is)
