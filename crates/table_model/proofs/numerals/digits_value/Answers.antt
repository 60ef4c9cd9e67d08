use Rattle.std.proofs.Common.{◌≡◌, ◌+◌, ◌*◌, get_or, arith, ◌∙◌, sym}
use Rattle.std.proofs.Math.Nat.{pow-le-pow_right}
use Rattle.std.proofs.lemmas.Int.Digits.{digits_value_more}
use Rattle.std.specs.Char.{digit_value}
use Rattle.table_model.specs.Numeral.{value_digits}
use Rattle.table_model.proofs.DigitFacts.{digit_at, digit_is, ten_more, room_for_ten}
use Rattle.table_model.proofs.numerals.digits_value.Goals as goal

pub overflow_mul-value : goal.overflow_mul-value
overflow_mul-value c =
    let room = room_for_ten c.loop-digit.value c.loop-digit.digit-index c.loop-digit.invariant.below (omega arith) in omega arith

pub overflow_add-value : goal.overflow_add-value
overflow_add-value c =
    let digit = digit_is (get_or c.args.text.now c.loop-digit.digit-index 0) (digit_at c.args.text.now c.loop-digit.digit-index (omega arith) c.requires.digits) in
    let room = room_for_ten c.loop-digit.value c.loop-digit.digit-index c.loop-digit.invariant.below (omega arith) in omega (arith, digit.0, digit.1)

pub loop-digit-preserved : goal.loop-digit-preserved
loop-digit-preserved c =
    let digit = digit_is (get_or c.args.text.now c.loop-digit.digit-index 0) (digit_at c.args.text.now c.loop-digit.digit-index (omega arith) c.requires.digits) in
    let value : c.from.result ≡ digit_value (get_or c.args.text.now c.loop-digit.digit-index 0) = c.from.ensures ∙ sym digit.2 in
    record {
      so_far = (λ i. c.loop-digit.invariant.so_far i * 10 + value i) ∙ sym (digits_value_more 10 c.args.text.now c.loop-digit.digit-index (omega arith));
      below = ten_more c.loop-digit.value c.from.result c.loop-digit.digit-index c.loop-digit.invariant.below (omega (arith, digit.0, digit.1));
    }

pub returns-clause-bound : goal.returns-clause-bound
returns-clause-bound c =
    let power = pow-le-pow_right {n = 10} (omega arith) {i = c.loop-digit.digit-index} {j = value_digits} (omega arith) in omega arith
