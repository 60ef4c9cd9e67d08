-- A byte that is no digit leaves no number; 19 digits fit a word.
use Rattle.std.proofs.Common.{◌≡◌, ◌∙◌, ◌&&◌, ◌+◌, ◌*◌, ◌≤◌, Bool, true, false, length, drop, get_or, ap, sym, arith, rules}
use Rattle.std.proofs.lemmas.Bool.Decides.{nat_tests}
use Rattle.std.proofs.lemmas.Int.Digits.{digits_value_more}
use Rattle.std.proofs.lemmas.List.{take_all, drop_all}
use Rattle.std.specs.List.{list_all}
use Rattle.std.specs.Char.{is_ascii_digit, digit_value}
use Rattle.std.specs.Str.Parse.{digits_value}
use Rattle.table_model.proofs.DigitFacts.{digit_is, ten_more, room_in_word, digits_from, no_magnitude, empty_magnitude, digits_magnitude}
use Rattle.table_model.proofs.numerals.short_magnitude.Goals as goal

pub returns-then-not-is_ascii_digit : goal.returns-then-not-is_ascii_digit
returns-then-not-is_ascii_digit c =
    let other : is_ascii_digit (get_or c.args.text.now c.loop-digit.digit-index 0) ≡ false = search rules in
    sym (no_magnitude c.args.text.now
    (sym c.loop-digit.invariant.left
    ∙ digits_from c.args.text.now c.loop-digit.digit-index (omega arith)
    ∙ ap (λ (t : Bool). t && list_all is_ascii_digit (drop (c.loop-digit.digit-index + 1) c.args.text.now)) other))

pub overflow_mul-value : goal.overflow_mul-value
overflow_mul-value c =
    let room = room_in_word c.loop-digit.value c.loop-digit.digit-index c.loop-digit.invariant.below (omega arith) in omega arith

pub overflow_add-value : goal.overflow_add-value
overflow_add-value c =
    let one : is_ascii_digit (get_or c.args.text.now c.loop-digit.digit-index 0) ≡ true = search rules in
    let digit = digit_is (get_or c.args.text.now c.loop-digit.digit-index 0) one in
    let room = room_in_word c.loop-digit.value c.loop-digit.digit-index c.loop-digit.invariant.below (omega arith) in omega (arith, digit.0, digit.1)

pub loop-digit-preserved : goal.loop-digit-preserved
loop-digit-preserved c =
    let one : is_ascii_digit (get_or c.args.text.now c.loop-digit.digit-index 0) ≡ true = search rules in
    let digit = digit_is (get_or c.args.text.now c.loop-digit.digit-index 0) one in
    let value : c.from.result ≡ digit_value (get_or c.args.text.now c.loop-digit.digit-index 0) = c.from.ensures ∙ sym digit.2 in
    record {
      so_far = (λ i. c.loop-digit.invariant.so_far i * 10 + value i) ∙ sym (digits_value_more 10 c.args.text.now c.loop-digit.digit-index (omega arith));
      below = ten_more c.loop-digit.value c.from.result c.loop-digit.digit-index c.loop-digit.invariant.below (omega (arith, digit.0, digit.1));
      left = sym (ap (λ (t : Bool). t && list_all is_ascii_digit (drop (c.loop-digit.digit-index + 1) c.args.text.now)) one)
          ∙ sym (digits_from c.args.text.now c.loop-digit.digit-index (omega arith))
          ∙ c.loop-digit.invariant.left;
    }

pub returns-then-is_empty : goal.returns-then-is_empty
returns-then-is_empty c =
    let none : length c.args.text.now ≡ 0 = grind (arith, nat_tests, c.is_empty.ensures) in
    sym (empty_magnitude c.args.text.now none)

pub returns-else-is_empty : goal.returns-else-is_empty
returns-else-is_empty c =
    let some : 1 ≤ length c.args.text.now = grind (arith, nat_tests, c.is_empty.ensures) in
    let all : list_all is_ascii_digit c.args.text.now ≡ true = sym c.loop-digit.invariant.left ∙ ap (list_all is_ascii_digit) (drop_all c.loop-digit.digit-index c.args.text.now (omega arith)) in
    let value : c.loop-digit.value ≡ digits_value 10 c.args.text.now = c.loop-digit.invariant.so_far ∙ ap (digits_value 10) (take_all c.loop-digit.digit-index c.args.text.now (omega arith)) in
    rw value (sym (digits_magnitude c.args.text.now some (omega arith) all))
