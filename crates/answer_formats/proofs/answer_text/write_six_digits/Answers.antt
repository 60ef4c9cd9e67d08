use Rattle.std.proofs.Common.{◌≡◌, ◌∙◌, ◌-◌, ◌++◌, List, ℕ, ap, append_assoc, length, replicate}
use Rattle.std.specs.Fmt.{decimal}
use Rattle.answer_formats.proofs.AnswerTexts.{at_most_six, zeros}
use Rattle.answer_formats.proofs.answer_text.write_six_digits.Goals as goal

pub split_at-requires : goal.split_at-requires
split_at-requires c =
    let text : c.as_bytes-digits.result.now ≡ decimal c.args.value = cc in
    rw text (at_most_six c.args.value c.requires)

pub returns : goal.returns
returns c =
    let old : List ℕ = c.args.out.now.items in
    let digits : List ℕ = c.as_bytes-digits.result.now in
    let text : digits ≡ decimal c.args.value = cc in
    let padding : c.split_at.result.1.now ≡ replicate (6 - length digits) 48 = c.split_at.ensures.back ∙ zeros (length digits) in
    c.in_ok-extend_from_slice-2.ensures.items
    ∙ ap (λ (xs : List ℕ). xs ++ digits) c.in_ok-extend_from_slice.ensures.items
    ∙ append_assoc old c.split_at.result.1.now digits
    ∙ ap (λ (xs : List ℕ). old ++ (xs ++ digits)) padding
    ∙ ap (λ (ds : List ℕ). old ++ (replicate (6 - length ds) 48 ++ ds)) text
