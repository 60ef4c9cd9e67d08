-- The bits of the words are read off, place by place.
use Rattle.std.proofs.Common.{rules, ◌≡◌, ◌==◌, refl, sym, ap, ◌∙◌}
use Rattle.std.specs.Int.{bit_at}
use Rattle.std.proofs.lemmas.Bool.{agree_below_at}
use Rattle.frame_delta.specs.Delta.{is_later}
use Rattle.segment_core.proofs.runs.later_in_word.Goals as goal

pub returns-in-8 : goal.returns-in-8
returns-in-8 c place l =
    agree_below_at (λ p. bit_at 18374403900871474942 p == 1) (is_later 8) 64 place refl l ∙ ap (λ t. is_later t place) (sym c.in-8.is)

pub returns-in-16 : goal.returns-in-16
returns-in-16 c place l =
    agree_below_at (λ p. bit_at 18446462594437808126 p == 1) (is_later 16) 64 place refl l ∙ ap (λ t. is_later t place) (sym c.in-16.is)

pub returns-in-32 : goal.returns-in-32
returns-in-32 c place l =
    agree_below_at (λ p. bit_at 18446744069414584318 p == 1) (is_later 32) 64 place refl l ∙ ap (λ t. is_later t place) (sym c.in-32.is)

pub returns-in_default : goal.returns-in_default
returns-in_default c place l =
    let wide : c.args.lane_width ≡ 64 = search rules in
    agree_below_at (λ p. bit_at 18446744073709551614 p == 1) (is_later 64) 64 place refl l ∙ ap (λ t. is_later t place) (sym wide)
