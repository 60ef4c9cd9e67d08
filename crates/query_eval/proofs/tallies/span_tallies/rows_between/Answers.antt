-- The rows before the first and from the end on are taken away.
use Rattle.std.proofs.Common.{◌≡◌, ◌<◌, ℕ, nat_le, nat_lt, if◌then◌else◌, Bool, true, false, ◌&&◌, List, ap, ◌∙◌, arith}
use Rattle.std.proofs.lemmas.Bool.Decides.{nat_tests}
use Rattle.transpose_order.specs.Mask.{has}
use Rattle.transpose_order.specs.MaskWords.{has-rows_of, rows_of-like}
use Rattle.query_eval.proofs.tallies.span_tallies.rows_between.Goals as goal

cut : (b : Bool) (first end n : ℕ) → n < 1024 → (if nat_le end n && nat_lt n 1024 then false else (if nat_le 0 n && nat_lt n first then false else b)) ≡ (b && (nat_le first n && nat_lt n end))
cut true first end n l = grind (arith, nat_tests)
cut false first end n l = grind (arith, nat_tests)

pub returns : goal.returns
returns c =
    let rows = c.args.rows.now in
    let first = c.args.first in
    let end = c.args.end in
    c.set_range-2.ensures
    ∙ rows_of-like _ _
    (λ n l.
    ap (λ (m : List Bool). if nat_le end n && nat_lt n 1024 then false else has m n) c.set_range.ensures
    ∙ ap (λ b. if nat_le end n && nat_lt n 1024 then false else b) (has-rows_of (λ m. if nat_le 0 m && nat_lt m first then false else has rows m) n l) ∙ cut (has rows n) first end n l)
