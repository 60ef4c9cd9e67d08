-- One row more.
use Rattle.std.proofs.Common.{rules, ◌≡◌, ◌+◌, ℕ, ℤ, get_or, pos, FitsSigned, w64, to_z, sym, ap, ◌∙◌, arith}
use Rattle.std.specs.Int.{int_max}
use Rattle.std.proofs.lemmas.Int.{to_z-of_z}
use Rattle.query_eval.specs.Forms.{taken_form, top_below}
use Rattle.query_eval.specs.declared.tallies.forms.Form.TheVariants.{Shown}
use Rattle.query_eval.proofs.ExtremeLemmas.{top_more}
use Rattle.query_eval.proofs.tallies.masked_folds.top_in_word.Goals as goal

pub loop-bit-init : goal.loop-bit-init
loop-bit-init c rows on h =
    let start : c.args.first ≡ c.args.first + 0 = omega arith in
    h ∙ ap (λ k. top_below c.args.extreme k rows c.args.values.now) start

pub loop-bit-preserved : goal.loop-bit-preserved
loop-bit-preserved c rows on h =
    let bit = c.loop-bit.bit in
    let row : ℕ = c.args.first + bit in
    let values = c.args.values.now in
    let top : ℤ = to_z w64 c.loop-bit.top-bits in
    let x = c.at-shown.result in
    let held : FitsSigned w64 (get_or values row (pos 0)) = search rules in
    let shown = c.at-shown.ensures ∙ ap (taken_form (Shown c.args.extreme) c.has_bit.result) (to_z-of_z w64 (get_or values row (pos 0)) held) in
    let fits : FitsSigned w64 top = search rules in
    let also : FitsSigned w64 x = search rules in
    let now : FitsSigned w64 c.max-top.result = search rules in
    let next : row + 1 ≡ c.args.first + (bit + 1) = omega arith in
    to_z-of_z w64 c.max-top.result now ∙ c.max-top.ensures.value ∙ ap (int_max top) (to_z-of_z w64 x also)
    ∙ top_more c.args.extreme row rows values c.has_bit.result top x (sym (on bit c.loop-bit-test.true) ∙ sym c.has_bit.ensures) fits also (c.loop-bit.invariant rows on h) shown
    ∙ ap (λ k. top_below c.args.extreme k rows values) next

pub returns : goal.returns
returns c rows on h =
    let fits : FitsSigned w64 c.args.top = search rules in
    let e : c.args.first + c.loop-bit.bit ≡ c.args.first + 64 = omega (arith, c.loop-bit-test.false, c.loop-bit.auto.bit-end) in
    c.loop-bit.invariant rows on (to_z-of_z w64 c.args.top fits ∙ h) ∙ ap (λ k. top_below c.args.extreme k rows c.args.values.now) e
