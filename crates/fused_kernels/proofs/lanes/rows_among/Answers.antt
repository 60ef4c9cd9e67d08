-- Each mask row by row.
use Rattle.std.proofs.Common.{◌≡◌, ℕ, Bool, ◌&&◌, not, true, false, cond, nat_lt, nat_le, sym, ap, ◌∙◌, arith}
use Rattle.std.proofs.lemmas.Bool.Decides.{nat_tests}
use Rattle.transpose_order.specs.Mask.{has}
use Rattle.transpose_order.specs.MaskWords.{rows_of-like, has-rows_of}
use Rattle.native_lanes.proofs.BoolLemmas.{cond_true_false, zero_le}
use Rattle.fused_kernels.proofs.lanes.rows_among.Goals as goal

pub returns-then-rows-eq1024 : goal.returns-then-rows-eq1024
returns-then-rows-eq1024 c =
    let kept : ℕ → Bool = λ n. has c.args.mask.now n && not (has c.args.nulls.now n) in
    c.and_not-some.ensures
    ∙ rows_of-like kept (λ n. nat_lt n c.args.rows && kept n)
    (λ n h. let on : nat_lt n c.args.rows ≡ true = grind (arith, nat_tests, h, c.if-rows-eq1024.true) in sym (ap (λ b. b && kept n) on))

pub returns : goal.returns
returns c =
    let rows = c.args.rows in
    let kept : ℕ → Bool = λ n. has c.args.mask.now n && not (has c.args.nulls.now n) in
    c.and.ensures
    ∙ rows_of-like _ (λ n. nat_lt n rows && kept n)
    (λ n h.
    let none = c.none-covered.result in
    let cut : ℕ → Bool = λ n. cond (nat_le 0 n && nat_lt n rows) true (has none n) in
    let covered : has c.set_range.new.self n ≡ nat_lt n rows =
    ap (λ m. has m n) c.set_range.ensures ∙ has-rows_of cut n h
    ∙ ap (λ b. cond (b && nat_lt n rows) true (has none n)) (zero_le n)
    ∙ ap (λ b. cond (nat_lt n rows) true b) (ap (λ m. has m n) c.none-covered.ensures ∙ has-rows_of (λ _. false) n h)
    ∙ cond_true_false (nat_lt n rows) in
    ap (λ x. x && has c.and_not-some.result n) covered ∙ ap (λ x. nat_lt n rows && x) (ap (λ m. has m n) c.and_not-some.ensures ∙ has-rows_of kept n h))
