-- A comparison is another's denial.
use Rattle.std.proofs.Common.{◌≡◌, ℕ, not, ℤ, int_lt, int_le, List, Bool, sym, ap, ◌∙◌, arith}
use Rattle.std.specs.Ordering.{int_eq}
use Rattle.std.proofs.lemmas.Int.{ints}
use Rattle.table_model.specs.Truth.{compared}
use Rattle.transpose_order.specs.Mask.{rows_of, has}
use Rattle.transpose_order.specs.MaskWords.{rows_of-like, has-rows_of}
use Rattle.bit_interleave.specs.Range.{value_at}
use Rattle.fused_kernels.proofs.columns.rows_where.Goals as goal

denied : (mask : List Bool) (f g : ℕ → Bool) → mask ≡ rows_of f → ((n : ℕ) → not (f n) ≡ g n) → rows_of (λ n. not (has mask n)) ≡ rows_of g
denied mask f g is same =
    rows_of-like (λ n. not (has mask n)) g (λ n h. ap not (ap (λ m. has m n) is ∙ has-rows_of f n h) ∙ same n)

not_less : (x y : ℤ) → not (int_lt y x) ≡ int_le x y
not_less x y = grind (arith, ints)

pub returns-in-NotEqual : goal.returns-in-NotEqual
returns-in-NotEqual c =
    let l = value_at c.args.left.now in
    let r = value_at c.args.right.now in
    c.not.ensures ∙ denied c.equal_rows-in-NotEqual.result (λ n. int_eq (l n) (r n)) (λ n. compared c.args.op (l n) (r n)) c.equal_rows-in-NotEqual.ensures (λ n. ap (λ op. compared op (l n) (r n)) (sym c.in-NotEqual.is))

pub returns-in-LessOrEqual : goal.returns-in-LessOrEqual
returns-in-LessOrEqual c =
    let l = value_at c.args.left.now in
    let r = value_at c.args.right.now in
    c.not-in-LessOrEqual.ensures ∙ denied c.less_rows-in-LessOrEqual.result (λ n. int_lt (r n) (l n)) (λ n. compared c.args.op (l n) (r n)) c.less_rows-in-LessOrEqual.ensures (λ n. not_less (l n) (r n) ∙ ap (λ op. compared op (l n) (r n)) (sym c.in-LessOrEqual.is))

pub returns-in-GreaterOrEqual : goal.returns-in-GreaterOrEqual
returns-in-GreaterOrEqual c =
    let l = value_at c.args.left.now in
    let r = value_at c.args.right.now in
    c.not-in-GreaterOrEqual.ensures ∙ denied c.less_rows-in-GreaterOrEqual.result (λ n. int_lt (l n) (r n)) (λ n. compared c.args.op (l n) (r n)) c.less_rows-in-GreaterOrEqual.ensures (λ n. not_less (r n) (l n) ∙ ap (λ op. compared op (l n) (r n)) (sym c.in-GreaterOrEqual.is))
