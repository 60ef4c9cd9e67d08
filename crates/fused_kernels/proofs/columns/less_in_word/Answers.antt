-- One more bit is written.
use Rattle.std.proofs.Common.{rules, ◌≡◌, ◌==◌, ◌&&◌, ◌||◌, ℕ, ◌+◌, Bool, int_lt, FitsSigned, to_z, of_z, sym, ap, ◌∙◌}
use Rattle.std.specs.Int.{bit_at, w64}
use Rattle.std.proofs.lemmas.Int.{to_z-of_z}
use Rattle.bit_interleave.specs.Range.{value_at}
use Rattle.native_lanes.proofs.MarkLemmas.{bit_more}
use Rattle.fused_kernels.proofs.columns.less_in_word.Goals as goal

pub loop-p-preserved : goal.loop-p-preserved
loop-p-preserved c = λ p h.
    let q = c.loop-p.p in
    let left = value_at c.args.left.now (c.args.first + q) in
    let right = value_at c.args.right.now (c.args.first + q) in
    let test : ℕ → Bool = λ p. int_lt (value_at c.args.left.now (c.args.first + p)) (value_at c.args.right.now (c.args.first + p)) in
    let lf : FitsSigned w64 left = search rules in
    let rf : FitsSigned w64 right = search rules in
    let tested : int_lt (to_z w64 (of_z w64 left)) (to_z w64 (of_z w64 right)) ≡ test q =
    ap (λ x. int_lt x (to_z w64 (of_z w64 right))) (to_z-of_z w64 left lf) ∙ ap (int_lt left) (to_z-of_z w64 right rf) in
    c.with_bit-word.ensures p h
    ∙ ap (λ b. (b && (p == q)) || (bit_at c.loop-p.word p == 1)) tested
    ∙ ap (λ b. (test q && (p == q)) || b) (c.loop-p.invariant p h)
    ∙ bit_more q p (test q) (test p) (λ e. ap test (sym e))
