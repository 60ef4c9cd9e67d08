-- Each cell is the first.
use Rattle.std.proofs.Common.{◌≡◌, ℕ, ◌<◌, ◌≤◌, ◌+◌, ◌⊎◌, inl, inr, None, ℤ, FitsSigned, length, get_or, sym, ◌∙◌, subst, arith, rules}
use Rattle.std.specs.Int.{w64, w128}
use Rattle.std.proofs.lemmas.Int.{to_z-of_z}
use Rattle.std.proofs.lemmas.Bool.{cases_lt}
use Rattle.segment_core.proofs.gather.only_value.Goals as goal

pub loop-row-preserved : goal.loop-row-preserved
loop-row-preserved c = λ n l. one n l (cases_lt n c.loop-row.row)
  where
    same : get_or c.args.cells.now c.loop-row.row None ≡ get_or c.args.cells.now 0 None
    same = search rules

    one : (n : ℕ) → n < c.loop-row.row + 1 → (n < c.loop-row.row) ⊎ (c.loop-row.row ≤ n) → get_or c.args.cells.now n None ≡ get_or c.args.cells.now 0 None
    one n l (inl m) = c.loop-row.invariant n m
    one n l (inr m) = let e : c.loop-row.row ≡ n = omega arith in subst (λ (k : ℕ). get_or c.args.cells.now k None ≡ get_or c.args.cells.now 0 None) e same

pub overflow_cast-result : goal.overflow_cast-result
overflow_cast-result c =
    let some = c.requires.some in
    let fits : FitsSigned w64 c.in-Some.value = c.requires.fit 0 c.in-Some.value (omega arith) c.in-Some.is in
    let wide : FitsSigned w128 c.in-Some.value = search rules in
    subst (λ (z : ℤ). FitsSigned w64 z) (sym (to_z-of_z w128 c.in-Some.value wide)) fits

pub returns-then-ne-clause-told : goal.returns-then-ne-clause-told
returns-then-ne-clause-told c = λ value same.
    let some : 0 < length c.args.cells.now = omega (arith, c.requires.some) in
    let alike : get_or c.args.cells.now c.loop-row.row None ≡ get_or c.args.cells.now 0 None = same.each c.loop-row.row c.loop-row-test.true ∙ sym (same.each 0 some) in
    search (rules, alike)
