-- A full vector has no row past its last.
use Rattle.std.proofs.Common.{◌≡◌, ℕ, ◌<◌, Bool, true, false, cond, List, ◌&&◌, nat_le, nat_lt, if◌then◌else◌, sym, ap, ◌∙◌, arith}
use Rattle.std.proofs.lemmas.Bool.Decides.{nat_tests}
use Rattle.segment_core.specs.CodedVector.{is_null}
use Rattle.transpose_order.specs.Mask.{rows_of, has}
use Rattle.transpose_order.specs.MaskWords.{has-rows_of, rows_of-like}
use Rattle.store_view.proofs.view.missing_rows.Goals as goal

pub returns-then-covered-eq-VECTOR_ROWS : goal.returns-then-covered-eq-VECTOR_ROWS
returns-then-covered-eq-VECTOR_ROWS c =
    let covers : c.args.vector.now.rows ≡ 1024 = sym c.rows-covered.ensures.value ∙ c.if-covered-eq-VECTOR_ROWS.true in
    let nulls : List Bool = rows_of (is_null c.args.vector.now.nulls) in
    c.null_rows-nulls.ensures ∙ rows_of-like _ (λ n. if nat_le c.args.vector.now.rows n && nat_lt n 1024 then true else has nulls n)
    (λ n low. sym (ap (λ b. cond (b && nat_lt n 1024) true (has nulls n)) (before n low covers) ∙ has-rows_of (is_null c.args.vector.now.nulls) n low))
  where
    before : (n : ℕ) → n < 1024 → c.args.vector.now.rows ≡ 1024 → nat_le c.args.vector.now.rows n ≡ false
    before n low covers = grind (arith, nat_tests, covers, low)

pub returns : goal.returns
returns c =
    c.set_range.ensures
    ∙ ap (λ (first : ℕ). rows_of (λ n. if nat_le first n && nat_lt n 1024 then true else has c.null_rows-nulls.result n)) c.rows-covered.ensures.value
    ∙ ap (λ (mask : List Bool). rows_of (λ n. if nat_le c.args.vector.now.rows n && nat_lt n 1024 then true else has mask n)) c.null_rows-nulls.ensures
