-- The orders of names are total, and tell names apart: both are orders of pairs of numbers.
use Rattle.std.specs.Prelude.{ℕ}
use Rattle.std.proofs.Common.{ap}
use Rattle.std.specs.Cmp.{IsTotalOrder, nat_cmp_total}
use Rattle.std.specs.Ordering.{nat_cmp}
use Rattle.std.proofs.lemmas.Cmp.{on_total, then_total}
use Rattle.std.proofs.lemmas.Map.Lookups.{CmpEqualImpliesEq, exact_pairs, exact_unsigned}
use Rattle.table_model.specs.Name.{name_cmp, row_name_cmp}
use Rattle.table_model.specs.declared.names.BatchName.{BatchName}
use Rattle.table_model.specs.declared.names.RowName.{RowName}

pub names_total : IsTotalOrder name_cmp
names_total = then_total (on_total (λ (n : BatchName). n.origin.0) nat_cmp_total) (on_total (λ (n : BatchName). n.number.0) nat_cmp_total)

pub row_names_total : IsTotalOrder row_name_cmp
row_names_total = then_total (on_total (λ (r : RowName). r.batch) names_total) (on_total (λ (r : RowName). r.ordinal) nat_cmp_total)

-- names that compare alike are one
pub exact_names : CmpEqualImpliesEq name_cmp
exact_names a b tied =
    let to : ℕ × ℕ → BatchName = λ (p : ℕ × ℕ). record { origin = record { 0 = p.0 }; number = record { 0 = p.1 } } in
    ap to (exact_pairs nat_cmp nat_cmp exact_unsigned exact_unsigned (a.origin.0, a.number.0) (b.origin.0, b.number.0) tied)

-- names of rows that compare alike are one
pub exact_row_names : CmpEqualImpliesEq row_name_cmp
exact_row_names a b tied =
    let to : BatchName × ℕ → RowName = λ (p : BatchName × ℕ). record { batch = p.0; ordinal = p.1 } in
    ap to (exact_pairs name_cmp nat_cmp exact_names exact_unsigned (a.batch, a.ordinal) (b.batch, b.ordinal) tied)
