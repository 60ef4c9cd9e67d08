-- Names: which are proper, their orders, and how a batch's name is written.
use Rattle.std.specs.Prelude.{ℕ, Bool, ◌&&◌, not, ◌==◌, List, ◌++◌, codes, refl}
use Rattle.std.specs.Fmt.{decimal}
use Rattle.std.specs.Ordering.{nat_cmp, ordering_then}
use Rattle.std.specs.Coded.{Coded, code_by, coded×, coded_ℕ}
use Rattle.std.specs.declared.cmp.Ordering.{Ordering}
use Rattle.table_model.specs.declared.names.BatchName.{BatchName}
use Rattle.table_model.specs.declared.names.RowName.{RowName}

-- a batch may have this name: its origin and its number are at least 1
abbrev pub is_proper_name : BatchName → Bool
is_proper_name name = not (name.origin.0 == 0) && not (name.number.0 == 0)

-- names of batches, by origin and then by number
abbrev pub name_cmp : BatchName → BatchName → Ordering
name_cmp a b = ordering_then (nat_cmp a.origin.0 b.origin.0) (nat_cmp a.number.0 b.number.0)

-- names of rows, by batch and then by ordinal
abbrev pub row_name_cmp : RowName → RowName → Ordering
row_name_cmp a b = ordering_then (name_cmp a.batch b.batch) (nat_cmp a.ordinal b.ordinal)

-- as it is written: 1.7
abbrev pub name_text : BatchName → List ℕ
name_text name = decimal name.origin.0 ++ (codes "." ++ decimal name.number.0)

-- a name as a pair of numbers
abbrev pub coded_name : Coded BatchName
coded_name = code_by (ℕ × ℕ) (coded× coded_ℕ coded_ℕ) (λ n. (n.origin.0, n.number.0)) (λ p. record { origin = record { 0 = p.0 }; number = record { 0 = p.1 } }) (λ _. refl)

-- a row's name as its batch's and a number
abbrev pub coded_row_name : Coded RowName
coded_row_name = code_by (BatchName × ℕ) (coded× coded_name coded_ℕ) (λ r. (r.batch, r.ordinal)) (λ p. record { batch = p.0; ordinal = p.1 }) (λ _. refl)
