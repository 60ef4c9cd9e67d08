-- The laws of a container in bytes.
use Rattle.std.proofs.Common.{◌≡◌, ℕ, zero, suc, eqb, List, [], length, map, codes, Some, refl, sym, ap}
use Rattle.std.proofs.lemmas.Bool.{eqb-true, and_parts}
use Rattle.table_model.specs.Table.{Table}
use Rattle.table_model.specs.declared.names.BatchName.{BatchName}
use Rattle.table_model.specs.declared.refusal.Refusal.TheVariants.{BadName, BadOrder, BadRange}
use Rattle.segment_core.specs.CodedVector.{VectorForm}
use Rattle.segment_core.specs.Format.{Format, IsLawful, number, seen, checked, before, all, valid_all}
use Rattle.segment_core.specs.SegmentBytes.{batch_columns}
use Rattle.segment_core.proofs.FormatLaws.{seen_is_lawful, checked_is_lawful, before_is_lawful, all_is_lawful}
use Rattle.segment_core.proofs.NumberLaws.{number_is_lawful}
use Rattle.segment_core.proofs.SegmentLaws.{batch_columns_are_lawful}
use Rattle.segment_core.proofs.VectorLaws.{some_is}
use Rattle.column_file.specs.SummaryBytes.{head, any_name, batch_name, name_count}
use Rattle.column_file.specs.ContainerBytes.{one_less, row_count, Entry, name_of, batch, batches, Deleted, is_named, is_range, begins_after, range_parts, range, ranges, container}
use Rattle.column_file.proofs.SummaryLaws.{head_is_lawful, any_name_is_lawful, batch_name_is_lawful, name_count_is_lawful}

one_more_is : (n rows : ℕ) → one_less rows ≡ Some n → suc n ≡ rows
one_more_is n zero e = absurd cc
one_more_is n (suc m) e = ap suc (sym (some_is m n e))

pub row_count_is_lawful : IsLawful row_count
unfolding row_count
row_count_is_lawful = seen_is_lawful (number 2) suc one_less (number_is_lawful 2) (λ n valid. refl) one_more_is

pub batch_is_lawful : (table : Table) (front : List Entry) → IsLawful (batch table front)
unfolding batch
batch_is_lawful table front =
    let name = batch_name (map name_of front) in
    let rest : BatchName → Format (ℕ × List (List VectorForm)) = λ _. before row_count (batch_columns table) in
    before_is_lawful name rest (batch_name_is_lawful (map name_of front)) (λ n valid. before_is_lawful row_count (batch_columns table) row_count_is_lawful (λ rows v. batch_columns_are_lawful table rows))

-- a count, and so many items
pub counted_is_lawful : {A : Type 0} (count : Format ℕ) (item : List A → Format A) → IsLawful count → ((front : List A) → IsLawful (item front))
    → IsLawful (seen (before count (λ n. all n item)) (λ p. p.1) (λ (found : List A). Some (length found, found)))
counted_is_lawful {A = A} count item law laws =
    let rest : ℕ → Format (List A) = λ n. all n item in
    let made : ℕ × List A → List A = λ p. p.1 in
    seen_is_lawful (before count rest) made (λ found. Some (length found, found))
    (before_is_lawful count rest law (λ n valid. all_is_lawful n item (λ front below. laws front)))
    (λ p valid.
    let v = and_parts (count.valid p.0) ((rest p.0).valid p.1) valid in
    let long : length p.1 ≡ p.0 = eqb-true _ _ (and_parts (eqb (length p.1) p.0) (valid_all item [] p.1) v.1).0 in
    ap (λ (n : ℕ). Some (n, p.1)) long)
    (λ p found e. sym (ap made (some_is {A = ℕ × List A} (length found, found) p e)))

pub batches_is_lawful : (table : Table) → IsLawful (batches table)
unfolding batches
batches_is_lawful table = counted_is_lawful name_count (batch table) name_count_is_lawful (batch_is_lawful table)

pub range_parts_is_lawful : IsLawful range_parts
unfolding range_parts
range_parts_is_lawful =
    let ordinals : BatchName → Format (ℕ × ℕ) = λ _. before (number 2) (λ _. number 2) in
    before_is_lawful any_name ordinals any_name_is_lawful (λ n valid. before_is_lawful (number 2) (λ _. number 2) (number_is_lawful 2) (λ x v. number_is_lawful 2))

pub range_is_lawful : (front : List Deleted) → IsLawful (range front)
unfolding range
range_is_lawful front =
    let named = checked range_parts is_named (λ _. BadName) in
    let ordered = checked named is_range BadRange in
    checked_is_lawful ordered (begins_after front) BadOrder (checked_is_lawful named is_range BadRange (checked_is_lawful range_parts is_named (λ _. BadName) range_parts_is_lawful))

pub ranges_is_lawful : IsLawful ranges
unfolding ranges
ranges_is_lawful = counted_is_lawful (number 8) range (number_is_lawful 8) range_is_lawful

pub container_is_lawful : IsLawful container
unfolding container
container_is_lawful =
    let rest : Table → Format (List Entry × List Deleted) = λ table. before (batches table) (λ _. ranges) in
    before_is_lawful (head (codes "FLCF")) rest (head_is_lawful (codes "FLCF")) (λ t valid. before_is_lawful (batches t) (λ _. ranges) (batches_is_lawful t) (λ found v. ranges_is_lawful))
