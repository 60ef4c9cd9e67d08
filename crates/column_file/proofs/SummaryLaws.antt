-- The laws of a summary in bytes.
use Rattle.std.proofs.Common.{◌≡◌, ◌≤◌, ℕ, true, false, ◌&&◌, eqb, leb, ltb, List, [], length, take, drop, codes, Some, Result, Ok, refl, sym, ap, ◌∙◌}
use Rattle.std.proofs.lemmas.Bool.{eqb-true, le-ltb, and_parts}
use Rattle.table_model.specs.Name.{is_proper_name}
use Rattle.table_model.specs.Table.{Table}
use Rattle.table_model.specs.declared.names.BatchName.{BatchName}
use Rattle.table_model.specs.declared.refusal.Refusal.{Refusal}
use Rattle.table_model.specs.declared.refusal.Refusal.TheVariants.{BadMagic, BadVersion, BadName, BadOrder, BadCount}
use Rattle.segment_core.specs.Format.{Format, IsLawful, raw, number, checked, before, all, valid_all, constant}
use Rattle.table_model.specs.Identifier.{same_text}
use Rattle.table_model.proofs.SameTable.{one_text}
use Rattle.segment_core.proofs.FormatLaws.{raw_is_lawful, seen_is_lawful, checked_is_lawful, before_is_lawful, all_is_lawful}
use Rattle.segment_core.proofs.NumberLaws.{number_is_lawful}
use Rattle.segment_core.proofs.VectorLaws.{some_is}
use Rattle.replica_store.specs.Replica.{batch_limit}
use Rattle.column_file.specs.SchemaBytes.{schema, version_of}
use Rattle.column_file.specs.SummaryBytes.{is_version, version, has_version, head, any_name, proper_name, is_after, batch_name, name_count, names, summary}
use Rattle.column_file.proofs.SchemaLaws.{schema_is_lawful}

version_is_lawful : IsLawful version
unfolding version
version_is_lawful = checked_is_lawful (number 2) is_version (λ _. BadVersion) (number_is_lawful 2)

pub head_is_lawful : (magic : List ℕ) → IsLawful (head magic)
unfolding head
head_is_lawful magic =
    let first = constant magic BadMagic in
    let rest : List ℕ → Format (ℕ × Table) = λ _. before version schema in
    let made : List ℕ × (ℕ × Table) → Table = λ p. p.1.1 in
    seen_is_lawful (checked (before first rest) has_version (λ _. BadVersion)) made (λ t. Some (magic, (version_of t, t)))
    (checked_is_lawful (before first rest) has_version (λ _. BadVersion)
    (before_is_lawful first rest (checked_is_lawful (raw (length magic)) (same_text magic) (λ _. BadMagic) (raw_is_lawful (length magic))) (λ x valid. before_is_lawful version schema version_is_lawful (λ n v. schema_is_lawful n))))
    (λ p valid.
    let u = and_parts (first.valid p.0 && (rest p.0).valid p.1) (has_version p) valid in
    let v = and_parts (first.valid p.0) ((rest p.0).valid p.1) u.0 in
    let same : magic ≡ p.0 = one_text magic p.0 (and_parts ((raw (length magic)).valid p.0) (same_text magic p.0) v.0).1 in
    let stands : p.1.0 ≡ version_of p.1.1 = eqb-true _ _ u.1 in
    λ i. Some (same i, (sym stands i, p.1.1)))
    (λ p t e. sym (ap made (some_is {A = List ℕ × (ℕ × Table)} (magic, (version_of t, t)) p e)))

pub any_name_is_lawful : IsLawful any_name
unfolding any_name
any_name_is_lawful =
    let parts = before (number 4) (λ (_ : ℕ). number 4) in
    let made : ℕ × ℕ → BatchName = λ p. record { origin = record { 0 = p.0 }; number = record { 0 = p.1 } } in
    seen_is_lawful parts made (λ n. Some (n.origin.0, n.number.0)) (before_is_lawful (number 4) (λ _. number 4) (number_is_lawful 4) (λ x valid. number_is_lawful 4))
    (λ p valid. refl)
    (λ p n e. ap made (sym (some_is {A = ℕ × ℕ} (n.origin.0, n.number.0) p e)))

pub proper_name_is_lawful : IsLawful proper_name
unfolding proper_name
proper_name_is_lawful = checked_is_lawful any_name is_proper_name (λ _. BadName) any_name_is_lawful

pub batch_name_is_lawful : (front : List BatchName) → IsLawful (batch_name front)
unfolding batch_name
batch_name_is_lawful front = checked_is_lawful proper_name (is_after front) BadOrder proper_name_is_lawful

pub name_count_is_lawful : IsLawful name_count
unfolding name_count
name_count_is_lawful = checked_is_lawful (number 4) (λ n. leb n batch_limit) BadCount (number_is_lawful 4)

pub names_is_lawful : IsLawful names
unfolding names
names_is_lawful =
    let rest : ℕ → Format (List BatchName) = λ n. all n batch_name in
    let made : ℕ × List BatchName → List BatchName = λ p. p.1 in
    seen_is_lawful (before name_count rest) made (λ found. Some (length found, found))
    (before_is_lawful name_count rest name_count_is_lawful (λ n valid. all_is_lawful n batch_name (λ front below. batch_name_is_lawful front)))
    (λ p valid.
    let v = and_parts (name_count.valid p.0) ((rest p.0).valid p.1) valid in
    let long : length p.1 ≡ p.0 = eqb-true _ _ (and_parts (eqb (length p.1) p.0) (valid_all batch_name [] p.1) v.1).0 in
    ap (λ (n : ℕ). Some (n, p.1)) long)
    (λ p found e. sym (ap made (some_is {A = ℕ × List BatchName} (length found, found) p e)))

pub summary_is_lawful : IsLawful summary
unfolding summary
summary_is_lawful = before_is_lawful (head (codes "FLSM")) (λ _. names) (head_is_lawful (codes "FLSM")) (λ t valid. names_is_lawful)

abbrev both_read : List ℕ × List ℕ → Result (List ℕ × List ℕ) Refusal
both_read p = Ok p

-- a text that is as it must be
pub magic_read : (magic bytes front back : List ℕ) (total : ℕ) → length magic ≤ length bytes → front ≡ take (length magic) bytes → back ≡ drop (length magic) bytes → same_text magic front ≡ true
    → (constant magic BadMagic).read total bytes ≡ Ok (magic, back)
magic_read magic bytes front back total long f b same =
    let enough : ltb (length bytes) (length magic) ≡ false = le-ltb _ _ long in
    let read : (constant magic BadMagic).read total bytes ≡ both_read (front, back) = rw (enough, ← f, ← b, same) refl in
    read ∙ ap (λ (x : List ℕ). both_read (x, back)) (sym (one_text magic front same))
