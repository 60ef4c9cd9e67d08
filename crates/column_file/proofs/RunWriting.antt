-- The bytes of the names of runs, name by name and run by run.
use Rattle.std.proofs.Common.{◌≡◌, ℕ, zero, suc, ◌+◌, ◌-◌, ◌<◌, Option, Result, Err, List, [], ◌∷◌, ◌++◌, length, get_or, take, drop, ap, ◌∙◌, arith}
use Rattle.std.specs.Io.KnownBytes.{Appends}
use Rattle.std.proofs.lemmas.List.{append-nil}
use Rattle.table_model.specs.declared.names.Origin.{Origin}
use Rattle.table_model.specs.declared.names.BatchName.{BatchName}
use Rattle.table_model.specs.declared.refusal.Refusal.{Refusal}
use Rattle.catalogue_join.specs.declared.run.Run.{Run}
use Rattle.catalogue_join.specs.Run.{name_at, names_from, names_of, names_listed}
use Rattle.catalogue_join.proofs.NameLists.{listed_more, listed_parts}
use Rattle.segment_core.specs.Format.{Writes, spell_all}
use Rattle.table_model.proofs.Written.{appends_both}
use Rattle.segment_core.proofs.Writings.{writes_both, writes_front, spell_all-append, spell_all-cons, spell_all-nil}
use Rattle.column_file.specs.SummaryBytes.{batch_name}

-- the bytes of names after those before them
abbrev pub name_bytes : List BatchName → List BatchName → List ℕ
name_bytes front names = spell_all batch_name front names

-- names of an origin, by those before a number, the one of the number and those behind it
names_from-split : (origin : Origin) (count rest n k : ℕ) → k ≡ suc (count + rest) → names_from origin n k ≡ names_from origin n count ++ (name_at origin (n + count) ∷ names_from origin (n + count + 1) rest)
names_from-split origin zero rest n k e =
    let whole : k ≡ suc rest = omega arith in
    let here : n ≡ n + 0 = omega arith in
    ap (names_from origin n) whole ∙ ap (λ (m : ℕ). name_at origin m ∷ names_from origin (m + 1) rest) here
names_from-split origin (suc count) rest n zero e = absurd (omega arith)
names_from-split origin (suc count) rest n (suc k) e =
    let here : n + 1 + count ≡ n + suc count = omega arith in
    ap (λ (xs : List BatchName). name_at origin n ∷ xs)
    (names_from-split origin count rest (n + 1) k (omega arith) ∙ ap (λ (m : ℕ). names_from origin (n + 1) count ++ (name_at origin m ∷ names_from origin (m + 1) rest)) here)

split_bytes : (front : List BatchName) (origin : Origin) (count rest n k : ℕ) → k ≡ suc (count + rest)
    → name_bytes front (names_from origin n k) ≡ name_bytes front (names_from origin n count) ++ ((batch_name (front ++ names_from origin n count)).spell (name_at origin (n + count)) ++ name_bytes ((front ++ names_from origin n count) ++ name_at origin (n + count) ∷ []) (names_from origin (n + count + 1) rest))
split_bytes front origin count rest n k e =
    let before = names_from origin n count in
    let name = name_at origin (n + count) in
    let behind = names_from origin (n + count + 1) rest in
    ap (name_bytes front) (names_from-split origin count rest n k e) ∙ spell_all-append batch_name front before (name ∷ behind)
    ∙ ap (λ (t : List ℕ). name_bytes front before ++ t) (spell_all-cons batch_name (front ++ before) name behind)

-- one more name of a run is written
pub name_done : (front : List BatchName) (origin : Origin) (count n : ℕ) (old mid new : Option (List ℕ))
    → Appends old mid (name_bytes front (names_from origin n count)) → Appends mid new ((batch_name (front ++ names_from origin n count)).spell (name_at origin (n + count))) → Appends old new (name_bytes front (names_from origin n (count + 1)))
name_done front origin count n old mid new first one =
    let before = names_from origin n count in
    let name = name_at origin (n + count) in
    let whole : name_bytes front (names_from origin n (count + 1)) ≡ name_bytes front before ++ (batch_name (front ++ before)).spell name =
    split_bytes front origin count 0 n (count + 1) (omega arith)
    ∙ ap (λ (t : List ℕ). name_bytes front before ++ ((batch_name (front ++ before)).spell name ++ t)) (spell_all-nil batch_name ((front ++ before) ++ name ∷ []))
    ∙ ap (λ (t : List ℕ). name_bytes front before ++ t) (append-nil ((batch_name (front ++ before)).spell name)) in
    rw whole (appends_both old mid new (name_bytes front before) ((batch_name (front ++ before)).spell name) first one)

-- a fault in a name is one in the run
pub name_fault : (front : List BatchName) (origin : Origin) (count n k : ℕ) (r : Result (Unit {0}) Refusal) (e : Refusal) (old mid new : Option (List ℕ)) (before between after : ℕ)
    → count < k → r ≡ Err e → Appends old mid (name_bytes front (names_from origin n count)) → between ≡ before
    → Writes (Err e) mid new between after ((batch_name (front ++ names_from origin n count)).spell (name_at origin (n + count))) → Writes r old new before after (name_bytes front (names_from origin n k))
name_fault front origin count n k r e old mid new before between after below is first same one =
    let names = names_from origin n count in
    let name = name_at origin (n + count) in
    let rest = k - count - 1 in
    let behind = name_bytes ((front ++ names) ++ name ∷ []) (names_from origin (n + count + 1) rest) in
    rw (split_bytes front origin count rest n k (omega arith))
    (writes_both r old mid new before between after (name_bytes front names) ((batch_name (front ++ names)).spell name ++ behind) first same
    (writes_front r e mid new between after ((batch_name (front ++ names)).spell name) behind is one))

-- one more run is written
pub run_done : (runs : List Run) (i : ℕ) (d : Run) (old mid new : Option (List ℕ)) → i < length runs
    → Appends old mid (name_bytes [] (names_listed (take i runs))) → Appends mid new (name_bytes (names_listed (take i runs)) (names_of (get_or runs i d))) → Appends old new (name_bytes [] (names_listed (take (i + 1) runs)))
run_done runs i d old mid new below first one =
    let before = names_listed (take i runs) in
    let names = names_of (get_or runs i d) in
    let whole : name_bytes [] (names_listed (take (i + 1) runs)) ≡ name_bytes [] before ++ name_bytes before names =
    ap (name_bytes []) (listed_more runs i d below) ∙ spell_all-append batch_name [] before names in
    rw whole (appends_both old mid new (name_bytes [] before) (name_bytes before names) first one)

-- a fault in a run is one in all
pub run_fault : (runs : List Run) (i : ℕ) (d : Run) (r : Result (Unit {0}) Refusal) (e : Refusal) (old mid new : Option (List ℕ)) (before between after : ℕ)
    → i < length runs → r ≡ Err e → Appends old mid (name_bytes [] (names_listed (take i runs))) → between ≡ before
    → Writes (Err e) mid new between after (name_bytes (names_listed (take i runs)) (names_of (get_or runs i d))) → Writes r old new before after (name_bytes [] (names_listed runs))
run_fault runs i d r e old mid new before between after below is first same one =
    let front = names_listed (take i runs) in
    let names = names_of (get_or runs i d) in
    let behind = names_listed (drop (i + 1) runs) in
    let whole : name_bytes [] (names_listed runs) ≡ name_bytes [] front ++ (name_bytes front names ++ name_bytes (front ++ names) behind) =
    ap (name_bytes []) (listed_parts runs i d below) ∙ spell_all-append batch_name [] front (names ++ behind)
    ∙ ap (λ (t : List ℕ). name_bytes [] front ++ t) (spell_all-append batch_name front names behind) in
    rw whole
    (writes_both r old mid new before between after (name_bytes [] front) (name_bytes front names ++ name_bytes (front ++ names) behind) first same
    (writes_front r e mid new between after (name_bytes front names) (name_bytes (front ++ names) behind) is one))
