-- The readings of the parts of a container make that of the whole.
use Rattle.std.proofs.Common.{◌≡◌, ℕ, ◌-◌, ◌&&◌, IsTrue, List, [], ◌∷◌, ◌++◌, length, take, drop, Ok, All, sym, ap, ◌∙◌, arith}
use Rattle.std.proofs.lemmas.List.{take-append-drop}
use Rattle.segment_core.specs.Format.{Format, IsLawful, AreBytes}
use Rattle.segment_core.proofs.FormatLaws.{rest_are_bytes}
use Rattle.segment_core.proofs.SegmentLaws.{place_after}
use Rattle.std.proofs.lemmas.List.Elements.{All-append, All-from_recursion}
use Rattle.std.proofs.lemmas.Bool.{and_parts}
use Rattle.table_model.specs.Name.{is_proper_name}
use Rattle.table_model.specs.declared.names.BatchName.{BatchName}
use Rattle.column_file.specs.SummaryBytes.{any_name, proper_name, is_after, batch_name}
use Rattle.column_file.specs.ContainerBytes.{IsRest}
use Rattle.column_file.proofs.SummaryLaws.{batch_name_is_lawful}

-- the bytes of a rest
pub rest_bytes : (bytes rest : List ℕ) → AreBytes bytes → IsRest bytes rest → AreBytes rest
rest_bytes bytes rest fit is =
    let at = length bytes - length rest in
    rest_are_bytes bytes (take at bytes) rest (sym (take-append-drop at bytes) ∙ ap (λ (r : List ℕ). take at bytes ++ r) is) fit

-- what stands after what was read is a rest again
pub rest_after : {A : Type 0} (f : Format A) → IsLawful f → (bytes rest : List ℕ) (x : A) (after : List ℕ) → AreBytes bytes → IsRest bytes rest → f.read (length bytes) rest ≡ Ok (x, after) → IsRest bytes after
rest_after f law bytes rest x after fit is read =
    let taken = law.takes (length bytes) rest x after (rest_bytes bytes rest fit is) read in
    (place_after bytes (f.spell x) after (length bytes - length rest) (omega arith) (is ∙ taken.0)).0

-- a name that was read is proper
pub name_proper : (front : List BatchName) (total : ℕ) (bytes : List ℕ) (name : BatchName) (after : List ℕ) → AreBytes bytes → (batch_name front).read total bytes ≡ Ok (name, after) → IsTrue (is_proper_name name)
unfolding batch_name proper_name
name_proper front total bytes name after fit read =
    let valid = ((batch_name_is_lawful front).takes total bytes name after fit read).1 in
    let both = and_parts (any_name.valid name && is_proper_name name) (is_after front name) valid in
    (and_parts (any_name.valid name) (is_proper_name name) both.0).1

-- all bytes are left before any was read
pub rest_whole : (bytes : List ℕ) → IsRest bytes bytes
rest_whole bytes = let none : length bytes - length bytes ≡ 0 = omega arith in ap (λ (n : ℕ). drop n bytes) none

-- one more that the fact holds of
pub all_pushed : {A : Type 0} (P : A → Type 0) (xs : List A) (x : A) → All P xs → P x → All P (xs ++ x ∷ [])
all_pushed P xs x all here = All-append P xs (x ∷ []) all (All-from_recursion P (x ∷ []) (here, tt))
