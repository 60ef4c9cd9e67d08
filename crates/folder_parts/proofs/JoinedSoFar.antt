-- One more part after those that were joined.
use Rattle.std.specs.Prelude.{◌≡◌, ℕ, ◌+◌, List, [], ◌∷◌, ◌++◌, Result, Ok}
use Rattle.std.proofs.Common.{refl, ap, ◌∙◌}
use Rattle.table_model.specs.Reading.{◌>>=◌}
use Rattle.table_model.specs.declared.refusal.Refusal.{Refusal}
use Rattle.replica_store.specs.Replica.{Replica, merged}
use Rattle.replica_reports.specs.Held.{held_in}
use Rattle.replica_changes.specs.Commands.{merged_with}
use Rattle.replica_changes.proofs.FileLaws.{ok_one, bound_parts}
use Rattle.folder_parts.specs.Parts.{PartForm, IsWhole, AreWhole, bytes_of}

pub whole_more : (parts : List PartForm) (part : PartForm) → AreWhole parts → IsWhole part → AreWhole (parts ++ part ∷ [])
whole_more [] part all one = (one, tt)
whole_more (first ∷ parts) part all one = (all.0, whole_more parts part all.1 one)

pub bytes_more : (parts : List PartForm) (part : PartForm) → bytes_of (parts ++ part ∷ []) ≡ bytes_of parts ++ part.bytes ∷ []
bytes_more [] part = refl
bytes_more (first ∷ parts) part = ap (λ (rest : List (List ℕ)). first.bytes ∷ rest) (bytes_more parts part)

-- one more file after those that were merged
pub merged_more : (files : List (List ℕ)) (file : List ℕ) (start now : Replica) → merged_with start files ≡ Ok now → merged_with start (files ++ file ∷ []) ≡ merged_with now (file ∷ [])
merged_more [] file start now e = ap (λ (r : Replica). merged_with r (file ∷ [])) (ok_one start now e)
merged_more (first ∷ files) file start now e =
    let read = bound_parts (held_in first) (λ (other : Replica). merged start other >>= λ (done : Unit {0} × Replica). merged_with done.1 files) now e in
    let made = bound_parts (merged start read.0) (λ (done : Unit {0} × Replica). merged_with done.1 files) now read.2 in
    ap (λ (x : Result Replica Refusal). x >>= λ (other : Replica). merged start other >>= λ (done : Unit {0} × Replica). merged_with done.1 (files ++ file ∷ [])) read.1
    ∙ ap (λ (m : Result (Unit {0} × Replica) Refusal). m >>= λ (done : Unit {0} × Replica). merged_with done.1 (files ++ file ∷ [])) made.1
    ∙ merged_more files file made.0.1 now made.2
