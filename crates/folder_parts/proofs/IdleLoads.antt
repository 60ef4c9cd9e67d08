-- A load under a given name of which no batch is new brings nothing: the folder holds all of it.
use Rattle.std.specs.Prelude.{◌≡◌, ℕ, not, ◌==◌, List, [], ◌++◌, length, Some, Ok}
use Rattle.std.proofs.Common.{refl, sym, ap, subst, ◌∙◌}
use Rattle.table_model.specs.Operation.{Operation, SameOperations}
use Rattle.table_model.specs.Reading.{◌>>=◌}
use Rattle.table_model.specs.declared.names.BatchName.{BatchName}
use Rattle.replica_store.specs.Replica.{Replica}
use Rattle.replica_changes.specs.Brings.{brought_to}
use Rattle.replica_changes.specs.Commands.{Made}
use Rattle.replica_changes.specs.FileLaws.{replica_of, inserts}
use Rattle.replica_changes.specs.Loads.{named_batches, loaded, importing_as, chosen_name, new_since}
use Rattle.replica_changes.specs.declared.importing.Imported.{Imported}
use Rattle.replica_changes.proofs.FileLaws.{ok_one, bound_parts}
use Rattle.replica_changes.proofs.OperationSets.{Adds}
use Rattle.replica_changes.proofs.StoreCommands.{merge_kept}
use Rattle.folder_parts.specs.FolderLaws.{NamedLoadIdle}
use Rattle.folder_parts.proofs.PartsBring.{import-adds, same_by_state, name_kept}

pub load_idle : NamedLoadIdle
load_idle load first table ops answer part agree made none =
    let held : Replica = replica_of table ops in
    let put : BatchName → Imported × Replica → Imported × Replica = λ name done. (done.0, brought_to held (loaded held load name)) in
    let named = bound_parts (chosen_name held.state (Some first) [] (length load.batches)) (λ (name : BatchName). importing_as load name held >>= λ (done : Imported × Replica). let made : Made Imported = Ok (put name done) in made) (answer, part) made in
    let joins = bound_parts (importing_as load named.0 held) (λ (done : Imported × Replica). let made : Made Imported = Ok (put named.0 done) in made) (answer, part) named.2 in
    let kept : named.0 ≡ first = name_kept held.state first named.0 (length load.batches) named.1 in
    let more : List Operation = inserts (named_batches named.0 load.batches) in
    let taken = import-adds load named.0 table ops held joins.0.1 joins.0.0 refl agree joins.1 in
    let told : new_since held joins.0.1 ≡ answer.new = ap (λ (d : Imported). d.new) (sym taken.1 ∙ ap (λ (p : Imported × Replica). p.0) (ok_one (put named.0 joins.0) (answer, part) joins.2)) in
    let stays : joins.0.1 ≡ held = merge_kept held (loaded held load named.0) joins.0.1 tt taken.2 refl (ap (λ (n : ℕ). not (n == 0)) (told ∙ none)) in
    let whole : Adds table ops more joins.0.1 = taken.0 in
    let same : SameOperations (more ++ ops) ops = same_by_state (more ++ ops) ops whole.agree agree (sym whole.state ∙ ap (λ (r : Replica). r.state) stays) in
    subst (λ (name : BatchName). SameOperations (inserts (named_batches name load.batches) ++ ops) ops) kept same
