-- The canonical file of the state of the same operations is the same.
use Rattle.std.specs.Prelude.{◌≡◌, ℕ, List, IsSome}
use Rattle.std.proofs.Common.{sym, ap, ◌∙◌}
use Rattle.table_model.specs.Operation.{Operation, SameOperations, state_of}
use Rattle.table_model.specs.Table.{Table}
use Rattle.table_model.proofs.Operations.{state_of-same}
use Rattle.column_file.specs.Files.{canonical_file}
use Rattle.cluster_history.specs.History.{new_taken, taken_of, taken_by}
use Rattle.cluster_history.specs.declared.reply.Reply.TheVariants.{File}
use Rattle.cluster_history.proofs.Histories.{histories}
use Rattle.lanes_main.specs.FileHistory.{FilesAreExports}

pub files_are_exports : FilesAreExports
files_are_exports bytes table ops count steps replies new replica h run here same =
    let taken = taken_of (taken_by table (new_taken count) steps replies) replica in
    let exports = histories.exports table count count steps steps replies replies new new replica replica run run here here (λ op. ((λ among. among), (λ among. among))) in
    exports.2 ∙ ap File (exports.1 ∙ sym (h.file ∙ ap (canonical_file table) (state_of-same ops taken h.agree same)))
