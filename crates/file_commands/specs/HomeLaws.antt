-- The laws of a file as a home.
use Rattle.std.specs.Prelude.{ℕ}
use Rattle.table_model.specs.declared.names.RowName.{RowName}
use Rattle.replica_changes.specs.CommandForms.{CommandForm, adding}
use Rattle.replica_changes.specs.Forgetting.{forgetting}
use Rattle.file_commands.specs.HeldDeletes.{deleted_if_held}
use Rattle.file_commands.specs.Homes.{FilesKeep, KeepsHome}

-- a file keeps what it was answered, and each command does so, at each moment
pub record FileHomeLaws : Type 0 where
  pub keep : FilesKeep
  pub change : (command : CommandForm) → KeepsHome (adding command)
  pub delete_held_rows : (first : RowName) (last : ℕ) → KeepsHome (λ r. deleted_if_held r first last)
  pub forget : KeepsHome forgetting
