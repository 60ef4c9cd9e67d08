-- The laws of files that forget are those of folders.
use Rattle.folder_parts.proofs.ForgottenFolders.{held_stands, join_stands, forget_stands, same_forgotten, forgets_as_file, forget_keeps, forgets_lose_nothing}
use Rattle.folder_parts.proofs.Removals.{nothing_lost_there}
use Rattle.folder_parts.proofs.laws.forget_folder_laws.Goals as goal

pub returns : goal.returns
returns c = record {
  holds = held_stands;
  join = join_stands;
  forget = forget_stands;
  same = same_forgotten;
  file = forgets_as_file;
  keeps = forget_keeps;
  kept = nothing_lost_there;
  replaced = forgets_lose_nothing;
}
