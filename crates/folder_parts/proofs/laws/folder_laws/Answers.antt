-- The laws of files are those of folders.
use Rattle.replica_changes.proofs.FileLaws.{file_laws_hold}
use Rattle.folder_parts.proofs.IdleLoads.{load_idle}
use Rattle.folder_parts.proofs.FolderSets.{same_folders, join_holds, pack_keeps, folder_is_file, folder_follows}
use Rattle.folder_parts.proofs.PackedAway.{packed_covered, packs_lose_nothing}
use Rattle.folder_parts.proofs.PartsBring.{load_holds, named_brings, deletes_hold, rows_hold, offers_bring}
use Rattle.folder_parts.proofs.Removals.{nothing_lost}
use Rattle.folder_parts.proofs.laws.folder_laws.Goals as goal

pub returns : goal.returns
returns c = record {
  same = same_folders file_laws_hold;
  join = join_holds file_laws_hold;
  pack = pack_keeps file_laws_hold;
  kept = nothing_lost;
  covered = packed_covered file_laws_hold;
  packs = packs_lose_nothing file_laws_hold;
  parts = record {
    load = load_holds;
    named = named_brings;
    idle = load_idle;
    deletes = deletes_hold;
    rows = rows_hold;
    offers = offers_bring;
    file = folder_is_file file_laws_hold;
    follows = folder_follows file_laws_hold;
  };
}
