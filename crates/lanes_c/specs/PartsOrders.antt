-- The orders of a pack and a forget of parts that were read, and when they may be followed.
use Rattle.std.specs.Prelude.{◌≡◌, ℕ, true, List, [], filter, map, reverse, MatchOption, Ok}
use Rattle.folder_model.specs.Call.{Call, can_settle}
use Rattle.folder_model.specs.Disk.{Among}
use Rattle.folder_model.specs.Parts.{IsNoPart}
use Rattle.folder_model.specs.Turn.{HasRead}
use Rattle.folder_turns.specs.Orders.{Matter, MayTake, matter_of}
use Rattle.folder_turns.specs.declared.order.Order.{Order}
use Rattle.folder_turns.specs.declared.order.Task.{Task}
use Rattle.folder_turns.specs.declared.order.Task.TheVariants.{Replace}
use Rattle.replica_store.specs.Replica.{Replica}
use Rattle.replica_reports.specs.Held.{held_in}
use Rattle.replica_changes.specs.Commands.{file_of, as_held}
use Rattle.replica_changes.specs.Forgetting.{forgetting}
use Rattle.folder_parts.specs.Covers.{folder_parts}
use Rattle.folder_parts.specs.PartName.{part_name}
use Rattle.folder_commands.specs.Wanted.{goes}
use Rattle.lanes_c.specs.declared.read_parts.Forget.{Forget}

-- each of these files was read in a history, under the name of its bytes
abbrev pub WereRead : List (List ℕ) → List Call → Type 0
WereRead files before = (file : List ℕ) → Among file files → HasRead folder_parts file before

-- the names of files, of which the newest is told first
abbrev pub names_of : List (List ℕ) → List (List ℕ)
names_of files = map part_name (reverse files)

-- with what bytes are put in the place of the parts of these names: those go that have another name than the bytes
abbrev pub matter_replacing : List ℕ → List (List ℕ) → List ℕ → Matter
matter_replacing temporary names bytes =
    record { temporary = temporary; name = part_name bytes; bytes = bytes; names = filter (goes [] (part_name bytes)) names; relied = [] }

-- An order puts the file of a replica, which is read as that, in the place of the parts with these bytes.
abbrev pub Replaces : Order → List ℕ → Replica → List (List ℕ) → Type 0
Replaces order temporary whole files =
    (order.task ≡ Replace) × (matter_of order ≡ matter_replacing temporary (names_of files) (file_of whole)) × (held_in (file_of whole) ≡ Ok (as_held whole))

-- A forget of the parts with these bytes, of which the replica is the join: no batch of it is to be dropped, and there is no order; or the file
-- of what is left comes in their place.
abbrev pub Forgets : Forget → List ℕ → Replica → List (List ℕ) → Type 0
Forgets f temporary whole files =
    (left : Replica) × (forgetting whole ≡ Ok ((f.dropped.batches, f.dropped.rows), left)) × MatchOption f.order (f.dropped.batches ≡ 0) (λ order. Replaces order temporary left files)

-- It may be followed after every history in which these files were read and no sync of the folder has failed, if the temporary's name is no
-- part's.
abbrev pub MayFollow : Task → Matter → List (List ℕ) → Type 0
MayFollow task matter files = (before : List Call) → can_settle before ≡ true → WereRead files before → IsNoPart folder_parts matter.temporary → MayTake task matter folder_parts before
