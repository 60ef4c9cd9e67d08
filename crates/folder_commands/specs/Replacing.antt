-- What a pack and a forget put in the place of the parts that they have read.
use Rattle.std.specs.Prelude.{◌≡◌, ℕ, true, List, [], filter, Option, Some, None, Ok, IfSome, option_map, map, string_bytes}
use Rattle.folder_model.specs.Call.{Call}
use Rattle.folder_model.specs.Disk.{Among}
use Rattle.folder_model.specs.Turn.{HasRead, IsStored}
use Rattle.folder_protocol.specs.Causes.{Lacks, HasCall, LookCause}
use Rattle.folder_protocol.specs.Goes.{AreRemoved}
use Rattle.folder_protocol.specs.Linking.{LinksOnly, LinksNone, WasSo, Watches, HasEach, LacksOne}
use Rattle.folder_protocol.specs.declared.putting.Outcome.{Outcome}
use Rattle.folder_protocol.specs.declared.putting.Outcome.TheVariants.{OnDisk}
use Rattle.replica_store.specs.Replica.{Replica}
use Rattle.replica_reports.specs.Held.{held_in}
use Rattle.replica_changes.specs.Commands.{file_of, as_held}
use Rattle.replica_changes.specs.Forgetting.{forgetting}
use Rattle.folder_parts.specs.Covers.{covers, folder_parts}
use Rattle.folder_parts.specs.PartName.{part_name}
use Rattle.folder_commands.specs.Joined.{AreRead}
use Rattle.folder_commands.specs.Wanted.{is_wanted, goes}
use Rattle.folder_commands.specs.declared.replacing.Replaced.{Replaced}

-- The parts of these names that are wanted were read by these calls, and these bytes cover them.
abbrev pub AreCoveredBy : List (List ℕ) → List (List ℕ) → List ℕ → List Call → Type 0
AreCoveredBy passed names bytes calls =
    (name : List ℕ) → Among name names → is_wanted passed name ≡ true → (part : List ℕ) × (name ≡ part_name part) × HasRead folder_parts part calls × (covers bytes part ≡ true)

-- A part with these bytes was put in the place of those of these names: it has the name of its bytes; those that are wanted go, but for
-- itself; and once it was on the disk, where it is stored, they were removed. If it is not on the disk, that has its cause. A file is given
-- its name only under the exclusive lock, held since before a listing that gave each of those that go; and if none was put, such a listing
-- lacked one of them, and no file was given a name.
pub record Replaces (passed names : List (List ℕ)) (bytes name : List ℕ) (gone : List (List ℕ)) (outcome : Option Outcome) (before after : List Call) : Type 0 where
  pub named : name ≡ part_name bytes
  pub going : gone ≡ filter (goes passed name) names
  pub removed : outcome ≡ Some OnDisk → AreRemoved gone before after
  pub stored : outcome ≡ Some OnDisk → IsStored folder_parts bytes after
  pub cause : IfSome outcome (λ how. LookCause how name bytes before after)
  pub overtaken : outcome ≡ None → HasCall (Lacks gone) before after
  pub links : LinksOnly (Watches (HasEach gone)) before after
  pub lacked : outcome ≡ None → WasSo (Watches (LacksOne gone)) before after × LinksNone before after

-- A pack of the parts of these names: they were read, and the file of their join, which is read as it, was put in their place.
pub record Packs (names : List (List ℕ)) (name : List ℕ) (gone : List (List ℕ)) (outcome : Option Outcome) (before after : List Call) : Type 0 where
  pub whole : Replica
  pub parts : AreRead [] names whole after
  pub read : held_in (file_of whole) ≡ Ok (as_held whole)
  pub replaces : Replaces [] names (file_of whole) name gone outcome before after

-- A forget of the parts of these names: they were read, and the file of what a forget leaves of their join, which is read as that, was
-- put in their place.
pub record LeavesForgotten (passed names : List (List ℕ)) (dropped : ℕ × ℕ) (name : List ℕ) (gone : List (List ℕ)) (outcome : Option Outcome) (before after : List Call) : Type 0 where
  pub whole : Replica
  pub left : Replica
  pub parts : AreRead passed names whole after
  pub forgot : forgetting whole ≡ Ok (dropped, left)
  pub read : held_in (file_of left) ≡ Ok (as_held left)
  pub replaces : Replaces passed names (file_of left) name gone outcome before after

-- what came of a part that was to be put, if there was one: its name, the names of those that go, and the outcome
abbrev pub replaced_of : Option Replaced → Option (List ℕ × List (List ℕ) × Option Outcome)
replaced_of replaced = option_map (λ (done : Replaced). (string_bytes done.name, map string_bytes done.gone.items, done.outcome)) replaced

-- A forget of the parts of these names: no batch of their join is to be dropped, and nothing is put; or what is left is put.
abbrev pub IsForgot : List (List ℕ) → List (List ℕ) → ℕ × ℕ → Option (List ℕ × List (List ℕ) × Option Outcome) → List Call → List Call → Type 0
IsForgot passed names dropped None before after =
    (whole : Replica) × (left : Replica) × AreRead passed names whole after × (forgetting whole ≡ Ok (dropped, left)) × (dropped.0 ≡ 0)
IsForgot passed names dropped (Some done) before after = LeavesForgotten passed names dropped done.0 done.1 done.2 before after
