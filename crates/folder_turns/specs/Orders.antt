-- When an order may be followed, and what its end says.
use Rattle.std.specs.Prelude.{◌≡◌, ◌⊎◌, ℕ, true, List, map, Option, Some, None, Result, Ok, Err, IfOk, MatchResult}
use Rattle.std.specs.String.{string_bytes}
use Rattle.std.specs.Global.{Global, Vec}
use Rattle.std.specs.declared.string.String.{String}
use Rattle.folder_model.specs.Call.{Call, can_settle}
use Rattle.folder_model.specs.Parts.{Parts}
use Rattle.folder_model.specs.Turn.{Gave, IsStored, listing_of}
use Rattle.folder_model.specs.Disk.{Among}
use Rattle.folder_protocol.specs.Causes.{Fails, HasCall, Lacks, LookCause}
use Rattle.folder_protocol.specs.Goes.{IsJoined, AreJoined, AreRemoved}
use Rattle.folder_protocol.specs.Keeping.{AreKept, AreReliedOn}
use Rattle.folder_protocol.specs.Premises.{MayPut, MayRemove}
use Rattle.folder_protocol.specs.Removing.{RemovesOnce, IsReplaced}
use Rattle.folder_protocol.specs.Sweeping.{RemovesOnly}
use Rattle.folder_protocol.specs.Linking.{LinksOnly, LinksNone, WasSo, Watches, Each, One, HasEach}
use Rattle.folder_protocol.specs.declared.putting.Outcome.{Outcome}
use Rattle.folder_protocol.specs.declared.putting.Outcome.TheVariants.{OnDisk}
use Rattle.folder_turns.specs.declared.order.Task.{Task}
use Rattle.folder_turns.specs.declared.order.Task.TheVariants as tasks
use Rattle.folder_turns.specs.declared.order.Order.{Order}
use Rattle.folder_turns.specs.declared.order.End.{End}
use Rattle.folder_turns.specs.declared.order.End.TheVariants as ends

-- with what something is done
pub record Matter : Type 0 where
  pub temporary : List ℕ
  pub name : List ℕ
  pub bytes : List ℕ
  pub names : List (List ℕ)
  pub relied : List (List ℕ)

-- with what an order is followed
abbrev pub matter_of : Order → Matter
matter_of order =
    record {
      temporary = string_bytes order.temporary;
      name = string_bytes order.name;
      bytes = order.bytes.items;
      names = map string_bytes order.names.items;
      relied = map string_bytes order.relied.items;
    }

-- what is asked of a task's matter after some calls
abbrev pub Suits : Task → Matter → Parts → List Call → Type 0
Suits tasks.Put m parts before = MayPut parts m.temporary m.name m.bytes
Suits tasks.Keep m parts before = m.name ≡ parts.name_of m.bytes
Suits tasks.Replace m parts before = MayPut parts m.temporary m.name m.bytes × AreJoined parts m.bytes m.names before
Suits tasks.Remove m parts before = MayRemove parts m.name m.bytes m.names before
Suits tasks.List m parts before = Unit {0}
Suits tasks.KeepAll m parts before = Unit {0}
Suits tasks.PutJudged m parts before = MayPut parts m.temporary m.name m.bytes
Suits tasks.KeepAndPut m parts before = MayPut parts m.temporary m.name m.bytes
Suits tasks.KeepAndPutJudged m parts before = MayPut parts m.temporary m.name m.bytes

-- When the calls of a task are in turn after others: no sync of the folder has failed before.
abbrev pub MayTake : Task → Matter → Parts → List Call → Type 0
MayTake task m parts before = (can_settle before ≡ true) × Suits task m parts before

-- A listing under the exclusive lock, which was had since it began, gave no names but these.
abbrev pub HasOnlySeen : List (List ℕ) → List Call → List Call → Type 0
HasOnlySeen names before calls = WasSo (Watches (Each (λ name. Among name names))) before calls

-- One gave a name that is none of these.
abbrev pub HasUnseen : List (List ℕ) → List Call → List Call → Type 0
HasUnseen names before calls = WasSo (Watches (One (λ name. Among name names → ⊥))) before calls

-- When files are given names: for a task that puts a part in the place of others, only under the exclusive lock, which was had since a listing
-- gave each of them; for one that puts a part which is to go with all that are there, since one gave no names but those that were seen; and
-- never for a task that puts none.
abbrev pub LinksInTask : Task → Matter → List Call → List Call → Type 0
LinksInTask tasks.Put m before calls = Unit {0}
LinksInTask tasks.KeepAndPut m before calls = Unit {0}
LinksInTask tasks.Replace m before calls = LinksOnly (Watches (HasEach m.names)) before calls
LinksInTask tasks.PutJudged m before calls = LinksOnly (Watches (Each (λ name. Among name m.names))) before calls
LinksInTask tasks.KeepAndPutJudged m before calls = LinksOnly (Watches (Each (λ name. Among name m.names))) before calls
LinksInTask task m before calls = LinksNone before calls

-- What the end of a task says of all calls, after those before: a part that is on the disk is stored; names are those of the last listing; the
-- parts of these names were removed, or are kept; a part was put only if a listing under the exclusive lock gave no names but those that were
-- seen; and those on which it relies are kept, whatever came of it.
abbrev pub Says : {E : Type 0} → Task → Matter → Result End E → Parts → List Call → List Call → Type 0
Says tasks.Put m result parts before calls = IfOk result (λ end. end ≡ ends.Came OnDisk → IsStored parts m.bytes calls)
Says tasks.Keep m result parts before calls = IfOk result (λ end. end ≡ ends.Came OnDisk → IsStored parts m.bytes calls)
Says tasks.Replace m result parts before calls = IfOk result (λ end. end ≡ ends.Came OnDisk → AreRemoved m.names before calls × IsStored parts m.bytes calls)
Says tasks.Remove m result parts before calls = IfOk result (λ end. end ≡ ends.Came OnDisk → AreRemoved m.names before calls × IsStored parts m.bytes calls)
Says tasks.List m result parts before calls =
    IfOk result (λ end. (names : Vec (String Global)) → end ≡ ends.Listed names → listing_of calls ≡ Gave (map string_bytes names.items))
Says tasks.KeepAll m result parts before calls = IfOk result (λ end. AreKept parts m.names before calls)
Says tasks.PutJudged m result parts before calls =
    IfOk result (λ end. (end ≡ ends.Came OnDisk → IsStored parts m.bytes calls) × ((how : Outcome) → end ≡ ends.Came how → HasOnlySeen m.names before calls))
Says tasks.KeepAndPut m result parts before calls = IfOk result (λ end. AreKept parts m.relied before calls × (end ≡ ends.Came OnDisk → IsStored parts m.bytes calls))
Says tasks.KeepAndPutJudged m result parts before calls =
    IfOk result (λ end. AreKept parts m.relied before calls × (end ≡ ends.Came OnDisk → IsStored parts m.bytes calls) × ((how : Outcome) → end ≡ ends.Came how → HasOnlySeen m.names before calls))

-- What an end comes of: what came of a part has its cause, as a sync that failed; a listing did not give one of these names; or a listing under
-- the exclusive lock gave one that was not seen.
abbrev pub EndCause : Matter → End → List Call → List Call → Type 0
EndCause m (ends.Came how) before calls = LookCause how m.name m.bytes before calls
EndCause m ends.Overtaken before calls = HasCall (Lacks m.names) before calls
EndCause m ends.Unseen before calls = HasUnseen m.names before calls
EndCause m (ends.Listed names) before calls = Unit {0}
EndCause m ends.Kept before calls = Unit {0}

-- An end has its cause, and an error is that of a call that failed.
abbrev pub Caused : {E : Type 0} → Matter → Result End E → List Call → List Call → Type 0
Caused m result before calls = MatchResult result (λ end. EndCause m end before calls) (λ error. HasCall Fails before calls)

-- A part that relies on others is given its name only once each of these is kept, or gone.
abbrev pub LinksOnceKept : Task → Matter → Parts → List Call → List Call → Type 0
LinksOnceKept tasks.KeepAndPut m parts before calls = LinksOnly (AreKept parts m.relied before) before calls
LinksOnceKept tasks.KeepAndPutJudged m parts before calls = LinksOnly (AreKept parts m.relied before) before calls
LinksOnceKept task m parts before calls = Unit {0}

-- A part is removed only in the place of another: its name is one that was told, it was read before the turn, the bytes that are put cover it, and
-- the part with these bytes is guarded: it was read and synced, and then the folder, under the exclusive lock, which is held since.
abbrev pub GoesFor : Parts → Matter → List Call → List ℕ → List Call → Type 0
GoesFor parts m before name calls = IsJoined parts m.bytes name before × IsReplaced parts m.bytes m.names name calls

-- Which names are removed, whatever the end is: for a task that puts a part in the place of others, that of the temporary, and those of the others;
-- for one that removes parts, theirs; and none as a part is kept, or names are listed.
abbrev pub RemovesInTask : Task → Matter → Parts → List Call → List Call → Type 0
RemovesInTask tasks.Replace m parts before calls = RemovesOnce (λ name earlier. (name ≡ m.temporary) ⊎ GoesFor parts m before name earlier) before calls
RemovesInTask tasks.Remove m parts before calls = RemovesOnce (GoesFor parts m before) before calls
RemovesInTask tasks.Keep m parts before calls = RemovesOnly (λ name. ⊥) before calls
RemovesInTask tasks.List m parts before calls = RemovesOnly (λ name. ⊥) before calls
RemovesInTask task m parts before calls = Unit {0}

-- A task may come to such an end.
abbrev pub MayEnd : Task → End → Type 0
MayEnd tasks.Put (ends.Came how) = Unit {0}
MayEnd tasks.Keep (ends.Came how) = Unit {0}
MayEnd tasks.Replace (ends.Came how) = Unit {0}
MayEnd tasks.Replace ends.Overtaken = Unit {0}
MayEnd tasks.Remove (ends.Came how) = Unit {0}
MayEnd tasks.List (ends.Listed names) = Unit {0}
MayEnd tasks.KeepAll ends.Kept = Unit {0}
MayEnd tasks.PutJudged (ends.Came how) = Unit {0}
MayEnd tasks.PutJudged ends.Unseen = Unit {0}
MayEnd tasks.KeepAndPut (ends.Came how) = Unit {0}
MayEnd tasks.KeepAndPutJudged (ends.Came how) = Unit {0}
MayEnd tasks.KeepAndPutJudged ends.Unseen = Unit {0}
MayEnd task end = ⊥

-- What a task leaves: each part that it is to keep, or on which its part relies, and that was read before, is kept, or is gone and covered by another.
abbrev pub LeavesSafe : {E : Type 0} → Task → Matter → Result End E → Parts → List Call → List Call → Type 0
LeavesSafe tasks.KeepAll m result parts before calls = IfOk result (λ end. AreReliedOn parts m.names before calls)
LeavesSafe tasks.KeepAndPut m result parts before calls = IfOk result (λ end. AreReliedOn parts m.relied before calls)
LeavesSafe tasks.KeepAndPutJudged m result parts before calls = IfOk result (λ end. AreReliedOn parts m.relied before calls)
LeavesSafe task m result parts before calls = Unit {0}

-- what is said once an order is followed: what the end of its task says, its cause, when files were given names, that the task may come to it,
-- what it leaves, and which names are removed
abbrev pub EndSays : {E : Type 0} → Task → Matter → Result End E → Parts → List Call → List Call → Type 0
EndSays task m result parts before calls =
    Says task m result parts before calls × Caused m result before calls × LinksInTask task m before calls × LinksOnceKept task m parts before calls × IfOk result (λ end. MayEnd task end)
    × LeavesSafe task m result parts before calls × RemovesInTask task m parts before calls

-- the end of a task that is about one part
abbrev pub came : {E : Type 0} → Result Outcome E → Result End E
came (Ok outcome) = Ok (ends.Came outcome)
came (Err error) = Err error

-- of a replacement
abbrev pub replaced : {E : Type 0} → Result (Option Outcome) E → Result End E
replaced (Ok (Some outcome)) = Ok (ends.Came outcome)
replaced (Ok None) = Ok ends.Overtaken
replaced (Err error) = Err error

-- of a put of a part that is to go with all that are there
abbrev pub judged : {E : Type 0} → Result (Option Outcome) E → Result End E
judged (Ok (Some outcome)) = Ok (ends.Came outcome)
judged (Ok None) = Ok ends.Unseen
judged (Err error) = Err error

-- of a listing
abbrev pub listed : {E : Type 0} → Result (Vec (String Global)) E → Result End E
listed (Ok names) = Ok (ends.Listed names)
listed (Err error) = Err error

-- of a task that gives nothing
abbrev pub kept : {E : Type 0} → Result (Unit {0}) E → Result End E
kept (Ok done) = Ok ends.Kept
kept (Err error) = Err error
