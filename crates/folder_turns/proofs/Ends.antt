-- What the ends of tasks say.
use Rattle.std.proofs.Common.{◌≡◌, ◌⊎◌, ⊎_elim, inl, inr, refl, sym, ap, subst, ℕ, List, map, Option, Some, None, Result, Ok, Err, IfOk, OnOk, OnErr}
use Rattle.std.specs.String.{string_bytes}
use Rattle.std.specs.Global.{Global, Vec}
use Rattle.std.specs.declared.string.String.{String}
use Rattle.std.specs.Prelude.{IfSome}
use Rattle.folder_model.specs.Call.{Call}
use Rattle.folder_model.specs.Disk.{Among}
use Rattle.folder_model.specs.Parts.{Parts}
use Rattle.folder_model.specs.Turn.{Gave, IsStored, listing_of}
use Rattle.folder_protocol.specs.Causes.{Fails, HasCall, Lacks, LookCause}
use Rattle.folder_protocol.specs.Goes.{AreRemoved}
use Rattle.folder_protocol.specs.Keeping.{AreKept, AreReliedOn}
use Rattle.folder_protocol.specs.declared.putting.Outcome.{Outcome}
use Rattle.folder_protocol.specs.declared.putting.Outcome.TheVariants.{OnDisk}
use Rattle.folder_protocol.specs.Linking.{LinksOnly, LinksNone, Watches, Each, HasEach}
use Rattle.folder_protocol.specs.Goes.{AreJoined}
use Rattle.folder_protocol.specs.Removing.{RemovesOnce, IsReplaced, IsOwnOrReplaced}
use Rattle.folder_protocol.specs.Sweeping.{RemovesOnly}
use Rattle.folder_protocol.proofs.Removals.{once_map}
use Rattle.folder_turns.specs.Orders.{Matter, MayTake, MayEnd, RemovesInTask, GoesFor, Caused, EndSays, HasOnlySeen, HasUnseen, came, replaced, judged, listed, kept}
use Rattle.folder_turns.specs.declared.order.Task.{Task}
use Rattle.folder_turns.specs.declared.order.Task.TheVariants as tasks
use Rattle.folder_turns.specs.declared.order.End.{End}
use Rattle.folder_turns.specs.declared.order.End.TheVariants as ends

-- the same matter, whose texts are given
pub same_matter : (m : Matter) (temporary name bytes : List ℕ) (names relied : List (List ℕ)) → temporary ≡ m.temporary → name ≡ m.name → bytes ≡ m.bytes → names ≡ m.names → relied ≡ m.relied
    → record { temporary = temporary; name = name; bytes = bytes; names = names; relied = relied } ≡ m
same_matter m temporary name bytes names relied t n b ns rs = λ i. record { temporary = t i; name = n i; bytes = b i; names = ns i; relied = rs i }

-- what came of a part
came_is : (a b : Outcome) → ends.Came a ≡ ends.Came b → a ≡ b
came_is a b is = ap outcome is
  where
    outcome : End → Outcome
    outcome (ends.Came how) = how
    outcome other = OnDisk

-- what was listed
listed_is : (a b : Vec (String Global)) → ends.Listed a ≡ ends.Listed b → a ≡ b
listed_is a b is = ap names is
  where
    names : End → Vec (String Global)
    names (ends.Listed given) = given
    names other = a

-- what follows of a task and its matter, of which these are the same
pub in_task : (task is : Task) (m n : Matter) (parts : Parts) (before : List Call) (P : Type 0) → task ≡ is → n ≡ m → (MayTake is n parts before → P) → MayTake task m parts before → P
in_task task is m n parts before P same_task same so =
    subst (λ (t : Task). MayTake t m parts before → P) (sym same_task) (subst (λ (o : Matter). MayTake is o parts before → P) same so)

-- only parts that were read are removed
pub goes_for : (m : Matter) (parts : Parts) (before calls : List Call) → AreJoined parts m.bytes m.names before → RemovesOnce (IsReplaced parts m.bytes m.names) before calls → RemovesInTask tasks.Remove m parts before calls
goes_for m parts before calls joined removes =
    once_map (IsReplaced parts m.bytes m.names) (GoesFor parts m before) (λ name earlier so. (joined name so.0, so)) before calls removes

-- and the temporary
pub goes_own : (m : Matter) (parts : Parts) (before calls : List Call) → AreJoined parts m.bytes m.names before → RemovesOnce (IsOwnOrReplaced parts m.temporary m.bytes m.names) before calls → RemovesInTask tasks.Replace m parts before calls
goes_own m parts before calls joined removes =
    once_map (IsOwnOrReplaced parts m.temporary m.bytes m.names) (λ name earlier. (name ≡ m.temporary) ⊎ GoesFor parts m before name earlier)
    (λ name earlier so. ⊎_elim (λ own. inl own) (λ of. inr (joined name of.0, of)) so) before calls removes

module _ {E : Type 0} (m : Matter) (parts : Parts) (before calls : List Call) where
  -- what is said of a task's end, by which task and which end it is
  pub of_task : (task is : Task) (end given : Result End E) (n : Matter) → task ≡ is → end ≡ given → n ≡ m
      → (MayTake is n parts before → EndSays is n given parts before calls) → MayTake task m parts before → EndSays task m end parts before calls
  of_task task is end given n same_task same_end same says =
      subst (λ (t : Task). MayTake t m parts before → EndSays t m end parts before calls) (sym same_task)
      (subst (λ (e : Result End E). MayTake is m parts before → EndSays is m e parts before calls) (sym same_end)
      (subst (λ (o : Matter). MayTake is o parts before → EndSays is o given parts before calls) same says))

  came_caused : (given : Result Outcome E) → IfOk given (λ how. LookCause how m.name m.bytes before calls) → OnErr given (HasCall Fails before calls) → Caused m (came given) before calls
  came_caused (Ok how) cause fails = cause
  came_caused (Err error) cause fails = fails

  came_says : (P : Type 0) (given : Result Outcome E) → IfOk given (λ how. how ≡ OnDisk → P) → IfOk (came given) (λ end. end ≡ ends.Came OnDisk → P)
  came_says P (Ok how) said = λ is. said (came_is how OnDisk is)
  came_says P (Err error) said = tt

  came_may : (P : End → Type 0) (given : Result Outcome E) → ((how : Outcome) → P (ends.Came how)) → IfOk (came given) (λ end. P end)
  came_may P (Ok how) so = so how
  came_may P (Err error) so = tt

  -- of a part that is put
  pub put_says : (given : Result Outcome E) → IfOk given (λ how. how ≡ OnDisk → IsStored parts m.bytes calls) → IfOk given (λ how. LookCause how m.name m.bytes before calls)
      → OnErr given (HasCall Fails before calls) → EndSays tasks.Put m (came given) parts before calls
  put_says given stored cause fails = (came_says (IsStored parts m.bytes calls) given stored, came_caused given cause fails, tt, tt, came_may (MayEnd tasks.Put) given (λ how. tt), tt, tt)

  -- of one that is there
  pub keep_says : (given : Result Outcome E) → IfOk given (λ how. how ≡ OnDisk → IsStored parts m.bytes calls) → IfOk given (λ how. LookCause how m.name m.bytes before calls)
      → OnErr given (HasCall Fails before calls) → LinksNone before calls → RemovesOnly (λ name. ⊥) before calls → EndSays tasks.Keep m (came given) parts before calls
  keep_says given stored cause fails links removes = (came_says (IsStored parts m.bytes calls) given stored, came_caused given cause fails, links, tt, came_may (MayEnd tasks.Keep) given (λ how. tt), tt, removes)

  -- of parts that are removed
  pub removed_says : (given : Result Outcome E) → IfOk given (λ how. how ≡ OnDisk → AreRemoved m.names before calls) → IfOk given (λ how. how ≡ OnDisk → IsStored parts m.bytes calls)
      → IfOk given (λ how. LookCause how m.name m.bytes before calls) → OnErr given (HasCall Fails before calls) → LinksNone before calls → RemovesInTask tasks.Remove m parts before calls → EndSays tasks.Remove m (came given) parts before calls
  removed_says (Ok how) gone stored cause fails links removes = (λ is. (gone (came_is how OnDisk is), stored (came_is how OnDisk is)), cause, links, tt, tt, tt, removes)
  removed_says (Err error) gone stored cause fails links removes = (tt, fails, links, tt, tt, tt, removes)

  -- of parts in whose place another one comes
  pub replaced_says : (given : Result (Option Outcome) E) → IfOk given (λ answer. answer ≡ Some OnDisk → AreRemoved m.names before calls)
      → IfOk given (λ answer. answer ≡ Some OnDisk → IsStored parts m.bytes calls)
      → IfOk given (λ answer. IfSome answer (λ how. LookCause how m.name m.bytes before calls)) → IfOk given (λ answer. answer ≡ None → HasCall (Lacks m.names) before calls)
      → OnErr given (HasCall Fails before calls) → LinksOnly (Watches (HasEach m.names)) before calls → RemovesInTask tasks.Replace m parts before calls → EndSays tasks.Replace m (replaced given) parts before calls
  replaced_says (Ok (Some how)) gone stored cause overtaken fails links removes =
      (λ is. let on = ap (λ (o : Outcome). Some o) (came_is how OnDisk is) in (gone on, stored on), cause, links, tt, tt, tt, removes)
  replaced_says (Ok None) gone stored cause overtaken fails links removes = (λ is. cc, overtaken refl, links, tt, tt, tt, removes)
  replaced_says (Err error) gone stored cause overtaken fails links removes = (tt, fails, links, tt, tt, tt, removes)

  -- of names that are listed
  pub listed_says : (given : Result (Vec (String Global)) E) → IfOk given (λ names. listing_of calls ≡ Gave (map string_bytes names.items))
      → OnErr given (HasCall Fails before calls) → LinksNone before calls → RemovesOnly (λ name. ⊥) before calls → EndSays tasks.List m (listed given) parts before calls
  listed_says (Ok names) gave fails links removes = (λ others is. subst (λ (v : Vec (String Global)). listing_of calls ≡ Gave (map string_bytes v.items)) (listed_is names others is) gave, tt, links, tt, tt, tt, removes)
  listed_says (Err error) gave fails links removes = (tt, fails, links, tt, tt, tt, removes)

  -- of parts that are kept
  pub kept_says : (given : Result (Unit {0}) E) → OnOk given (AreKept parts m.names before calls) → OnErr given (HasCall Fails before calls) → LinksNone before calls
      → OnOk given (AreReliedOn parts m.names before calls) → EndSays tasks.KeepAll m (kept given) parts before calls
  kept_says (Ok done) are fails links safe = (are, tt, links, tt, tt, safe, tt)
  kept_says (Err error) are fails links safe = (tt, fails, links, tt, tt, tt, tt)

  -- of a part that is to go with all that are there
  pub judged_says : (given : Result (Option Outcome) E) → IfOk given (λ answer. answer ≡ Some OnDisk → IsStored parts m.bytes calls)
      → IfOk given (λ answer. IfSome answer (λ how. HasOnlySeen m.names before calls)) → IfOk given (λ answer. IfSome answer (λ how. LookCause how m.name m.bytes before calls))
      → IfOk given (λ answer. answer ≡ None → HasUnseen m.names before calls) → OnErr given (HasCall Fails before calls) → LinksOnly (Watches (Each (λ name. Among name m.names))) before calls
      → EndSays tasks.PutJudged m (judged given) parts before calls
  judged_says (Ok (Some how)) stored seen cause unseen fails links = ((λ is. stored (ap (λ (o : Outcome). Some o) (came_is how OnDisk is)), λ other is. seen), cause, links, tt, tt, tt, tt)
  judged_says (Ok None) stored seen cause unseen fails links = ((λ is. cc, λ other is. cc), unseen refl, links, tt, tt, tt, tt)
  judged_says (Err error) stored seen cause unseen fails links = (tt, fails, links, tt, tt, tt, tt)

  kept_came : (given : Result Outcome E) → OnOk given (AreKept parts m.relied before calls) → IfOk given (λ how. how ≡ OnDisk → IsStored parts m.bytes calls)
      → IfOk (came given) (λ end. AreKept parts m.relied before calls × (end ≡ ends.Came OnDisk → IsStored parts m.bytes calls))
  kept_came (Ok how) are stored = (are, λ is. stored (came_is how OnDisk is))
  kept_came (Err error) are stored = tt

  came_safe : (P : Type 0) (given : Result Outcome E) → OnOk given P → IfOk (came given) (λ end. P)
  came_safe P (Ok how) so = so
  came_safe P (Err error) so = tt

  -- of a part that relies on others which are kept
  pub keeping_says : (given : Result Outcome E) → OnOk given (AreKept parts m.relied before calls) → IfOk given (λ how. how ≡ OnDisk → IsStored parts m.bytes calls)
      → IfOk given (λ how. LookCause how m.name m.bytes before calls) → OnErr given (HasCall Fails before calls) → LinksOnly (AreKept parts m.relied before) before calls
      → OnOk given (AreReliedOn parts m.relied before calls) → EndSays tasks.KeepAndPut m (came given) parts before calls
  keeping_says given are stored cause fails first safe =
      (kept_came given are stored, came_caused given cause fails, tt, first, came_may (MayEnd tasks.KeepAndPut) given (λ how. tt), came_safe (AreReliedOn parts m.relied before calls) given safe, tt)

  -- and of one that is to go with all that are there, too
  pub relying_says : (given : Result (Option Outcome) E) → OnOk given (AreKept parts m.relied before calls) → IfOk given (λ answer. answer ≡ Some OnDisk → IsStored parts m.bytes calls)
      → IfOk given (λ answer. IfSome answer (λ how. HasOnlySeen m.names before calls)) → IfOk given (λ answer. IfSome answer (λ how. LookCause how m.name m.bytes before calls))
      → IfOk given (λ answer. answer ≡ None → HasUnseen m.names before calls) → OnErr given (HasCall Fails before calls) → LinksOnly (Watches (Each (λ name. Among name m.names))) before calls
      → LinksOnly (AreKept parts m.relied before) before calls → OnOk given (AreReliedOn parts m.relied before calls) → EndSays tasks.KeepAndPutJudged m (judged given) parts before calls
  relying_says (Ok (Some how)) are stored seen cause unseen fails links first safe = ((are, λ is. stored (ap (λ (o : Outcome). Some o) (came_is how OnDisk is)), λ other is. seen), cause, links, first, tt, safe, tt)
  relying_says (Ok None) are stored seen cause unseen fails links first safe = ((are, λ is. cc, λ other is. cc), unseen refl, links, first, tt, safe, tt)
  relying_says (Err error) are stored seen cause unseen fails links first safe = (tt, fails, links, first, tt, tt, tt)
