-- What a pack and a forget put covers the parts that they read, and so both keep to the protocol.
use Rattle.std.specs.Prelude.{◌≡◌, ◌≢◌, ◌==◌, ℕ, true, not, List, [], ◌++◌, Option, Some, None, Ok, IfSome}
use Rattle.std.proofs.Common.{refl, sym, ap, subst, ◌∙◌}
use Rattle.std.proofs.lemmas.Bool.{ne_eqb}
use Rattle.folder_model.specs.Call.{Call}
use Rattle.folder_model.specs.Turn.{Gave, listing_of}
use Rattle.folder_protocol.specs.Causes.{Lacks, HasCall, LookCause}
use Rattle.folder_protocol.specs.Goes.{GoesInTurn, AreRemoved}
use Rattle.folder_protocol.specs.Linking.{LinksNone}
use Rattle.folder_protocol.specs.declared.putting.Outcome.{Outcome}
use Rattle.folder_protocol.specs.declared.putting.Outcome.TheVariants.{OnDisk, Unsynced, Gone, Damaged}
use Rattle.folder_protocol.proofs.Causing.{Follows}
use Rattle.replica_store.specs.Replica.{Replica}
use Rattle.replica_changes.specs.Forgetting.{forgetting}
use Rattle.folder_parts.specs.Covers.{folder_parts}
use Rattle.folder_commands.specs.Joined.{AreRead, AreUnwanted, IsReadAs, WereGiven}
use Rattle.folder_commands.specs.Replacing.{AreCoveredBy, Replaces, Packs, LeavesForgotten, IsForgot}
use Rattle.folder_commands.proofs.Replacings.{pack_covered, forget_covered, read_later, replaced_after}
use Rattle.folder_commands.proofs.Written.{IsFileOf}

-- whatever came of a part that was to be put in the place of others, calls were made: it has its cause
follows_so : (name bytes : List ℕ) (gone : List (List ℕ)) (outcome : Option Outcome) (before after : List Call) → (outcome ≡ Some OnDisk → AreRemoved gone before after)
    → IfSome outcome (λ how. LookCause how name bytes before after) → (outcome ≡ None → HasCall (Lacks gone) before after) → Follows before after
follows_so name bytes gone None before after removed cause lacking = let has = lacking refl in (has.0, has.1)
follows_so name bytes gone (Some OnDisk) before after removed cause lacking = let are = removed refl in (are.0, are.1)
follows_so name bytes gone (Some Unsynced) before after removed cause lacking = (cause.0, cause.1)
follows_so name bytes gone (Some Gone) before after removed cause lacking = (cause.0, cause.1)
follows_so name bytes gone (Some Damaged) before after removed cause lacking = (cause.0, cause.1)

pub follows : (passed names : List (List ℕ)) (bytes name : List ℕ) (gone : List (List ℕ)) (outcome : Option Outcome) (before after : List Call) → Replaces passed names bytes name gone outcome before after → Follows before after
follows passed names bytes name gone outcome before after done = follows_so name bytes gone outcome before after done.removed done.cause done.overtaken

-- what was read is there
are_read : (passed names : List (List ℕ)) (held : Option Replica) (whole : Replica) (calls : List Call) → held ≡ Some whole → IsReadAs passed names held calls → AreRead passed names whole calls
are_read passed names held whole calls is read = subst (λ (o : Option Replica). IsReadAs passed names o calls) is read

-- ---- a pack

pub pack_covers : (passed names : List (List ℕ)) (held : Option Replica) (whole : Replica) (bytes : List ℕ) (calls : List Call) → held ≡ Some whole → IsReadAs passed names held calls → IsFileOf bytes whole → AreCoveredBy passed names bytes calls
pack_covers passed names held whole bytes calls is read file =
    subst (λ (b : List ℕ). AreCoveredBy passed names b calls) (sym file.0) (pack_covered passed names whole calls (are_read passed names held whole calls is read) file.1)

pub packs : (names : List (List ℕ)) (held : Option Replica) (whole : Replica) (bytes name : List ℕ) (gone : List (List ℕ)) (outcome : Option Outcome) (before mid after : List Call)
    → held ≡ Some whole → IsReadAs [] names held mid → IsFileOf bytes whole → GoesInTurn folder_parts before mid → LinksNone before mid → Replaces [] names bytes name gone outcome mid after
    → Packs names name gone outcome before after
packs names held whole bytes name gone outcome before mid after is read file first unlinked done = record {
  whole = whole;
  parts = read_later [] names whole mid after (follows [] names bytes name gone outcome mid after done) (are_read [] names held whole mid is read);
  read = file.1;
  replaces = subst (λ (b : List ℕ). Replaces [] names b name gone outcome before after) file.0 (replaced_after [] names bytes name gone outcome before mid after first unlinked done);
}

-- ---- a forget

pub is_some : (n : ℕ) → n ≢ 0 → not (n == 0) ≡ true
is_some n none = ap not (ne_eqb n 0 none)

pub forget_covers : (passed names : List (List ℕ)) (held : Option Replica) (whole left : Replica) (dropped : ℕ × ℕ) (bytes : List ℕ) (calls : List Call) → held ≡ Some whole → IsReadAs passed names held calls
    → forgetting whole ≡ Ok (dropped, left) → IsFileOf bytes left → AreCoveredBy passed names bytes calls
forget_covers passed names held whole left dropped bytes calls is read forgot file =
    subst (λ (b : List ℕ). AreCoveredBy passed names b calls) (sym file.0) (forget_covered passed names whole left dropped calls (are_read passed names held whole calls is read) forgot file.1)

-- none is dropped
pub forgets_none : (passed names : List (List ℕ)) (held : Option Replica) (whole left : Replica) (dropped : ℕ × ℕ) (before calls : List Call) → held ≡ Some whole → IsReadAs passed names held calls
    → forgetting whole ≡ Ok (dropped, left) → dropped.0 ≡ 0 → IsForgot passed names dropped None before calls
forgets_none passed names held whole left dropped before calls is read forgot none = (whole, left, are_read passed names held whole calls is read, forgot, none)

-- some are
pub forgets_some : (passed names : List (List ℕ)) (held : Option Replica) (whole left : Replica) (dropped : ℕ × ℕ) (bytes name : List ℕ) (gone : List (List ℕ)) (outcome : Option Outcome) (before mid after : List Call)
    → held ≡ Some whole → IsReadAs passed names held mid → forgetting whole ≡ Ok (dropped, left) → IsFileOf bytes left → GoesInTurn folder_parts before mid
    → LinksNone before mid → Replaces passed names bytes name gone outcome mid after → LeavesForgotten passed names dropped name gone outcome before after
forgets_some passed names held whole left dropped bytes name gone outcome before mid after is read forgot file first unlinked done = record {
  whole = whole;
  left = left;
  parts = read_later passed names whole mid after (follows passed names bytes name gone outcome mid after done) (are_read passed names held whole mid is read);
  forgot = forgot;
  read = file.1;
  replaces = subst (λ (b : List ℕ). Replaces passed names b name gone outcome before after) file.0 (replaced_after passed names bytes name gone outcome before mid after first unlinked done);
}

-- ---- what was listed

-- a listing, and what came before and after it
pub were_given : (names : List (List ℕ)) (before mid after : List Call) → Follows before mid → Follows mid after → listing_of mid ≡ Gave names → WereGiven names before after
were_given names before mid after (first, was) (rest, is) gave = (first, rest, is ∙ ap (λ (l : List Call). rest ++ l) was, subst (λ (l : List Call). listing_of l ≡ Gave names) was gave)

-- no part was wanted of what was read
pub unwanted : (passed names : List (List ℕ)) (held : Option Replica) (calls : List Call) → held ≡ None → IsReadAs passed names held calls → AreUnwanted passed names
unwanted passed names held calls is read = subst (λ (o : Option Replica). IsReadAs passed names o calls) is read
