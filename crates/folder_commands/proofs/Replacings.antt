-- What is made of parts covers each of them, so they may go.
use Rattle.std.specs.Prelude.{◌≡◌, ℕ, Bool, true, false, cond, not, List, [], ◌∷◌, ◌++◌, filter, Option, Some, None, Ok, IfSome}
use Rattle.std.proofs.Common.{refl, sym, ap, subst, ◌∙◌, inl, inr}
use Rattle.std.proofs.lemmas.Bool.{and_parts}
use Rattle.table_model.specs.Identifier.{same_text}
use Rattle.table_model.proofs.SameTable.{itself_text}
use Rattle.folder_model.specs.Call.{Call, Read}
use Rattle.folder_model.specs.Disk.{Among}
use Rattle.folder_model.specs.Parts.{Parts}
use Rattle.folder_model.specs.Turn.{HasRead}
use Rattle.folder_protocol.specs.Goes.{GoesInTurn, AreJoined}
use Rattle.folder_protocol.specs.declared.putting.Outcome.{Outcome}
use Rattle.folder_protocol.specs.Causes.{Lacks, LookCause}
use Rattle.folder_protocol.specs.Linking.{LinksNone, Watches, HasEach, LacksOne}
use Rattle.folder_protocol.proofs.Causing.{Follows, follows_none, has_later, look_later}
use Rattle.folder_protocol.proofs.Lines.{removed_between}
use Rattle.folder_protocol.proofs.Linking.{links_more, links_never, was_between}
use Rattle.replica_store.specs.Replica.{Replica}
use Rattle.replica_reports.specs.Held.{held_in}
use Rattle.replica_changes.specs.Commands.{file_of, as_held}
use Rattle.replica_changes.specs.Forgetting.{forgetting}
use Rattle.folder_parts.specs.Covers.{folder_parts}
use Rattle.folder_parts.specs.FolderLaws.{IsOneOf}
use Rattle.folder_parts.specs.PartName.{part_name}
use Rattle.folder_parts.proofs.PartsCover.{cover_laws_hold}
use Rattle.folder_commands.specs.Joined.{AreRead}
use Rattle.folder_commands.specs.Replacing.{AreCoveredBy, Replaces}
use Rattle.folder_commands.specs.Wanted.{is_wanted, goes}

-- ---- what goes

among_filter : (p : List ℕ → Bool) (xs : List (List ℕ)) (x : List ℕ) → Among x (filter p xs) → Among x xs × (p x ≡ true)
among_filter p [] x among = absurd among
among_filter p (y ∷ xs) x among =
    elim (p y) as (λ b. p y ≡ b → Among x (cond b (y ∷ filter p xs) (filter p xs)) → Among x (y ∷ xs) × (p x ≡ true)) [
      | true ↦ λ passes here. elim here as (λ _. Among x (y ∷ xs) × (p x ≡ true)) [
        | inl is ↦ (inl is, ap p is ∙ passes)
        | inr rest ↦ let more = among_filter p xs x rest in (inr more.0, more.1)
      ]
      | false ↦ λ fails rest. let more = among_filter p xs x rest in (inr more.0, more.1)
    ] refl among

-- what is covered may go
pub are_joined : (passed names : List (List ℕ)) (bytes name : List ℕ) (gone : List (List ℕ)) (calls : List Call) → name ≡ part_name bytes → gone ≡ filter (goes passed name) names
    → AreCoveredBy passed names bytes calls → AreJoined folder_parts bytes gone calls
are_joined passed names bytes name gone calls named is covered other among =
    let kept = among_filter (goes passed name) names other (subst (λ (l : List (List ℕ)). Among other l) is among) in
    let both = and_parts (is_wanted passed other) (not (same_text other name)) kept.1 in
    let part = covered other kept.0 both.0 in
    record {
      joined = part.0;
      named = part.1;
      read = part.2;
      apart = λ same.
          let text : same_text other name ≡ true = ap (same_text other) (named ∙ same) ∙ itself_text other in
          let wrong : false ≡ true = ap not (sym text) ∙ both.1 in cc;
      covers = part.3;
    }

-- ---- what covers

-- a file among some is one of them
pub one_of : (file : List ℕ) (files : List (List ℕ)) → Among file files → IsOneOf file files
one_of file [] among = absurd among
one_of file (other ∷ files) (inl is) = inl is
one_of file (other ∷ files) (inr among) = inr (one_of file files among)

-- the file of what parts hold together covers them
pub pack_covered : (passed names : List (List ℕ)) (whole : Replica) (calls : List Call) → AreRead passed names whole calls → held_in (file_of whole) ≡ Ok (as_held whole) → AreCoveredBy passed names (file_of whole) calls
pack_covered passed names whole calls parts read name among wanted =
    let one = parts.each name among wanted in
    (one.0, one.1, parts.read one.0 one.2, cover_laws_hold.pack parts.first parts.others whole (record { made = parts.made; read = read }) one.0 (one_of one.0 (parts.first ∷ parts.others) one.2))

-- and so does the file of what a forget leaves of it
pub forget_covered : (passed names : List (List ℕ)) (whole left : Replica) (dropped : ℕ × ℕ) (calls : List Call) → AreRead passed names whole calls → forgetting whole ≡ Ok (dropped, left) → held_in (file_of left) ≡ Ok (as_held left)
    → AreCoveredBy passed names (file_of left) calls
forget_covered passed names whole left dropped calls parts forgot read name among wanted =
    let one = parts.each name among wanted in
    (one.0, one.1, parts.read one.0 one.2, cover_laws_hold.forget parts.first parts.others left (record { whole = whole; dropped = dropped; made = parts.made; forgot = forgot; read = read }) one.0 (one_of one.0 (parts.first ∷ parts.others) one.2))

-- ---- further calls

has_read_later : (parts : Parts) (b : List ℕ) (calls h : List Call) → HasRead parts b h → HasRead parts b (calls ++ h)
has_read_later parts b [] h has = has
has_read_later parts b (Read name (Some (Some found)) ∷ calls) h has = inr (has_read_later parts b calls h has)
has_read_later parts b (call ∷ calls) h has = has_read_later parts b calls h has

-- what was read was read before further calls
pub read_later : (passed names : List (List ℕ)) (whole : Replica) (mid after : List Call) → Follows mid after → AreRead passed names whole mid → AreRead passed names whole after
read_later passed names whole mid after more parts = record {
  first = parts.first;
  others = parts.others;
  made = parts.made;
  read = λ file among. subst (λ (l : List Call). HasRead folder_parts file l) (sym more.1) (has_read_later folder_parts file more.0 mid (parts.read file among));
  each = parts.each;
}

looked_after : (outcome : Option Outcome) (name bytes : List ℕ) (before mid after : List Call) → Follows before mid → IfSome outcome (λ how. LookCause how name bytes mid after)
    → IfSome outcome (λ how. LookCause how name bytes before after)
looked_after None name bytes before mid after first cause = tt
looked_after (Some how) name bytes before mid after first cause = look_later how name bytes before mid after first cause

-- what was replaced was so after the calls before, which gave no name
pub replaced_after : (passed names : List (List ℕ)) (bytes name : List ℕ) (gone : List (List ℕ)) (outcome : Option Outcome) (before mid after : List Call) → GoesInTurn folder_parts before mid
    → LinksNone before mid → Replaces passed names bytes name gone outcome mid after → Replaces passed names bytes name gone outcome before after
replaced_after passed names bytes name gone outcome before mid after first unlinked done = record {
  named = done.named;
  going = done.going;
  removed = λ on. removed_between gone before mid after after first.0 [] first.1 (done.removed on) refl;
  stored = done.stored;
  cause = looked_after outcome name bytes before mid after (first.0, first.1) done.cause;
  overtaken = λ none. has_later (Lacks gone) before mid after (first.0, first.1) (done.overtaken none);
  links = links_more (Watches (HasEach gone)) before mid after (links_never (Watches (HasEach gone)) before mid unlinked) done.links;
  lacked = λ none.
      let both = done.lacked none in (
        was_between (Watches (LacksOne gone)) before mid after after (first.0, first.1) (follows_none after) both.0,
        links_more (λ (l : List Call). ⊥) before mid after unlinked both.1,
      );
}
