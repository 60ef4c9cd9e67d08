-- What an offer brings, why it is refused, and what is told then.
use Rattle.std.specs.Prelude.{◌≡◌, ◌⊎◌, ◌==◌, ℕ, Bool, true, false, cond, List, [], ◌∷◌, Option, Some, Result, Ok, Err}
use Rattle.std.proofs.Common.{sym, ap, subst, ◌∙◌, inl, inr, refl}
use Rattle.table_model.specs.Reading.{◌>>=◌}
use Rattle.table_model.specs.declared.refusal.Refusal.{Refusal}
use Rattle.table_model.specs.declared.refusal.Refusal.TheVariants.{Memory, ReadFault, WriteFault}
use Rattle.column_file.specs.Files.{offer_read}
use Rattle.column_file.specs.Input.{IsUnread}
use Rattle.folder_parts.specs.PartsPut.{PutsPart, TellsChange, WritesPart, part_of_offers}
use Rattle.replica_store.specs.Exchange.{OfferForm}
use Rattle.replica_store.specs.Replica.{Replica}
use Rattle.replica_changes.specs.CommandForms.{AnswerForm, Apply, OfApply, adding, answer_of, brought, has_changed, tagged}
use Rattle.replica_changes.specs.Commands.{Made, applying, file_made, file_of}
use Rattle.replica_changes.specs.declared.command.Answer.{Answer}
use Rattle.replica_changes.specs.declared.command.Answer.TheVariants as answers
use Rattle.lanes_c.specs.Bringing.{BringsBytes, BringsOpen, BringsPart, batches_new, offer_applied, offer_brought}
use Rattle.lanes_c.specs.Calls.{Yields}
use Rattle.lanes_c.specs.Faults.{told}
use Rattle.lanes_c.specs.Rooms.{length_told, number_told, place_told, room_left}
use Rattle.lanes_c.specs.declared.fault.Fault.{Fault}
use Rattle.lanes_c.specs.declared.fault.Place.{Place}

-- how many batches an offer has, how many ranges of deleted rows there are, and how many batches are new
abbrev Counts : Type 0
Counts = ℕ × ℕ × ℕ

-- ---- what is made of an offer that was read

-- an offer that was read, in the place of its bytes
pub of_bytes : {Y : Type 0} (command : List OfferForm → Made Y) (bytes : List ℕ) (o : OfferForm) (offers : List OfferForm) → offer_read bytes ≡ Ok o → offers ≡ o ∷ [] → (offer_read bytes >>= λ (p : OfferForm). command (p ∷ [])) ≡ command offers
of_bytes {Y} command bytes o offers read one = ap (λ (x : Result OfferForm Refusal). x >>= λ (p : OfferForm). command (p ∷ [])) read ∙ ap command (sym one)

-- what is made, without the tag of its command
record Untagged {Y : Type 0} (tag : Y → AnswerForm) (made : Made Y) (a : AnswerForm) (r : Replica) : Type 0 where
  answer : Y
  is_made : made ≡ Ok (answer, r)
  is_tagged : tag answer ≡ a

untagged : {Y : Type 0} (tag : Y → AnswerForm) (made : Made Y) (a : AnswerForm) (r : Replica) → tagged tag made ≡ Ok (a, r) → Untagged tag made a r
untagged {Y} tag (Ok done) a r is =
    let both : ◌≡◌ {A = AnswerForm × Replica} (tag done.0, done.1) (a, r) = cc in
    let second : done.1 ≡ r = ap (λ (p : AnswerForm × Replica). p.1) both in
    let of_second : Replica → Made Y = λ x. Ok (done.0, x) in
    record { answer = done.0; is_made = ap of_second second; is_tagged = ap (λ (p : AnswerForm × Replica). p.0) both }
untagged tag (Err e) a r is = absurd cc

-- the count of an apply
count_of : (answer : Answer) (y : Counts) → OfApply y ≡ answer_of answer → batches_new answer ≡ y.2
count_of (answers.Applied done) y is =
    let same : ◌≡◌ {A = Counts} y (done.batches, done.ranges, done.new) = cc in ap (λ (p : Counts). p.2) (sym same)
count_of (answers.Imported done) y is = absurd cc
count_of (answers.Deleted done) y is = absurd cc
count_of (answers.DeletedRows done) y is = absurd cc

-- the bytes that were written
wrote : (changed : Bool) (before now : Option (List ℕ)) (bytes : List ℕ) (part : Replica) → before ≡ Some [] → now ≡ Some bytes → WritesPart changed before now part → bytes ≡ cond changed (file_of part) []
wrote true before now bytes part none some h = (subst (λ (b : Option (List ℕ)). WritesPart true b (Some bytes) part) none (subst (λ (n : Option (List ℕ)). WritesPart true before n part) some h)).0
wrote false before now bytes part none some h = cc

pub offer_brings : (answer : Answer) (bytes written : List ℕ) (o : OfferForm) (offers : List OfferForm) (held : Replica) (before now : Option (List ℕ)) → offer_read bytes ≡ Ok o → offers ≡ o ∷ [] → before ≡ Some [] → now ≡ Some written
    → PutsPart {X = Answer} answer_of has_changed (Ok answer) before now (brought (Apply offers) held) → TellsChange {X = Answer} answer_of has_changed (Ok answer) held (adding (Apply offers) held) → BringsBytes (batches_new answer, written) bytes held
offer_brings answer bytes written o offers held before now read one none some (part, is, writes) (after, makes, says) =
    let first = untagged OfApply (part_of_offers offers held) (answer_of answer) part is in
    let second = untagged OfApply (applying offers held) (answer_of answer) after makes in
    let tags : OfApply second.answer ≡ OfApply first.answer = second.is_tagged ∙ sym first.is_tagged in
    let same : second.answer ≡ first.answer = cc in
    record {
      done = first.answer;
      new = part;
      after = after;
      changed = has_changed answer;
      brings = of_bytes (λ (os : List OfferForm). part_of_offers os held) bytes o offers read one ∙ first.is_made;
      makes = of_bytes (λ (os : List OfferForm). applying os held) bytes o offers read one ∙ subst (λ (y : Counts). applying offers held ≡ Ok (y, after)) same second.is_made;
      says = says;
      count = count_of answer first.answer first.is_tagged;
      bytes = wrote (has_changed answer) before now written part none some writes;
    }

-- ---- why it is refused

-- what is refused as a file is refused as a part
refused_too : (made : Made Counts) (e : Refusal) → file_made (tagged OfApply made) ≡ Err e → made ≡ Err e
refused_too (Ok done) e is = absurd cc
refused_too (Err other) e is = let same : other ≡ e = cc in ap (λ (x : Refusal). let r : Made Counts = Err x in r) same

-- writing into memory fails only if memory runs out
why_refused : (e : Refusal) (meaning : Made Counts) → (meaning ≡ Err e) ⊎ IsUnread e → Yields {X = Counts × Replica} (Err (told e)) meaning
why_refused WriteFault meaning why = inr (inl refl)
why_refused other meaning why = why

-- an offer that is refused as it is read
pub offer_unread : (e : Refusal) (offer input : List ℕ) (held : Replica) → input ≡ offer → ((e ≡ Memory → ⊥) → (e ≡ ReadFault → ⊥) → offer_read input ≡ Err e) → Yields {X = Counts × Replica} (Err (told e)) (offer_brought offer held)
offer_unread Memory offer input held same h = inr (inl refl)
offer_unread ReadFault offer input held same h = inr (inr refl)
offer_unread WriteFault offer input held same h = inr (inl refl)
offer_unread other offer input held same h = inl (ap (λ (x : Result OfferForm Refusal). x >>= λ (p : OfferForm). part_of_offers (p ∷ []) held) (ap offer_read (sym same) ∙ h (λ is. cc) (λ is. cc)))

-- one that is refused as it is applied
pub offer_refused : (e : Refusal) (bytes : List ℕ) (o : OfferForm) (offers : List OfferForm) (held : Replica) (before now : Option (List ℕ)) → offer_read bytes ≡ Ok o → offers ≡ o ∷ []
    → PutsPart {X = Answer} answer_of has_changed (Err e) before now (brought (Apply offers) held) → Yields {X = Counts × Replica} (Err (told e)) (offer_brought bytes held)
offer_refused e bytes o offers held before now read one (inl (same, inl is)) =
    why_refused e (offer_brought bytes held) (inl (of_bytes (λ (os : List OfferForm). part_of_offers os held) bytes o offers read one ∙ refused_too (part_of_offers offers held) e is))
offer_refused e bytes o offers held before now read one (inl (same, inr unread)) = why_refused e (offer_brought bytes held) (inr unread)
offer_refused e bytes o offers held before now read one (inr (is, front)) = subst (λ (x : Refusal). Yields {X = Counts × Replica} (Err (told x)) (offer_brought bytes held)) (sym is) (inr (inl refl))

-- ---- what is told

-- of a refusal
pub bring_told : (offer : List ℕ) (was : Option Replica) (r : Replica) (fault : Fault) (number : ℕ) (old new : List ℕ) (length : ℕ) (at : Place) → was ≡ Some r → BringsPart (Err fault) offer r
    → number ≡ number_told (Err fault) → new ≡ room_left (Err fault) old → length ≡ length_told (Err fault) → at ≡ place_told (Err fault) → BringsOpen offer was number 0 old new length at
bring_told offer was r fault number old new length at held why told left none place =
    subst (λ (o : Option Replica). BringsOpen offer o number 0 old new length at) (sym held)
    (record { given = Err fault; meant = why; count = refl; told = record { given = Err fault; meant = refl; number = told; room = left; length = none; place = place } })
