-- Why the part of a delete is refused, and what is told then.
use Rattle.std.specs.Prelude.{◌≡◌, ◌⊎◌, ◌==◌, ℕ, cond, List, [], Option, Some, Result, Ok, Err}
use Rattle.std.proofs.Common.{sym, ap, subst, inl, inr, refl}
use Rattle.table_model.specs.Reading.{◌>>=◌}
use Rattle.table_model.specs.declared.refusal.Refusal.{Refusal}
use Rattle.table_model.specs.declared.refusal.Refusal.TheVariants.{WriteFault}
use Rattle.column_file.specs.Input.{IsUnread}
use Rattle.folder_parts.specs.PartsPut.{PutsPart}
use Rattle.replica_store.specs.Replica.{Replica}
use Rattle.replica_changes.specs.Brings.{deletes_brought}
use Rattle.replica_changes.specs.CommandForms.{Delete, OfDelete, answer_of, brought, has_changed, tagged}
use Rattle.replica_changes.specs.Commands.{Made, file_made, file_of}
use Rattle.replica_changes.specs.declared.command.Answer.{Answer}
use Rattle.lanes_c.specs.Calls.{Asks, Yields}
use Rattle.lanes_c.specs.DeletePart.{DeletesOpen, part_of_delete}
use Rattle.lanes_c.specs.Faults.{told}
use Rattle.lanes_c.specs.Rooms.{length_told, number_told, place_told, room_left}
use Rattle.lanes_c.specs.declared.fault.Fault.{Fault}
use Rattle.lanes_c.specs.declared.fault.Place.{Place}

-- what is refused as a file is refused as a part
refused_too : (made : Made ℕ) (e : Refusal) → file_made (tagged OfDelete made) ≡ Err e → ◌≡◌ {A = Result (ℕ × List ℕ) Refusal} (made >>= λ done. Ok (done.0, cond (done.0 == 0) [] (file_of done.1))) (Err e)
refused_too (Ok done) e is = absurd cc
refused_too (Err other) e is = let same : other ≡ e = cc in ap (λ (x : Refusal). let r : Result (ℕ × List ℕ) Refusal = Err x in r) same

-- writing into memory fails only if memory runs out
why_refused : (e : Refusal) (meaning : Result (ℕ × List ℕ) Refusal) → (meaning ≡ Err e) ⊎ IsUnread e → Yields {X = ℕ × List ℕ} (Err (told e)) meaning
why_refused WriteFault meaning why = inr (inl refl)
why_refused other meaning why = why

pub delete_refused : (text : List ℕ) (held : Replica) (e : Refusal) (before now : Option (List ℕ)) → PutsPart {X = Answer} answer_of has_changed (Err e) before now (brought (Delete text) held)
    → Yields {X = ℕ × List ℕ} (Err (told e)) (part_of_delete text held)
delete_refused text held e before now (inl (same, inl is)) = why_refused e (part_of_delete text held) (inl (refused_too (deletes_brought text held) e is))
delete_refused text held e before now (inl (same, inr unread)) = why_refused e (part_of_delete text held) (inr unread)
delete_refused text held e before now (inr (is, front)) = subst (λ (x : Refusal). Yields {X = ℕ × List ℕ} (Err (told x)) (part_of_delete text held)) (sym is) (inr (inl refl))

-- what is told of a refusal
pub delete_told : (condition : List ℕ) (was : Option Replica) (r : Replica) (fault : Fault) (number : ℕ) (old new : List ℕ) (length : ℕ) (at : Place) → was ≡ Some r → Asks {X = ℕ × List ℕ} (Err fault) condition (part_of_delete condition r)
    → number ≡ number_told (Err fault) → new ≡ room_left (Err fault) old → length ≡ length_told (Err fault) → at ≡ place_told (Err fault) → DeletesOpen condition was number 0 old new length at
delete_told condition was r fault number old new length at held why told left none place =
    subst (λ (o : Option Replica). DeletesOpen condition o number 0 old new length at) (sym held)
    (record { given = Err fault; meant = why; count = refl; told = record { given = Err fault; meant = refl; number = told; room = left; length = none; place = place } })
