-- What a call that reads its reader to the end says of the bytes that came and of the count of failures.
use Rattle.std.specs.Prelude.{◌≡◌, ◌⊎◌, ℕ, Bool, true, false, List, Option, Some, None, Result, Ok, Err, IsTrue}
use Rattle.std.specs.Io.KnownBytes.{IsAtEnd}
use Rattle.table_model.specs.Faults.{IsWithin, GaveMore, CountsReads}
use Rattle.table_model.specs.declared.refusal.Refusal.{Refusal}
use Rattle.table_model.specs.declared.refusal.Refusal.TheVariants.{Memory, ReadFault, BadName, BadSchema, Truncated, BadMagic, BadVersion, BadOrder, BadCount, BadWidth, BadTag, BadMask, BadDictionary, BadCode, BadRange, TrailingBytes, NotCanonical}

-- What a call returned, seen by view, is what its whole input means; Memory and ReadFault may come in the place of anything, and
-- nothing is said of a reader that doesn't tell its bytes.
abbrev pub Judges : {X Y : Type 0} → (X → Y) → Result X Refusal → Option (List ℕ) → (List ℕ → Result Y Refusal) → Type 0
Judges view result None meaning = Unit {0}
Judges view (Ok x) (Some input) meaning = meaning input ≡ Ok (view x)
Judges view (Err e) (Some input) meaning = (e ≡ Memory → ⊥) → (e ≡ ReadFault → ⊥) → meaning input ≡ Err e

-- out of memory or a failed read
abbrev pub IsUnread : Refusal → Type 0
IsUnread e = (e ≡ Memory) ⊎ (e ≡ ReadFault)

-- A refusal other than out of memory and a failed read comes of the whole input: the reader, before and after, was read to its
-- end, and had no more than a call reads.
abbrev pub ComesOfWhole : Refusal → Option (List ℕ) → Option (List ℕ) → Type 0
ComesOfWhole e before after = (e ≡ Memory → ⊥) → (e ≡ ReadFault → ⊥) → IsWithin before × IsAtEnd after

-- whether a refusal is a fault that the bytes of a summary may have
abbrev pub is_fault_of_summary : Refusal → Bool
is_fault_of_summary (Truncated at) = true
is_fault_of_summary BadMagic = true
is_fault_of_summary BadVersion = true
is_fault_of_summary BadSchema = true
is_fault_of_summary (BadCount at) = true
is_fault_of_summary BadName = true
is_fault_of_summary (BadOrder at) = true
is_fault_of_summary (TrailingBytes at) = true
is_fault_of_summary other = false

-- whether a refusal is a fault that the bytes of a container may have: its vectors and ranges have more than a summary
abbrev pub is_fault_of_container : Refusal → Bool
is_fault_of_container (BadMask at) = true
is_fault_of_container (BadTag at) = true
is_fault_of_container (BadWidth at) = true
is_fault_of_container (BadDictionary at) = true
is_fault_of_container (BadCode at) = true
is_fault_of_container (BadRange at) = true
is_fault_of_container other = is_fault_of_summary other

-- whether a refusal is a fault that the bytes of a canonical file may have
abbrev pub is_fault_of_file : Refusal → Bool
is_fault_of_file (NotCanonical at) = true
is_fault_of_file other = is_fault_of_container other

-- whether a refusal is out of memory, a failed read or one of some faults
abbrev pub unread_or : (Refusal → Bool) → Refusal → Bool
unread_or is_fault Memory = true
unread_or is_fault ReadFault = true
unread_or is_fault other = is_fault other

-- whether a refusal is out of memory or a failed read: a call that judges nothing of what it reads has no others
abbrev pub is_unread : Refusal → Bool
is_unread = unread_or (λ e. false)

-- each refusal of a call that reads a summary
abbrev pub is_refusal_of_summary : Refusal → Bool
is_refusal_of_summary = unread_or is_fault_of_summary

-- each refusal of a call that reads an offer
abbrev pub is_refusal_of_offer : Refusal → Bool
is_refusal_of_offer = unread_or is_fault_of_container

-- each refusal of a call that reads a canonical file
abbrev pub is_refusal_of_reading : Refusal → Bool
is_refusal_of_reading = unread_or is_fault_of_file

-- ---- a call that reads to the end

-- A reader was read to its end without a failure, and it had no more than a call reads.
pub record IsReadWhole {D : Type 0} (remaining : D → Option (List ℕ)) (old new : D × ℕ) : Type 0 where
  pub end : IsAtEnd (remaining new.0)
  pub within : IsWithin (remaining old.0)
  pub kept : new.1 ≡ old.1

-- The call was refused: as one of the refusals that it has; unless memory ran out or a read failed, the reader was read to its end; and
-- a failed read is counted.
pub record StopsReading {D : Type 0} (remaining : D → Option (List ℕ)) (is_refusal : Refusal → Bool) (old new : D × ℕ) (e : Refusal) : Type 0 where
  pub listed : IsTrue (is_refusal e)
  pub whole : ComesOfWhole e (remaining old.0) (remaining new.0)
  pub counts : CountsReads (GaveMore (remaining old.0) (remaining new.0)) e old.1 new.1

-- how a call ends that reads its reader to the end: it was read whole, or the call was refused
abbrev pub ReadsWhole : {D X : Type 0} → (D → Option (List ℕ)) → (Refusal → Bool) → D × ℕ → D × ℕ → Result X Refusal → Type 0
ReadsWhole remaining is_refusal old new (Ok x) = IsReadWhole remaining old new
ReadsWhole remaining is_refusal old new (Err e) = StopsReading remaining is_refusal old new e
