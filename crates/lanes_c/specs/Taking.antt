-- What a call took of the libraries below: what they wrote into a vector, or their refusal.
use Rattle.std.specs.Prelude.{◌≡◌, ℕ, Bool, cond, List, Result, Ok, Err}
use Rattle.std.specs.Str.{IsUtf8}
use Rattle.std.specs.Str.Lossy.{utf8_valid_len}
use Rattle.table_model.specs.declared.refusal.Refusal.{Refusal}
use Rattle.table_model.specs.declared.refusal.Refusal.TheVariants.{Memory, Syntax}
use Rattle.lanes_c.specs.Faults.{told}
use Rattle.lanes_c.specs.Rooms.{Given}
use Rattle.lanes_c.specs.declared.fault.Fault.{Fault}
use Rattle.lanes_c.specs.declared.fault.Fault.TheVariants.{Refused}

-- what a call has written, or its refusal
abbrev pub taken_of : Result (Unit {0}) Refusal → List ℕ → Given
taken_of (Ok done) written = Ok written
taken_of (Err e) written = Err (told e)

-- what a command leaves: what it has written where something changed, and else the file as it was; only memory may run out
abbrev pub LeftBy : Given → Bool → List ℕ → List ℕ → Type 0
LeftBy (Ok bytes) changed written file = bytes ≡ cond changed written file
LeftBy (Err fault) changed written file = fault ≡ Refused Memory

-- bytes are no text: the fault has the place of the first byte that belongs to no character
abbrev pub NoText : List ℕ → Fault → Type 0
NoText bytes fault = (IsUtf8 bytes → ⊥) × (fault ≡ Refused (Syntax (utf8_valid_len bytes)))
