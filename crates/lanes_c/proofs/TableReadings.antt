-- The report of a store's file, as what is given to C.
use Rattle.std.specs.Prelude.{◌≡◌, ◌⊎◌, ℕ, List, [], Some, Result, Ok, Err, IfErr, OnOk}
use Rattle.std.proofs.Common.{refl, sym, subst, inl, inr}
use Rattle.table_model.specs.declared.refusal.Refusal.{Refusal}
use Rattle.table_model.specs.declared.refusal.Refusal.TheVariants.{Memory, WriteFault}
use Rattle.answer_formats.specs.declared.format.ReportForm.{ReportForm}
use Rattle.column_file.specs.Files.{AreCanonicalOf}
use Rattle.replica_reports.specs.Held.{held_in}
use Rattle.replica_changes.specs.Commands.{as_held, file_of}
use Rattle.replica_reports.specs.Reports.{Reports, WritesReport}
use Rattle.replica_store.specs.Replica.{Replica}
use Rattle.replica_store.specs.Segments.{StoreForm}
use Rattle.lanes_c.specs.Calls.{Yields}
use Rattle.lanes_c.specs.Opened.{IsWhyNotOpened}
use Rattle.lanes_c.specs.Rooms.{Given}
use Rattle.lanes_c.specs.TableReading.{Inspects, IsReport}
use Rattle.lanes_c.specs.Taking.{taken_of}
use Rattle.lanes_c.specs.declared.fault.Fault.{Fault}
use Rattle.lanes_c.specs.declared.fault.Fault.TheVariants.{Refused}

-- the report that was written
pub report_given : (given : Given) (done : Result (Unit {0}) Refusal) (form : ReportForm) (s : StoreForm) (start written : List ℕ) → given ≡ taken_of done written → start ≡ [] → OnOk done (WritesReport form s (Some start) (Some written))
    → IfErr done (λ e. (e ≡ Memory) ⊎ (e ≡ WriteFault)) → IsReport given form s
report_given given done form s start written taken empty h only =
    subst (λ (g : Given). IsReport g form s) (sym taken) (gives done h only)
  where
    gives : (d : Result (Unit {0}) Refusal) → OnOk d (WritesReport form s (Some start) (Some written)) → IfErr d (λ e. (e ≡ Memory) ⊎ (e ≡ WriteFault)) → IsReport (taken_of d written) form s
    gives (Ok unit) h only = let P : List ℕ → Type 0 = λ b. WritesReport form s (Some b) (Some written) in let done = subst P empty h in subst (Reports form s) (sym done.2) done.1
    gives (Err Memory) h only = inl refl
    gives (Err WriteFault) h only = inl refl
    gives (Err other) h (inl is) = absurd cc
    gives (Err other) h (inr is) = absurd cc

-- ---- the report of a file that was opened

pub inspected_given : (given : Given) (form : ReportForm) (s : StoreForm) (r : Replica) → ◌≡◌ {A = Result Replica Refusal} (Ok (as_held r)) (Ok s.replica) → AreCanonicalOf s.replica.schema s.replica.state.batches s.segments → IsReport given form s → Inspects given form r
inspected_given (Ok text) form s r is canonical report = let same : as_held r ≡ s.replica = cc in (s, sym same, canonical, report)
inspected_given (Err (Refused e)) form s r is canonical why = why
inspected_given (Err other) form s r is canonical why = absurd why

-- memory lacks for the file
pub file_lacks : (fault : Fault) (form : ReportForm) (r : Replica) → Yields {X = List ℕ} (Err fault) (Ok (file_of r)) → Inspects (Err fault) form r
file_lacks (Refused e) form r (inl is) = absurd cc
file_lacks (Refused e) form r (inr why) = why
file_lacks other form r why = absurd why

-- a file that opens is refused for want of memory, or unread
pub file_unread : (fault : Fault) (form : ReportForm) (r : Replica) (file : List ℕ) → held_in file ≡ Ok (as_held r) → IsWhyNotOpened fault file → Inspects (Err fault) form r
file_unread (Refused e) form r file opens (inl is) = absurd cc
file_unread (Refused e) form r file opens (inr why) = why
file_unread other form r file opens why = absurd why
