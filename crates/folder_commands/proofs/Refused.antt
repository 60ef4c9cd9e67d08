-- Why parts are refused, step by step.
use Rattle.std.specs.Prelude.{◌≡◌, ◌⊎◌, ℕ, List, ◌∷◌}
use Rattle.std.proofs.Common.{ap, inl, inr}
use Rattle.table_model.specs.declared.refusal.Refusal.{Refusal}
use Rattle.table_model.specs.declared.refusal.Refusal.TheVariants.{Memory}
use Rattle.folder_model.specs.Call.{Call}
use Rattle.folder_protocol.proofs.Causing.{Follows}
use Rattle.folder_parts.specs.declared.fault.PartFault.TheVariants.{Refused}
use Rattle.folder_parts.specs.declared.fault.PartRefusal.{PartRefusal}
use Rattle.folder_commands.specs.Joined.{WereGiven}
use Rattle.folder_commands.specs.Refusals.{IsFolderRefused, IsPartAtFault, IsReadRefused, LacksMemory}
use Rattle.folder_commands.proofs.ReadParts.{found_later}

-- memory ran out
pub lacks : (e : Refusal) → e ≡ Memory → LacksMemory (record { part = 0; fault = Refused e })
lacks e is = ap (λ (x : Refusal). let refusal : PartRefusal = record { part = 0; fault = Refused x } in refusal) is

-- a part that is at fault is so after other calls
at_fault_later : (refusal : PartRefusal) (passed names : List (List ℕ)) (before mid after : List Call) → Follows before mid → IsPartAtFault refusal passed names mid after → IsPartAtFault refusal passed names before after
at_fault_later refusal passed names before mid after first is = record {
  part = is.part;
  others = is.others;
  rest = is.rest;
  found = found_later (is.part ∷ is.others) before mid after first is.found;
  named = is.named;
  last = is.last;
  fault = is.fault;
}

-- the names were listed
pub folder_refused : (refusal : PartRefusal) (passed names : List (List ℕ)) (before mid after : List Call) → Follows before mid → WereGiven names before after → IsReadRefused refusal passed names mid after → IsFolderRefused refusal passed before after
folder_refused refusal passed names before mid after first given (inl is) = inl (names, given, at_fault_later refusal passed names before mid after first is)
folder_refused refusal passed names before mid after first given (inr lacks) = inr lacks
