use mir.Raw.{raw}
use base.Shift.{Keyless}
use denote.Memory.{lone}
use denote.Param.Send.{IsSend, owning_send, struct_send, sendable}
use denote.Builtin.{RawPtr}
use denote.RawPtr.{Ptr, block_ptr, null_ptr}
use denote.Struct.Struct.{exits_of}
use denote.Struct.Owning.{shape, fields, to}
use Rattle.std_alloc.proofs.SendSync.{quiet, lies}
use Rattle.std.proofs.Crossing.{frees}
use Rattle.std.specs.declared.option.Option.{Option}
use Rattle.lanes_c.specs.Handles.{table_owns}
use Rattle.replica_store.specs.Replica.{Replica}
use Rattle.lanes_c.specs.contracts.shared.Shared as shared
use Rattle.lanes_c.specs.contracts.handle.Table.{the_row, the_type}
use Rattle.lanes_c.proofs.shared.Shared.TheSendSync.{the_send}

owned : (p : Ptr) (k : Option Replica) → Keyless (table_owns p k)
owned null_ptr k = (λ _. tt)
owned (block_ptr b o) k = (λ a s. ((lies shared.the_row the_send (block_ptr b o) s, frees.frees a (raw (lone shared.the_row.mir)) (block_ptr b o)), (λ _. tt)))

pub send : IsSend the_row
send = let O = the_type in let ps : IsSend RawPtr = search sendable in
    owning_send O (ps, tt) (λ d. owned d.at d.replica) (λ k. quiet (to O) (exits_of k (fields O)) ((struct_send (shape O) (ps, tt)).leaving k))
