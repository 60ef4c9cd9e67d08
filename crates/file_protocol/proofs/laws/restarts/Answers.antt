use Rattle.std.proofs.Common.{ℕ, List, Option, Some, None, sym, subst}
use Rattle.file_protocol.specs.Disk.{Disk, MayHold, MayLeave, Reads}
use Rattle.file_protocol.specs.Safe.{Restarts}
use Rattle.file_protocol.proofs.laws.restarts.Goals as goal

reads : (name : List ℕ) (d e : Disk) → Restarts d e → (c : Option (List ℕ)) → Reads e name c → MayLeave d name c
reads name d e restarts None none = (e.names, restarts.names, none)
reads name d e restarts (Some bytes) (file, at, is) = (e.names, restarts.names, (file, at, subst (λ (b : List ℕ). MayHold d file b) (sym is) (restarts.contents file)))

pub returns : goal.returns
returns c = λ name d e r x h. reads name d e r x h
