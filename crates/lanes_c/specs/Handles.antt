-- What C's handle owns.
use Rattle.std.specs.Prelude.{◌≡◌}
use base.Fml.{Fml, ftrue, fsep, fex}
use denote.RawPtr.{Ptr, block_ptr, null_ptr}
use Rattle.std.specs.declared.option.Option.{Option}
use Rattle.std.specs.declared.option.Option.TheVariants.{None, Some}
use Rattle.std.specs.declared.alloc.Global.{Global}
use Rattle.std.specs.contracts.impls.GlobalAllocator.TheImpl.{ghosts}
use Rattle.std_alloc.specs.Box.Ownership.{box_owns}
use Rattle.replica_store.specs.Replica.{Replica}
use Rattle.lanes_c.specs.declared.shared.Shared.{Shared}
use Rattle.lanes_c.specs.contracts.shared.Shared.{the_row}

-- the box of a share at a pointer, and that the share's store has the handle's replica
abbrev pub boxed : Ptr → Option Replica → Global → Shared → Fml
boxed at replica alloc shared = fsep (box_owns (ghosts.dealloc_token alloc) the_row at shared) (fex (replica ≡ Some shared.store.value.replica) (λ _. ftrue))

-- nothing at null, where the handle is closed; else such a box
abbrev pub table_owns : Ptr → Option Replica → Fml
table_owns (block_ptr block offset) replica = fex Global (λ alloc. fex Shared (boxed (block_ptr block offset) replica alloc))
table_owns null_ptr replica = fex (replica ≡ None) (λ _. ftrue)
