-- What C's handle of parts that were read owns.
use Rattle.std.specs.Prelude.{◌≡◌, ℕ, List}
use Rattle.std.specs.Coded.{Coded, coded×, coded_list, coded_ℕ}
use base.Fml.{Fml, ftrue, fsep, fex}
use denote.RawPtr.{Ptr, block_ptr, null_ptr}
use Rattle.std.specs.declared.option.Option.{Option}
use Rattle.std.specs.declared.option.Option.TheVariants.{None, Some}
use Rattle.std.specs.declared.alloc.Global.{Global}
use Rattle.std.specs.contracts.impls.GlobalAllocator.TheImpl.{ghosts}
use Rattle.std_alloc.specs.Box.Ownership.{box_owns}
use Rattle.replica_store.specs.Replica.{Replica, coded_replica}
use Rattle.lanes_c.specs.contracts.read_parts.ReadParts.{the_row}

-- what parts hold together, and their bytes, the newest first
abbrev pub Read : Type 0
Read = Replica × List (List ℕ)

-- a code of these, by which a struct may say that two are equal
abbrev pub coded_read : Coded Read
coded_read = coded× coded_replica (coded_list (coded_list coded_ℕ))

-- the box of such parts at a pointer, and that they are the handle's
abbrev pub boxed_parts : Ptr → Option Read → Global → Read → Fml
boxed_parts at read alloc parts = fsep (box_owns (ghosts.dealloc_token alloc) the_row at parts) (fex (read ≡ Some parts) (λ _. ftrue))

-- nothing at null, if the handle is closed; else such a box
abbrev pub parts_own : Ptr → Option Read → Fml
parts_own (block_ptr block offset) read = fex Global (λ alloc. fex Read (boxed_parts (block_ptr block offset) read alloc))
parts_own null_ptr read = fex (read ≡ None) (λ _. ftrue)
