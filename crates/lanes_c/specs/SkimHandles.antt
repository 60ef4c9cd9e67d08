-- What C's handle of what was read of parts owns.
use Rattle.std.specs.Prelude.{◌≡◌, ℕ}
use Rattle.std.specs.Coded.{Coded, coded×, coded_ℕ}
use base.Fml.{Fml, ftrue, fsep, fex}
use denote.RawPtr.{Ptr, block_ptr, null_ptr}
use Rattle.std.specs.declared.option.Option.{Option}
use Rattle.std.specs.declared.option.Option.TheVariants.{None, Some}
use Rattle.std.specs.declared.alloc.Global.{Global}
use Rattle.std.specs.contracts.impls.GlobalAllocator.TheImpl.{ghosts}
use Rattle.std_alloc.specs.Box.Ownership.{box_owns}
use Rattle.replica_store.specs.Replica.{Replica, coded_replica}
use Rattle.folder_parts.specs.contracts.skimming.Skim.{the_row}

-- the replica that has what was read of parts, and how many batches these have
abbrev pub Skimmed : Type 0
Skimmed = Replica × ℕ

-- a code of these, by which a struct may say that two are equal
abbrev pub coded_skim : Coded Skimmed
coded_skim = coded× coded_replica coded_ℕ

-- the box of this at a pointer, and that it is the handle's
abbrev pub boxed_skim : Ptr → Option Skimmed → Global → Skimmed → Fml
boxed_skim at skim alloc inside = fsep (box_owns (ghosts.dealloc_token alloc) the_row at inside) (fex (skim ≡ Some inside) (λ _. ftrue))

-- nothing at null, if the handle is closed; else such a box
abbrev pub skim_owns : Ptr → Option Skimmed → Fml
skim_owns (block_ptr block offset) skim = fex Global (λ alloc. fex Skimmed (boxed_skim (block_ptr block offset) skim alloc))
skim_owns null_ptr skim = fex (skim ≡ None) (λ _. ftrue)
