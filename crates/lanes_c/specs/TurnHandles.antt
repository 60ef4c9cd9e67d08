-- What C's handle of a turn at a folder owns.
use Rattle.std.specs.Prelude.{◌≡◌}
use base.Fml.{Fml, ftrue, fsep, fex}
use denote.RawPtr.{Ptr, block_ptr, null_ptr}
use Rattle.std.specs.declared.option.Option.{Option}
use Rattle.std.specs.declared.option.Option.TheVariants.{None, Some}
use Rattle.std.specs.declared.alloc.Global.{Global}
use Rattle.std.specs.contracts.impls.GlobalAllocator.TheImpl.{ghosts}
use Rattle.std_alloc.specs.Box.Ownership.{box_owns}
use Rattle.folder_turns.specs.Turns.{State, state_of}
use Rattle.folder_turns.specs.declared.turn.Turn.{Turn}
use Rattle.folder_turns.specs.contracts.turn.Turn.{the_row}

-- the box of a turn at a pointer, and that the handle's state is the turn's
abbrev pub boxed_turn : Ptr → Option State → Global → Turn → Fml
boxed_turn at state alloc turn = fsep (box_owns (ghosts.dealloc_token alloc) the_row at turn) (fex (state ≡ Some (state_of turn)) (λ _. ftrue))

-- nothing at null, if the handle is closed; else such a box
abbrev pub turn_owns : Ptr → Option State → Fml
turn_owns (block_ptr block offset) state = fex Global (λ alloc. fex Turn (boxed_turn (block_ptr block offset) state alloc))
turn_owns null_ptr state = fex (state ≡ None) (λ _. ftrue)
