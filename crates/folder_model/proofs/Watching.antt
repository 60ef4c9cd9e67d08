-- A run in turn, in which two processes each give a part its name under the exclusive lock, which they have since their listings: the premises of
-- the laws on listings can be met.
use Rattle.std.proofs.Common.{◌≡◌, ◌≢◌, inl, inr, ⊎_elim, ℕ, Bool, true, false, ◌==◌, if◌then◌else◌, List, [], ◌∷◌, Option, Some, None, refl, sym, ◌∙◌, ap, arith}
use Rattle.folder_model.specs.Call.{Made, Wrote, Synced, Linked, Settled, Locked, Unlocked, Began, Listed, Exclusive, Done, lock_of}
use Rattle.folder_model.specs.Disk.{Among, Disk, MayLead}
use Rattle.folder_model.specs.Parts.{IsSafe}
use Rattle.folder_model.specs.Turn.{Placed, stage_of, Gave, listing_of, HasPlaced}
use Rattle.folder_model.specs.World.{World, IsFree, IsFresh}
use Rattle.folder_model.specs.Run.{Event, By, Run, SinceLoss, BeforeListing, HasPut}
use Rattle.folder_model.specs.Laws.{IsFair, Lists}
use Rattle.folder_model.proofs.Basics.{some_none, names_same, numbers_same}
use Rattle.folder_model.proofs.Wrong.{calls_with, with_own, with_others, noted, same_stays}
use Rattle.folder_model.proofs.PutWitness.{parts, led, led_leads, empty, stays, same_name, w0}
use Rattle.folder_model.proofs.Worlds.{notes, made, made_does, filled, filled_does, synced, synced_does, linked, linked_does, settled, settled_does, begins, begins_does, leads_fresh, first, second, first_temp, second_temp, first_name, second_name, first_no_part, second_no_part, none_at, some_other, one_two, opened, zero_one, undrawn}

-- what the second is listed
abbrev pub names : List (List ℕ)
names = first_temp ∷ first_name ∷ []

abbrev pub a1 : World
a1 = noted 0 (Locked Exclusive true) w0

abbrev pub a2 : World
a2 = noted 0 Began a1

abbrev pub a3 : World
a3 = noted 0 (Listed (Some [])) a2

abbrev pub a4 : World
a4 = made 0 first_temp 1 a3

abbrev pub a5 : World
a5 = synced 0 1 a4

abbrev pub a6 : World
a6 = linked 0 first_temp first_name 1 a5

abbrev pub a7 : World
a7 = settled 0 a6

abbrev pub a8 : World
a8 = noted 0 Unlocked a7

abbrev pub a9 : World
a9 = noted 1 (Locked Exclusive true) a8

abbrev pub a10 : World
a10 = begins 1 a9

abbrev pub a11 : World
a11 = noted 1 (Listed (Some names)) a10

abbrev pub a12 : World
a12 = made 1 second_temp 2 a11

abbrev pub a13 : World
a13 = filled 1 2 second a12

abbrev pub a14 : World
a14 = synced 1 2 a13

abbrev pub a15 : World
a15 = linked 1 second_temp second_name 2 a14

abbrev pub events : List Event
events =
    By 1 (Linked second_temp second_name Done) ∷ By 1 (Synced true) ∷ By 1 (Wrote second true) ∷ By 1 (Made second_temp true) ∷ By 1 (Listed (Some names)) ∷ By 1 Began ∷ By 1 (Locked Exclusive true) ∷ By 0 Unlocked ∷ By 0 (Settled true) ∷ By 0 (Linked first_temp first_name Done) ∷ By 0 (Synced true) ∷ By 0 (Made first_temp true) ∷ By 0 (Listed (Some [])) ∷ By 0 Began ∷ By 0 (Locked Exclusive true) ∷ []

free8 : (p : ℕ) → lock_of (a8.calls p) ≡ None
free8 p = ⊎_elim
    (λ is. ap (λ (x : ℕ). lock_of (a8.calls x)) is ∙ ap lock_of (with_own 0 Unlocked a7))
    (λ ne.
    ap lock_of (with_others 0 Unlocked a7 p ne) ∙ ap lock_of (with_others 0 (Settled true) a6 p ne) ∙ ap lock_of (with_others 0 (Linked first_temp first_name Done) a5 p ne)
    ∙ ap lock_of (with_others 0 (Synced true) a4 p ne) ∙ ap lock_of (with_others 0 (Made first_temp true) a3 p ne) ∙ ap lock_of (with_others 0 (Listed (Some [])) a2 p ne)
    ∙ ap lock_of (with_others 0 Began a1 p ne) ∙ ap lock_of (with_others 0 (Locked Exclusive true) w0 p ne))
    (numbers_same p 0)

among_names : (n : List ℕ) (f : ℕ) → a9.disk.names n ≡ Some f → Among n names
among_names n f at = ⊎_elim
    (λ is. inr (inl is))
    (λ ne. ⊎_elim
    (λ is. inl is)
    (λ other. absurd (some_none f (sym at ∙ (led_leads first_name (Some 1) a5.disk).others n ne ∙ (led_leads first_temp (Some 1) empty).others n other)))
    (names_same n first_temp))
    (names_same n first_name)

free_first : IsFree a3 first_temp
free_first = record { unnamed = refl; undrawn = λ among. among }

fresh_first : IsFresh a3 1
fresh_first = record { unnamed = none_at 1; unopened = λ p is. zero_one 0 1 is refl refl }

free_second : IsFree a11 second_temp
free_second = record { unnamed = refl; undrawn = undrawn }

fresh_linked : (n : List ℕ) → MayLead a6.disk n (Some 2) → ⊥
fresh_linked = leads_fresh 2 first_name (Some 1) a5.disk a6.disk (led_leads first_name (Some 1) a5.disk) (some_other 1 2 (one_two 1 2 refl refl))
    (leads_fresh 2 first_temp (Some 1) empty a4.disk (led_leads first_temp (Some 1) empty) (some_other 1 2 (one_two 1 2 refl refl)) (none_at 2))

fresh_second : IsFresh a11 2
fresh_second = record { unnamed = unnamed; unopened = λ p is. opened (p == 0) is }
  where
    unnamed : (n : List ℕ) → MayLead a11.disk n (Some 2) → ⊥
    unnamed n (inl is) = fresh_linked n (inl is)
    unnamed n (inr among) = among

pub watches : Run parts events w0 a15
watches = (a14, (a13, (a12, (a11, (a10, (a9, (a8, (a7, (a6, (a5, (a4, (a3, (a2, (a1, (w0, refl, record { in_turn = tt; does = (λ p ne. refl, refl, same_stays 0 (Locked Exclusive true) w0); notes = notes 0 (Locked Exclusive true) w0 a1 (λ p. refl) }), record { in_turn = (Exclusive, refl); does = record { disk = refl; drawn = refl; open_files = λ p. refl; lists = record { own = refl; own_gone = refl; others = λ p ne. refl; others_gone = λ p ne. refl } }; notes = notes 0 (Began) a1 a2 (λ p. refl) }), record { in_turn = tt; does = (λ n f at stays_there. absurd (some_none f (sym at)), refl, same_stays 0 (Listed (Some [])) a2); notes = notes 0 (Listed (Some [])) a2 a3 (λ p. refl) }), record { in_turn = first_no_part; does = made_does 0 first_temp 1 a3 free_first fresh_first refl; notes = notes 0 (Made first_temp true) a3 a4 (λ p. refl) }), record { in_turn = tt; does = inl (refl, synced_does 0 1 a4, stays a4 a5 refl (λ p. refl) (λ p. refl) (λ p. refl)); notes = notes 0 (Synced true) a4 a5 (λ p. refl) }), record { in_turn = (first, refl, refl); does = (linked_does 0 first_temp first_name 1 a5 refl refl, stays a5 a6 refl (λ p. refl) (λ p. refl) (λ p. refl)); notes = notes 0 (Linked first_temp first_name Done) a5 a6 (λ p. refl) }), record { in_turn = refl; does = inl (refl, settled_does 0 a6, stays a6 a7 refl (λ p. refl) (λ p. refl) (λ p. refl)); notes = notes 0 (Settled true) a6 a7 (λ p. refl) }), record { in_turn = tt; does = (refl, same_stays 0 Unlocked a7); notes = notes 0 (Unlocked) a7 a8 (λ p. refl) }), record { in_turn = tt; does = (λ p ne. free8 p, refl, same_stays 1 (Locked Exclusive true) a8); notes = notes 1 (Locked Exclusive true) a8 a9 (λ p. refl) }), record { in_turn = (Exclusive, refl); does = begins_does 1 a9; notes = notes 1 (Began) a9 a10 (λ p. refl) }), record { in_turn = tt; does = (λ n f at stays_there. among_names n f at, refl, same_stays 1 (Listed (Some names)) a10); notes = notes 1 (Listed (Some names)) a10 a11 (λ p. refl) }), record { in_turn = second_no_part; does = made_does 1 second_temp 2 a11 free_second fresh_second refl; notes = notes 1 (Made second_temp true) a11 a12 (λ p. refl) }), record { in_turn = (second_temp, [], refl); does = (filled_does 1 2 second a12, stays a12 a13 refl (λ p. refl) (λ p. refl) (λ p. refl)); notes = notes 1 (Wrote second true) a12 a13 (λ p. refl) }), record { in_turn = tt; does = inl (refl, synced_does 1 2 a13, stays a13 a14 refl (λ p. refl) (λ p. refl) (λ p. refl)); notes = notes 1 (Synced true) a13 a14 (λ p. refl) }), record { in_turn = (second, refl, refl); does = (linked_does 1 second_temp second_name 2 a14 refl refl, stays a14 a15 refl (λ p. refl) (λ p. refl) (λ p. refl)); notes = notes 1 (Linked second_temp second_name Done) a14 a15 (λ p. refl) })

pub fair : IsFair parts events w0 a15 watches
fair = record { order = record { itself = λ a. refl; along = λ c b a x y. refl }; quiet = λ p. refl; distinct = λ a b one other is. same_name a b is }

-- each has placed a part, as the law of two processes asks
pub first_placed : SinceLoss (λ w. HasPlaced parts first [] (w.calls 0)) parts events w0 a15 watches
first_placed = inl (inl (refl, record { listed = refl; alone = refl }))

pub second_placed : SinceLoss (λ w. HasPlaced parts second names (w.calls 1)) parts events w0 a15 watches
second_placed = inl (inl (refl, record { listed = refl; alone = refl }))

-- and the first had put its part before the second listed
pub first_put : BeforeListing (HasPut parts first) 1 parts events w0 a15 watches
unfolding watches
first_put = inl (refl, inr (inl (0, inl (inl refl))))
