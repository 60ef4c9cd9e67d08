-- Two processes that each let the exclusive lock go between their listing and their link, and all else in turn: neither was given the name of
-- the other's part. So the law of two processes needs that lock from the listing to the link.
use Rattle.std.proofs.Common.{◌≡◌, ◌≢◌, inl, inr, ⊎_elim, ℕ, Bool, true, false, ◌==◌, if◌then◌else◌, List, [], ◌∷◌, Option, Some, None, refl, sym, ◌∙◌, ap, arith}
use Rattle.folder_model.specs.Call.{Made, Wrote, Synced, Linked, Settled, Locked, Unlocked, Began, Listed, Exclusive, Done, lock_of}
use Rattle.folder_model.specs.Disk.{Among, Disk, MayLead}
use Rattle.folder_model.specs.Parts.{IsSafe}
use Rattle.folder_model.specs.Turn.{Placed, stage_of, Gave, listing_of, HasPlaced}
use Rattle.folder_model.specs.World.{World, IsFree, IsFresh}
use Rattle.folder_model.specs.Run.{Event, By, Run, SinceLoss, BeforeListing, HasPut}
use Rattle.folder_model.specs.Laws.{IsFair, Lists}
use Rattle.folder_model.proofs.Basics.{some_none, names_same, numbers_same}
use Rattle.folder_model.proofs.Wrong.{calls_with, with_own, with_others, noted, same_stays}
use Rattle.folder_model.proofs.PutWitness.{parts, led, led_leads, empty, stays, same_name, w0}
use Rattle.folder_model.proofs.Worlds.{notes, made, made_does, filled, filled_does, synced, synced_does, linked, linked_does, settled, settled_does, begins, begins_does, leads_fresh, first, second, first_temp, second_temp, first_name, second_name, first_no_part, second_no_part, none_at, some_other, one_two, opened, zero_one, undrawn}

abbrev pub r1 : World
r1 = noted 0 (Locked Exclusive true) w0

abbrev pub r2 : World
r2 = noted 0 Began r1

abbrev pub r3 : World
r3 = noted 0 (Listed (Some [])) r2

abbrev pub r4 : World
r4 = noted 0 Unlocked r3

abbrev pub r5 : World
r5 = noted 1 (Locked Exclusive true) r4

abbrev pub r6 : World
r6 = noted 1 Began r5

abbrev pub r7 : World
r7 = noted 1 (Listed (Some [])) r6

abbrev pub r8 : World
r8 = noted 1 Unlocked r7

abbrev pub r9 : World
r9 = made 0 first_temp 1 r8

abbrev pub r10 : World
r10 = synced 0 1 r9

abbrev pub r11 : World
r11 = linked 0 first_temp first_name 1 r10

abbrev pub r12 : World
r12 = made 1 second_temp 2 r11

abbrev pub r13 : World
r13 = filled 1 2 second r12

abbrev pub r14 : World
r14 = synced 1 2 r13

abbrev pub r15 : World
r15 = linked 1 second_temp second_name 2 r14

abbrev pub events : List Event
events =
    By 1 (Linked second_temp second_name Done) ∷ By 1 (Synced true) ∷ By 1 (Wrote second true) ∷ By 1 (Made second_temp true) ∷ By 0 (Linked first_temp first_name Done) ∷ By 0 (Synced true) ∷ By 0 (Made first_temp true) ∷ By 1 Unlocked ∷ By 1 (Listed (Some [])) ∷ By 1 Began ∷ By 1 (Locked Exclusive true) ∷ By 0 Unlocked ∷ By 0 (Listed (Some [])) ∷ By 0 Began ∷ By 0 (Locked Exclusive true) ∷ []

free4 : (p : ℕ) → lock_of (r4.calls p) ≡ None
free4 p = ⊎_elim
    (λ is. ap (λ (x : ℕ). lock_of (r4.calls x)) is ∙ ap lock_of (with_own 0 Unlocked r3))
    (λ ne. ap lock_of (with_others 0 Unlocked r3 p ne) ∙ ap lock_of (with_others 0 (Listed (Some [])) r2 p ne) ∙ ap lock_of (with_others 0 Began r1 p ne) ∙ ap lock_of (with_others 0 (Locked Exclusive true) w0 p ne))
    (numbers_same p 0)

free_first : IsFree r8 first_temp
free_first = record { unnamed = refl; undrawn = λ among. among }

fresh_first : IsFresh r8 1
fresh_first = record { unnamed = none_at 1; unopened = λ p is. zero_one 0 1 is refl refl }

free_second : IsFree r11 second_temp
free_second = record { unnamed = refl; undrawn = undrawn }

fresh_second : IsFresh r11 2
fresh_second = record {
  unnamed = leads_fresh 2 first_name (Some 1) r10.disk r11.disk (led_leads first_name (Some 1) r10.disk) (some_other 1 2 (one_two 1 2 refl refl))
      (leads_fresh 2 first_temp (Some 1) empty r9.disk (led_leads first_temp (Some 1) empty) (some_other 1 2 (one_two 1 2 refl refl)) (none_at 2));
  unopened = λ p is. opened (p == 0) is;
}

pub race : Run parts events w0 r15
race = (r14, (r13, (r12, (r11, (r10, (r9, (r8, (r7, (r6, (r5, (r4, (r3, (r2, (r1, (w0, refl, record { in_turn = tt; does = (λ p ne. refl, refl, same_stays 0 (Locked Exclusive true) w0); notes = notes 0 (Locked Exclusive true) w0 r1 (λ p. refl) }), record { in_turn = (Exclusive, refl); does = record { disk = refl; drawn = refl; open_files = λ p. refl; lists = record { own = refl; own_gone = refl; others = λ p ne. refl; others_gone = λ p ne. refl } }; notes = notes 0 (Began) r1 r2 (λ p. refl) }), record { in_turn = tt; does = (λ n f at stays_there. absurd (some_none f (sym at)), refl, same_stays 0 (Listed (Some [])) r2); notes = notes 0 (Listed (Some [])) r2 r3 (λ p. refl) }), record { in_turn = tt; does = (refl, same_stays 0 Unlocked r3); notes = notes 0 (Unlocked) r3 r4 (λ p. refl) }), record { in_turn = tt; does = (λ p ne. free4 p, refl, same_stays 1 (Locked Exclusive true) r4); notes = notes 1 (Locked Exclusive true) r4 r5 (λ p. refl) }), record { in_turn = (Exclusive, refl); does = record { disk = refl; drawn = refl; open_files = λ p. refl; lists = record { own = refl; own_gone = refl; others = λ p ne. refl; others_gone = λ p ne. refl } }; notes = notes 1 (Began) r5 r6 (λ p. refl) }), record { in_turn = tt; does = (λ n f at stays_there. absurd (some_none f (sym at)), refl, same_stays 1 (Listed (Some [])) r6); notes = notes 1 (Listed (Some [])) r6 r7 (λ p. refl) }), record { in_turn = tt; does = (refl, same_stays 1 Unlocked r7); notes = notes 1 (Unlocked) r7 r8 (λ p. refl) }), record { in_turn = first_no_part; does = made_does 0 first_temp 1 r8 free_first fresh_first refl; notes = notes 0 (Made first_temp true) r8 r9 (λ p. refl) }), record { in_turn = tt; does = inl (refl, synced_does 0 1 r9, stays r9 r10 refl (λ p. refl) (λ p. refl) (λ p. refl)); notes = notes 0 (Synced true) r9 r10 (λ p. refl) }), record { in_turn = (first, refl, refl); does = (linked_does 0 first_temp first_name 1 r10 refl refl, stays r10 r11 refl (λ p. refl) (λ p. refl) (λ p. refl)); notes = notes 0 (Linked first_temp first_name Done) r10 r11 (λ p. refl) }), record { in_turn = second_no_part; does = made_does 1 second_temp 2 r11 free_second fresh_second refl; notes = notes 1 (Made second_temp true) r11 r12 (λ p. refl) }), record { in_turn = (second_temp, [], refl); does = (filled_does 1 2 second r12, stays r12 r13 refl (λ p. refl) (λ p. refl) (λ p. refl)); notes = notes 1 (Wrote second true) r12 r13 (λ p. refl) }), record { in_turn = tt; does = inl (refl, synced_does 1 2 r13, stays r13 r14 refl (λ p. refl) (λ p. refl) (λ p. refl)); notes = notes 1 (Synced true) r13 r14 (λ p. refl) }), record { in_turn = (second, refl, refl); does = (linked_does 1 second_temp second_name 2 r14 refl refl, stays r14 r15 refl (λ p. refl) (λ p. refl) (λ p. refl)); notes = notes 1 (Linked second_temp second_name Done) r14 r15 (λ p. refl) })

pub fair : IsFair parts events w0 r15 race
fair = record { order = record { itself = λ a. refl; along = λ c b a x y. refl }; quiet = λ p. refl; distinct = λ a b one other is. same_name a b is }

-- both have listed, and then linked
pub both_placed : (stage_of parts (r15.calls 0) ≡ Placed first) × (listing_of (r15.calls 0) ≡ Gave []) × (stage_of parts (r15.calls 1) ≡ Placed second) × (listing_of (r15.calls 1) ≡ Gave [])
both_placed = (refl, refl, refl, refl)

-- and neither was given the name of the other's part
pub neither_listed : (Lists parts [] first → ⊥) × (Lists parts [] second → ⊥)
neither_listed = (λ lists. lists.1, λ lists. lists.1)
