-- A run from an empty folder, in turn, in which a part is put: so it can be stored.
use Rattle.std.proofs.Common.{◌≡◌, inl, inr, ℕ, true, false, ◌==◌, if◌then◌else◌, List, [], ◌∷◌, Option, Some, None, refl, arith}
use Rattle.std.specs.Str.{bytes_eq}
use Rattle.std.proofs.lemmas.Bool.{cond-true, cond-false, ne_eqb}
use Rattle.folder_model.specs.Call.{Made, Wrote, Synced, Linked, Removed, Settled, Done}
use Rattle.folder_model.specs.Disk.{Disk, Leads, Fills, Syncs, Settles, MayLead}
use Rattle.folder_model.specs.Parts.{Parts, IsNoPart, IsSafe}
use Rattle.folder_model.specs.World.{World, Stays, Makes, Removes}
use Rattle.folder_model.specs.Run.{Event, By, Run}
use Rattle.folder_model.specs.Laws.{IsFair}
use Rattle.folder_model.proofs.Basics.{same_bytes, other_bytes, some_none}
use Rattle.folder_model.proofs.Wrong.{calls_with, with_others}
use Rattle.folder_model.proofs.All.{folder_model_laws}

-- a part's name is its bytes with a one before them; it covers all
abbrev pub parts : Parts
parts = record { name_of = λ b. 1 ∷ b; covers = λ b a. true }

abbrev bytes : List ℕ
bytes = 5 ∷ []

abbrev temp : List ℕ
temp = []

abbrev name : List ℕ
name = 1 ∷ 5 ∷ []

no_part : IsNoPart parts temp
no_part b is = cc

-- one name changes
abbrev pub led : List ℕ → Option ℕ → Disk → Disk
led n entry d = record d { names = λ m. if bytes_eq m n then entry else d.names m; earlier = λ m. if bytes_eq m n then d.names n ∷ d.earlier n else d.earlier m }

pub led_leads : (n : List ℕ) (entry : Option ℕ) (d : Disk) → Leads n entry d (led n entry d)
led_leads n entry d = record {
  own = cond-true _ entry (d.names n) (same_bytes n);
  before = cond-true _ (d.names n ∷ d.earlier n) (d.earlier n) (same_bytes n);
  others = λ m ne. cond-false _ entry (d.names m) (other_bytes m n ne);
  others_before = λ m ne. cond-false _ (d.names n ∷ d.earlier n) (d.earlier m) (other_bytes m n ne);
  contents = λ f. refl;
  synced = λ f. refl;
}

abbrev pub empty : Disk
empty = record { names = λ n. None; earlier = λ n. []; contents = λ f. []; is_synced = λ f. false }

abbrev pub w0 : World
w0 = record { disk = empty; drawn = []; mine = λ p. 0; began = λ p. empty; gone = λ p. []; calls = λ p. [] }

abbrev w1 : World
w1 = record w0 { disk = led temp (Some 1) empty; drawn = temp ∷ []; mine = λ p. if p == 0 then 1 else 0; calls = calls_with 0 (Made temp true) w0 }

abbrev w2 : World
w2 = record w1 { disk = record w1.disk { contents = λ f. if f == 1 then bytes else [] }; calls = calls_with 0 (Wrote bytes true) w1 }

abbrev w3 : World
w3 = record w2 { disk = record w2.disk { is_synced = λ f. if f == 1 then true else false }; calls = calls_with 0 (Synced true) w2 }

abbrev w4 : World
w4 = record w3 { disk = led name (Some 1) w3.disk; calls = calls_with 0 (Linked temp name Done) w3 }

abbrev w5 : World
w5 = record w4 { disk = led temp None w4.disk; gone = λ p. temp ∷ w4.gone p; calls = calls_with 0 (Removed temp true) w4 }

abbrev w6 : World
w6 = record w5 { disk = record w5.disk { earlier = λ n. [] }; calls = calls_with 0 (Settled true) w5 }

pub stays : (d e : World) → e.drawn ≡ d.drawn → ((p : ℕ) → e.mine p ≡ d.mine p) → ((p : ℕ) → e.began p ≡ d.began p) → ((p : ℕ) → e.gone p ≡ d.gone p) → Stays d e
stays d e drawn mine began gone = record { drawn = drawn; open_files = mine; lists = record { began = began; gone = gone } }

makes : Makes 0 temp w0 w1
makes = record {
  file = 1;
  free = record { unnamed = refl; undrawn = λ among. among };
  fresh = record { unnamed = unnamed; unopened = λ p is. zero_one 0 1 is refl refl };
  disk = (empty, record { names = λ n. refl; earlier = λ n. refl; own = refl; others = λ f ne. refl; synced = λ f ne. refl }, led_leads temp (Some 1) empty);
  drawn = refl;
  open_files = record { own = refl; others = λ p ne. cond-false (p == 0) 1 0 (ne_eqb p 0 ne) };
  lists = record { began = λ p. refl; gone = λ p. refl };
}
  where
    zero_one : (a b : ℕ) → a ≡ b → a ≡ 0 → b ≡ 1 → ⊥
    zero_one a b is zero one = omega (arith, is, zero, one)

    unnamed : (n : List ℕ) → MayLead w0.disk n (Some 1) → ⊥
    unnamed n (inl is) = some_none 1 is
    unnamed n (inr among) = among

wrote : Fills 1 bytes w1.disk w2.disk
wrote = record { names = λ n. refl; earlier = λ n. refl; own = refl; others = λ f ne. cond-false (f == 1) bytes [] (ne_eqb f 1 ne); synced = λ f ne. refl }

synced : Syncs 1 w2.disk w3.disk
synced = record { names = λ n. refl; earlier = λ n. refl; contents = λ f. refl; own = refl; others = λ f ne. cond-false (f == 1) true false (ne_eqb f 1 ne) }

removed : Removes temp w4 w5
removed = record { disk = led_leads temp None w4.disk; drawn = refl; open_files = λ p. refl; lists = record { began = λ p. refl; gone = λ p. refl } }

settles : Settles w5.disk w6.disk
settles = record { names = λ n. refl; earlier = λ n. refl; contents = λ f. refl; synced = λ f. refl }

abbrev events : List Event
events = By 0 (Settled true) ∷ By 0 (Removed temp true) ∷ By 0 (Linked temp name Done) ∷ By 0 (Synced true) ∷ By 0 (Wrote bytes true) ∷ By 0 (Made temp true) ∷ []

pub puts : Run parts events w0 w6
puts = (
  w5,
  (
    w4,
    (
      w3,
      (
        w2,
        (
          w1,
          (
            w0,
            refl,
            record { in_turn = no_part; does = makes; notes = record { own = refl; others = λ p ne. with_others 0 (Made temp true) w0 p ne } },
          ),
          record { in_turn = (temp, [], refl); does = (wrote, stays w1 w2 refl (λ p. refl) (λ p. refl) (λ p. refl)); notes = record { own = refl; others = λ p ne. with_others 0 (Wrote bytes true) w1 p ne } },
        ),
        record { in_turn = tt; does = inl (refl, synced, stays w2 w3 refl (λ p. refl) (λ p. refl) (λ p. refl)); notes = record { own = refl; others = λ p ne. with_others 0 (Synced true) w2 p ne } },
      ),
      record { in_turn = (bytes, refl, refl); does = ((1, refl, refl, led_leads name (Some 1) w3.disk), stays w3 w4 refl (λ p. refl) (λ p. refl) (λ p. refl)); notes = record { own = refl; others = λ p ne. with_others 0 (Linked temp name Done) w3 p ne } },
    ),
    record { in_turn = inl no_part; does = removed; notes = record { own = refl; others = λ p ne. with_others 0 (Removed temp true) w4 p ne } },
  ),
  record { in_turn = refl; does = inl (refl, settles, stays w5 w6 refl (λ p. refl) (λ p. refl) (λ p. refl)); notes = record { own = refl; others = λ p ne. with_others 0 (Settled true) w5 p ne } },
)

pub same_name : (a b : List ℕ) → 1 ∷ a ≡ 1 ∷ b → a ≡ b
same_name a b is = cc

pub fair : IsFair parts events w0 w6 puts
fair = record { order = record { itself = λ a. refl; along = λ c b a x y. refl }; quiet = λ p. refl; distinct = λ a b first second is. same_name a b is }

-- so these bytes are safe, by the laws
pub put_safe : IsSafe parts w6.disk bytes
put_safe = folder_model_laws.put parts events w0 w6 puts fair bytes (inl (0, inl (inl refl)))
