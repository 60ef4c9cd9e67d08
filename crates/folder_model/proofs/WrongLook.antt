-- A look under the lock that reads and compares the part, and syncs the folder but not the part's file: another pack may have removed
-- it, and somebody else may have brought it back unsynced.
use Rattle.std.proofs.Common.{◌≡◌, ◌≢◌, inl, inr, ⊎_elim, ℕ, true, false, ◌==◌, if◌then◌else◌, List, [], ◌∷◌, Some, None, refl, sym, ◌∙◌, ap, arith}
use Rattle.std.specs.Str.{bytes_eq}
use Rattle.std.proofs.lemmas.Bool.{cond-true, cond-false, ne_eqb, eq-eqb}
use Rattle.folder_model.specs.Call.{Call, Removed, Settled, Locked, Read, Exclusive, lock_of}
use Rattle.folder_model.specs.Disk.{Disk, MayLead}
use Rattle.folder_model.specs.Parts.{IsHeld, IsSafe}
use Rattle.folder_model.specs.Turn.{InTurn, HasRead, Seen, stage_of}
use Rattle.folder_model.specs.World.{World}
use Rattle.folder_model.specs.Run.{Event, By, Comes, PowerLost, Comings, Losses, IsQuiet}
use Rattle.folder_model.proofs.Basics.{some_none, some_same, true_false, same_bytes, other_bytes, names_same, numbers_same}
use Rattle.folder_model.proofs.Wrong.{parts, pack, less, two_one, calls_with, with_others, noted, finds, removes, same_stays, noted_notes, finds_does, removes_does, none_locked, unlocked_by}
use Rattle.folder_model.proofs.WrongListing.{RunsUnder}

-- the part that covers was read under the lock and compared, and its file isn't synced
pub record MayGoUnsynced (calls : List Call) (name : List ℕ) : Type 0 where
  pub joined : List ℕ
  pub packed : List ℕ
  pub named : name ≡ parts.name_of joined
  pub read : HasRead parts joined calls
  pub seen : stage_of parts calls ≡ Seen packed
  pub lock : lock_of calls ≡ Some Exclusive
  pub apart : parts.name_of packed ≢ name
  pub covers : parts.covers packed joined ≡ true

abbrev pub Unsynced : List Call → Call → Type 0
Unsynced calls (Removed name ok) = MayGoUnsynced calls name
Unsynced calls call = InTurn parts calls call

abbrev one : Disk
one = record {
  names = λ n. if bytes_eq n less then Some 1 else None;
  earlier = λ n. [];
  contents = λ f. if f == 2 then pack else less;
  is_synced = λ f. if f == 2 then false else true;
}

abbrev two : Disk
two = record one { names = λ n. if bytes_eq n pack then Some 2 else one.names n; earlier = λ n. if bytes_eq n pack then None ∷ [] else [] }

abbrev pub x0 : World
x0 = record { disk = one; drawn = []; mine = λ p. 0; began = λ p. one; gone = λ p. []; calls = λ p. [] }

abbrev x1 : World
x1 = record x0 { disk = two }

abbrev x2 : World
x2 = finds 0 less 1 x1

abbrev x3 : World
x3 = noted 0 (Locked Exclusive true) x2

abbrev x4 : World
x4 = finds 0 pack 2 x3

abbrev x5 : World
x5 = record x4 { disk = record two { earlier = λ n. [] }; calls = calls_with 0 (Settled true) x4 }

abbrev x6 : World
x6 = removes 0 less x5

abbrev x7 : World
x7 = record x6 { disk = record x6.disk { earlier = λ n. [] }; calls = calls_with 0 (Settled true) x6 }

abbrev pub x8 : World
x8 = record x7 { disk = record x7.disk { contents = λ f. if f == 2 then 9 ∷ [] else less; is_synced = λ f. true }; calls = λ p. [] }

abbrev pub events : List Event
events =
    PowerLost ∷ By 0 (Settled true) ∷ By 0 (Removed less true) ∷ By 0 (Settled true) ∷ By 0 (Read pack (Some (Some pack)))
    ∷ By 0 (Locked Exclusive true) ∷ By 0 (Read less (Some (Some less))) ∷ Comes pack pack ∷ []

only_less : (n : List ℕ) (f : ℕ) → one.names n ≡ Some f → n ≡ less
only_less n f at = ⊎_elim
    (λ is. is)
    (λ ne. absurd (some_none f (sym at ∙ cond-false (bytes_eq n less) (Some 1) None (other_bytes n less ne))))
    (names_same n less)

one_two : (a b : ℕ) → a ≡ b → a ≡ 1 → b ≡ 2 → ⊥
one_two a b is first second = omega (arith, is, first, second)

zero_two : (a b : ℕ) → a ≡ b → a ≡ 0 → b ≡ 2 → ⊥
zero_two a b is first second = omega (arith, is, first, second)

not_two : (n : List ℕ) → one.names n ≡ Some 2 → ⊥
not_two n at =
    let is = only_less n 2 at in
    one_two 1 2 (some_same 1 2 (sym (cond-true (bytes_eq n less) (Some 1) None (ap (λ (x : List ℕ). bytes_eq x less) is ∙ same_bytes less)) ∙ at)) refl refl

comes : Comings pack pack x0 x1
comes = record {
  file = 2;
  free = record { unnamed = refl; undrawn = λ among. among };
  fresh = record { unnamed = unnamed; unopened = λ p is. zero_two 0 2 is refl refl };
  disk = (
    one,
    record { names = λ n. refl; earlier = λ n. refl; own = refl; others = λ f ne. refl; synced = λ f ne. refl },
    record {
      own = refl;
      before = refl;
      others = λ n ne. cond-false (bytes_eq n pack) (Some 2) (one.names n) (other_bytes n pack ne);
      others_before = λ n ne. cond-false (bytes_eq n pack) (None ∷ []) [] (other_bytes n pack ne);
      contents = λ f. refl;
      synced = λ f. refl;
    },
  );
  stays = record { drawn = refl; open_files = λ p. refl; lists = record { began = λ p. refl; gone = λ p. refl } };
  calls = λ p. refl;
}
  where
    unnamed : (n : List ℕ) → MayLead x0.disk n (Some 2) → ⊥
    unnamed n (inl is) = not_two n (sym is)
    unnamed n (inr among) = among

free2 : none_locked x2
free2 = unlocked_by 0 (Read less (Some (Some less))) x1 (λ p. refl) refl

lost : Losses x7 x8
lost = record {
  disk = record {
    names = λ n. inl refl;
    earlier = λ n. refl;
    contents = λ f is. ⊎_elim
        (λ two_is. absurd (true_false (sym is ∙ cond-true (f == 2) false true (eq-eqb f 2 two_is))))
        (λ ne. cond-false (f == 2) (9 ∷ []) less (ne_eqb f 2 ne) ∙ sym (cond-false (f == 2) pack less (ne_eqb f 2 ne)))
        (numbers_same f 2);
    synced = λ f. refl;
  };
  drawn = refl;
  calls = λ p. refl;
}

run : RunsUnder Unsynced events x0 x8
run = (
  x7,
  (
    x6,
    (
      x5,
      (
        x4,
        (
          x3,
          (
            x2,
            (
              x1,
              (
                x0,
                refl,
                comes,
              ),
              tt,
              finds_does 0 less 1 x1 refl,
              record { own = refl; others = λ p ne. with_others 0 (Read less (Some (Some less))) x1 p ne },
            ),
            tt,
            (λ p ne. free2 p, refl, same_stays 0 (Locked Exclusive true) x2),
            noted_notes 0 (Locked Exclusive true) x2,
          ),
          tt,
          finds_does 0 pack 2 x3 refl,
          record { own = refl; others = λ p ne. with_others 0 (Read pack (Some (Some pack))) x3 p ne },
        ),
        refl,
        inl (refl, record { names = λ n. refl; earlier = λ n. refl; contents = λ f. refl; synced = λ f. refl }, record { drawn = refl; open_files = λ p. refl; lists = record { began = λ p. refl; gone = λ p. refl } }),
        record { own = refl; others = λ p ne. with_others 0 (Settled true) x4 p ne },
      ),
      record { joined = less; packed = pack; named = refl; read = inr (inl (refl, refl)); seen = refl; lock = refl; apart = λ is. two_one (sym is); covers = refl },
      removes_does 0 less x5,
      record { own = refl; others = λ p ne. with_others 0 (Removed less true) x5 p ne },
    ),
    refl,
    inl (refl, record { names = λ n. refl; earlier = λ n. refl; contents = λ f. refl; synced = λ f. refl }, record { drawn = refl; open_files = λ p. refl; lists = record { began = λ p. refl; gone = λ p. refl } }),
    record { own = refl; others = λ p ne. with_others 0 (Settled true) x6 p ne },
  ),
  lost,
)

safe_first : IsSafe parts x0.disk less
safe_first names may = (less, 1, at (may less), refl, refl, refl)
  where
    at : MayLead x0.disk less (names less) → names less ≡ Some 1
    at (inl is) = is
    at (inr among) = absurd among

other : (9 ∷ []) ≡ pack → ⊥
other is = cc

-- no part is left
none_there : (n : List ℕ) (f : ℕ) → x8.disk.names n ≡ Some f → x8.disk.contents f ≡ n → ⊥
none_there n f at holds = ⊎_elim
    (λ is. some_none f (sym at ∙ cond-true (bytes_eq n less) None (two.names n) (ap (λ (x : List ℕ). bytes_eq x less) is ∙ same_bytes less)))
    (λ ne. ⊎_elim
    (λ is.
    let here : Some 2 ≡ Some f = sym (cond-true (bytes_eq n pack) (Some 2) (one.names n) (ap (λ (x : List ℕ). bytes_eq x pack) is ∙ same_bytes pack)) ∙ sym (cond-false (bytes_eq n less) None (two.names n) (other_bytes n less ne)) ∙ at in
    other (ap x8.disk.contents (some_same 2 f here) ∙ holds ∙ is))
    (λ another. ne (only_less n f (sym (cond-false (bytes_eq n pack) (Some 2) (one.names n) (other_bytes n pack another)) ∙ sym (cond-false (bytes_eq n less) None (two.names n) (other_bytes n less ne)) ∙ at)))
    (names_same n pack))
    (names_same n less)

-- What was safe is lost.
pub looked_without_its_sync : IsQuiet x0 × IsSafe parts x0.disk less × RunsUnder Unsynced events x0 x8 × (IsHeld parts x8.disk less → ⊥)
looked_without_its_sync = (λ p. refl, safe_first, run, λ (held : IsHeld parts x8.disk less). none_there held.0 held.1 held.2 held.3)
