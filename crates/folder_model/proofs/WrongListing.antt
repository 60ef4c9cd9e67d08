-- A listing that is begun without the lock, and all else in turn: a reader misses what was safe.
use Rattle.std.proofs.Common.{◌≡◌, inl, inr, ⊎_elim, ℕ, true, ◌==◌, if◌then◌else◌, List, [], ◌∷◌, Some, None, refl, sym, ◌∙◌, ap, arith}
use Rattle.std.specs.Str.{bytes_eq}
use Rattle.std.proofs.lemmas.Bool.{cond-true, cond-false}
use Rattle.folder_model.specs.Call.{Call, Synced, Removed, Settled, Locked, Began, Listed, Read, Exclusive}
use Rattle.folder_model.specs.Disk.{Disk, MayLead}
use Rattle.folder_model.specs.Parts.{IsSafe}
use Rattle.folder_model.specs.Turn.{InTurn, HasReadAll, HasReadSince}
use Rattle.folder_model.specs.World.{World, Does, Notes}
use Rattle.folder_model.specs.Run.{Event, By, Comes, Comings, Happens, IsQuiet}
use Rattle.folder_model.specs.Laws.{Lists}
use Rattle.folder_model.proofs.Basics.{some_none, some_same, same_bytes, other_bytes, names_same}
use Rattle.folder_model.proofs.Wrong.{parts, pack, less, two_one, calls_with, with_others, noted, finds, removes, same_stays, noted_notes, finds_does, removes_does, none_locked, unlocked_by}

-- the protocol, but that a listing may begin without a lock
abbrev pub Unlocked : List Call → Call → Type 0
Unlocked calls Began = Unit {0}
Unlocked calls call = InTurn parts calls call

abbrev pub RunsUnder : (List Call → Call → Type 0) → List Event → World → World → Type 0
RunsUnder rule [] d e = e ≡ d
RunsUnder rule (By p call ∷ earlier) d e = (v : World) × RunsUnder rule earlier d v × rule (v.calls p) call × Does p call v e × Notes p call v e
RunsUnder rule (event ∷ earlier) d e = (v : World) × RunsUnder rule earlier d v × Happens parts event v e

abbrev one : Disk
one = record {
  names = λ n. if bytes_eq n less then Some 1 else None;
  earlier = λ n. [];
  contents = λ f. if f == 2 then pack else less;
  is_synced = λ f. true;
}

abbrev two : Disk
two = record one { names = λ n. if bytes_eq n pack then Some 2 else one.names n; earlier = λ n. if bytes_eq n pack then None ∷ [] else [] }

abbrev pub x0 : World
x0 = record { disk = one; drawn = []; mine = λ p. 0; began = λ p. one; gone = λ p. []; calls = λ p. [] }

abbrev x1 : World
x1 = noted 1 Began x0

abbrev x2 : World
x2 = record x1 { disk = two }

abbrev x3 : World
x3 = finds 0 less 1 x2

abbrev x4 : World
x4 = noted 0 (Locked Exclusive true) x3

abbrev x5 : World
x5 = finds 0 pack 2 x4

abbrev x6 : World
x6 = noted 0 (Synced true) x5

abbrev x7 : World
x7 = record x6 { disk = record two { earlier = λ n. [] }; calls = calls_with 0 (Settled true) x6 }

abbrev x8 : World
x8 = removes 0 less x7

abbrev pub x9 : World
x9 = noted 1 (Listed (Some [])) x8

abbrev pub events : List Event
events =
    By 1 (Listed (Some [])) ∷ By 0 (Removed less true) ∷ By 0 (Settled true) ∷ By 0 (Synced true) ∷ By 0 (Read pack (Some (Some pack)))
    ∷ By 0 (Locked Exclusive true) ∷ By 0 (Read less (Some (Some less))) ∷ Comes pack pack ∷ By 1 Began ∷ []

only_less : (n : List ℕ) (f : ℕ) → one.names n ≡ Some f → n ≡ less
only_less n f at = ⊎_elim
    (λ is. is)
    (λ ne. absurd (some_none f (sym at ∙ cond-false (bytes_eq n less) (Some 1) None (other_bytes n less ne))))
    (names_same n less)

not_two : (n : List ℕ) → one.names n ≡ Some 2 → ⊥
not_two n at =
    let is = only_less n 2 at in
    let e = some_same 1 2 (sym (cond-true (bytes_eq n less) (Some 1) None (ap (λ (x : List ℕ). bytes_eq x less) is ∙ same_bytes less)) ∙ at) in
    clash 1 2 e refl refl
  where
    clash : (a b : ℕ) → a ≡ b → a ≡ 1 → b ≡ 2 → ⊥
    clash a b is first second = omega (arith, is, first, second)

comes : Comings pack pack x1 x2
comes = record {
  file = 2;
  free = record { unnamed = refl; undrawn = λ among. among };
  fresh = record { unnamed = unnamed; unopened = λ p is. clash 0 2 is refl refl };
  disk = (
    one,
    record { names = λ n. refl; earlier = λ n. refl; own = refl; others = λ f ne. refl; synced = λ f ne. refl },
    record {
      own = refl;
      before = refl;
      others = λ n ne. cond-false (bytes_eq n pack) (Some 2) (one.names n) (other_bytes n pack ne);
      others_before = λ n ne. cond-false (bytes_eq n pack) (None ∷ []) [] (other_bytes n pack ne);
      contents = λ f. refl;
      synced = λ f. refl;
    },
  );
  stays = record { drawn = refl; open_files = λ p. refl; lists = record { began = λ p. refl; gone = λ p. refl } };
  calls = λ p. refl;
}
  where
    clash : (a b : ℕ) → a ≡ b → a ≡ 0 → b ≡ 2 → ⊥
    clash a b is first second = omega (arith, is, first, second)

    unnamed : (n : List ℕ) → MayLead x1.disk n (Some 2) → ⊥
    unnamed n (inl is) = not_two n (sym is)
    unnamed n (inr among) = among

free3 : none_locked x3
free3 = unlocked_by 0 (Read less (Some (Some less))) x2 (unlocked_by 1 Began x0 (λ p. refl) refl) refl

run : RunsUnder Unlocked events x0 x9
run = (
  x8,
  (
    x7,
    (
      x6,
      (
        x5,
        (
          x4,
          (
            x3,
            (
              x2,
              (
                x1,
                (
                  x0,
                  refl,
                  tt,
                  record { disk = refl; drawn = refl; open_files = λ p. refl; lists = record { own = refl; own_gone = refl; others = λ p ne. refl; others_gone = λ p ne. refl } },
                  noted_notes 1 Began x0,
                ),
                comes,
              ),
              tt,
              finds_does 0 less 1 x2 refl,
              record { own = refl; others = λ p ne. with_others 0 (Read less (Some (Some less))) x2 p ne },
            ),
            tt,
            (λ p ne. free3 p, refl, same_stays 0 (Locked Exclusive true) x3),
            noted_notes 0 (Locked Exclusive true) x3,
          ),
          tt,
          finds_does 0 pack 2 x4 refl,
          record { own = refl; others = λ p ne. with_others 0 (Read pack (Some (Some pack))) x4 p ne },
        ),
        tt,
        inl (refl, record { names = λ n. refl; earlier = λ n. refl; contents = λ f. refl; own = refl; others = λ f ne. refl }, same_stays 0 (Synced true) x5),
        noted_notes 0 (Synced true) x5,
      ),
      refl,
      inl (refl, record { names = λ n. refl; earlier = λ n. refl; contents = λ f. refl; synced = λ f. refl }, record { drawn = refl; open_files = λ p. refl; lists = record { began = λ p. refl; gone = λ p. refl } }),
      record { own = refl; others = λ p ne. with_others 0 (Settled true) x6 p ne },
    ),
    inr (record { joined = less; packed = pack; named = refl; read = inr (inl (refl, refl)); guarded = refl; apart = λ is. two_one (sym is); covers = refl }),
    removes_does 0 less x7,
    record { own = refl; others = λ p ne. with_others 0 (Removed less true) x7 p ne },
  ),
  tt,
  (λ n f at stays. absurd (stays (inl (only_less n f at))), refl, same_stays 1 (Listed (Some [])) x8),
  noted_notes 1 (Listed (Some [])) x8,
)

safe_first : IsSafe parts x0.disk less
safe_first names may = (less, 1, at (may less), refl, refl, refl)
  where
    at : MayLead x0.disk less (names less) → names less ≡ Some 1
    at (inl is) = is
    at (inr among) = absurd among

-- The reader has read all that its listing gave, which is nothing; and what was safe all the time isn't among it, nor was its name listed.
pub listed_without_the_lock : IsQuiet x0 × IsSafe parts x0.disk less × RunsUnder Unlocked events x0 x9 × HasReadAll parts (x9.calls 1) × ((b : List ℕ) → HasReadSince parts b (x9.calls 1) → ⊥) × (Lists parts [] less → ⊥)
listed_without_the_lock = (λ p. refl, safe_first, run, record { names = []; listed = refl; each = λ b among. absurd among }, λ b has. has, λ lists. lists.1)
