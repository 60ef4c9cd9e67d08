-- The premises can be met: a run from a quiet folder, in turn, in which a part is removed.
use Rattle.std.proofs.Common.{◌≡◌, ◌≢◌, inl, inr, ℕ, true, List, [], ◌∷◌, Some, None, refl, sym, ap}
use Rattle.folder_model.specs.Call.{Synced, Removed, Settled, Locked, Read, Exclusive, lock_of}
use Rattle.folder_model.specs.Parts.{IsSafe}
use Rattle.folder_model.specs.Turn.{IsGone}
use Rattle.folder_model.specs.World.{World}
use Rattle.folder_model.specs.Run.{Event, By, Run}
use Rattle.folder_model.specs.Laws.{IsFair}
use Rattle.folder_model.proofs.Wrong.{parts, order, pack, less, w0, calls_with, with_others, noted, finds, removes, same_stays, noted_notes, finds_does, removes_does, syncs_calm, settles_calm, calm, two_one}
use Rattle.folder_model.proofs.All.{folder_model_laws}

abbrev v1 : World
v1 = finds 0 less 1 w0

abbrev v2 : World
v2 = noted 0 (Locked Exclusive true) v1

abbrev v3 : World
v3 = finds 0 pack 0 v2

abbrev v4 : World
v4 = noted 0 (Synced true) v3

abbrev v5 : World
v5 = noted 0 (Settled true) v4

abbrev v6 : World
v6 = removes 0 less v5

abbrev pub events : List Event
events = By 0 (Removed less true) ∷ By 0 (Settled true) ∷ By 0 (Synced true) ∷ By 0 (Read pack (Some (Some pack))) ∷ By 0 (Locked Exclusive true) ∷ By 0 (Read less (Some (Some less))) ∷ []

pub packs : Run parts events w0 v6
packs = (
  v5,
  (
    v4,
    (
      v3,
      (
        v2,
        (
          v1,
          (
            w0,
            refl,
            record { in_turn = tt; does = finds_does 0 less 1 w0 refl; notes = record { own = refl; others = λ p ne. with_others 0 (Read less (Some (Some less))) w0 p ne } },
          ),
          record { in_turn = tt; does = (λ p ne. others p ne, refl, same_stays 0 (Locked Exclusive true) v1); notes = noted_notes 0 (Locked Exclusive true) v1 },
        ),
        record { in_turn = tt; does = finds_does 0 pack 0 v2 refl; notes = record { own = refl; others = λ p ne. with_others 0 (Read pack (Some (Some pack))) v2 p ne } },
      ),
      record { in_turn = tt; does = inl (refl, syncs_calm 0 w0 calm, same_stays 0 (Synced true) v3); notes = noted_notes 0 (Synced true) v3 },
    ),
    record { in_turn = refl; does = inl (refl, settles_calm w0 calm, same_stays 0 (Settled true) v4); notes = noted_notes 0 (Settled true) v4 },
  ),
  record {
    in_turn = inr (record { joined = less; packed = pack; named = refl; read = inr (inl (refl, refl)); guarded = refl; apart = λ is. two_one (sym is); covers = refl });
    does = removes_does 0 less v5;
    notes = record { own = refl; others = λ p ne. with_others 0 (Removed less true) v5 p ne };
  },
)
  where
    others : (p : ℕ) → p ≢ 0 → lock_of (v1.calls p) ≡ None
    others p ne = ap lock_of (with_others 0 (Read less (Some (Some less))) w0 p ne)

pub fair : IsFair parts events w0 v6 packs
fair = record { order = order; quiet = λ p. refl; distinct = λ a b first second is. is }

-- ---- what it has removed is gone

abbrev v7 : World
v7 = noted 0 (Read less (Some None)) v6

abbrev pub v8 : World
v8 = record v7 { disk = record v7.disk { earlier = λ n. [] }; calls = calls_with 0 (Settled true) v7 }

abbrev pub more : List Event
more = By 0 (Settled true) ∷ By 0 (Read less (Some None)) ∷ events

pub misses : Run parts more w0 v8
misses = (
  v7,
  (
    v6,
    packs,
    record { in_turn = tt; does = (refl, refl, same_stays 0 (Read less (Some None)) v6); notes = noted_notes 0 (Read less (Some None)) v6 },
  ),
  record {
    in_turn = refl;
    does = inl (refl, record { names = λ n. refl; earlier = λ n. refl; contents = λ f. refl; synced = λ f. refl }, record { drawn = refl; open_files = λ p. refl; lists = record { began = λ p. refl; gone = λ p. refl } });
    notes = record { own = refl; others = λ p ne. with_others 0 (Settled true) v7 p ne };
  },
)

pub fair_more : IsFair parts more w0 v8 misses
fair_more = record { order = order; quiet = λ p. refl; distinct = λ a b first second is. is }

-- it has read that part, and found it gone, and synced the folder after that
pub is_gone : IsGone parts less (v8.calls 0)
is_gone = inl (inl (refl, inr (inl (refl, refl))))

-- so it is safe, by the laws
pub gone_safe : IsSafe parts v8.disk less
gone_safe = folder_model_laws.gone parts more w0 v8 misses fair_more 0 less (inl is_gone)
