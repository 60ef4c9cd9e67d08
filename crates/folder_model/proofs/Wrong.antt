-- Histories that break a rule of the protocol, and lose: so the rules are needed.
use Rattle.std.proofs.Common.{◌≡◌, ◌≢◌, inl, inr, ⊎_elim, ℕ, true, false, ◌==◌, if◌then◌else◌, List, [], ◌∷◌, Option, Some, None, refl, sym, ◌∙◌, ap, subst}
use Rattle.std.specs.Str.{bytes_eq}
use Rattle.std.proofs.lemmas.Bool.{cond-true, cond-false, eq-eqb, ne_eqb}
use Rattle.folder_model.specs.Call.{Call, Synced, Removed, Settled, Locked, Unlocked, Listed, Read, Kind, Exclusive, lock_of, lock_after}
use Rattle.folder_model.specs.Disk.{Among, Disk, Names, MayLead, MayLeave, Leads, Syncs, Settles, Restarts}
use Rattle.folder_model.specs.Parts.{Parts, IsOrder, IsHeld, IsSafe}
use Rattle.folder_model.specs.Turn.{Stored, stage_of, HasRead, IsGone, InTurn}
use Rattle.folder_model.specs.World.{World, Stays, Notes, Removes, Finds, Does}
use Rattle.folder_model.specs.Run.{IsQuiet}
use Rattle.folder_model.proofs.Basics.{some_none, same_bytes, other_bytes, names_same, numbers_same}

-- calls by processes under another rule
pub record CallsBy (rule : List Call → Call → Type 0) (p : ℕ) (call : Call) (d e : World) : Type 0 where
  pub in_turn : rule (d.calls p) call
  pub does : Does p call d e
  pub notes : Notes p call d e

abbrev pub RunsBy : (List Call → Call → Type 0) → List (ℕ × Call) → World → World → Type 0
RunsBy rule [] d e = e ≡ d
RunsBy rule (call ∷ earlier) d e = (v : World) × RunsBy rule earlier d v × CallsBy rule call.0 call.1 v e

-- each part is named by its bytes themselves, and covers every other: as two files do of which one is the other after a forget
abbrev pub parts : Parts
parts = record { name_of = λ b. b; covers = λ b a. true }

pub order : IsOrder parts
order = record { itself = λ a. refl; along = λ c b a x y. refl }

-- The rule without the look under the lock: a part may be removed under the exclusive lock once another one that covers it was stored.
pub record MayGoUnlooked (calls : List Call) (name : List ℕ) : Type 0 where
  pub joined : List ℕ
  pub packed : List ℕ
  pub named : name ≡ parts.name_of joined
  pub read : HasRead parts joined calls
  pub stored : stage_of parts calls ≡ Stored packed
  pub lock : lock_of calls ≡ Some Exclusive
  pub apart : parts.name_of packed ≢ name
  pub covers : parts.covers packed joined ≡ true

abbrev pub Unlooked : List Call → Call → Type 0
Unlooked calls (Removed name ok) = MayGoUnlooked calls name
Unlooked calls call = InTurn parts calls call

-- ---- worlds

abbrev pub calls_with : ℕ → Call → World → ℕ → List Call
calls_with q call w = λ p. if p == q then call ∷ w.calls q else w.calls p

pub with_own : (q : ℕ) (call : Call) (w : World) → calls_with q call w q ≡ call ∷ w.calls q
with_own q call w = cond-true (q == q) (call ∷ w.calls q) (w.calls q) (eq-eqb q q refl)

pub with_others : (q : ℕ) (call : Call) (w : World) (p : ℕ) → p ≢ q → calls_with q call w p ≡ w.calls p
with_others q call w p ne = cond-false (p == q) (call ∷ w.calls q) (w.calls p) (ne_eqb p q ne)

abbrev pub noted : ℕ → Call → World → World
noted q call w = record w { calls = calls_with q call w }

abbrev pub finds : ℕ → List ℕ → ℕ → World → World
finds q name file w = record w { mine = λ p. if p == q then file else w.mine p; calls = calls_with q (Read name (Some (Some (w.disk.contents file)))) w }

abbrev pub without : List ℕ → Disk → Disk
without name d = record d { names = λ n. if bytes_eq n name then None else d.names n; earlier = λ n. if bytes_eq n name then d.names name ∷ d.earlier name else d.earlier n }

abbrev pub removes : ℕ → List ℕ → World → World
removes q name w = record w { disk = without name w.disk; gone = λ p. name ∷ w.gone p; calls = calls_with q (Removed name true) w }

pub same_stays : (q : ℕ) (call : Call) (w : World) → Stays w (noted q call w)
same_stays q call w = record { drawn = refl; open_files = λ p. refl; lists = record { began = λ p. refl; gone = λ p. refl } }

pub noted_notes : (q : ℕ) (call : Call) (w : World) → Notes q call w (noted q call w)
noted_notes q call w = record { own = with_own q call w; others = λ p ne. with_others q call w p ne }

pub finds_does : (q : ℕ) (name : List ℕ) (file : ℕ) (w : World) → w.disk.names name ≡ Some file → Finds q name (w.disk.contents file) w (finds q name file w)
finds_does q name file w at = record {
  file = file;
  named = at;
  holds = refl;
  disk = refl;
  drawn = refl;
  open_files = record {
    own = cond-true (q == q) file (w.mine q) (eq-eqb q q refl);
    others = λ p ne. cond-false (p == q) file (w.mine p) (ne_eqb p q ne);
  };
  lists = record { began = λ p. refl; gone = λ p. refl };
}

without_leads : (name : List ℕ) (d : Disk) → Leads name None d (without name d)
without_leads name d = record {
  own = cond-true _ None (d.names name) (same_bytes name);
  before = cond-true _ (d.names name ∷ d.earlier name) (d.earlier name) (same_bytes name);
  others = λ n ne. cond-false _ None (d.names n) (other_bytes n name ne);
  others_before = λ n ne. cond-false _ (d.names name ∷ d.earlier name) (d.earlier n) (other_bytes n name ne);
  contents = λ f. refl;
  synced = λ f. refl;
}

pub removes_does : (q : ℕ) (name : List ℕ) (w : World) → Removes name w (removes q name w)
removes_does q name w = record {
  disk = without_leads name w.disk;
  drawn = refl;
  open_files = λ p. refl;
  lists = record { began = λ p. refl; gone = λ p. refl };
}

-- if nothing is unsettled or unsynced, a sync changes nothing
pub record IsCalm (w : World) : Type 0 where
  pub earlier : (n : List ℕ) → w.disk.earlier n ≡ []
  pub synced : (f : ℕ) → w.disk.is_synced f ≡ true

pub syncs_calm : (file : ℕ) (w : World) → IsCalm w → Syncs file w.disk w.disk
syncs_calm file w calm = record { names = λ n. refl; earlier = λ n. refl; contents = λ f. refl; own = calm.synced file; others = λ f ne. refl }

pub settles_calm : (w : World) → IsCalm w → Settles w.disk w.disk
settles_calm w calm = record { names = λ n. refl; earlier = calm.earlier; contents = λ f. refl; synced = λ f. refl }

-- ---- two packs that remove each other's

-- two parts: a pack, and what is left of it after a forget
abbrev pub pack : List ℕ
pack = 1 ∷ []

abbrev pub less : List ℕ
less = 2 ∷ []

abbrev pub both : Disk
both = record {
  names = λ n. if bytes_eq n pack then Some 0 else if bytes_eq n less then Some 1 else None;
  earlier = λ n. [];
  contents = λ f. if f == 0 then pack else less;
  is_synced = λ f. true;
}

abbrev pub w0 : World
w0 = record { disk = both; drawn = []; mine = λ p. 0; began = λ p. both; gone = λ p. []; calls = λ p. [] }

abbrev pub w1 : World
w1 = finds 1 less 1 w0

abbrev pub w2 : World
w2 = finds 1 pack 0 w1

abbrev pub w3 : World
w3 = noted 1 (Synced true) w2

abbrev pub w4 : World
w4 = noted 1 (Settled true) w3

abbrev pub w5 : World
w5 = finds 0 pack 0 w4

abbrev pub w6 : World
w6 = finds 0 less 1 w5

abbrev pub w7 : World
w7 = noted 0 (Synced true) w6

abbrev pub w8 : World
w8 = noted 0 (Settled true) w7

abbrev pub w9 : World
w9 = noted 0 (Locked Exclusive true) w8

abbrev pub w10 : World
w10 = removes 0 pack w9

abbrev pub w11 : World
w11 = noted 0 Unlocked w10

abbrev pub w12 : World
w12 = noted 1 (Locked Exclusive true) w11

abbrev pub w13 : World
w13 = removes 1 less w12

abbrev pub calls : List (ℕ × Call)
calls =
    (1, Removed less true) ∷ (1, Locked Exclusive true) ∷ (0, Unlocked) ∷ (0, Removed pack true) ∷ (0, Locked Exclusive true)
    ∷ (0, Settled true) ∷ (0, Synced true) ∷ (0, Read less (Some (Some less))) ∷ (0, Read pack (Some (Some pack)))
    ∷ (1, Settled true) ∷ (1, Synced true) ∷ (1, Read pack (Some (Some pack))) ∷ (1, Read less (Some (Some less))) ∷ []

pub calm : IsCalm w0
calm = record { earlier = λ n. refl; synced = λ f. refl }

-- no process but perhaps one has a lock
abbrev none_but : ℕ → World → Type 0
none_but q w = (p : ℕ) → p ≢ q → lock_of (w.calls p) ≡ None

abbrev pub none_locked : World → Type 0
none_locked w = (p : ℕ) → lock_of (w.calls p) ≡ None

pub unlocked_by : (q : ℕ) (call : Call) (w : World) → none_locked w → lock_after call None ≡ None → (p : ℕ) → lock_of (calls_with q call w p) ≡ None
unlocked_by q call w none after p = ⊎_elim
    (λ is. ap (λ (x : ℕ). lock_of (calls_with q call w x)) is ∙ ap lock_of (with_own q call w) ∙ ap (λ (l : Option Kind). lock_after call l) (none q) ∙ after)
    (λ ne. ap lock_of (with_others q call w p ne) ∙ none p)
    (numbers_same p q)

others_unlocked : (q : ℕ) (call : Call) (w : World) → none_but q w → (p : ℕ) → p ≢ q → lock_of (calls_with q call w p) ≡ None
others_unlocked q call w none p ne = ap lock_of (with_others q call w p ne) ∙ none p ne

free8 : none_locked w8
free8 = unlocked_by 0 (Settled true) w7 (unlocked_by 0 (Synced true) w6 (unlocked_by 0 (Read less (Some (Some less))) w5 (unlocked_by 0 (Read pack (Some (Some pack))) w4
    (unlocked_by 1 (Settled true) w3 (unlocked_by 1 (Synced true) w2 (unlocked_by 1 (Read pack (Some (Some pack))) w1 (unlocked_by 1 (Read less (Some (Some less))) w0 (λ p. refl) refl) refl) refl) refl) refl) refl) refl) refl

free11 : none_locked w11
free11 p = ⊎_elim
    (λ is. ap (λ (x : ℕ). lock_of (w11.calls x)) is ∙ ap lock_of (with_own 0 Unlocked w10))
    (λ ne. ap lock_of (with_others 0 Unlocked w10 p ne) ∙ ap lock_of (with_others 0 (Removed pack true) w9 p ne) ∙ ap lock_of (with_others 0 (Locked Exclusive true) w8 p ne) ∙ free8 p)
    (numbers_same p 0)

pub two_one : less ≢ pack
two_one is = cc

run : RunsBy Unlooked calls w0 w13
run = (
  w12,
  (
    w11,
    (
      w10,
      (
        w9,
        (
          w8,
          (
            w7,
            (
              w6,
              (
                w5,
                (
                  w4,
                  (
                    w3,
                    (
                      w2,
                      (
                        w1,
                        (
                          w0,
                          refl,
                          record { in_turn = tt; does = finds_does 1 less 1 w0 refl; notes = record { own = refl; others = λ p ne. with_others 1 (Read less (Some (Some less))) w0 p ne } },
                        ),
                        record { in_turn = tt; does = finds_does 1 pack 0 w1 refl; notes = record { own = refl; others = λ p ne. with_others 1 (Read pack (Some (Some pack))) w1 p ne } },
                      ),
                      record { in_turn = tt; does = inl (refl, syncs_calm 0 w0 calm, same_stays 1 (Synced true) w2); notes = noted_notes 1 (Synced true) w2 },
                    ),
                    record { in_turn = refl; does = inl (refl, settles_calm w0 calm, same_stays 1 (Settled true) w3); notes = noted_notes 1 (Settled true) w3 },
                  ),
                  record { in_turn = tt; does = finds_does 0 pack 0 w4 refl; notes = record { own = refl; others = λ p ne. with_others 0 (Read pack (Some (Some pack))) w4 p ne } },
                ),
                record { in_turn = tt; does = finds_does 0 less 1 w5 refl; notes = record { own = refl; others = λ p ne. with_others 0 (Read less (Some (Some less))) w5 p ne } },
              ),
              record { in_turn = tt; does = inl (refl, syncs_calm 1 w0 calm, same_stays 0 (Synced true) w6); notes = noted_notes 0 (Synced true) w6 },
            ),
            record { in_turn = refl; does = inl (refl, settles_calm w0 calm, same_stays 0 (Settled true) w7); notes = noted_notes 0 (Settled true) w7 },
          ),
          record { in_turn = tt; does = (λ p ne. free8 p, refl, same_stays 0 (Locked Exclusive true) w8); notes = noted_notes 0 (Locked Exclusive true) w8 },
        ),
        record {
          in_turn = record { joined = pack; packed = less; named = refl; read = inr (inl (refl, refl)); stored = refl; lock = refl; apart = two_one; covers = refl };
          does = removes_does 0 pack w9;
          notes = record { own = refl; others = λ p ne. with_others 0 (Removed pack true) w9 p ne };
        },
      ),
      record { in_turn = tt; does = (refl, same_stays 0 Unlocked w10); notes = noted_notes 0 Unlocked w10 },
    ),
    record { in_turn = tt; does = (λ p ne. free11 p, refl, same_stays 1 (Locked Exclusive true) w11); notes = noted_notes 1 (Locked Exclusive true) w11 },
  ),
  record {
    in_turn = record { joined = less; packed = pack; named = refl; read = inr (inl (refl, refl)); stored = refl; lock = refl; apart = λ is. two_one (sym is); covers = refl };
    does = removes_does 1 less w12;
    notes = record { own = refl; others = λ p ne. with_others 1 (Removed less true) w12 p ne };
  },
)

-- at first both parts are safe
safe_first : (b : List ℕ) → IsSafe parts w0.disk b
safe_first b names may = (pack, 0, at (may pack), refl, refl, refl)
  where
    at : MayLead w0.disk pack (names pack) → names pack ≡ Some 0
    at (inl is) = is
    at (inr among) = absurd among

-- and then no name is left
none_left : (n : List ℕ) → w13.disk.names n ≡ None
none_left n = ⊎_elim
    (λ is. cond-true (bytes_eq n less) None (w12.disk.names n) (ap (λ (x : List ℕ). bytes_eq x less) is ∙ same_bytes less))
    (λ ne. cond-false (bytes_eq n less) None (w12.disk.names n) (other_bytes n less ne) ∙ ⊎_elim
    (λ is. cond-true (bytes_eq n pack) None (both.names n) (ap (λ (x : List ℕ). bytes_eq x pack) is ∙ same_bytes pack))
    (λ another. cond-false (bytes_eq n pack) None (both.names n) (other_bytes n pack another)
    ∙ cond-false (bytes_eq n pack) (Some 0) (if bytes_eq n less then Some 1 else None) (other_bytes n pack another)
    ∙ cond-false (bytes_eq n less) (Some 1) None (other_bytes n less ne))
    (names_same n pack))
    (names_same n less)

-- Two packs of which each removes what the other has put: all is gone.
pub removed_unlooked : IsQuiet w0 × ((b : List ℕ) → IsSafe parts w0.disk b) × RunsBy Unlooked calls w0 w13 × ((b : List ℕ) → IsHeld parts w13.disk b → ⊥)
removed_unlooked = (λ p. refl, safe_first, run, λ b (held : IsHeld parts w13.disk b). some_none held.1 (sym held.2 ∙ none_left (parts.name_of held.0)))

-- ---- and what one of them has read is gone

abbrev w14 : World
w14 = noted 0 (Read less (Some None)) w13

abbrev pub w15 : World
w15 = record w14 { disk = record w14.disk { earlier = λ n. [] }; calls = calls_with 0 (Settled true) w14 }

misses : RunsBy Unlooked ((0, Settled true) ∷ (0, Read less (Some None)) ∷ calls) w0 w15
misses = (
  w14,
  (
    w13,
    run,
    record { in_turn = tt; does = (none_left less, refl, same_stays 0 (Read less (Some None)) w13); notes = noted_notes 0 (Read less (Some None)) w13 },
  ),
  record {
    in_turn = refl;
    does = inl (refl, record { names = λ n. refl; earlier = λ n. refl; contents = λ f. refl; synced = λ f. refl }, record { drawn = refl; open_files = λ p. refl; lists = record { began = λ p. refl; gone = λ p. refl } });
    notes = record { own = refl; others = λ p ne. with_others 0 (Settled true) w14 p ne };
  },
)

-- What a process has read, and found gone, and has synced the folder after that, is held by nothing.
pub gone_unlooked : RunsBy Unlooked ((0, Settled true) ∷ (0, Read less (Some None)) ∷ calls) w0 w15 × IsGone parts less (w15.calls 0) × (IsHeld parts w15.disk less → ⊥)
gone_unlooked = (misses, inl (inl (refl, inl (refl, refl))), λ (held : IsHeld parts w15.disk less). some_none held.1 (sym held.2 ∙ none_left (parts.name_of held.0)))

-- ---- steps on a disk

-- a removal after a link that is not settled: a loss of power may take the new part and the old one
pub removed_unsettled : (name joined : List ℕ) (file old : ℕ) (d v e : Disk) → name ≢ joined → ((n : List ℕ) → d.earlier n ≡ []) → ((n : List ℕ) (f : ℕ) → d.names n ≡ Some f → n ≡ joined)
    → d.names name ≡ None → Leads name (Some file) d v → Leads joined None v e → (names : Names) × MayLeave e names × ((n : List ℕ) → names n ≡ None)
removed_unsettled name joined file old d v e apart settled only none first second = ((λ n. None), may, λ n. refl)
  where
    was : (n : List ℕ) → n ≢ joined → d.names n ≡ None
    was n ne = by (d.names n) refl
      where
        by : (x : Option ℕ) → d.names n ≡ x → d.names n ≡ None
        by None is = is
        by (Some f) is = absurd (ne (only n f is))

    may : MayLeave e (λ n. None)
    may n = ⊎_elim
        (λ is. inl (sym (ap e.names is ∙ second.own)))
        (λ ne. ⊎_elim
        (λ is. subst (λ (x : List ℕ). MayLead e x None) (sym is) (inr (subst (λ (x : List (Option ℕ)). Among None x) (sym (second.others_before name apart ∙ first.before)) (inl (sym none)))))
        (λ other. inl (sym (second.others n ne ∙ first.others n other ∙ was n ne)))
        (names_same n name))
        (names_same n joined)

-- a link before the file is synced: the folder is settled, and a loss of power leaves any bytes under the name
pub linked_unsynced : (name bytes left : List ℕ) (file : ℕ) (v w : Disk) → v.names name ≡ Some file → v.contents file ≡ bytes → v.is_synced file ≡ false → Settles v w
    → (e : Disk) × Restarts w e × (e.names name ≡ Some file) × (e.contents file ≡ left)
linked_unsynced name bytes left file v w at holds unsynced settles = (e, restarts, settles.names name ∙ at, cond-true (file == file) left (w.contents file) (eq-eqb file file refl))
  where
    e : Disk
    e = record { names = w.names; earlier = λ n. []; contents = λ f. if f == file then left else w.contents f; is_synced = λ f. true }

    other : (f : ℕ) → w.is_synced f ≡ true → f ≢ file
    other f is same = let x : true ≡ false = sym is ∙ ap w.is_synced same ∙ settles.synced file ∙ unsynced in cc

    restarts : Restarts w e
    restarts = record {
      names = λ n. inl refl;
      earlier = λ n. refl;
      contents = λ f is. cond-false (f == file) left (w.contents f) (ne_eqb f file (other f is));
      synced = λ f. refl;
    }

-- ---- a listing without a lock

-- A part came after the listing began, and one that it covers went: the listing gives neither, and all that it gave is read.
pub listed_unlocked : (p : ℕ) (joined : List ℕ) (w : World) → ((n : List ℕ) (f : ℕ) → (w.began p).names n ≡ Some f → n ≡ joined) → Among joined (w.gone p)
    → Does p (Listed (Some [])) w (noted p (Listed (Some [])) w)
listed_unlocked p joined w only gone = (λ n f at stays. absurd (stays (subst (λ (x : List ℕ). Among x (w.gone p)) (sym (only n f at)) gone)), refl, same_stays p (Listed (Some [])) w)
