-- How the calls lead from phase to phase.
use Rattle.std.proofs.Common.{◌≡◌, ◌≢◌, ℕ, zero, suc, ◌-◌, Result, Ok, Err, OnOk, OnErr, ◌+◌, Bool, true, List, [], ◌∷◌, ◌++◌, length, take, drop, refl, sym, ◌∙◌, ap, append_assoc, arith}
use Rattle.std.specs.Str.{bytes_eq}
use Rattle.std.proofs.lemmas.Slice.Eq.{bytes_eq-Decides}
use Rattle.std.specs.Result.{is_ok}
use Rattle.std.proofs.lemmas.List.{take_rest}
use Rattle.file_protocol.specs.Event as event
use Rattle.file_protocol.specs.Event.{Event, Wrote, Renamed, Removed, Compared}
use Rattle.file_protocol.specs.declared.outcome.Replaced.{Replaced}
use Rattle.file_protocol.specs.declared.outcome.Replaced.TheVariants.{Synced, Unsynced}
use Rattle.file_protocol.specs.Outcome.{phase_of}
use Rattle.file_protocol.specs.Phase.{Phase, Dirty, Filled, Ready, Unsure, Back, Gone, GoneUnsure, Bad, next, removed, renamed, phase_after, Goes, GoesBack}

pub same_name : (n : List ℕ) → bytes_eq n n ≡ true
same_name n = (bytes_eq-Decides n n).1 refl

module _ (lock name new : List ℕ) where
  pub starts : (h : List Event) (p : Phase) → Goes lock name new h p h p
  starts h p = ([], refl, refl)

  pub stays : (h mid : List Event) (p : Phase) → mid ≡ h → Goes lock name new h p mid p
  stays h mid p is = ([], is, refl)

  pub goes_on : (h : List Event) (p : Phase) (mid : List Event) (q : Phase) (after : List Event) (call : Event) (r : Phase)
      → Goes lock name new h p mid q → after ≡ call ∷ mid → next lock name new call q ≡ r → Goes lock name new h p after r
  goes_on h p mid q after call r so_far is to =
      (call ∷ so_far.0, is ∙ ap (λ (l : List Event). call ∷ l) so_far.1, ap (next lock name new call) so_far.2 ∙ to)

  pub together : (p : Phase) (later earlier : List Event) → phase_after lock name new p (later ++ earlier) ≡ phase_after lock name new (phase_after lock name new p earlier) later
  together p [] earlier = refl
  together p (call ∷ later) earlier = ap (next lock name new call) (together p later earlier)

  pub joins : (h : List Event) (p : Phase) (mid : List Event) (q : Phase) (after : List Event) (r : Phase)
      → Goes lock name new h p mid q → Goes lock name new mid q after r → Goes lock name new h p after r
  joins h p mid q after r first second = (
    second.0 ++ first.0,
    second.1 ∙ ap (λ (l : List Event). second.0 ++ l) first.1 ∙ sym (append_assoc second.0 first.0 h),
    together p second.0 first.0 ∙ ap (λ (x : Phase). phase_after lock name new x second.0) first.2 ∙ second.2,
  )

  -- the lock's file takes the place of the file
  pub renames : (ok : Bool) → next lock name new (Renamed lock name ok) (Ready new) ≡ renamed true ok (Ready new)
  renames ok = rw (same_name lock, same_name name, same_name new) refl

  pub removes : (ok : Bool) (q : Phase) → next lock name new (Removed lock ok) q ≡ removed true q
  removes ok q = rw (same_name lock) refl

  pub compares : next lock name new (Compared lock true) Unsure ≡ Back
  compares = rw (same_name lock) refl

take_nil : (n : ℕ) → take {A = ℕ} n [] ≡ []
take_nil zero = refl
take_nil (suc n) = refl

drop_nil : (n : ℕ) → drop {A = ℕ} n [] ≡ []
drop_nil zero = refl
drop_nil (suc n) = refl

-- one more piece of the bytes
piece : (bytes : List ℕ) (done n : ℕ) → take done bytes ++ take n (drop done bytes) ≡ take (done + n) bytes
piece [] done n = rw (take_nil done, drop_nil done, take_nil n, take_nil (done + n)) refl
piece (b ∷ bytes) zero n = let e : n ≡ zero + n = omega arith in ap (λ (k : ℕ). take k (b ∷ bytes)) e
piece (b ∷ bytes) (suc done) n =
    let e : suc (done + n) ≡ suc done + n = omega arith in
    ap (λ (l : List ℕ). b ∷ l) (piece bytes done n) ∙ ap (λ (k : ℕ). take k (b ∷ bytes)) e

-- what the loop has written after one more piece
pub one_more : (bytes : List ℕ) (done n : ℕ) → Filled (take done bytes ++ take n (take (length bytes - done) (drop done bytes))) ≡ Filled (take (done + n) bytes)
one_more bytes done n = ap (λ (l : List ℕ). Filled (take done bytes ++ take n l)) (take_rest bytes done) ∙ ap Filled (piece bytes done n)

-- what is said of an error alone
pub on_err : {T E P : Type 0} (r : Result T E) → P → OnErr r P
on_err (Ok x) p = tt
on_err (Err e) p = p

module _ (lock name new : List ℕ) where
  pub ends_ok : {T E : Type 0} (r : Result T E) (h : List Event) (p : Phase) (mid after : List Event) (b : List ℕ)
      → Goes lock name new h p mid (Filled b) → after ≡ event.Synced (is_ok r) ∷ mid → OnOk r (Goes lock name new h p after (Ready b))
  ends_ok (Ok x) h p mid after b so_far is = goes_on lock name new h p mid _ after _ _ so_far is refl
  ends_ok (Err e) h p mid after b so_far is = tt

  pub ends_err : {T E : Type 0} (r : Result T E) (h : List Event) (p : Phase) (mid after : List Event) (b : List ℕ)
      → Goes lock name new h p mid (Filled b) → after ≡ event.Synced (is_ok r) ∷ mid → OnErr r (GoesBack lock name new h p after)
  ends_err (Ok x) h p mid after b so_far is = tt
  ends_err (Err e) h p mid after b so_far is = (Dirty, goes_on lock name new h p mid _ after _ _ so_far is refl, refl)

  -- a call that failed, after which the lock may be removed
  pub back : (h : List Event) (p : Phase) (after : List Event) (q : Phase) → Goes lock name new h p after q → removed true q ≡ Gone → GoesBack lock name new h p after
  back h p after q goes is = (q, goes, is)

  pub joins_back : (h : List Event) (p : Phase) (mid : List Event) (q : Phase) (after : List Event) → Goes lock name new h p mid q → GoesBack lock name new mid q after → GoesBack lock name new h p after
  joins_back h p mid q after first second = (second.0, joins lock name new h p mid q after second.0 first second.1, second.2)

pub answered_in_turn : (how : Replaced) → phase_of how ≢ Bad
answered_in_turn Synced = λ e. cc
answered_in_turn Unsynced = λ e. cc

pub unsure_in_turn : Unsure ≢ Bad
unsure_in_turn = λ e. cc

pub gone_unsure_in_turn : GoneUnsure ≢ Bad
gone_unsure_in_turn = λ e. cc

pub gone_in_turn : Gone ≢ Bad
gone_in_turn = λ e. cc
