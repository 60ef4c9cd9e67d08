-- How runs stray.
use Rattle.std.proofs.Common.{◌≡◌, refl, sym, ◌∙◌, ap, subst, arith, ℕ, ◌+◌, ◌-◌, ◌<◌, ◌≤◌, ◌⊎◌, inl, inr, Bool, true, false, List, [], ◌∷◌, ◌++◌, length, take, drop, get_or, not, zero, suc, Option, Some, Result, Ok, Err}
use Rattle.std.proofs.Math.Logic.{∥∥₁_map}
use Rattle.std.proofs.lemmas.List.{append_assoc, append-nil, take-append-drop, length-drop, drop_all}
use Rattle.folder_model.specs.Call.{Call, can_settle, Settled}
use Rattle.folder_turns.specs.Calls.{call_asked, answered, calls_after, fails_to_settle, is_done}
use Rattle.folder_protocol.specs.Note.{calls_of}
use Rattle.folder_turns.specs.Run.{run_history, stopped, StopsFor}
use Rattle.folder_turns.specs.Straying.{IsOther, IsNoRequest, TurnsAway, EndsEarly, Strays, HasStrayed, IfStrayed}
use Rattle.folder_turns.specs.declared.replay.Fault.{Fault}
use Rattle.folder_turns.specs.declared.replay.Fault.TheVariants.{Strayed}
use Rattle.folder_turns.specs.declared.replay.Stop.{Stop}
use Rattle.folder_turns.specs.declared.replay.Why.{Why}
use Rattle.folder_turns.specs.declared.replay.Why.TheVariants as why
use Rattle.folder_turns.specs.declared.request.Request.{Request}
use Rattle.folder_turns.specs.declared.request.Request.TheVariants.{Make, Write, Sync, Link, Remove, Settle, Lock, LockShared, ListNames, Unlock, ReadFile}
use Rattle.folder_turns.specs.declared.request.Answer.{Answer}
use Rattle.folder_turns.specs.declared.request.Answer.TheVariants as answers
use Rattle.folder_turns.specs.declared.request.Told.{Told}
use Rattle.folder_turns.proofs.Runs.{made_more, can_first}

-- ---- what begins nowhere

-- of two numbers one is at most the other
either : (m n : ℕ) → (m ≤ n) ⊎ (n ≤ m)
either zero n = inl (omega (arith))
either (suc m) zero = inr (omega (arith))
either (suc m) (suc n) = by (either m n)
  where
    by : (m ≤ n) ⊎ (n ≤ m) → (suc m ≤ suc n) ⊎ (suc n ≤ suc m)
    by (inl below) = inl (omega (arith, below))
    by (inr below) = inr (omega (arith, below))

-- what isn't the end of a list that has as much before it begins nowhere in it
pub begins_nowhere : (whole bytes : List ℕ) (k from : ℕ) → k + length bytes ≡ length whole → (drop k whole ≡ bytes → ⊥) → drop from whole ≡ bytes → ⊥
begins_nowhere whole bytes k from both other same = by (either from (length whole))
  where
    left : length whole - from ≡ length bytes
    left = sym (length-drop from whole) ∙ ap length same

    by : (from ≤ length whole) ⊎ (length whole ≤ from) → ⊥
    by (inl below) = other (ap (λ (n : ℕ). drop n whole) (omega (arith, below, both, left)) ∙ same)
    by (inr above) =
        let all : length whole ≤ k = omega (arith, above, both, left) in
        other (drop_all k whole all ∙ sym (drop_all from whole above) ∙ same)

-- ---- whether the folder may be synced

-- calls that are told after others
after_both : (whole : List ℕ) (xs ys : List Told) (before : List Call) → calls_after whole (xs ++ ys) before ≡ calls_after whole ys (calls_after whole xs before)
after_both whole [] ys before = refl
after_both whole (x ∷ xs) ys before = after_both whole xs ys (answered (call_asked whole x.request) x.answer ++ before)

settled_cannot : (done : Bool) (h : List Call) → not done ≡ true → can_settle (Settled done ∷ h) ≡ false
settled_cannot true h fails = cc
settled_cannot false h fails = refl

told_cannot : (whole : List ℕ) (request : Request) (answer : Answer) (h : List Call) → fails_to_settle request answer ≡ true → can_settle (answered (call_asked whole request) answer ++ h) ≡ false
told_cannot whole (Make name) answer h fails = cc
told_cannot whole (Write from) answer h fails = cc
told_cannot whole Sync answer h fails = cc
told_cannot whole (Link from to) answer h fails = cc
told_cannot whole (Remove name) answer h fails = cc
told_cannot whole Settle answer h fails = settled_cannot (is_done answer) h fails
told_cannot whole Lock answer h fails = cc
told_cannot whole LockShared answer h fails = cc
told_cannot whole ListNames answer h fails = cc
told_cannot whole Unlock answer h fails = cc
told_cannot whole (ReadFile name) answer h fails = cc

-- after some of a list, and the same of more of it
take_of_more : (k n : ℕ) (ts : List Told) → k ≤ n → take k (take n ts) ≡ take k ts
take_of_more zero n ts below = refl
take_of_more (suc k) zero ts below = absurd (omega (arith, below))
take_of_more (suc k) (suc n) [] below = refl
take_of_more (suc k) (suc n) (t ∷ ts) below = ap (λ (l : List Told). t ∷ l) (take_of_more k n ts (omega (arith, below)))

-- after a sync of the folder that failed it can't be synced again
pub settled_not : (whole : List ℕ) (ts : List Told) (before : List Call) (count k : ℕ) (t : Told) → k < length ts → k < count → get_or ts k t ≡ t
    → fails_to_settle t.request t.answer ≡ true → can_settle (calls_after whole (take count ts) before) ≡ false
settled_not whole ts before count k t below within is fails = by (can_settle (calls_after whole (take count ts) before)) refl
  where
    first : can_settle (calls_after whole (take (k + 1) ts) before) ≡ false
    first =
        ap can_settle (made_more whole ts before k t (call_asked whole t.request) below is refl)
        ∙ told_cannot whole t.request t.answer (calls_after whole (take k ts) before) fails

    parted : take (k + 1) ts ++ drop (k + 1) (take count ts) ≡ take count ts
    parted = ap (λ (l : List Told). l ++ drop (k + 1) (take count ts)) (sym (take_of_more (k + 1) count ts (omega (arith, within)))) ∙ take-append-drop (k + 1) (take count ts)

    earlier : can_settle (calls_after whole (take count ts) before) ≡ true → can_settle (calls_after whole (take (k + 1) ts) before) ≡ true
    earlier can = can_first whole (drop (k + 1) (take count ts)) (calls_after whole (take (k + 1) ts) before)
        (ap can_settle (sym (after_both whole (take (k + 1) ts) (drop (k + 1) (take count ts)) before) ∙ ap (λ (l : List Told). calls_after whole l before) parted) ∙ can)

    by : (b : Bool) → can_settle (calls_after whole (take count ts) before) ≡ b → can_settle (calls_after whole (take count ts) before) ≡ false
    by false same = same
    by true same = let no : true ≡ false = sym (earlier same) ∙ first in cc

-- ---- at which call a run turns away

module _ (whole : List ℕ) (list : List Told) (before : List Call) (at : ℕ) where
  -- what has turned away goes on
  pub turned_more : (old new calls : List Call) → new ≡ calls ++ old → ∥ TurnsAway whole list before at old ∥₁ → ∥ TurnsAway whole list before at new ∥₁
  turned_more old new calls is turned = ∥∥₁_map turned (λ t. more t)
    where
      more : TurnsAway whole list before at old → TurnsAway whole list before at new
      more (call, since, was, other) = (call, calls ++ since, is ∙ ap (λ (l : List Call). calls ++ l) was ∙ sym (append_assoc calls since _), other)

  -- a run that stops at a call that isn't the one that was told
  pub turns_at_other : (calls : List Call) (call : Call) → calls ≡ answered call answers.Failed ++ calls_after whole (take at list) before → at < length list
      → IsOther whole list before at call → TurnsAway whole list before at calls
  turns_at_other calls call is below other = (call, [], is, inl (below, other))

  -- or that can't be asked for
  pub turns_at_none : (calls : List Call) (call : Call) → calls ≡ answered call answers.Failed ++ calls_after whole (take at list) before → IsNoRequest whole call → TurnsAway whole list before at calls
  turns_at_none calls call is none = (call, [], is, inr none)

-- a stop at a call that has failed
pub failing_at : (whole : List ℕ) (earlier : List Call) (stop : Stop) (call : Call) (fault : Fault) → stop.why ≡ why.Fails fault → calls_of stop.since.noted ≡ answered call answers.Failed ++ []
    → calls_of stop.since.noted ++ stopped whole stop.why earlier ≡ answered call answers.Failed ++ earlier
failing_at whole earlier stop call fault fails since =
    ap (λ (w : Why). calls_of stop.since.noted ++ stopped whole w earlier) fails
    ∙ ap (λ (l : List Call). l ++ earlier) (since ∙ append-nil (answered call answers.Failed))

-- for one reason
pub fails_for : (a b : Fault) → why.Fails a ≡ why.Fails b → a ≡ b
fails_for a b same = ap fault same
  where
    fault : Why → Fault
    fault (why.Fails given) = given
    fault other = a

-- a run that has stopped, and notes one more call
pub noted_more : (whole : List ℕ) (list : List Told) (before : List Call) (at : ℕ) (was : Option Stop) (stop : Stop) (now : List Call) (call : Call) → was ≡ Some stop
    → now ≡ answered call answers.Failed ++ calls_of stop.since.noted
    → (StopsFor was Strayed → ∥ TurnsAway whole list before at (run_history whole list before at was) ∥₁) → stop.why ≡ why.Fails Strayed
    → ∥ TurnsAway whole list before at (now ++ stopped whole stop.why (calls_after whole (take at list) before)) ∥₁
noted_more whole list before at was stop now call is more strays fails =
    turned_more whole list before at _ _ (answered call answers.Failed)
    (ap (λ (l : List Call). l ++ stopped whole stop.why (calls_after whole (take at list) before)) more ∙ append_assoc (answered call answers.Failed) (calls_of stop.since.noted) _)
    (subst (λ (s : Option Stop). StopsFor s Strayed → ∥ TurnsAway whole list before at (run_history whole list before at s) ∥₁) is strays fails)

-- ---- what comes of a run that has strayed

-- so says the program of it
pub run_strays : {T X : Type 0} (r : Result X Fault) (says : T → List Call → Type 0) (whole : List ℕ) (list : List Told) (before told : List Call) (at : ℕ) (calls : List Call) (stop : Option Stop) (outcome : T)
    → calls_after whole list before ≡ told → says outcome calls → (StopsFor stop Strayed → ∥ TurnsAway whole list before at calls ∥₁)
    → IfStrayed r (EndsEarly whole list before at calls ⊎ StopsFor stop Strayed) → IfStrayed r (HasStrayed says whole before told)
run_strays (Ok x) says whole list before told at calls stop outcome is said turned strayed = tt
run_strays (Err fault) says whole list before told at calls stop outcome is said turned strayed = λ same. by (strayed same)
  where
    so : EndsEarly whole list before at calls ⊎ TurnsAway whole list before at calls → Strays says whole before told
    so away = record { list = list; is_told = is; outcome = outcome; calls = calls; said = said; at = at; strays = away }

    by : EndsEarly whole list before at calls ⊎ StopsFor stop Strayed → HasStrayed says whole before told
    by (inl early) = ∣ so (inl early) ∣₁
    by (inr stops) = ∥∥₁_map (turned stops) (λ away. so (inr away))

-- what is so of it under a premise
pub strays_so : {X : Type 0} (r : Result X Fault) (C P Q : Type 0) → (P → Q) → (C → IfStrayed r P) → IfStrayed r (C → Q)
strays_so (Ok x) C P Q more strays = tt
strays_so (Err fault) C P Q more strays = λ same can. more (strays can same)
