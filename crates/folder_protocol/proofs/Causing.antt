-- How answers come to their causes.
use Rattle.std.proofs.Common.{◌≡◌, inl, inr, ℕ, Bool, true, false, ◌||◌, map, Result, Ok, Err, IfOk, IfSome, OnErr, Option, Some, None, List, [], ◌∷◌, ◌++◌, length, take, refl, sym, ◌∙◌, ap, append_assoc, arith}
use Rattle.std.specs.List.{list_any}
use Rattle.std.specs.Result.{is_ok}
use Rattle.folder_model.specs.Call.{Call, Synced, Taken}
use Rattle.folder_model.specs.Disk.{Among}
use Rattle.folder_model.specs.Parts.{Parts, IsNoPart}
use Rattle.folder_protocol.specs.Causes.{Fails, AnyIs, HasCall, AnswersLink, LookCause, IsNamed}
use Rattle.folder_protocol.specs.declared.putting.Outcome.{Outcome}
use Rattle.folder_protocol.specs.declared.putting.Outcome.TheVariants.{OnDisk, Unsynced, Gone, Damaged}

-- some calls were made between two histories
abbrev pub Follows : List Call → List Call → Type 0
Follows before after = (calls : List Call) × (after ≡ calls ++ before)

pub follows_none : (h : List Call) → Follows h h
follows_none h = ([], refl)

pub follows_on : (before mid after : List Call) (call : Call) → Follows before mid → after ≡ call ∷ mid → Follows before after
follows_on before mid after call so_far is = (call ∷ so_far.0, is ∙ ap (λ (l : List Call). call ∷ l) so_far.1)

pub follows_more : (before mid after : List Call) → Follows before mid → Follows mid after → Follows before after
follows_more before mid after first second = (
  second.0 ++ first.0,
  second.1 ∙ ap (λ (l : List Call). second.0 ++ l) first.1 ∙ sym (append_assoc second.0 first.0 before),
)

-- which calls were made is the same for all parts; this name is no part's
abbrev pub parts_without : List ℕ → Parts
parts_without temporary = record { name_of = λ b. 0 ∷ temporary; covers = λ b a. true }

pub no_part_of : (temporary : List ℕ) → IsNoPart (parts_without temporary) temporary
no_part_of temporary b is = let same = ap (λ (l : List ℕ). length l) is in longer same
  where
    longer : length temporary ≡ length (0 ∷ temporary) → ⊥
    longer same = absurd (omega (arith, same))

module _ (P : Call → Type 0) where
  any_later : (later earlier : List Call) → AnyIs P later → AnyIs P (later ++ earlier)
  any_later [] earlier none = absurd none
  any_later (call ∷ later) earlier (inl here) = inl here
  any_later (call ∷ later) earlier (inr there) = inr (any_later later earlier there)

  any_earlier : (later earlier : List Call) → AnyIs P earlier → AnyIs P (later ++ earlier)
  any_earlier [] earlier any = any
  any_earlier (call ∷ later) earlier any = inr (any_earlier later earlier any)

  pub has_now : (before after : List Call) (call : Call) → after ≡ call ∷ before → P call → HasCall P before after
  has_now before after call is so = (call ∷ [], is, inl so)

  -- after some calls
  pub has_later : (before mid after : List Call) → Follows before mid → HasCall P mid after → HasCall P before after
  has_later before mid after (earlier, was) (calls, is, any) = (
    calls ++ earlier,
    is ∙ ap (λ (h : List Call). calls ++ h) was ∙ sym (append_assoc calls earlier before),
    any_later calls earlier any,
  )

  -- and then some calls more
  pub has_before : (before mid after : List Call) → Follows mid after → HasCall P before mid → HasCall P before after
  has_before before mid after (later, then) (calls, is, any) = (
    later ++ calls,
    then ∙ ap (λ (h : List Call). later ++ h) is ∙ sym (append_assoc later calls before),
    any_earlier later calls any,
  )

-- no bytes of some
pub take_none : (n : ℕ) (xs : List ℕ) → n ≡ 0 → take n xs ≡ []
take_none n [] is = ap (λ (k : ℕ). take k []) is
take_none n (x ∷ xs) is = ap (λ (k : ℕ). take k (x ∷ xs)) is

pub on_err : {T E P : Type 0} (r : Result T E) → P → OnErr r P
on_err (Ok x) p = tt
on_err (Err e) p = p

-- an error after some calls
pub fails_later : {T E : Type 0} (r : Result T E) (before mid after : List Call) → Follows before mid → OnErr r (HasCall Fails mid after) → OnErr r (HasCall Fails before after)
fails_later (Ok x) before mid after first fails = tt
fails_later (Err e) before mid after first fails = has_later Fails before mid after first fails

-- and then some calls more
pub fails_before : {T E : Type 0} (r : Result T E) (before mid after : List Call) → Follows mid after → OnErr r (HasCall Fails before mid) → OnErr r (HasCall Fails before after)
fails_before (Ok x) before mid after then fails = tt
fails_before (Err e) before mid after then fails = has_before Fails before mid after then fails

-- a sync, after some calls
pub sync_fails : {T E : Type 0} (r : Result T E) (before mid after : List Call) → Follows before mid → after ≡ Synced (is_ok r) ∷ mid → OnErr r (HasCall Fails before after)
sync_fails (Ok x) before mid after first is = tt
sync_fails (Err e) before mid after first is = has_later Fails before mid after first (has_now Fails mid after (Synced false) is refl)

-- what came of a look, after some calls
pub look_later : (how : Outcome) (name bytes : List ℕ) (before mid after : List Call) → Follows before mid → LookCause how name bytes mid after → LookCause how name bytes before after
look_later OnDisk name bytes before mid after first cause = tt
look_later Unsynced name bytes before mid after first cause = has_later _ before mid after first cause
look_later Gone name bytes before mid after first cause = has_later _ before mid after first cause
look_later Damaged name bytes before mid after first cause = has_later _ before mid after first cause

-- and then some calls more
pub look_before : (how : Outcome) (name bytes : List ℕ) (before mid after : List Call) → Follows mid after → LookCause how name bytes before mid → LookCause how name bytes before after
look_before OnDisk name bytes before mid after then cause = tt
look_before Unsynced name bytes before mid after then cause = has_before _ before mid after then cause
look_before Gone name bytes before mid after then cause = has_before _ before mid after then cause
look_before Damaged name bytes before mid after then cause = has_before _ before mid after then cause

pub looks_later : {E : Type 0} (r : Result Outcome E) (name bytes : List ℕ) (before mid after : List Call) → Follows before mid
    → IfOk r (λ how. LookCause how name bytes mid after) → IfOk r (λ how. LookCause how name bytes before after)
looks_later (Ok how) name bytes before mid after first cause = look_later how name bytes before mid after first cause
looks_later (Err e) name bytes before mid after first cause = tt

pub looks_before : {E : Type 0} (r : Result Outcome E) (name bytes : List ℕ) (before mid after : List Call) → Follows mid after
    → IfOk r (λ how. LookCause how name bytes before mid) → IfOk r (λ how. LookCause how name bytes before after)
looks_before (Ok how) name bytes before mid after then cause = look_before how name bytes before mid after then cause
looks_before (Err e) name bytes before mid after then cause = tt

-- the same of an answer that may not be there
pub looked_later : {E : Type 0} (r : Result (Option Outcome) E) (name bytes : List ℕ) (before mid after : List Call) → Follows before mid
    → IfOk r (λ answer. IfSome answer (λ how. LookCause how name bytes mid after)) → IfOk r (λ answer. IfSome answer (λ how. LookCause how name bytes before after))
looked_later (Ok (Some how)) name bytes before mid after first cause = look_later how name bytes before mid after first cause
looked_later (Ok None) name bytes before mid after first cause = tt
looked_later (Err e) name bytes before mid after first cause = tt

pub looked_before : {E : Type 0} (r : Result (Option Outcome) E) (name bytes : List ℕ) (before mid after : List Call) → Follows mid after
    → IfOk r (λ answer. IfSome answer (λ how. LookCause how name bytes before mid)) → IfOk r (λ answer. IfSome answer (λ how. LookCause how name bytes before after))
looked_before (Ok (Some how)) name bytes before mid after then cause = look_before how name bytes before mid after then cause
looked_before (Ok None) name bytes before mid after then cause = tt
looked_before (Err e) name bytes before mid after then cause = tt

-- another file had the name
named_taken : (how : Outcome) (name : List ℕ) (before after : List Call) → HasCall (AnswersLink name Taken) before after → IsNamed how name before after
named_taken OnDisk name before after taken = tt
named_taken Unsynced name before after taken = inr taken
named_taken Gone name before after taken = taken
named_taken Damaged name before after taken = taken

pub all_named : {E : Type 0} (r : Result Outcome E) (name : List ℕ) (before after : List Call) → HasCall (AnswersLink name Taken) before after → IfOk r (λ how. IsNamed how name before after)
all_named (Ok how) name before after taken = named_taken how name before after taken
all_named (Err e) name before after taken = tt

-- the same after some calls
pub named_later : (how : Outcome) (name : List ℕ) (before mid after : List Call) → Follows before mid → IsNamed how name mid after → IsNamed how name before after
named_later OnDisk name before mid after first named = tt
named_later Unsynced name before mid after first (inl done) = inl (has_later _ before mid after first done)
named_later Unsynced name before mid after first (inr taken) = inr (has_later _ before mid after first taken)
named_later Gone name before mid after first named = has_later _ before mid after first named
named_later Damaged name before mid after first named = has_later _ before mid after first named

pub all_named_later : {E : Type 0} (r : Result Outcome E) (name : List ℕ) (before mid after : List Call) → Follows before mid
    → IfOk r (λ how. IsNamed how name mid after) → IfOk r (λ how. IsNamed how name before after)
all_named_later (Ok how) name before mid after first named = named_later how name before mid after first named
all_named_later (Err e) name before mid after first named = tt

-- the same between some calls more
named_between : (how : Outcome) (name : List ℕ) (before mid after last : List Call) → Follows before mid → Follows after last → IsNamed how name mid after → IsNamed how name before last
named_between OnDisk name before mid after last first then named = tt
named_between Unsynced name before mid after last first then (inl done) = inl (has_before _ before after last then (has_later _ before mid after first done))
named_between Unsynced name before mid after last first then (inr taken) = inr (has_before _ before after last then (has_later _ before mid after first taken))
named_between Gone name before mid after last first then named = has_before _ before after last then (has_later _ before mid after first named)
named_between Damaged name before mid after last first then named = has_before _ before after last then (has_later _ before mid after first named)

-- of an answer that may not be there
pub some_named_between : {E : Type 0} (r : Result (Option Outcome) E) (name : List ℕ) (before mid after last : List Call) → Follows before mid → Follows after last
    → IfOk r (λ answer. IfSome answer (λ how. IsNamed how name mid after)) → IfOk r (λ answer. IfSome answer (λ how. IsNamed how name before last))
some_named_between (Ok (Some how)) name before mid after last first then named = named_between how name before mid after last first then named
some_named_between (Ok None) name before mid after last first then named = tt
some_named_between (Err e) name before mid after last first then named = tt

-- a cause of some answers, between some calls more
pub cause_between : {T E : Type 0} (r : Result T E) (P : T → Type 0) (C : Call → Type 0) (before mid after last : List Call) → Follows before mid → Follows after last
    → IfOk r (λ x. P x → HasCall C mid after) → IfOk r (λ x. P x → HasCall C before last)
cause_between (Ok x) P C before mid after last first then cause = λ p. has_before C before after last then (has_later C before mid after first (cause p))
cause_between (Err e) P C before mid after last first then cause = tt

-- a name that no test finds is not among some
pub none_found : {X : Type 0} (f : X → List ℕ) (t : X → Bool) (name : List ℕ) → ((x : X) → f x ≡ name → t x ≡ true) → (xs : List X) → list_any t xs ≡ false → Among name (map f xs) → ⊥
none_found f t name tells [] none among = absurd among
none_found f t name tells (x ∷ xs) none (inl is) =
    let yes : list_any t (x ∷ xs) ≡ true = ap (λ (b : Bool). b || list_any t xs) (tells x (sym is)) in
    let wrong : true ≡ false = sym yes ∙ none in
    cc
none_found f t name tells (x ∷ xs) none (inr among) = none_found f t name tells xs (rest (t x) (list_any t xs) none) among
  where
    rest : (a b : Bool) → (a || b) ≡ false → b ≡ false
    rest true b e = cc
    rest false b e = e
