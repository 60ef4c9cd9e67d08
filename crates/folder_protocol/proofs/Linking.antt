-- How calls lead on that give files names.
use Rattle.std.proofs.Common.{◌≡◌, MatchResult, ◌⊎◌, inl, inr, ⊎_elim, map, ◌||◌, ℕ, Bool, true, false, Result, Ok, Err, IfOk, IfSome, Option, Some, None, List, [], ◌∷◌, ◌++◌, refl, sym, ◌∙◌, ap, subst, append_assoc}
use Rattle.folder_model.specs.Call.{Call, Kind, Shared, Exclusive, Made, Wrote, Synced, Linked, Removed, Settled, Locked, Unlocked, Began, Listed, Read, Looked, lock_of}
use Rattle.folder_model.specs.Turn.{Stage, Guarded, settled, unguarded, stage_of, IsStored, HasWatched, listing_of, IsAlone}
use Rattle.std.specs.List.{list_any}
use Rattle.folder_model.specs.Disk.{Among}
use Rattle.folder_model.specs.Parts.{Parts}
use Rattle.folder_protocol.specs.declared.putting.Outcome.{Outcome}
use Rattle.folder_protocol.specs.declared.putting.Outcome.TheVariants.{OnDisk}
use Rattle.folder_protocol.specs.Linking.{IsPlain, ArePlain, GoesPlainly, LinksAfter, EachLinksAfter, LinksOnly, LinksNone, WasSo}
use Rattle.folder_protocol.proofs.Causing.{Follows, follows_none, follows_more}

-- ---- plain calls

pub plain_none : (h : List Call) → GoesPlainly h h
plain_none h = ([], refl, tt)

pub plain_on : (before mid after : List Call) (call : Call) → GoesPlainly before mid → after ≡ call ∷ mid → IsPlain call → GoesPlainly before after
plain_on before mid after call so_far is plain = (call ∷ so_far.0, is ∙ ap (λ (l : List Call). call ∷ l) so_far.1, (plain, so_far.2))

plain_both : (later earlier : List Call) → ArePlain later → ArePlain earlier → ArePlain (later ++ earlier)
plain_both [] earlier first second = second
plain_both (call ∷ later) earlier (plain, first) second = (plain, plain_both later earlier first second)

pub plain_more : (before mid after : List Call) → GoesPlainly before mid → GoesPlainly mid after → GoesPlainly before after
plain_more before mid after first second = (
  second.0 ++ first.0,
  second.1 ∙ ap (λ (l : List Call). second.0 ++ l) first.1 ∙ sym (append_assoc second.0 first.0 before),
  plain_both second.0 first.0 second.2 first.2,
)

pub plain_follows : (before after : List Call) → GoesPlainly before after → Follows before after
plain_follows before after plain = (plain.0, plain.1)

lock_past : (call : Call) (calls : List Call) → IsPlain call → lock_of (call ∷ calls) ≡ lock_of calls
lock_past (Made name ok) calls plain = refl
lock_past (Wrote bytes ok) calls plain = refl
lock_past (Synced ok) calls plain = refl
lock_past (Linked from to answer) calls plain = absurd plain
lock_past (Removed name ok) calls plain = refl
lock_past (Settled ok) calls plain = refl
lock_past (Locked kind ok) calls plain = absurd plain
lock_past Unlocked calls plain = absurd plain
lock_past Began calls plain = absurd plain
lock_past (Listed answer) calls plain = absurd plain
lock_past (Read name answer) calls plain = refl
lock_past (Looked name ok) calls plain = refl

lock_all : (calls before : List Call) → ArePlain calls → lock_of (calls ++ before) ≡ lock_of before
lock_all [] before plain = refl
lock_all (call ∷ calls) before (plain, rest) = lock_past call (calls ++ before) plain ∙ lock_all calls before rest

-- they leave the lock
pub plain_lock : (before after : List Call) → GoesPlainly before after → lock_of after ≡ lock_of before
plain_lock before after (calls, is, plain) = ap lock_of is ∙ lock_all calls before plain

-- ---- links

module _ (P : List Call → Type 0) where
  links_plain : (call : Call) (calls : List Call) → IsPlain call → LinksAfter P call calls
  links_plain (Made name ok) calls plain = tt
  links_plain (Wrote bytes ok) calls plain = tt
  links_plain (Synced ok) calls plain = tt
  links_plain (Linked from to answer) calls plain = absurd plain
  links_plain (Removed name ok) calls plain = tt
  links_plain (Settled ok) calls plain = tt
  links_plain (Locked kind ok) calls plain = tt
  links_plain Unlocked calls plain = tt
  links_plain Began calls plain = tt
  links_plain (Listed answer) calls plain = tt
  links_plain (Read name answer) calls plain = tt
  links_plain (Looked name ok) calls plain = tt

  each_plain : (calls before : List Call) → ArePlain calls → EachLinksAfter P calls before
  each_plain [] before plain = tt
  each_plain (call ∷ calls) before (plain, rest) = (links_plain call (calls ++ before) plain, each_plain calls before rest)

  -- plain calls give no names
  pub plain_links : (before after : List Call) → GoesPlainly before after → LinksOnly P before after
  plain_links before after (calls, is, plain) = (calls, is, each_plain calls before plain)

  pub links_none : (h : List Call) → LinksOnly P h h
  links_none h = ([], refl, tt)

  pub links_on : (before mid after : List Call) (call : Call) → LinksOnly P before mid → after ≡ call ∷ mid → LinksAfter P call mid → LinksOnly P before after
  links_on before mid after call so_far is links = (
    call ∷ so_far.0,
    is ∙ ap (λ (l : List Call). call ∷ l) so_far.1,
    (subst (λ (l : List Call). LinksAfter P call l) so_far.1 links, so_far.2),
  )

  each_both : (later earlier before : List Call) → EachLinksAfter P later (earlier ++ before) → EachLinksAfter P earlier before → EachLinksAfter P (later ++ earlier) before
  each_both [] earlier before first second = second
  each_both (call ∷ later) earlier before (links, first) second =
      (subst (λ (l : List Call). LinksAfter P call l) (sym (append_assoc later earlier before)) links, each_both later earlier before first second)

  pub links_more : (before mid after : List Call) → LinksOnly P before mid → LinksOnly P mid after → LinksOnly P before after
  links_more before mid after first second = (
    second.0 ++ first.0,
    second.1 ∙ ap (λ (l : List Call). second.0 ++ l) first.1 ∙ sym (append_assoc second.0 first.0 before),
    each_both second.0 first.0 before (subst (λ (l : List Call). EachLinksAfter P second.0 l) first.1 second.2) first.2,
  )

  -- ---- a moment

  pub was_now : (before after : List Call) → Follows before after → P after → WasSo P before after
  was_now before after follows so = (after, follows, follows_none after, so)

  pub was_between : (before mid after last : List Call) → Follows before mid → Follows after last → WasSo P mid after → WasSo P before last
  was_between before mid after last first then was = (was.0, follows_more before mid was.0 first was.1, follows_more was.0 after last was.2 then, was.3)

-- ---- from one to another

module _ (Q P : List Call → Type 0) (f : (l : List Call) → Q l → P l) where
  links_so : (call : Call) (calls : List Call) → LinksAfter Q call calls → LinksAfter P call calls
  links_so (Made name ok) calls so = tt
  links_so (Wrote bytes ok) calls so = tt
  links_so (Synced ok) calls so = tt
  links_so (Linked from to answer) calls so = f calls so
  links_so (Removed name ok) calls so = tt
  links_so (Settled ok) calls so = tt
  links_so (Locked kind ok) calls so = tt
  links_so Unlocked calls so = tt
  links_so Began calls so = tt
  links_so (Listed answer) calls so = tt
  links_so (Read name answer) calls so = tt
  links_so (Looked name ok) calls so = tt

  each_so : (calls before : List Call) → EachLinksAfter Q calls before → EachLinksAfter P calls before
  each_so [] before so = tt
  each_so (call ∷ calls) before (so, rest) = (links_so call (calls ++ before) so, each_so calls before rest)

  pub links_map : (before after : List Call) → LinksOnly Q before after → LinksOnly P before after
  links_map before after (calls, is, so) = (calls, is, each_so calls before so)

pub links_never : (P : List Call → Type 0) (before after : List Call) → LinksNone before after → LinksOnly P before after
links_never P before after links = links_map (λ (l : List Call). ⊥) P (λ l none. absurd none) before after links

-- no name was given before this was so, and then only at once
pub links_at : (P : List Call → Type 0) (before mid after : List Call) → LinksNone before mid → P mid → LinksOnly (λ calls. calls ≡ mid) mid after → LinksOnly P before after
links_at P before mid after none so links = links_more P before mid after (links_never P before mid none) (links_map (λ (l : List Call). l ≡ mid) P (λ l is. subst P (sym is) so) mid after links)

-- the same of an answer
pub all_was_between : {T E : Type 0} (r : Result T E) (A : T → Type 0) (P : List Call → Type 0) (before mid after last : List Call) → Follows before mid → Follows after last
    → IfOk r (λ x. A x → WasSo P mid after) → IfOk r (λ x. A x → WasSo P before last)
all_was_between (Ok x) A P before mid after last first then was = λ a. was_between P before mid after last first then (was a)
all_was_between (Err e) A P before mid after last first then was = tt

pub some_was_between : {V E : Type 0} (r : Result (Option V) E) (P : List Call → Type 0) (before mid after last : List Call) → Follows before mid → Follows after last
    → IfOk r (λ answer. IfSome answer (λ how. WasSo P mid after)) → IfOk r (λ answer. IfSome answer (λ how. WasSo P before last))
some_was_between (Ok (Some x)) P before mid after last first then was = was_between P before mid after last first then was
some_was_between (Ok None) P before mid after last first then was = tt
some_was_between (Err e) P before mid after last first then was = tt

-- an answer for which no name was given, between some calls that give none
pub all_links_between : {T E : Type 0} (r : Result T E) (A : T → Type 0) (P : List Call → Type 0) (before mid after last : List Call) → LinksOnly P before mid → LinksOnly P after last
    → IfOk r (λ x. A x → LinksOnly P mid after) → IfOk r (λ x. A x → LinksOnly P before last)
all_links_between (Ok x) A P before mid after last first then links = λ a. links_more P before after last (links_more P before mid after first (links a)) then
all_links_between (Err e) A P before mid after last first then links = tt

-- ---- a listing under the exclusive lock

pub watched_now : (names : List (List ℕ)) (h after : List Call) → lock_of h ≡ Some Exclusive → after ≡ Listed (Some names) ∷ Began ∷ h → HasWatched names after
watched_now names h after lock is = record { listed = ap listing_of is; alone = subst IsAlone (sym is) lock }

pub lists_links : (P : List Call → Type 0) (answer : Option (List (List ℕ))) (h after : List Call) → after ≡ Listed answer ∷ Began ∷ h → LinksOnly P h after
lists_links P answer h after is = links_on P h (Began ∷ h) after (Listed answer) (links_on P h h (Began ∷ h) Began (links_none P h) refl tt) is tt

-- the same of what a listing answers
pub lists_links_either : {T E : Type 0} (P : List Call → Type 0) (names : T → List (List ℕ)) (r : Result T E) (h after : List Call)
    → MatchResult r (λ x. after ≡ Listed (Some (names x)) ∷ Began ∷ h) (λ _. after ≡ Listed None ∷ Began ∷ h) → LinksOnly P h after
lists_links_either P names (Ok x) h after is = lists_links P (Some (names x)) h after is
lists_links_either P names (Err e) h after is = lists_links P None h after is

pub lists_follow : (answer : Option (List (List ℕ))) (h after : List Call) → after ≡ Listed answer ∷ Began ∷ h → Follows h after
lists_follow answer h after is = (Listed answer ∷ Began ∷ [], is)

-- ---- what is guarded

guards : (lock : Option Kind) (bytes : List ℕ) → settled true lock (Guarded bytes) ≡ Guarded bytes
guards None bytes = refl
guards (Some Shared) bytes = refl
guards (Some Exclusive) bytes = refl

-- a sync of the folder leaves it so
pub settled_guarded : (lock : Option Kind) (bytes : List ℕ) (stage : Stage) → stage ≡ Guarded bytes → settled true lock stage ≡ Guarded bytes
settled_guarded lock bytes stage is = ap (λ (s : Stage). settled true lock s) is ∙ guards lock bytes

-- it is stored when the lock is let go
pub guarded_unlocked : {E : Type 0} (r : Result Outcome E) (parts : Parts) (bytes : List ℕ) (mid after : List Call) → after ≡ Unlocked ∷ mid
    → IfOk r (λ how. how ≡ OnDisk → stage_of parts mid ≡ Guarded bytes) → IfOk r (λ how. how ≡ OnDisk → IsStored parts bytes after)
guarded_unlocked (Ok how) parts bytes mid after is guarded = λ on. inl (ap (λ (l : List Call). stage_of parts l) is ∙ ap (λ (s : Stage). unguarded s) (guarded on))
guarded_unlocked (Err e) parts bytes mid after is guarded = tt

-- an answer that is never None
pub never_none : {V E : Type 0} (X : Type 0) (r : Result (Option V) E) → IfOk r (λ answer. answer ≡ None → ⊥) → IfOk r (λ answer. answer ≡ None → X)
never_none X (Ok answer) never = λ none. absurd (never none)
never_none X (Err e) never = tt

-- a name that a test finds is among some
pub some_found : {X : Type 0} (f : X → List ℕ) (t : X → Bool) (name : List ℕ) → ((x : X) → t x ≡ true → f x ≡ name) → (xs : List X) → list_any t xs ≡ true → Among name (map f xs)
some_found f t name tells [] found = cc
some_found f t name tells (x ∷ xs) found =
    ⊎_elim (λ is. inl (sym (tells x is))) (λ later. inr (some_found f t name tells xs later)) (either (t x) (list_any t xs) found)
  where
    either : (a b : Bool) → (a || b) ≡ true → (a ≡ true) ⊎ (b ≡ true)
    either true b e = inl refl
    either false b e = inr e
