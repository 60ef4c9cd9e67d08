-- How calls lead on that remove names.
use Rattle.std.proofs.Common.{◌≡◌, MatchResult, ℕ, Result, Ok, Err, Option, Some, None, List, [], ◌∷◌, ◌++◌, refl, sym, ◌∙◌, ap, subst, append_assoc}
use Rattle.folder_model.specs.Call.{Call, Made, Wrote, Synced, Linked, Removed, Settled, Locked, Unlocked, Began, Listed, Read, Looked}
use Rattle.folder_protocol.specs.Removing.{RemovesAfter, EachRemovesAfter, RemovesOnce}
use Rattle.folder_protocol.specs.Sweeping.{RemovesSuch, EachRemovesSuch, RemovesOnly}

module _ (P : List ℕ → Type 0) where
  pub removes_none : (h : List Call) → RemovesOnly P h h
  removes_none h = ([], refl, tt)

  pub removes_on : (before mid after : List Call) (call : Call) → RemovesOnly P before mid → after ≡ call ∷ mid → RemovesSuch P call → RemovesOnly P before after
  removes_on before mid after call so_far is such = (call ∷ so_far.0, is ∙ ap (λ (l : List Call). call ∷ l) so_far.1, (such, so_far.2))

  each_both : (later earlier : List Call) → EachRemovesSuch P later → EachRemovesSuch P earlier → EachRemovesSuch P (later ++ earlier)
  each_both [] earlier first second = second
  each_both (call ∷ later) earlier (such, first) second = (such, each_both later earlier first second)

  pub removes_more : (before mid after : List Call) → RemovesOnly P before mid → RemovesOnly P mid after → RemovesOnly P before after
  removes_more before mid after first second = (
    second.0 ++ first.0,
    second.1 ∙ ap (λ (l : List Call). second.0 ++ l) first.1 ∙ sym (append_assoc second.0 first.0 before),
    each_both second.0 first.0 second.2 first.2,
  )

  -- a listing removes nothing
  pub lists_remove : (answer : Option (List (List ℕ))) (h after : List Call) → after ≡ Listed answer ∷ Began ∷ h → RemovesOnly P h after
  lists_remove answer h after is = (Listed answer ∷ Began ∷ [], is, (tt, (tt, tt)))

  pub lists_remove_either : {T E : Type 0} (names : T → List (List ℕ)) (r : Result T E) (h after : List Call)
      → MatchResult r (λ x. after ≡ Listed (Some (names x)) ∷ Began ∷ h) (λ _. after ≡ Listed None ∷ Began ∷ h) → RemovesOnly P h after
  lists_remove_either names (Ok x) h after is = lists_remove (Some (names x)) h after is
  lists_remove_either names (Err e) h after is = lists_remove None h after is

  -- who removes nothing removes only such
  such_never : (call : Call) → RemovesSuch (λ name. ⊥) call → RemovesSuch P call
  such_never (Made name ok) none = tt
  such_never (Wrote bytes ok) none = tt
  such_never (Synced ok) none = tt
  such_never (Linked from to answer) none = tt
  such_never (Removed name ok) none = absurd none
  such_never (Settled ok) none = tt
  such_never (Locked kind ok) none = tt
  such_never Unlocked none = tt
  such_never Began none = tt
  such_never (Listed answer) none = tt
  such_never (Read name answer) none = tt
  such_never (Looked name ok) none = tt

  each_never : (calls : List Call) → EachRemovesSuch (λ name. ⊥) calls → EachRemovesSuch P calls
  each_never [] none = tt
  each_never (call ∷ calls) (none, rest) = (such_never call none, each_never calls rest)

  pub removes_never : (before after : List Call) → RemovesOnly (λ name. ⊥) before after → RemovesOnly P before after
  removes_never before after (calls, is, none) = (calls, is, each_never calls none)

-- ---- after which calls

module _ (P : List ℕ → List Call → Type 0) where
  pub once_none : (h : List Call) → RemovesOnce P h h
  once_none h = ([], refl, tt)

  pub once_on : (before mid after : List Call) (call : Call) → RemovesOnce P before mid → after ≡ call ∷ mid → RemovesAfter P call mid → RemovesOnce P before after
  once_on before mid after call so_far is removes = (
    call ∷ so_far.0,
    is ∙ ap (λ (l : List Call). call ∷ l) so_far.1,
    (subst (λ (l : List Call). RemovesAfter P call l) so_far.1 removes, so_far.2),
  )

  once_both : (later earlier before : List Call) → EachRemovesAfter P later (earlier ++ before) → EachRemovesAfter P earlier before → EachRemovesAfter P (later ++ earlier) before
  once_both [] earlier before first second = second
  once_both (call ∷ later) earlier before (removes, first) second =
      (subst (λ (l : List Call). RemovesAfter P call l) (sym (append_assoc later earlier before)) removes, once_both later earlier before first second)

  pub once_more : (before mid after : List Call) → RemovesOnce P before mid → RemovesOnce P mid after → RemovesOnce P before after
  once_more before mid after first second = (
    second.0 ++ first.0,
    second.1 ∙ ap (λ (l : List Call). second.0 ++ l) first.1 ∙ sym (append_assoc second.0 first.0 before),
    once_both second.0 first.0 before (subst (λ (l : List Call). EachRemovesAfter P second.0 l) first.1 second.2) first.2,
  )

  -- who removes nothing
  after_never : (call : Call) (earlier : List Call) → RemovesSuch (λ name. ⊥) call → RemovesAfter P call earlier
  after_never (Made name ok) earlier none = tt
  after_never (Wrote bytes ok) earlier none = tt
  after_never (Synced ok) earlier none = tt
  after_never (Linked from to answer) earlier none = tt
  after_never (Removed name ok) earlier none = absurd none
  after_never (Settled ok) earlier none = tt
  after_never (Locked kind ok) earlier none = tt
  after_never Unlocked earlier none = tt
  after_never Began earlier none = tt
  after_never (Listed answer) earlier none = tt
  after_never (Read name answer) earlier none = tt
  after_never (Looked name ok) earlier none = tt

  once_each_never : (calls before : List Call) → EachRemovesSuch (λ name. ⊥) calls → EachRemovesAfter P calls before
  once_each_never [] before none = tt
  once_each_never (call ∷ calls) before (none, rest) = (after_never call (calls ++ before) none, once_each_never calls before rest)

  pub once_never : (before after : List Call) → RemovesOnly (λ name. ⊥) before after → RemovesOnce P before after
  once_never before after (calls, is, none) = (calls, is, once_each_never calls before none)

-- from one to another
module _ (Q P : List ℕ → List Call → Type 0) (f : (name : List ℕ) (l : List Call) → Q name l → P name l) where
  after_so : (call : Call) (earlier : List Call) → RemovesAfter Q call earlier → RemovesAfter P call earlier
  after_so (Made name ok) earlier so = tt
  after_so (Wrote bytes ok) earlier so = tt
  after_so (Synced ok) earlier so = tt
  after_so (Linked from to answer) earlier so = tt
  after_so (Removed name ok) earlier so = f name earlier so
  after_so (Settled ok) earlier so = tt
  after_so (Locked kind ok) earlier so = tt
  after_so Unlocked earlier so = tt
  after_so Began earlier so = tt
  after_so (Listed answer) earlier so = tt
  after_so (Read name answer) earlier so = tt
  after_so (Looked name ok) earlier so = tt

  each_so : (calls before : List Call) → EachRemovesAfter Q calls before → EachRemovesAfter P calls before
  each_so [] before so = tt
  each_so (call ∷ calls) before (so, rest) = (after_so call (calls ++ before) so, each_so calls before rest)

  pub once_map : (before after : List Call) → RemovesOnce Q before after → RemovesOnce P before after
  once_map before after (calls, is, so) = (calls, is, each_so calls before so)
