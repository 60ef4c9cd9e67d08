-- How parts come to be kept.
use Rattle.std.specs.Prelude.{◌≡◌, ℕ, Bool, true, false, List, [], ◌∷◌, ◌++◌, Some, None, Result, Ok, Err, OnOk, OnErr, if◌then◌else◌}
use Rattle.std.specs.Result.{is_ok}
use Rattle.std.specs.Str.{bytes_eq}
use Rattle.std.proofs.Common.{refl, sym, ap, subst, ◌∙◌, inl, inr, ◌≢◌, ◌⊎◌, ⊎_elim, true, false, ℕ, Bool, None, Some, Ok, Err, Result, List, [], ◌∷◌, ◌++◌}
use Rattle.std.proofs.lemmas.Slice.Eq.{bytes_eq-Decides}
use Rattle.std.proofs.lemmas.Bool.{cases_Bool}
use Rattle.folder_model.specs.Call.{Call, Made, Wrote, Synced, Linked, Removed, Settled, Locked, Unlocked, Began, Listed, Read, Looked}
use Rattle.folder_model.specs.Disk.{Among}
use Rattle.folder_model.specs.Parts.{Parts}
use Rattle.folder_model.specs.Turn.{Idle, Seen, Whole, synced, HasRead, WasSynced, IsKept, HasMissed, IsGone}
use Rattle.folder_protocol.specs.Causes.{FindsNone, Fails, HasCall}
use Rattle.folder_protocol.proofs.Causing.{Follows, follows_none, follows_on, has_now, has_later, has_before}
use Rattle.folder_protocol.specs.Keeping.{AreKept, AreReliedOn, Finds, IsSyncedOrGone, IsKeptOrGone, IsSyncedOrMissed}
use Rattle.folder_protocol.specs.Linking.{LinksAfter, EachLinksAfter, LinksOnly}
use Rattle.folder_protocol.proofs.Lines.{has_read_later}

-- a part that was read and synced
pub whole_now : (parts : Parts) (name bytes : List ℕ) (before mid after : List Call) → mid ≡ Read name (Some (Some bytes)) ∷ before → after ≡ Synced true ∷ mid → name ≡ parts.name_of bytes → WasSynced parts bytes after
whole_now parts name bytes before mid after read is named =
    let test : bytes_eq name (parts.name_of bytes) ≡ true = (bytes_eq-Decides name (parts.name_of bytes)).1 named in
    let stage : synced true (if bytes_eq name (parts.name_of bytes) then Seen bytes else Idle) ≡ Whole bytes = ap (λ (t : Bool). synced true (if t then Seen bytes else Idle)) test in
    let both : after ≡ Synced true ∷ Read name (Some (Some bytes)) ∷ before = is ∙ ap (λ (l : List Call). Synced true ∷ l) read in
    subst (λ (l : List Call). WasSynced parts bytes l) (sym both) (inl stage)

-- stays so
synced_later : (parts : Parts) (bytes : List ℕ) (calls before : List Call) → WasSynced parts bytes before → WasSynced parts bytes (calls ++ before)
synced_later parts bytes [] before was = was
synced_later parts bytes (call ∷ calls) before was = inr (synced_later parts bytes calls before was)

pub synced_since : (parts : Parts) (bytes : List ℕ) (before after : List Call) → Follows before after → WasSynced parts bytes before → WasSynced parts bytes after
synced_since parts bytes before after (calls, is) was = subst (λ (l : List Call). WasSynced parts bytes l) (sym is) (synced_later parts bytes calls before was)

-- what came of one name, between calls more
pub one_between : (parts : Parts) (name : List ℕ) (first before mid after : List Call) → Follows first before → Follows mid after → IsSyncedOrGone parts name before mid → IsSyncedOrGone parts name first after
one_between parts name first before mid after earlier later (inl none) = inl (has_before (FindsNone name) first mid after later (has_later (FindsNone name) first before mid earlier none))
one_between parts name first before mid after earlier later (inr (bytes, found, was)) =
    inr (bytes, has_before (Finds name bytes) first mid after later (has_later (Finds name bytes) first before mid earlier found), λ named. synced_since parts bytes mid after later (was named))

-- and once the folder is synced
pub one_settled : (parts : Parts) (name : List ℕ) (before mid after : List Call) → after ≡ Settled true ∷ mid → IsSyncedOrGone parts name before mid → IsKeptOrGone parts name before after
one_settled parts name before mid after is (inl none) = inl (has_before (FindsNone name) before mid after (follows_on mid mid after (Settled true) (follows_none mid) is) none)
one_settled parts name before mid after is (inr (bytes, found, was)) =
    inr (bytes, has_before (Finds name bytes) before mid after (follows_on mid mid after (Settled true) (follows_none mid) is) found, λ named. subst (λ (l : List Call). IsKept parts bytes l) (sym is) (inl (was named)))

pub all_settled : {T E : Type 0} (r : Result T E) (parts : Parts) (names : List (List ℕ)) (before mid after : List Call) → after ≡ Settled (is_ok r) ∷ mid
    → ((name : List ℕ) → Among name names → IsSyncedOrGone parts name before mid) → OnOk r ((name : List ℕ) → Among name names → IsKeptOrGone parts name before after)
all_settled (Ok x) parts names before mid after is each = λ name among. one_settled parts name before mid after is (each name among)
all_settled (Err e) parts names before mid after is each = tt

-- a read that is synced, or found nothing
pub synced_now : {T E : Type 0} (r : Result T E) (parts : Parts) (name bytes : List ℕ) (before mid after : List Call) → mid ≡ Read name (Some (Some bytes)) ∷ before → after ≡ Synced (is_ok r) ∷ mid → OnOk r (IsSyncedOrGone parts name before after)
synced_now (Ok x) parts name bytes before mid after read is =
    inr (
      bytes,
      has_before (Finds name bytes) before mid after (follows_on mid mid after (Synced true) (follows_none mid) is) (has_now (Finds name bytes) before mid (Read name (Some (Some bytes))) read (refl, refl)),
      λ named. whole_now parts name bytes before mid after read is named,
    )
synced_now (Err e) parts name bytes before mid after read is = tt

pub gone_now : (parts : Parts) (name : List ℕ) (before after : List Call) → after ≡ Read name (Some None) ∷ before → IsSyncedOrGone parts name before after
gone_now parts name before after read = inl (has_now (FindsNone name) before after (Read name (Some None)) read (refl, refl))

-- any: which calls were made is the same for all
pub any_parts : Parts
any_parts = record { name_of = λ b. b; covers = λ b a. true }

-- a sync of the folder, after some calls
pub settle_fails : {T E : Type 0} (r : Result T E) (before mid after : List Call) → Follows before mid → after ≡ Settled (is_ok r) ∷ mid → OnErr r (HasCall Fails before after)
settle_fails (Ok x) before mid after first is = tt
settle_fails (Err e) before mid after first is = has_later Fails before mid after first (has_now Fails mid after (Settled false) is refl)

-- ---- what was read before

names_same : (n m : List ℕ) → (n ≡ m) ⊎ (n ≢ m)
names_same n m = by (cases_Bool (bytes_eq n m))
  where
    by : (bytes_eq n m ≡ true) ⊎ (bytes_eq n m ≡ false) → (n ≡ m) ⊎ (n ≢ m)
    by (inl t) = inl ((bytes_eq-Decides n m).0 t)
    by (inr f) = inr (λ e. let wrong : true ≡ false = sym ((bytes_eq-Decides n m).1 e) ∙ f in cc)

-- a read that is synced
pub relied_now : {T E : Type 0} (r : Result T E) (parts : Parts) (name found : List ℕ) (before mid after : List Call) → mid ≡ Read name (Some (Some found)) ∷ before → after ≡ Synced (is_ok r) ∷ mid → OnOk r (IsSyncedOrMissed parts name before after)
relied_now (Ok x) parts name found before mid after read is = λ b named has.
    ⊎_elim
    (λ same. inl (whole_now parts name b before mid after (read ∙ ap (λ (y : List ℕ). Read name (Some (Some y)) ∷ before) same) is named))
    (λ other. inr (subst (λ (l : List Call). HasMissed parts b l) (sym (is ∙ ap (λ (l : List Call). Synced true ∷ l) read)) (inl (named, other, has))))
    (names_same found b)
relied_now (Err e) parts name found before mid after read is = tt

pub missed_now : (parts : Parts) (name : List ℕ) (before after : List Call) → after ≡ Read name (Some None) ∷ before → IsSyncedOrMissed parts name before after
missed_now parts name before after read = λ b named has. inr (subst (λ (l : List Call). HasMissed parts b l) (sym read) (inl (named, has)))

missed_later : (parts : Parts) (b : List ℕ) (calls h : List Call) → HasMissed parts b h → HasMissed parts b (calls ++ h)
missed_later parts b [] h has = has
missed_later parts b (Read name (Some None) ∷ calls) h has = inr (missed_later parts b calls h has)
missed_later parts b (Read name (Some (Some found)) ∷ calls) h has = inr (missed_later parts b calls h has)
missed_later parts b (call ∷ calls) h has = missed_later parts b calls h has

pub read_since : (parts : Parts) (b : List ℕ) (before after : List Call) → Follows before after → HasRead parts b before → HasRead parts b after
read_since parts b before after (calls, is) has = subst (λ (l : List Call). HasRead parts b l) (sym is) (has_read_later parts b calls before has)

-- and some calls more
pub relied_since : (parts : Parts) (b : List ℕ) (before after : List Call) → Follows before after → WasSynced parts b before ⊎ HasMissed parts b before → WasSynced parts b after ⊎ HasMissed parts b after
relied_since parts b before after (calls, is) (inl was) = inl (synced_since parts b before after (calls, is) was)
relied_since parts b before after (calls, is) (inr has) = inr (subst (λ (l : List Call). HasMissed parts b l) (sym is) (missed_later parts b calls before has))

-- and once the folder is synced
pub relied_settled : {T E : Type 0} (r : Result T E) (parts : Parts) (names : List (List ℕ)) (before mid after : List Call) → after ≡ Settled (is_ok r) ∷ mid
    → ((name : List ℕ) → Among name names → IsSyncedOrMissed parts name before mid)
    → OnOk r ((name : List ℕ) → Among name names → (b : List ℕ) → name ≡ parts.name_of b → HasRead parts b before → IsKept parts b after ⊎ IsGone parts b after)
relied_settled (Ok x) parts names before mid after is each = λ name among b named has.
    ⊎_elim
    (λ was. inl (subst (λ (l : List Call). IsKept parts b l) (sym is) (inl was)))
    (λ missed. inr (subst (λ (l : List Call). IsGone parts b l) (sym is) (inl missed)))
    (each name among b named has)
relied_settled (Err e) parts names before mid after is each = tt

-- ---- what stays kept

-- a part, after some calls more
kept_on : (parts : Parts) (bytes : List ℕ) (calls h : List Call) → IsKept parts bytes h → IsKept parts bytes (calls ++ h)
kept_on parts bytes [] h kept = kept
kept_on parts bytes (Settled true ∷ calls) h kept = inr (kept_on parts bytes calls h kept)
kept_on parts bytes (call ∷ calls) h kept = kept_on parts bytes calls h kept

-- and so do all of some names
pub kept_later : (parts : Parts) (names : List (List ℕ)) (before mid after : List Call) → Follows mid after → AreKept parts names before mid → AreKept parts names before after
kept_later parts names before mid after later are name among = by (are name among)
  where
    by : IsKeptOrGone parts name before mid → IsKeptOrGone parts name before after
    by (inl none) = inl (has_before (FindsNone name) before mid after later none)
    by (inr (bytes, found, kept)) = inr (bytes, has_before (Finds name bytes) before mid after later found, λ named. subst (λ (l : List Call). IsKept parts bytes l) (sym later.1) (kept_on parts bytes later.0 mid (kept named)))

-- what is so is so of an answer
pub on_ok : {T E P : Type 0} (r : Result T E) → P → OnOk r P
on_ok (Ok x) p = p
on_ok (Err e) p = tt

-- a part that is gone, too
gone_on : (parts : Parts) (bytes : List ℕ) (calls h : List Call) → IsGone parts bytes h → IsGone parts bytes (calls ++ h)
gone_on parts bytes [] h gone = gone
gone_on parts bytes (Settled true ∷ calls) h gone = inr (gone_on parts bytes calls h gone)
gone_on parts bytes (call ∷ calls) h gone = gone_on parts bytes calls h gone

-- and so do all on which something relies
pub relied_later : (parts : Parts) (names : List (List ℕ)) (before mid after : List Call) → Follows mid after → AreReliedOn parts names before mid → AreReliedOn parts names before after
relied_later parts names before mid after later are name among b named has = ⊎_elim
    (λ kept. inl (subst (λ (l : List Call). IsKept parts b l) (sym later.1) (kept_on parts b later.0 mid kept)))
    (λ gone. inr (subst (λ (l : List Call). IsGone parts b l) (sym later.1) (gone_on parts b later.0 mid gone)))
    (are name among b named has)

-- ---- what stays so as files are given names

module _ (P : List Call → Type 0) (mid : List Call) (so : (calls : List Call) → P (calls ++ mid)) where
  link_since : (call : Call) (calls : List Call) → LinksAfter P call (calls ++ mid)
  link_since (Made name ok) calls = tt
  link_since (Wrote bytes ok) calls = tt
  link_since (Synced ok) calls = tt
  link_since (Linked from to answer) calls = so calls
  link_since (Removed name ok) calls = tt
  link_since (Settled ok) calls = tt
  link_since (Locked kind ok) calls = tt
  link_since Unlocked calls = tt
  link_since Began calls = tt
  link_since (Listed answer) calls = tt
  link_since (Read name answer) calls = tt
  link_since (Looked name ok) calls = tt

  each_since : (calls : List Call) → EachLinksAfter P calls mid
  each_since [] = tt
  each_since (call ∷ calls) = (link_since call calls, each_since calls)

  pub links_since : (after : List Call) → Follows mid after → LinksOnly P mid after
  links_since after (calls, is) = (calls, is, each_since calls)

-- files are given names once all of some names are kept
pub kept_first : (parts : Parts) (names : List (List ℕ)) (before mid after : List Call) → Follows mid after → AreKept parts names before mid → LinksOnly (AreKept parts names before) mid after
kept_first parts names before mid after later are = links_since (AreKept parts names before) mid (λ calls. kept_later parts names before mid (calls ++ mid) (calls, refl) are) after later
