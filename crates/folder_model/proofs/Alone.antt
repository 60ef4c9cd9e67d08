-- Who lists under the exclusive lock, and keeps it, has listed what the others did before.
use Rattle.std.proofs.Common.{◌≡◌, ◌≢◌, ◌⊎◌, inl, inr, ⊎_elim, ℕ, List, [], ◌∷◌, Some, refl, sym, ◌∙◌, ap, subst}
use Rattle.folder_model.specs.Call.{Call, Made, Wrote, Synced, Linked, Removed, Settled, Locked, Unlocked, Began, Listed, Read, Looked, Exclusive, Done, Taken, Failed, lock_of}
use Rattle.folder_model.specs.Disk.{Disk}
use Rattle.folder_model.specs.Parts.{Parts, IsOrder, IsThere, IsHeld, IsSafe}
use Rattle.folder_model.specs.Turn.{Stage, Ready, Placed, stage_of, linked, Listing, Unlisted, Gave, listing_of, IsAlone, HasWatched, HasPlaced}
use Rattle.folder_model.specs.World.{World}
use Rattle.folder_model.specs.Run.{Event, By, Comes, Leaves, Ends, PowerLost, Run, AtSome, SinceLoss, BeforeListing, HasPut, IsQuiet}
use Rattle.folder_model.specs.Laws.{IsFair, Lists, FindsAmong}
use Rattle.folder_model.proofs.Basics.{some_none, numbers_same}
use Rattle.folder_model.proofs.Means.{Means, ListMeans, GaveMeans, Sound}
use Rattle.folder_model.proofs.Runs.{NotBegan, sound_run, held_run, same_began, began_held, put_listing}

-- who is alone has the exclusive lock
alone_locks : (calls : List Call) → IsAlone calls → lock_of calls ≡ Some Exclusive
alone_locks [] alone = absurd alone
alone_locks (Began ∷ earlier) alone = alone
alone_locks (Locked kind ok ∷ earlier) alone = absurd alone
alone_locks (Unlocked ∷ earlier) alone = absurd alone
alone_locks (call ∷ earlier) alone = alone_locks earlier alone

alone_before : (call : Call) (calls : List Call) → NotBegan call → IsAlone (call ∷ calls) → IsAlone calls
alone_before Began calls not alone = absurd not
alone_before (Locked kind ok) calls not alone = absurd alone
alone_before Unlocked calls not alone = absurd alone
alone_before (Made name ok) calls not alone = alone
alone_before (Wrote bytes ok) calls not alone = alone
alone_before (Synced ok) calls not alone = alone
alone_before (Linked from to answer) calls not alone = alone
alone_before (Removed name ok) calls not alone = alone
alone_before (Settled ok) calls not alone = alone
alone_before (Listed answer) calls not alone = alone
alone_before (Read name answer) calls not alone = alone
alone_before (Looked name ok) calls not alone = alone

placed_before : (parts : Parts) (b : List ℕ) (names : List (List ℕ)) (call : Call) (calls : List Call) → HasPlaced parts b names (call ∷ calls)
    → ((from to : List ℕ) × (call ≡ Linked from to Done) × (stage_of parts calls ≡ Ready from b) × HasWatched names calls) ⊎ HasPlaced parts b names calls
placed_before parts b names (Linked from to Done) calls (inl (ready, watched)) = inl (from, to, refl, ready, watched)
placed_before parts b names (Linked from to Done) calls (inr has) = inr has
placed_before parts b names (Linked from to Taken) calls has = inr has
placed_before parts b names (Linked from to Failed) calls has = inr has
placed_before parts b names Began calls has = inr has
placed_before parts b names (Locked kind ok) calls has = inr has
placed_before parts b names Unlocked calls has = inr has
placed_before parts b names (Made name ok) calls has = inr has
placed_before parts b names (Wrote bytes ok) calls has = inr has
placed_before parts b names (Synced ok) calls has = inr has
placed_before parts b names (Removed name ok) calls has = inr has
placed_before parts b names (Settled ok) calls has = inr has
placed_before parts b names (Listed answer) calls has = inr has
placed_before parts b names (Read name answer) calls has = inr has
placed_before parts b names (Looked name ok) calls has = inr has

not_alone : (w : World) (p : ℕ) → w.calls p ≡ [] → IsAlone (w.calls p) → ⊥
not_alone w p none alone = absurd (subst IsAlone none alone)

module _ (parts : Parts) (order : IsOrder parts) (Known : List ℕ → Type 0) (distinct : (a b : List ℕ) → Known a → Known b → parts.name_of a ≡ parts.name_of b → a ≡ b) where
  -- what is so at a moment since the last loss of power, by what holds at each moment
  since : (P Q : World → Type 0) → ((w : World) → Sound parts Known w → P w → Q w) → (events : List Event) (d e : World) (run : Run parts events d e) → IsQuiet d
      → ((b : List ℕ) → AtSome (λ w. IsThere parts w.disk b) parts events d e run → Known b)
      → SinceLoss P parts events d e run → SinceLoss Q parts events d e run
  since P Q f [] d e run quiet known at = f e (sound_run parts order Known distinct [] d e run quiet known) at
  since P Q f (PowerLost ∷ earlier) d e run quiet known at = f e (sound_run parts order Known distinct (PowerLost ∷ earlier) d e run quiet known) at
  since P Q f (event ∷ earlier) d e run quiet known (inl at) = inl (f e (sound_run parts order Known distinct (event ∷ earlier) d e run quiet known) at)
  since P Q f (event ∷ earlier) d e (v, run, happens) quiet known (inr at) = inr (since P Q f earlier d v run quiet (λ x t. known x (inr t)) at)

  abbrev Before : ℕ → List ℕ → World → Type 0
  Before q b w = (lock_of (w.calls q) ≢ Some Exclusive) × IsHeld parts w.disk b

  -- what was held while it had not the lock was held when its listing began
  since_began : (events : List Event) (d e : World) (run : Run parts events d e) → IsQuiet d
      → ((b : List ℕ) → AtSome (λ w. IsThere parts w.disk b) parts events d e run → Known b)
      → (q : ℕ) (b : List ℕ) → IsAlone (e.calls q) → SinceLoss (Before q b) parts events d e run → IsHeld parts (e.began q) b
  since_began [] d e run quiet known q b alone at = absurd (not_alone e q (ap (λ (w : World). w.calls q) run ∙ quiet q) alone)
  since_began (PowerLost ∷ earlier) d e (v, run, happens) quiet known q b alone at = absurd (not_alone e q (happens.calls q) alone)
  since_began (event ∷ earlier) d e run quiet known q b alone (inl now) = absurd (now.0 (alone_locks (e.calls q) alone))
  since_began (By r Began ∷ earlier) d e (v, run, happens) quiet known q b alone (inr at) = ⊎_elim
      (λ is.
      let held = held_run parts order Known distinct earlier d v run quiet (λ x t. known x (inr t)) b
      (since (Before q b) (λ w. IsHeld parts w.disk b) (λ w sound before. before.1) earlier d v run quiet (λ x t. known x (inr t)) at) in
      subst (λ (x : ℕ). IsHeld parts (e.began x) b) is (subst (λ (x : Disk). IsHeld parts x b) (sym happens.does.lists.own) held))
      (λ other.
      let was = since_began earlier d v run quiet (λ x t. known x (inr t)) q b (subst IsAlone (happens.notes.others q (λ is. other (sym is))) alone) at in
      subst (λ (x : Disk). IsHeld parts x b) (sym (happens.does.lists.others q (λ is. other (sym is)))) was)
      (numbers_same r q)
  since_began (By r call ∷ earlier) d e (v, run, happens) quiet known q b alone (inr at) =
      let before : IsAlone (v.calls q) = ⊎_elim
      (λ is. subst (λ (x : ℕ). IsAlone (v.calls x)) is (alone_before call (v.calls r) tt (subst IsAlone happens.notes.own (subst (λ (x : ℕ). IsAlone (e.calls x)) (sym is) alone))))
      (λ other. subst IsAlone (happens.notes.others q (λ is. other (sym is))) alone)
      (numbers_same r q) in
      let was = since_began earlier d v run quiet (λ x t. known x (inr t)) q b before at in
      subst (λ (x : Disk). IsHeld parts x b) (sym (same_began parts order Known distinct r call v e tt happens.does q)) was
  since_began (Comes name bytes ∷ earlier) d e (v, run, happens) quiet known q b alone (inr at) =
      let was = since_began earlier d v run quiet (λ x t. known x (inr t)) q b (subst IsAlone (happens.calls q) alone) at in
      subst (λ (x : Disk). IsHeld parts x b) (sym (happens.stays.lists.began q)) was
  since_began (Leaves name ∷ earlier) d e (v, run, happens) quiet known q b alone (inr at) =
      let was = since_began earlier d v run quiet (λ x t. known x (inr t)) q b (subst IsAlone (happens.calls q) alone) at in
      subst (λ (x : Disk). IsHeld parts x b) (sym (happens.removes.lists.began q)) was
  since_began (Ends r ∷ earlier) d e (v, run, happens) quiet known q b alone (inr at) = ⊎_elim
      (λ is. absurd (not_alone e q (ap e.calls is ∙ happens.own) alone))
      (λ other.
      let was = since_began earlier d v run quiet (λ x t. known x (inr t)) q b (subst IsAlone (happens.others q other) alone) at in
      subst (λ (x : Disk). IsHeld parts x b) (sym (happens.stays.lists.began q)) was)
      (numbers_same q r)

  -- what was held when a listing began was listed
  listed_began : (e : World) → Sound parts Known e → (q : ℕ) (names : List (List ℕ)) → listing_of (e.calls q) ≡ Gave names → (b : List ℕ) → IsHeld parts (e.began q) b → Lists parts names b
  listed_began e sound q names listed b (part, file, at, holds, synced, covers) =
      let m : GaveMeans parts Known e q names = subst (λ (l : Listing). ListMeans parts Known e q (e.calls q) l) listed (sound.lists q) in
      (part, (m part (file, at, holds)).1, covers)

  listed_since : (events : List Event) (d e : World) (run : Run parts events d e) → IsQuiet d
      → ((b : List ℕ) → AtSome (λ w. IsThere parts w.disk b) parts events d e run → Known b)
      → (q : ℕ) (names : List (List ℕ)) (b : List ℕ) → HasWatched names (e.calls q) → SinceLoss (Before q b) parts events d e run → Lists parts names b
  listed_since events d e run quiet known q names b watched at =
      listed_began e (sound_run parts order Known distinct events d e run quiet known) q names watched.listed b (since_began events d e run quiet known q b watched.alone at)

  -- ---- two processes

  -- a part was given its name by a process that is alone
  record Joined (p : ℕ) (b : List ℕ) (names : List (List ℕ)) (w : World) : Type 0 where
    watched : HasWatched names (w.calls p)
    held : IsHeld parts w.disk b

  joined_now : (e : World) → Sound parts Known e → (p : ℕ) (from to b : List ℕ) (names : List (List ℕ)) (calls : List Call) → e.calls p ≡ Linked from to Done ∷ calls
      → stage_of parts calls ≡ Ready from b → HasWatched names calls → Joined p b names e
  joined_now e sound p from to b names calls own ready watched =
      let stage : stage_of parts (e.calls p) ≡ Placed b = ap (λ (l : List Call). stage_of parts l) own ∙ ap (λ (s : Stage). linked Done s) ready in
      record {
        watched = record { listed = ap listing_of own ∙ watched.listed; alone = subst IsAlone (sym own) watched.alone };
        held = subst (λ (x : Stage). Means parts Known e p (e.calls p) x) stage (sound.means p);
      }

  placed_now : (events : List Event) (d e : World) (run : Run parts events d e) → IsQuiet d
      → ((b : List ℕ) → AtSome (λ w. IsThere parts w.disk b) parts events d e run → Known b)
      → (p : ℕ) (b : List ℕ) (names : List (List ℕ)) → HasPlaced parts b names (e.calls p) → SinceLoss (Joined p b names) parts events d e run
  placed_now [] d e run quiet known p b names has = absurd (subst (λ (l : List Call). HasPlaced parts b names l) (ap (λ (w : World). w.calls p) run ∙ quiet p) has)
  placed_now (PowerLost ∷ earlier) d e (v, run, happens) quiet known p b names has = absurd (subst (λ (l : List Call). HasPlaced parts b names l) (happens.calls p) has)
  placed_now (By r call ∷ earlier) d e (v, run, happens) quiet known p b names has = ⊎_elim
      (λ is.
      let own : e.calls p ≡ call ∷ v.calls p = subst (λ (x : ℕ). e.calls x ≡ call ∷ v.calls x) is happens.notes.own in
      ⊎_elim
      (λ (now : (from to : List ℕ) × (call ≡ Linked from to Done) × (stage_of parts (v.calls p) ≡ Ready from b) × HasWatched names (v.calls p)).
      inl (joined_now e (sound_run parts order Known distinct (By r call ∷ earlier) d e (v, run, happens) quiet known) p now.0 now.1 b names (v.calls p) (own ∙ ap (λ (c : Call). c ∷ v.calls p) now.2) now.3 now.4))
      (λ before. inr (placed_now earlier d v run quiet (λ x t. known x (inr t)) p b names before))
      (placed_before parts b names call (v.calls p) (subst (λ (l : List Call). HasPlaced parts b names l) own has)))
      (λ other. inr (placed_now earlier d v run quiet (λ x t. known x (inr t)) p b names (subst (λ (l : List Call). HasPlaced parts b names l) (happens.notes.others p (λ is. other (sym is))) has)))
      (numbers_same r p)
  placed_now (Comes name bytes ∷ earlier) d e (v, run, happens) quiet known p b names has =
      inr (placed_now earlier d v run quiet (λ x t. known x (inr t)) p b names (subst (λ (l : List Call). HasPlaced parts b names l) (happens.calls p) has))
  placed_now (Leaves name ∷ earlier) d e (v, run, happens) quiet known p b names has =
      inr (placed_now earlier d v run quiet (λ x t. known x (inr t)) p b names (subst (λ (l : List Call). HasPlaced parts b names l) (happens.calls p) has))
  placed_now (Ends r ∷ earlier) d e (v, run, happens) quiet known p b names has = ⊎_elim
      (λ is. absurd (subst (λ (l : List Call). HasPlaced parts b names l) (ap e.calls is ∙ happens.own) has))
      (λ other. inr (placed_now earlier d v run quiet (λ x t. known x (inr t)) p b names (subst (λ (l : List Call). HasPlaced parts b names l) (happens.others p other) has)))
      (numbers_same p r)

  placed_when : (events : List Event) (d e : World) (run : Run parts events d e) → IsQuiet d
      → ((b : List ℕ) → AtSome (λ w. IsThere parts w.disk b) parts events d e run → Known b)
      → (p : ℕ) (b : List ℕ) (names : List (List ℕ)) → SinceLoss (λ w. HasPlaced parts b names (w.calls p)) parts events d e run → SinceLoss (Joined p b names) parts events d e run
  placed_when [] d e run quiet known p b names at = placed_now [] d e run quiet known p b names at
  placed_when (PowerLost ∷ earlier) d e run quiet known p b names at = placed_now (PowerLost ∷ earlier) d e run quiet known p b names at
  placed_when (event ∷ earlier) d e run quiet known p b names (inl at) = placed_now (event ∷ earlier) d e run quiet known p b names at
  placed_when (event ∷ earlier) d e (v, run, happens) quiet known p b names (inr at) = inr (placed_when earlier d v run quiet (λ x t. known x (inr t)) p b names at)

  -- while one has the lock another has not
  joined_before : (p q : ℕ) → p ≢ q → (a : List ℕ) (seen : List (List ℕ)) (w : World) → Sound parts Known w → Joined p a seen w → Before q a w
  joined_before p q ne a seen w sound joined = (λ lock. some_none Exclusive (sym lock ∙ sound.alone p q ne (alone_locks (w.calls p) joined.watched.alone)), joined.held)

  both : (p q : ℕ) → p ≢ q → (a b : List ℕ) (seen have : List (List ℕ)) (w : World) → Sound parts Known w → Joined p a seen w → Joined q b have w → ⊥
  both p q ne a b seen have w sound first second = (joined_before p q ne a seen w sound first).0 (alone_locks (w.calls q) second.watched.alone)

  apart : (events : List Event) (d e : World) (run : Run parts events d e) → IsQuiet d
      → ((b : List ℕ) → AtSome (λ w. IsThere parts w.disk b) parts events d e run → Known b)
      → (p q : ℕ) → p ≢ q → (a b : List ℕ) (seen have : List (List ℕ)) → SinceLoss (Joined p a seen) parts events d e run → SinceLoss (Joined q b have) parts events d e run
      → Lists parts have a ⊎ Lists parts seen b
  apart [] d e run quiet known p q ne a b seen have first second = absurd (both p q ne a b seen have e (sound_run parts order Known distinct [] d e run quiet known) first second)
  apart (PowerLost ∷ earlier) d e run quiet known p q ne a b seen have first second =
      absurd (both p q ne a b seen have e (sound_run parts order Known distinct (PowerLost ∷ earlier) d e run quiet known) first second)
  apart (event ∷ earlier) d e run quiet known p q ne a b seen have (inl first) (inl second) =
      absurd (both p q ne a b seen have e (sound_run parts order Known distinct (event ∷ earlier) d e run quiet known) first second)
  apart (event ∷ earlier) d e run quiet known p q ne a b seen have (inr first) (inl second) =
      inl (listed_since (event ∷ earlier) d e run quiet known q have a second.watched
      (since (Joined p a seen) (Before q a) (joined_before p q ne a seen) (event ∷ earlier) d e run quiet known (inr first)))
  apart (event ∷ earlier) d e run quiet known p q ne a b seen have (inl first) (inr second) =
      inr (listed_since (event ∷ earlier) d e run quiet known p seen b first.watched
      (since (Joined q b have) (Before p b) (joined_before q p (λ is. ne (sym is)) b have) (event ∷ earlier) d e run quiet known (inr second)))
  apart (event ∷ earlier) d e (v, run, happens) quiet known p q ne a b seen have (inr first) (inr second) =
      apart earlier d v run quiet (λ x t. known x (inr t)) p q ne a b seen have first second

  not_unlisted : (calls : List Call) (names : List (List ℕ)) → listing_of calls ≡ Gave names → listing_of calls ≡ Unlisted → ⊥
  not_unlisted calls names listed un = let x : Gave names ≡ Unlisted = sym listed ∙ un in clash x
    where
      clash : Gave names ≡ Unlisted → ⊥
      clash is = cc

  put_listed : (events : List Event) (d e : World) (run : Run parts events d e) → IsQuiet d
      → ((b : List ℕ) → AtSome (λ w. IsThere parts w.disk b) parts events d e run → Known b)
      → (q : ℕ) (names : List (List ℕ)) → listing_of (e.calls q) ≡ Gave names → (b : List ℕ) → BeforeListing (HasPut parts b) q parts events d e run → Lists parts names b
  put_listed events d e run quiet known q names listed b at =
      listed_began e (sound_run parts order Known distinct events d e run quiet known) q names listed b
      (began_held parts order Known distinct events d e run quiet known q (not_unlisted (e.calls q) names listed) b (put_listing parts order Known distinct q events d e run quiet known b at))

  -- what was held when a listing began was listed, and is what is read under its name
  found_began : (e : World) → Sound parts Known e → (q : ℕ) (names : List (List ℕ)) → listing_of (e.calls q) ≡ Gave names → (b : List ℕ) → IsHeld parts (e.began q) b → FindsAmong parts names (e.calls q) b
  found_began e sound q names listed b (part, file, at, holds, synced, covers) =
      let m : GaveMeans parts Known e q names = subst (λ (l : Listing). ListMeans parts Known e q (e.calls q) l) listed (sound.lists q) in
      let x = m part (file, at, holds) in
      (part, x.1, covers, λ read has named. distinct read part (sound.read q read has) x.0 named)

  safe_found : (events : List Event) (d e : World) (run : Run parts events d e) → IsQuiet d
      → ((b : List ℕ) → AtSome (λ w. IsThere parts w.disk b) parts events d e run → Known b)
      → (q : ℕ) (names : List (List ℕ)) → listing_of (e.calls q) ≡ Gave names → (b : List ℕ) → BeforeListing (λ w. IsSafe parts w.disk b) q parts events d e run → FindsAmong parts names (e.calls q) b
  safe_found events d e run quiet known q names listed b at =
      found_began e (sound_run parts order Known distinct events d e run quiet known) q names listed b
      (began_held parts order Known distinct events d e run quiet known q (not_unlisted (e.calls q) names listed) b at)

  put_found : (events : List Event) (d e : World) (run : Run parts events d e) → IsQuiet d
      → ((b : List ℕ) → AtSome (λ w. IsThere parts w.disk b) parts events d e run → Known b)
      → (q : ℕ) (names : List (List ℕ)) → listing_of (e.calls q) ≡ Gave names → (b : List ℕ) → BeforeListing (HasPut parts b) q parts events d e run → FindsAmong parts names (e.calls q) b
  put_found events d e run quiet known q names listed b at =
      found_began e (sound_run parts order Known distinct events d e run quiet known) q names listed b
      (began_held parts order Known distinct events d e run quiet known q (not_unlisted (e.calls q) names listed) b (put_listing parts order Known distinct q events d e run quiet known b at))

module _ (parts : Parts) (events : List Event) (d e : World) (run : Run parts events d e) (fair : IsFair parts events d e run) where
  abbrev Known : List ℕ → Type 0
  Known b = AtSome (λ w. IsThere parts w.disk b) parts events d e run

  pub put_is_listed : (q : ℕ) (names : List (List ℕ)) → listing_of (e.calls q) ≡ Gave names → (b : List ℕ) → BeforeListing (HasPut parts b) q parts events d e run → Lists parts names b
  put_is_listed q names listed b at = put_listed parts fair.order Known fair.distinct events d e run fair.quiet (λ x t. t) q names listed b at

  pub put_is_found : (q : ℕ) (names : List (List ℕ)) → listing_of (e.calls q) ≡ Gave names → (b : List ℕ) → BeforeListing (HasPut parts b) q parts events d e run → FindsAmong parts names (e.calls q) b
  put_is_found q names listed b at = put_found parts fair.order Known fair.distinct events d e run fair.quiet (λ x t. t) q names listed b at

  pub safe_is_found : (q : ℕ) (names : List (List ℕ)) → listing_of (e.calls q) ≡ Gave names → (b : List ℕ) → BeforeListing (λ w. IsSafe parts w.disk b) q parts events d e run → FindsAmong parts names (e.calls q) b
  safe_is_found q names listed b at = safe_found parts fair.order Known fair.distinct events d e run fair.quiet (λ x t. t) q names listed b at

  pub watched_is_listed : (q : ℕ) (names : List (List ℕ)) → HasWatched names (e.calls q) → (b : List ℕ)
      → SinceLoss (λ w. (lock_of (w.calls q) ≢ Some Exclusive) × IsHeld parts w.disk b) parts events d e run → Lists parts names b
  watched_is_listed q names watched b at = listed_since parts fair.order Known fair.distinct events d e run fair.quiet (λ x t. t) q names b watched at

  pub placed_apart : (p q : ℕ) → p ≢ q → (a b : List ℕ) (seen have : List (List ℕ))
      → SinceLoss (λ w. HasPlaced parts a seen (w.calls p)) parts events d e run → SinceLoss (λ w. HasPlaced parts b have (w.calls q)) parts events d e run
      → Lists parts have a ⊎ Lists parts seen b
  placed_apart p q ne a b seen have first second = apart parts fair.order Known fair.distinct events d e run fair.quiet (λ x t. t) p q ne a b seen have
      (placed_when parts fair.order Known fair.distinct events d e run fair.quiet (λ x t. t) p a seen first)
      (placed_when parts fair.order Known fair.distinct events d e run fair.quiet (λ x t. t) q b have second)
