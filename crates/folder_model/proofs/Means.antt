-- What the stage of each process means of the world, and that it stays so while others act.
use Rattle.std.proofs.Common.{◌≡◌, ◌≢◌, ◌⊎◌, inl, inr, ⊎_elim, ℕ, true, List, Some, None, refl, sym, ◌∙◌, ap, subst}
use Rattle.folder_model.specs.Call.{Call, Kind, Exclusive, lock_of, is_clean}
use Rattle.folder_model.specs.Disk.{Among, Disk}
use Rattle.folder_model.specs.Parts.{Parts, IsNoPart, IsThere, IsHeld, IsSafe, IsOnDisk}
use Rattle.folder_model.specs.Turn.{Stage, Idle, Filled, Ready, Placed, Stored, Seen, Whole, Guarded, stage_of, HasRead, Listing, Unlisted, Running, Gave, listing_of}
use Rattle.folder_model.specs.World.{World}
use Rattle.folder_model.proofs.Basics.{numbers_same}
use Rattle.folder_model.proofs.Disks.{IsHidden, Bears, Spares, LeavesFile}

-- it has made a file that has no part's name yet
abbrev pub IsMaking : Stage → Type 0
IsMaking (Filled name bytes) = Unit {0}
IsMaking (Ready name bytes) = Unit {0}
IsMaking stage = ⊥

module _ (parts : Parts) (Known : List ℕ → Type 0) where
  -- the file that this process made is hidden, and its temporary name leads there or to nothing
  pub record Holder (w : World) (p : ℕ) (name : List ℕ) : Type 0 where
    pub hidden : IsHidden parts w.disk (w.mine p)
    pub leads : (f : ℕ) → w.disk.names name ≡ Some f → f ≡ w.mine p
    pub drawn : Among name w.drawn
    pub temp : IsNoPart parts name

  pub record FilledMeans (w : World) (p : ℕ) (calls : List Call) (name bytes : List ℕ) : Type 0 where
    pub holder : Holder w p name
    pub holds : w.disk.contents (w.mine p) ≡ bytes
    pub clean : is_clean calls ≡ true

  pub record ReadyMeans (w : World) (p : ℕ) (name bytes : List ℕ) : Type 0 where
    pub holder : Holder w p name
    pub holds : w.disk.contents (w.mine p) ≡ bytes
    pub synced : w.disk.is_synced (w.mine p) ≡ true

  -- the open file is the part with these bytes
  abbrev pub IsHere : World → ℕ → List ℕ → Type 0
  IsHere w p bytes = (w.disk.names (parts.name_of bytes) ≡ Some (w.mine p)) × (w.disk.contents (w.mine p) ≡ bytes)

  pub record SeenMeans (w : World) (p : ℕ) (calls : List Call) (bytes : List ℕ) : Type 0 where
    pub clean : is_clean calls ≡ true
    pub here : IsHere w p bytes ⊎ IsHeld parts w.disk bytes
    pub alone : lock_of calls ≡ Some Exclusive → IsHere w p bytes

  pub record WholeMeans (w : World) (p : ℕ) (calls : List Call) (bytes : List ℕ) : Type 0 where
    pub held : IsHeld parts w.disk bytes
    pub alone : lock_of calls ≡ Some Exclusive → IsHere w p bytes × (w.disk.is_synced (w.mine p) ≡ true)

  pub record GuardedMeans (w : World) (calls : List Call) (bytes : List ℕ) : Type 0 where
    pub lock : lock_of calls ≡ Some Exclusive
    pub on_disk : IsOnDisk parts w.disk bytes

  abbrev pub Means : World → ℕ → List Call → Stage → Type 0
  Means w p calls Idle = Unit {0}
  Means w p calls (Filled name bytes) = FilledMeans w p calls name bytes
  Means w p calls (Ready name bytes) = ReadyMeans w p name bytes
  Means w p calls (Placed bytes) = IsHeld parts w.disk bytes
  Means w p calls (Stored bytes) = IsSafe parts w.disk bytes
  Means w p calls (Seen bytes) = SeenMeans w p calls bytes
  Means w p calls (Whole bytes) = WholeMeans w p calls bytes
  Means w p calls (Guarded bytes) = GuardedMeans w calls bytes

  -- a listing that runs
  pub record RunningMeans (w : World) (p : ℕ) (calls : List Call) : Type 0 where
    pub kind : Kind
    pub lock : lock_of calls ≡ Some kind
    pub each : (c : List ℕ) → IsThere parts (w.began p) c → Known c × (Among (parts.name_of c) (w.gone p) → ⊥)

  abbrev pub GaveMeans : World → ℕ → List (List ℕ) → Type 0
  GaveMeans w p names = (c : List ℕ) → IsThere parts (w.began p) c → Known c × Among (parts.name_of c) names

  abbrev pub ListMeans : World → ℕ → List Call → Listing → Type 0
  ListMeans w p calls Unlisted = Unit {0}
  ListMeans w p calls Running = RunningMeans w p calls
  ListMeans w p calls (Gave names) = GaveMeans w p names

  -- what holds at each moment
  pub record Sound (w : World) : Type 0 where
    pub alone : (p q : ℕ) → p ≢ q → lock_of (w.calls p) ≡ Some Exclusive → lock_of (w.calls q) ≡ None
    pub apart : (p q : ℕ) → p ≢ q → IsMaking (stage_of parts (w.calls p)) → IsMaking (stage_of parts (w.calls q)) → w.mine p ≢ w.mine q
    pub means : (p : ℕ) → Means w p (w.calls p) (stage_of parts (w.calls p))
    pub lists : (p : ℕ) → ListMeans w p (w.calls p) (listing_of (w.calls p))
    pub read : (p : ℕ) (b : List ℕ) → HasRead parts b (w.calls p) → Known b

  -- what a step leaves of one process
  pub record Fits (p : ℕ) (stage : Stage) (old new : List Call) (d e : World) : Type 0 where
    pub bears : Bears parts d.disk e.disk
    pub spares : lock_of old ≡ Some Exclusive → Spares parts d.disk e.disk
    pub leaves : IsMaking stage → (name : List ℕ) → Holder d p name → LeavesFile parts (d.mine p) name d.disk e.disk
    pub mine : e.mine p ≡ d.mine p
    pub drawn : (name : List ℕ) → Among name d.drawn → Among name e.drawn
    pub lock : lock_of new ≡ lock_of old
    pub clean : is_clean new ≡ is_clean old

  holder_stands : (p : ℕ) (stage : Stage) (old new : List Call) (d e : World) (name : List ℕ) → IsMaking stage → Fits p stage old new d e → Holder d p name → Holder e p name
  holder_stands p stage old new d e name making fits holder =
      let leaves = fits.leaves making name holder in
      record {
        hidden = subst (λ (f : ℕ). IsHidden parts e.disk f) (sym fits.mine) (leaves.hidden holder.hidden);
        leads = λ f at. holder.leads f (leaves.leads f at) ∙ sym fits.mine;
        drawn = fits.drawn name holder.drawn;
        temp = holder.temp;
      }

  here_stands : (p : ℕ) (d e : World) (b : List ℕ) → e.mine p ≡ d.mine p → Spares parts d.disk e.disk → IsHere d p b → IsHere e p b
  here_stands p d e b mine spares (at, holds) = subst (λ (f : ℕ). (e.disk.names (parts.name_of b) ≡ Some f) × (e.disk.contents f ≡ b)) (sym mine) (spares.there b (d.mine p) at holds)

  pub stands : (p : ℕ) (stage : Stage) (old new : List Call) (d e : World) → Fits p stage old new d e → Means d p old stage → Means e p new stage
  stands p Idle old new d e fits m = tt
  stands p (Filled name bytes) old new d e fits m =
      let leaves = fits.leaves tt name m.holder in
      record {
        holder = holder_stands p (Filled name bytes) old new d e name tt fits m.holder;
        holds = ap e.disk.contents fits.mine ∙ leaves.contents ∙ m.holds;
        clean = fits.clean ∙ m.clean;
      }
  stands p (Ready name bytes) old new d e fits m =
      let leaves = fits.leaves tt name m.holder in
      record {
        holder = holder_stands p (Ready name bytes) old new d e name tt fits m.holder;
        holds = ap e.disk.contents fits.mine ∙ leaves.contents ∙ m.holds;
        synced = ap e.disk.is_synced fits.mine ∙ leaves.synced m.synced;
      }
  stands p (Placed bytes) old new d e fits m = fits.bears.held bytes m
  stands p (Stored bytes) old new d e fits m = fits.bears.safe bytes m
  stands p (Seen bytes) old new d e fits m = record {
    clean = fits.clean ∙ m.clean;
    here = ⊎_elim
        (λ here. ⊎_elim
        (λ x. inl (subst (λ (f : ℕ). (e.disk.names (parts.name_of bytes) ≡ Some f) × (e.disk.contents f ≡ bytes)) (sym fits.mine) x))
        (λ h. inr h)
        (fits.bears.there bytes (d.mine p) here.0 here.1))
        (λ h. inr (fits.bears.held bytes h))
        m.here;
    alone = λ lock. let was = sym fits.lock ∙ lock in here_stands p d e bytes fits.mine (fits.spares was) (m.alone was);
  }
  stands p (Whole bytes) old new d e fits m = record {
    held = fits.bears.held bytes m.held;
    alone = λ lock. let was = sym fits.lock ∙ lock in
        let x = m.alone was in
        (here_stands p d e bytes fits.mine (fits.spares was) x.0, ap e.disk.is_synced fits.mine ∙ (fits.spares was).synced bytes (d.mine p) x.0.0 x.0.1 x.1);
  }
  stands p (Guarded bytes) old new d e fits m = record {
    lock = fits.lock ∙ m.lock;
    on_disk = (fits.spares m.lock).on_disk bytes m.on_disk;
  }

  -- what a step leaves of one process's listing
  pub record FitsList (p : ℕ) (old new : List Call) (d e : World) : Type 0 where
    pub began : e.began p ≡ d.began p
    pub gone : (kind : Kind) → lock_of old ≡ Some kind → (b : List ℕ) → Among (parts.name_of b) (e.gone p) → Among (parts.name_of b) (d.gone p)
    pub lock : lock_of new ≡ lock_of old

  pub gave_stands : (p : ℕ) (d e : World) (names : List (List ℕ)) → e.began p ≡ d.began p → GaveMeans d p names → GaveMeans e p names
  gave_stands p d e names began m c there = m c (subst (λ (x : Disk). IsThere parts x c) began there)

  pub list_stands : (p : ℕ) (listing : Listing) (old new : List Call) (d e : World) → FitsList p old new d e → ListMeans d p old listing → ListMeans e p new listing
  list_stands p Unlisted old new d e fits m = tt
  list_stands p Running old new d e fits m = record {
    kind = m.kind;
    lock = fits.lock ∙ m.lock;
    each = λ c there.
        let x = m.each c (subst (λ (y : Disk). IsThere parts y c) fits.began there) in
        (x.0, λ among. x.1 (fits.gone m.kind m.lock c among));
  }
  list_stands p (Gave names) old new d e fits m = gave_stands p d e names fits.began m

  -- ---- the others

  -- what a step leaves of all other processes
  pub record Effect (Other : ℕ → Type 0) (d e : World) : Type 0 where
    pub bears : Bears parts d.disk e.disk
    pub spares : (p : ℕ) → Other p → lock_of (d.calls p) ≡ Some Exclusive → Spares parts d.disk e.disk
    pub leaves : (p : ℕ) → Other p → IsMaking (stage_of parts (d.calls p)) → (name : List ℕ) → Holder d p name → LeavesFile parts (d.mine p) name d.disk e.disk
    pub mine : (p : ℕ) → Other p → e.mine p ≡ d.mine p
    pub drawn : (name : List ℕ) → Among name d.drawn → Among name e.drawn
    pub began : (p : ℕ) → Other p → e.began p ≡ d.began p
    pub gone : (p : ℕ) → Other p → (kind : Kind) → lock_of (d.calls p) ≡ Some kind → (b : List ℕ) → Among (parts.name_of b) (e.gone p) → Among (parts.name_of b) (d.gone p)

  module _ (Other : ℕ → Type 0) (d e : World) (sound : Sound d) (effect : Effect Other d e) where
    pub other_means : (p : ℕ) → Other p → e.calls p ≡ d.calls p → Means e p (e.calls p) (stage_of parts (e.calls p))
    other_means p other same = subst (λ (c : List Call). Means e p c (stage_of parts c)) (sym same)
        (stands p (stage_of parts (d.calls p)) (d.calls p) (d.calls p) d e (record {
          bears = effect.bears;
          spares = effect.spares p other;
          leaves = effect.leaves p other;
          mine = effect.mine p other;
          drawn = effect.drawn;
          lock = refl;
          clean = refl;
        }) (sound.means p))

    pub other_lists : (p : ℕ) → Other p → e.calls p ≡ d.calls p → ListMeans e p (e.calls p) (listing_of (e.calls p))
    other_lists p other same = subst (λ (c : List Call). ListMeans e p c (listing_of c)) (sym same)
        (list_stands p (listing_of (d.calls p)) (d.calls p) (d.calls p) d e (record {
          began = effect.began p other;
          gone = effect.gone p other;
          lock = refl;
        }) (sound.lists p))

  -- somebody else acted
  pub sound_outside : (d e : World) → Sound d → Effect (λ p. Unit {0}) d e → ((p : ℕ) → e.calls p ≡ d.calls p) → Sound e
  sound_outside d e sound effect same = record {
    alone = λ p q ne lock. ap lock_of (same q) ∙ sound.alone p q ne (ap lock_of (sym (same p)) ∙ lock);
    apart = λ p q ne first second is.
        sound.apart p q ne (subst (λ (c : List Call). IsMaking (stage_of parts c)) (same p) first) (subst (λ (c : List Call). IsMaking (stage_of parts c)) (same q) second)
        (sym (effect.mine p tt) ∙ is ∙ effect.mine q tt);
    means = λ p. other_means (λ p. Unit {0}) d e sound effect p tt (same p);
    lists = λ p. other_lists (λ p. Unit {0}) d e sound effect p tt (same p);
    read = λ p b has. sound.read p b (subst (λ (c : List Call). HasRead parts b c) (same p) has);
  }

  -- one process acted, or ended: what it has to show
  pub record Own (q : ℕ) (new : List Call) (d e : World) : Type 0 where
    pub calls : e.calls q ≡ new
    pub others : (p : ℕ) → p ≢ q → e.calls p ≡ d.calls p
    pub locks : lock_of new ≡ Some Exclusive → (p : ℕ) → p ≢ q → lock_of (d.calls p) ≡ None
    pub unlocked : (p : ℕ) → p ≢ q → lock_of (d.calls p) ≡ Some Exclusive → lock_of new ≡ None
    pub apart : (p : ℕ) → p ≢ q → IsMaking (stage_of parts (d.calls p)) → IsMaking (stage_of parts new) → d.mine p ≢ e.mine q
    pub means : Means e q new (stage_of parts new)
    pub lists : ListMeans e q new (listing_of new)
    pub read : (b : List ℕ) → HasRead parts b new → Known b

  module _ (q : ℕ) (new : List Call) (d e : World) (sound : Sound d) (effect : Effect (λ p. p ≢ q) d e) (own : Own q new d e) where
    alone_by : (p r : ℕ) → p ≢ r → (p ≡ q) ⊎ (p ≢ q) → (r ≡ q) ⊎ (r ≢ q) → lock_of (e.calls p) ≡ Some Exclusive → lock_of (e.calls r) ≡ None
    alone_by p r ne (inl is) (inl same) lock = absurd (ne (is ∙ sym same))
    alone_by p r ne (inl is) (inr other) lock =
        ap lock_of (own.others r other) ∙ own.locks (ap lock_of (sym (ap e.calls is ∙ own.calls)) ∙ lock) r other
    alone_by p r ne (inr other) (inl same) lock =
        ap lock_of (ap e.calls same ∙ own.calls) ∙ own.unlocked p other (ap lock_of (sym (own.others p other)) ∙ lock)
    alone_by p r ne (inr other) (inr another) lock =
        ap lock_of (own.others r another) ∙ sound.alone p r ne (ap lock_of (sym (own.others p other)) ∙ lock)

    making : (p : ℕ) (c : List Call) → e.calls p ≡ c → IsMaking (stage_of parts (e.calls p)) → IsMaking (stage_of parts c)
    making p c same m = subst (λ (x : List Call). IsMaking (stage_of parts x)) same m

    apart_by : (p r : ℕ) → p ≢ r → (p ≡ q) ⊎ (p ≢ q) → (r ≡ q) ⊎ (r ≢ q) → IsMaking (stage_of parts (e.calls p)) → IsMaking (stage_of parts (e.calls r)) → e.mine p ≢ e.mine r
    apart_by p r ne (inl is) (inl same) first second same_file = ne (is ∙ sym same)
    apart_by p r ne (inl is) (inr other) first second same_file =
        own.apart r other (making r (d.calls r) (own.others r other) second) (making p new (ap e.calls is ∙ own.calls) first)
        (sym (effect.mine r other) ∙ sym same_file ∙ ap e.mine is)
    apart_by p r ne (inr other) (inl same) first second same_file =
        own.apart p other (making p (d.calls p) (own.others p other) first) (making r new (ap e.calls same ∙ own.calls) second)
        (sym (effect.mine p other) ∙ same_file ∙ ap e.mine same)
    apart_by p r ne (inr other) (inr another) first second same_file =
        sound.apart p r ne (making p (d.calls p) (own.others p other) first) (making r (d.calls r) (own.others r another) second)
        (sym (effect.mine p other) ∙ same_file ∙ effect.mine r another)

    means_by : (p : ℕ) → (p ≡ q) ⊎ (p ≢ q) → Means e p (e.calls p) (stage_of parts (e.calls p))
    means_by p (inl is) = subst (λ (x : ℕ). Means e x (e.calls x) (stage_of parts (e.calls x))) (sym is) (subst (λ (c : List Call). Means e q c (stage_of parts c)) (sym own.calls) own.means)
    means_by p (inr other) = other_means (λ p. p ≢ q) d e sound effect p other (own.others p other)

    lists_by : (p : ℕ) → (p ≡ q) ⊎ (p ≢ q) → ListMeans e p (e.calls p) (listing_of (e.calls p))
    lists_by p (inl is) = subst (λ (x : ℕ). ListMeans e x (e.calls x) (listing_of (e.calls x))) (sym is) (subst (λ (c : List Call). ListMeans e q c (listing_of c)) (sym own.calls) own.lists)
    lists_by p (inr other) = other_lists (λ p. p ≢ q) d e sound effect p other (own.others p other)

    read_by : (p : ℕ) (b : List ℕ) → (p ≡ q) ⊎ (p ≢ q) → HasRead parts b (e.calls p) → Known b
    read_by p b (inl is) has = own.read b (subst (λ (c : List Call). HasRead parts b c) (ap e.calls is ∙ own.calls) has)
    read_by p b (inr other) has = sound.read p b (subst (λ (c : List Call). HasRead parts b c) (own.others p other) has)

    pub sound_by : Sound e
    sound_by = record {
      alone = λ p r ne lock. alone_by p r ne (numbers_same p q) (numbers_same r q) lock;
      apart = λ p r ne first second. apart_by p r ne (numbers_same p q) (numbers_same r q) first second;
      means = λ p. means_by p (numbers_same p q);
      lists = λ p. lists_by p (numbers_same p q);
      read = λ p b has. read_by p b (numbers_same p q) has;
    }
