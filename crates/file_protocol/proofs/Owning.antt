-- Calls of who has the lock, one after another.
use Rattle.std.proofs.Common.{◌≡◌, ℕ, Bool, true, false, List, [], ◌∷◌, ◌++◌, Option, refl, sym, ◌∙◌, ap, subst, append_assoc}
use Rattle.file_protocol.specs.Event.{Event, Opened, Locked, Compared, Renamed, Removed, Settled}
use Rattle.file_protocol.specs.Owning.{Grip, NoLock, SomeLock, OwnLock, got, found, next_grip, IsOwners, grip_after, AllOwners, Owns, OwnsAll, GetsLock, GivesBack}
use Rattle.file_protocol.proofs.Steps.{same_name}

module _ (lock : List ℕ) where
  grips_on : (grip : Grip) (later earlier : List Event) → grip_after lock grip (later ++ earlier) ≡ grip_after lock (grip_after lock grip earlier) later
  grips_on grip [] earlier = refl
  grips_on grip (call ∷ later) earlier = ap (next_grip lock call) (grips_on grip later earlier)

  all_on : (grip : Grip) (later earlier : List Event) → AllOwners lock grip earlier → AllOwners lock (grip_after lock grip earlier) later → AllOwners lock grip (later ++ earlier)
  all_on grip [] earlier all rest = all
  all_on grip (call ∷ later) earlier all rest =
      (subst (λ (x : Grip). IsOwners call x) (sym (grips_on grip later earlier)) rest.0, all_on grip later earlier all rest.1)

  -- these calls, and then those
  pub then_owns : (before mid after : List Event) (g h k : Grip) → Owns lock before g mid h → Owns lock mid h after k → Owns lock before g after k
  then_owns before mid after g h k (earlier, was, all, is_h) (later, is, rest, is_k) = (
    later ++ earlier,
    is ∙ ap (λ (l : List Event). later ++ l) was ∙ sym (append_assoc later earlier before),
    all_on g later earlier all (subst (λ (x : Grip). AllOwners lock x later) (sym is_h) rest),
    grips_on g later earlier ∙ ap (λ (x : Grip). grip_after lock x later) is_h ∙ is_k,
  )

  pub owns_one : (call : Event) (before after : List Event) (g : Grip) → after ≡ call ∷ before → IsOwners call g → Owns lock before g after (next_grip lock call g)
  owns_one call before after g is own = (call ∷ [], is, (own, tt), refl)

  pub owns_more : (call : Event) (before mid after : List Event) (g h : Grip) → Owns lock before g mid h → after ≡ call ∷ mid → IsOwners call h → Owns lock before g after (next_grip lock call h)
  owns_more call before mid after g h so_far is own = then_owns before mid after g h (next_grip lock call h) so_far (owns_one call mid after h is own)

  pub owns_as : (before after : List Event) (g h k : Grip) → Owns lock before g after h → h ≡ k → Owns lock before g after k
  owns_as before after g h k (calls, is, all, is_h) same = (calls, is, all, is_h ∙ same)

  -- no call was made
  pub owns_still : (before after : List Event) → after ≡ before → Owns lock before OwnLock after OwnLock
  owns_still before after is = ([], is, tt, refl)

  -- the lock is given back by its removal
  pub removes_own : (ok : Bool) (before mid after : List Event) → Owns lock before OwnLock mid OwnLock → after ≡ Removed lock ok ∷ mid → GivesBack lock before after
  removes_own ok before mid after so_far is = owns_more (Removed lock ok) before mid after OwnLock OwnLock so_far is refl

  -- what has any end is one of all
  pub all_of : (before after : List Event) → GetsLock lock before after → OwnsAll lock before after
  all_of before after gets = λ g. (OwnLock, gets g)

  pub all_none : (before : List Event) → OwnsAll lock before before
  all_none before = λ g. (g, ([], refl, tt, refl))

  pub all_then : (before mid after : List Event) → OwnsAll lock before mid → OwnsAll lock mid after → OwnsAll lock before after
  all_then before mid after first second = λ g.
      let one = first g in
      let two = second one.0 in
      (two.0, then_owns before mid after g one.0 two.0 one.1 two.1)

  pub gets_then : (before mid after : List Event) → OwnsAll lock before mid → GetsLock lock mid after → GetsLock lock before after
  gets_then before mid after first second = λ g.
      let one = first g in
      then_owns before mid after g one.0 OwnLock one.1 (second one.0)

  -- a lock that was had is removed
  pub gets_removed : (ok : Bool) (before mid after : List Event) → GetsLock lock before mid → after ≡ Removed lock ok ∷ mid → OwnsAll lock before after
  gets_removed ok before mid after gets is = λ g. (SomeLock, owns_more (Removed lock ok) before mid after g OwnLock (gets g) is refl)

  -- the lock's file is opened, or is not
  opened : (made : Option Bool) (h0 h1 : List Event) → h1 ≡ Opened lock made ∷ h0 → (g : Grip) → Owns lock h0 g h1 NoLock
  opened made h0 h1 is g = owns_one (Opened lock made) h0 h1 g is tt

  pub opens : (made : Option Bool) (h0 h1 : List Event) → h1 ≡ Opened lock made ∷ h0 → OwnsAll lock h0 h1
  opens made h0 h1 is = λ g. (NoLock, opened made h0 h1 is g)

  -- and its lock is asked for
  pub asks : (made : Option Bool) (got : Bool) (h0 h1 h2 : List Event) → h1 ≡ Opened lock made ∷ h0 → h2 ≡ Locked got ∷ h1 → OwnsAll lock h0 h2
  asks made true h0 h1 h2 first second = λ g. (SomeLock, owns_more (Locked true) h0 h1 h2 g NoLock (opened made h0 h1 first g) second tt)
  asks made false h0 h1 h2 first second = λ g. (NoLock, owns_more (Locked false) h0 h1 h2 g NoLock (opened made h0 h1 first g) second tt)

  -- and it is compared with what has the lock's name
  pub compares_all : (made : Option Bool) (got same : Bool) (h0 h1 h2 h3 : List Event) → h1 ≡ Opened lock made ∷ h0 → h2 ≡ Locked got ∷ h1 → h3 ≡ Compared lock same ∷ h2 → OwnsAll lock h0 h3
  compares_all made got same h0 h1 h2 h3 first second third = λ g.
      let so_far = asks made got h0 h1 h2 first second g in
      (next_grip lock (Compared lock same) so_far.0, owns_more (Compared lock same) h0 h2 h3 g so_far.0 so_far.1 third tt)

  -- so the lock is had
  pub gets_lock : (made : Option Bool) (got same : Bool) (h0 h1 h2 h3 : List Event) → h1 ≡ Opened lock made ∷ h0 → h2 ≡ Locked got ∷ h1 → h3 ≡ Compared lock same ∷ h2
      → got ≡ true → same ≡ true → GetsLock lock h0 h3
  gets_lock made got same h0 h1 h2 h3 first second third is_got is_same = λ g.
      let locked : Owns lock h0 g h2 SomeLock = owns_more (Locked true) h0 h1 h2 g NoLock (opened made h0 h1 first g) (second ∙ ap (λ (b : Bool). Locked b ∷ h1) is_got) tt in
      owns_as h0 h3 g _ OwnLock
      (owns_more (Compared lock true) h0 h2 h3 g SomeLock locked (third ∙ ap (λ (b : Bool). Compared lock b ∷ h2) is_same) tt)
      (ap (λ (b : Bool). found b SomeLock) (same_name lock))

  -- a file that is renamed, and then the folder is synced
  pub renames_own : (name : List ℕ) (ok done : Bool) (h0 h1 h2 : List Event) → h1 ≡ Renamed lock name ok ∷ h0 → h2 ≡ Settled done ∷ h1 → GivesBack lock h0 h2
  renames_own name ok done h0 h1 h2 first second = owns_more (Settled done) h0 h1 h2 OwnLock SomeLock (owns_one (Renamed lock name ok) h0 h1 OwnLock first refl) second tt

  -- one that is not, and has the lock's name still: then it is removed
  pub takes_back : (name : List ℕ) (ok same done : Bool) (h0 h1 h2 h3 : List Event) → h1 ≡ Renamed lock name ok ∷ h0 → h2 ≡ Compared lock same ∷ h1 → h3 ≡ Removed lock done ∷ h2
      → same ≡ true → GivesBack lock h0 h3
  takes_back name ok same done h0 h1 h2 h3 first second third is_same =
      removes_own done h0 h2 h3
      (owns_as h0 h2 OwnLock _ OwnLock
      (owns_more (Compared lock true) h0 h1 h2 OwnLock SomeLock (owns_one (Renamed lock name ok) h0 h1 OwnLock first refl) (second ∙ ap (λ (b : Bool). Compared lock b ∷ h1) is_same) tt)
      (ap (λ (b : Bool). found b SomeLock) (same_name lock)))
      third

  -- or has it not
  pub lets_go : (name : List ℕ) (ok same : Bool) (h0 h1 h2 : List Event) → h1 ≡ Renamed lock name ok ∷ h0 → h2 ≡ Compared lock same ∷ h1 → same ≡ false → GivesBack lock h0 h2
  lets_go name ok same h0 h1 h2 first second is_other =
      owns_more (Compared lock false) h0 h1 h2 OwnLock SomeLock (owns_one (Renamed lock name ok) h0 h1 OwnLock first refl) (second ∙ ap (λ (b : Bool). Compared lock b ∷ h1) is_other) tt
