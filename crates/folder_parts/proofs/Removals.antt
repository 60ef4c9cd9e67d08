-- A file that came is within one that is there: a file that goes is less than one that came, which is within another that is there.
use Rattle.std.specs.Prelude.{◌≡◌, ◌≢◌, ◌⊎◌, ℕ, Bool, true, false, List, [], ◌∷◌, eqb}
use Rattle.std.proofs.Common.{refl, subst, inl, inr, true-eqb, false-eqb}
use Rattle.table_model.specs.Operation.{Operation, Among}
use Rattle.folder_parts.specs.Folders.{Within, Event, Comes, Goes, Came, IsThere, IsCovered, AreCovered, NothingIsLost, IsCoveredThere, AreCoveredThere, NothingIsLostThere}

Or : List ℕ → List ℕ → Type 0
Or a b = (a ≡ b) ⊎ (a ≢ b)

same_or_not : (a b : List ℕ) → (a ≡ b) ⊎ (a ≢ b)
same_or_not [] [] = inl refl
same_or_not [] (y ∷ ys) = inr (λ e. cc)
same_or_not (x ∷ xs) [] = inr (λ e. cc)
same_or_not (x ∷ xs) (y ∷ ys) = tails (same_or_not xs ys)
  where
    heads : (b : Bool) → b ≡ eqb x y → xs ≡ ys → ((x ∷ xs) ≡ (y ∷ ys)) ⊎ ((x ∷ xs) ≢ (y ∷ ys))
    heads true h e = inl (λ i. true-eqb x y h i ∷ e i)
    heads false h e = inr (λ f. let same : x ≡ y = cc in false-eqb x y h same)

    tails : (xs ≡ ys) ⊎ (xs ≢ ys) → ((x ∷ xs) ≡ (y ∷ ys)) ⊎ ((x ∷ xs) ≢ (y ∷ ys))
    tails (inl e) = heads (eqb x y) refl e
    tails (inr n) = inr (λ f. let same : xs ≡ ys = cc in n same)

-- a file that is there and has all that another has
abbrev Kept : (List ℕ → List Operation) → List ℕ → List Event → Type 0
Kept holds file events = (there : List ℕ) × IsThere there events × Within (holds file) (holds there)

-- where a file goes that is less than one that is kept, what it kept is kept by that one
after_going : (holds : List ℕ → List Operation) (gone file : List ℕ) (events : List Event) → IsCovered holds gone events → ((other : List ℕ) → Came other events → Kept holds other events) → Kept holds file events → Kept holds file (Goes gone ∷ events)
after_going holds gone file events covered kept has = choose (same_or_not has.0 gone)
  where
    cover : Kept holds covered.0 events
    cover = kept covered.0 covered.1

    choose : (has.0 ≡ gone) ⊎ (has.0 ≢ gone) → Kept holds file (Goes gone ∷ events)
    choose (inr n) = (has.0, (n, has.1), has.2)
    choose (inl e) = (
      cover.0,
      ((λ same. covered.2.more (subst (λ (f : List ℕ). Within (holds covered.0) (holds f)) same cover.2)), cover.1),
      λ op h. cover.2 op (covered.2.within op (subst (λ (f : List ℕ). Among op (holds f)) e (has.2 op h))),
    )

keeps : (holds : List ℕ → List Operation) (events : List Event) (file : List ℕ) → AreCovered holds events → Came file events → Kept holds file events
keeps holds [] file covered came = absurd came
keeps holds (Comes other ∷ events) file covered (inl e) = (file, inl e, λ op h. h)
keeps holds (Comes other ∷ events) file covered (inr came) =
    let has = keeps holds events file covered came in (has.0, inr has.1, has.2)
keeps holds (Goes gone ∷ events) file covered came =
    after_going holds gone file events covered.0 (λ other c. keeps holds events other covered.1 c) (keeps holds events file covered.1 came)

pub there_came : (file : List ℕ) (events : List Event) → IsThere file events → Came file events
there_came file [] h = h
there_came file (Comes other ∷ events) (inl e) = inl e
there_came file (Comes other ∷ events) (inr h) = inr (there_came file events h)
there_came file (Goes other ∷ events) h = there_came file events h.1

pub nothing_lost : NothingIsLost
nothing_lost holds events covered op = (
  (λ held. (held.0, there_came held.0 events held.1, held.2)),
  (λ brought. let has = keeps holds events brought.0 covered brought.1 in (has.0, has.1, has.2 op brought.2)),
)

-- ---- a file that goes is within one that is there

-- where a file goes that is within another that is there, what it kept is kept by that one
after_removal : (holds : List ℕ → List Operation) (gone file : List ℕ) (events : List Event) → IsCoveredThere holds gone events → Kept holds file events → Kept holds file (Goes gone ∷ events)
after_removal holds gone file events covered has = choose (same_or_not has.0 gone)
  where
    choose : (has.0 ≡ gone) ⊎ (has.0 ≢ gone) → Kept holds file (Goes gone ∷ events)
    choose (inr n) = (has.0, (n, has.1), has.2)
    choose (inl e) = (covered.0, (covered.2, covered.1), λ op h. covered.3 op (subst (λ (f : List ℕ). Among op (holds f)) e (has.2 op h)))

keeps_there : (holds : List ℕ → List Operation) (events : List Event) (file : List ℕ) → AreCoveredThere holds events → Came file events → Kept holds file events
keeps_there holds [] file covered came = absurd came
keeps_there holds (Comes other ∷ events) file covered (inl e) = (file, inl e, λ op h. h)
keeps_there holds (Comes other ∷ events) file covered (inr came) =
    let has = keeps_there holds events file covered came in (has.0, inr has.1, has.2)
keeps_there holds (Goes gone ∷ events) file covered came = after_removal holds gone file events covered.0 (keeps_there holds events file covered.1 came)

pub nothing_lost_there : NothingIsLostThere
nothing_lost_there holds events covered op = (
  (λ held. (held.0, there_came held.0 events held.1, held.2)),
  (λ brought. let has = keeps_there holds events brought.0 covered brought.1 in (has.0, has.1, has.2 op brought.2)),
)
