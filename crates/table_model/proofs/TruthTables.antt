-- The laws of truth values, each by its table.
use Rattle.std.specs.Prelude.{◌≡◌, ◌↔◌, min, max, true}
use Rattle.std.proofs.Common.{refl}
use Rattle.table_model.specs.Truth.{and_of, or_of, not_of, same_truth, rank, TruthLaws}
use Rattle.table_model.specs.declared.truth.Truth.{Truth}
use Rattle.table_model.specs.declared.truth.Truth.TheVariants.{False, Unknown, True}

and_least : (p q : Truth) → rank (and_of p q) ≡ min (rank p) (rank q)
and_least False False = refl
and_least False Unknown = refl
and_least False True = refl
and_least Unknown False = refl
and_least Unknown Unknown = refl
and_least Unknown True = refl
and_least True False = refl
and_least True Unknown = refl
and_least True True = refl

or_greatest : (p q : Truth) → rank (or_of p q) ≡ max (rank p) (rank q)
or_greatest False False = refl
or_greatest False Unknown = refl
or_greatest False True = refl
or_greatest Unknown False = refl
or_greatest Unknown Unknown = refl
or_greatest Unknown True = refl
or_greatest True False = refl
or_greatest True Unknown = refl
or_greatest True True = refl

not_and : (p q : Truth) → not_of (and_of p q) ≡ or_of (not_of p) (not_of q)
not_and False q = refl
not_and Unknown False = refl
not_and Unknown Unknown = refl
not_and Unknown True = refl
not_and True q = refl

not_or : (p q : Truth) → not_of (or_of p q) ≡ and_of (not_of p) (not_of q)
not_or False q = refl
not_or Unknown False = refl
not_or Unknown Unknown = refl
not_or Unknown True = refl
not_or True q = refl

not_not : (p : Truth) → not_of (not_of p) ≡ p
not_not False = refl
not_not Unknown = refl
not_not True = refl

same : (p q : Truth) → (same_truth p q ≡ true) ↔ (p ≡ q)
same False False = (λ _. refl, λ _. refl)
same False Unknown = (λ e. cc, λ e. cc)
same False True = (λ e. cc, λ e. cc)
same Unknown False = (λ e. cc, λ e. cc)
same Unknown Unknown = (λ _. refl, λ _. refl)
same Unknown True = (λ e. cc, λ e. cc)
same True False = (λ e. cc, λ e. cc)
same True Unknown = (λ e. cc, λ e. cc)
same True True = (λ _. refl, λ _. refl)

pub truths : TruthLaws
truths = record {
  and_least = and_least;
  or_greatest = or_greatest;
  not_and = not_and;
  not_or = not_or;
  not_not = not_not;
  same = same;
}
