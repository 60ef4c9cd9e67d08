-- A name that is less than the one that a run begins with, or not less than the one that the next run begins with, is not in that run.
use Rattle.std.specs.Prelude.{◌≡◌, ℕ, zero, suc, ◌-◌, ◌≤◌, ◌<◌, Bool, true, false, not, cond, ◌==◌, List, [], ◌∷◌, length}
use Rattle.std.proofs.Common.{refl, sym, ap, ◌∙◌, get_or, subst, arith}
use Rattle.std.proofs.lemmas.Bool.{false≢true, ne_eqb}
use Rattle.std.specs.Ordering.{is_lt}
use Rattle.table_model.specs.Name.{name_cmp}
use Rattle.table_model.specs.declared.names.BatchName.{BatchName}
use Rattle.table_spread.specs.Spread.{run_of}

pub is_false : (b : Bool) → not b ≡ true → b ≡ false
is_false true h = absurd (false≢true h)
is_false false h = refl

-- a name is in no run past one before which it is
at_most : (firsts : List BatchName) (name d : BatchName) (k : ℕ) → k < length firsts → is_lt (name_cmp name (get_or firsts k d)) ≡ true → run_of firsts name ≤ k
at_most [] name d k l h = absurd (omega arith)
at_most (first ∷ firsts) name d zero l h = subst (λ (b : Bool). cond b 0 (suc (run_of firsts name)) ≤ 0) (sym h) (omega arith)
at_most (first ∷ firsts) name d (suc k) l h =
    elim (is_lt (name_cmp name first)) as (λ b. cond b 0 (suc (run_of firsts name)) ≤ suc k) [
      | true ↦ omega arith
      | false ↦ omega (arith, at_most firsts name d k (omega (arith, l)) h)
    ]

pub before_run : (firsts : List BatchName) (name d : BatchName) (index : ℕ) → 0 < index → index ≤ length firsts → is_lt (name_cmp name (get_or firsts (index - 1) d)) ≡ true → (run_of firsts name == index) ≡ false
before_run firsts name d index some within h = ne_eqb (run_of firsts name) index (λ e. absurd (omega (arith, e, some, at_most firsts name d (index - 1) (omega (arith, some, within)) h)))

other_run : (firsts : List BatchName) (name d : BatchName) (index : ℕ) → index < length firsts → is_lt (name_cmp name (get_or firsts index d)) ≡ false → run_of firsts name ≡ index → ⊥
other_run [] name d index l h e = absurd (omega arith)
other_run (first ∷ firsts) name d zero l h e =
    let next : suc (run_of firsts name) ≡ 0 = sym (ap (λ b. cond b 0 (suc (run_of firsts name))) h) ∙ e in
    absurd (omega (arith, next))
other_run (first ∷ firsts) name d (suc k) l h e =
    (elim (is_lt (name_cmp name first)) as (λ b. cond b 0 (suc (run_of firsts name)) ≡ suc k → ⊥) [
      | true ↦ λ none. absurd (omega (arith, none))
      | false ↦ λ some. other_run firsts name d k (omega (arith, l)) h (omega (arith, some))
    ]) e

pub behind_run : (firsts : List BatchName) (name d : BatchName) (index : ℕ) → index < length firsts → is_lt (name_cmp name (get_or firsts index d)) ≡ false → (run_of firsts name == index) ≡ false
behind_run firsts name d index l h = ne_eqb (run_of firsts name) index (other_run firsts name d index l h)
