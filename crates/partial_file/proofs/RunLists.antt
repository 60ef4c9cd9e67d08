-- The maximal runs of a set of names are the one list of runs that don't touch and have these names.
use Rattle.std.proofs.Common.{◌≡◌, ℕ, zero, suc, ◌+◌, ◌-◌, ◌*◌, ◌≤◌, Bool, true, false, cond, ◌&&◌, eqb, List, [], ◌∷◌, ◌++◌, refl, sym, ap, subst, ◌∙◌, arith}
use Rattle.std.proofs.lemmas.Bool.{and_parts, eqb-true}
use Rattle.std.proofs.lemmas.Bool.Decides.{nat_tests}
use Rattle.std.specs.FinSet as set
use Rattle.table_model.specs.Name.{name_cmp}
use Rattle.table_model.specs.declared.names.BatchName.{BatchName}
use Rattle.table_model.specs.declared.names.Origin.{Origin}
use Rattle.catalogue_join.specs.Held.{IsListOf}
use Rattle.catalogue_join.specs.Run.{name_at, name_place, names_from, names_in, names_listed, run_shape}
use Rattle.catalogue_join.specs.Span.{Rises}
use Rattle.catalogue_join.specs.declared.run.Run.{Run}
use Rattle.catalogue_join.proofs.SortedLists.{only_list}
use Rattle.column_file.specs.Ordered.{in_order}
use Rattle.column_file.proofs.OrderedLists.{listed_names}
use Rattle.partial_file.specs.PartialAnswerBytes.{is_just_before, with_name, gathered, runs_of}

-- a run of an origin
abbrev run_at : Origin → ℕ → ℕ → Run
run_at origin n last = record { first = name_at origin n; last = record { 0 = last } }

-- the first of the runs begins at a place or later
abbrev Begins : ℕ → List Run → Type 0
Begins n [] = Unit {0}
Begins n (r ∷ rs) = n ≤ name_place r.first.origin r.first.number.0

not_before : (o n o' n' : ℕ) → o * 8589934592 + n + 2 ≤ o' * 8589934592 + n' → (eqb o o' && eqb (n + 1) n') ≡ false
not_before o n o' n' h = grind (arith, nat_tests)

just_before : (o n next : ℕ) → n + 1 ≡ next → (eqb o o && eqb (n + 1) next) ≡ true
just_before o n next h = grind (arith, nat_tests)

one_run : (origin : Origin) (n : ℕ) (rs : List Run) → Begins (name_place origin n + 2) rs → with_name (name_at origin n) rs ≡ run_at origin n n ∷ rs
one_run origin n [] begins = refl
one_run origin n (r ∷ rs) begins = rw (not_before origin.0 n r.first.origin.0 r.first.number.0 begins) refl

longer : (origin : Origin) (n next last : ℕ) (rs : List Run) → n + 1 ≡ next → with_name (name_at origin n) (run_at origin next last ∷ rs) ≡ run_at origin n last ∷ rs
longer origin n next last rs e = rw (just_before origin.0 n next e) refl

gathers : (origin : Origin) (count n : ℕ) (rest : List BatchName) (rs : List Run) → gathered rest ≡ rs → Begins (name_place origin (n + count) + 2) rs → gathered (names_from origin n (suc count) ++ rest) ≡ run_at origin n (n + count) ∷ rs
gathers origin zero n rest rs e begins =
    let same : n + 0 ≡ n = omega arith in
    let P : ℕ → Type 0 = λ m. Begins (name_place origin m + 2) rs in
    ap (with_name (name_at origin n)) e ∙ one_run origin n rs (subst P same begins) ∙ ap (λ (m : ℕ). run_at origin n m ∷ rs) (sym same)
gathers origin (suc count) n rest rs e begins =
    let last : n + suc count ≡ (n + 1) + count = omega arith in
    let step = gathers origin count (n + 1) rest rs e (subst (λ (m : ℕ). Begins (name_place origin m + 2) rs) last begins) in
    ap (with_name (name_at origin n)) step ∙ longer origin n (n + 1) ((n + 1) + count) rs refl ∙ ap (λ (m : ℕ). run_at origin n m ∷ rs) (sym last)

next_begins : (rs : List Run) (n : ℕ) → Rises run_shape n rs → Begins n rs
next_begins [] n rises = tt
next_begins (r ∷ rs) n rises = rises.0

pub gathered_listed : (rs : List Run) (n : ℕ) → Rises run_shape n rs → gathered (names_listed rs) ≡ rs
gathered_listed [] n rises = refl
gathered_listed (r ∷ rs) n rises =
    let first = r.first.number.0 in
    let last = r.last.0 in
    let within : first ≤ last = (let h = rises.1 in omega (arith, h)) in
    let count : last + 1 - first ≡ suc (last - first) = omega arith in
    let end : first + (last - first) ≡ last = omega arith in
    let begins : Begins (name_place r.first.origin last + 2) rs = next_begins rs (name_place r.first.origin last + 2) rises.3 in
    ap (λ (k : ℕ). gathered (names_from r.first.origin first k ++ names_listed rs)) count
    ∙ gathers r.first.origin (last - first) first (names_listed rs) rs (gathered_listed rs (name_place r.first.origin last + 2) rises.3) (subst (λ (m : ℕ). Begins (name_place r.first.origin m + 2) rs) (sym end) begins)
    ∙ ap (λ (m : ℕ). run_at r.first.origin first m ∷ rs) end

-- the maximal runs of a set are its runs
pub runs_are : (held : set.FinSet name_cmp) (rs : List Run) → IsListOf (names_listed rs) held → Rises run_shape 0 rs → runs_of held ≡ rs
unfolding runs_of
runs_are held rs listed rises = ap gathered (only_list held (in_order name_cmp held) (names_listed rs) (listed_names held) listed) ∙ gathered_listed rs 0 rises

-- ---- the set of the names of a set's runs is the set

-- no run is empty
abbrev AreRuns : List Run → Type 0
AreRuns [] = Unit {0}
AreRuns (r ∷ rs) = (r.first.number.0 ≤ r.last.0) × AreRuns rs

-- a name is the one before a run's first
record IsBefore (q : BatchName) (r : Run) : Type 0 where
  pub origin : q.origin.0 ≡ r.first.origin.0
  pub number : q.number.0 + 1 ≡ r.first.number.0

before : (q : BatchName) (r : Run) → is_just_before q r.first ≡ true → IsBefore q r
before q r e =
    let v = and_parts (eqb q.origin.0 r.first.origin.0) (eqb (q.number.0 + 1) r.first.number.0) e in
    record { origin = eqb-true _ _ v.0; number = eqb-true _ _ v.1 }

abbrev longer_run : BatchName → Run → List Run → List Run
longer_run q r rs = record { first = q; last = r.last } ∷ rs

abbrev own_run : BatchName → List Run → List Run
own_run q rs = record { first = q; last = q.number } ∷ rs

with_runs : (q : BatchName) (rs : List Run) → AreRuns rs → AreRuns (with_name q rs)
with_runs q [] runs = (omega arith, tt)
with_runs q (r ∷ rs) runs = go (is_just_before q r.first) refl
  where
    go : (b : Bool) → is_just_before q r.first ≡ b → AreRuns (cond b (longer_run q r rs) (own_run q (r ∷ rs)))
    go true e = (let h = (before q r e).number in let k = runs.0 in omega (arith, h, k), runs.1)
    go false e = (omega arith, runs)

own_names : (q : BatchName) (rs : List Run) → names_listed (own_run q rs) ≡ q ∷ names_listed rs
own_names q rs =
    let one : q.number.0 + 1 - q.number.0 ≡ 1 = omega arith in
    ap (λ (n : ℕ). names_from q.origin q.number.0 n ++ names_listed rs) one

longer_names : (q : BatchName) (r : Run) (rs : List Run) → r.first.number.0 ≤ r.last.0 → IsBefore q r → names_listed (longer_run q r rs) ≡ q ∷ names_listed (r ∷ rs)
longer_names q r rs within h =
    let next = h.number in
    let count : r.last.0 + 1 - q.number.0 ≡ suc (r.last.0 + 1 - r.first.number.0) = omega (arith, next, within) in
    ap (λ (n : ℕ). names_from q.origin q.number.0 n ++ names_listed rs) count
    ∙ ap (λ (n : ℕ). q ∷ (names_from q.origin n (r.last.0 + 1 - r.first.number.0) ++ names_listed rs)) next
    ∙ ap (λ (o : ℕ). q ∷ (names_from (record { 0 = o }) r.first.number.0 (r.last.0 + 1 - r.first.number.0) ++ names_listed rs)) h.origin

with_names : (q : BatchName) (rs : List Run) → AreRuns rs → names_listed (with_name q rs) ≡ q ∷ names_listed rs
with_names q [] runs = own_names q []
with_names q (r ∷ rs) runs = go (is_just_before q r.first) refl
  where
    go : (b : Bool) → is_just_before q r.first ≡ b → names_listed (cond b (longer_run q r rs) (own_run q (r ∷ rs))) ≡ q ∷ names_listed (r ∷ rs)
    go true e = longer_names q r rs runs.0 (before q r e)
    go false e = own_names q (r ∷ rs)

are_runs : (qs : List BatchName) → AreRuns (gathered qs)
are_runs [] = tt
are_runs (q ∷ qs) = with_runs q (gathered qs) (are_runs qs)

names_gathered : (qs : List BatchName) → names_listed (gathered qs) ≡ qs
names_gathered [] = refl
names_gathered (q ∷ qs) = with_names q (gathered qs) (are_runs qs) ∙ ap (λ (ns : List BatchName). q ∷ ns) (names_gathered qs)

pub names_are : (held : set.FinSet name_cmp) → names_in (runs_of held) ≡ held
unfolding runs_of names_in
names_are held =
    ap (λ (ns : List BatchName). set.from_list {R = name_cmp} ns) (names_gathered (in_order name_cmp held)) ∙ (listed_names held).same
