-- The rows between two ordinals are in the set of a list of ranges exactly where the ranges have the places of all of them.
use Rattle.std.proofs.Common.{◌≡◌, ℕ, zero, suc, ◌+◌, ◌-◌, ◌*◌, ◌<◌, ◌≤◌, inl, inr, Bool, true, false, ◌&&◌, eqb, leb, List, [], ◌∷◌, refl, sym, ap, ◌∙◌, arith}
use Rattle.std.proofs.Math.Bool.{or-false, and-false}
use Rattle.std.proofs.lemmas.Bool.{and_parts, and_from, cases_Bool, leb-true}
use Rattle.std.proofs.lemmas.Bool.Decides.{nat_tests}
use Rattle.std.specs.List.{list_all}
use Rattle.std.specs.FinSet as set
use Rattle.table_model.specs.Table.{row_limit}
use Rattle.table_model.specs.declared.names.BatchName.{BatchName}
use Rattle.table_model.specs.declared.names.RowName.{RowName}
use Rattle.catalogue_join.specs.Span.{among, covers, Rises, Lacks}
use Rattle.catalogue_join.specs.RowRange.{RowRange, row_names, rows_between, rows_in, row_range_shape}
use Rattle.catalogue_join.proofs.RowSets.{spot, is_bounded, bounded_from, contains-rows_in}

-- a row of a batch
abbrev row : BatchName → ℕ → RowName
row batch k = record { batch = batch; ordinal = k }

all_pass : (p : RowName → Bool) (batch : BatchName) (count n : ℕ) → ((k : ℕ) → n ≤ k → k < n + count → p (row batch k) ≡ true) → list_all p (row_names batch n count) ≡ true
all_pass p batch zero n each = refl
all_pass p batch (suc count) n each =
    and_from (p (row batch n)) (list_all p (row_names batch (n + 1) count)) (each n (omega arith) (omega arith))
    (all_pass p batch count (n + 1) (λ k from below. each k (omega (arith, from)) (omega (arith, below))))

one_fails : (p : RowName → Bool) (batch : BatchName) (count n k : ℕ) → n ≤ k → k < n + count → p (row batch k) ≡ false → list_all p (row_names batch n count) ≡ false
one_fails p batch zero n k from below fails = absurd (omega (arith, from, below))
one_fails p batch (suc count) n k from below fails =
    elim (cases_Bool (eqb n k)) [
      | inl same ↦
          let here : n ≡ k = grind (arith, nat_tests) in
          ap (λ (b : Bool). b && list_all p (row_names batch (n + 1) count)) (ap (λ (x : ℕ). p (row batch x)) here ∙ fails)
      | inr other ↦
          let later : n + 1 ≤ k = grind (arith, nat_tests) in
          ap (λ (b : Bool). p (row batch n) && b) (one_fails p batch count (n + 1) k later (omega (arith, below)) fails) ∙ and-false (p (row batch n))
    ]

covered : (base first last k : ℕ) → first ≤ k → k ≤ last → (leb (base + first) (base + k) && leb (base + k) (base + last)) ≡ true
covered base first last k from to = grind (arith, nat_tests)

-- whether one range has the places of all rows from a first to a last ordinal
pub holds_is : (rs : List RowRange) (first : RowName) (last : ℕ) (result : Bool) → Rises row_range_shape 0 rs → first.ordinal ≤ last → last < row_limit → first.batch.origin.0 < 4294967296 → first.batch.number.0 < 4294967296
    → (result ≡ true → (p : ℕ) → covers row_range_shape (first, last) p ≡ true → among row_range_shape rs p ≡ true)
    → (result ≡ false → Lacks row_range_shape rs ((first, last) ∷ []))
    → result ≡ list_all (set.contains (rows_in rs)) (rows_between first last)
holds_is rs first last result rising order limit origin number has lacks =
    elim (cases_Bool result) [
      | inl all ↦ all ∙ sym (all_pass (set.contains (rows_in rs)) first.batch (last + 1 - first.ordinal) first.ordinal (λ k from below.
          let to : k ≤ last = omega (arith, below, order) in
          let q : RowName = row first.batch k in
          let bounded : is_bounded q ≡ true = bounded_from q origin number (omega (arith, to, limit)) in
          contains-rows_in rs q rising ∙ and_from (is_bounded q) (among row_range_shape rs (spot q)) bounded
          (has all (spot q) (covered ((first.batch.origin.0 * 4294967296 + first.batch.number.0) * 131072) first.ordinal last k from to))))
      | inr short ↦
          let gap = lacks short in
          let p : ℕ = gap.place in
          let base : ℕ = (first.batch.origin.0 * 4294967296 + first.batch.number.0) * 131072 in
          let covers_p : covers row_range_shape (first, last) p ≡ true = sym (or-false (covers row_range_shape (first, last) p)) ∙ gap.among_others in
          let both = and_parts (leb (base + first.ordinal) p) (leb p (base + last)) covers_p in
          let from : base + first.ordinal ≤ p = leb-true (base + first.ordinal) p both.0 in
          let to : p ≤ base + last = leb-true p (base + last) both.1 in
          let k : ℕ = p - base in
          let place : base + k ≡ p = omega (arith, from) in
          let q : RowName = row first.batch k in
          let missing : set.contains (rows_in rs) q ≡ false =
          contains-rows_in rs q rising ∙ ap (λ (x : ℕ). is_bounded q && among row_range_shape rs x) place ∙ ap (λ (b : Bool). is_bounded q && b) gap.not_among ∙ and-false (is_bounded q) in
          short ∙ sym (one_fails (set.contains (rows_in rs)) first.batch (last + 1 - first.ordinal) first.ordinal k (omega (arith, from)) (omega (arith, to, from, order)) missing)
    ]
