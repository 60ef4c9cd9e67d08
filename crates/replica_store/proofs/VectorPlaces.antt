-- A segment has a vector at a place exactly where its rows have a cell and reach so far; so a replica tells which vectors there are.
use Rattle.std.specs.Prelude.{◌≡◌, ℕ, zero, suc, ◌≤◌, Bool, true, false, cond, ◌&&◌, nat_lt, List, [], ◌∷◌, length, slice_get, Option, Some, None, is_some, Err, IsOk}
use Rattle.std.proofs.Common.{refl, sym, ap, subst, ◌∙◌, arith, get_or}
use Rattle.std.proofs.lemmas.Bool.Decides.{nat_tests}
use Rattle.std.specs.Ordering.{eq_by_cmp}
use Rattle.std.specs.FinMap as map
use Rattle.table_model.specs.Name.{name_cmp}
use Rattle.table_model.specs.State.{Batch}
use Rattle.table_model.specs.Table.{Table, ColumnShape, IsBatch, AreRows}
use Rattle.table_model.proofs.Batches.{row_length}
use Rattle.table_model.specs.declared.names.BatchName.{BatchName}
use Rattle.table_model.specs.declared.refusal.Refusal.{Refusal}
use Rattle.table_model.specs.declared.refusal.Refusal.TheVariants.{NoSuchVector}
use Rattle.segment_core.specs.CodedVector.{VectorForm}
use Rattle.segment_core.specs.Segment.{SegmentForm, batch_of, vector_at, vector_count, recoded, recoded_found, put_in, IsSegment}
use Rattle.segment_core.specs.declared.coding.Coding.{Coding}
use Rattle.replica_store.specs.Replica.{Replica, AllFit, has_vector, recode_fault}
use Rattle.replica_store.specs.Segments.{recoded_in, recoded_held, put_under, HasVector}
use Rattle.replica_store.proofs.RowValues.{length-row_of, row-batch_of}
use Rattle.replica_store.proofs.Recodes.{put_ok}

lt_suc : (i n : ℕ) → nat_lt (suc i) (suc n) ≡ nat_lt i n
lt_suc i n = elim (nat_lt i n) as (λ b. nat_lt i n ≡ b → nat_lt (suc i) (suc n) ≡ b) [
  | true ↦ λ t. grind (arith, nat_tests)
  | false ↦ λ t. grind (arith, nat_tests)
] refl

get_some : {X : Type 0} (xs : List X) (i : ℕ) → is_some (slice_get xs i) ≡ nat_lt i (length xs)
get_some [] zero = grind (arith, nat_tests)
get_some [] (suc i) = grind (arith, nat_tests)
get_some (x ∷ xs) zero = grind (arith, nat_tests)
get_some (x ∷ xs) (suc i) = get_some xs i ∙ sym (lt_suc i (length xs))

get_past : {X : Type 0} (xs : List (List X)) (i : ℕ) → nat_lt i (length xs) ≡ false → get_or xs i [] ≡ []
get_past [] i e = refl
get_past (x ∷ xs) zero e = let no : ⊥ = grind (arith, nat_tests) in absurd no
get_past (x ∷ xs) (suc i) e = get_past xs i (sym (lt_suc i (length xs)) ∙ e)

get_there : {X : Type 0} (xs : List (List X)) (i : ℕ) → nat_lt i (length xs) ≡ true → slice_get xs i ≡ Some (get_or xs i [])
get_there [] i e = let no : ⊥ = grind (arith, nat_tests) in absurd no
get_there (x ∷ xs) zero e = refl
get_there (x ∷ xs) (suc i) e = get_there xs i (sym (lt_suc i (length xs)) ∙ e)

pub vector_there : (n : ℕ) (forms : List (List VectorForm)) (column vector : ℕ) → IsSegment n forms → is_some (vector_at forms column vector) ≡ (nat_lt column (length forms) && nat_lt vector (vector_count n))
vector_there n forms column vector is =
    elim (nat_lt column (length forms)) as (λ b. nat_lt column (length forms) ≡ b → is_some (slice_get (get_or forms column []) vector) ≡ (b && nat_lt vector (vector_count n))) [
      | true ↦ λ t.
          let count = (is.columns column (get_or forms column []) (get_there forms column t)).count in
          get_some (get_or forms column []) vector ∙ ap (nat_lt vector) count
      | false ↦ λ t. ap (λ (vs : List VectorForm). is_some (slice_get vs vector)) (get_past forms column t)
    ] refl

first_row : (columns : List ColumnShape) (rows : Batch) → 1 ≤ length rows → AreRows columns rows → length (get_or rows 0 []) ≡ length columns
first_row columns [] some h = absurd (omega arith)
first_row columns (cells ∷ rows) some h = row_length columns cells h.0

-- a batch of a table has a column for each of the table's
pub columns_are : (table : Table) (n : ℕ) (s : SegmentForm) → n ≡ length s.rows → s.rows ≡ batch_of n s.forms → IsBatch table s.rows → length s.forms ≡ length table.columns
columns_are table n s count rows batch =
    sym (length-row_of s.forms 0)
    ∙ ap length (sym (row-batch_of n s.forms 0 (omega (arith, count, batch.some))) ∙ ap (λ (r : Batch). get_or r 0 []) (sym rows))
    ∙ first_row table.columns s.rows batch.some batch.rows_fit

fits_found : (t : Table) (es : List (BatchName × Batch)) (q : BatchName) (v : Batch) → AllFit t es → map.find name_cmp q es ≡ Some v → IsBatch t v
fits_found t [] q v h e = cc
fits_found t (x ∷ es) q v h e =
    elim (eq_by_cmp name_cmp q x.0) as (λ b. cond b (Some x.1) (map.find name_cmp q es) ≡ Some v → IsBatch t v) [
      | true ↦ λ is. let same : x.1 ≡ v = cc in let here = h.0 in subst (λ (b : Batch). IsBatch t b) same here.fits
      | false ↦ λ is. fits_found t es q v h.1 is
    ] e

abbrev NoVector : Option Refusal
NoVector = Some NoSuchVector

-- a replica whose batch is this one tells whether there is the vector
pub fault_found : (r : Replica) (name : BatchName) (column vector : ℕ) (s : SegmentForm) (test : Bool)
    → AllFit r.schema (map.entries r.state.batches) → map.get r.state.batches name ≡ Some s.rows → HasVector s column vector test → recode_fault r name column vector ≡ cond test None NoVector
unfolding recode_fault
fault_found r name column vector s test fit has h =
    let batch = fits_found r.schema (map.entries r.state.batches) name s.rows fit (sym (map.get-entries r.state.batches name) ∙ has) in
    ap (λ (o : Option Batch). cond (has_vector r column vector o) None NoVector) has
    ∙ ap (λ (b : Bool). cond b None NoVector) (sym (h.columns r.schema batch))

pub fault_none : (r : Replica) (name : BatchName) (column vector : ℕ) → map.get r.state.batches name ≡ None → recode_fault r name column vector ≡ NoVector
unfolding recode_fault
fault_none r name column vector none = ap (λ (o : Option Batch). cond (has_vector r column vector o) None NoVector) none

found_ok : (s : SegmentForm) (column vector : ℕ) (coding : Coding) (o : Option VectorForm) → is_some o ≡ true → IsOk (put_in s column vector (recoded_found coding o))
found_ok s column vector coding None e = cc
found_ok s column vector coding (Some v) e = refl

found_none : (s : SegmentForm) (column vector : ℕ) (coding : Coding) (o : Option VectorForm) → is_some o ≡ false → put_in s column vector (recoded_found coding o) ≡ Err NoSuchVector
found_none s column vector coding None e = refl
found_none s column vector coding (Some v) e = cc

pub recodes_there : (m : map.FinMap name_cmp SegmentForm) (name : BatchName) (column vector : ℕ) (s : SegmentForm) → map.get m name ≡ Some s → HasVector s column vector true → (coding : Coding) → IsOk (recoded_in m name column vector coding)
unfolding recoded_in recoded
recodes_there m name column vector s has h coding =
    rw (ap (λ (o : Option SegmentForm). put_under m name (recoded_held o column vector coding)) has) (put_ok m name (recoded s column vector coding) (found_ok s column vector coding (vector_at s.forms column vector) h.found))

pub recodes_missing : (m : map.FinMap name_cmp SegmentForm) (name : BatchName) (column vector : ℕ) (s : SegmentForm) → map.get m name ≡ Some s → HasVector s column vector false → (coding : Coding) → recoded_in m name column vector coding ≡ Err NoSuchVector
unfolding recoded_in recoded
recodes_missing m name column vector s has h coding =
    ap (λ (o : Option SegmentForm). put_under m name (recoded_held o column vector coding)) has
    ∙ ap (put_under m name) (found_none s column vector coding (vector_at s.forms column vector) h.found)

pub recodes_none : (m : map.FinMap name_cmp SegmentForm) (name : BatchName) (column vector : ℕ) → map.get m name ≡ None → (coding : Coding) → recoded_in m name column vector coding ≡ Err NoSuchVector
unfolding recoded_in
recodes_none m name column vector none coding = ap (λ (o : Option SegmentForm). put_under m name (recoded_held o column vector coding)) none

-- a test of both bounds tells it
pub has_vector_is : (s : SegmentForm) (n columns vectors column vector : ℕ) (test : Bool) → n ≡ length s.rows → s.rows ≡ batch_of n s.forms → IsSegment n s.forms → columns ≡ length s.forms → vectors ≡ vector_count n
    → test ≡ (nat_lt column columns && nat_lt vector vectors) → HasVector s column vector test
has_vector_is s n columns vectors column vector test count rows is wide long tests = record {
  found = vector_there n s.forms column vector is ∙ sym (tests ∙ λ i. nat_lt column (wide i) && nat_lt vector (long i));
  columns = λ table batch. tests ∙ λ i. nat_lt column ((wide ∙ columns_are table n s count rows batch) i) && nat_lt vector ((long ∙ ap vector_count count) i);
}
