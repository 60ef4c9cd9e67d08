-- A load's batches under consecutive names are what a store may take: in order, proper, and each fits the table.
use Rattle.std.specs.Prelude.{◌≡◌, ◌⊎◌, ℕ, suc, ◌+◌, ◌≤◌, ◌<◌, Bool, true, false, cond, not, ◌&&◌, ◌==◌, nat_le, List, [], ◌∷◌, ◌++◌, length, Result, Ok, Err, T, IsTrue}
use Rattle.std.proofs.Common.{refl, sym, ap, subst, ◌∙◌, inl, inr, arith}
use Rattle.std.proofs.lemmas.Bool.Decides.{nat_tests}
use Rattle.std.proofs.lemmas.List.{map-append, length-append, length-map}
use Rattle.std.proofs.lemmas.List.Elements.{All-nil, All-cons, All-append}
use Rattle.std.specs.List.{All}
use Rattle.std.specs.Ordering.{nat_cmp, ordering_then, is_lt}
use Rattle.std.specs.FinMap.Entries.{below_all}
use Rattle.std.specs.FinMap as map
use Rattle.table_model.specs.Name.{name_cmp, is_proper_name}
use Rattle.table_model.specs.State.{Batch}
use Rattle.table_model.specs.Table.{Table}
use Rattle.table_model.specs.declared.names.BatchName.{BatchName}
use Rattle.table_model.specs.declared.refusal.Refusal.{Refusal}
use Rattle.table_model.specs.declared.refusal.Refusal.TheVariants.{BadName, NumbersSpent}
use Rattle.catalogue_join.specs.Run.{name_at}
use Rattle.segment_core.specs.Segment.{SegmentForm}
use Rattle.replica_store.specs.Exchange.{AreOffered}
use Rattle.replica_store.specs.Replica.{batch_limit}
use Rattle.replica_store.specs.Segments.{IsStored, Entry}
use Rattle.replica_changes.specs.Loads.{LoadForm, IsLoaded, IsLoad, batches_in, numbered_from, named_batches, named_entries, first_name}

-- ---- one more batch

pub batches_more : (xs : List SegmentForm) (s : SegmentForm) → batches_in (xs ++ (s ∷ [])) ≡ batches_in xs ++ (s.rows ∷ [])
batches_more xs s = map-append (λ (x : SegmentForm). x.rows) xs (s ∷ [])

pub load_more : (table : Table) (xs : List SegmentForm) (s : SegmentForm) → IsLoad table xs → length xs < batch_limit → IsLoaded table s → IsLoad table (xs ++ (s ∷ []))
load_more table xs s is room one = record {
  limit = omega (arith, length-append xs (s ∷ []), room);
  loaded = All-append (IsLoaded table) xs (s ∷ []) is.loaded (All-cons (IsLoaded table) s [] one (All-nil (IsLoaded table)));
}

-- ---- names

-- so many consecutive names may begin here
abbrev pub MayBegin : BatchName → ℕ → Type 0
MayBegin first count = (count ≡ 0) ⊎ (IsTrue (is_proper_name first) × (first.number.0 + count ≤ 4294967296))

zero_is : (n : ℕ) → (n == 0) ≡ true → n ≡ 0
zero_is n e = grind (arith, nat_tests, e)

le_is : (m n : ℕ) → nat_le m n ≡ true → m ≤ n
le_is m n e = grind (arith, nat_tests, e)

begin_of : (first name : BatchName) (count : ℕ) (a b c : Bool) → (count == 0) ≡ a → is_proper_name first ≡ b → nat_le (first.number.0 + count) 4294967296 ≡ c
    → ◌≡◌ {A = Result BatchName Refusal} (cond a (Ok first) (cond b (cond c (Ok first) (Err NumbersSpent)) (Err BadName))) (Ok name) → MayBegin first count
begin_of first name count true b c x y z e = inl (zero_is count x)
begin_of first name count false true true x y z e = inr (y, le_is (first.number.0 + count) 4294967296 z)
begin_of first name count false true false x y z e = cc
begin_of first name count false false c x y z e = cc

pub may_begin : (first name : BatchName) (count : ℕ) → first_name first count ≡ Ok name → MayBegin first count
unfolding first_name
may_begin first name count e = begin_of first name count (count == 0) (is_proper_name first) (nat_le (first.number.0 + count) 4294967296) refl refl refl e

-- entries with the rows of their segments are the batches under their names
pub entries_named : (first : BatchName) (n : ℕ) (xs : List SegmentForm) → named_entries (numbered_from first n xs) ≡ numbered_from first n (batches_in xs)
entries_named first n [] = refl
entries_named first n (s ∷ xs) = ap (λ (rest : List (BatchName × Batch)). (name_at first.origin n, s.rows) ∷ rest) (entries_named first (n + 1) xs)

pub length-numbered : {X : Type 0} (first : BatchName) (n : ℕ) (xs : List X) → length (numbered_from first n xs) ≡ length xs
length-numbered first n [] = refl
length-numbered first n (x ∷ xs) = ap suc (length-numbered first (n + 1) xs)

less_numbers : (o n m : ℕ) → n < m → is_lt (ordering_then (nat_cmp o o) (nat_cmp n m)) ≡ true
less_numbers o n m below = grind (arith, nat_tests, below)

and_of : (a b : Bool) → a ≡ true → b ≡ true → (a && b) ≡ true
and_of true true x y = refl
and_of true false x y = y
and_of false b x y = x

below_numbered : {X : Type 0} (first : BatchName) (n m : ℕ) (xs : List X) → n < m → below_all name_cmp (name_at first.origin n) (numbered_from first m xs) ≡ true
below_numbered first n m [] below = refl
below_numbered first n m (x ∷ xs) below =
    and_of (is_lt (name_cmp (name_at first.origin n) (name_at first.origin m))) (below_all name_cmp (name_at first.origin n) (numbered_from first (m + 1) xs))
    (less_numbers first.origin.0 n m below) (below_numbered first n (m + 1) xs (omega (arith, below)))

pub sorted_numbered : {X : Type 0} (first : BatchName) (n : ℕ) (xs : List X) → map.is_sorted name_cmp (numbered_from first n xs) ≡ true
sorted_numbered first n [] = refl
sorted_numbered first n (x ∷ xs) =
    and_of (below_all name_cmp (name_at first.origin n) (numbered_from first (n + 1) xs)) (map.is_sorted name_cmp (numbered_from first (n + 1) xs))
    (below_numbered first n (n + 1) xs (omega arith)) (sorted_numbered first (n + 1) xs)

proper_numbered : (o n m : ℕ) → (not (o == 0) && not (n == 0)) ≡ true → n ≤ m → (not (o == 0) && not (m == 0)) ≡ true
proper_numbered o n m proper le = grind (arith, nat_tests, proper, le)

stored_numbered : (table : Table) (first : BatchName) (n : ℕ) (xs : List SegmentForm) → IsTrue (is_proper_name first) → first.number.0 ≤ n → All (IsLoaded table) xs → All (IsStored table) (numbered_from first n xs)
stored_numbered table first n [] proper le all = All-nil (IsStored table)
stored_numbered table first n (x ∷ xs) proper le all =
    let one : IsLoaded table x = all 0 x (omega arith) in
    All-cons (IsStored table) (name_at first.origin n, x) (numbered_from first (n + 1) xs)
    (record { proper = proper_numbered first.origin.0 first.number.0 n proper le; fits = one.fits; widths = one.widths })
    (stored_numbered table first (n + 1) xs proper (omega (arith, le)) (λ k d below. all (suc k) d (omega (arith, below))))

-- a load under consecutive names may be offered
pub load_offered : (table : Table) (xs : List SegmentForm) (first : BatchName) → IsLoad table xs → MayBegin first (length xs) → AreOffered table (named_batches first xs)
load_offered table [] first is begin = record { sorted = tt; limit = omega arith; stored = All-nil (IsStored table) }
load_offered table (x ∷ xs) first is (inl none) = let no : ⊥ = omega (arith, none) in absurd no
load_offered table (x ∷ xs) first is (inr begin) = record {
  sorted = T_of (map.is_sorted name_cmp (named_batches first (x ∷ xs))) (sorted_numbered first first.number.0 (x ∷ xs));
  limit = omega (arith, length-numbered first first.number.0 (x ∷ xs), is.limit);
  stored = stored_numbered table first first.number.0 (x ∷ xs) begin.0 (omega arith) is.loaded;
}
  where
    T_of : (b : Bool) → b ≡ true → T b
    T_of true e = tt
    T_of false e = cc

-- ---- of a load as it is seen

-- the schema and the batches of what a load is
abbrev pub seen_load : Table → List SegmentForm → LoadForm
seen_load table segments = record { schema = table; batches = batches_in segments }

length-batches : (segments : List SegmentForm) (load : LoadForm) (table : Table) → seen_load table segments ≡ load → length load.batches ≡ length segments
length-batches segments load table is = ap (λ (l : LoadForm). length l.batches) (sym is) ∙ length-map segments (λ (s : SegmentForm). s.rows)

begins : (first : BatchName) (load : LoadForm) (table : Table) (segments : List SegmentForm) → seen_load table segments ≡ load → first_name first (length load.batches) ≡ Ok first → MayBegin first (length segments)
begins first load table segments is e = subst (MayBegin first) (length-batches segments load table is) (may_begin first first (length load.batches) e)

pub numbers_fit : (first : BatchName) (load : LoadForm) (table : Table) (segments : List SegmentForm) → seen_load table segments ≡ load → first_name first (length load.batches) ≡ Ok first → (length segments == 0) ≡ false
    → first.number.0 + length segments ≤ 4294967296
numbers_fit first load table segments is e some = of (begins first load table segments is e)
  where
    of : MayBegin first (length segments) → first.number.0 + length segments ≤ 4294967296
    of (inl none) = absurd (apart none)
      where
        apart : length segments ≡ 0 → ⊥
        apart none = let bad : true ≡ false = sym (ap (λ (n : ℕ). n == 0) none) ∙ some in cc
    of (inr begin) = begin.1

pub load_offered_as : (first : BatchName) (load : LoadForm) (table : Table) (segments : List SegmentForm) (entries : List Entry) → seen_load table segments ≡ load → first_name first (length load.batches) ≡ Ok first → IsLoad table segments
    → entries ≡ named_batches first segments → AreOffered load.schema entries
load_offered_as first load table segments entries is e sound named =
    subst (λ (es : List Entry). AreOffered load.schema es) (sym named)
    (subst (λ (t : Table). AreOffered t (named_batches first segments)) (ap (λ (l : LoadForm). l.schema) is) (load_offered table segments first sound (begins first load table segments is e)))

pub load_named_as : (first : BatchName) (load : LoadForm) (table : Table) (segments : List SegmentForm) (entries : List Entry) → seen_load table segments ≡ load → entries ≡ named_batches first segments → named_entries entries ≡ named_batches first load.batches
load_named_as first load table segments entries is named =
    ap named_entries named ∙ entries_named first first.number.0 segments ∙ ap (λ (l : LoadForm). named_batches first l.batches) is
