-- A load under given names sees no batch of another name: what it answers and brings is the same from a replica that knows enough.
use Rattle.std.specs.Prelude.{◌≡◌, ℕ, ◌+◌, ◌≤◌, ◌<◌, ◌-◌, Bool, true, false, cond, ◌&&◌, ◌==◌, nat_le, nat_lt, List, [], ◌∷◌, length, Option, Some, None, is_some, Ok, Err, IsTrue}
use Rattle.std.proofs.Common.{refl, sym, ap, subst, ◌∙◌, arith}
use Rattle.std.proofs.lemmas.Bool.Decides.{nat_tests}
use Rattle.std.specs.Bool.{passes}
use Rattle.std.specs.FinMap as map
use Rattle.std.specs.FinSet as set
use Rattle.table_model.specs.Name.{name_cmp, is_proper_name}
use Rattle.table_model.specs.Reading.{◌>>=◌}
use Rattle.table_model.specs.State.{Batch, union_of}
use Rattle.table_model.specs.Table.{same_table}
use Rattle.table_model.specs.declared.names.BatchName.{BatchName}
use Rattle.table_model.specs.declared.refusal.Refusal.{Refusal}
use Rattle.table_model.specs.declared.refusal.Refusal.TheVariants.{BadName, NumbersSpent, Full, SchemaDiffers}
use Rattle.table_model.proofs.Joins.{or_else, get-union, same_maps}
use Rattle.table_model.proofs.NameOrder.{names_total}
use Rattle.replica_store.specs.Exchange.{unlisted}
use Rattle.replica_store.specs.Forgets.{row_count}
use Rattle.replica_store.specs.Replica.{Replica, batch_limit, conflict_or_full, conflict_with, differs, entries_of, lacked_by, merge_fault, names_of, unless_fault, with_join}
use Rattle.replica_store.proofs.JoinedStores.{len-sum}
use Rattle.replica_store.proofs.Maps.{as_map, entries-as_map, get-as_map}
use Rattle.replica_store.proofs.Merges.{len-union}
use Rattle.replica_store.proofs.Names.{contains-names_of}
use Rattle.replica_store.proofs.Offers.{as_map-lacked}
use Rattle.replica_changes.specs.Brings.{brought_to}
use Rattle.replica_changes.specs.Commands.{Made}
use Rattle.replica_changes.specs.Loads.{LoadForm, chosen_name, first_name, imported_as, importing_as, is_one_of, loaded, named_batches, numbered_from, deleted_among, name_of_some}
use Rattle.replica_changes.specs.declared.importing.Imported.{Imported}
use Rattle.replica_changes.proofs.LoadedBatches.{length-numbered, sorted_numbered}
use Rattle.folder_parts.specs.PartsPut.{part_of_named_load}
use Rattle.folder_parts.specs.Skims.{KnowsEnough, AnswersLoads}

abbrev Rows : Type 0
Rows = map.FinMap name_cmp Batch

-- ---- the entries of a load

-- each entry has one of some consecutive names
abbrev AreNamed : BatchName → ℕ → List (BatchName × Batch) → Type 0
AreNamed first count [] = Unit {0}
AreNamed first count (e ∷ es) = (is_one_of first count e.0 ≡ true) × AreNamed first count es

same_number : (o : ℕ) → (o == o) ≡ true
same_number o = grind (arith, nat_tests)

one_here : (o f n c : ℕ) → f ≤ n → n < f + c → ((o == o) && (nat_le f n && nat_lt n (f + c))) ≡ true
one_here o f n c low high = grind (arith, nat_tests, low, high)

are_named : (first : BatchName) (count n : ℕ) (xs : List Batch) → first.number.0 ≤ n → n + length xs ≤ first.number.0 + count → AreNamed first count (numbered_from first n xs)
are_named first count n [] low high = tt
are_named first count n (x ∷ xs) low high = (one_here first.origin.0 first.number.0 n count low (omega (arith, high)), are_named first count (n + 1) xs (omega (arith, low)) (omega (arith, high)))

-- the batches of a load under its names, as a map
abbrev load_map : BatchName → List Batch → Rows
load_map first xs = map.from_entries (named_batches first xs)

load_as : (first : BatchName) (xs : List Batch) → load_map first xs ≡ as_map (named_batches first xs)
load_as first xs =
    same_maps _ _ (λ q. map.get-from_entries names_total (named_batches first xs) q ∙ sym (get-as_map (named_batches first xs) q (passes _ (sorted_numbered first first.number.0 xs))))

load_entries : (first : BatchName) (xs : List Batch) → map.entries (load_map first xs) ≡ named_batches first xs
load_entries first xs = ap map.entries (load_as first xs) ∙ entries-as_map (named_batches first xs) (passes _ (sorted_numbered first first.number.0 xs))

entries_named : (first : BatchName) (xs : List Batch) → AreNamed first (length xs) (map.entries (load_map first xs))
entries_named first xs = subst (AreNamed first (length xs)) (sym (load_entries first xs)) (are_named first (length xs) first.number.0 xs (omega arith) (omega arith))

-- ---- what a load sees

-- two maps have the same at each of the names
abbrev pub AreAlike : BatchName → ℕ → Rows → Rows → Type 0
AreAlike first count m n = (name : BatchName) → IsTrue (is_one_of first count name) → map.get m name ≡ map.get n name

conflict_same : (first : BatchName) (count : ℕ) (m n : Rows) (es : List (BatchName × Batch)) → AreAlike first count m n → AreNamed first count es → conflict_with m es ≡ conflict_with n es
conflict_same first count m n [] alike named = refl
conflict_same first count m n (e ∷ es) alike named =
    (λ i. cond (differs (alike e.0 named.0 i) e.1) (Some e.0) (conflict_same first count m n es alike named.1 i))

held_same : (first : BatchName) (count : ℕ) (m n : Rows) (name : BatchName) → AreAlike first count m n → is_one_of first count name ≡ true → set.contains (names_of m) name ≡ set.contains (names_of n) name
held_same first count m n name alike one = contains-names_of m name ∙ ap is_some (alike name one) ∙ sym (contains-names_of n name)

lacked_same : (first : BatchName) (count : ℕ) (m n : Rows) (es : List (BatchName × Batch)) → AreAlike first count m n → AreNamed first count es → lacked_by (names_of m) es ≡ lacked_by (names_of n) es
lacked_same first count m n [] alike named = refl
lacked_same first count m n (e ∷ es) alike named =
    (λ i. cond (held_same first count m n e.0 alike named.0 i) (lacked_same first count m n es alike named.1 i) (e ∷ lacked_same first count m n es alike named.1 i))

unlisted_same : (first : BatchName) (m n : Rows) (xs : List Batch) → AreAlike first (length xs) m n → unlisted (names_of m) (load_map first xs) ≡ unlisted (names_of n) (load_map first xs)
unlisted_same first m n xs alike =
    sym (as_map-lacked (names_of m) (load_map first xs))
    ∙ ap as_map (lacked_same first (length xs) m n (map.entries (load_map first xs)) alike (entries_named first xs))
    ∙ as_map-lacked (names_of n) (load_map first xs)

-- ---- how many batches there are

or_within : (a b : Option Batch) → ((rows : Batch) → a ≡ Some rows → b ≡ Some rows) → or_else a b ≡ b
or_within None b has = refl
or_within (Some rows) b has = sym (has rows refl)

-- a map whose entries are all in another has no more than that
pub len_within : (m n : Rows) → ((name : BatchName) (rows : Batch) → map.get m name ≡ Some rows → map.get n name ≡ Some rows) → map.len m ≤ map.len n
len_within m n has =
    let whole : union_of m n ≡ n = same_maps _ _ (λ q. get-union m n q ∙ or_within (map.get m q) (map.get n q) (has q)) in
    let count = sym (len-union m n) ∙ ap map.len whole in
    omega (arith, count)

len_load : (first : BatchName) (xs : List Batch) → map.len (load_map first xs) ≡ length xs
len_load first xs = map.len-entries (load_map first xs) ∙ ap length (load_entries first xs) ∙ length-numbered first first.number.0 xs

not_full_of : (n : ℕ) → n ≤ batch_limit → nat_lt batch_limit n ≡ false
not_full_of n few = grind (arith, nat_tests, few)

full_same : (m n : Rows) (first : BatchName) (xs : List Batch) → map.len m + length xs ≤ batch_limit → map.len n + length xs ≤ batch_limit
    → nat_lt batch_limit (map.len (union_of m (load_map first xs))) ≡ nat_lt batch_limit (map.len (union_of n (load_map first xs)))
full_same m n first xs few less =
    let one = len-sum m (load_map first xs) in
    let other = len-sum n (load_map first xs) in
    let count = len_load first xs in
    not_full_of (map.len (union_of m (load_map first xs))) (omega (arith, one, count, few)) ∙ sym (not_full_of (map.len (union_of n (load_map first xs))) (omega (arith, other, count, less)))

new_same : (first : BatchName) (m n : Rows) (xs : List Batch) → AreAlike first (length xs) m n
    → map.len (union_of m (load_map first xs)) - map.len m ≡ map.len (union_of n (load_map first xs)) - map.len n
new_same first m n xs alike =
    let one = len-union m (load_map first xs) in
    let other = len-union n (load_map first xs) in
    let same = ap length (lacked_same first (length xs) m n (map.entries (load_map first xs)) alike (entries_named first xs)) in
    omega (arith, one, other, same)

-- ---- a load

-- what is known and what is whole, for a load under a name
pub record ServesLoad (first : BatchName) (load : LoadForm) (known whole : Replica) : Type 0 where
  pub enough : KnowsEnough first (length load.batches) known whole
  pub room : map.len whole.state.batches + length load.batches ≤ batch_limit

module _ (first : BatchName) (load : LoadForm) (known whole : Replica) (serves : ServesLoad first load known whole) where
  alike : AreAlike first (length load.batches) whole.state.batches known.state.batches
  alike name one = sym (serves.enough.named name one)

  fewer : map.len known.state.batches + length load.batches ≤ batch_limit
  fewer = let few = len_within known.state.batches whole.state.batches serves.enough.batches in let room = serves.room in omega (arith, few, room)

  either_full : (r one other s : Replica) (o : Option BatchName) → nat_lt batch_limit (map.len (union_of r.state.batches one.state.batches)) ≡ nat_lt batch_limit (map.len (union_of s.state.batches other.state.batches))
      → conflict_or_full r one o ≡ conflict_or_full s other o
  either_full r one other s None full = ap (λ (b : Bool). cond b (Some Full) None) full
  either_full r one other s (Some name) full = refl

  fault_same : merge_fault whole (loaded whole load first) ≡ merge_fault known (loaded known load first)
  unfolding merge_fault
  fault_same =
      (λ i. cond (same_table (sym serves.enough.schema i) load.schema)
      (conflict_or_full whole (loaded whole load first) (conflict_same first (length load.batches) whole.state.batches known.state.batches (map.entries (load_map first load.batches)) alike (entries_named first load.batches) i))
      (Some SchemaDiffers))
      ∙ ap (λ (o : Option Refusal). cond (same_table known.schema load.schema) o (Some SchemaDiffers))
      (either_full whole (loaded whole load first) (loaded known load first) known (conflict_with known.state.batches (entries_of (loaded known load first)))
      (full_same whole.state.batches known.state.batches first load.batches serves.room fewer))

  answer_same : imported_as load first whole (with_join whole (loaded whole load first)) ≡ imported_as load first known (with_join known (loaded known load first))
  answer_same = λ i. record {
    batches = length load.batches;
    new = new_same first whole.state.batches known.state.batches load.batches alike i;
    rows = row_count load.batches;
    deleted = deleted_among (sym serves.enough.deleted i) (named_batches first load.batches);
    first = name_of_some (length load.batches) first;
  }

  part_same : brought_to whole (loaded whole load first) ≡ brought_to known (loaded known load first)
  part_same = λ i. record {
    schema = sym serves.enough.schema i;
    own = record { 0 = 1 };
    state = record { batches = unlisted_same first whole.state.batches known.state.batches load.batches alike i; deleted = set.empty };
  }

  -- the load under its name, once there is none or a fault
  done_of : (fault : Option Refusal) (r : Replica)
      → ((unless_fault fault (Ok (tt, with_join r (loaded r load first))) >>= λ (done : Unit {0} × Replica). let made : Made Imported = Ok (imported_as load first r done.1, done.1) in made)
      >>= λ (done : Imported × Replica). let brought : Made Imported = Ok (done.0, brought_to r (loaded r load first)) in brought)
      ≡ unless_fault fault (Ok (imported_as load first r (with_join r (loaded r load first)), brought_to r (loaded r load first)))
  done_of None r = refl
  done_of (Some e) r = refl

  puts : Replica → BatchName → Made Imported
  puts r name = importing_as load name r >>= λ (done : Imported × Replica). Ok (done.0, brought_to r (loaded r load name))

  puts_same : puts whole first ≡ puts known first
  unfolding puts
  puts_same =
      done_of (merge_fault whole (loaded whole load first)) whole
      ∙ (λ i. unless_fault (fault_same i) (Ok (answer_same i, part_same i)))
      ∙ sym (done_of (merge_fault known (loaded known load first)) known)

  named_alike : (a b c : Bool) (one other : BatchName → Made Imported) → one first ≡ other first
      → (cond a (Ok first) (cond b (cond c (Ok first) (Err NumbersSpent)) (Err BadName)) >>= one) ≡ (cond a (Ok first) (cond b (cond c (Ok first) (Err NumbersSpent)) (Err BadName)) >>= other)
  named_alike true b c one other same = same
  named_alike false true true one other same = same
  named_alike false true false one other same = refl
  named_alike false false c one other same = refl

  pub serves_load : part_of_named_load load first whole ≡ part_of_named_load load first known
  unfolding chosen_name first_name puts
  serves_load = named_alike (length load.batches == 0) (is_proper_name first) (nat_le (first.number.0 + length load.batches) 4294967296) (puts whole) (puts known) puts_same

-- each load of so many batches
pub answers_loads : (first : BatchName) (count : ℕ) (known whole : Replica) → KnowsEnough first count known whole → map.len whole.state.batches + count ≤ batch_limit → AnswersLoads first count known whole
answers_loads first count known whole enough room load long =
    let long_as : ServesLoad first load known whole = record {
      enough = subst (λ (n : ℕ). KnowsEnough first n known whole) (sym long) enough;
      room = omega (arith, room, long);
    } in
    serves_load first load known whole long_as
