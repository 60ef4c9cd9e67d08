-- Readers that are read one after another: those before a place were read whole, and those from there on are as they were.
use Rattle.std.specs.Prelude.{◌≡◌, ◌⊎◌, ℕ, true, zero, suc, ◌+◌, ◌<◌, ◌≤◌, List, [], ◌∷◌, length, Option, Result, Ok, Err, IsTrue, IfErr, OnOk}
use Rattle.std.proofs.Common.{refl, subst, inl, inr, arith, get_or, set}
use Rattle.table_model.specs.Faults.{GaveMore, CountsWrites}
use Rattle.table_model.specs.declared.refusal.Refusal.{Refusal}
use Rattle.table_model.specs.declared.refusal.Refusal.TheVariants.{Memory, WriteFault}
use Rattle.column_file.specs.Input.{IsReadWhole, StopsReading, is_refusal_of_reading}
use Rattle.replica_store.specs.Replica.{Replica}
use Rattle.replica_changes.specs.Commands.{Puts}
use Rattle.replica_changes.specs.Refusals.{is_refusal_of_merge, reading_or, AreReadWhole, StopsAt, ReadInTurn, EndsUnmerged, EndsMerge}
use Rattle.replica_changes.proofs.CommandSteps.{reading_counts, command_counts, writing_is, writing_none}
use Rattle.replica_changes.proofs.RefusedOnFile.{or_reading, listed_on_file, writing_listed, listed_uncounted}

-- the readers before a place were read whole, and those from there on are as they were
abbrev pub ReadUpTo : {D : Type 0} → (D → Option (List ℕ)) → ℕ → List (D × ℕ) → List (D × ℕ) → Type 0
ReadUpTo remaining zero olds news = news ≡ olds
ReadUpTo remaining (suc at) [] [] = Unit {0}
ReadUpTo remaining (suc at) (old ∷ olds) (new ∷ news) = IsReadWhole remaining old new × ReadUpTo remaining at olds news
ReadUpTo remaining (suc at) olds news = ⊥

one_head : {X : Type 0} (x y : X) (xs ys : List X) → (x ∷ xs) ≡ (y ∷ ys) → x ≡ y
one_head x y xs ys e = cc

one_tail : {X : Type 0} (x y : X) (xs ys : List X) → (x ∷ xs) ≡ (y ∷ ys) → xs ≡ ys
one_tail x y xs ys e = cc

-- one reader more was read whole
one_more_read : {D : Type 0} (remaining : D → Option (List ℕ)) (at : ℕ) (olds news : List (D × ℕ)) (reader new : D × ℕ) → ReadUpTo remaining at olds news → at < length news → IsReadWhole remaining (get_or news at reader) new
    → ReadUpTo remaining (suc at) olds (set news at new)
one_more_read remaining zero olds [] reader new so below whole = let no : ⊥ = omega (arith, below) in absurd no
one_more_read remaining zero [] (next ∷ news) reader new so below whole = cc
one_more_read {D = D} remaining zero (old ∷ olds) (next ∷ news) reader new so below whole =
    (subst (λ (r : D × ℕ). IsReadWhole remaining r new) (one_head next old news olds so) whole, one_tail next old news olds so)
one_more_read remaining (suc at) [] [] reader new so below whole = let no : ⊥ = omega (arith, below) in absurd no
one_more_read remaining (suc at) [] (next ∷ news) reader new so below whole = absurd so
one_more_read remaining (suc at) (old ∷ olds) [] reader new so below whole = absurd so
one_more_read remaining (suc at) (old ∷ olds) (next ∷ news) reader new so below whole = (so.0, one_more_read remaining at olds news reader new so.1 (omega (arith, below)) whole)

pub read_next : {D : Type 0} (remaining : D → Option (List ℕ)) (at : ℕ) (olds news : List (D × ℕ)) (reader new : D × ℕ) → ReadUpTo remaining at olds news → at < length news → IsReadWhole remaining (get_or news at reader) new
    → ReadUpTo remaining (at + 1) olds (set news at new)
read_next remaining at olds news reader new so below whole =
    let next : suc at ≡ at + 1 = omega arith in
    subst (λ (n : ℕ). ReadUpTo remaining n olds (set news at new)) next (one_more_read remaining at olds news reader new so below whole)

-- the call was refused at the reader of a place
pub stops_there : {D : Type 0} (remaining : D → Option (List ℕ)) (e : Refusal) (at : ℕ) (olds news : List (D × ℕ)) (reader new : D × ℕ) → ReadUpTo remaining at olds news → at < length news → StopsAt remaining e (get_or news at reader) new
    → ReadInTurn remaining e olds (set news at new)
stops_there remaining e zero olds [] reader new so below stops = let no : ⊥ = omega (arith, below) in absurd no
stops_there remaining e zero [] (next ∷ news) reader new so below stops = cc
stops_there {D = D} remaining e zero (old ∷ olds) (next ∷ news) reader new so below stops =
    inr (subst (λ (r : D × ℕ). StopsAt remaining e r new) (one_head next old news olds so) stops, one_tail next old news olds so)
stops_there remaining e (suc at) [] [] reader new so below stops = let no : ⊥ = omega (arith, below) in absurd no
stops_there remaining e (suc at) [] (next ∷ news) reader new so below stops = absurd so
stops_there remaining e (suc at) (old ∷ olds) [] reader new so below stops = absurd so
stops_there remaining e (suc at) (old ∷ olds) (next ∷ news) reader new so below stops = inl (so.0, stops_there remaining e at olds news reader new so.1 (omega (arith, below)) stops)

-- all were read whole
pub all_read : {D : Type 0} (remaining : D → Option (List ℕ)) (at : ℕ) (olds news : List (D × ℕ)) → ReadUpTo remaining at olds news → length olds ≤ at → AreReadWhole remaining olds news
all_read remaining zero [] [] so end = tt
all_read remaining zero [] (new ∷ news) so end = cc
all_read remaining zero (old ∷ olds) news so end = let no : ⊥ = omega (arith, end) in absurd no
all_read remaining (suc at) [] [] so end = tt
all_read remaining (suc at) [] (new ∷ news) so end = absurd so
all_read remaining (suc at) (old ∷ olds) [] so end = absurd so
all_read remaining (suc at) (old ∷ olds) (new ∷ news) so end = (so.0, all_read remaining at olds news so.1 (omega (arith, end)))

-- and then the call was refused as it wrote
pub read_then_written : {D : Type 0} (remaining : D → Option (List ℕ)) (e : Refusal) (olds news : List (D × ℕ)) → AreReadWhole remaining olds news → (e ≡ Memory) ⊎ (e ≡ WriteFault) → ReadInTurn remaining e olds news
read_then_written remaining e [] [] all why = why
read_then_written remaining e [] (new ∷ news) all why = absurd all
read_then_written remaining e (old ∷ olds) [] all why = absurd all
read_then_written remaining e (old ∷ olds) (new ∷ news) all why = inl (all.0, read_then_written remaining e olds news all.1 why)

-- memory ran out before any was read
pub none_read : {D : Type 0} (remaining : D → Option (List ℕ)) (readers : List (D × ℕ)) → ReadInTurn remaining Memory readers readers
none_read remaining [] = inl refl
none_read remaining (reader ∷ readers) = inr (record { whole = λ memory failed. absurd (memory refl); counts = refl }, refl)

-- ---- one file

-- a merge of a file that was read whole is refused
pub unmerged_stops : {D : Type 0} (remaining : D → Option (List ℕ)) (e : Refusal) (reader reader' : D × ℕ) → IsReadWhole remaining reader reader' → IsTrue (is_refusal_of_merge e) → StopsAt remaining e reader reader'
unmerged_stops remaining e reader reader' whole listed = record {
  whole = λ memory failed. (whole.within, whole.end);
  counts = (command_counts (GaveMore (remaining reader.0) (remaining reader'.0)) e reader.1 reader'.1 zero whole.kept (listed_uncounted is_refusal_of_merge e refl refl listed)).0;
}

-- ---- the whole call

-- refused as the first file is read
pub first_unread : {D E : Type 0} (remaining : D → Option (List ℕ)) (contents : E → Option (List ℕ)) (first first' : D × ℕ) (others : List (D × ℕ)) (writer : E × ℕ) (e : Refusal)
    → StopsReading remaining is_refusal_of_reading first first' e → EndsUnmerged remaining contents (first ∷ others) (first' ∷ others) writer writer e
first_unread remaining contents first first' others writer e h = record {
  listed = listed_on_file is_refusal_of_merge e (or_reading is_refusal_of_merge e h.listed);
  reads = inr (record { whole = h.whole; counts = h.counts }, refl);
  unwritten = λ other. refl;
  counts = (reading_counts (GaveMore (remaining first.0) (remaining first'.0)) e first.1 first'.1 writer.1 h.listed h.counts).1;
}

no_write : (e : Refusal) (w : ℕ) → IsTrue (reading_or is_refusal_of_merge e) → CountsWrites e w w
no_write WriteFault w listed = cc
no_write other w listed = refl

-- refused as another file is read or merged
pub others_unmerged : {D E : Type 0} (remaining : D → Option (List ℕ)) (contents : E → Option (List ℕ)) (first first' : D × ℕ) (others others' : List (D × ℕ)) (writer : E × ℕ) (e : Refusal)
    → IsReadWhole remaining first first' → IsTrue (reading_or is_refusal_of_merge e) → ReadInTurn remaining e others others' → EndsUnmerged remaining contents (first ∷ others) (first' ∷ others') writer writer e
others_unmerged remaining contents first first' others others' writer e whole listed turn = record {
  listed = listed_on_file is_refusal_of_merge e listed;
  reads = inl (whole, turn);
  unwritten = λ other. refl;
  counts = no_write e writer.1 listed;
}

-- refused as the whole is written
merged_unwritten : {D E : Type 0} (remaining : D → Option (List ℕ)) (contents : E → Option (List ℕ)) (first first' : D × ℕ) (others others' : List (D × ℕ)) (writer writer' : E × ℕ) (new : Replica) (e : Refusal)
    → IsReadWhole remaining first first' → AreReadWhole remaining others others' → Puts true (Err e) (contents writer.0) (contents writer'.0) new → CountsWrites e writer.1 writer'.1
    → EndsUnmerged remaining contents (first ∷ others) (first' ∷ others') writer writer' e
merged_unwritten remaining contents first first' others others' writer writer' new e whole all put counts =
    let why = writing_is true e (contents writer.0) (contents writer'.0) new put in
    record {
      listed = writing_listed is_refusal_of_merge e why;
      reads = inl (whole, read_then_written remaining e others others' all why);
      unwritten = writing_none true e (contents writer.0) (contents writer'.0) new put;
      counts = counts;
    }

-- all were read, and the whole is written or not
pub all_then_written : {D E : Type 0} (remaining : D → Option (List ℕ)) (contents : E → Option (List ℕ)) (first first' : D × ℕ) (others others' : List (D × ℕ)) (writer writer' : E × ℕ) (new : Replica) (result : Result (Unit {0}) Refusal)
    → IsReadWhole remaining first first' → AreReadWhole remaining others others' → Puts true result (contents writer.0) (contents writer'.0) new → OnOk result (writer'.1 ≡ writer.1) → IfErr result (λ e. CountsWrites e writer.1 writer'.1)
    → EndsMerge remaining contents (first ∷ others) (first' ∷ others') writer writer' result
all_then_written remaining contents first first' others others' writer writer' new (Ok done) whole all put kept counts = record { read = (whole, all); kept = kept }
all_then_written remaining contents first first' others others' writer writer' new (Err e) whole all put kept counts = merged_unwritten remaining contents first first' others others' writer writer' new e whole all put counts
