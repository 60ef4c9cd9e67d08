-- A text is loaded batch by batch: what is still to come are the rows after the full batches that were loaded.
use Rattle.std.specs.Prelude.{◌≡◌, ℕ, List, [], ◌∷◌, ◌++◌, length, Option, Some, None, Result, Ok, Err}
use Rattle.std.proofs.Common.{refl, sym, ap, subst, ◌∙◌, append_assoc}
use Rattle.std.proofs.lemmas.List.{append-nil}
use Rattle.table_model.specs.State.{Batch}
use Rattle.table_model.specs.Table.{row_limit}
use Rattle.csv_rows.specs.CsvText.{before_rows}
use Rattle.csv_rows.specs.Reading.{Reading, to_come, AsKnown, Gave, NothingToCome, Refuses}
use Rattle.csv_rows.specs.declared.error.CsvError.{CsvError}
use Rattle.csv_rows.specs.declared.error.CsvError.TheVariants.{Refused, BadCsv, LineTooLong}
use Rattle.replica_changes.specs.Loads.{LoadForm}
use Rattle.replica_changes.specs.CsvLoads.{AreFull, rows_of, last_batch, with_batches, LoadsRows, RefusesText, IsNotAdded}

-- full batches were loaded, and the rest of the text is to come
pub record LoadedSoFar (start now : Reading) (before after : Option (List ℕ)) (old new : LoadForm) : Type 0 where
  pub full : List Batch
  pub are_full : AreFull full
  pub loaded : new ≡ with_batches old full
  pub rest : AsKnown (λ bytes left. to_come start bytes ≡ before_rows (rows_of full) (to_come now left)) before after

none_before : (made : Result Batch CsvError) → made ≡ before_rows [] made
none_before (Ok rows) = refl
none_before (Err e) = refl

known_alike : (csv : Reading) (known : Option (List ℕ)) → AsKnown (λ bytes left. to_come csv bytes ≡ before_rows [] (to_come csv left)) known known
known_alike csv None = tt
known_alike csv (Some bytes) = none_before (to_come csv bytes)

pub load_begins : (csv : Reading) (known : Option (List ℕ)) (load : LoadForm) → LoadedSoFar csv csv known known load load
load_begins csv known load = record {
  full = [];
  are_full = tt;
  loaded = λ i. record { schema = load.schema; batches = sym (append-nil load.batches) i };
  rest = known_alike csv known;
}

full-append : (full : List Batch) (rows : Batch) → AreFull full → length rows ≡ row_limit → AreFull (full ++ (rows ∷ []))
full-append [] rows are is = (is, tt)
full-append (b ∷ full) rows are is = (are.0, full-append full rows are.1 is)

rows-append : (full : List Batch) (rows : Batch) → rows_of (full ++ (rows ∷ [])) ≡ rows_of full ++ rows
rows-append [] rows = append-nil rows
rows-append (b ∷ full) rows = ap (λ (x : Batch). b ++ x) (rows-append full rows) ∙ sym (append_assoc b (rows_of full) rows)

before_both : (xs ys : Batch) (made : Result Batch CsvError) → before_rows xs (before_rows ys made) ≡ before_rows (xs ++ ys) made
before_both xs ys (Ok rows) = ap (λ (x : Batch). let made : Result Batch CsvError = Ok x in made) (sym (append_assoc xs ys rows))
before_both xs ys (Err e) = refl

came_next : (start now next : Reading) (full : List Batch) (rows : Batch) (before after later : Option (List ℕ)) → AsKnown (λ bytes left. to_come start bytes ≡ before_rows (rows_of full) (to_come now left)) before after → Gave now next rows after later
    → AsKnown (λ bytes left. to_come start bytes ≡ before_rows (rows_of full ++ rows) (to_come next left)) before later
came_next start now next full rows None after later h k = tt
came_next start now next full rows (Some a) None later h k = absurd h
came_next start now next full rows (Some a) (Some b) None h k = absurd k
came_next start now next full rows (Some a) (Some b) (Some c) h k = h ∙ ap (before_rows (rows_of full)) k ∙ before_both (rows_of full) rows (to_come next c)

loaded_more : (old now next : LoadForm) (full more : List Batch) → now ≡ with_batches old full → next ≡ with_batches now more → next ≡ with_batches old (full ++ more)
loaded_more old now next full more is then =
    then ∙ ap (λ (l : LoadForm). with_batches l more) is ∙ (λ i. record { schema = old.schema; batches = append_assoc old.batches full more i })

one_last : (rows : Batch) → length rows ≡ row_limit → last_batch rows ≡ rows ∷ []
one_last [] is = cc
one_last (row ∷ rows) is = refl

-- a full batch more
pub load_next : (start now next : Reading) (before after later : Option (List ℕ)) (old load more : LoadForm) (rows : Batch) → LoadedSoFar start now before after old load → Gave now next rows after later → more ≡ with_batches load (last_batch rows) → length rows ≡ row_limit
    → LoadedSoFar start next before later old more
load_next start now next before after later old load more rows so gave added is =
    let P : Batch → Type 0 = λ all. AsKnown (λ bytes left. to_come start bytes ≡ before_rows all (to_come next left)) before later in
    record {
      full = so.full ++ (rows ∷ []);
      are_full = full-append so.full rows so.are_full is;
      loaded = loaded_more old load more so.full (rows ∷ []) so.loaded (added ∙ ap (with_batches load) (one_last rows is));
      rest = subst P (sym (rows-append so.full rows)) (came_next start now next so.full rows before after later so.rest gave);
    }

rows_whole : (xs ys : Batch) (made : Result Batch CsvError) → made ≡ Ok [] → before_rows (xs ++ ys) made ≡ Ok (xs ++ ys)
rows_whole xs ys made is = ap (before_rows (xs ++ ys)) is ∙ ap (λ (x : Batch). let rows : Result Batch CsvError = Ok x in rows) (append-nil (xs ++ ys))

-- the last rows
pub load_ends : (start now next : Reading) (before after later : Option (List ℕ)) (old load more : LoadForm) (rows : Batch) → LoadedSoFar start now before after old load → Gave now next rows after later → more ≡ with_batches load (last_batch rows) → NothingToCome next after later
    → LoadsRows start before old more
load_ends start now next None after later old load more rows so gave added none = tt
load_ends start now next (Some a) None later old load more rows so gave added none = absurd so.rest
load_ends start now next (Some a) (Some b) None old load more rows so gave added none = absurd gave
load_ends start now next (Some a) (Some b) (Some c) old load more rows so gave added none =
    let came = came_next start now next so.full rows (Some a) (Some b) (Some c) so.rest gave in (
      rows_of so.full ++ rows,
      so.full ++ last_batch rows,
      came ∙ rows_whole (rows_of so.full) rows (to_come next c) none,
      record { full = so.full; last = rows; are_full = so.are_full; whole = refl; cut = refl },
      loaded_more old load more so.full (last_batch rows) so.loaded added,
    )

refuses_bad : (start now : Reading) (fault : CsvError) (before after : Option (List ℕ)) (full : List Batch) → AsKnown (λ bytes left. to_come start bytes ≡ before_rows (rows_of full) (to_come now left)) before after
    → AsKnown (λ bytes left. to_come now bytes ≡ Err fault) after after → (bytes : List ℕ) → before ≡ Some bytes → to_come start bytes ≡ Err fault
refuses_bad start now fault None after full h k bytes is = cc
refuses_bad start now fault (Some a) None full h k bytes is = absurd h
refuses_bad start now fault (Some a) (Some b) full h k bytes is =
    let same : a ≡ bytes = cc in
    ap (to_come start) (sym same) ∙ h ∙ ap (before_rows (rows_of full)) k

-- a fault of the text
pub load_refused : (start now : Reading) (e : CsvError) (before after : Option (List ℕ)) (old load : LoadForm) → LoadedSoFar start now before after old load → Refuses now e after → RefusesText start e before
load_refused start now (Refused refusal) before after old load so h = tt
load_refused start now (BadCsv line column) None after old load so h = tt
load_refused start now (BadCsv line column) (Some bytes) after old load so h = refuses_bad start now (BadCsv line column) (Some bytes) after so.full so.rest h bytes refl
load_refused start now (LineTooLong line) None after old load so h = tt
load_refused start now (LineTooLong line) (Some bytes) after old load so h = refuses_bad start now (LineTooLong line) (Some bytes) after so.full so.rest h bytes refl

-- what is no fault of it
pub none_refused : (start : Reading) (e : CsvError) (before : Option (List ℕ)) (load : LoadForm) (rows : Batch) → IsNotAdded load rows e → RefusesText start e before
none_refused start e before load rows (refusal, is, some, why) = let P : CsvError → Type 0 = λ x. RefusesText start x before in subst P (sym is) tt
