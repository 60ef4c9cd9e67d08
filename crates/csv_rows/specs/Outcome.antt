-- How a call that reads comma-separated values answers where it may run out of memory.
use Rattle.std.specs.Prelude.{◌≡◌, ◌⊎◌, ◌++◌, List, Result, Ok, Err}
use Rattle.table_model.specs.declared.refusal.Refusal.TheVariants.{Memory}
use Rattle.csv_rows.specs.declared.error.CsvError.{CsvError}
use Rattle.csv_rows.specs.declared.error.CsvError.TheVariants.{Refused}

-- what was read, seen by view, is what is given, or the fault is; or memory ran out
abbrev pub ReadsCsv : {X Y : Type 0} → (X → Y) → Result X CsvError → Result Y CsvError → Type 0
ReadsCsv view (Ok x) given = given ≡ Ok (view x)
ReadsCsv view (Err e) given = (given ≡ Err e) ⊎ (e ≡ Refused Memory)

-- what was read comes after what was there, or the fault is given; or memory ran out
abbrev pub ReadsBehind : {X Y : Type 0} → List Y → Result X CsvError → List Y → Result (List Y) CsvError → Type 0
ReadsBehind {Y = Y} old (Ok done) new given = (more : List Y) × (given ≡ Ok more) × (new ≡ old ++ more)
ReadsBehind old (Err e) new given = (given ≡ Err e) ⊎ (e ≡ Refused Memory)
