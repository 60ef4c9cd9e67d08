-- What an inspection writes: a store's counts, and a line for each column.
use Rattle.std.specs.Prelude.{◌≡◌, ℕ, List, [], ◌∷◌, ◌++◌, codes, Option}
use Rattle.std.specs.Io.KnownBytes.{Appends}
use Rattle.answer_formats.specs.declared.format.ReportForm.{ReportForm}
use Rattle.answer_formats.specs.declared.format.ReportForm.TheVariants.{Text, Json}
use Rattle.replica_store.specs.Segments.{StoreForm}
use Rattle.replica_reports.specs.ColumnFigures.{column_lines}
use Rattle.replica_reports.specs.ColumnTexts.{aligned_lines, line_objects}
use Rattle.replica_reports.specs.Counts.{AreCountsOf, counts_text}
use Rattle.replica_reports.specs.declared.store_counts.StoreCounts.{StoreCounts}

-- the headings of the lines of columns
abbrev pub headings : List (List ℕ)
headings = codes "COLUMN" ∷ codes "TYPE" ∷ codes "NULLS" ∷ codes "VALUES" ∷ codes "LEAST" ∷ codes "GREATEST" ∷ codes "FOR" ∷ codes "DELTA" ∷ codes "RLE" ∷ codes "DICT" ∷ codes "BITS" ∷ []

-- the keys of the objects of columns
abbrev pub keys : List (List ℕ)
keys = codes "column" ∷ codes "type" ∷ codes "nulls" ∷ codes "values" ∷ codes "least" ∷ codes "greatest" ∷ codes "for" ∷ codes "delta" ∷ codes "rle" ∷ codes "dict" ∷ codes "bits" ∷ []

-- the lines of columns, and what ends a report; of an object's members the first two are texts
abbrev pub columns_text : ReportForm → List (List (List ℕ)) → List ℕ
columns_text Text lines = aligned_lines headings lines
columns_text Json lines = line_objects 2 keys lines ++ codes "}\n"

-- the report of a store with these counts
abbrev pub report_text : ReportForm → StoreForm → StoreCounts → List ℕ
report_text form s counts = counts_text form s.replica.schema.name counts ++ columns_text form (column_lines s 0 s.replica.schema.columns)

-- a text is a store's report
abbrev pub Reports : ReportForm → StoreForm → List ℕ → Type 0
Reports form s text = (counts : StoreCounts) × AreCountsOf s.replica.state counts × (text ≡ report_text form s counts)

-- what was written is a store's report
abbrev pub WritesReport : ReportForm → StoreForm → Option (List ℕ) → Option (List ℕ) → Type 0
WritesReport form s before now = (text : List ℕ) × Reports form s text × Appends before now text
