-- How many rows a state has and how many of them are live, batch by batch, and the list that tells it.
use Rattle.std.specs.Prelude.{◌≡◌, ℕ, Bool, ◌&&◌, not, nat_lt, List, [], ◌++◌, codes, filter, length, map as each, Option}
use Rattle.std.specs.List.{flat_map}
use Rattle.std.specs.Fmt.{decimal}
use Rattle.std.specs.Io.KnownBytes.{Appends}
use Rattle.std.specs.FinMap as map
use Rattle.std.specs.FinSet as set
use Rattle.table_model.specs.Name.{row_name_cmp, name_text}
use Rattle.table_model.specs.State.{State, Batch, Cells, named_from, named_rows, live_rows}
use Rattle.table_model.specs.declared.names.BatchName.{BatchName}
use Rattle.table_model.specs.declared.names.RowName.{RowName}
use Rattle.answer_formats.specs.declared.format.ReportForm.{ReportForm}
use Rattle.answer_formats.specs.declared.format.ReportForm.TheVariants.{Text, Json}
use Rattle.column_file.specs.Files.{ranges_of}
use Rattle.replica_reports.specs.declared.batch_counts.BatchCounts.{BatchCounts}
use Rattle.replica_reports.specs.declared.store_counts.StoreCounts.{StoreCounts}

-- whether a batch of this many rows has a row with the ordinal that isn't deleted
abbrev pub is_live_at : set.FinSet row_name_cmp → BatchName → ℕ → ℕ → Bool
is_live_at deleted name rows n = nat_lt n rows && not (set.contains deleted (record { batch = name; ordinal = n }))

-- a batch's rows that aren't deleted, with their names
abbrev pub live_rows_of : set.FinSet row_name_cmp → BatchName × Batch → List (RowName × Cells)
live_rows_of deleted e = filter (λ (row : RowName × Cells). not (set.contains deleted row.0)) (named_from e.0 0 e.1)

-- a batch's name, how many rows it has, and how many of them are live
abbrev pub counted : set.FinSet row_name_cmp → BatchName × Batch → BatchCounts
counted deleted e = record { name = e.0; rows = length e.1; live = length (live_rows_of deleted e) }

-- the same of each batch of a state, in ascending order of name
abbrev pub batch_counts : State → List BatchCounts
batch_counts s = each (counted s.deleted) (map.entries s.batches)

-- how many batches, rows, live rows and maximal ranges of deleted rows a state has
pub record AreCountsOf (s : State) (counts : StoreCounts) : Type 0 where
  pub batches : counts.batches ≡ map.len s.batches
  pub rows : counts.rows ≡ length (named_rows s)
  pub live : counts.live ≡ length (live_rows s)
  pub ranges : counts.ranges ≡ length (ranges_of s.deleted)

-- what a list of batches begins with: as text these headings
abbrev pub list_heading : ReportForm → List ℕ → List ℕ
list_heading Text headings = headings
list_heading Json headings = []

-- the line of a batch, with more behind its counts
abbrev pub batch_line : ReportForm → BatchCounts → List ℕ → List ℕ
batch_line Text c more = name_text c.name ++ (codes "," ++ (decimal c.rows ++ (codes "," ++ (decimal c.live ++ (more ++ codes "\n")))))
batch_line Json c more = codes "{\"batch\":\"" ++ (name_text c.name ++ (codes "\",\"rows\":" ++ (decimal c.rows ++ (codes ",\"live\":" ++ (decimal c.live ++ (more ++ codes "}\n"))))))

-- the list of the batches of a state, a line each, in ascending order of name
abbrev pub batch_list : ReportForm → State → List ℕ
batch_list form s = list_heading form (codes "BATCH,ROWS,LIVE\n") ++ flat_map (λ c. batch_line form c []) (batch_counts s)

-- what a report begins with: the name of the table
abbrev pub table_part : ReportForm → List ℕ → List ℕ
table_part Text table = codes "table " ++ (table ++ codes "\n")
table_part Json table = codes "{\"table\":\"" ++ (table ++ codes "\",")

-- how many batches, rows and live rows there are
abbrev pub rows_part : ReportForm → StoreCounts → List ℕ
rows_part Text c = codes "batches " ++ (decimal c.batches ++ (codes "\nrows " ++ (decimal c.rows ++ (codes "\nlive " ++ (decimal c.live ++ codes "\n")))))
rows_part Json c = codes "\"batches\":" ++ (decimal c.batches ++ (codes ",\"rows\":" ++ (decimal c.rows ++ (codes ",\"live\":" ++ (decimal c.live ++ codes ",")))))

-- how many ranges of deleted rows and bytes there are, and what comes before the columns
abbrev pub file_part : ReportForm → StoreCounts → List ℕ
file_part Text c = codes "ranges " ++ (decimal c.ranges ++ (codes "\nbytes " ++ (decimal c.bytes ++ codes "\n\n")))
file_part Json c = codes "\"ranges\":" ++ (decimal c.ranges ++ (codes ",\"bytes\":" ++ (decimal c.bytes ++ codes ",\"columns\":")))

-- a report before its columns
abbrev pub counts_text : ReportForm → List ℕ → StoreCounts → List ℕ
counts_text form table c = table_part form table ++ (rows_part form c ++ file_part form c)

-- a text begins with the name of a table and the counts of its state
abbrev pub BeginsWithCounts : ReportForm → List ℕ → State → List ℕ → Type 0
BeginsWithCounts form table s text = (counts : StoreCounts) × AreCountsOf s counts × ((rest : List ℕ) × (text ≡ counts_text form table counts ++ rest))

-- what was written is such a text
abbrev pub WritesCounts : ReportForm → List ℕ → State → Option (List ℕ) → Option (List ℕ) → Type 0
WritesCounts form table s before now = (text : List ℕ) × BeginsWithCounts form table s text × Appends before now text
