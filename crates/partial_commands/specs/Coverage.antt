-- What is told of a partial answer and of a summary: the table, the query, and which batches were counted, or are held, as runs of their names.
use Rattle.std.specs.Prelude.{ℕ, ◌+◌, ◌/◌, ◌%◌, nat_le, nat_lt, Bool, cond, ◌&&◌, ◌||◌, ◌==◌, List, [], ◌∷◌, ◌++◌, codes, length, map as each}
use Rattle.std.specs.List.{flat_map}
use Rattle.std.specs.Fmt.{decimal}
use Rattle.std.specs.FinSet as set
use Rattle.std.specs.String.{string_bytes}
use Rattle.table_model.specs.Name.{name_text}
use Rattle.table_model.specs.declared.names.BatchName.{BatchName}
use Rattle.catalogue_join.specs.Run.{name_at}
use Rattle.catalogue_join.specs.declared.run.Run.{Run}
use Rattle.answer_formats.specs.Formats.{separated}
use Rattle.answer_formats.specs.declared.format.ReportForm.{ReportForm}
use Rattle.answer_formats.specs.declared.format.ReportForm.TheVariants.{Text, Json}
use Rattle.replica_store.specs.Exchange.{SummaryForm}
use Rattle.partial_answers.specs.Counted.{Names}
use Rattle.partial_answers.specs.declared.partial_answer.PartialAnswer.{PartialAnswer}
use Rattle.partial_file.specs.PartialAnswerBytes.{runs_of}

-- ---- runs of names

-- the last name of a run
abbrev pub last_of : Run → BatchName
last_of r = name_at r.first.origin r.last.0

-- a run as a line: its first name and its last
abbrev pub run_line : Run → List ℕ
run_line r = codes "run " ++ (name_text r.first ++ (codes " " ++ (name_text (last_of r) ++ codes "\n")))

-- a run as a list of JSON: its first name and its last
abbrev pub run_pair : Run → List ℕ
run_pair r = codes "[\"" ++ (name_text r.first ++ (codes "\",\"" ++ (name_text (last_of r) ++ codes "\"]")))

-- the maximal runs of a set of names, in ascending order: a line for each
abbrev pub run_lines : Names → List ℕ
run_lines names = flat_map run_line (runs_of names)

-- runs as a list of JSON
abbrev pub pair_list : List Run → List ℕ
pair_list runs = codes "[" ++ (separated (codes ",") (each run_pair runs) ++ codes "]")

-- the maximal runs of a set of names as a list of JSON
abbrev pub run_pairs : Names → List ℕ
run_pairs names = pair_list (runs_of names)

-- ---- the query

-- a byte as a line shows it: one outside 20 to 7E (hexadecimal) is a space, as the ends of lines and the tabs of a query are
abbrev pub shown_byte : ℕ → ℕ
shown_byte b = cond (nat_le 32 b && nat_le b 126) b 32

-- a digit of a number to base 16
abbrev pub hex_digit : ℕ → ℕ
hex_digit n = cond (nat_lt n 10) (48 + n) (87 + n)

-- whether a byte of a text can't stand in a string of JSON as it is: a control character, a quote and a backslash
abbrev pub is_escaped : ℕ → Bool
is_escaped b = nat_lt b 32 || (b == 34 || b == 92)

-- a byte of a text in a string of JSON: as it is, or by its number
abbrev pub json_byte : ℕ → List ℕ
json_byte b = cond (is_escaped b) (codes "\\u00" ++ (hex_digit (b / 16) ∷ hex_digit (b % 16) ∷ [])) (b ∷ [])

-- a text as a string of JSON, without its quotes
abbrev pub json_text : List ℕ → List ℕ
json_text text = flat_map json_byte text

-- ---- a partial answer

-- its table and its query
abbrev pub table_and_query : ReportForm → List ℕ → List ℕ → List ℕ
table_and_query Text table query = codes "table " ++ (table ++ (codes "\nquery " ++ each shown_byte query))
table_and_query Json table query = codes "{\"table\":\"" ++ (table ++ (codes "\",\"query\":\"" ++ json_text query))

-- how many groups it has, and how many batches were counted
abbrev pub groups_and_batches : ReportForm → ℕ → ℕ → List ℕ
groups_and_batches Text groups batches = codes "\ngroups " ++ (decimal groups ++ (codes "\nbatches " ++ (decimal batches ++ codes "\n")))
groups_and_batches Json groups batches = codes "\",\"groups\":" ++ (decimal groups ++ (codes ",\"batches\":" ++ (decimal batches ++ codes ",\"runs\":")))

-- which batches were counted; as JSON also of which others rows are deleted
abbrev pub held_and_strays : ReportForm → Names → Names → List ℕ
held_and_strays Text held strays = run_lines held
held_and_strays Json held strays = run_pairs held ++ (codes ",\"strays\":" ++ (run_pairs strays ++ codes "}\n"))

-- what is told of a partial answer
abbrev pub partial_answer_coverage : ReportForm → PartialAnswer → List ℕ
partial_answer_coverage form p =
    table_and_query form p.schema.name (string_bytes p.text) ++ (groups_and_batches form (length p.groups.entries) (set.len p.held) ++ held_and_strays form p.held p.strays)

-- ---- a summary

-- its table, and how many batches it names
abbrev pub table_and_batches : ReportForm → List ℕ → ℕ → List ℕ
table_and_batches Text table batches = codes "table " ++ (table ++ (codes "\nbatches " ++ (decimal batches ++ codes "\n")))
table_and_batches Json table batches = codes "{\"table\":\"" ++ (table ++ (codes "\",\"batches\":" ++ (decimal batches ++ codes ",\"runs\":")))

-- which batches it names
abbrev pub names_listed : ReportForm → Names → List ℕ
names_listed Text names = run_lines names
names_listed Json names = run_pairs names ++ codes "}\n"

-- what is told of a summary
abbrev pub summary_coverage : ReportForm → SummaryForm → List ℕ
summary_coverage form s = table_and_batches form s.schema.name (set.len s.names) ++ names_listed form s.names
