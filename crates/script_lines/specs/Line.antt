-- The lines of a script: which are commands, and which steps they ask for.
use Rattle.std.specs.Prelude.{ℕ, suc, length, Bool, true, false, IsTrue, cond, ◌&&◌, nat_le, List, [], ◌∷◌, Option, Some, None, option_map}
use Rattle.std.specs.List.{list_all}
use Rattle.std.specs.Option.{IsSomeAnd}
use Rattle.table_model.specs.Table.{type_named}
use Rattle.table_model.specs.declared.schema.ColType.{ColType}
use Rattle.script_lines.specs.Word.{◌>>=◌, cut, number_of, number_digits, small_number, ordinal_of, name_of, rows_of, coding_of, some_text, file_of}
use Rattle.table_model.specs.Pieces.{pieces}
use Rattle.script_lines.specs.TableWords.{TableWords}
use Rattle.script_lines.specs.Verb.{leading}
use Rattle.script_lines.specs.declared.verb.Verb.{Verb}
use Rattle.script_lines.specs.declared.verb.Verb.TheVariants as verbs
use Rattle.cluster_history.specs.Cluster.{replica_limit}
use Rattle.cluster_history.specs.declared.step.Step.{Step}
use Rattle.cluster_history.specs.declared.step.Step.TheVariants.{Append, Insert, Delete, DeleteWhere, Merge, Ask, Serve, Take, Recode, Open, Export, Query}
use Rattle.script_lines.specs.declared.command.Command.{Command}
use Rattle.script_lines.specs.declared.command.Command.TheVariants.{Table, Act}

-- the replica that a step is asked of, and the words that follow it
unfoldable pub addressed : List ℕ → Option (ℕ × List ℕ)
addressed text = do
  parts ← cut 32 text
  replica ← small_number parts.0
  Some (replica, parts.1)

-- append R ROWS
unfoldable pub append_words : List ℕ → Option Step
append_words text = do
  at ← addressed text
  rows ← rows_of at.1
  Some (Append at.0 rows)

-- insert R O.N ROWS
unfoldable pub insert_words : List ℕ → Option Step
insert_words text = do
  at ← addressed text
  parts ← cut 32 at.1
  name ← name_of parts.0
  rows ← rows_of parts.1
  Some (Insert at.0 name rows)

-- delete R O.N FIRST LAST
unfoldable pub delete_words : List ℕ → Option Step
delete_words text = do
  at ← addressed text
  parts ← cut 32 at.1
  batch ← name_of parts.0
  ordinals ← cut 32 parts.1
  first ← ordinal_of ordinals.0
  last ← ordinal_of ordinals.1
  Some (Delete at.0 (record { batch = batch; ordinal = first }) last)

-- delete where R COND, where COND is the rest of the line
unfoldable pub delete_where_words : List ℕ → Option Step
delete_where_words text = do
  at ← addressed text
  condition ← some_text at.1
  Some (DeleteWhere at.0 condition)

-- merge R Q
unfoldable pub merge_words : List ℕ → Option Step
merge_words text = do
  at ← addressed text
  other ← small_number at.1
  Some (Merge at.0 other)

-- ask R
unfoldable pub ask_words : List ℕ → Option Step
ask_words text = do
  replica ← small_number text
  Some (Ask replica)

-- serve R M
unfoldable pub serve_words : List ℕ → Option Step
serve_words text = do
  at ← addressed text
  message ← small_number at.1
  Some (Serve at.0 message)

-- take R M
unfoldable pub take_words : List ℕ → Option Step
take_words text = do
  at ← addressed text
  message ← small_number at.1
  Some (Take at.0 message)

-- recode R O.N COLUMN VECTOR CODING
unfoldable pub recode_words : List ℕ → Option Step
recode_words text = do
  at ← addressed text
  batch ← cut 32 at.1
  name ← name_of batch.0
  columns ← cut 32 batch.1
  column ← small_number columns.0
  vectors ← cut 32 columns.1
  vector ← small_number vectors.0
  coding ← coding_of vectors.1
  Some (Recode at.0 name column vector coding)

-- open R HEX
unfoldable pub open_words : List ℕ → Option Step
open_words text = do
  at ← addressed text
  file ← file_of at.1
  Some (Open at.0 file)

-- export R
unfoldable pub export_words : List ℕ → Option Step
export_words text = do
  replica ← small_number text
  Some (Export replica)

-- query R SQL, where SQL is the rest of the line
unfoldable pub query_words : List ℕ → Option Step
query_words text = do
  at ← addressed text
  sql ← some_text at.1
  Some (Query at.0 sql)

-- a column: a name that isn't empty, and a type
abbrev pub column_of : List ℕ → List ℕ → Option (List ℕ × ColType)
column_of name word = do
  column ← some_text name
  column_type ← type_named word
  Some (column, column_type)

-- the columns of a table: two words for each
abbrev pub columns_of : List (List ℕ) → Option (List (List ℕ × ColType))
columns_of [] = Some []
columns_of (name ∷ []) = None
columns_of (name ∷ word ∷ words) = column_of name word >>= (λ column. option_map (λ columns. column ∷ columns) (columns_of words))

-- the words of what is left of a line, if anything is left
abbrev pub words_left : Option (List ℕ) → List (List ℕ)
words_left None = []
words_left (Some text) = pieces 32 text

-- how much is left of a line
abbrev pub left_len : Option (List ℕ) → ℕ
left_len None = 0
left_len (Some text) = suc (length text)

-- how many replicas: 1 to number_digits digits, from 1 to replica_limit
unfoldable pub replicas_of : List ℕ → Option ℕ
replicas_of text = number_of number_digits replica_limit text >>= (λ n. cond (nat_le 1 n) (Some n) None)

-- N and NAME of a line that makes a table, and the words that follow them
unfoldable pub table_words : List ℕ → Option (ℕ × List ℕ × List ℕ)
table_words text = do
  parts ← cut 32 text
  replicas ← replicas_of parts.0
  rest ← cut 32 parts.1
  table ← some_text rest.0
  let words : ℕ × List ℕ × List ℕ = (replicas, table, rest.1)
  Some words

-- table N NAME COL TYPE, and further columns
unfoldable pub table_line : List ℕ → Option TableWords
table_line text = do
  words ← table_words text
  columns ← columns_of (pieces 32 words.2)
  Some (record { replicas = words.0; table = words.1; columns = columns })

-- what a verb asks for, with the words that follow it
unfoldable pub words_of : Verb → List ℕ → Option Command
words_of verbs.Table text = option_map Table (table_line text)
words_of verbs.Append text = option_map Act (append_words text)
words_of verbs.Insert text = option_map Act (insert_words text)
words_of verbs.Delete text = option_map Act (delete_words text)
words_of verbs.DeleteWhere text = option_map Act (delete_where_words text)
words_of verbs.Merge text = option_map Act (merge_words text)
words_of verbs.Ask text = option_map Act (ask_words text)
words_of verbs.Serve text = option_map Act (serve_words text)
words_of verbs.Take text = option_map Act (take_words text)
words_of verbs.Recode text = option_map Act (recode_words text)
words_of verbs.Open text = option_map Act (open_words text)
words_of verbs.Export text = option_map Act (export_words text)
words_of verbs.Query text = option_map Act (query_words text)

-- from 20 to 7E, in hexadecimal
abbrev pub is_printable : ℕ → Bool
is_printable c = nat_le 32 c && nat_le c 126

-- the command that a line is, if it is one
unfoldable pub command_of : List ℕ → Option Command
command_of line = cond (list_all is_printable line) (leading line >>= (λ led. words_of led.0 led.1)) None

-- whether the words that follow a verb are kept as they are read
abbrev pub keeps : Verb → Bool
keeps verbs.Table = true
keeps verbs.Append = true
keeps verbs.Insert = true
keeps verbs.DeleteWhere = true
keeps verbs.Open = true
keeps verbs.Query = true
keeps verb = false

-- a line for which memory may be taken to read it: it is printable, and it begins with table, append, insert, delete where, open or query and a space
abbrev pub MayGrow : List ℕ → Type 0
MayGrow line = IsTrue (list_all is_printable line) × IsSomeAnd (leading line) (λ led. IsTrue (keeps led.0))
