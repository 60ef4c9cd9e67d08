-- The text of a script: the reply to each line that isn't empty, in order.
use Rattle.std.specs.Prelude.{ℕ, cond, nat_lt, List, [], ◌∷◌, ◌++◌, length, Option, Some, None, option_map, Result, Ok, Err}
use Rattle.table_model.specs.Table.{Table, schema_of}
use Rattle.table_model.specs.declared.refusal.Refusal.{Refusal}
use Rattle.table_model.specs.declared.refusal.Refusal.TheVariants.{BadLine, LineTooLong}
use Rattle.cluster_history.specs.Cluster.{ClusterParts, new_cluster, step_of}
use Rattle.cluster_history.specs.Segments.{ClusterForm}
use Rattle.script_lines.specs.Line.{command_of}
use Rattle.lanes_main.specs.ReplyText.{reply_text_of}
use Rattle.cluster_history.specs.Run.{answered}
use Rattle.script_lines.specs.TableWords.{TableWords}
use Rattle.csv_rows.specs.Line.{line_limit}
use Rattle.table_model.specs.Pieces.{pieces}
use Rattle.script_lines.specs.declared.command.Command.{Command}
use Rattle.script_lines.specs.declared.command.Command.TheVariants as commands
use Rattle.cluster_history.specs.declared.reply.Reply.{Reply}
use Rattle.cluster_history.specs.declared.reply.Reply.TheVariants.{Done, Refused}

-- the parts of the cluster, if there is one: no reply tells a coding
abbrev pub parts_in : Option ClusterForm → Option ClusterParts
parts_in cluster = option_map (λ c. c.parts) cluster

-- a table's line makes the cluster, or is refused as BadSchema
abbrev pub founded : TableWords → Result Table Refusal → Reply × Option ClusterParts
founded words (Ok table) = (Done, Some (new_cluster table words.replicas))
founded words (Err e) = (Refused e, None)

-- before there is a table, each other line is BadLine
abbrev pub first_answer : Option Command → Reply × Option ClusterParts
first_answer None = (Refused BadLine, None)
first_answer (Some (commands.Act step)) = (Refused BadLine, None)
first_answer (Some (commands.Table words)) = founded words (schema_of words.table words.columns)

-- a step's reply, and the cluster after it
abbrev pub goes_on : Reply × ClusterParts → Reply × Option ClusterParts
goes_on p = (p.0, Some p.1)

-- once there is a table, a line is a step, or BadLine
abbrev pub later_answer : ClusterParts → Option Command → Reply × Option ClusterParts
later_answer c None = (Refused BadLine, Some c)
later_answer c (Some (commands.Table words)) = (Refused BadLine, Some c)
later_answer c (Some (commands.Act step)) = goes_on (answered (step_of c step) c)

-- the reply to a command, and what there is after it, before a table is made and after
abbrev pub command_answer : Option ClusterParts → Option Command → Reply × Option ClusterParts
command_answer None command = first_answer command
command_answer (Some c) command = later_answer c command

-- the reply to a line that isn't empty, and what there is after it
unfoldable pub line_answer : Option ClusterParts → List ℕ → Reply × Option ClusterParts
line_answer cluster line = cond (nat_lt line_limit (length line)) (Refused LineTooLong, cluster) (command_answer cluster (command_of line))

-- the text of the reply to a line; an empty line has none
abbrev pub line_text : Option ClusterParts → List ℕ → List ℕ
line_text cluster [] = []
line_text cluster (c ∷ cs) = reply_text_of (line_answer cluster (c ∷ cs)).0

-- what there is after a line
abbrev pub after_line : Option ClusterParts → List ℕ → Option ClusterParts
after_line cluster [] = cluster
after_line cluster (c ∷ cs) = (line_answer cluster (c ∷ cs)).1

-- the text of the replies to lines
abbrev pub lines_text : Option ClusterParts → List (List ℕ) → List ℕ
lines_text cluster [] = []
lines_text cluster (line ∷ lines) = line_text cluster line ++ lines_text (after_line cluster line) lines

-- what there is after lines
abbrev pub after_lines : Option ClusterParts → List (List ℕ) → Option ClusterParts
after_lines cluster [] = cluster
after_lines cluster (line ∷ lines) = after_lines (after_line cluster line) lines

-- the text of a script, whose lines are between line feeds
unfoldable pub script_text : List ℕ → List ℕ
script_text input = lines_text None (pieces 10 input)

-- all of a list but its last element
abbrev pub all_but_last : {X : Type 0} → List X → List X
all_but_last [] = []
all_but_last (x ∷ []) = []
all_but_last (x ∷ y ∷ xs) = x ∷ all_but_last (y ∷ xs)

-- the whole lines of what was read: those that a line feed ends
abbrev pub whole_lines : List ℕ → List (List ℕ)
whole_lines read = all_but_last (pieces 10 read)

-- the lines with a text before the first of them
abbrev pub onto_line : List ℕ → List (List ℕ) → List (List ℕ)
onto_line text [] = text ∷ []
onto_line text (line ∷ lines) = (text ++ line) ∷ lines

-- the text that is still to come, after a part of a line, when these bytes follow
unfoldable pub text_from : Option ClusterParts → List ℕ → List ℕ → List ℕ
text_from cluster part bytes = lines_text cluster (onto_line part (pieces 10 bytes))
