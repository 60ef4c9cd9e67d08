-- Scripts as histories: once a line has made the table, the lines that ask for steps are a run from its new cluster.
use Rattle.std.specs.Prelude.{◌≡◌, ◌⊎◌, ℕ, cond, nat_lt, List, [], ◌∷◌, ◌++◌, length, codes, Option, Some, None, IsSome}
use Rattle.std.specs.List.{filter_map}
use Rattle.column_file.specs.Files.{canonical_file}
use Rattle.table_model.specs.Operation.{SameOperations, state_of}
use Rattle.table_model.specs.Table.{Table}
use Rattle.table_model.specs.declared.refusal.Refusal.TheVariants.{BadLine, LineTooLong}
use Rattle.cluster_history.specs.Cluster.{ClusterParts, new_cluster, step_of}
use Rattle.cluster_history.specs.History.{Taken, new_taken, taken_of, taken_by, reply_to, replica_numbered, AreAlike}
use Rattle.script_lines.specs.Line.{command_of}
use Rattle.lanes_main.specs.ReplyText.{reply_text_of}
use Rattle.cluster_history.specs.Run.{Run, answered}
use Rattle.csv_rows.specs.Line.{line_limit}
use Rattle.lanes_main.specs.Script.{line_answer, lines_text, after_lines}
use Rattle.script_lines.specs.declared.command.Command.{Command}
use Rattle.script_lines.specs.declared.command.Command.TheVariants as commands
use Rattle.cluster_history.specs.declared.reply.Reply.{Reply}
use Rattle.cluster_history.specs.declared.reply.Reply.TheVariants.{Done, File, Refused}
use Rattle.cluster_history.specs.declared.step.Step.{Step}
use Rattle.cluster_history.specs.declared.step.Step.TheVariants.{Export}

-- the replies to steps, one after another, if memory never runs out
abbrev pub replies_of : ClusterParts → List Step → List Reply
replies_of c [] = []
replies_of c (step ∷ steps) = (answered (step_of c step) c).0 ∷ replies_of (answered (step_of c step) c).1 steps

-- the cluster after those steps
abbrev pub cluster_after : ClusterParts → List Step → ClusterParts
cluster_after c [] = c
cluster_after c (step ∷ steps) = cluster_after (answered (step_of c step) c).1 steps

-- the step that a command asks for, if it is one
abbrev pub step_in : Option Command → Option Step
step_in None = None
step_in (Some (commands.Table words)) = None
step_in (Some (commands.Act step)) = Some step

-- the step that a line asks for: a line that is too long, or is no step's, asks for none
abbrev pub asked_by : List ℕ → Option Step
asked_by line = cond (nat_lt line_limit (length line)) None (step_in (command_of line))

-- the steps that lines ask for, in order
abbrev pub steps_of : List (List ℕ) → List Step
steps_of lines = filter_map asked_by lines

-- the refusal of a line that asks for no step; an empty line has no reply
abbrev pub unasked_text : List ℕ → List ℕ
unasked_text [] = []
unasked_text (c ∷ cs) = reply_text_of (Refused (cond (nat_lt line_limit (length (c ∷ cs))) LineTooLong BadLine))

-- the text of a line and of those after it: of a step the next of the replies, else the refusal
abbrev pub next_text : Option Step → List ℕ → (List Reply → List ℕ) → List Reply → List ℕ
next_text None refusal rest replies = refusal ++ rest replies
next_text (Some step) refusal rest [] = []
next_text (Some step) refusal rest (reply ∷ replies) = reply_text_of reply ++ rest replies

-- what is written for lines whose steps have these replies: for each step the text of its reply, for each other line its refusal
abbrev pub replies_text : List (List ℕ) → List Reply → List ℕ
replies_text [] replies = []
replies_text (line ∷ lines) replies = next_text (asked_by line) (unasked_text line) (replies_text lines) replies

-- one of the lines makes a table at a number of replicas: there is none before it, and these are the lines that follow it
pub record MakesTable (lines : List (List ℕ)) (table : Table) (count : ℕ) (later : List (List ℕ)) : Type 0 where
  pub front : List (List ℕ)
  pub line : List ℕ
  pub parts : lines ≡ front ++ (line ∷ later)
  pub before : after_lines None front ≡ None
  pub made : line_answer None line ≡ (Done, Some (new_cluster table count))

-- a script makes no table, or one of its lines makes it
abbrev pub MakesOneOrNone : Type 0
MakesOneOrNone = (lines : List (List ℕ)) → (after_lines None lines ≡ None) ⊎ ((table : Table) × (count : ℕ) × (later : List (List ℕ)) × MakesTable lines table count later)

-- the steps and their replies are a run
abbrev pub StepsRun : Type 0
StepsRun = (c : ClusterParts) (steps : List Step) → Run c steps (replies_of c steps) (cluster_after c steps)

-- what a script writes after its table's line is the replies of the run of the steps that its later lines ask for
abbrev pub WritesReplies : Type 0
WritesReplies = (lines later : List (List ℕ)) (table : Table) (count : ℕ) (m : MakesTable lines table count later) →
    lines_text None lines ≡ lines_text None m.front ++ (codes "ok\n" ++ replies_text later (replies_of (new_cluster table count) (steps_of later)))

-- and its cluster is the run's
abbrev pub EndsAsRun : Type 0
EndsAsRun = (lines later : List (List ℕ)) (table : Table) (count : ℕ) → MakesTable lines table count later →
    after_lines None lines ≡ Some (cluster_after (new_cluster table count) (steps_of later))

-- what each replica took and each message brings once these lines came after the one that made the table
abbrev pub taken_in : Table → ℕ → List (List ℕ) → Taken
taken_in table count later = taken_by table (new_taken count) (steps_of later) (replies_of (new_cluster table count) (steps_of later))

-- in any two scripts of one table, replicas that took the same are alike
abbrev pub SameInScripts : Type 0
SameInScripts = (lines other_lines later other_later : List (List ℕ)) (table : Table) (count other_count : ℕ) (c d : ClusterParts) (replica other : ℕ) →
    MakesTable lines table count later → MakesTable other_lines table other_count other_later →
    after_lines None lines ≡ Some c → after_lines None other_lines ≡ Some d →
    IsSome (replica_numbered c replica) → IsSome (replica_numbered d other) →
    SameOperations (taken_of (taken_in table count later) replica) (taken_of (taken_in table other_count other_later) other) →
    AreAlike c replica d other

-- in any two scripts of one table, replicas that took the same export the same bytes, the canonical file of the table and the state of what was taken
abbrev pub SameInScriptsExport : Type 0
SameInScriptsExport = (lines other_lines later other_later : List (List ℕ)) (table : Table) (count other_count : ℕ) (c d : ClusterParts) (replica other : ℕ) →
    MakesTable lines table count later → MakesTable other_lines table other_count other_later →
    after_lines None lines ≡ Some c → after_lines None other_lines ≡ Some d →
    IsSome (replica_numbered c replica) → IsSome (replica_numbered d other) →
    SameOperations (taken_of (taken_in table count later) replica) (taken_of (taken_in table other_count other_later) other) →
    (bytes : List ℕ) × (bytes ≡ canonical_file table (state_of (taken_of (taken_in table count later) replica))) ×
    (reply_to c (Export replica) ≡ File bytes) × (reply_to d (Export other) ≡ File bytes)

-- what scripts keep
pub record ScriptLaws : Type 0 where
  pub table : MakesOneOrNone
  pub run : StepsRun
  pub text : WritesReplies
  pub cluster : EndsAsRun
  pub alike : SameInScripts
  pub exports : SameInScriptsExport
