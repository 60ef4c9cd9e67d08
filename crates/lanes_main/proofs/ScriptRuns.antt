-- Line by line: a line that asks for a step is answered by it, and each other line is refused. So the replies are a run's.
use Rattle.std.specs.Prelude.{◌≡◌, ◌⊎◌, ℕ, Bool, true, false, cond, nat_lt, List, [], ◌∷◌, ◌++◌, length, codes, Option, Some, None, Result, Ok, Err}
use Rattle.std.specs.List.{cons_option}
use Rattle.std.proofs.Common.{refl, sym, ap, subst, ◌∙◌, inl, inr, append_assoc}
use Rattle.table_model.specs.Table.{Table, schema_of}
use Rattle.table_model.specs.declared.refusal.Refusal.{Refusal}
use Rattle.table_model.specs.declared.refusal.Refusal.TheVariants.{BadLine, LineTooLong}
use Rattle.cluster_history.specs.Cluster.{ClusterParts, new_cluster, step_of}
use Rattle.script_lines.specs.Line.{command_of}
use Rattle.lanes_main.specs.ReplyText.{reply_text_of}
use Rattle.cluster_history.specs.Run.{Run, answered}
use Rattle.csv_rows.specs.Line.{line_limit}
use Rattle.lanes_main.specs.Script.{founded, first_answer, later_answer, line_answer, line_text, after_line, lines_text, after_lines}
use Rattle.lanes_main.specs.ScriptRun.{replies_of, cluster_after, step_in, steps_of, next_text, replies_text, MakesTable, MakesOneOrNone, StepsRun, WritesReplies, EndsAsRun, SameInScripts, SameInScriptsExport, ScriptLaws}
use Rattle.script_lines.specs.TableWords.{TableWords}
use Rattle.script_lines.specs.Verb.{leading}
use Rattle.script_lines.specs.declared.command.Command.{Command}
use Rattle.script_lines.specs.declared.command.Command.TheVariants as commands
use Rattle.cluster_history.specs.declared.reply.Reply.{Reply}
use Rattle.cluster_history.specs.declared.reply.Reply.TheVariants.{Done, Refused}
use Rattle.cluster_history.specs.declared.step.Step.{Step}
use Rattle.cluster_history.proofs.Histories.{in_histories, histories}

steps_run : StepsRun
steps_run c [] = refl
steps_run c (step ∷ steps) = ((answered (step_of c step) c).1, inl refl, steps_run (answered (step_of c step) c).1 steps)

-- what is written for lines, and what there is after them, is that of the run of their steps
abbrev IsRun : ClusterParts → List (List ℕ) → Type 0
IsRun c lines = (lines_text (Some c) lines ≡ replies_text lines (replies_of c (steps_of lines))) × (after_lines (Some c) lines ≡ Some (cluster_after c (steps_of lines)))

-- the answer to a line that isn't empty, by whether it is too long and which command it is
abbrev answer_by : ClusterParts → Bool → Option Command → Reply × Option ClusterParts
answer_by c long command = cond long (Refused LineTooLong, Some c) (later_answer c command)

abbrev step_by : Bool → Option Command → Option Step
step_by long command = cond long None (step_in command)

abbrev text_by : Bool → List ℕ
text_by long = reply_text_of (Refused (cond long LineTooLong BadLine))

abbrev IsRunBy : ClusterParts → List (List ℕ) → Bool → Option Command → Type 0
IsRunBy c lines long command =
    (reply_text_of (answer_by c long command).0 ++ lines_text (answer_by c long command).1 lines
    ≡ next_text (step_by long command) (text_by long) (replies_text lines) (replies_of c (cons_option (step_by long command) (steps_of lines)))) ×
    (after_lines (answer_by c long command).1 lines ≡ Some (cluster_after c (cons_option (step_by long command) (steps_of lines))))

-- a line that is refused adds its refusal
refused_line : (c : ClusterParts) (lines : List (List ℕ)) (refusal : List ℕ) → IsRun c lines
    → (refusal ++ lines_text (Some c) lines ≡ refusal ++ replies_text lines (replies_of c (steps_of lines))) × (after_lines (Some c) lines ≡ Some (cluster_after c (steps_of lines)))
refused_line c lines refusal h = (ap (λ (t : List ℕ). refusal ++ t) h.0, h.1)

line_run : (c : ClusterParts) (lines : List (List ℕ)) (long : Bool) (command : Option Command) → ((d : ClusterParts) → IsRun d lines) → IsRunBy c lines long command
line_run c lines true command rest = refused_line c lines (reply_text_of (Refused LineTooLong)) (rest c)
line_run c lines false None rest = refused_line c lines (reply_text_of (Refused BadLine)) (rest c)
line_run c lines false (Some (commands.Table words)) rest = refused_line c lines (reply_text_of (Refused BadLine)) (rest c)
line_run c lines false (Some (commands.Act step)) rest =
    let p : Reply × ClusterParts = answered (step_of c step) c in
    (ap (λ (t : List ℕ). reply_text_of p.0 ++ t) (rest p.1).0, (rest p.1).1)

lines_run : (c : ClusterParts) (lines : List (List ℕ)) → IsRun c lines
unfolding line_answer command_of leading
lines_run c [] = (refl, refl)
lines_run c ([] ∷ lines) = lines_run c lines
lines_run c ((b ∷ bs) ∷ lines) = line_run c lines (nat_lt line_limit (length (b ∷ bs))) (command_of (b ∷ bs)) (λ d. lines_run d lines)

pub lines_text-append : (cluster : Option ClusterParts) (lines more : List (List ℕ)) → lines_text cluster (lines ++ more) ≡ lines_text cluster lines ++ lines_text (after_lines cluster lines) more
lines_text-append cluster [] more = refl
lines_text-append cluster (line ∷ lines) more =
    ap (λ (t : List ℕ). line_text cluster line ++ t) (lines_text-append (after_line cluster line) lines more)
    ∙ sym (append_assoc (line_text cluster line) (lines_text (after_line cluster line) lines) (lines_text (after_lines (after_line cluster line) lines) more))

after_lines-append : (cluster : Option ClusterParts) (lines more : List (List ℕ)) → after_lines cluster (lines ++ more) ≡ after_lines (after_lines cluster lines) more
after_lines-append cluster [] more = refl
after_lines-append cluster (line ∷ lines) more = after_lines-append (after_line cluster line) lines more

-- where there is no table, a line makes none or makes one
abbrev Founds : Reply × Option ClusterParts → Type 0
Founds p = (p.1 ≡ None) ⊎ ((table : Table) × (count : ℕ) × (p ≡ (Done, Some (new_cluster table count))))

founds_by : (words : TableWords) (made : Result Table Refusal) → Founds (founded words made)
founds_by words (Ok table) = inr (table, words.replicas, refl)
founds_by words (Err e) = inl refl

founds_first : (command : Option Command) → Founds (first_answer command)
founds_first None = inl refl
founds_first (Some (commands.Act step)) = inl refl
founds_first (Some (commands.Table words)) = founds_by words (schema_of words.table words.columns)

founds_line : (line : List ℕ) → Founds (line_answer None line)
unfolding line_answer
founds_line line =
    elim (nat_lt line_limit (length line)) as (λ long. Founds (cond long (Refused LineTooLong, None) (first_answer (command_of line)))) [
      | true ↦ inl refl
      | false ↦ founds_first (command_of line)
    ]

abbrev OneOrNone : List (List ℕ) → Type 0
OneOrNone lines = (after_lines None lines ≡ None) ⊎ ((table : Table) × (count : ℕ) × (later : List (List ℕ)) × MakesTable lines table count later)

-- a line that makes no table comes before
line_before : (line : List ℕ) (lines : List (List ℕ)) → after_line None line ≡ None → OneOrNone lines → OneOrNone (line ∷ lines)
line_before line lines none (inl rest) = inl (ap (λ o. after_lines o lines) none ∙ rest)
line_before line lines none (inr m) = inr (
  m.0,
  m.1,
  m.2,
  record {
    front = line ∷ m.3.front;
    line = m.3.line;
    parts = ap (λ (rest : List (List ℕ)). line ∷ rest) m.3.parts;
    before = ap (λ o. after_lines o m.3.front) none ∙ m.3.before;
    made = m.3.made;
  },
)

one_or_none : MakesOneOrNone
one_or_none [] = inl refl
one_or_none ([] ∷ lines) = line_before [] lines refl (one_or_none lines)
one_or_none ((b ∷ bs) ∷ lines) =
    elim (founds_line (b ∷ bs)) as (λ _. OneOrNone ((b ∷ bs) ∷ lines)) [
      | inl none ↦ line_before (b ∷ bs) lines none (one_or_none lines)
      | inr made ↦ inr (made.0, made.1, lines, record { front = []; line = b ∷ bs; parts = refl; before = refl; made = made.2 })
    ]

-- the line that makes the table is answered ok
table_line : (line : List ℕ) (c : ClusterParts) → line_answer None line ≡ (Done, Some c) → (line_text None line ≡ codes "ok\n") × (after_line None line ≡ Some c)
unfolding line_answer command_of leading reply_text_of
table_line [] c made = let bad : ◌≡◌ {A = Option ClusterParts} None (Some c) = ap (λ (p : Reply × Option ClusterParts). p.1) made in cc
table_line (b ∷ bs) c made = (ap (λ (p : Reply × Option ClusterParts). reply_text_of p.0) made, ap (λ (p : Reply × Option ClusterParts). p.1) made)

writes : WritesReplies
writes lines later table count m =
    let c : ClusterParts = new_cluster table count in
    let line = table_line m.line c m.made in
    ap (lines_text None) m.parts
    ∙ lines_text-append None m.front (m.line ∷ later)
    ∙ ap (λ o. lines_text None m.front ++ lines_text o (m.line ∷ later)) m.before
    ∙ (λ i. lines_text None m.front ++ (line.0 i ++ lines_text (line.1 i) later))
    ∙ ap (λ (t : List ℕ). lines_text None m.front ++ (codes "ok\n" ++ t)) (lines_run c later).0

ends : EndsAsRun
ends lines later table count m =
    let c : ClusterParts = new_cluster table count in
    ap (after_lines None) m.parts
    ∙ after_lines-append None m.front (m.line ∷ later)
    ∙ ap (λ o. after_lines o (m.line ∷ later)) m.before
    ∙ ap (λ o. after_lines o later) (table_line m.line c m.made).1
    ∙ (lines_run c later).1

some_cluster : (c d : ClusterParts) → Some c ≡ Some d → c ≡ d
some_cluster c d e = cc

-- the cluster of a script is that of the run of its steps
script_run : (lines later : List (List ℕ)) (table : Table) (count : ℕ) (c : ClusterParts) → MakesTable lines table count later → after_lines None lines ≡ Some c →
    Run (new_cluster table count) (steps_of later) (replies_of (new_cluster table count) (steps_of later)) c
script_run lines later table count c m ended =
    let steps = steps_of later in
    let start = new_cluster table count in
    let is : cluster_after start steps ≡ c = some_cluster (cluster_after start steps) c (sym (ends lines later table count m) ∙ ended) in
    let P : ClusterParts → Type 0 = λ x. Run start steps (replies_of start steps) x in
    subst P is (steps_run start steps)

in_scripts : SameInScripts
in_scripts lines other_lines later other_later table count other_count c d replica other m n ended other_ended here there same =
    in_histories table count other_count (steps_of later) (steps_of other_later) (replies_of (new_cluster table count) (steps_of later)) (replies_of (new_cluster table other_count) (steps_of other_later)) c d replica other
    (script_run lines later table count c m ended) (script_run other_lines other_later table other_count d n other_ended) here there same

in_scripts_export : SameInScriptsExport
in_scripts_export lines other_lines later other_later table count other_count c d replica other m n ended other_ended here there same =
    histories.exports table count other_count (steps_of later) (steps_of other_later) (replies_of (new_cluster table count) (steps_of later)) (replies_of (new_cluster table other_count) (steps_of other_later)) c d replica other
    (script_run lines later table count c m ended) (script_run other_lines other_later table other_count d n other_ended) here there same

pub scripts : ScriptLaws
scripts = record { table = one_or_none; run = steps_run; text = writes; cluster = ends; alike = in_scripts; exports = in_scripts_export }
