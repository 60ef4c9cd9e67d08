-- How a reply is written: `ok` and what the step gives, or `refused` and the refusal, each line with its line feed.
use Rattle.std.specs.Prelude.{ℕ, List, ◌++◌, codes, length}
use Rattle.std.specs.Fmt.{decimal}
use Rattle.hex.specs.Hex.{encode_lower}
use Rattle.table_model.specs.Name.{name_text}
use Rattle.table_model.specs.RefusalText.{refusal_text}
use Rattle.table_model.specs.Answer.{AnswerParts, answer_text}
use Rattle.table_model.specs.declared.names.BatchName.{BatchName}
use Rattle.table_model.specs.declared.refusal.Refusal.{Refusal}
use Rattle.replica_store.specs.declared.inserted.Inserted.{Inserted}
use Rattle.replica_store.specs.declared.inserted.Inserted.TheVariants.{New, Already}
use Rattle.cluster_history.specs.declared.reply.Reply.{Reply}
use Rattle.cluster_history.specs.declared.reply.Reply.TheVariants.{Done, Named, Put, Deleted, Sent, File, Answered, Refused}

-- the name that a batch has got
abbrev pub named_text : BatchName → List ℕ
named_text name = codes "ok " ++ (name_text name ++ codes "\n")

-- whether a batch that was put is new
abbrev pub put_text : Inserted → List ℕ
put_text New = codes "ok new\n"
put_text Already = codes "ok already\n"

-- a number: of a message that was made, or how many rows were deleted
abbrev pub number_text : ℕ → List ℕ
number_text number = codes "ok " ++ (decimal number ++ codes "\n")

-- the bytes of a file, two hexadecimal digits for each, in lower case
abbrev pub file_text : List ℕ → List ℕ
file_text bytes = codes "ok " ++ (encode_lower bytes ++ codes "\n")

-- how many rows an answer has, and the answer
abbrev pub answered_text : AnswerParts → List ℕ
answered_text answer = codes "ok " ++ (decimal (length answer.rows) ++ (codes "\n" ++ answer_text answer))

-- a refusal's name and values
abbrev pub refused_text : Refusal → List ℕ
refused_text refusal = codes "refused " ++ (refusal_text refusal ++ codes "\n")

-- the text of a reply
unfoldable pub reply_text_of : Reply → List ℕ
reply_text_of Done = codes "ok\n"
reply_text_of (Named name) = named_text name
reply_text_of (Put inserted) = put_text inserted
reply_text_of (Deleted count) = number_text count
reply_text_of (Sent number) = number_text number
reply_text_of (File bytes) = file_text bytes
reply_text_of (Answered answer) = answered_text answer
reply_text_of (Refused refusal) = refused_text refusal
